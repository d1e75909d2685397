-- Why a serial is the least that breaks a rule.
use Rattle.std.proofs.Common.{◌≡◌, inl, inr, ℕ, suc, ◌<◌, ◌≤◌, Bool, true, List, [], ◌∷◌, length, map, Option, Some, None, refl, sym, ◌∙◌, ap, subst, arith}
use Rattle.std.specs.Prelude.{Result, Ok, Err}
use Rattle.std.specs.List.{slice_get, AllByRecursion}
use Rattle.st_limits.specs.declared.TheConstants.{MAX_POOLS}
use Rattle.st_model.specs.declared.state.PoolState.{PoolState}
use Rattle.st_rack.specs.Device.{Image}
use Rattle.st_rack.specs.Calls.{Devices}
use Rattle.st_image.specs.Stands.{StandsFor}
use Rattle.st_image.specs.Rack.{IsSerial, SerialsRise, IsKnown, KnownBelow, Breaks, IsForeign}
use Rattle.st_image.proofs.Engine.{breaks_none}
use Rattle.st_judge.specs.declared.rows.FoundRow.{FoundRow}
use Rattle.st_assemble.specs.declared.fault.FoundFault.{FoundFault}
use Rattle.st_assemble.specs.declared.fault.FoundFault.TheVariants.{Foreign}
use Rattle.st_assemble.specs.Found.{row_of}
use Rattle.st_assemble.specs.inner.SoFar.{pool_of, has_name, PoolsUpTo}
use Rattle.st_assemble.specs.inner.Told.{IsKnownRow, NoneBetween, StandsForNothing}
use Rattle.st_assemble.proofs.Rows.{all_at, all_by, length_rows, a_name, own_found}
use Rattle.st_assemble.proofs.UpTo.{before}

module _ (devs : Devices) (c : Image) where
  -- pools of rising serials below this one
  known_below : (p : ℕ) (pools : List PoolState) → SerialsRise pools → AllByRecursion (λ (x : PoolState). x.serial < p) pools → AllByRecursion (λ (x : PoolState). StandsFor x.serial devs c (Some x)) pools
      → KnownBelow devs c p (map (λ (x : PoolState). x.serial) pools)
  known_below p [] rise below stand = tt
  known_below p (x ∷ xs) rise below stand = (rise.0, below.0, (x, stand.0), higher xs rise.1, known_below p xs rise.2 below.1 stand.1)
    where
      higher : (ys : List PoolState) → AllByRecursion (λ (q : PoolState). x.serial < q.serial) ys → AllByRecursion (λ (r : ℕ). x.serial < r) (map (λ (y : PoolState). y.serial) ys)
      higher [] all = tt
      higher (y ∷ ys) all = (all.0, higher ys all.1)

module _ (devs : Devices) (c : Image) (last p : ℕ) (serial : IsSerial p) (lt : last < p) (between : NoneBetween devs c last p) (rows : List FoundRow) (known : PoolsUpTo devs c last rows) where
  least : (q : ℕ) → IsSerial q → q < p → Breaks devs c q → ⊥
  least q is less = breaks_none devs c known.pools known.rise known.names known.few q (λ r of le. before devs c last p serial lt between rows known r of (omega (arith, le, less))) is

  pub nothing_stands : StandsForNothing p devs c → IsForeign devs c p
  nothing_stands none = record { serial = serial; breaks = inl none; least = least }

  below_p : (k : ℕ) (x : PoolState) → slice_get known.pools k ≡ Some x → x.serial < p
  below_p k x at = let le = all_at (λ (y : PoolState). y.serial ≤ last) known.pools k x known.below at in omega (arith, le, lt)

  stands_at : (k : ℕ) (x : PoolState) → slice_get known.pools k ≡ Some x → StandsFor x.serial devs c (Some x)
  stands_at k x at =
      let own = own_found known.pools k x known.rise at in
      subst (λ (o : Option PoolState). StandsFor x.serial devs c o) own.1 (before devs c last p serial lt between rows known x.serial own.0 (below_p k x at))

  pub name_taken : (row : FoundRow) → IsKnownRow p devs c row → has_name row rows ≡ true → IsForeign devs c p
  name_taken row one taken =
      let other = a_name row known.pools (sym (ap (has_name row) known.told) ∙ taken) in
      let own = own_found known.pools other.0 other.1 known.rise other.2 in
      record {
        serial = serial;
        breaks = inr (inl (one.pool, other.1.serial, other.1, own.0, below_p other.0 other.1 other.2, one.stands, stands_at other.0 other.1 other.2, other.3 ∙ ap (λ (r : FoundRow). r.name) one.is));
        least = least;
      }

  pub too_many : (row : FoundRow) → IsKnownRow p devs c row → MAX_POOLS ≤ length rows → IsForeign devs c p
  too_many row one many = record {
    serial = serial;
    breaks = inr (inr (
      (one.pool, one.stands),
      (
        map (λ (x : PoolState). x.serial) known.pools,
        count,
        known_below devs c p known.pools known.rise (all_by (λ (x : PoolState). x.serial < p) known.pools below_p) (all_by (λ (x : PoolState). StandsFor x.serial devs c (Some x)) known.pools stands_at),
      ),
    ));
    least = least;
  }
    where
      count : length (map (λ (x : PoolState). x.serial) known.pools) ≡ MAX_POOLS
      count =
          let all = length_rows (λ (x : PoolState). x.serial) known.pools in
          let same : length rows ≡ length known.pools = ap length known.told ∙ length_rows row_of known.pools in
          let few = known.few in
          omega (arith, all, same, many, few)

pub foreign_same : {T : Type 0} (a b : ℕ) (x : Result T FoundFault) → x ≡ Err (Foreign a) → x ≡ Err (Foreign b) → a ≡ b
foreign_same a b x one two = cc

pub fault_same : {T : Type 0} (x y : FoundFault) (r : Result T FoundFault) → r ≡ Err x → r ≡ Err y → x ≡ y
fault_same x y r one two = cc
