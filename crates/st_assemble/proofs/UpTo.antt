-- What is known up to a serial, and one serial more.
use Rattle.std.proofs.Common.{◌≡◌, ◌⊎◌, inl, inr, ℕ, suc, ◌+◌, ◌<◌, ◌≤◌, Bool, true, false, List, [], ◌∷◌, ◌++◌, length, map, Option, Some, None, refl, sym, ◌∙◌, ap, subst, arith}
use Rattle.std.specs.Prelude.{OnOk, Result, Ok, Err}
use Rattle.std.specs.List.{slice_get, AllByRecursion}
use Rattle.std.proofs.lemmas.Bool.{cases_lt}
use Rattle.st_limits.specs.declared.TheConstants.{MAX_POOLS}
use Rattle.st_poolrec.specs.declared.record.PoolRec.{PoolRec}
use Rattle.st_poolrec.specs.Record as pools
use Rattle.st_model.specs.declared.state.PoolState.{PoolState}
use Rattle.st_rack.specs.Device.{Image}
use Rattle.st_rack.specs.Calls.{Devices}
use Rattle.st_image.specs.Bears.{Bears, newest_over}
use Rattle.st_image.specs.Stands.{StandsFor, NoPool, Nothing, Gone}
use Rattle.st_image.specs.Rack.{IsSerial, SerialsRise, NamesDiffer}
use Rattle.st_image.proofs.Unique.{stands_once}
use Rattle.st_judge.specs.declared.rows.FoundRow.{FoundRow}
use Rattle.st_judge.specs.declared.rows.GoneRow.{GoneRow}
use Rattle.st_judge.specs.Verdicts.{IsGone}
use Rattle.st_assemble.specs.Found.{row_of, IsTold, GoneRise}
use Rattle.st_assemble.specs.inner.SoFar.{pool_of, has_name, PoolsUpTo, GoneUpTo}
use Rattle.st_assemble.specs.inner.Told.{IsKnownRow, NoneBetween}
use Rattle.st_assemble.proofs.Rows.{all_and, all_to, map_and, length_and, length_rows, still_at, last_at, none_above, others_same, last_found, rise_and, names_and, no_name}

module _ (devs : Devices) (c : Image) (last p : ℕ) (serial : IsSerial p) (lt : last < p) (between : NoneBetween devs c last p) where
  -- below the serial nothing is new
  pub before : (rows : List FoundRow) (known : PoolsUpTo devs c last rows) (q : ℕ) → IsSerial q → q < p → StandsFor q devs c (pool_of q known.pools)
  before rows known q is less = elim (cases_lt last q) [
    | inl more ↦ subst (λ (o : Option PoolState). StandsFor q devs c o) (sym (none_above last q known.pools known.below more)) (Nothing (between q is more less))
    | inr old ↦ known.each q is old
  ]

  up_to : (P : ℕ → Type 0) (q : ℕ) → q ≤ p → (q < p → P q) → P p → P q
  up_to P q le old new = elim (cases_lt q p) [
    | inl less ↦ old less
    | inr more ↦ let same : p ≡ q = omega (arith, le, more) in subst P same new
  ]

  pub pools_same : (rows : List FoundRow) → StandsFor p devs c None → PoolsUpTo devs c last rows → PoolsUpTo devs c p rows
  pools_same rows none known = record {
    pools = known.pools;
    told = known.told;
    each = λ q is le. up_to (λ r. StandsFor r devs c (pool_of r known.pools)) q le (before rows known q is) (subst (λ (o : Option PoolState). StandsFor p devs c o) (sym (none_above last p known.pools known.below lt)) none);
    rise = known.rise;
    below = all_to (λ (x : PoolState). x.serial ≤ last) (λ (x : PoolState). x.serial ≤ p) (λ x le. omega (arith, le, lt)) known.pools known.below;
    names = known.names;
    few = known.few;
  }

  pub pools_more : (rows : List FoundRow) (row : FoundRow) → IsKnownRow p devs c row → has_name row rows ≡ false → length rows < MAX_POOLS → PoolsUpTo devs c last rows → PoolsUpTo devs c p (rows ++ row ∷ [])
  pools_more rows row one new few known = record {
    pools = known.pools ++ one.pool ∷ [];
    told = (λ i. known.told i ++ one.is i ∷ []) ∙ sym (map_and row_of known.pools one.pool);
    each = λ q is le. up_to (λ r. StandsFor r devs c (pool_of r (known.pools ++ one.pool ∷ []))) q le (λ less. older q is less) newest;
    rise = rise_and last known.pools one.pool known.rise known.below (omega (arith, lt, one.serial)) (subst IsSerial (sym one.serial) serial);
    below = all_and (λ (x : PoolState). x.serial ≤ p) known.pools one.pool (all_to (λ (x : PoolState). x.serial ≤ last) (λ (x : PoolState). x.serial ≤ p) (λ x le. omega (arith, le, lt)) known.pools known.below) (omega (arith, one.serial));
    names = names_and known.pools one.pool known.names others;
    few = fewer;
  }
    where
      older : (q : ℕ) → IsSerial q → q < p → StandsFor q devs c (pool_of q (known.pools ++ one.pool ∷ []))
      older q is less = subst (λ (o : Option PoolState). StandsFor q devs c o) (sym (others_same q known.pools one.pool (λ e. absurd (omega (arith, less, one.serial, e))))) (before rows known q is less)

      newest : StandsFor p devs c (pool_of p (known.pools ++ one.pool ∷ []))
      newest = subst (λ (o : Option PoolState). StandsFor p devs c o) (sym (last_found last p known.pools one.pool known.below lt one.serial)) one.stands

      others : AllByRecursion (λ (y : PoolState). y.name ≡ one.pool.name → ⊥) known.pools
      others = subst (λ (r : FoundRow). AllByRecursion (λ (y : PoolState). y.name ≡ r.name → ⊥) known.pools) one.is (no_name row known.pools (sym (ap (has_name row) known.told) ∙ new))

      fewer : length (known.pools ++ one.pool ∷ []) ≤ MAX_POOLS
      fewer =
          let more = length_and known.pools one.pool in
          let same : length rows ≡ length known.pools = ap length known.told ∙ length_rows row_of known.pools in
          omega (arith, more, same, few)

  none_borne : (q g : ℕ) (rec : PoolRec) → newest_over q devs c ≡ None → Bears q devs g rec c → ⊥
  none_borne q g rec none bears = no_pair (g, pools.record_text rec) (sym none ∙ bears.newest)
    where
      no_pair : (x : ℕ × List ℕ) → None ≡ Some x → ⊥
      no_pair x e = cc

  pub gone_same : (rows : List GoneRow) → ((g : ℕ) (rec : PoolRec) → Bears p devs g rec c → rec.gone ≡ true → ⊥) → GoneUpTo devs c last rows → GoneUpTo devs c p rows
  gone_same rows none known = record {
    each = known.each;
    all = λ q g rec is le bears gone. elim (cases_lt last q) [
      | inl more ↦ elim (cases_lt q p) [
        | inl less ↦ absurd (none_borne q g rec (between q is more less) bears)
        | inr not ↦ let same : q ≡ p = omega (arith, le, not) in absurd (none g rec (subst (λ (r : ℕ). Bears r devs g rec c) same bears) gone)
      ]
      | inr old ↦ known.all q g rec is old bears gone
    ];
    rise = known.rise;
    below = all_to (λ (x : GoneRow). x.serial ≤ last) (λ (x : GoneRow). x.serial ≤ p) (λ x le. omega (arith, le, lt)) rows known.below;
  }

  rise_more : (rows : List GoneRow) (row : GoneRow) → GoneRise rows → AllByRecursion (λ (x : GoneRow). x.serial ≤ last) rows → row.serial ≡ p → GoneRise (rows ++ row ∷ [])
  rise_more [] row rise below is = (tt, tt)
  rise_more (x ∷ xs) row rise below is = (all_and (λ (other : GoneRow). x.serial < other.serial) xs row rise.0 (omega (arith, below.0, lt, is)), rise_more xs row rise.1 below.1 is)

  pub gone_more : (rows : List GoneRow) (row : GoneRow) → row.serial ≡ p → IsGone p devs c row → GoneUpTo devs c last rows → GoneUpTo devs c p (rows ++ row ∷ [])
  gone_more rows row is gone known = record {
    each = all_and (λ (x : GoneRow). IsGone x.serial devs c x) rows row known.each (subst (λ (q : ℕ). IsGone q devs c row) (sym is) gone);
    all = λ q g rec of le bears ended. elim (cases_lt last q) [
      | inl more ↦ elim (cases_lt q p) [
        | inl less ↦ absurd (none_borne q g rec (between q of more less) bears)
        | inr not ↦ let same : p ≡ q = omega (arith, le, not) in record { index = length rows; row = row; of = last_at rows row; serial = is ∙ same }
      ]
      | inr old ↦ let told = known.all q g rec of old bears ended in record { index = told.index; row = told.row; of = still_at rows row told.index told.row told.of; serial = told.serial }
    ];
    rise = rise_more rows row known.rise known.below is;
    below = all_and (λ (x : GoneRow). x.serial ≤ p) rows row (all_to (λ (x : GoneRow). x.serial ≤ last) (λ (x : GoneRow). x.serial ≤ p) (λ x le. omega (arith, le, lt)) rows known.below) (omega (arith, is));
  }

  -- where a pool is known its newest record doesn't say that it is gone
  pub known_not_gone : (row : FoundRow) → IsKnownRow p devs c row → (g : ℕ) (rec : PoolRec) → Bears p devs g rec c → rec.gone ≡ true → ⊥
  known_not_gone row one g rec bears gone = no_pool one.pool (stands_once p devs c None (Some one.pool) (Gone g rec bears gone) one.stands)
    where
      no_pool : (pool : PoolState) → None ≡ Some pool → ⊥
      no_pool pool e = cc

  pub nothing_not_gone : newest_over p devs c ≡ None → (g : ℕ) (rec : PoolRec) → Bears p devs g rec c → rec.gone ≡ true → ⊥
  nothing_not_gone none g rec bears gone = none_borne p g rec none bears

-- what holds anyhow holds after Ok
pub on_any : {T E : Type 0} {P : Type 0} (r : Result T E) → P → OnOk r P
on_any (Ok value) holds = holds
on_any (Err fault) holds = tt

pub on_both : {T E : Type 0} {P Q W : Type 0} (r : Result T E) → OnOk r P → OnOk r Q → (P → Q → W) → OnOk r W
on_both (Ok value) one two both = both one two
on_both (Err fault) one two both = tt
