-- A pool may be made of two blank devices.
use Rattle.std.proofs.Common.{◌≡◌, ℕ, zero, suc, Bool, true, false, ◌||◌, cond, bytes_eq, List, [], ◌∷◌, Some, None, Result, Ok, Err, refl, sym, ◌∙◌, ap, subst, arith}
use Rattle.std.specs.Prelude.{IfOk}
use Rattle.std.specs.List.{slice_get}
use Rattle.std.proofs.lemmas.Slice.Eq.{bytes_eq-Decides}
use Rattle.st_model.specs.declared.info.PoolInfo.{PoolInfo}
use Rattle.st_model.specs.declared.info.ShownMode.TheVariants as shows
use Rattle.st_model.specs.declared.state.PoolMode.{PoolMode}
use Rattle.st_model.specs.declared.state.PoolMode.TheVariants.{Up, Down, Stopped, Unsettled, Incomplete}
use Rattle.st_model.specs.declared.state.PoolState.{PoolState}
use Rattle.st_model.specs.Look.{flight_of, gives_name}
use Rattle.st_model.specs.Shown.{pool_info, shown_mode}
use Rattle.st_rack.specs.Device.{Path, DevState, State}
use Rattle.st_rack.specs.Calls.{Devices, names, sectors_of}
use Rattle.st_rack.specs.Parts.{IsSame}
use Rattle.st_memrack.specs.Blank.{IsBlank}
use Rattle.st_commit.specs.Ready.{AreDistinct, IsOf}
use Rattle.st_making.specs.Made.{IsFree, blank}
use Rattle.st_making.proofs.Blank.{blank_free}
use Rattle.st_pool.specs.Makes.{MayTake}

same : (a b : Path) → Some a ≡ Some b → a ≡ b
same a b e = cc

none : (a : Path) → None ≡ Some a → ⊥
none a e = cc

no_sectors : (n : ℕ) → None ≡ Some n → ⊥
no_sectors n e = cc

equal : (a : Path) → bytes_eq a a ≡ true
equal a = (bytes_eq-Decides a a).1 refl

clash : true ≡ false → ⊥
clash e = cc

module _ (a b : Path) (differ : bytes_eq a b ≡ false) where
  apart : a ≡ b → ⊥
  apart e = clash (sym ((bytes_eq-Decides a b).1 e) ∙ differ)

  pub each_of_two : (P : Path → Type 0) → P a → P b → (d : Path) → IsOf (a ∷ b ∷ []) d → P d
  each_of_two P of_a of_b d of = by of.index of.is
    where
      by : (k : ℕ) → slice_get (a ∷ b ∷ []) k ≡ Some d → P d
      by zero at = subst P (same a d at) of_a
      by (suc zero) at = subst P (same b d at) of_b
      by (suc (suc k)) at = absurd (none d at)

  pub own : AreDistinct (a ∷ b ∷ [])
  own i j d at_i at_j = by i j at_i at_j
    where
      by : (i j : ℕ) → slice_get (a ∷ b ∷ []) i ≡ Some d → slice_get (a ∷ b ∷ []) j ≡ Some d → i ≡ j
      by zero zero e f = refl
      by (suc zero) (suc zero) e f = refl
      by zero (suc zero) e f = absurd (apart (same a d e ∙ sym (same b d f)))
      by (suc zero) zero e f = absurd (apart (same a d f ∙ sym (same b d e)))
      by (suc (suc k)) j e f = absurd (none d e)
      by zero (suc (suc k)) e f = absurd (none d f)
      by (suc zero) (suc (suc k)) e f = absurd (none d f)

  abbrev given : Devices
  given = (a, 8192) ∷ (b, 8192) ∷ []

  has_first : sectors_of given a ≡ Some 8192
  has_first = ap (λ (t : Bool). cond t (Some 8192) (cond (bytes_eq b a) (Some 8192) None)) (equal a)

  has_second : sectors_of given b ≡ Some 8192
  has_second = ap (λ (t : Bool). cond t (Some 8192) (cond (bytes_eq b b) (Some 8192) None)) differ ∙ ap (λ (t : Bool). cond t (Some 8192) None) (equal b)

  named : (d : Path) (n : ℕ) → sectors_of given d ≡ Some n → names (a ∷ b ∷ []) d ≡ true
  named d n = by (bytes_eq a d) (bytes_eq b d)
    where
      by : (t u : Bool) → cond t (Some 8192) (cond u (Some 8192) None) ≡ Some n → (t || (u || false)) ≡ true
      by true u e = refl
      by false true e = refl
      by false false e = absurd (no_sectors n e)

  pub may_take : (devs : Devices) (s : State) → ((p : Path) → sectors_of devs p ≡ sectors_of given p) → ((p : Path) → s p ≡ blank) → MayTake 1 (a ∷ b ∷ []) devs s
  may_take devs s devices zeros = record {
    some = omega arith;
    few = omega arith;
    own = own;
    each = λ d of. (8192, devices d ∙ each_of_two (λ (p : Path). sectors_of given p ≡ Some 8192) has_first has_second d of, (omega arith, omega arith), subst (λ (x : DevState). IsFree 1 8192 x) (sym (zeros d)) (blank_free 1 8192));
    all = λ d n has. named d n (sym (devices d) ∙ has);
  }

  pub ok_blank : {D E : Type 0} (devs : D → Devices) (moment : D → ℕ) (state_at : D → ℕ → State) (reads : D → Path → ℕ) (o : Result D E)
      → IfOk o (λ r. IsBlank devs moment state_at reads given r) → IfOk o (λ r. MayTake 1 (a ∷ b ∷ []) (devs r) (state_at r (moment r)))
  ok_blank devs moment state_at reads (Ok r) is = may_take (devs r) (state_at r (moment r)) is.devices (λ p. ap (λ (k : ℕ). state_at r k p) is.clock ∙ is.zeros p)
  ok_blank devs moment state_at reads (Err e) is = tt

-- so it is of a rack on which nothing was done
pub moved : {D : Type 0} (devs : D → Devices) (moment : D → ℕ) (state_at : D → ℕ → State) (reads : D → Path → ℕ) (list : List Path) (r s : D) → IsSame devs moment state_at reads r s
    → MayTake 1 list (devs r) (state_at r (moment r)) → MayTake 1 list (devs s) (state_at s (moment s))
moved devs moment state_at reads list r s same =
    let states : state_at s (moment s) ≡ state_at r (moment r) = (λ i. same.states i (same.clock i)) in
    subst (λ (x : Devices × State). MayTake 1 list x.0 x.1) (λ i. (sym same.devices i, sym states i))

-- a pool that is up has no call in flight that gives a name
pub up_free : (pool : PoolState) (info : PoolInfo) (new : List ℕ) → info ≡ pool_info pool → info.mode ≡ shows.Up → gives_name new (flight_of pool.mode) ≡ false
unfolding pool_info
up_free pool info new is up = by pool.mode (sym (ap (λ (i : PoolInfo). i.mode) is) ∙ up)
  where
    by : (m : PoolMode) → shown_mode m ≡ shows.Up → gives_name new (flight_of m) ≡ false
    by Up e = refl
    by (Down call) e = absurd (cc)
    by Stopped e = refl
    by (Unsettled call) e = absurd (cc)
    by (Incomplete path) e = refl
