-- Pools and their racks, side by side.
use Rattle.std.proofs.Common.{◌≡◌, ◌⊎◌, inl, inr, ℕ, zero, suc, ◌<◌, Bool, true, false, ◌||◌, cond, eqb, List, [], ◌∷◌, ◌++◌, length, map, Option, Some, None, refl, ◌∙◌, ap, arith}
use Rattle.std.specs.Prelude.{◌==◌, find, not}
use Rattle.std.specs.Option.{option_map}
use Rattle.std.specs.List.{slice_get, list_any, AllByRecursion, IsDistinct}
use Rattle.std.specs.Str.{bytes_eq}
use Rattle.std.proofs.lemmas.Bool.{ne_eqb}
use Rattle.std.proofs.lemmas.List.{append-nil}
use Rattle.st_units.specs.declared.rows.DevRow.{DevRow}
use Rattle.st_model.specs.declared.state.KnownPool.{KnownPool}
use Rattle.st_model.specs.declared.state.PoolState.{PoolState}
use Rattle.st_model.specs.Look.{flight_of, is_started, row_of}
use Rattle.st_model.specs.Parts.{is_used, known, paths_taken}
use Rattle.st_model.specs.Shown.{halted_pools}
use Rattle.st_rack.specs.Device.{Path, State}
use Rattle.st_rack.specs.Calls.{Devices, names, sectors_of}
use Rattle.st_image.specs.Rack.{SerialsRise}
use Rattle.st_image.specs.Survivors as survivors
use Rattle.st_parting.proofs.Newest.{none_some, some_same}
use Rattle.st_parting.proofs.Finding.{pool_of}
use Rattle.st_pool.specs.Halts.{HaltedView, Halts}
use Rattle.st_dividing.specs.Divided.{path_of_row}
use Rattle.st_board.specs.Holds.{Fits, halted_at, stopped_at}

pub item_at : {X : Type 0} (xs : List X) (k : ℕ) → k < length xs → (x : X) × (slice_get xs k ≡ Some x)
item_at [] k lt = absurd (omega arith)
item_at (x ∷ xs) zero lt = (x, refl)
item_at (x ∷ xs) (suc k) lt = item_at xs k (omega (arith, lt))

pub length_map : {X Y : Type 0} (f : X → Y) (xs : List X) → length (map f xs) ≡ length xs
length_map f [] = refl
length_map f (x ∷ xs) = ap suc (length_map f xs)

-- where no pool is started, all are halted
pub all_halted : (pools : List PoolState) → ((k : ℕ) (pool : PoolState) → slice_get pools k ≡ Some pool → is_started pool.mode ≡ false) → halted_pools pools ≡ pools
all_halted [] idle = refl
all_halted (p ∷ ps) idle =
    let rest = all_halted ps (λ k pool at. idle (suc k) pool at) in
    ap (λ (b : Bool). cond (not b) (p ∷ halted_pools ps) (halted_pools ps)) (idle 0 p refl) ∙ ap (λ (l : List PoolState). p ∷ l) rest

-- serials that rise are distinct
others_differ : (n : ℕ) (pools : List PoolState) → AllByRecursion (λ (q : PoolState). n < q.serial) pools → AllByRecursion (λ (m : ℕ). (n == m) ≡ false) (map (λ (q : PoolState). q.serial) pools)
others_differ n [] all = tt
others_differ n (p ∷ ps) all = (ne_eqb n p.serial (λ e. absurd (omega (arith, all.0, e))), others_differ n ps all.1)

pub rise_distinct : (pools : List PoolState) → SerialsRise pools → IsDistinct (λ (a b : ℕ). a == b) (map (λ (q : PoolState). q.serial) pools)
unfolding IsDistinct
rise_distinct [] rise = tt
rise_distinct (p ∷ ps) rise = (others_differ p.serial ps rise.1, rise_distinct ps rise.2)

-- what a rack's rows say of a device
pub rows_same : (devs : Devices) (p : Path) → option_map (λ (row : DevRow). row.sectors) (row_of p (map survivors.row_of devs)) ≡ sectors_of devs p
rows_same [] p = refl
rows_same (d ∷ ds) p = by (bytes_eq d.0 p) (rows_same ds p)
  where
    by : (b : Bool) → option_map (λ (row : DevRow). row.sectors) (row_of p (map survivors.row_of ds)) ≡ sectors_of ds p → option_map (λ (row : DevRow). row.sectors) (cond b (Some (survivors.row_of d)) (row_of p (map survivors.row_of ds))) ≡ cond b (Some d.1) (sectors_of ds p)
    by true rest = refl
    by false rest = rest

-- a known pool with no call in flight uses the devices of its rows
pub used_rows : (p : Path) (pool : PoolState) → flight_of pool.mode ≡ None → is_used p (known pool) ≡ names (map path_of_row pool.devices) p
used_rows p pool none = (λ i. names (map path_of_row pool.devices ++ paths_taken (none i)) p) ∙ ap (λ (l : List Path). names l p) (append-nil (map path_of_row pool.devices))

or_true : (a b : Bool) → (a || b) ≡ true → (a ≡ true) ⊎ (b ≡ true)
or_true true b e = inl refl
or_true false b e = inr e

or_second : (a b : Bool) → b ≡ true → (a || b) ≡ true
or_second true b e = refl
or_second false b e = e

pub any_known : (P : KnownPool → Bool) (pools : List PoolState) → list_any P (map known pools) ≡ true → (k : ℕ) × (pool : PoolState) × (slice_get pools k ≡ Some pool) × (P (known pool) ≡ true)
any_known P [] e = absurd (cc)
any_known P (p ∷ ps) e = elim (or_true (P (known p)) (list_any P (map known ps)) e) [
  | inl here ↦ (0, p, refl, here)
  | inr later ↦ let rest = any_known P ps later in (suc rest.0, rest.1, rest.2, rest.3)
]

pub known_any : (P : KnownPool → Bool) (pools : List PoolState) (k : ℕ) (pool : PoolState) → slice_get pools k ≡ Some pool → P (known pool) ≡ true → list_any P (map known pools) ≡ true
known_any P [] k pool at is = absurd (none_some pool at)
known_any P (p ∷ ps) zero pool at is = ap (λ (b : Bool). b || list_any P (map known ps)) (ap (λ (q : PoolState). P (known q)) (some_same p pool at) ∙ is)
known_any P (p ∷ ps) (suc k) pool at is = or_second (P (known p)) (list_any P (map known ps)) (known_any P ps k pool at is)

-- where some pool of a list has the serial, one is found
pub serial_found : (q : ℕ) (pools : List PoolState) → list_any (λ (pool : KnownPool). pool.serial == q) (map known pools) ≡ true → (pool : PoolState) × (pool_of q pools ≡ Some pool)
serial_found q [] e = absurd (cc)
serial_found q (p ∷ ps) e = by (eqb p.serial q) e (serial_found q ps)
  where
    by : (b : Bool) → (b || list_any (λ (pool : KnownPool). pool.serial == q) (map known ps)) ≡ true → (list_any (λ (pool : KnownPool). pool.serial == q) (map known ps) ≡ true → (pool : PoolState) × (pool_of q ps ≡ Some pool)) → (pool : PoolState) × (cond b (Some p) (pool_of q ps) ≡ Some pool)
    by true e later = (p, refl)
    by false e later = later e

-- where each pool fails the test, none is found
pub none_found : {X : Type 0} (P : X → Bool) (xs : List X) → ((k : ℕ) (x : X) → slice_get xs k ≡ Some x → P x ≡ false) → find P xs ≡ None
none_found P [] each = refl
none_found P (x ∷ xs) each = ap (λ (b : Bool). cond b (Some x) (find P xs)) (each 0 x refl) ∙ none_found P xs (λ k y at. each (suc k) y at)

module _ {D : Type 0} (devs : D → Devices) (moment : D → ℕ) (state_at : D → ℕ → State) where
  pub fits_all : (q : ℕ) (pools : List PoolState) (parts : List (HaltedView D)) → length parts ≡ length pools → ((k : ℕ) (pool : PoolState) (h : HaltedView D) → slice_get pools k ≡ Some pool → slice_get parts k ≡ Some h → Halts devs moment state_at pool h)
      → Fits devs moment state_at (stopped_at q pools) (halted_at q parts)
  fits_all q [] [] size halts = tt
  fits_all q [] (h ∷ hs) size halts = absurd (omega (arith, size))
  fits_all q (p ∷ ps) [] size halts = absurd (omega (arith, size))
  fits_all q (p ∷ ps) (h ∷ hs) size halts = by (eqb p.serial q) (eqb h.serial q) refl refl (fits_all q ps hs (omega (arith, size)) (λ k pool x at_pool at_x. halts (suc k) pool x at_pool at_x))
    where
      here : Halts devs moment state_at p h
      here = halts 0 p h refl refl

      by : (a b : Bool) → eqb p.serial q ≡ a → eqb h.serial q ≡ b → Fits devs moment state_at (stopped_at q ps) (halted_at q hs) → Fits devs moment state_at (cond a (Some p) (stopped_at q ps)) (cond b (Some h) (halted_at q hs))
      by true true e f rest = here
      by false false e f rest = rest
      by true false e f rest = absurd (differ (ap (λ (n : ℕ). eqb n q) here.serial ∙ e) f)
        where
          differ : eqb h.serial q ≡ true → eqb h.serial q ≡ false → ⊥
          differ t u = clash (eqb h.serial q) t u
            where
              clash : (b : Bool) → b ≡ true → b ≡ false → ⊥
              clash b t u = cc
      by false true e f rest = absurd (clash (eqb h.serial q) f (ap (λ (n : ℕ). eqb n q) here.serial ∙ e))
        where
          clash : (b : Bool) → b ≡ true → b ≡ false → ⊥
          clash b t u = cc

-- what is so of each pool beside its rack is so of both at each serial
pub pairs_all : {D : Type 0} (F : Option PoolState → Option (HaltedView D) → Type 0) → F None None → (q : ℕ) (pools : List PoolState) (parts : List (HaltedView D)) → length parts ≡ length pools
    → ((k : ℕ) (pool : PoolState) (h : HaltedView D) → slice_get pools k ≡ Some pool → slice_get parts k ≡ Some h → (h.serial ≡ pool.serial) × F (Some pool) (Some h)) → F (stopped_at q pools) (halted_at q parts)
pairs_all F none q [] [] size each = none
pairs_all F none q [] (h ∷ hs) size each = absurd (omega (arith, size))
pairs_all F none q (p ∷ ps) [] size each = absurd (omega (arith, size))
pairs_all F none q (p ∷ ps) (h ∷ hs) size each = by (eqb p.serial q) (eqb h.serial q) refl refl (each 0 p h refl refl) (pairs_all F none q ps hs (omega (arith, size)) (λ k pool x at_pool at_x. each (suc k) pool x at_pool at_x))
  where
    clash : (b : Bool) → b ≡ true → b ≡ false → ⊥
    clash b t u = cc

    by : (a b : Bool) → eqb p.serial q ≡ a → eqb h.serial q ≡ b → (h.serial ≡ p.serial) × F (Some p) (Some h) → F (stopped_at q ps) (halted_at q hs) → F (cond a (Some p) (stopped_at q ps)) (cond b (Some h) (halted_at q hs))
    by true true e f here rest = here.1
    by false false e f here rest = rest
    by true false e f here rest = absurd (clash (eqb h.serial q) (ap (λ (n : ℕ). eqb n q) here.0 ∙ e) f)
    by false true e f here rest = absurd (clash (eqb h.serial q) f (ap (λ (n : ℕ). eqb n q) here.0 ∙ e))
