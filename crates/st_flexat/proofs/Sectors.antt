-- Deltas that are applied sector by sector are those of the log.
use Rattle.std.proofs.Common.{◌≡◌, ℕ, zero, suc, ◌+◌, ◌-◌, ◌*◌, ◌<◌, ◌≤◌, Bool, true, cond, nat_eq, List, [], ◌∷◌, ◌++◌, length, take, drop, Option, Some, None, refl, sym, ap, ◌∙◌, arith}
use Rattle.std.proofs.lemmas.List.{take_at, drop_at}
use Rattle.std.proofs.lemmas.Bool.Decides.{nat_tests}
use Rattle.st_fields.specs.Slot.{Found, sector_of}
use Rattle.st_rack.specs.Story.{Content}
use Rattle.st_rack.specs.Device.{cells}
use Rattle.st_rack.proofs.Cells.{cells-add, length-cells}
use Rattle.st_deltalog.specs.declared.area.FlexArea.{FlexArea}
use Rattle.st_deltalog.specs.Log.{sector_at, delta_in, body_at, put_on, deltas_in}
use Rattle.st_deltalog.proofs.Following.{in_slot}
use Rattle.st_deltalog.proofs.Restart.{deltas_count}
use Rattle.st_flexlog.specs.declared.state.FlexState.{FlexState}
use Rattle.st_flexlog.specs.Applied.{applied_bytes}
use Rattle.st_flexlog.specs.Said.{then_applied, replayed}
use Rattle.st_flexat.specs.inner.Replaying.{after_body, after_sector, sector_in, after_sectors, ReplayedTo}

-- what deltas, the newest first, make of a state that may not be there
abbrev pub replayed_on : ℕ → List (List ℕ) → Option FlexState → Option FlexState
replayed_on c [] state = state
replayed_on c (delta ∷ deltas) state = then_applied (c + suc (length deltas)) delta (replayed_on c deltas state)

-- so it is of deltas that may not be there
abbrev pub all_replayed : ℕ → Option (List (List ℕ)) → Option FlexState → Option FlexState
all_replayed c None state = None
all_replayed c (Some deltas) state = replayed_on c deltas state

pub on_some : (c : ℕ) (deltas : List (List ℕ)) (st : FlexState) → replayed_on c deltas (Some st) ≡ replayed c deltas st
on_some c [] st = refl
on_some c (delta ∷ deltas) st = ap (then_applied (c + suc (length deltas)) delta) (on_some c deltas st)

pub on_none : (c : ℕ) (deltas : List (List ℕ)) → replayed_on c deltas None ≡ None
on_none c [] = refl
on_none c (delta ∷ deltas) = ap (then_applied (c + suc (length deltas)) delta) (on_none c deltas)

-- sector k of bytes that stand on a device
sector_there : (f : Content) (at n k : ℕ) → k < n → sector_in (cells f at (512 * n)) k ≡ cells f (at + 512 * k) 512
sector_there f at n k lt =
    let rest = 512 * n - (512 * k + 512) in
    let size : 512 * n ≡ 512 * k + (512 + rest) = omega arith in
    let more : List ℕ = cells f (at + 512 * k + 512) rest in
    let split : cells f at (512 * n) ≡ cells f at (512 * k) ++ (cells f (at + 512 * k) 512 ++ more) =
    ap (cells f at) size ∙ cells-add f at (512 * k) (512 + rest) ∙ ap (λ (l : List ℕ). cells f at (512 * k) ++ l) (cells-add f (at + 512 * k) 512 rest) in
    ap (λ (l : List ℕ). take 512 (drop (512 * k) l)) split
    ∙ ap (take 512) (drop_at (cells f at (512 * k)) (cells f (at + 512 * k) 512 ++ more) (512 * k) (length-cells f at (512 * k)))
    ∙ take_at (cells f (at + 512 * k) 512) more 512 (length-cells f (at + 512 * k) 512)

module _ (flex : FlexArea) (slot m c : ℕ) (f : Content) where
  -- it holds the delta in sector m + k of the slot
  delta_there : (n k : ℕ) → m + n ≤ flex.area.slot → k < n → sector_of flex.delta (sector_in (cells f (sector_at flex slot m) (512 * n)) k) ≡ delta_in flex slot (m + k) f
  delta_there n k fits lt =
      let place : sector_at flex slot m + 512 * k ≡ sector_at flex slot (m + k) = omega arith in
      in_slot flex slot m c f k (omega arith) (sector_of flex.delta (sector_in (cells f (sector_at flex slot m) (512 * n)) k))
      (ap (sector_of flex.delta) (sector_there f (sector_at flex slot m) n k lt ∙ ap (λ (a : ℕ). cells f a 512) place))

  one_more : (n : ℕ) (body : Option (List ℕ)) (before : Option (List (List ℕ))) (state : Option FlexState) → ((deltas : List (List ℕ)) → before ≡ Some deltas → length deltas ≡ n)
      → after_body (c + suc n) body (all_replayed c before state) ≡ all_replayed c (put_on body before) state
  one_more n None before state count = refl
  one_more n (Some body) None state count = refl
  one_more n (Some body) (Some deltas) state count =
      ap (λ (k : ℕ). then_applied (c + suc k) body (replayed_on c deltas state)) (sym (count deltas refl))

  sectors_are : (bytes : List ℕ) (n : ℕ) (state : Option FlexState) → ((k : ℕ) → k < n → sector_of flex.delta (sector_in bytes k) ≡ delta_in flex slot (m + k) f)
      → after_sectors flex.delta c bytes n state ≡ all_replayed c (deltas_in flex slot m c n f) state
  sectors_are bytes zero state each = refl
  sectors_are bytes (suc n) state each =
      let rest = sectors_are bytes n state (λ k lt. each k (omega arith)) in
      let here = each n (omega arith) in
      (λ i. after_body (c + suc n) (body_at (c + suc n) (here i)) (rest i))
      ∙ one_more n (body_at (c + suc n) (delta_in flex slot (m + n) f)) (deltas_in flex slot m c n f) state (λ deltas e. deltas_count flex slot m c n f deltas e)

  pub replayed_there : (n : ℕ) (state : Option FlexState) → m + n ≤ flex.area.slot
      → after_sectors flex.delta c (cells f (sector_at flex slot m) (512 * n)) n state ≡ all_replayed c (deltas_in flex slot m c n f) state
  replayed_there n state fits = sectors_are (cells f (sector_at flex slot m) (512 * n)) n state (λ k lt. delta_there n k fits lt)

-- what was found in a sector, of this generation, is applied
pub found_applied : (g h : ℕ) (body : List ℕ) (found : Found) (state : Option FlexState) (st : FlexState) → found ≡ Some (h, body) → h ≡ g → state ≡ Some st → after_sector g found state ≡ applied_bytes g body st
found_applied g h body found state st is same there =
    let equal : nat_eq h g ≡ true = grind (arith, nat_tests) in
    (λ i. after_sector g (is i) (there i)) ∙ ap (λ (b : Bool). after_body g (cond b (Some body) None) (Some st)) equal

-- a sector more
pub sector_more : (magic : List ℕ) (c : ℕ) (body bytes sector : List ℕ) (k n : ℕ) (state after : Option FlexState) → ReplayedTo magic c body bytes k state → sector ≡ sector_in bytes k → n ≡ c + suc k
    → after ≡ after_sector n (sector_of magic sector) state → ReplayedTo magic c body bytes (suc k) after
sector_more magic c body bytes sector k n state after before there number is =
    record { first = before.first; said = before.said; is = is ∙ (λ i. after_sector (number i) (sector_of magic (there i)) (before.is i)) }
