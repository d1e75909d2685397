-- What is found by following a log is what it says.
use Rattle.std.proofs.Common.{◌≡◌, ℕ, suc, ◌+◌, ◌-◌, ◌*◌, ◌/◌, ◌<◌, ◌≤◌, List, [], length, Option, Some, None, refl, sym, ap, ◌∙◌, subst, arith}
use Rattle.st_rack.specs.Story.{Content}
use Rattle.st_rack.specs.Device.{cells}
use Rattle.st_rack.proofs.Cells.{length-cells}
use Rattle.st_deltalog.specs.declared.area.FlexArea.{FlexArea}
use Rattle.st_deltalog.specs.declared.area.Tail.{Tail}
use Rattle.st_deltalog.specs.declared.find.Begun.{Begun}
use Rattle.st_deltalog.specs.Log.{Log, sectors_of, sector_at, deltas_in, with_deltas, followed, begun_in, log_at}
use Rattle.st_deltalog.specs.Finding.{log_of}
use Rattle.st_deltalog.proofs.Following.{none_at, none_behind}
use Rattle.st_deltalog.proofs.Restart.{deltas_count}
use Rattle.st_flexlog.specs.declared.state.FlexState.{FlexState}
use Rattle.st_flexlog.specs.State.{state_of}
use Rattle.st_flexlog.specs.Said.{replayed, Says, IsSaid}
use Rattle.st_flexlog.proofs.Saying.{says_one}
use Rattle.st_flexat.specs.FlexAt.{IsFlexAt}
use Rattle.st_flexat.specs.inner.Replaying.{after_sectors, ReplayedTo}
use Rattle.st_flexat.specs.inner.Following.{IsOfLog, IsFollowed}
use Rattle.st_flexat.proofs.Sectors.{replayed_on, all_replayed, on_some, on_none, replayed_there}

no_state : (st : FlexState) → None ≡ Some st → ⊥
no_state st e = cc

no_log : (log : Log) → None ≡ Some log → ⊥
no_log log e = cc

some_log : (a b : Log) → Some a ≡ Some b → a ≡ b
some_log a b e = cc

some_state : (a b : FlexState) → Some a ≡ Some b → a ≡ b
some_state a b e = cc

-- the checkpoint of a log that says something says something itself
said_first : (c : ℕ) (body : List ℕ) (deltas : List (List ℕ)) (st : FlexState) → (says : Says c body deltas st) → Says c body [] (state_of says.rec)
said_first c body deltas st says = record { rec = says.rec; spelled = says.spelled; replays = refl }

-- a state after deltas is said with them
said_after : (c : ℕ) (body : List ℕ) (deltas : List (List ℕ)) (first : Option FlexState) (st : FlexState) → IsSaid c body [] first → replayed_on c deltas first ≡ Some st → Says c body deltas st
said_after c body deltas None st said is = absurd (no_state st (sym (on_none c deltas) ∙ is))
said_after c body deltas (Some before) st said is =
    let same : state_of said.rec ≡ before = some_state (state_of said.rec) before said.replays in
    record { rec = said.rec; spelled = said.spelled; replays = ap (replayed c deltas) same ∙ sym (on_some c deltas before) ∙ is }

-- and no other
after_said : (c : ℕ) (body : List ℕ) (deltas : List (List ℕ)) (first : Option FlexState) (st : FlexState) → IsSaid c body [] first → Says c body deltas st → replayed_on c deltas first ≡ Some st
after_said c body deltas None st said says = absurd (said (state_of says.rec) (said_first c body deltas st says))
after_said c body deltas (Some before) st said says =
    let same : before ≡ state_of says.rec = says_one c body [] before (state_of says.rec) said (said_first c body deltas st says) in
    on_some c deltas before ∙ ap (replayed c deltas) same ∙ says.replays

module _ (flex : FlexArea) (b : Begun) (g : ℕ) (f : Content) where
  abbrev m : ℕ
  m = sectors_of b.body

  abbrev n : ℕ
  n = g - b.generation

  abbrev deltas : Option (List (List ℕ))
  deltas = deltas_in flex b.slot m b.generation n f

  pub too_many : m ≤ flex.area.slot → flex.area.slot - m < n → IsFollowed flex b g f None
  too_many fits more log st is says =
      let none = none_at flex b.slot m b.generation f (flex.area.slot - m) n more (none_behind flex b.slot m b.generation f (b.generation + suc (flex.area.slot - m)) (flex.area.slot - m) (omega arith)) in
      no_log log (sym (ap (with_deltas (log_of b)) none) ∙ is)

  module _ (first : Option FlexState) (said : IsSaid b.generation b.body [] first) where
    of_none : (there : Option (List (List ℕ))) → None ≡ all_replayed b.generation there first → IsOfLog flex (with_deltas (log_of b) there) None
    of_none None is log st e says = no_log log e
    of_none (Some ds) is log st e says =
        let whole : Log = record { slot = b.slot; start = b.generation; body = b.body; deltas = ds } in
        let here : Says b.generation b.body ds st = subst (λ (l : Log). Says l.start l.body l.deltas st) (sym (some_log whole log e)) says in
        no_state st (is ∙ after_said b.generation b.body ds first st said here)

    of_some : (there : Option (List (List ℕ))) (st : FlexState) → ((ds : List (List ℕ)) → there ≡ Some ds → length ds ≡ n) → b.slot < 2 → m + n ≤ flex.area.slot
        → Some st ≡ all_replayed b.generation there first → IsOfLog flex (with_deltas (log_of b) there) (Some (st, record { slot = b.slot; next = m + n }))
    of_some None st count two fits is = absurd (no_state st (sym is))
    of_some (Some ds) st count two fits is =
        let size = count ds refl in
        record {
          log = record { slot = b.slot; start = b.generation; body = b.body; deltas = ds };
          is = refl;
          says = said_after b.generation b.body ds first st said (sym is);
          tail = record { in_slot = refl; behind = ap (λ (k : ℕ). m + k) size };
          of_two = two;
          within = fits;
        }

    pub nothing_followed : (bytes : List ℕ) → m + n ≤ flex.area.slot → bytes ≡ cells f (sector_at flex b.slot m) (512 * n) → None ≡ after_sectors flex.delta b.generation bytes n first → IsFollowed flex b g f None
    nothing_followed bytes fits are is =
        of_none deltas (is ∙ ap (λ (l : List ℕ). after_sectors flex.delta b.generation l n first) are ∙ replayed_there flex b.slot m b.generation f n first fits)

    pub state_followed : (bytes : List ℕ) (st : FlexState) → b.slot < 2 → m + n ≤ flex.area.slot → bytes ≡ cells f (sector_at flex b.slot m) (512 * n) → Some st ≡ after_sectors flex.delta b.generation bytes n first
        → IsFollowed flex b g f (Some (st, record { slot = b.slot; next = m + n }))
    state_followed bytes st two fits are is =
        of_some deltas st (λ ds e. deltas_count flex b.slot m b.generation n f ds e) two fits
        (is ∙ ap (λ (l : List ℕ). after_sectors flex.delta b.generation l n first) are ∙ replayed_there flex b.slot m b.generation f n first fits)

  -- ---- the sectors behind the checkpoint are read

  module _ (bytes : List ℕ) (sector count next : ℕ) (next_is : next ≡ m) (count_is : count ≡ n) (fits : next + count ≤ flex.area.slot) (there : sector ≡ flex.area.at + b.slot * flex.area.slot + next)
      (are : bytes ≡ cells f (512 * sector) (512 * count)) where
    place_is : 512 * sector ≡ sector_at flex b.slot m
    place_is = omega (arith, next_is, there)

    bytes_are : bytes ≡ cells f (sector_at flex b.slot m) (512 * n)
    bytes_are = are ∙ (λ i. cells f (place_is i) (512 * count_is i))

    size : length bytes / 512 ≡ n
    size = omega (arith, ap length bytes_are, length-cells f (sector_at flex b.slot m) (512 * n))

    pub nothing_read : ReplayedTo flex.delta b.generation b.body bytes (length bytes / 512) None → IsFollowed flex b g f None
    nothing_read read = nothing_followed read.first read.said bytes (omega (arith, next_is, count_is, fits)) bytes_are (read.is ∙ ap (λ (k : ℕ). after_sectors flex.delta b.generation bytes k read.first) size)

    pub state_read : (st : FlexState) → b.slot < 2 → ReplayedTo flex.delta b.generation b.body bytes (length bytes / 512) (Some st) → IsFollowed flex b g f (Some (st, record { slot = b.slot; next = next + count }))
    state_read st two read =
        let tail : m + n ≡ next + count = omega (arith, next_is, count_is) in
        subst (λ (k : ℕ). IsFollowed flex b g f (Some (st, record { slot = b.slot; next = k }))) tail
        (state_followed read.first read.said bytes st two (omega (arith, next_is, count_is, fits)) bytes_are (read.is ∙ ap (λ (k : ℕ). after_sectors flex.delta b.generation bytes k read.first) size))

-- what the log that is taken says is what the device says
pub nothing_at : (flex : FlexArea) (p g : ℕ) (f : Content) → None ≡ begun_in flex p g f → IsFlexAt flex p g f None
unfolding log_at
nothing_at flex p g f none st there = no_log there.log (ap (followed flex g f) none ∙ there.is)

pub found_at : (flex : FlexArea) (p g : ℕ) (f : Content) (b : Begun) (found : Option (FlexState × Tail)) → Some (log_of b) ≡ begun_in flex p g f → IsFollowed flex b g f found → IsFlexAt flex p g f found
unfolding log_at
found_at flex p g f b None begins is = λ st there. is there.log st (ap (followed flex g f) begins ∙ there.is) there.says
found_at flex p g f b (Some x) begins is =
    record {
      at = record { log = is.log; is = sym (ap (followed flex g f) begins) ∙ is.is; says = is.says };
      tail = is.tail;
      of_two = is.of_two;
      within = is.within;
    }
