-- The checkpoint that is taken fits its slot.
use Rattle.std.proofs.Common.{◌≡◌, inl, inr, ℕ, ◌+◌, ◌*◌, ◌^◌, ◌<◌, ◌≤◌, length, Option, Some, None, sym, ap, subst, arith}
use Rattle.st_rack.specs.Story.{Content}
use Rattle.st_slots.proofs.Texts.{any_fits}
use Rattle.st_deltalog.specs.declared.area.FlexArea.{FlexArea}
use Rattle.st_deltalog.specs.declared.find.Begun.{Begun}
use Rattle.st_deltalog.specs.Log.{Log, sectors_of, checkpoint_in, usable, begun_in}
use Rattle.st_deltalog.specs.Finding.{IsWithinSlot, Fits, log_of, begun_of}
use Rattle.st_deltalog.proofs.Restart.{usable_found, later_taken}

-- The numbers of a log that begins there.
pub record LiesIn (flex : FlexArea) (g : ℕ) (log : Log) : Type 0 where
  pub of_two : log.slot < 2
  pub until : log.start ≤ g
  pub fits : sectors_of log.body ≤ flex.area.slot

module _ (flex : FlexArea) (p g : ℕ) (f : Content) (eight : length flex.area.magic ≡ 8) (small : flex.area.slot ≤ 2 ^ 32) where
  pub begun_lies : (log : Log) → begun_in flex p g f ≡ Some log → LiesIn flex g log
  begun_lies log is =
      let taken = later_taken (usable p g (checkpoint_in flex 0 f)) (usable p g (checkpoint_in flex 1 f)) log is in
      subst (λ (l : Log). LiesIn flex g l) (sym taken.log_is) (elim taken.of_two [
        | inl zero_one ↦
            let found = usable_found p g (checkpoint_in flex 0 f) taken.x zero_one.1 in
            let le = any_fits flex.area 0 f f taken.x eight small found.found in
            record { of_two = omega (arith, zero_one.0); until = found.until; fits = omega (arith, le) }
        | inr one_one ↦
            let found = usable_found p g (checkpoint_in flex 1 f) taken.x one_one.1 in
            let le = any_fits flex.area 1 f f taken.x eight small found.found in
            record { of_two = omega (arith, one_one.0); until = found.until; fits = omega (arith, le) }
      ])

  pub begun_fits : (found : Option Begun) → begun_of found ≡ begun_in flex p g f → Fits flex g found
  begun_fits None is = tt
  begun_fits (Some b) is = (let lies = begun_lies (log_of b) (sym is) in record { of_two = lies.of_two; until = lies.until; fits = lies.fits })
