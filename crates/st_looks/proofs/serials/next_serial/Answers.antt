use Rattle.std.proofs.Common.{◌≡◌, ℕ, suc, ◌+◌, ◌≤◌, ◌^◌, List, Some, length, take, refl, sym, ◌∙◌, ap, arith}
use Rattle.std.specs.Prelude.{max}
use Rattle.std.specs.List.{slice_get}
use Rattle.std.proofs.lemmas.Option.{slice_get_read}
use Rattle.std.proofs.lemmas.List.{take_all}
use Rattle.st_looks.specs.declared.look.DevLook.{DevLook}
use Rattle.st_looks.specs.Serials.{greatest_in, greatest_among}
use Rattle.st_looks.proofs.Naming.{all_looked, one_greater}
use Rattle.st_looks.proofs.serials.next_serial.Goals as goal

pub loop-i-preserved : goal.loop-i-preserved
loop-i-preserved c =
    let looks = c.args.looks.now in
    let i = c.loop-i.i in
    let look = c.index-looks-i.result in
    let at : slice_get looks i ≡ Some look = slice_get_read looks (length looks) i look refl c.loop-i-test.true c.index-looks-i.is in
    let after : suc i ≡ i + 1 = omega arith in
    record {
      greatest = c.greater-greatest.ensures ∙ (λ j. max (c.loop-i.invariant.greatest j) (c.greatest_in.ensures.value j)) ∙ one_greater looks i look at ∙ ap (λ (k : ℕ). greatest_among (take k looks)) after;
      small = omega (arith, c.greater-greatest.ensures, c.loop-i.invariant.small, c.greatest_in.ensures.small);
    }

pub returns-clause-of_devices : goal.returns-clause-of_devices
returns-clause-of_devices c devs image are =
    let looks = c.args.looks.now in
    let all : take c.loop-i.i looks ≡ looks = take_all c.loop-i.i looks (omega (arith, c.loop-i-test.false)) in
    ap (λ (n : ℕ). n + 1) (c.loop-i.invariant.greatest ∙ ap greatest_among all ∙ all_looked devs image looks are)
