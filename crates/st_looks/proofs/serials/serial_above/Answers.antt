use Rattle.std.proofs.Common.{◌≡◌, ℕ, ◌+◌, ◌<◌, Some, Option, length, get_or, unwrap_or, sym, ◌∙◌, ap, subst, arith}
use Rattle.std.specs.List.{slice_get}
use Rattle.std.proofs.lemmas.Option.{slice_get-get_or}
use Rattle.st_looks.specs.declared.look.DevLook.{DevLook}
use Rattle.st_looks.specs.Serials.{header_serial, nearer, IsNextOf}
use Rattle.st_looks.proofs.Naming.{NextUpTo, one_nearer, next_of_all}
use Rattle.st_looks.proofs.serials.serial_above.Goals as goal

pub loop-i-preserved : goal.loop-i-preserved
loop-i-preserved c =
    let looks = c.args.looks.now in
    let i = c.loop-i.i in
    let look = get_or looks i c.index-looks-i.result in
    let at : slice_get looks i ≡ Some look = slice_get-get_or looks i c.index-looks-i.result (omega (arith, c.loop-i-test.true)) in
    record { next = subst (λ (o : Option ℕ). NextUpTo c.args.above looks (i + 1) o) (sym c.nearer-next.ensures) (one_nearer c.args.above looks i look at c.loop-i.next c.loop-i.invariant.next) }

pub returns : goal.returns
returns c = next_of_all c.args.above c.args.looks.now c.loop-i.i c.loop-i.next (omega (arith, c.loop-i-test.false)) c.loop-i.invariant.next
