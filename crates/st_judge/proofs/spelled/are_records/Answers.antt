use Rattle.std.proofs.Common.{◌≡◌, ℕ, ◌+◌, ◌<◌, Some, length, get_or, refl, arith}
use Rattle.std.specs.List.{slice_get}
use Rattle.std.proofs.lemmas.Option.{slice_get_read, slice_get_within}
use Rattle.st_judge.specs.Spelled.{HasSpelled}
use Rattle.st_judge.proofs.Lists.{one_more}
use Rattle.st_judge.proofs.spelled.are_records.Goals as goal

pub loop-i-preserved : goal.loop-i-preserved
loop-i-preserved c =
    let looks = c.args.looks.now in
    let i = c.loop-i.i in
    let look = c.index-looks-i.result in
    let at : slice_get looks i ≡ Some look = slice_get_read looks (length looks) i look refl c.loop-i-test.true c.index-looks-i.is in
    record { before = one_more (HasSpelled c.args.serial) looks i look at c.loop-i.invariant.before (c.in_ok-both.ensures.0 c.if-not-both.false) }

pub returns : goal.returns
returns c = ((λ t k look at. (let lt = slice_get_within c.args.looks.now k look at in c.loop-i.invariant.before k look (omega (arith, lt, c.loop-i-test.false)) at)), (λ are. refl))
