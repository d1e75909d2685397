use Rattle.std.proofs.Common.{◌≡◌, ℕ, suc, ◌+◌, Some, length, take, refl, ◌∙◌, ap, arith}
use Rattle.std.specs.List.{slice_get}
use Rattle.std.proofs.lemmas.Option.{slice_get_read}
use Rattle.st_slots.specs.Reading.{newer}
use Rattle.st_judge.specs.Candidates.{newest_among}
use Rattle.st_judge.proofs.Newest.{one_newer}
use Rattle.st_judge.proofs.candidates.newest_among.Goals as goal

pub loop-i-preserved : goal.loop-i-preserved
loop-i-preserved c =
    let looks = c.args.looks.now in
    let p = c.args.serial in
    let i = c.loop-i.i in
    let look = c.index-looks-i.result in
    let at : slice_get looks i ≡ Some look = slice_get_read looks (length looks) i look refl c.loop-i-test.true c.index-looks-i.is in
    let after : suc i ≡ i + 1 = omega arith in
    let own = c.newer.ensures ∙ (λ j. newer (c.even_of.ensures j) (c.odd_of.ensures j)) in
    record { newest = c.newer-newest.ensures ∙ (λ j. newer (c.loop-i.invariant.newest j) (own j)) ∙ one_newer p looks i look at ∙ ap (λ (k : ℕ). newest_among p (take k looks)) after }
