use Rattle.std.proofs.Common.{◌≡◌, false, sym, ◌∙◌}
use Rattle.std.proofs.lemmas.Bool.{true≢false}
use Rattle.st_flexrec.specs.Conditions.{IsFlexRec, is_within}
use Rattle.st_flexrec.proofs.ReadingLemmas.{invalid}
use Rattle.st_flexrec.proofs.record.decode.Goals as goal

pub returns-then-not-is_within : goal.returns-then-not-is_within
returns-then-not-is_within c =
    let beyond : is_within c.args.generation c.in-Ok.rec ≡ false = cc in
    invalid c.args.bytes.now c.args.generation c.in-Ok.rec c.in-Ok.ensures (λ (of : IsFlexRec c.args.generation c.in-Ok.rec). true≢false (sym of.within ∙ beyond))

pub returns-in-Ok-false : goal.returns-in-Ok-false
returns-in-Ok-false c =
    invalid c.args.bytes.now c.args.generation c.in-Ok.rec c.in-Ok.ensures (λ (of : IsFlexRec c.args.generation c.in-Ok.rec). true≢false (sym (c.in-Ok-false.ensures.1 of.kept) ∙ c.in-Ok-false.field-0-test))
