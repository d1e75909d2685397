use Rattle.std.proofs.Common.{◌≡◌, bytes_eq, sym, ap, subst, ◌∙◌}
use Rattle.st_model.specs.declared.call.Call.TheVariants.{RenamePool}
use Rattle.st_renaming.specs.inner.Answers.{ChangesNothing, answer_early}
use Rattle.st_renaming.proofs.Refused.{early_so, held_is, none_there, not_early, plainly_so}
use Rattle.st_renaming.proofs.ready.make_ready.Goals as goal

pub returns-in-Some-clause-answered : goal.returns-in-Some-clause-answered
returns-in-Some-clause-answered c answer is =
    let here = c.requires.here in let s = c.args.before.now.value in let name = c.args.name.now in let new = c.args.new.now in let found = c.in-Some.ensures.some in
    let same : c.in-Some.answer ≡ answer = cc in
    let held = held_is c.args.table.now s here.valid here.stands c.tells_as_the_model.ensures new in
    subst (ChangesNothing s (RenamePool name new)) same
    (plainly_so s name new found.0 c.in-Some.answer found.1 (early_so s name new here.pool here.here found.0 (ap (answer_early (bytes_eq name new)) (sym held) ∙ found.2)))

pub planned-requires-clause-free : goal.planned-requires-clause-free
planned-requires-clause-free c =
    let here = c.requires.here in let s = c.args.before.now.value in let name = c.args.name.now in let new = c.args.new.now in
    let held = held_is c.args.table.now s here.valid here.stands c.tells_as_the_model.ensures new in
    none_there _ (sym held ∙ not_early (bytes_eq name new) _ c.in-None.ensures.none)
