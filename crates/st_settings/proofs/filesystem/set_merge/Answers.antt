use Rattle.std.proofs.Common.{rules, ◌≡◌, true, Some, None, slice_get, sym, ap, ◌∙◌}
use Rattle.st_model.specs.declared.reply.Given.TheVariants.{Done}
use Rattle.st_model.specs.declared.reply.Reply.{Reply}
use Rattle.st_model.specs.declared.state.FsState.{FsState}
use Rattle.st_model.specs.Answer.{accepted, first_answer}
use Rattle.st_model.specs.Checks.{fs_at}
use Rattle.st_model.specs.steps.SetMerge.{merge_answers, with_mark}
use Rattle.st_settings.proofs.Filesystems.{mark_unknown, mark_answered, mark_so}
use Rattle.st_settings.proofs.Rows.{turned_at}
use Rattle.st_settings.proofs.filesystem.set_merge.Goals as goal

pub returns-in_default-clause-ok : goal.returns-in_default-clause-ok
returns-in_default-clause-ok c =
    ap (λ (r : Reply). (r, c.args.pool.now)) c.refused.ensures ∙ mark_unknown c.args.name.now c.args.pool.now c.args.value (search rules)

pub returns-in-Some-2-clause-ok : goal.returns-in-Some-2-clause-ok
returns-in-Some-2-clause-ok c =
    let fss = c.args.pool.now.filesystems in
    let at : fs_at c.args.name.now fss ≡ slice_get fss c.in-Some.place = search rules in
    let said : first_answer (merge_answers c.args.value c.at.result.now c.args.pool.now) ≡ Some c.in-Some-2.reply = search rules in
    mark_answered c.args.name.now c.args.pool.now c.in-Some.place c.at.result.now at c.at.ensures c.args.value c.in-Some-2.reply said

pub returns-clause-ok : goal.returns-clause-ok
returns-clause-ok c =
    let fss = c.args.pool.now.filesystems in
    let fs = c.at.result.now in
    let at : fs_at c.args.name.now fss ≡ slice_get fss c.in-Some.place = search rules in
    let none : first_answer (merge_answers c.args.value fs c.args.pool.now) ≡ None = search rules in
    let same : c.at_mut.result.now ≡ fs = (let e : Some c.at_mut.result.now ≡ Some fs = sym c.at_mut.ensures.value ∙ c.at.ensures in cc) in
    ap (λ (r : Reply). (r, turned_at (with_mark c.args.value) c.in-Some.place c.at_mut.result.now c.args.pool.now)) c.accepted.ensures
    ∙ ap (λ (x : FsState). (accepted (Done true), turned_at (with_mark c.args.value) c.in-Some.place x c.args.pool.now)) same
    ∙ mark_so c.args.name.now c.args.pool.now c.in-Some.place fs at c.at.ensures c.args.value c.requires none
