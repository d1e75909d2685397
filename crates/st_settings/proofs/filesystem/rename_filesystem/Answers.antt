use Rattle.std.proofs.Common.{rules, ◌≡◌, true, Some, None, slice_get, sym, ap, ◌∙◌, subst}
use Rattle.st_model.specs.declared.reply.Given.TheVariants.{Changed}
use Rattle.st_model.specs.declared.reply.Identity.TheVariants.{Filesystem}
use Rattle.st_model.specs.declared.reply.Reply.{Reply}
use Rattle.st_model.specs.declared.state.FsState.{FsState}
use Rattle.st_model.specs.Answer.{accepted, first_answer}
use Rattle.st_model.specs.Checks.{fs_at}
use Rattle.st_model.specs.Look.{Text}
use Rattle.st_model.specs.steps.RenameFilesystem.{rename_fs_answers, named}
use Rattle.st_settings.proofs.Filesystems.{rename_unknown, rename_answered, rename_so}
use Rattle.st_settings.proofs.Rows.{turned_at}
use Rattle.st_settings.proofs.filesystem.rename_filesystem.Goals as goal

pub returns-in_default-clause-ok : goal.returns-in_default-clause-ok
returns-in_default-clause-ok c =
    ap (λ (r : Reply). (r, c.args.pool.now)) c.refused.ensures ∙ rename_unknown c.args.name.now c.args.pool.now c.args.new.now (search rules)

pub returns-in-Some-rename_answer-clause-ok : goal.returns-in-Some-rename_answer-clause-ok
returns-in-Some-rename_answer-clause-ok c =
    let fss = c.args.pool.now.filesystems in
    let at : fs_at c.args.name.now fss ≡ slice_get fss c.in-Some.place = search rules in
    let said : first_answer (rename_fs_answers c.args.new.now c.at-fs.result.now c.args.pool.now) ≡ Some c.in-Some-rename_answer.reply = search rules in
    rename_answered c.args.name.now c.args.pool.now c.in-Some.place c.at-fs.result.now at c.at-fs.ensures c.args.new.now c.in-Some-rename_answer.reply said

pub returns-clause-ok : goal.returns-clause-ok
returns-clause-ok c =
    let fss = c.args.pool.now.filesystems in
    let fs = c.at-fs.result.now in
    let at : fs_at c.args.name.now fss ≡ slice_get fss c.in-Some.place = search rules in
    let none : first_answer (rename_fs_answers c.args.new.now fs c.args.pool.now) ≡ None = search rules in
    let same : c.at_mut.result.now ≡ fs = (let e : Some c.at_mut.result.now ≡ Some fs = sym c.at_mut.ensures.value ∙ c.at-fs.ensures in cc) in
    let copied : c.in_ok-copy.copy ≡ c.args.new.now = search rules in
    ap (λ (r : Reply). (r, turned_at (named c.in_ok-copy.copy) c.in-Some.place c.at_mut.result.now c.args.pool.now)) c.accepted.ensures
    ∙ ap (λ (n : Text). (accepted (Changed true (Some (Filesystem c.args.pool.now.serial fs.row.serial))), turned_at (named n) c.in-Some.place c.at_mut.result.now c.args.pool.now)) copied
    ∙ ap (λ (x : FsState). (accepted (Changed true (Some (Filesystem c.args.pool.now.serial fs.row.serial))), turned_at (named c.args.new.now) c.in-Some.place x c.args.pool.now)) same
    ∙ rename_so c.args.name.now c.args.pool.now c.in-Some.place fs at c.at-fs.ensures c.args.new.now c.requires none
