use Rattle.std.proofs.Common.{rules, ◌≡◌, ◌+◌, true, Some, None, ap, ◌∙◌}
use Rattle.st_model.specs.declared.reply.Given.TheVariants.{DestroyedFilesystems}
use Rattle.st_model.specs.declared.reply.Reply.{Reply}
use Rattle.st_model.specs.declared.state.PoolState.{PoolState}
use Rattle.st_model.specs.Answer.{accepted, first_answer}
use Rattle.st_model.specs.Look.{distinct}
use Rattle.st_model.specs.Merged.{with_filesystems}
use Rattle.st_model.specs.steps.DestroyFilesystems.{remaining}
use Rattle.st_removing.specs.inner.Ended.{ended, ended_answers}
use Rattle.st_removing.proofs.Removed.{removed_answered, removed_so}
use Rattle.st_removing.proofs.destroy.destroy_filesystems.Goals as goal

pub returns-in-Some-clause-ok : goal.returns-in-Some-clause-ok
returns-in-Some-clause-ok c =
    let p = c.args.pool.now in
    let gone = c.in_ok-gone.gone in
    let is : gone ≡ ended p.serial p.filesystems (distinct c.args.names.now) = search rules in
    let said : first_answer (ended_answers gone p) ≡ Some c.in-Some.reply = search rules in
    removed_answered c.args.names.now p gone is c.in-Some.reply said

pub returns-clause-ok : goal.returns-clause-ok
returns-clause-ok c =
    let p = c.args.pool.now in
    let gone = c.in_ok-gone.gone in
    let is : gone ≡ ended p.serial p.filesystems (distinct c.args.names.now) = search rules in
    let none : first_answer (ended_answers gone p) ≡ None = search rules in
    let left : c.in_ok-left.left ≡ remaining c.args.names.now p.filesystems = search rules in
    let after : c.with_filesystems.new.pool ≡ with_filesystems c.in_ok-left.left p = search rules in
    let reply : c.accepted.result ≡ accepted (DestroyedFilesystems true gone) = search rules in
    ap (λ (r : Reply). (r, record c.with_filesystems.new.pool { commits = c.with_filesystems.new.pool.commits + 1 })) reply
    ∙ ap (λ (q : PoolState). (accepted (DestroyedFilesystems true gone), record q { commits = q.commits + 1 })) (after ∙ ap (λ l. with_filesystems l p) left)
    ∙ removed_so c.args.names.now p gone is none
