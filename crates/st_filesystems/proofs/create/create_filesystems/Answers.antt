use Rattle.std.proofs.Common.{rules, ◌≡◌, ◌+◌, ◌++◌, List, true, map, length, Some, None, ap, ◌∙◌}
use Rattle.st_model.specs.declared.reply.Given.TheVariants.{CreatedFilesystems}
use Rattle.st_model.specs.declared.reply.Reply.{Reply}
use Rattle.st_model.specs.declared.state.FsState.{FsState}
use Rattle.st_model.specs.Answer.{accepted, first_answer}
use Rattle.st_model.specs.steps.CreateFilesystems.{distinct_specs, fs_answers, new_filesystems, new_fs}
use Rattle.st_filesystems.specs.inner.Creating.{outside}
use Rattle.st_filesystems.proofs.Created.{created_answered, created_so}
use Rattle.st_filesystems.proofs.create.create_filesystems.Goals as goal

pub returns-in-Some-clause-ok : goal.returns-in-Some-clause-ok
returns-in-Some-clause-ok c =
    let p = c.args.pool.now in
    let new = c.in_ok-new.new in
    let is : new ≡ outside p.filesystems (distinct_specs c.args.specs.now) = search rules in
    let said : first_answer (fs_answers new p) ≡ Some c.in-Some.reply = search rules in
    created_answered c.args.specs.now p new is c.in-Some.reply said

pub returns-clause-ok : goal.returns-clause-ok
returns-clause-ok c =
    let p = c.args.pool.now in
    let new = c.in_ok-new.new in
    let is : new ≡ outside p.filesystems (distinct_specs c.args.specs.now) = search rules in
    let none : first_answer (fs_answers new p) ≡ None = search rules in
    let made : c.in_ok-made.made ≡ new_filesystems p.next_filesystem new = search rules in
    let all : c.append.new.self ≡ p.filesystems ++ c.in_ok-made.made = search rules in
    let reply : c.accepted.result ≡ accepted (CreatedFilesystems true (map (new_fs p.serial) c.in_ok-made.made)) = search rules in
    let count : c.len.result ≡ length new = search rules in
    ap (λ (r : Reply). (r, record p { filesystems = c.append.new.self; next_filesystem = p.next_filesystem + c.len.result; commits = p.commits + 1 })) reply
    ∙ ap (λ (l : List FsState). (accepted (CreatedFilesystems true (map (new_fs p.serial) c.in_ok-made.made)), record p { filesystems = l; next_filesystem = p.next_filesystem + c.len.result; commits = p.commits + 1 })) all
    ∙ ap (λ n. (accepted (CreatedFilesystems true (map (new_fs p.serial) c.in_ok-made.made)), record p { filesystems = p.filesystems ++ c.in_ok-made.made; next_filesystem = p.next_filesystem + n; commits = p.commits + 1 })) count
    ∙ ap (λ (l : List FsState). (accepted (CreatedFilesystems true (map (new_fs p.serial) l)), record p { filesystems = p.filesystems ++ l; next_filesystem = p.next_filesystem + length new; commits = p.commits + 1 })) made
    ∙ created_so c.args.specs.now p new is none
