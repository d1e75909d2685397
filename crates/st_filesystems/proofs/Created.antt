-- the call that makes filesystems, as the program runs it
use Rattle.std.proofs.Common.{◌≡◌, ◌+◌, List, ◌++◌, true, map, length, Some, None, sym, ap, ◌∙◌}
use Rattle.st_units.specs.declared.rows.FsSpec.{FsSpec}
use Rattle.st_model.specs.declared.reply.Given.TheVariants.{CreatedFilesystems}
use Rattle.st_model.specs.declared.reply.Reply.{Reply}
use Rattle.st_model.specs.declared.state.PoolState.{PoolState}
use Rattle.st_model.specs.Answer.{accepted, first_answer, unless_answered}
use Rattle.st_model.specs.steps.CreateFilesystems.{create_filesystems, create_new, fs_answers, new_filesystems, new_fs, to_create}

module _ (specs : List FsSpec) (p : PoolState) (new : List FsSpec) (is : new ≡ to_create specs p) where
  abbrev pub after : PoolState
  after = record p {
    filesystems = p.filesystems ++ new_filesystems p.next_filesystem new;
    next_filesystem = p.next_filesystem + length new;
    commits = p.commits + 1;
  }

  abbrev pub told : Reply
  told = accepted (CreatedFilesystems true (map (new_fs p.serial) (new_filesystems p.next_filesystem new)))

  pub created_answered : (reply : Reply) → first_answer (fs_answers new p) ≡ Some reply → (reply, p) ≡ create_filesystems specs p
  unfolding create_filesystems
  created_answered reply h = sym (ap (λ o. unless_answered o p (told, after)) h) ∙ ap (λ n. create_new n p) is

  pub created_so : first_answer (fs_answers new p) ≡ None → (told, after) ≡ create_filesystems specs p
  unfolding create_filesystems
  created_so h = sym (ap (λ o. unless_answered o p (told, after)) h) ∙ ap (λ n. create_new n p) is
