-- the call that ends filesystems, as the program runs it
use Rattle.std.proofs.Common.{◌≡◌, ◌==◌, List, [], ◌∷◌, true, false, map, length, Some, None, sym, ap, ◌∙◌, cond}
use Rattle.std.proofs.lemmas.List.{length-map}
use Rattle.st_model.specs.declared.reply.Given.TheVariants.{DestroyedFilesystems}
use Rattle.st_model.specs.declared.reply.Identity.{Identity}
use Rattle.st_model.specs.declared.reply.Reply.{Reply}
use Rattle.st_model.specs.declared.state.PoolState.{PoolState}
use Rattle.st_model.specs.Answer.{accepted, first_answer, unless_answered}
use Rattle.st_model.specs.Checks.{worn}
use Rattle.st_model.specs.Look.{Text, distinct}
use Rattle.st_model.specs.steps.DestroyFilesystems.{destroy_filesystems, destroy_fs_answers, fs_identity, to_destroy, without_filesystems}
use Rattle.st_removing.specs.inner.Ended.{ended, ended_answers}

module _ (names : List Text) (p : PoolState) (gone : List Identity) (is : gone ≡ ended p.serial p.filesystems (distinct names)) where
  same_count : length gone ≡ length (to_destroy names p)
  same_count = ap length is ∙ length-map (to_destroy names p) (fs_identity p.serial)

  same_answer : first_answer (destroy_fs_answers (to_destroy names p) p) ≡ first_answer (ended_answers gone p)
  same_answer = ap (λ n. first_answer (cond (n == 0) (Some (accepted (DestroyedFilesystems false []))) None ∷ worn p ∷ [])) (sym same_count)

  abbrev told : Reply
  told = accepted (DestroyedFilesystems true (map (fs_identity p.serial) (to_destroy names p)))

  pub removed_answered : (reply : Reply) → first_answer (ended_answers gone p) ≡ Some reply → (reply, p) ≡ destroy_filesystems names p
  unfolding destroy_filesystems
  removed_answered reply h = sym (ap (λ o. unless_answered o p (told, without_filesystems names p)) (same_answer ∙ h))

  pub removed_so : first_answer (ended_answers gone p) ≡ None → (accepted (DestroyedFilesystems true gone), without_filesystems names p) ≡ destroy_filesystems names p
  unfolding destroy_filesystems
  removed_so h =
      ap (λ (l : List Identity). (accepted (DestroyedFilesystems true l), without_filesystems names p)) is
      ∙ sym (ap (λ o. unless_answered o p (told, without_filesystems names p)) (same_answer ∙ h))
