-- what a read answers and leaves, as the program runs it
use Rattle.std.proofs.Common.{◌≡◌, ℕ, Some, None, slice_get, option_map, sym, ap, ◌∙◌}
use Rattle.std.specs.List.{flat_map, range_with_len}
use Rattle.st_units.specs.declared.cause.Cause.TheVariants.{NoSuchFilesystem}
use Rattle.st_model.specs.declared.reply.Given.TheVariants.{Read}
use Rattle.st_model.specs.declared.reply.Reply.{Reply}
use Rattle.st_model.specs.declared.state.FsState.{FsState}
use Rattle.st_model.specs.declared.state.PoolState.{PoolState}
use Rattle.st_model.specs.Answer.{accepted, first_answer, refused, unless_answered}
use Rattle.st_model.specs.Checks.{fs_at, in_fs}
use Rattle.st_model.specs.Content.{sector_bytes, touched}
use Rattle.st_model.specs.Look.{Text}
use Rattle.st_model.specs.steps.FsRead.{cells_read, fs_read, read_answers, read_fs, with_reads}

module _ (name : Text) (sector n : ℕ) (p : PoolState) where
  pub unknown : fs_at name p.filesystems ≡ None → (refused NoSuchFilesystem, p) ≡ fs_read name sector n p
  unfolding fs_read
  unknown at = sym (ap (in_fs (read_fs sector n) p) at)

  module _ (i : ℕ) (fs : FsState) (at : fs_at name p.filesystems ≡ slice_get p.filesystems i) (h : slice_get p.filesystems i ≡ Some fs) where
    abbrev pub read : Reply × PoolState
    read = (accepted (Read (flat_map (sector_bytes p fs) (range_with_len sector n))), record p { cache = option_map (with_reads (cells_read fs (touched sector n))) p.cache })

    pub answered : (said : Reply) → first_answer (read_answers fs sector n) ≡ Some said → (said, p) ≡ fs_read name sector n p
    unfolding fs_read
    answered said is = sym (ap (in_fs (read_fs sector n) p) (at ∙ h) ∙ ap (λ o. unless_answered o p read) is)

    pub read_so : first_answer (read_answers fs sector n) ≡ None → read ≡ fs_read name sector n p
    unfolding fs_read
    read_so none = sym (ap (in_fs (read_fs sector n) p) (at ∙ h) ∙ ap (λ o. unless_answered o p read) none)
