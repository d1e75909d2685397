-- the calls that set something of a filesystem, as the program runs them
use Rattle.std.proofs.Common.{◌≡◌, ℕ, Bool, true, Option, Some, None, slice_get, sym, ap}
use Rattle.st_units.specs.declared.cause.Cause.TheVariants.{NoSuchFilesystem}
use Rattle.st_model.specs.declared.reply.Given.TheVariants.{Changed, Done}
use Rattle.st_model.specs.declared.reply.Identity.TheVariants.{Filesystem}
use Rattle.st_model.specs.declared.reply.Reply.{Reply}
use Rattle.st_model.specs.declared.state.FsState.{FsState}
use Rattle.st_model.specs.declared.state.PoolState.{PoolState}
use Rattle.st_model.specs.Answer.{accepted, first_answer, refused}
use Rattle.st_model.specs.Checks.{fs_at, in_fs}
use Rattle.st_model.specs.Look.{Text}
use Rattle.st_model.specs.ValidPool.{IsWhole}
use Rattle.st_model.specs.steps.RenameFilesystem.{named, rename_filesystem, rename_fs, rename_fs_answers}
use Rattle.st_model.specs.steps.SetMerge.{mark_fs, merge_answers, set_merge, with_mark}
use Rattle.st_model.specs.steps.SetSizeLimit.{limit_fs, limited, set_size_limit, size_limit_answers}
use Rattle.st_settings.proofs.Rows.{answered_so, row_so, turned_at}

abbrev done : FsState → PoolState → Reply
done fs p = accepted (Done true)

abbrev is_renamed : FsState → PoolState → Reply
is_renamed fs p = accepted (Changed true (Some (Filesystem p.serial fs.row.serial)))

module _ (name : Text) (p : PoolState) where
  pub limit_unknown : (limit : Option ℕ) → fs_at name p.filesystems ≡ None → (refused NoSuchFilesystem, p) ≡ set_size_limit name limit p
  unfolding set_size_limit
  limit_unknown limit at = sym (ap (in_fs (limit_fs limit) p) at)

  pub rename_unknown : (new : Text) → fs_at name p.filesystems ≡ None → (refused NoSuchFilesystem, p) ≡ rename_filesystem name new p
  unfolding rename_filesystem
  rename_unknown new at = sym (ap (in_fs (rename_fs new) p) at)

  pub mark_unknown : (value : Bool) → fs_at name p.filesystems ≡ None → (refused NoSuchFilesystem, p) ≡ set_merge name value p
  unfolding set_merge
  mark_unknown value at = sym (ap (in_fs (mark_fs value) p) at)

  module _ (i : ℕ) (fs : FsState) (at : fs_at name p.filesystems ≡ slice_get p.filesystems i) (h : slice_get p.filesystems i ≡ Some fs) where
    pub limit_answered : (limit : Option ℕ) (said : Reply) → first_answer (size_limit_answers limit fs p) ≡ Some said → (said, p) ≡ set_size_limit name limit p
    unfolding set_size_limit
    limit_answered limit said is = answered_so (limited limit) (size_limit_answers limit) done name p i fs said at h is

    pub limit_so : (limit : Option ℕ) → IsWhole p → first_answer (size_limit_answers limit fs p) ≡ None → (accepted (Done true), turned_at (limited limit) i fs p) ≡ set_size_limit name limit p
    unfolding set_size_limit
    limit_so limit w none = row_so (limited limit) (size_limit_answers limit) done name p i fs w at h none

    pub rename_answered : (new : Text) (said : Reply) → first_answer (rename_fs_answers new fs p) ≡ Some said → (said, p) ≡ rename_filesystem name new p
    unfolding rename_filesystem
    rename_answered new said is = answered_so (named new) (rename_fs_answers new) is_renamed name p i fs said at h is

    pub rename_so : (new : Text) → IsWhole p → first_answer (rename_fs_answers new fs p) ≡ None
        → (accepted (Changed true (Some (Filesystem p.serial fs.row.serial))), turned_at (named new) i fs p) ≡ rename_filesystem name new p
    unfolding rename_filesystem
    rename_so new w none = row_so (named new) (rename_fs_answers new) is_renamed name p i fs w at h none

    pub mark_answered : (value : Bool) (said : Reply) → first_answer (merge_answers value fs p) ≡ Some said → (said, p) ≡ set_merge name value p
    unfolding set_merge
    mark_answered value said is = answered_so (with_mark value) (merge_answers value) done name p i fs said at h is

    pub mark_so : (value : Bool) → IsWhole p → first_answer (merge_answers value fs p) ≡ None → (accepted (Done true), turned_at (with_mark value) i fs p) ≡ set_merge name value p
    unfolding set_merge
    mark_so value w none = row_so (with_mark value) (merge_answers value) done name p i fs w at h none
