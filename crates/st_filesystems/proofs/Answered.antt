-- the first answer of a call that makes filesystems
use Rattle.std.proofs.Common.{◌≡◌, ◌+◌, ◌==◌, ◌||◌, List, [], ◌∷◌, ◌++◌, true, false, Option, Some, None, find, length, nat_lt, refl, ap, ◌∙◌}
use Rattle.st_units.specs.declared.cause.Cause.TheVariants.{LimitBelowSize, TooManyFilesystems}
use Rattle.st_units.specs.declared.rows.FsSpec.{FsSpec}
use Rattle.st_model.specs.declared.reply.Given.TheVariants.{CreatedFilesystems}
use Rattle.st_model.specs.declared.reply.Reply.{Reply}
use Rattle.st_model.specs.declared.state.PoolState.{PoolState}
use Rattle.st_model.specs.Answer.{accepted, first_answer, refused}
use Rattle.st_model.specs.Checks.{is_below, is_no_size, over_provision, sizes, worn}
use Rattle.st_model.specs.steps.CreateFilesystems.{fs_answers, new_filesystems, size_of}
use Rattle.st_filesystems.specs.inner.Creating.{spec_blocks}
use Rattle.st_filesystems.proofs.Sizes.{sizes_with}

abbrev pub unsized : List FsSpec → Option FsSpec
unsized = find (λ (spec : FsSpec). is_no_size spec.size || is_no_size spec.limit)

abbrev pub below : List FsSpec → Option FsSpec
below = find (λ (spec : FsSpec). is_below spec.limit (size_of spec))

last : (o : Option Reply) → o ≡ first_answer (o ∷ [])
last None = refl
last (Some reply) = refl

module _ (p : PoolState) (new : List FsSpec) (a : unsized new ≡ None) where
  pub below_answer : (spec : FsSpec) → below new ≡ Some spec → Some (refused (LimitBelowSize spec.name)) ≡ first_answer (fs_answers new p)
  below_answer spec b = rw (a, b) refl

  module _ (b : below new ≡ None) where
    pub many_answer : nat_lt p.filesystem_limit (length p.filesystems + length new) ≡ true → Some (refused TooManyFilesystems) ≡ first_answer (fs_answers new p)
    many_answer many = rw (a, b, many) refl

    module _ (few : nat_lt p.filesystem_limit (length p.filesystems + length new) ≡ false) where
      over : (o : Option Reply) → over_provision p (sizes p.filesystems + spec_blocks new) ≡ o → over_provision p (sizes (p.filesystems ++ new_filesystems p.next_filesystem new)) ≡ o
      over o h = ap (over_provision p) (sizes_with p.filesystems p.next_filesystem new) ∙ h

      pub over_answer : (reply : Reply) → over_provision p (sizes p.filesystems + spec_blocks new) ≡ Some reply → Some reply ≡ first_answer (fs_answers new p)
      over_answer reply h = rw (a, b, few, over (Some reply) h) refl

      module _ (fits : over_provision p (sizes p.filesystems + spec_blocks new) ≡ None) where
        pub none_answer : (length new == 0) ≡ true → Some (accepted (CreatedFilesystems false [])) ≡ first_answer (fs_answers new p)
        none_answer empty = rw (a, b, few, over None fits, empty) refl

        pub last_answer : (length new == 0) ≡ false → worn p ≡ first_answer (fs_answers new p)
        last_answer some = rw (a, b, few, over None fits, some) (last (worn p))
