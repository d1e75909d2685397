-- The ends of a rename.
use Rattle.std.proofs.Common.{◌≡◌, ℕ, ◌+◌, ◌≤◌, true, false, is_some, List, Option, Some, None, refl, ◌∙◌}
use Rattle.st_units.specs.Causes.{Rose}
use Rattle.st_units.specs.declared.cause.Cause.TheVariants.{OutOfMemory}
use Rattle.st_model.specs.declared.call.Call.{Call}
use Rattle.st_model.specs.declared.call.Call.TheVariants.{RenamePool}
use Rattle.st_model.specs.declared.entry.Env.TheVariants.{Plain, NoMem}
use Rattle.st_model.specs.declared.info.PoolInfo.{PoolInfo}
use Rattle.st_model.specs.declared.info.ShownMode.TheVariants as shows
use Rattle.st_model.specs.declared.reply.Given.TheVariants.{Changed}
use Rattle.st_model.specs.declared.reply.Identity.TheVariants.{Pool}
use Rattle.st_model.specs.declared.reply.Reply.{Reply}
use Rattle.st_model.specs.Answer.{accepted, refused}
use Rattle.st_model.specs.Look.{Text, flight_of, gives_name}
use Rattle.st_rack.specs.Device.{Path, State, held}
use Rattle.st_rack.specs.Calls.{Devices}
use Rattle.st_rack.specs.Moments.{Keeps}
use Rattle.st_deltalog.specs.Bearing.{IsSettled}
use Rattle.st_commit.specs.Ready.{IsOf}
use Rattle.st_image.specs.Stands.{state_of}
use Rattle.st_books.specs.declared.books.Books.{Books}
use Rattle.st_books.specs.Spelled.{same_flex}
use Rattle.st_books.specs.Survived.{Survived, IsEither, unless_gone}
use Rattle.st_books.specs.Ready.{AreReady, rows_of, stood, stood_next}
use Rattle.st_pool.specs.Answered.{answered, counted, failed}
use Rattle.st_pool.specs.View.{mode_with, now, pool_with, view_of}
use Rattle.st_pool.specs.Known.{IsPool}
use Rattle.st_pool.specs.Runs.{Runs, never_low}
use Rattle.st_pool.specs.inner.Plans.{record_with, rename_refusal}
use Rattle.st_pool.proofs.Answering.{no_flight, not_renamed, rename_answer}
use Rattle.st_pool.proofs.Committing.{pool_down, runs_down}
use Rattle.st_pool.proofs.Renamed.{Either, fails, pool_renamed, runs_renamed, survives}
use Rattle.st_pool.proofs.Running.{stays}
use Rattle.st_pool.proofs.Stepping.{rename_plain}
use Rattle.st_pool.proofs.Surviving.{before_rename}

module _ {D : Type 0} (devs : D → Devices) (moment : D → ℕ) (state_at : D → ℕ → State) (faults : D → ℕ) (b : Books) (list : List Path) (shown : PoolInfo) (spare : Option PoolInfo) (rack seen : D) (count : ℕ) (new : Text) where
  abbrev at : D → State
  at r = now moment state_at r

  abbrev Known : Option Call → Type 0
  Known flight = IsPool devs moment state_at faults b flight list shown spare rack seen count

  -- memory was refused
  pub rename_refused : (flight : Option Call) → Known flight
      → Runs devs moment state_at faults never_low (RenamePool b.rec.name new) (view_of moment state_at b flight (is_some spare) rack seen count) (answered NoMem (refused OutOfMemory)) (view_of moment state_at b flight (is_some spare) rack seen count)
  rename_refused flight inv = stays devs moment state_at faults b flight list shown spare rack seen count inv (RenamePool b.rec.name new) refl (before_rename b (held (at seen)) (devs rack) b.rec.name new) NoMem (refused OutOfMemory) refl refl

  -- an answer without a commit
  pub rename_answered : (flight : Option Call) → Known flight → gives_name new (flight_of (mode_with flight)) ≡ false → (reply : Reply) → rename_refusal b flight new ≡ Some reply
      → Runs devs moment state_at faults never_low (RenamePool b.rec.name new) (view_of moment state_at b flight (is_some spare) rack seen count) (answered Plain reply) (view_of moment state_at b flight (is_some spare) rack seen count)
  rename_answered flight inv free reply is =
      stays devs moment state_at faults b flight list shown spare rack seen count inv (RenamePool b.rec.name new) refl (before_rename b (held (at seen)) (devs rack) b.rec.name new) Plain reply refl
      (rename_plain (pool_with b flight (held (at seen))) (devs rack) new (Some reply) (rename_answer b (held (at seen)) (devs rack) flight new free ∙ is))

  abbrev During : D → Type 0
  During r1 = Keeps moment state_at (Survived b.rec.serial (rows_of b.rec) (IsEither (stood b (held (at rack))) (unless_gone (record_with new false b.rec) (stood_next b (record_with new false b.rec) (held (at rack)))))) rack r1

  module _ (r1 : D) (same : devs r1 ≡ devs rack) (during : During r1) where
    -- a device failed
    module _ (rose : Rose (faults rack) (faults r1)) (own other : PoolInfo) (own_is : own ≡ record shown { mode = shows.Down }) (other_is : other ≡ record shown { mode = shows.Down }) where
      pub renamed_down : (flight : Option Call) → Known flight → rename_refusal b flight new ≡ None
          → IsPool devs moment state_at faults b (Some (RenamePool b.rec.name new)) list own (Some other) r1 seen (counted true count)
      renamed_down None inv free = pool_down devs moment state_at faults b list shown spare rack seen count inv (RenamePool b.rec.name new) refl r1 same
          (Either devs moment state_at faults b list shown spare rack seen count inv new free) (survives devs moment state_at faults b list shown spare rack seen count inv new free r1) during refl rose own other own_is other_is
      renamed_down (Some call) inv free = let e = no_flight b (Some call) (not_renamed b (Some call) new free) in absurd (cc)

      pub rename_failed : (flight : Option Call) → Known flight → rename_refusal b flight new ≡ None
          → Runs devs moment state_at faults never_low (RenamePool b.rec.name new) (view_of moment state_at b flight (is_some spare) rack seen count) failed (view_of moment state_at b (Some (RenamePool b.rec.name new)) true r1 seen (counted true count))
      rename_failed None inv free = runs_down devs moment state_at faults b list shown spare rack seen count inv (RenamePool b.rec.name new) refl r1 same
          (Either devs moment state_at faults b list shown spare rack seen count inv new free) (survives devs moment state_at faults b list shown spare rack seen count inv new free r1) during refl rose own other own_is other_is
          (fails devs moment state_at faults b list shown spare rack seen count inv new free)
      rename_failed (Some call) inv free = let e = no_flight b (Some call) (not_renamed b (Some call) new free) in absurd (cc)

    -- it was done
    module _ (later : faults rack ≤ faults r1) (b1 : Books) (ready : AreReady b1 (at r1)) (settled : (d : Path) → IsOf list d → IsSettled (at r1 d)) (rec_is : b1.rec ≡ record_with new false b.rec) (flex_is : b1.flex ≡ same_flex b.flex)
        (state_is : state_of b1.generation b1.rec b1.flex (held (at r1)) ≡ state_of (b.generation + 1) (record_with new false b.rec) (same_flex b.flex) (held (at rack)))
        (own other : PoolInfo) (own_is : own ≡ record shown { name = new }) (other_is : other ≡ record shown { name = new }) where
      pub renamed_up : (flight : Option Call) → Known flight → rename_refusal b flight new ≡ None → IsPool devs moment state_at faults b1 flight list own (Some other) r1 r1 count
      renamed_up None inv free = pool_renamed devs moment state_at faults b list shown spare rack seen count inv new free r1 same during later b1 ready settled rec_is flex_is state_is own other own_is other_is
      renamed_up (Some call) inv free = let e = no_flight b (Some call) (not_renamed b (Some call) new free) in absurd (cc)

      pub rename_done : (flight : Option Call) → Known flight → rename_refusal b flight new ≡ None
          → Runs devs moment state_at faults never_low (RenamePool b.rec.name new) (view_of moment state_at b flight (is_some spare) rack seen count) (answered Plain (accepted (Changed true (Some (Pool b.rec.serial))))) (view_of moment state_at b1 flight true r1 r1 count)
      rename_done None inv free = runs_renamed devs moment state_at faults b list shown spare rack seen count inv new free r1 same during later b1 ready settled rec_is flex_is state_is own other own_is other_is
      rename_done (Some call) inv free = let e = no_flight b (Some call) (not_renamed b (Some call) new free) in absurd (cc)
