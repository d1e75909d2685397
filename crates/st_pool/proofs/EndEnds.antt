-- The ends of an end.
use Rattle.std.proofs.Common.{◌≡◌, ℕ, ◌+◌, ◌≤◌, true, is_some, List, Option, Some, None, refl, ◌∙◌}
use Rattle.std.specs.List.{slice_get}
use Rattle.st_units.specs.Causes.{Rose}
use Rattle.st_units.specs.declared.cause.Cause.TheVariants.{OutOfMemory}
use Rattle.st_poolrec.specs.Record.{record_text}
use Rattle.st_model.specs.declared.call.Call.{Call}
use Rattle.st_model.specs.declared.call.Call.TheVariants.{DestroyPool}
use Rattle.st_model.specs.declared.entry.Env.TheVariants.{Plain, NoMem}
use Rattle.st_model.specs.declared.info.PoolInfo.{PoolInfo}
use Rattle.st_model.specs.declared.info.ShownMode.TheVariants as shows
use Rattle.st_model.specs.declared.reply.Reply.{Reply}
use Rattle.st_model.specs.Answer.{refused}
use Rattle.st_rack.specs.Device.{Path, State, held}
use Rattle.st_rack.specs.Calls.{Devices}
use Rattle.st_rack.specs.Moments.{Keeps}
use Rattle.st_deltalog.specs.Bearing.{IsSettled}
use Rattle.st_commit.specs.Ready.{BearsRecord, IsOf}
use Rattle.st_image.specs.Looks.{pool_area}
use Rattle.st_books.specs.declared.books.Books.{Books}
use Rattle.st_books.specs.Survived.{Survived, IsEither, unless_gone}
use Rattle.st_books.specs.Ready.{AreReady, rows_of, stood, stood_next}
use Rattle.st_pool.specs.Answered.{answered, counted, failed}
use Rattle.st_pool.specs.View.{now, pool_with, view_of}
use Rattle.st_pool.specs.Known.{IsPool}
use Rattle.st_pool.specs.Ends.{IsGone}
use Rattle.st_pool.specs.Runs.{Runs, never_low}
use Rattle.st_pool.specs.inner.Plans.{record_with, refusal}
use Rattle.st_pool.proofs.Answering.{end_answer, no_flight}
use Rattle.st_pool.proofs.Committing.{pool_down, runs_down}
use Rattle.st_pool.proofs.Gone.{Either, end_fails, end_survives, is_gone}
use Rattle.st_pool.proofs.Running.{stays}
use Rattle.st_pool.proofs.Stepping.{destroy_plain}
use Rattle.st_pool.proofs.Surviving.{before_end}

module _ {D : Type 0} (devs : D → Devices) (moment : D → ℕ) (state_at : D → ℕ → State) (faults : D → ℕ) (b : Books) (list : List Path) (shown : PoolInfo) (spare : Option PoolInfo) (rack seen : D) (count : ℕ) where
  abbrev at : D → State
  at r = now moment state_at r

  abbrev Known : Option Call → Type 0
  Known flight = IsPool devs moment state_at faults b flight list shown spare rack seen count

  -- memory was refused
  pub end_refused : (flight : Option Call) → Known flight
      → Runs devs moment state_at faults never_low (DestroyPool b.rec.name) (view_of moment state_at b flight (is_some spare) rack seen count) (answered NoMem (refused OutOfMemory)) (view_of moment state_at b flight (is_some spare) rack seen count)
  end_refused flight inv = stays devs moment state_at faults b flight list shown spare rack seen count inv (DestroyPool b.rec.name) refl (before_end b (held (at seen)) (devs rack) b.rec.name) NoMem (refused OutOfMemory) refl refl

  -- an answer without a commit
  pub end_answered : (flight : Option Call) → Known flight → (reply : Reply) → refusal b flight ≡ Some reply
      → Runs devs moment state_at faults never_low (DestroyPool b.rec.name) (view_of moment state_at b flight (is_some spare) rack seen count) (answered Plain reply) (view_of moment state_at b flight (is_some spare) rack seen count)
  end_answered flight inv reply is =
      stays devs moment state_at faults b flight list shown spare rack seen count inv (DestroyPool b.rec.name) refl (before_end b (held (at seen)) (devs rack) b.rec.name) Plain reply refl
      (destroy_plain (pool_with b flight (held (at seen))) (devs rack) (Some reply) (end_answer b (held (at seen)) (devs rack) flight inv.filesystems ∙ is))

  module _ (r1 : D) (same : devs r1 ≡ devs rack)
      (during : Keeps moment state_at (Survived b.rec.serial (rows_of b.rec) (IsEither (stood b (held (at rack))) (unless_gone (record_with b.rec.name true b.rec) (stood_next b (record_with b.rec.name true b.rec) (held (at rack)))))) rack r1) where
    -- a device failed
    module _ (rose : Rose (faults rack) (faults r1)) (own other : PoolInfo) (own_is : own ≡ record shown { mode = shows.Down }) (other_is : other ≡ record shown { mode = shows.Down }) where
      pub ended_down : (flight : Option Call) → Known flight → refusal b flight ≡ None → IsPool devs moment state_at faults b (Some (DestroyPool b.rec.name)) list own (Some other) r1 seen (counted true count)
      ended_down None inv free = pool_down devs moment state_at faults b list shown spare rack seen count inv (DestroyPool b.rec.name) refl r1 same
          (Either devs moment state_at faults b list shown spare rack seen count inv free) (end_survives devs moment state_at faults b list shown spare rack seen count inv free r1) during refl rose own other own_is other_is
      ended_down (Some call) inv free = let e = no_flight b (Some call) free in absurd (cc)

      pub end_failed : (flight : Option Call) → Known flight → refusal b flight ≡ None
          → Runs devs moment state_at faults never_low (DestroyPool b.rec.name) (view_of moment state_at b flight (is_some spare) rack seen count) failed (view_of moment state_at b (Some (DestroyPool b.rec.name)) true r1 seen (counted true count))
      end_failed None inv free = runs_down devs moment state_at faults b list shown spare rack seen count inv (DestroyPool b.rec.name) refl r1 same
          (Either devs moment state_at faults b list shown spare rack seen count inv free) (end_survives devs moment state_at faults b list shown spare rack seen count inv free r1) during refl rose own other own_is other_is
          (end_fails devs moment state_at faults b list shown spare rack seen count inv free)
      end_failed (Some call) inv free = let e = no_flight b (Some call) free in absurd (cc)

    -- it is gone
    pub end_gone : faults rack ≤ faults r1 → (b1 : Books) → AreReady b1 (at r1) → b1.rec ≡ record_with b.rec.name true b.rec → b1.generation ≡ b.generation + 1
        → ((k : ℕ) (d : Path × ℕ) → slice_get (rows_of b.rec) k ≡ Some d → BearsRecord pool_area b.generation (record_text b.rec) (at r1 d.0))
        → ((d : Path) → IsOf list d → IsSettled (at r1 d))
        → (flight : Option Call) → Known flight → refusal b flight ≡ None → IsGone devs moment state_at faults (view_of moment state_at b flight (is_some spare) rack seen count) r1
    end_gone later b1 ready rec_is generation_is before settled None inv free = is_gone devs moment state_at faults b list shown spare rack seen count inv free r1 same later during b1 ready rec_is generation_is before settled
    end_gone later b1 ready rec_is generation_is before settled (Some call) inv free = let e = no_flight b (Some call) free in absurd (cc)
