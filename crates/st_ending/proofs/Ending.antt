-- a started pool is ended, or stays, and what the board tells then
use Rattle.std.proofs.Common.{◌≡◌, inl, ℕ, zero, suc, ◌+◌, ◌<◌, ◌≤◌, min, Bool, true, false, List, [], ◌∷◌, ◌++◌, length, remove, Option, Some, None, unwrap_or, refl, sym, ap, subst, ◌∙◌, arith}
use Rattle.std.specs.Prelude.{slice_get}
use Rattle.st_units.specs.declared.cause.Cause.TheVariants.{OutOfMemory}
use Rattle.st_model.specs.declared.call.Call.TheVariants.{DestroyPool}
use Rattle.st_model.specs.declared.entry.Env.TheVariants.{Plain}
use Rattle.st_model.specs.declared.reply.Given.TheVariants.{Changed}
use Rattle.st_model.specs.declared.reply.Identity.TheVariants.{Pool}
use Rattle.st_model.specs.declared.reply.Reply.{Reply}
use Rattle.st_model.specs.declared.state.EngineState.{EngineState}
use Rattle.st_model.specs.declared.state.PoolMode.TheVariants.{Up}
use Rattle.st_model.specs.declared.state.PoolState.{PoolState}
use Rattle.st_model.specs.declared.state.TableState.{TableState}
use Rattle.st_model.specs.Answer.{accepted, refused}
use Rattle.st_model.specs.Checks.{down}
use Rattle.st_model.specs.Local.{Outcome}
use Rattle.st_model.specs.Look.{Text, is_started, is_up}
use Rattle.st_model.specs.Parts.{pool_at, shown_table, table_of}
use Rattle.st_model.specs.Step.{outcome, step}
use Rattle.st_model.specs.Valid.{IsValid}
use Rattle.st_model.proofs.Validity.{step-keeps}
use Rattle.st_rack.specs.Device.{State}
use Rattle.st_rack.specs.Calls.{Devices}
use Rattle.st_table.specs.Stands.{Stands}
use Rattle.st_table.specs.Steps.{DroppedAlike, StandsFor, with_other}
use Rattle.st_table.specs.Table.{TableView, changed}
use Rattle.st_table.specs.Table as table_words
use Rattle.st_beside.specs.Beside.{DestroyBeside, IsAlone}
use Rattle.st_pool.specs.declared.reply.PoolReply.{PoolReply}
use Rattle.st_pool.specs.Answered.{answered, failed, is_device_fault}
use Rattle.st_pool.specs.Ends.{IsGone}
use Rattle.st_pool.specs.Runs.{Runs, never_low}
use Rattle.st_pool.specs.View.{PoolView, engine_of}
use Rattle.st_board.specs.Changes.{HasGone, without}
use Rattle.st_board.specs.Ran.{AreAll, HasRun}
use Rattle.st_board.specs.View.{BoardView, last}
use Rattle.st_ran.specs.One.{OneHasRun}
use Rattle.st_leaving.specs.Leaving.{OneHasGone}
use Rattle.st_leaving.proofs.Freed.{freed_on, sizes_up, whole_up}
use Rattle.st_ending.specs.Ended.{EndsOn}
use Rattle.st_outcomes.specs.Ending.{DestroyOutcomes, EndsAlone, EndsUnseen}

module _ {D : Type 0} (devs : D → Devices) (moment : D → ℕ) (state_at : D → ℕ → State) (faults : D → ℕ)
    (outcomes : DestroyOutcomes) (unseen : EndsUnseen) (s : EngineState) (cells : List (PoolView D)) (was : BoardView D) (all : AreAll devs moment state_at faults s cells was)
    (i : ℕ) (old : PoolView D) (at : slice_get cells i ≡ Some old) (here : pool_at old.pool.name s.pools ≡ Some old.pool) (started : is_started old.pool.mode ≡ true) where
  abbrev p : PoolState
  p = old.pool

  abbrev own_engine : EngineState
  own_engine = engine_of p (devs old.rack)

  alone : IsAlone p s own_engine
  alone = record { valid = all.valid; here = here; alone = refl }

  ends : EndsAlone p s own_engine
  ends = outcomes.alone p s own_engine alone

  -- ---- it is gone

  module _ (rack : D) (gone : IsGone devs moment state_at faults old rack) where
    out : outcome s (DestroyPool p.name) Plain ≡ Some (accepted (Changed true (Some (Pool p.serial))), without p s)
    out = (ends.ended gone.ends).1

    step_is : step s (DestroyPool p.name) Plain ≡ (accepted (Changed true (Some (Pool p.serial))), without p s)
    step_is = ap (λ (o : Outcome). unwrap_or o (refused OutOfMemory, s)) out

    valid_after : IsValid (without p s)
    valid_after = subst (λ (x : Reply × EngineState). IsValid x.1) step_is (step-keeps s (DestroyPool p.name) Plain all.valid)

    pub table_is : (name : Text) → p.name ≡ name → table_of (step s (DestroyPool name) Plain).1 ≡ table_of (without p s)
    table_is name e = subst (λ (n : Text). table_of (step s (DestroyPool n) Plain).1 ≡ table_of (without p s)) e (ap (λ (x : Reply × EngineState). table_of x.1) step_is)

    pub has_gone : (name : Text) → p.name ≡ name → (u : TableState) → u ≡ table_of (step s (DestroyPool name) Plain).1 → HasGone devs moment state_at was.state u rack
    has_gone name e u is =
        let up : p.mode ≡ Up = (ends.ended gone.ends).0 in
        record {
          state = s;
          pool = p;
          goes = record { before = all.valid; here = here; after = valid_after };
          was = sym all.table;
          is = sym (is ∙ table_is name e);
          started = started;
          freed = freed_on devs moment state_at s p rack all.valid here (whole_up s p (devs rack) up) gone.own gone.freed (sizes_up s p (devs rack) up all.valid here gone.own);
        }

    pub gone_run : OneHasGone devs moment state_at faults → (b : BoardView D) (answer : PoolReply) (name : Text) (u : TableState) (spare : Bool) (count : ℕ) → p.name ≡ name
        → answer ≡ answered Plain (accepted (Changed true (Some (Pool p.serial)))) → u ≡ table_of (step s (DestroyPool name) Plain).1 → spare ≡ true → count ≡ old.faults
        → b ≡ record was { state = u; spare = spare; free = b.free; past = min (was.past + count) last } → faults b.free ≡ min (faults was.free + faults rack) last
        → HasRun devs moment state_at faults s (DestroyPool name) answer cells was (remove cells i) b
    gone_run law b answer name u spare count e is state there counted board counts = law s (DestroyPool name) answer cells i old rack was b (record {
      leaves = record {
        all = all;
        at = at;
        out = subst (λ (a : PoolReply). outcome s (DestroyPool name) a.env ≡ Some (a.reply, without p s)) (sym is)
            (subst (λ (n : Text). outcome s (DestroyPool n) Plain ≡ Some (accepted (Changed true (Some (Pool p.serial))), without p s)) e out);
        twin = subst (λ (a : PoolReply). a.twin ≡ a.reply) (sym is) refl;
        low = ap (λ (a : PoolReply). a.low) is;
        calm = ap (λ (a : PoolReply). is_device_fault a.env) is;
        table = ap (λ (x : BoardView D). x.state) board ∙ (state ∙ table_is name e);
        shown = ap (λ (x : BoardView D). x.spare) board ∙ there;
      };
      board = subst (λ (n : ℕ). b ≡ record was { state = b.state; spare = b.spare; free = b.free; past = min (was.past + n) last }) counted
          (board ∙ sym (ap (λ (x : BoardView D). record was { state = x.state; spare = x.spare; free = b.free; past = min (was.past + count) last }) board));
      counts = counts;
      counted = gone.counted;
    })

    pub gone_on : (fault : Bool) → fault ≡ false → EndsOn devs moment state_at faults old fault rack
    gone_on fault calm = record {
      cause = λ met. absurd (let t : false ≡ true = sym calm ∙ met in cc);
      crash = λ up. gone.crash;
      idle = λ off. absurd (let up : is_up p.mode ≡ true = ap is_up (ends.ended gone.ends).0 in cc);
    }

    pub stands_now : (name : Text) → p.name ≡ name → (u : TableState) → u ≡ table_of (step s (DestroyPool name) Plain).1 → (view : TableView) → StandsFor view (without p s) → Stands view u
    stands_now name e u is view stands = subst (Stands view) (sym (is ∙ table_is name e)) stands

  -- ---- it stays, as it was or down

  pub stays_on : (answer : PoolReply) (new : PoolView D) → Runs devs moment state_at faults never_low (DestroyPool p.name) old answer new → EndsOn devs moment state_at faults old (is_device_fault answer.env) new.rack
  stays_on answer new runs = record { cause = runs.cause; crash = runs.crash; idle = runs.idle }

  stays_run : OneHasRun devs moment state_at faults → DestroyBeside → (answer : PoolReply) (new : PoolView D) (name : Text) → p.name ≡ name → Runs devs moment state_at faults never_low (DestroyPool p.name) old answer new
      → new.pool.name ≡ p.name → is_started new.pool.mode ≡ true → table_of (with_other p.name new.pool s) ≡ table_of s
      → HasRun devs moment state_at faults s (DestroyPool name) answer cells was (remove cells i ++ new ∷ []) was
  stays_run law beside_law answer new name e runs same up table = subst (λ (n : Text). HasRun devs moment state_at faults s (DestroyPool n) answer cells was (remove cells i ++ new ∷ []) was) e
      (law s (DestroyPool p.name) answer cells i old new was was (record {
        all = all;
        at = at;
        runs = runs;
        alone = beside_law p s own_engine answer.env alone;
        free = inl same;
        started = up;
        table = all.table ∙ sym table;
        shown = λ none. ap shown_table (sym all.table);
        same_faults = refl;
        same_slack = refl;
      }))

  pub kept_run : OneHasRun devs moment state_at faults → DestroyBeside → (answer : PoolReply) (new : PoolView D) (name : Text) → p.name ≡ name → Runs devs moment state_at faults never_low (DestroyPool p.name) old answer new → new ≡ old
      → HasRun devs moment state_at faults s (DestroyPool name) answer cells was (remove cells i ++ new ∷ []) was
  kept_run law beside_law answer new name e runs same =
      stays_run law beside_law answer new name e runs (ap (λ (x : PoolView D). x.pool.name) same) (ap (λ (x : PoolView D). is_started x.pool.mode) same ∙ started)
      (ap (λ (x : PoolView D). table_of (with_other p.name x.pool s)) same ∙ ap table_of (unseen s p all.valid here).same)

  pub broken_run : OneHasRun devs moment state_at faults → DestroyBeside → (answer : PoolReply) (new : PoolView D) (name : Text) → p.name ≡ name → answer ≡ failed → Runs devs moment state_at faults never_low (DestroyPool p.name) old failed new
      → HasRun devs moment state_at faults s (DestroyPool name) answer cells was (remove cells i ++ new ∷ []) was
  broken_run law beside_law answer new name e is runs =
      let it = ends.failed new.pool runs.licensed runs.becomes in
      let up : is_started new.pool.mode ≡ true = ap (λ (x : PoolState). is_started x.mode) it.1 in
      let same : new.pool.name ≡ p.name = ap (λ (x : PoolState). x.name) it.1 in
      stays_run law beside_law answer new name e (subst (λ (a : PoolReply). Runs devs moment state_at faults never_low (DestroyPool p.name) old a new) (sym is) runs) same up
      (ap (λ (x : PoolState). table_of (with_other p.name x s)) it.1 ∙ (unseen s p all.valid here).failed it.0)

-- ---- the table without the pool

pub table_told : DroppedAlike → (view : TableView) (s : EngineState) (p : PoolState) (name : Text) → p.name ≡ name → IsValid s → StandsFor view s → pool_at p.name s.pools ≡ Some p → (other : TableView)
    → other ≡ record (changed view (table_words.without name view.pools)) { spare = true } → (other.spare ≡ true) × StandsFor other (without p s)
table_told law view s p name e valid stands here other is =
    let there : StandsFor (changed view (table_words.without name view.pools)) (without p s) = law view s name p valid (subst (λ (n : Text). pool_at n s.pools ≡ Some p) e here) stands in
    (ap (λ (v : TableView). v.spare) is, subst (λ (v : TableView). StandsFor v (without p s)) (sym is) (record { pools = there.pools; devices = there.devices; next = there.next }))

pub length_last : {A : Type 0} (xs : List A) (x : A) → length (xs ++ x ∷ []) ≡ length xs + 1
length_last [] x = refl
length_last (y ∷ ys) x = let rest = length_last ys x in omega (arith, rest)

pub within : {A : Type 0} (xs : List A) (i : ℕ) (a : A) → slice_get xs i ≡ Some a → i < length xs
within [] zero a e = absurd cc
within [] (suc i) a e = absurd cc
within (x ∷ xs) zero a e = omega arith
within (x ∷ xs) (suc i) a e = let rest = within xs i a e in omega (arith, rest)

-- an answer of one kind or the other is no fault
pub no_fault : (t : Bool) (known unknown : Reply) (answer : PoolReply) → (t ≡ true → answer ≡ answered Plain known) → (t ≡ false → answer ≡ answered Plain unknown) → is_device_fault answer.env ≡ false
no_fault true known unknown answer f g = ap (λ (a : PoolReply). is_device_fault a.env) (f refl)
no_fault false known unknown answer f g = ap (λ (a : PoolReply). is_device_fault a.env) (g refl)
