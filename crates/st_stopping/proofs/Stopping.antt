-- a started pool is stopped, and the board tells so
use Rattle.std.proofs.Common.{◌≡◌, ℕ, Bool, true, false, List, [], ◌∷◌, ◌++◌, remove, Option, Some, None, IfSome, Result, Ok, Err, IfOk, unwrap_or, refl, sym, ap, subst, ◌∙◌}
use Rattle.std.specs.Prelude.{slice_get}
use Rattle.std.specs.List.{AllByRecursion}
use Rattle.st_units.specs.declared.memory.NoMemory.{NoMemory}
use Rattle.st_units.specs.declared.cause.Cause.TheVariants.{OutOfMemory}
use Rattle.st_model.specs.declared.call.Call.TheVariants.{StopPool}
use Rattle.st_model.specs.declared.entry.Env.TheVariants.{Plain}
use Rattle.st_model.specs.declared.reply.Given.TheVariants.{Changed}
use Rattle.st_model.specs.declared.reply.Identity.TheVariants.{Pool}
use Rattle.st_model.specs.declared.reply.Reply.{Reply}
use Rattle.st_model.specs.declared.state.EngineState.{EngineState}
use Rattle.st_model.specs.declared.state.PoolState.{PoolState}
use Rattle.st_model.specs.declared.state.TableState.{TableState}
use Rattle.st_model.specs.Answer.{accepted, refused}
use Rattle.st_model.specs.Checks.{halted}
use Rattle.st_model.specs.Local.{Outcome}
use Rattle.st_model.specs.Look.{Text, is_started}
use Rattle.st_model.specs.Parts.{own, pool_at, table_of}
use Rattle.st_model.specs.Step.{outcome, step}
use Rattle.st_model.specs.Valid.{IsValid}
use Rattle.st_model.proofs.Validity.{step-keeps}
use Rattle.st_rack.specs.Device.{State}
use Rattle.st_rack.specs.Calls.{Devices}
use Rattle.st_table.specs.declared.halted.HaltedInfo.{HaltedInfo}
use Rattle.st_table.specs.Stands.{Stands, info_in}
use Rattle.st_table.specs.Steps.{StandsFor, kept, with_other}
use Rattle.st_table.specs.Table.{IsFree, TablePool, TableView, changed, halted_as, is_taken, pool_named, with_instead, without}
use Rattle.st_pool.specs.declared.reply.PoolReply.{PoolReply}
use Rattle.st_pool.specs.Answered.{answered}
use Rattle.st_pool.specs.Halts.{HaltedView}
use Rattle.st_pool.specs.View.{PoolView}
use Rattle.st_board.specs.Changes.{HasTurned}
use Rattle.st_board.specs.Ran.{AreAll, HasRun}
use Rattle.st_board.specs.View.{BoardView}
use Rattle.st_leaving.specs.Leaving.{OneHasStopped}
use Rattle.st_outcomes.specs.Stopping.{HaltsTold, MayHalt, StopOutcomes, StopsAs}
use Rattle.st_outcomes.specs.Told.{TellsStarted}

module _ (outcomes : StopOutcomes) (stays : StopsAs) (s : EngineState) (p : PoolState) (valid : IsValid s) (here : pool_at p.name s.pools ≡ Some p) (started : is_started p.mode ≡ true) where
  abbrev after : EngineState
  after = with_other p.name (halted p) s

  out : outcome s (StopPool p.name) Plain ≡ Some (accepted (Changed true (Some (Pool p.serial))), after)
  out = outcomes.started s p.name p valid here started

  step_is : step s (StopPool p.name) Plain ≡ (accepted (Changed true (Some (Pool p.serial))), after)
  step_is = ap (λ (o : Outcome). unwrap_or o (refused OutOfMemory, s)) out

  valid_after : IsValid after
  valid_after = subst (λ (x : Reply × EngineState). IsValid x.1) step_is (step-keeps s (StopPool p.name) Plain valid)

  pub table_is : (name : Text) → p.name ≡ name → table_of (step s (StopPool name) Plain).1 ≡ table_of after
  table_is name e = subst (λ (n : Text). table_of (step s (StopPool n) Plain).1 ≡ table_of after) e (ap (λ (x : Reply × EngineState). table_of x.1) step_is)

  pub stands_now : (name : Text) → p.name ≡ name → (u : TableState) → u ≡ table_of (step s (StopPool name) Plain).1 → (view : TableView) → StandsFor view (with_other name (halted p) s) → Stands view u
  stands_now name e u is view stands = subst (Stands view) (sym (is ∙ table_is name e)) (subst (λ (n : Text). StandsFor view (with_other n (halted p) s)) (sym e) stands)

  pub turned : (name : Text) → p.name ≡ name → (t u : TableState) → t ≡ table_of s → u ≡ table_of (step s (StopPool name) Plain).1 → HasTurned t u false (halted p)
  turned name e t u was is = record {
    state = s;
    pool = p;
    turns = record { before = valid; here = here; after = valid_after; serial = (stays p started).serial; uses_same = λ path. (stays p started).uses path };
    was = sym was;
    is = sym (is ∙ table_is name e);
    started = started;
    mode = (stays p started).idle;
  }

  pub stopped_run : {D : Type 0} (devs : D → Devices) (moment : D → ℕ) (state_at : D → ℕ → State) (faults : D → ℕ) → OneHasStopped devs moment state_at faults
      → (cells : List (PoolView D)) (i : ℕ) (old : PoolView D) (h : HaltedView D) (was b : BoardView D) (answer : PoolReply) (name : Text) (u : TableState) (spare : Bool)
      → AreAll devs moment state_at faults s cells was → slice_get cells i ≡ Some old → old.pool ≡ p → p.name ≡ name → answer ≡ answered Plain (accepted (Changed true (Some (Pool p.serial))))
      → u ≡ table_of (step s (StopPool name) Plain).1 → spare ≡ true → b ≡ record was { state = u; spare = spare; halted = was.halted ++ h ∷ [] } → h.faults ≡ old.faults
      → HasRun devs moment state_at faults s (StopPool name) answer cells was (remove cells i) b
  stopped_run devs moment state_at faults law cells i old h was b answer name u spare all at same e is state there board counts = law s (StopPool name) answer cells i old (halted p) h was b (record {
    leaves = record {
      all = all;
      at = at;
      out = subst (λ (a : PoolReply). outcome s (StopPool name) a.env ≡ Some (a.reply, with_other old.pool.name (halted p) s)) (sym is)
          (subst (λ (q : PoolState). outcome s (StopPool name) Plain ≡ Some (accepted (Changed true (Some (Pool p.serial))), with_other q.name (halted p) s)) (sym same)
          (subst (λ (n : Text). outcome s (StopPool n) Plain ≡ Some (accepted (Changed true (Some (Pool p.serial))), after)) e out));
      twin = subst (λ (a : PoolReply). a.twin ≡ a.reply) (sym is) refl;
      low = ap (λ (a : PoolReply). a.low) is;
      calm = ap (λ (a : PoolReply). Rattle.st_pool.specs.Answered.is_device_fault a.env) is;
      table = ap (λ (x : BoardView _). x.state) board ∙ (state ∙ (table_is name e ∙ ap (λ (q : PoolState). table_of (with_other q.name (halted p) s)) (sym same)));
      shown = ap (λ (x : BoardView _). x.spare) board ∙ there;
    };
    name = (stays p started).name ∙ ap (λ (q : PoolState). q.name) (sym same);
    idle = (stays p started).idle;
    board = board ∙ sym (ap (λ (x : BoardView _). record was { state = x.state; spare = x.spare; halted = was.halted ++ h ∷ [] }) board);
    counts = counts;
  })

-- ---- the table after it

module _ (tells : TellsStarted) (law : HaltsTold) (view : TableView) (s : EngineState) (p : PoolState) (info : HaltedInfo) (name : Text) (e : p.name ≡ name)
    (premises : IsValid s × StandsFor view s × (own name s ≡ Some p)) (is_info : info_in (halted p) (halted p).mode ≡ Some info) where
  own_is_it : own p.name s ≡ Some p
  own_is_it = subst (λ (n : Text). own n s ≡ Some p) (sym e) premises.2

  may : MayHalt view s p info
  may = law view s p info premises.0 premises.1 own_is_it is_info

  pub new_free : IfSome info.new (λ new. is_taken new (without name view.pools) ≡ false)
  new_free = subst (λ (n : Text). IfSome info.new (λ new. is_taken new (without n view.pools) ≡ false)) e may.new

  pub devices_free : AllByRecursion (IsFree (without name view.pools) view.devices) info.devs
  devices_free = subst (λ (n : Text). AllByRecursion (IsFree (without n view.pools) view.devices) info.devs) e may.free

  abbrev halted_view : Text → TablePool → TableView
  halted_view n x = record (changed view (with_instead n (halted_as info x) view.pools)) { spare = true }

  keeps : pool_named name view.pools ≡ Some (kept p)
  keeps = subst (λ (n : Text). pool_named n view.pools ≡ Some (kept p)) e (tells view s p premises.0 premises.1 own_is_it).keeps

  stands_after : StandsFor (halted_view name (kept p)) (with_other name (halted p) s)
  stands_after = subst (λ (n : Text). StandsFor (halted_view n (kept p)) (with_other n (halted p) s)) e may.stands

  pub table_told : (r : Result TableView NoMemory) → IfOk r (λ other. (pool : TablePool) → pool_named name view.pools ≡ Some pool → other ≡ halted_view name pool)
      → IfOk r (λ other. (other.spare ≡ true) × StandsFor other (with_other name (halted p) s))
  table_told (Ok other) h = (ap (λ (v : TableView). v.spare) (h (kept p) keeps), subst (λ (v : TableView). StandsFor v (with_other name (halted p) s)) (sym (h (kept p) keeps)) stands_after)
  table_told (Err x) h = tt
