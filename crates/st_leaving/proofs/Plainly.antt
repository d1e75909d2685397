-- a call that is answered so, for what it met
use Rattle.std.proofs.Common.{◌≡◌, ℕ, suc, zero, ◌+◌, Bool, true, false, cond, List, [], ◌∷◌, length, remove, Option, Some, None, refl, sym, ap, subst, ◌∙◌, arith}
use Rattle.std.specs.Prelude.{option_map, slice_get}
use Rattle.std.proofs.lemmas.Option.{slice_get-map}
use Rattle.st_model.specs.declared.call.Call.{Call}
use Rattle.st_model.specs.declared.entry.Env.{Env}
use Rattle.st_model.specs.declared.entry.Env.TheVariants.{Plain}
use Rattle.st_model.specs.declared.info.PoolInfo.{PoolInfo}
use Rattle.st_model.specs.declared.reply.Given.TheVariants.{Changed}
use Rattle.st_model.specs.declared.reply.Identity.TheVariants.{Pool}
use Rattle.st_model.specs.declared.reply.Reply.{Reply}
use Rattle.st_model.specs.declared.state.EngineState.{EngineState}
use Rattle.st_model.specs.declared.state.PoolState.{PoolState}
use Rattle.st_model.specs.Answer.{accepted}
use Rattle.st_model.specs.Look.{Text, is_started}
use Rattle.st_model.specs.Parts.{own, pool_at}
use Rattle.st_model.specs.Shown.{pool_info}
use Rattle.st_model.specs.Step.{outcome}
use Rattle.st_rack.specs.Device.{State}
use Rattle.st_rack.specs.Calls.{Devices}
use Rattle.st_table.specs.Stands.{Stands}
use Rattle.st_table.specs.Steps.{StandsFor}
use Rattle.st_table.specs.Table.{TableView, knows}
use Rattle.st_cells.specs.Cells.{EachOwn}
use Rattle.st_cells.proofs.Lookups.{keep, own_is}
use Rattle.st_pool.specs.declared.reply.PoolReply.{PoolReply}
use Rattle.st_pool.specs.Answered.{answered, is_device_fault}
use Rattle.st_pool.specs.View.{PoolView}
use Rattle.st_board.specs.Ran.{AreAll, HasRun}
use Rattle.st_board.specs.View.{BoardView, pools_of}
use Rattle.st_outcomes.specs.Told.{TellsUnstarted, UnstartedTold}
use Rattle.st_ran.specs.One.{NoneHasRun}

module _ {D : Type 0} (devs : D → Devices) (moment : D → ℕ) (state_at : D → ℕ → State) (faults : D → ℕ) (s : EngineState) (cells : List (PoolView D)) (b : BoardView D) (all : AreAll devs moment state_at faults s cells b) where
  -- it changed nothing
  pub nothing_done : NoneHasRun devs moment state_at faults → (call : Call) (env : Env) (reply : Reply) (answer : PoolReply) → answer ≡ answered env reply → outcome s call env ≡ Some (reply, s) → is_device_fault env ≡ false
      → HasRun devs moment state_at faults s call answer cells b cells b
  nothing_done law call env reply answer e out calm = law s call answer cells b (record {
    all = all;
    out = subst (λ (a : PoolReply). outcome s call a.env ≡ Some (a.reply, s)) (sym e) out;
    twin = subst (λ (a : PoolReply). a.twin ≡ a.reply) (sym e) refl;
    low = ap (λ (a : PoolReply). a.low) e;
    calm = subst (λ (a : PoolReply). is_device_fault a.env ≡ false) (sym e) calm;
  })

  -- no started pool has a name that none of the cells has
  pub none_own : (name : Text) → pool_at name (pools_of cells) ≡ None → own name s ≡ None
  none_own name none = sym (all.pools.found name) ∙ none

  -- the cell at a place is the state's pool
  pub own_at : EachOwn → (i : ℕ) (c : PoolView D) → slice_get cells i ≡ Some c → own c.pool.name s ≡ Some c.pool
  own_at each i c at = (each s (pools_of cells) i c.pool all.valid all.pools (slice_get-map (λ (x : PoolView D). x.pool) cells i ∙ ap (λ (o : Option (PoolView D)). option_map (λ (x : PoolView D). x.pool) o) at)).0

  -- the table of the board is that of the state
  pub stands_here : (view : TableView) → Stands view b.state → StandsFor view s
  stands_here view stands = subst (Stands view) all.table stands

  -- Where no started pool has the name, the answer is by whether the table knows it.
  pub unstarted_run : NoneHasRun devs moment state_at faults → TellsUnstarted → (call : Call) (env : Env) (name : Text) (view : TableView) (known unknown : Reply) (answer : PoolReply)
      → Stands view b.state → pool_at name (pools_of cells) ≡ None → is_device_fault env ≡ false
      → (knows name view.pools ≡ true → answer ≡ answered env known) → (knows name view.pools ≡ false → answer ≡ answered env unknown)
      → ((p : PoolState) → pool_at name s.pools ≡ Some p → is_started p.mode ≡ false → outcome s call env ≡ Some (known, s))
      → (pool_at name s.pools ≡ None → outcome s call env ≡ Some (unknown, s))
      → HasRun devs moment state_at faults s call answer cells b cells b
  unstarted_run law tells call env name view known unknown answer stands none calm if_known if_not idle nobody = by (knows name view.pools) refl
    where
      told : UnstartedTold view s name
      told = tells view s name all.valid (stands_here view stands) (none_own name none)

      by : (t : Bool) → knows name view.pools ≡ t → HasRun devs moment state_at faults s call answer cells b cells b
      by true e = let it = told.idle e in nothing_done law call env known answer (if_known e) (idle it.0 it.1 it.2) calm
      by false e = nothing_done law call env unknown answer (if_not e) (nobody (told.unknown e)) calm

  -- and it is started
  pub here_at : EachOwn → (i : ℕ) (c : PoolView D) → slice_get cells i ≡ Some c → pool_at c.pool.name s.pools ≡ Some c.pool
  here_at each i c at = (each s (pools_of cells) i c.pool all.valid all.pools (slice_get-map (λ (x : PoolView D). x.pool) cells i ∙ ap (λ (o : Option (PoolView D)). option_map (λ (x : PoolView D). x.pool) o) at)).1

  pub started_at : EachOwn → (i : ℕ) (c : PoolView D) → slice_get cells i ≡ Some c → is_started c.pool.mode ≡ true
  started_at each i c at =
      by (is_started c.pool.mode) (sym (own_is s.devices c.pool.name s.pools all.valid.apart ∙ ap keep (here_at each i c at)) ∙ own_at each i c at)
    where
      by : (t : Bool) → cond t (Some c.pool) None ≡ Some c.pool → t ≡ true
      by true e = refl
      by false e = absurd cc

-- ---- one taken out

pub same_at : {A : Type 0} (xs : List A) (i : ℕ) (a b : A) → slice_get xs i ≡ Some a → slice_get xs i ≡ Some b → a ≡ b
same_at xs i a b e f = cc

pub length_taken : {A : Type 0} (xs : List A) (i : ℕ) (a : A) → slice_get xs i ≡ Some a → length (remove xs i) + 1 ≡ length xs
length_taken [] zero a e = absurd cc
length_taken [] (suc i) a e = absurd cc
length_taken (x ∷ xs) zero a e = omega arith
length_taken (x ∷ xs) (suc i) a e = let rest = length_taken xs i a e in omega (arith, rest)

serial_in : (p : PoolState) (i : PoolInfo) → i ≡ pool_info p → i.serial ≡ p.serial
unfolding pool_info
serial_in p i e = ap (λ (x : PoolInfo). x.serial) e

-- the answer by an info of the pool
pub changed_by : (p : PoolState) (i : PoolInfo) (answer : PoolReply) → i ≡ pool_info p → answer ≡ answered Plain (accepted (Changed true (Some (Pool i.serial)))) → answer ≡ answered Plain (accepted (Changed true (Some (Pool p.serial))))
changed_by p i answer e is = is ∙ ap (λ (n : ℕ). answered Plain (accepted (Changed true (Some (Pool n))))) (serial_in p i e)
