-- the engine's board when a run begins and when it ends
use Rattle.std.proofs.Common.{◌≡◌, ℕ, ◌+◌, ◌*◌, ◌<◌, ◌≤◌, ◌^◌, min, length, List, [], map, Option, Some, None, refl, sym, ◌∙◌, ap, subst, arith}
use Rattle.std.specs.List.{AllByRecursion, IsDistinct}
use Rattle.st_wants.specs.declared.want.Want.TheVariants as wants
use Rattle.st_wants.specs.declared.want.Mode.TheVariants.{Write}
use Rattle.st_wants.specs.Lock.{start}
use Rattle.st_wants.specs.Rules.{lock_run}
use Rattle.st_model.specs.declared.state.EngineState.{EngineState}
use Rattle.st_model.specs.declared.state.PoolState.{PoolState}
use Rattle.st_model.specs.Parts.{pool_at, started, table_of}
use Rattle.st_model.specs.Pieces.{ArePools, every}
use Rattle.st_model.specs.Valid.{IsValid}
use Rattle.st_history.specs.declared.log.Event.{Event}
use Rattle.st_history.specs.Failures.{failures}
use Rattle.st_history.specs.History.{History, moves_of, replay}
use Rattle.st_book.specs.Stands.{PartStands}
use Rattle.st_rack.specs.Calls.{Devices}
use Rattle.st_rack.specs.Device.{State, held}
use Rattle.st_image.specs.Rack.{RackStands}
use Rattle.st_onestate.specs.Once.{TheState}
use Rattle.st_onestate.proofs.Once.{is_the_state}
use Rattle.st_pool.specs.View.{IsKeptOn, PoolView, now}
use Rattle.st_board.specs.Ran.{AreAll}
use Rattle.st_board.specs.View.{BoardView, faults_with, last, pools_of, slack_of}
use Rattle.st_running.specs.Part.{as_table}
use Rattle.st_begin.specs.Begun.{HasBegun}
use Rattle.st_closing.specs.Kept.{KeptRack}
use Rattle.st_laning.specs.LaneOrder.{LaneOrder}
use Rattle.st_laning.proofs.Laned.{laned-LaneOrder, laned_start}
use Rattle.st_session.specs.Headline.{Began, Counts, IsRunOf}
use Rattle.st_session.specs.inner.Ended.{HasRun, IsFresh}

-- the state that a rack tells
pub state_is : {D : Type 0} (devs : D → Devices) (moment : D → ℕ) (state_at : D → ℕ → State) (o r : D) (x : TheState (devs o) (held (now moment state_at o))) → o ≡ r → (e : EngineState) → RackStands (devs r) (held (now moment state_at r)) e
    → (s : EngineState) → s ≡ x.0 → s ≡ e
state_is devs moment state_at o r x same e stands s is =
    is ∙ is_the_state (devs o) (held (now moment state_at o)) e x (subst (λ (y : _). RackStands (devs y) (held (now moment state_at y)) e) (sym same) stands)

-- no pool is started, and there is no cell
no_pools : (s : EngineState) → started s ≡ [] → ArePools every s []
unfolding IsDistinct
no_pools s idle = record { apart = tt; found = λ n. sym (ap (pool_at n) idle) }

-- ten thousands of lines have few events
pub few_events : (events lines : ℕ) → events ≤ 3 * lines → lines ≤ 65536 → events < 2 ^ 62
few_events events lines short few = omega (arith, short, few)

module _ {D : Type 0} (devs : D → Devices) (moment : D → ℕ) (state_at : D → ℕ → State) where
  -- no line ran
  pub none_ran : (lanes : ℕ) (lines : List (List ℕ)) (s : EngineState) (log : List Event) (r : D) → log ≡ [] → KeptRack s (devs r) (now moment state_at r) → HasRun devs moment state_at lanes lines s log r
  none_ran lanes lines s log r none kept = subst (λ (l : List Event). HasRun devs moment state_at lanes lines s l r) (sym none) (record {
    history = tt;
    order = laned-LaneOrder lanes lines 0 0 [] (laned_start lanes lines);
    quiet = refl;
    kept = kept;
  })

  module _ (faults : D → ℕ) where
    pub all_fresh : (s t : EngineState) (b c : BoardView D) (cells : List (PoolView D)) → IsFresh s b → t ≡ s → c ≡ b → cells ≡ [] → AreAll devs moment state_at faults t cells c
    all_fresh s t b c cells h same_state same_board none =
        subst (λ (x : EngineState). AreAll devs moment state_at faults x cells c) (sym same_state)
        (subst (λ (x : BoardView D). AreAll devs moment state_at faults s cells x) (sym same_board)
        (subst (λ (x : List (PoolView D)). AreAll devs moment state_at faults s x b) (sym none) (record {
          valid = h.valid;
          pools = no_pools s h.idle;
          table = h.stands;
          kept = tt;
        })))

    pub all_home : (s : EngineState) (b : BoardView D) (cells : List (PoolView D)) → IsValid s → PartStands (wants.All Write) s (pools_of cells) (Some (as_table faults b)) → AllByRecursion (IsKeptOn devs moment state_at) cells
        → AreAll devs moment state_at faults s cells b
    all_home s b cells valid part kept = record {
      valid = valid;
      pools = record { apart = part.pools.apart; found = part.pools.found };
      table = (let same : Some b.state ≡ Some (table_of s) = part.board in cc);
      kept = kept;
    }

    -- each failure that is answered is counted
    pub all_counted : (base failed : ℕ) (b : BoardView D) (cells : List (PoolView D)) (r : D) → base ≤ slack_of faults b → failed ≡ faults_with cells b
        → (faults r < last → slack_of faults b + faults_with cells b ≤ faults r) → faults r < last → base + failed ≤ faults r
    all_counted base failed b cells r slack same counts less = let count = counts less in omega (arith, slack, same, count)

    pub none_counted : (b c : BoardView D) (cells : List (PoolView D)) (log : List Event) (r : D) → c ≡ b → log ≡ [] → (faults r < last → slack_of faults c + faults_with cells c ≤ faults r) → faults r < last → slack_of faults b + failures log ≤ faults r
    none_counted b c cells log r same none counts less =
        let count = subst (λ (x : BoardView D). slack_of faults x + faults_with cells x ≤ faults r) same (counts less) in
        let no_failure : failures log ≡ 0 = ap failures none in
        omega (arith, count, no_failure)

    module _ (spare : D → ℕ) (old : D) (b : BoardView D) (begun : HasBegun devs moment state_at faults spare old b) where
      pub fresh : (s : EngineState) → s ≡ begun.state → IsFresh s b
      fresh s is = subst (λ (x : EngineState). IsFresh x b) (sym is) (record {
        valid = begun.valid;
        idle = begun.idle;
        stands = begun.board.stands;
        shown = begun.board.shown;
        none = begun.board.none;
      })

      pub run_of : (lanes : ℕ) (lines : List (List ℕ)) (s : EngineState) (log : List Event) (r : D) → s ≡ begun.state → HasRun devs moment state_at lanes lines s log r → IsRunOf devs moment state_at faults old lanes lines log r
      run_of lanes lines s log r is ran = record {
        opening = s;
        began = subst (λ (x : EngineState). Began devs moment state_at faults old x) (sym is) (record { stood = begun.stood; valid = begun.valid; idle = begun.idle });
        history = ran.history;
        order = ran.order;
        quiet = ran.quiet;
        kept = ran.kept;
      }

      pub counts_of : (log : List Event) (r : D) → (faults r < last → slack_of faults b + failures log ≤ faults r) → Counts devs moment state_at faults old log r
      counts_of log r counts less =
          let count = counts less in
          let slack : min (faults old) last ≤ slack_of faults b = begun.slack in
          omega (arith, count, slack, less)
