-- a started pool leaves the others
use Rattle.std.proofs.Common.{◌≡◌, inl, ℕ, ◌+◌, ◌<◌, ◌≤◌, ◌-◌, min, nat_lt, Bool, true, false, cond, List, [], ◌∷◌, ◌++◌, remove, Option, Some, None, is_some, unwrap_or, refl, sym, ap, subst, ◌∙◌, arith}
use Rattle.std.specs.Prelude.{option_map, slice_get}
use Rattle.std.specs.List.{AllByRecursion, sum_by}
use Rattle.std.proofs.lemmas.Grind.{common_steps}
use Rattle.std.proofs.lemmas.Option.{slice_get-map}
use Rattle.st_units.specs.declared.cause.Cause.TheVariants.{OutOfMemory}
use Rattle.st_model.specs.declared.call.Call.{Call}
use Rattle.st_model.specs.declared.reply.Reply.{Reply}
use Rattle.st_model.specs.declared.state.EngineState.{EngineState}
use Rattle.st_model.specs.declared.state.PoolState.{PoolState}
use Rattle.st_model.specs.Answer.{refused}
use Rattle.st_model.specs.Local.{Outcome}
use Rattle.st_model.specs.Parts.{own, pool_at, shown_table, table_of}
use Rattle.st_model.specs.Pieces.{ArePools, every}
use Rattle.st_model.specs.Shown.{pool_info}
use Rattle.st_model.specs.Step.{step}
use Rattle.st_model.specs.Valid.{IsValid}
use Rattle.st_model.proofs.Validity.{step-keeps}
use Rattle.st_rack.specs.Device.{State}
use Rattle.st_rack.specs.Calls.{Devices}
use Rattle.st_table.specs.Steps.{with_other}
use Rattle.st_cells.specs.Cells as cells_law
use Rattle.st_cells.specs.Cells.{others}
use Rattle.st_pool.specs.declared.reply.PoolReply.{PoolReply}
use Rattle.st_pool.specs.Answered.{is_device_fault}
use Rattle.st_pool.specs.Halts.{HaltedView}
use Rattle.st_pool.specs.View.{IsKeptOn, PoolView}
use Rattle.st_board.specs.Changes.{without}
use Rattle.st_board.specs.Ran.{AreAll, HasRun, more}
use Rattle.st_board.specs.View.{BoardView, faults_of, faults_with, last, pools_of, slack_of}
use Rattle.st_ran.proofs.Sums.{All-from, All-taken, map-taken, sum_last, sum_taken}
use Rattle.st_leaving.specs.Leaving.{Leaves, OneGoes, OneHasGone, OneHasStopped, OneStops}

abbrev faults_in : {D : Type 0} → PoolView D → ℕ
faults_in c = c.faults

module _ {D : Type 0} (devs : D → Devices) (moment : D → ℕ) (state_at : D → ℕ → State) (faults : D → ℕ)
    (taken : cells_law.TakenOut) (each : cells_law.EachOwn)
    (s after : EngineState) (call : Call) (answer : PoolReply) (cells : List (PoolView D)) (i : ℕ) (old : PoolView D) (was b : BoardView D)
    (one : Leaves devs moment state_at faults s after call answer cells i old was b) where
  step_is : step s call answer.env ≡ (answer.reply, after)
  step_is = ap (λ (o : Outcome). unwrap_or o (refused OutOfMemory, s)) one.out

  pub valid : IsValid after
  valid = subst (λ (x : Reply × EngineState). IsValid x.1) step_is (step-keeps s call answer.env one.all.valid)

  at_pools : slice_get (pools_of cells) i ≡ Some old.pool
  at_pools = slice_get-map (λ (c : PoolView D). c.pool) cells i ∙ ap (λ (o : Option (PoolView D)). option_map (λ (c : PoolView D). c.pool) o) one.at

  pub here : pool_at old.pool.name s.pools ≡ Some old.pool
  here = (each s (pools_of cells) i old.pool one.all.valid one.all.pools at_pools).1

  pools_are : pools_of (remove cells i) ≡ others old.pool.name (pools_of cells)
  pools_are = map-taken (λ (c : PoolView D). c.pool) cells i ∙ taken (pools_of cells) i old.pool one.all.pools.apart at_pools

  abbrev Shows : PoolView D → Type 0
  Shows c = c.spare ≡ false → option_map pool_info (own c.pool.name s) ≡ Some (pool_info c.pool)

  all_shown : AllByRecursion Shows cells
  all_shown = All-from Shows cells (λ k c e. λ none. ap (option_map pool_info) (each s (pools_of cells) k c.pool one.all.valid one.all.pools (slice_get-map (λ (x : PoolView D). x.pool) cells k ∙ ap (λ (o : Option (PoolView D)). option_map (λ (x : PoolView D). x.pool) o) e)).0)

  -- with the pools that are left, their counts and the board's
  has_run : ArePools every after (others old.pool.name (pools_of cells)) → (faults_with cells was < last → faults_with (remove cells i) b ≡ faults_with cells was) → slack_of faults was ≤ slack_of faults b
      → HasRun devs moment state_at faults s call answer cells was (remove cells i) b
  has_run pools counts slack = record {
    licensed = ap is_some one.out;
    replied = ap (λ (x : Reply × EngineState). x.0) (sym step_is);
    twin = one.twin;
    low = one.low;
    all = subst (λ (x : Reply × EngineState). AreAll devs moment state_at faults x.1 (remove cells i) b) (sym step_is) (record {
      valid = valid;
      pools = subst (ArePools every after) (sym pools_are) pools;
      table = one.table;
      kept = All-taken (IsKeptOn devs moment state_at) cells i one.all.kept;
    });
    shown = All-taken Shows cells i all_shown;
    table_shown = λ none. absurd (let there = one.shown in cc);
    counts = λ few. (let same = counts few in let calm = ap more one.calm in omega (arith, same, calm));
    slack = slack;
  }

-- counts stop at their last number, which isn't reached
module _ (past f sum rest all : ℕ) where
  stopped_counts : (new : ℕ) → new ≡ sum + f → rest + f ≡ all → min (past + sum) last + all < last → min (past + new) last + rest ≡ min (past + sum) last + all
  stopped_counts new e r few = grind (arith, common_steps)

  gone_counts : rest + f ≡ all → min (past + sum) last + all < last → min (min (past + f) last + sum) last + rest ≡ min (past + sum) last + all
  gone_counts r few = grind (arith, common_steps)

-- the free devices' count grows at least as much
gone_slack : (free past f more : ℕ) (joined : ℕ) → joined ≡ min (free + more) last → f ≤ more
    → cond (nat_lt free last) (free - past) last ≤ cond (nat_lt joined last) (joined - min (past + f) last) last
gone_slack free past f more joined e le = grind (arith, common_steps)

pub one_stopped : {D : Type 0} (devs : D → Devices) (moment : D → ℕ) (state_at : D → ℕ → State) (faults : D → ℕ)
    → cells_law.TakenOut → cells_law.Halted → cells_law.EachOwn → OneHasStopped devs moment state_at faults
one_stopped {D} devs moment state_at faults taken halted each s call answer cells i old new h was b one =
    has_run devs moment state_at faults taken each s (with_other old.pool.name new s) call answer cells i old was b one.leaves
    (halted s (pools_of cells) old.pool new (record { before = one.leaves.all.valid; here = here_is; after = valid_after; free = inl one.name }) one.name one.idle one.leaves.all.pools)
    (λ few. ap (λ (x : BoardView D). faults_with (remove cells i) x) one.board ∙ stopped_counts was.past old.faults (sum_by (λ (x : HaltedView D). x.faults) was.halted) (sum_by faults_in (remove cells i)) (sum_by faults_in cells)
    (sum_by (λ (x : HaltedView D). x.faults) (was.halted ++ h ∷ [])) (sum_last (λ (x : HaltedView D). x.faults) was.halted h ∙ ap (λ (n : ℕ). sum_by (λ (x : HaltedView D). x.faults) was.halted + n) one.counts) (sum_taken faults_in cells i old one.leaves.at) few)
    (let same : slack_of faults b ≡ slack_of faults was = ap (slack_of faults) one.board in omega (arith, same))
  where
    here_is : pool_at old.pool.name s.pools ≡ Some old.pool
    here_is = here devs moment state_at faults taken each s (with_other old.pool.name new s) call answer cells i old was b one.leaves

    valid_after : IsValid (with_other old.pool.name new s)
    valid_after = valid devs moment state_at faults taken each s (with_other old.pool.name new s) call answer cells i old was b one.leaves

pub one_gone : {D : Type 0} (devs : D → Devices) (moment : D → ℕ) (state_at : D → ℕ → State) (faults : D → ℕ)
    → cells_law.TakenOut → cells_law.Dropped → cells_law.EachOwn → OneHasGone devs moment state_at faults
one_gone {D} devs moment state_at faults taken dropped each s call answer cells i old rack was b one =
    has_run devs moment state_at faults taken each s (without old.pool s) call answer cells i old was b one.leaves
    (dropped s (pools_of cells) old.pool one.leaves.all.valid here_is one.leaves.all.pools)
    (λ few. ap (λ (x : BoardView D). faults_with (remove cells i) x) one.board ∙ gone_counts was.past old.faults (sum_by (λ (x : HaltedView D). x.faults) was.halted) (sum_by faults_in (remove cells i)) (sum_by faults_in cells) (sum_taken faults_in cells i old one.leaves.at) few)
    (subst (λ (x : BoardView D). slack_of faults was ≤ cond (nat_lt (faults b.free) last) (faults b.free - x.past) last) (sym one.board) (gone_slack (faults was.free) was.past old.faults (faults rack) (faults b.free) one.counts one.counted))
  where
    here_is : pool_at old.pool.name s.pools ≡ Some old.pool
    here_is = here devs moment state_at faults taken each s (without old.pool s) call answer cells i old was b one.leaves
