-- one started pool does a call
use Rattle.std.proofs.Common.{◌≡◌, ℕ, ◌+◌, ◌<◌, Bool, true, false, ◌&&◌, List, [], ◌∷◌, ◌++◌, remove, Option, Some, None, is_some, refl, sym, ap, subst, ◌∙◌, arith}
use Rattle.std.specs.Prelude.{option_map, slice_get}
use Rattle.std.specs.List.{AllByRecursion, sum_by}
use Rattle.std.proofs.lemmas.List.{map-append}
use Rattle.std.proofs.lemmas.Option.{slice_get-map}
use Rattle.st_units.specs.declared.cause.Cause.TheVariants.{OutOfMemory}
use Rattle.st_model.specs.declared.call.Call.{Call}
use Rattle.st_model.specs.declared.info.PoolInfo.{PoolInfo}
use Rattle.st_model.specs.declared.reply.Reply.{Reply}
use Rattle.st_model.specs.declared.state.EngineState.{EngineState}
use Rattle.st_model.specs.declared.state.PoolState.{PoolState}
use Rattle.st_model.specs.Answer.{refused}
use Rattle.st_model.specs.Local.{Outcome}
use Rattle.st_model.specs.Look.{Text}
use Rattle.st_model.specs.Parts.{own, table_of}
use Rattle.st_model.specs.Pieces.{ArePools, every}
use Rattle.st_model.specs.Shown.{pool_info}
use Rattle.st_model.specs.Step.{IsLicensed, outcome, step}
use Rattle.st_model.specs.Valid.{IsValid}
use Rattle.st_model.proofs.Validity.{step-keeps}
use Rattle.st_rack.specs.Device.{State}
use Rattle.st_rack.specs.Calls.{Devices}
use Rattle.st_table.specs.Steps.{with_other}
use Rattle.st_beside.specs.Beside.{beside, put_back}
use Rattle.st_cells.specs.Cells as cells_law
use Rattle.st_cells.specs.Cells.{Becomes, others}
use Rattle.st_pool.specs.declared.reply.PoolReply.{PoolReply}
use Rattle.st_pool.specs.Answered.{counted, is_device_fault}
use Rattle.st_pool.specs.View.{IsKeptOn, PoolView, engine_of}
use Rattle.st_board.specs.Ran.{AreAll, HasRun, more}
use Rattle.st_board.specs.View.{BoardView, faults_with, last, pools_of}
use Rattle.st_ran.specs.One.{NoneHasRun, NoneRuns, OneHasRun, OneRuns}
use Rattle.st_ran.proofs.Sums.{All-from, All-last, All-taken, map-taken, sum_last, sum_taken}

-- what the outcome alone gives beside others
beside_some : (p : PoolState) (s : EngineState) (o here : Outcome) → here ≡ beside p s o → is_some o ≡ true → (a : Reply × EngineState) × (o ≡ Some a) × (here ≡ Some (a.0, put_back p a.1.pools s))
beside_some p s None here e k = absurd cc
beside_some p s (Some a) here e k = (a, refl, e)

-- counts stop at their last number, which isn't reached
counted_one : (b : Bool) (n : ℕ) → n < last → counted b n ≡ n + more b
counted_one true n h = omega (arith, h)
counted_one false n h = omega (arith, h)

same_name : (p q : PoolState) → pool_info q ≡ pool_info p → q.name ≡ p.name
unfolding pool_info
same_name p q e = ap (λ (i : PoolInfo). i.name) e

and_false : (t : Bool) → (t && false) ≡ false
and_false true = refl
and_false false = refl

module _ {D : Type 0} (devs : D → Devices) (moment : D → ℕ) (state_at : D → ℕ → State) (faults : D → ℕ)
    (taken : cells_law.TakenOut) (started : cells_law.Started) (each : cells_law.EachOwn)
    (s : EngineState) (call : Call) (answer : PoolReply) (cells : List (PoolView D)) (i : ℕ) (old new : PoolView D) (was b : BoardView D)
    (one : OneRuns devs moment state_at faults s call answer cells i old new was b) where
  abbrev after : EngineState
  after = with_other old.pool.name new.pool s

  ends : (outcome s call answer.env ≡ Some (answer.reply, after)) × IsLicensed s call answer.env
  ends =
      let found = beside_some old.pool s (outcome (engine_of old.pool (devs old.rack)) call answer.env) (outcome s call answer.env) one.alone one.runs.licensed in
      let a = found.0 in
      let alone : step (engine_of old.pool (devs old.rack)) call answer.env ≡ a = ap (λ (o : Outcome). Rattle.std.specs.Prelude.unwrap_or o (refused OutOfMemory, engine_of old.pool (devs old.rack))) found.1 in
      let reply : answer.reply ≡ a.0 = one.runs.replied ∙ ap (λ (x : Reply × EngineState). x.0) alone in
      let pools : a.1.pools ≡ new.pool ∷ [] = ap (λ (x : Reply × EngineState). x.1.pools) (sym alone) ∙ one.runs.becomes in
      let here = found.2 ∙ ap (λ (r : Reply). Some (r, put_back old.pool a.1.pools s)) (sym reply) ∙ ap (λ (ps : List PoolState). Some (answer.reply, put_back old.pool ps s)) pools in
      (here, ap is_some here)

  step_is : step s call answer.env ≡ (answer.reply, after)
  step_is = ap (λ (o : Outcome). Rattle.std.specs.Prelude.unwrap_or o (refused OutOfMemory, s)) ends.0

  valid : IsValid after
  valid = subst (λ (x : Reply × EngineState). IsValid x.1) step_is (step-keeps s call answer.env one.all.valid)

  at_pools : slice_get (pools_of cells) i ≡ Some old.pool
  at_pools = slice_get-map (λ (c : PoolView D). c.pool) cells i ∙ ap (λ (o : Option (PoolView D)). option_map (λ (c : PoolView D). c.pool) o) one.at

  own_old : (own old.pool.name s ≡ Some old.pool) × (Rattle.st_model.specs.Parts.pool_at old.pool.name s.pools ≡ Some old.pool)
  own_old = each s (pools_of cells) i old.pool one.all.valid one.all.pools at_pools

  pools_are : pools_of (remove cells i ++ new ∷ []) ≡ others old.pool.name (pools_of cells) ++ new.pool ∷ []
  pools_are =
      map-append (λ (c : PoolView D). c.pool) (remove cells i) (new ∷ [])
      ∙ ap (λ (ps : List PoolState). ps ++ new.pool ∷ []) (map-taken (λ (c : PoolView D). c.pool) cells i ∙ taken (pools_of cells) i old.pool one.all.pools.apart at_pools)

  becomes : Becomes s old.pool new.pool
  becomes = record { before = one.all.valid; here = own_old.1; after = valid; free = one.free }

  new_kept : IsKeptOn devs moment state_at new
  new_kept = record { kept = one.runs.kept; own = one.runs.own }

  all_after : AreAll devs moment state_at faults after (remove cells i ++ new ∷ []) b
  all_after = record {
    valid = valid;
    pools = subst (ArePools every after) (sym pools_are) (started s (pools_of cells) old.pool new.pool becomes one.started one.all.pools);
    table = one.table;
    kept = All-last (IsKeptOn devs moment state_at) (remove cells i) new (All-taken (IsKeptOn devs moment state_at) cells i one.all.kept) new_kept;
  }

  abbrev Shows : PoolView D → Type 0
  Shows c = c.spare ≡ false → option_map pool_info (own c.pool.name s) ≡ Some (pool_info c.pool)

  all_shown : AllByRecursion Shows cells
  all_shown = All-from Shows cells (λ k c e. λ none. ap (option_map pool_info) (each s (pools_of cells) k c.pool one.all.valid one.all.pools (slice_get-map (λ (x : PoolView D). x.pool) cells k ∙ ap (λ (o : Option (PoolView D)). option_map (λ (x : PoolView D). x.pool) o) e)).0)

  new_shown : Shows new
  new_shown none =
      let same = (one.runs.spare none).1 in
      ap (λ (n : Text). option_map pool_info (own n s)) (same_name old.pool new.pool same) ∙ ap (option_map pool_info) own_old.0 ∙ ap (λ (x : PoolInfo). Some x) (sym same)

  abbrev faults_in : PoolView D → ℕ
  faults_in c = c.faults

  one_more : faults_with cells was < last → faults_with (remove cells i ++ new ∷ []) b ≡ faults_with cells was + more (is_device_fault answer.env)
  one_more few =
      let before = sum_taken faults_in cells i old one.at in
      let now = sum_last faults_in (remove cells i) new in
      let risen = one.runs.counts ∙ counted_one (is_device_fault answer.env) old.faults (omega (arith, before, few)) in
      let board = one.same_faults in
      omega (arith, before, now, risen, board)

  runs : HasRun devs moment state_at faults s call answer cells was (remove cells i ++ new ∷ []) b
  runs = record {
    licensed = ends.1;
    replied = ap (λ (x : Reply × EngineState). x.0) (sym step_is);
    twin = one.runs.twin;
    low = one.runs.low ∙ and_false (Rattle.st_model.specs.Look.is_up new.pool.mode);
    all = subst (λ (x : Reply × EngineState). AreAll devs moment state_at faults x.1 (remove cells i ++ new ∷ []) b) (sym step_is) all_after;
    shown = All-last Shows (remove cells i) new (All-taken Shows cells i all_shown) new_shown;
    table_shown = one.shown;
    counts = one_more;
    slack = (let same = one.same_slack in omega (arith, same));
  }

pub one_ran : {D : Type 0} (devs : D → Devices) (moment : D → ℕ) (state_at : D → ℕ → State) (faults : D → ℕ)
    → cells_law.TakenOut → cells_law.Started → cells_law.EachOwn → OneHasRun devs moment state_at faults
one_ran devs moment state_at faults taken started each s call answer cells i old new was b one = runs devs moment state_at faults taken started each s call answer cells i old new was b one

module _ {D : Type 0} (devs : D → Devices) (moment : D → ℕ) (state_at : D → ℕ → State) (faults : D → ℕ) (each : cells_law.EachOwn)
    (s : EngineState) (call : Call) (answer : PoolReply) (cells : List (PoolView D)) (b : BoardView D) (none : NoneRuns devs moment state_at faults s call answer cells b) where
  still : step s call answer.env ≡ (answer.reply, s)
  still = ap (λ (o : Outcome). Rattle.std.specs.Prelude.unwrap_or o (refused OutOfMemory, s)) none.out

  no_more_faults : faults_with cells b ≡ faults_with cells b + more (is_device_fault answer.env)
  no_more_faults = let calm = ap more none.calm in omega (arith, calm)

  none_runs : HasRun devs moment state_at faults s call answer cells b cells b
  none_runs = record {
    licensed = ap is_some none.out;
    replied = ap (λ (x : Reply × EngineState). x.0) (sym still);
    twin = none.twin;
    low = none.low;
    all = subst (λ (x : Reply × EngineState). AreAll devs moment state_at faults x.1 cells b) (sym still) none.all;
    shown = All-from (λ (c : PoolView D). c.spare ≡ false → option_map pool_info (own c.pool.name s) ≡ Some (pool_info c.pool)) cells
        (λ k c e. λ spare. ap (option_map pool_info) (each s (pools_of cells) k c.pool none.all.valid none.all.pools (slice_get-map (λ (x : PoolView D). x.pool) cells k ∙ ap (λ (o : Option (PoolView D)). option_map (λ (x : PoolView D). x.pool) o) e)).0);
    table_shown = λ spare. ap Rattle.st_model.specs.Parts.shown_table (sym none.all.table);
    counts = λ few. no_more_faults;
    slack = omega arith;
  }

pub none_ran : {D : Type 0} (devs : D → Devices) (moment : D → ℕ) (state_at : D → ℕ → State) (faults : D → ℕ)
    → cells_law.EachOwn → NoneHasRun devs moment state_at faults
none_ran devs moment state_at faults each s call answer cells b none = none_runs devs moment state_at faults each s call answer cells b none
