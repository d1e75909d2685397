-- A CreatePool that made its pool, or was refused memory, has run.
use Rattle.std.proofs.Common.{◌≡◌, inl, inr, ℕ, zero, suc, get_or, ◌+◌, ◌-◌, ◌<◌, ◌≤◌, Bool, true, false, cond, nat_lt, length, map, List, [], ◌∷◌, ◌++◌, append-nil, Option, Some, None, is_some, refl, sym, ap, subst, ◌∙◌, arith}
use Rattle.std.specs.Prelude.{option_map, slice_get}
use Rattle.std.specs.List.{AllByRecursion, sum_by}
use Rattle.std.proofs.lemmas.List.{length-map, map-append}
use Rattle.std.proofs.lemmas.Option.{slice_get-map}
use Rattle.st_units.specs.Roomy.{Roomy}
use Rattle.st_units.specs.declared.cause.Cause.TheVariants.{DeviceFault, OutOfMemory}
use Rattle.st_model.specs.declared.call.Call.TheVariants.{CreatePool}
use Rattle.st_model.specs.declared.entry.Env.{Env}
use Rattle.st_model.specs.declared.entry.Env.TheVariants.{FaultWrite, NoMem, Plain}
use Rattle.st_model.specs.declared.info.PoolInfo.{PoolInfo}
use Rattle.st_model.specs.declared.reply.Given.TheVariants.{Created}
use Rattle.st_model.specs.declared.reply.Reply.{Reply}
use Rattle.st_model.specs.declared.state.EngineState.{EngineState}
use Rattle.st_model.specs.declared.state.KnownPool.{KnownPool}
use Rattle.st_model.specs.declared.state.PoolState.{PoolState}
use Rattle.st_model.specs.declared.state.TableState.{TableState}
use Rattle.st_model.specs.Answer.{accepted, refused, unless_answered}
use Rattle.st_model.specs.Local.{Outcome}
use Rattle.st_model.specs.Look.{Text, distinct}
use Rattle.st_model.specs.Parts.{own, pool_at, table_of, shown_table}
use Rattle.st_model.specs.Pieces.{ArePools, every}
use Rattle.st_model.specs.Shown.{pool_info}
use Rattle.st_model.specs.Step.{outcome, step}
use Rattle.st_model.specs.Valid.{IsValid}
use Rattle.st_model.specs.steps.CreatePool.{broken_pool, create_answer, create_plain, with_pool}
use Rattle.st_model.proofs.Fresh.{create_fresh}
use Rattle.st_model.proofs.Validity.{step-keeps}
use Rattle.st_rack.specs.Device.{State}
use Rattle.st_rack.specs.Calls.{Devices}
use Rattle.st_rack.specs.Moments.{Always}
use Rattle.st_rack.specs.Parts.{Splits}
use Rattle.st_image.specs.Kept.{Kept}
use Rattle.st_table.specs.Stands.{Stands}
use Rattle.st_cells.specs.Cells as cells_law
use Rattle.st_cells.specs.Tables.{TableWith}
use Rattle.st_creating.specs.declared.plan.Plan.{Plan}
use Rattle.st_creating.specs.Plan.{IsPlan, pool_made}
use Rattle.st_pool.specs.declared.reply.PoolReply.{PoolReply}
use Rattle.st_pool.specs.Answered.{answered, failed, is_device_fault}
use Rattle.st_pool.specs.View.{IsKeptOn, PoolView}
use Rattle.st_board.specs.Ran.{AreAll, HasRun, more}
use Rattle.st_board.specs.View.{BoardView, faults_of, faults_with, last, pools_of, slack_of}
use Rattle.st_founding.specs.Founding.{HasFounded, IsLeft, MayFound, new_table}
use Rattle.st_founding.proofs.Founding.{ready_new}
use Rattle.st_ran.specs.One.{NoneHasRun, NoneRuns}
use Rattle.st_ran.proofs.Sums.{All-from, All-last, sum_last}
use Rattle.st_create.specs.Made.{HasMade}

got : {A : Type 0} (xs : List A) (k : ℕ) (c d : A) → slice_get xs k ≡ Some c → get_or xs k d ≡ c
got [] zero c d e = absurd cc
got [] (suc k) c d e = absurd cc
got (x ∷ xs) zero c d e = cc
got (x ∷ xs) (suc k) c d e = got xs k c d e

module _ {D : Type 0} (devs : D → Devices) (moment : D → ℕ) (state_at : D → ℕ → State) (faults : D → ℕ) where
  -- what is shown of a pool of the state
  abbrev Shows : EngineState → PoolView D → Type 0
  Shows s c = c.spare ≡ false → option_map pool_info (own c.pool.name s) ≡ Some (pool_info c.pool)

  own_at : (each : cells_law.EachOwn) (s : EngineState) (cells : List (PoolView D)) → IsValid s → ArePools every s (pools_of cells) → (k : ℕ) (c : PoolView D) → slice_get cells k ≡ Some c → own c.pool.name s ≡ Some c.pool
  own_at each s cells valid pools k c e =
      (each s (pools_of cells) k c.pool valid pools (slice_get-map (λ (x : PoolView D). x.pool) cells k ∙ ap (λ (o : Option (PoolView D)). option_map (λ (x : PoolView D). x.pool) o) e)).0

  all_shown : (each : cells_law.EachOwn) (s : EngineState) (cells : List (PoolView D)) → IsValid s → ArePools every s (pools_of cells) → AllByRecursion (Shows s) cells
  all_shown each s cells valid pools = All-from (Shows s) cells (λ k c e. λ spare. ap (option_map pool_info) (own_at each s cells valid pools k c e))

  -- the info of the started pool of a name, which stands at a place
  pub own_some : (each : cells_law.EachOwn) (s : EngineState) (cells : List (PoolView D)) (name : Text) → IsValid s → ArePools every s (pools_of cells) → (k : ℕ) (c d : PoolView D) → slice_get cells k ≡ Some c → c.pool.name ≡ name
      → d ≡ get_or cells k d → (info : PoolInfo) → info ≡ pool_info d.pool → Some info ≡ option_map pool_info (own name s)
  own_some each s cells name valid pools k c d e named f info shown =
      ap Some (shown ∙ ap (λ (x : PoolView D). pool_info x.pool) (f ∙ got cells k c d e))
      ∙ (ap (option_map pool_info) (sym (own_at each s cells valid pools k c e)) ∙ ap (λ (n : Text). option_map pool_info (own n s)) named)

  -- one more place is there, since the model lets no more pools be
  pub has_room : (few : cells_law.NoMore) (s : EngineState) (name : Text) (paths : List Text) (cells : Roomy (PoolView D)) (b : BoardView D) → AreAll devs moment state_at faults s cells.items b → create_answer s name paths ≡ None
      → 16 ≤ length cells.items + cells.room → 1 ≤ cells.room
  has_room few s name paths cells b all unanswered places =
      let count = (create_fresh s name paths unanswered).count in
      let most = few s (pools_of cells.items) all.pools in
      let same = length-map cells.items (λ (c : PoolView D). c.pool) in
      omega (arith, places, count, most, same)

  -- the answer that makes no pool
  refused_so : (s : EngineState) (name : Text) (paths : List Text) (reply : Reply) (cells : List (PoolView D)) (b : BoardView D) → AreAll devs moment state_at faults s cells b → create_answer s name paths ≡ Some reply
      → NoneRuns devs moment state_at faults s (CreatePool name paths) (answered Plain reply) cells b
  unfolding create_plain
  refused_so s name paths reply cells b all told = record {
    all = all;
    out = ap (λ (a : Option Reply). Some (unless_answered a s (accepted (Created true (Some (s.next, distinct paths))), with_pool s (pool_made s name paths)))) told;
    twin = refl;
    low = refl;
    calm = refl;
  }

  no_memory_so : (s : EngineState) (name : Text) (paths : List Text) (cells : List (PoolView D)) (b : BoardView D) → AreAll devs moment state_at faults s cells b
      → NoneRuns devs moment state_at faults s (CreatePool name paths) (answered NoMem (refused OutOfMemory)) cells b
  no_memory_so s name paths cells b all = record { all = all; out = refl; twin = refl; low = refl; calm = refl }

  pub unmade : NoneHasRun devs moment state_at faults → (s : EngineState) (name : Text) (paths : List Text) (cells : List (PoolView D)) (b : BoardView D) → AreAll devs moment state_at faults s cells b
      → (answer : PoolReply) → answer ≡ answered NoMem (refused OutOfMemory) → HasRun devs moment state_at faults s (CreatePool name paths) answer cells b cells b
  unmade law s name paths cells b all answer is =
      subst (λ (a : PoolReply). HasRun devs moment state_at faults s (CreatePool name paths) a cells b cells b) (sym is)
      (law s (CreatePool name paths) (answered NoMem (refused OutOfMemory)) cells b (no_memory_so s name paths cells b all))

  pub told_so : NoneHasRun devs moment state_at faults → (s : EngineState) (name : Text) (paths : List Text) (reply : Reply) (cells : List (PoolView D)) (b : BoardView D) → AreAll devs moment state_at faults s cells b
      → create_answer s name paths ≡ Some reply → (answer : PoolReply) → answer ≡ answered Plain reply → HasRun devs moment state_at faults s (CreatePool name paths) answer cells b cells b
  told_so law s name paths reply cells b all told answer is =
      subst (λ (a : PoolReply). HasRun devs moment state_at faults s (CreatePool name paths) a cells b cells b) (sym is)
      (law s (CreatePool name paths) (answered Plain reply) cells b (refused_so s name paths reply cells b all told))

  -- memory was refused on the way to the devices
  pub left_runs : (each : cells_law.EachOwn) (s : EngineState) (name : Text) (paths : List Text) (cells : List (PoolView D)) (was b : BoardView D) → AreAll devs moment state_at faults s cells was → IsLeft faults was b
      → HasRun devs moment state_at faults s (CreatePool name paths) (answered NoMem (refused OutOfMemory)) cells was cells b
  left_runs each s name paths cells was b all left =
      let state : b.state ≡ was.state = ap (λ (v : BoardView D). v.state) left.same in
      record {
        licensed = refl;
        replied = refl;
        twin = refl;
        low = refl;
        all = record { valid = all.valid; pools = all.pools; table = state ∙ all.table; kept = all.kept };
        shown = all_shown each s cells all.valid all.pools;
        table_shown = λ none. ap shown_table (sym all.table ∙ sym state);
        counts = λ few. (let same : faults_with cells b ≡ faults_with cells was = ap (faults_with cells) left.same in omega (arith, same));
        slack = left.slack;
      }

  -- the pool was made, or is down
  module _ (added : cells_law.Added) (each : cells_law.EachOwn) (s : EngineState) (name : Text) (paths once : List Text) (env : Env) (reply : Reply) (cells : List (PoolView D)) (was b : BoardView D) (pool : PoolView D)
      (all : AreAll devs moment state_at faults s cells was) (f : HasFounded devs moment state_at faults s name paths once env reply was true pool b) where
    abbrev after : EngineState
    after = with_pool s pool.pool

    valid : IsValid after
    valid = subst (λ (x : Reply × EngineState). IsValid x.1) f.answers (step-keeps s (CreatePool name paths) env all.valid)

    pools_are : pools_of (cells ++ pool ∷ []) ≡ pools_of cells ++ pool.pool ∷ []
    pools_are = map-append (λ (c : PoolView D). c.pool) cells (pool ∷ [])

    all_after : AreAll devs moment state_at faults after (cells ++ pool ∷ []) b
    all_after = record {
      valid = valid;
      pools = subst (ArePools every after) (sym pools_are) (added s (pools_of cells) pool.pool all.valid valid f.started all.pools);
      table = f.stands;
      kept = All-last (IsKeptOn devs moment state_at) cells pool all.kept f.kept;
    }

    new_shown : Shows s pool
    new_shown none = absurd (let there = f.shown in cc)

    has_info : b.spare ≡ true
    has_info = ap (λ (v : BoardView D). v.spare) f.same

    board_faults : faults_of b ≡ faults_of was
    board_faults = ap faults_of f.same

    one_more : faults_with (cells ++ pool ∷ []) b ≡ faults_with cells was + more (is_device_fault env)
    one_more =
        let sum = sum_last (λ (c : PoolView D). c.faults) cells pool in
        let board = board_faults in
        let own = f.counts in
        omega (arith, sum, board, own)

    same_slack : slack_of faults b ≡ slack_of faults was
    same_slack =
        let past : b.past ≡ was.past = ap (λ (v : BoardView D). v.past) f.same in
        ap (λ (n : ℕ). cond (nat_lt n last) (n - b.past) last) f.free_counts ∙ ap (λ (n : ℕ). cond (nat_lt (faults was.free) last) (faults was.free - n) last) past

    pub founded_runs : HasRun devs moment state_at faults s (CreatePool name paths) (answered env reply) cells was (cells ++ pool ∷ []) b
    founded_runs = record {
      licensed = f.licensed;
      replied = ap (λ (x : Reply × EngineState). x.0) (sym f.answers);
      twin = refl;
      low = refl;
      all = subst (λ (x : Reply × EngineState). AreAll devs moment state_at faults x.1 (cells ++ pool ∷ []) b) (sym f.answers) all_after;
      shown = All-last (Shows s) cells pool (all_shown each s cells all.valid all.pools) new_shown;
      table_shown = λ none. absurd (let there = has_info in cc);
      counts = λ few. one_more;
      slack = (let same = same_slack in omega (arith, same));
    }

    pub founded_made : once ≡ distinct paths → HasMade devs moment state_at faults s name paths (answered env reply) cells was (cells ++ pool ∷ []) b
    founded_made each_once = inr (
      pool,
      refl,
      record {
        part = f.part;
        parted = subst (λ (ps : List Text). Splits devs moment state_at ps was.free b.free f.part) each_once f.parted;
        fresh = f.fresh;
        cause = f.cause;
        crash = subst (λ (ps : List Text). Always moment state_at (Kept (broken_pool s.next name ps) (devs pool.rack)) f.part pool.rack) each_once f.crash;
      },
    )

-- the plan is what founding asks for
module _ (s : EngineState) (name : Text) (paths : List Text) (p : Plan) (plan : IsPlan s name paths p) (t : TableState) (table : t ≡ table_of s) (valid : IsValid s) where
  pub may_found : MayFound s t p.name paths p.devs
  may_found = record { valid = valid; table = sym table; unanswered = subst (λ (n : Text). create_answer s n paths ≡ None) (sym plan.name_is) plan.unanswered; each_once = plan.devs }

  pub next_serial : p.serial ≡ t.next
  next_serial = plan.serial ∙ ap (λ (x : TableState). x.next) (sym table)

  known_new : (law : TableWith) → table_of (with_pool s (pool_made s name paths)) ≡ new_table name (distinct paths) (table_of s)
  known_new law =
      law s (pool_made s name paths) refl
      ∙ ap (λ (k : KnownPool). record (table_of s) { names = (table_of s).names ++ k ∷ []; next = s.next + 1 }) (ready_new s name (distinct paths)).known_is

  pub tells_new : TableWith → Stands p.table (new_table p.name p.devs t)
  tells_new law =
      subst (λ (n : Text). Stands p.table (new_table n p.devs t)) (sym plan.name_is)
      (subst (λ (ps : List Text). Stands p.table (new_table name ps t)) (sym plan.devs)
      (subst (λ (x : TableState). Stands p.table (new_table name (distinct paths) x)) (sym table)
      (subst (Stands p.table) (known_new law) plan.tells)))

-- by what became of the planned pool
module _ {D : Type 0} (devs : D → Devices) (moment : D → ℕ) (state_at : D → ℕ → State) (faults : D → ℕ) (added : cells_law.Added) (each : cells_law.EachOwn)
    (s : EngineState) (name : Text) (paths : List Text) (p : Plan) (plan : IsPlan s name paths p) (cells : List (PoolView D)) (was : BoardView D) (all : AreAll devs moment state_at faults s cells was) where
  abbrev Both : PoolReply → List (PoolView D) → BoardView D → Type 0
  Both answer after b = HasRun devs moment state_at faults s (CreatePool name paths) answer cells was after b × HasMade devs moment state_at faults s name paths answer cells was after b

  abbrev reply_made : Reply
  reply_made = accepted (Created true (Some (p.serial, p.devs)))

  reply_is : reply_made ≡ p.reply
  reply_is = ap (λ (n : ℕ). accepted (Created true (Some (n, p.devs)))) plan.serial ∙ (ap (λ (ps : List Text). accepted (Created true (Some (s.next, ps)))) plan.devs ∙ sym plan.reply)

  founded_both : (env : Env) (reply : Reply) (pool : PoolView D) (b : BoardView D) → HasFounded devs moment state_at faults s p.name paths p.devs env reply was p.table.spare pool b → (answer : PoolReply) → answer ≡ answered env reply
      → (after : List (PoolView D)) → after ≡ cells ++ pool ∷ [] → Both answer after b
  founded_both env reply pool b f answer is after items =
      let g = subst (λ (n : Text). HasFounded devs moment state_at faults s n paths p.devs env reply was p.table.spare pool b) plan.name_is f in
      let h = subst (λ (x : Bool). HasFounded devs moment state_at faults s name paths p.devs env reply was x pool b) plan.spare g in
      subst (λ (a : PoolReply). Both a after b) (sym is) (subst (λ (xs : List (PoolView D)). Both (answered env reply) xs b) (sym items)
      (founded_runs devs moment state_at faults added each s name paths p.devs env reply cells was b pool all h, founded_made devs moment state_at faults added each s name paths p.devs env reply cells was b pool all h plan.devs))

  pub ready_both : (pool : PoolView D) (b : BoardView D) → HasFounded devs moment state_at faults s p.name paths p.devs Plain reply_made was p.table.spare pool b → (answer : PoolReply) → answer ≡ answered Plain p.reply
      → (after : List (PoolView D)) → after ≡ cells ++ pool ∷ [] → Both answer after b
  ready_both pool b f answer is after items = founded_both Plain p.reply pool b (subst (λ (r : Reply). HasFounded devs moment state_at faults s p.name paths p.devs Plain r was p.table.spare pool b) reply_is f) answer is after items

  pub broken_both : (pool : PoolView D) (b : BoardView D) → HasFounded devs moment state_at faults s p.name paths p.devs FaultWrite (refused DeviceFault) was p.table.spare pool b → (answer : PoolReply) → answer ≡ failed
      → (after : List (PoolView D)) → after ≡ cells ++ pool ∷ [] → Both answer after b
  broken_both pool b f answer is after items = founded_both FaultWrite (refused DeviceFault) pool b f answer is after items

  pub left_both : (b : BoardView D) → IsLeft faults was b → (answer : PoolReply) → answer ≡ answered NoMem (refused OutOfMemory) → (after : List (PoolView D)) → after ≡ cells → Both answer after b
  left_both b left answer is after items =
      subst (λ (a : PoolReply). Both a after b) (sym is) (subst (λ (xs : List (PoolView D)). Both (answered NoMem (refused OutOfMemory)) xs b) (sym items)
      (left_runs devs moment state_at faults each s name paths cells was b all left, inl refl))
