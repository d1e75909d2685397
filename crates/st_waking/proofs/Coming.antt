-- The pool was started, and joins the started ones.
use Rattle.std.proofs.Common.{◌≡◌, ◌⊎◌, inl, inr, ℕ, ◌<◌, ◌≤◌, ◌+◌, min, ◌||◌, Bool, true, false, cond, bytes_eq, length, map, append-nil, remove, unwrap_or, List, [], ◌∷◌, ◌++◌, Option, Some, None, is_some, refl, sym, ap, subst, ◌∙◌, arith}
use Rattle.std.specs.Prelude.{option_map}
use Rattle.std.specs.List.{AllByRecursion, sum_by}
use Rattle.std.proofs.lemmas.List.{length-map, map-append}
use Rattle.st_limits.specs.declared.TheConstants.{MAX_POOLS}
use Rattle.std.proofs.lemmas.Option.{slice_get-map}
use Rattle.std.proofs.lemmas.Slice.Eq.{bytes_eq-Decides}
use Rattle.st_units.specs.declared.cause.Cause.TheVariants.{OutOfMemory}
use Rattle.st_units.specs.declared.rows.DevRow.{DevRow}
use Rattle.st_model.specs.declared.call.Call.{Call}
use Rattle.st_model.specs.declared.call.Call.TheVariants.{StartPool}
use Rattle.st_model.specs.declared.call.PoolId.{PoolId}
use Rattle.st_model.specs.declared.call.PoolId.TheVariants.{ByName}
use Rattle.st_model.specs.declared.entry.Env.{Env}
use Rattle.st_model.specs.declared.reply.Reply.{Reply}
use Rattle.st_model.specs.declared.state.EngineState.{EngineState}
use Rattle.st_model.specs.declared.state.PoolMode.{PoolMode}
use Rattle.st_model.specs.declared.state.PoolState.{PoolState}
use Rattle.st_model.specs.declared.state.TableState.{TableState}
use Rattle.st_model.specs.Answer.{refused}
use Rattle.st_model.specs.Local.{Outcome}
use Rattle.st_model.specs.Look.{Text, flight_of, gives_name, holds, is_called, is_name_of, is_started, uses}
use Rattle.st_model.specs.Parts.{new_name, own, paths_taken, pool_at, table_of}
use Rattle.st_model.specs.Pieces.{ArePools, every}
use Rattle.st_model.specs.Shown.{pool_info}
use Rattle.st_model.specs.Step.{outcome, step}
use Rattle.st_model.specs.Valid.{IsValid}
use Rattle.st_model.specs.steps.StartPool.{started_reply}
use Rattle.st_model.proofs.Among.{IsBeside}
use Rattle.st_model.proofs.Validity.{step-keeps}
use Rattle.st_rack.specs.Device.{State}
use Rattle.st_rack.specs.Calls.{Devices}
use Rattle.st_table.specs.Steps.{with_other}
use Rattle.st_beside.specs.Beside.{beside}
use Rattle.st_cells.specs.Cells.{Becomes}
use Rattle.st_cells.proofs.Cells.{each_own, no_more, started_law}
use Rattle.st_pool.specs.declared.reply.PoolReply.{PoolReply}
use Rattle.st_pool.specs.Answered.{answered, is_device_fault}
use Rattle.st_pool.specs.Halts.{Halts, HaltedView}
use Rattle.st_pool.specs.Starts.{Starts}
use Rattle.st_pool.specs.View.{IsKeptOn, PoolView, engine_of}
use Rattle.st_board.specs.Changes.{Turns}
use Rattle.st_board.specs.Ran.{AreAll, HasRun, more}
use Rattle.st_board.specs.View.{BoardView, faults_with, last, pools_of, slack_of}
use Rattle.st_board.proofs.Serials.{uses_known}
use Rattle.st_startbeside.specs.Starts.{StartBeside}
use Rattle.st_startbeside.proofs.Before.{known_at}
use Rattle.st_meant.specs.Started.{IsStarted, StartMakes}
use Rattle.st_ran.proofs.Sums.{All-from, All-last, sum_last, sum_taken}
use Rattle.st_lent.specs.Lent.{HasWoken}
use Rattle.st_waking.specs.declared.ready.Ready.{Ready}
use Rattle.st_waking.specs.Taken.{IsSet, TellsNow}
use Rattle.st_waking.proofs.Taking.{all_others, beside_is, calm, down, here, met}

-- the pools that were started are shown as they were
pub old_shown : {D : Type 0} (s : EngineState) (cells : List (PoolView D)) → IsValid s → ArePools every s (pools_of cells)
    → AllByRecursion (λ (c : PoolView D). c.spare ≡ false → option_map pool_info (own c.pool.name s) ≡ Some (pool_info c.pool)) cells
old_shown {D} s cells valid pools =
    All-from (λ (c : PoolView D). c.spare ≡ false → option_map pool_info (own c.pool.name s) ≡ Some (pool_info c.pool)) cells
    (λ k c e. λ none. ap (option_map pool_info) (each_own s (pools_of cells) k c.pool valid pools (slice_get-map (λ (x : PoolView D). x.pool) cells k ∙ ap (λ (o : Option (PoolView D)). option_map (λ (x : PoolView D). x.pool) o) e)).0)

length_one : {A : Type 0} (xs : List A) (x : A) → length (xs ++ x ∷ []) ≡ length xs + 1
length_one [] x = refl
length_one (y ∷ ys) x = let rest = length_one ys x in omega (arith, rest)

-- a place is taken, and none is lost
pub more_places : {A : Type 0} (old : List A) (x : A) (new : List A) (m n : ℕ) → new ≡ old ++ x ∷ [] → m ≤ n + 1 → length old + m ≤ length new + n
more_places old x new m n is le = let longer = ap length is ∙ length_one old x in omega (arith, longer, le)

or_first : (a b : Bool) → (a || b) ≡ false → a ≡ false
or_first true b e = absurd cc
or_first false b e = refl

or_second : (a b : Bool) → b ≡ true → (a || b) ≡ true
or_second true b e = refl
or_second false b e = e

-- where no other pool holds the name, none has it
unnamed : (rows : List DevRow) (p : PoolState) (name : Text) (ps : List PoolState) → AllByRecursion (IsBeside rows p) ps → holds name p ≡ true → bytes_eq p.name name ≡ false → pool_at name ps ≡ None
unnamed rows p name [] h on off = refl
unnamed rows p name (x ∷ ps) h on off = by h.0 (unnamed rows p name ps h.1 on off)
  where
    by : IsBeside rows p x → pool_at name ps ≡ None → pool_at name (x ∷ ps) ≡ None
    by (inl e) rest = ap (λ (b : Bool). cond b (Some x) (pool_at name ps)) (ap (λ (y : PoolState). is_called name y) e ∙ off) ∙ rest
    by (inr o) rest = ap (λ (b : Bool). cond b (Some x) (pool_at name ps)) (or_first (is_called name x) _ (o.names name on)) ∙ rest

given_held : (name : Text) (flight : Option Call) → new_name flight ≡ Some name → gives_name name flight ≡ true
given_held name None e = absurd cc
given_held name (Some call) e = by (Rattle.st_model.specs.Look.name_given call) e
  where
    by : (o : Option Text) → o ≡ Some name → is_name_of name o ≡ true
    by None k = absurd cc
    by (Some new) k = let same : new ≡ name = cc in (bytes_eq-Decides new name).1 same

module _ {D : Type 0} (devs : D → Devices) (moment : D → ℕ) (state_at : D → ℕ → State) (faults : D → ℕ) (s : EngineState) (id : PoolId) (cells : List (PoolView D)) (was : BoardView D)
    (all : AreAll devs moment state_at faults s cells was) (r : Ready) (p : PoolState) (h : HaltedView D) (set : IsSet devs s id was.halted r p h) (halts : Halts devs moment state_at p h)
    (law : StartBeside) (makes : StartMakes) (env : Env) (new : PoolView D) (starts : Starts devs moment state_at faults p h env new) where
  abbrev q : PoolState
  q = new.pool

  abbrev after : EngineState
  after = with_other p.name q s

  at_home : pool_at p.name s.pools ≡ Some p
  at_home = here devs moment state_at faults s id cells was all r p h set

  halted : is_started p.mode ≡ false
  halted = down devs moment state_at faults s id cells was all r p h set

  out : outcome s (StartPool id) env ≡ Some (started_reply p, after)
  out = beside_is devs moment state_at faults s id cells was all r p h set halts law env ∙ ap (beside p s) starts.answers

  step_is : step s (StartPool id) env ≡ (started_reply p, after)
  step_is = ap (λ (o : Outcome). unwrap_or o (refused OutOfMemory, s)) out

  so : IsStarted p q
  so = makes id p q s (engine_of p (devs h.rack)) (engine_of q (devs h.rack)) env (met devs moment state_at faults s id cells was all r p h set halts) halted starts.answers refl

  valid_after : IsValid after
  valid_after = subst (λ (x : _). IsValid x.1) step_is (step-keeps s (StartPool id) env all.valid)

  up : is_started q.mode ≡ true
  up = ap is_started so.mode

  -- it uses the same devices
  same_use : (path : Text) → uses path q ≡ uses path p
  same_use path =
      sym (uses_known path q)
      ∙ (ap (λ (ps : List Text). Rattle.st_model.specs.Look.has_path path ps)
      (ap (λ (m : PoolMode). map (λ (row : DevRow). row.path) q.devices ++ paths_taken (flight_of m)) so.mode ∙ (append-nil (map (λ (row : DevRow). row.path) q.devices) ∙ so.devices))
      ∙ uses_known path p)

  turns : Turns s p q
  turns = record { before = all.valid; here = at_home; after = valid_after; serial = so.serial; uses_same = same_use }

  -- it keeps its name, or takes one that no pool has
  free : (q.name ≡ p.name) ⊎ (pool_at q.name s.pools ≡ None)
  free = by so.name
    where
      by : (q.name ≡ p.name) ⊎ (new_name (flight_of p.mode) ≡ Some q.name) → (q.name ≡ p.name) ⊎ (pool_at q.name s.pools ≡ None)
      by (inl e) = inl e
      by (inr e) = same_or (bytes_eq p.name q.name) refl
        where
          same_or : (b : Bool) → bytes_eq p.name q.name ≡ b → (q.name ≡ p.name) ⊎ (pool_at q.name s.pools ≡ None)
          same_or true k = inl (sym ((bytes_eq-Decides p.name q.name).0 k))
          same_or false k = inr (unnamed s.devices p q.name s.pools (known_at s p all.valid at_home).placed.beside (or_second (bytes_eq p.name q.name) _ (given_held q.name (flight_of p.mode) e)) k)

  becomes : Becomes s p q
  becomes = record { before = all.valid; here = at_home; after = valid_after; free = free }

  pub has_woken : (t u : TableState) (n : ℕ) → t ≡ was.state → u ≡ table_of (step s (StartPool id) env).1 → n ≡ h.serial → HasWoken t u n
  has_woken t u n t_is u_is n_is = record {
    state = s;
    pool = p;
    new = q;
    turns = turns;
    was = sym (t_is ∙ all.table);
    is = sym (u_is ∙ ap (λ (x : Reply × EngineState). table_of x.1) step_is);
    serial = sym (n_is ∙ set.serial);
    halted = halted;
    up = up;
  }

  -- the table tells of it
  pub tells_now : (u : TableState) (same : Bool) → u ≡ table_of (step s (StartPool id) env).1 → same ≡ bytes_eq q.name p.name → TellsNow same u r.tables
  tells_now u same u_is same_is = subst (λ (x : TableState). TellsNow same x r.tables) (sym (u_is ∙ ap (λ (x : Reply × EngineState). table_of x.1) step_is)) (by same same_is)
    where
      by : (b : Bool) → b ≡ bytes_eq q.name p.name → TellsNow b (table_of after) r.tables
      by true e = (set.tell.started q so ((bytes_eq-Decides q.name p.name).0 (sym e)) valid_after, set.tell.started_spare)
      by false e =
          let one = set.tell.renamed q so (λ k. let on : bytes_eq q.name p.name ≡ true = (bytes_eq-Decides q.name p.name).1 k in cc) valid_after in
          (one.0, one.1, one.3, one.2)

  calm_now : is_device_fault env ≡ false
  calm_now = calm (ByName p.name) (engine_of p (devs h.rack)) (engine_of q (devs h.rack)) (started_reply p) env starts.answers (λ k. omega (arith, k))

  new_kept : IsKeptOn devs moment state_at new
  new_kept = record { kept = starts.kept; own = starts.own }

  pools_after : ArePools every after (pools_of (cells ++ new ∷ []))
  pools_after = subst (ArePools every after) (sym (map-append (λ (c : PoolView D). c.pool) cells (new ∷ [])))
      (subst (λ (ps : List PoolState). ArePools every after (ps ++ q ∷ [])) (all_others devs moment state_at faults s id cells was all r p h set) (started_law s (pools_of cells) p q becomes up all.pools))

  length_last : {A : Type 0} (xs : List A) (x : A) → length (xs ++ x ∷ []) ≡ length xs + 1
  length_last [] x = refl
  length_last (y ∷ ys) x = let rest = length_last ys x in omega (arith, rest)

  -- there is a place for it among the started ones
  pub place_left : (room : ℕ) → MAX_POOLS ≤ length cells + room → 0 < room
  place_left room places =
      let most = no_more after (pools_of (cells ++ new ∷ [])) pools_after in
      let count = valid_after.count in
      let same : length (pools_of (cells ++ new ∷ [])) ≡ length (cells ++ new ∷ []) = length-map (cells ++ new ∷ []) (λ (c : PoolView D). c.pool) in
      let longer = length_last cells new in
      omega (arith, most, count, same, longer, places)

  module _ (b : BoardView D) (b_is : b ≡ record { state = table_of (step s (StartPool id) env).1; spare = true; free = was.free; halted = remove was.halted r.place; past = was.past }) where
    all_after : AreAll devs moment state_at faults after (cells ++ new ∷ []) b
    all_after = record {
      valid = valid_after;
      pools = pools_after;
      table = ap (λ (x : BoardView D). x.state) b_is ∙ ap (λ (x : Reply × EngineState). table_of x.1) step_is;
      kept = All-last (IsKeptOn devs moment state_at) cells new all.kept new_kept;
    }

    abbrev faults_in : PoolView D → ℕ
    faults_in c = c.faults

    abbrev halted_faults : HaltedView D → ℕ
    halted_faults x = x.faults

    counts : faults_with cells was < last → faults_with (cells ++ new ∷ []) b ≡ faults_with cells was + more (is_device_fault env)
    counts few =
        let gone = sum_taken halted_faults was.halted r.place h set.at in
        let come = sum_last faults_in cells new in
        let same = starts.counts in
        let none : more (is_device_fault env) ≡ 0 = ap more calm_now in
        let board : faults_with (cells ++ new ∷ []) b ≡ min (was.past + sum_by halted_faults (remove was.halted r.place)) last + sum_by faults_in (cells ++ new ∷ []) = ap (λ (x : BoardView D). faults_with (cells ++ new ∷ []) x) b_is in
        omega (arith, gone, come, same, none, board, few)

    pub has_come : HasRun devs moment state_at faults s (StartPool id) (answered env (started_reply p)) cells was (cells ++ new ∷ []) b
    has_come = record {
      licensed = ap is_some out;
      replied = ap (λ (x : Reply × EngineState). x.0) (sym step_is);
      twin = refl;
      low = refl;
      all = subst (λ (x : Reply × EngineState). AreAll devs moment state_at faults x.1 (cells ++ new ∷ []) b) (sym step_is) all_after;
      shown = All-last (λ (c : PoolView D). c.spare ≡ false → option_map pool_info (own c.pool.name s) ≡ Some (pool_info c.pool)) cells new (old_shown s cells all.valid all.pools)
          (λ none. absurd (let there = starts.spare in cc));
      table_shown = λ none. absurd (let there : b.spare ≡ true = ap (λ (x : BoardView D). x.spare) b_is in cc);
      counts = counts;
      slack = (let same : slack_of faults b ≡ slack_of faults was = ap (λ (x : BoardView D). slack_of faults x) b_is in omega (arith, same));
    }

  -- as the function has it
  pub came : (answer : PoolReply) (items : List (PoolView D)) (b : BoardView D) → answer ≡ answered env (started_reply p) → items ≡ cells ++ new ∷ []
      → b ≡ record { state = table_of (step s (StartPool id) env).1; spare = true; free = was.free; halted = remove was.halted r.place; past = was.past } → HasRun devs moment state_at faults s (StartPool id) answer cells was items b
  came answer items b answer_is items_is b_is =
      subst (λ (a : PoolReply). HasRun devs moment state_at faults s (StartPool id) a cells was items b) (sym answer_is)
      (subst (λ (ys : List (PoolView D)). HasRun devs moment state_at faults s (StartPool id) (answered env (started_reply p)) cells was ys b) (sym items_is) (has_come b b_is))
