-- a rename on all started pools and the board
use Rattle.std.proofs.Common.{◌≡◌, ℕ, zero, suc, ◌<◌, arith, Bool, true, false, cond, bytes_eq, List, [], ◌∷◌, ◌++◌, length, remove, Option, Some, None, IfSome, slice_get, refl, sym, ap, subst, ◌∙◌}
use Rattle.st_model.specs.declared.call.Call.TheVariants.{RenamePool}
use Rattle.st_model.specs.declared.entry.Env.{Env}
use Rattle.st_model.specs.declared.entry.Env.TheVariants.{Plain, FaultWrite}
use Rattle.st_model.specs.declared.state.EngineState.{EngineState}
use Rattle.st_model.specs.declared.state.PoolState.{PoolState}
use Rattle.st_model.specs.declared.state.TableState.{TableState}
use Rattle.st_model.specs.Look.{Text, flight_of, gives_name, is_started}
use Rattle.st_model.specs.Parts.{own, pool_at, shown_table, table_of}
use Rattle.st_model.specs.Step.{step}
use Rattle.st_model.specs.Valid.{IsValid}
use Rattle.st_rack.specs.Device.{State}
use Rattle.st_rack.specs.Calls.{Devices}
use Rattle.st_cells.proofs.Cells.{each_own, started_law, taken_out}
use Rattle.st_cells.proofs.Lookups.{eq_self, keep, own_is}
use Rattle.st_beside.specs.Beside.{RenameBeside}
use Rattle.st_beside.proofs.Beside.{same_in_place}
use Rattle.st_table.specs.Stands.{Stands}
use Rattle.st_table.specs.Steps.{with_other}
use Rattle.st_table.specs.Table.{TableView}
use Rattle.st_pool.specs.declared.reply.PoolReply.{PoolReply}
use Rattle.st_pool.specs.Runs.{Runs, never_low}
use Rattle.st_pool.specs.View.{PoolView, engine_of}
use Rattle.st_board.specs.Changes.{HasTurned, Turns}
use Rattle.st_board.specs.Ran.{AreAll, HasRun}
use Rattle.st_board.specs.View.{BoardView, pools_of}
use Rattle.st_ran.specs.One.{OneRuns}
use Rattle.st_ran.proofs.One.{none_ran, one_ran}
use Rattle.st_renaming.specs.declared.ready.Next.{Next}
use Rattle.st_renaming.specs.declared.ready.Plan.{Plan}
use Rattle.st_renaming.specs.inner.Answers.{ChangesNothing}
use Rattle.st_renaming.specs.inner.Ready.{IsFor, IsPlan}
use Rattle.st_renaming.proofs.Becoming.{Becomes, becomes_so, besides, name_free, not_given, same_serial, same_uses, state_is, still_started, valid_after}
use Rattle.std.proofs.lemmas.Option.{slice_get-map}
use Rattle.std.specs.Prelude.{IfNone, option_map}
use Rattle.st_order.proofs.Order.{eq_turned}
use Rattle.st_board.specs.View.{faults_of, slack_of}

-- a started pool is kept
kept_up : (p : PoolState) → keep (Some p) ≡ Some p → is_started p.mode ≡ true
kept_up p = by (is_started p.mode)
  where
    by : (b : Bool) → cond b (Some p) None ≡ Some p → b ≡ true
    by true k = refl
    by false k = absurd cc

module _ {D : Type 0} (devs : D → Devices) (moment : D → ℕ) (state_at : D → ℕ → State) (faults : D → ℕ) (s : EngineState) (cells : List (PoolView D)) (board : BoardView D) (all : AreAll devs moment state_at faults s cells board) where
  -- no started pool has a name that none of them has
  pub none_own : (name : Text) → pool_at name (pools_of cells) ≡ None → own name s ≡ None
  none_own name none = sym (all.pools.found name) ∙ none

  -- nothing has changed
  pub unmoved : (name new : Text) (answer : PoolReply) → ChangesNothing s (RenamePool name new) answer → HasRun devs moment state_at faults s (RenamePool name new) answer cells board cells board
  unmoved name new answer h = none_ran devs moment state_at faults each_own s (RenamePool name new) answer cells board (record { all = all; out = h.out; twin = h.twin; low = h.low; calm = h.calm })

  module _ (i : ℕ) (c : PoolView D) (at : slice_get cells i ≡ Some c) where
    own_here : (own c.pool.name s ≡ Some c.pool) × (pool_at c.pool.name s.pools ≡ Some c.pool)
    own_here = each_own s (pools_of cells) i c.pool all.valid all.pools (slice_get-map (λ (x : PoolView D). x.pool) cells i ∙ ap (λ (o : Option (PoolView D)). option_map (λ (x : PoolView D). x.pool) o) at)

    started : is_started c.pool.mode ≡ true
    started = kept_up c.pool (ap keep (sym own_here.1) ∙ (sym (own_is s.devices c.pool.name s.pools all.valid.apart) ∙ own_here.0))

    pub is_for : (table : TableView) → Stands table board.state → (name : Text) → c.pool.name ≡ name → IsFor s table name
    is_for table tells name named = record {
      valid = all.valid;
      stands = subst (Stands table) all.table tells;
      pool = c.pool;
      here = subst (λ (n : Text). pool_at n s.pools ≡ Some c.pool) named own_here.1;
      started = started;
    }

    module _ (new : Text) (plan : Plan) (ready : IsPlan s c.pool.name new plan) where
      -- the pool may be asked for the name
      pub may_ask : gives_name new (flight_of c.pool.mode) ≡ false
      may_ask = not_given s c.pool new all.valid own_here.1 ready.free

      module _ (law : RenameBeside) (answer : PoolReply) (q : PoolView D) (runs : Runs devs moment state_at faults never_low (RenamePool c.pool.name new) c answer q) where
        abbrev p : PoolState
        p = c.pool

        abbrev e : EngineState
        e = engine_of c.pool (devs c.rack)

        abbrev after : EngineState
        after = with_other p.name q.pool s

        becomes : Becomes p new answer.env q.pool
        becomes = becomes_so s p new all.valid own_here.1 ready.free law e refl answer.env answer.reply q.pool runs.licensed runs.replied runs.becomes

        after_is : (step s (RenamePool p.name new) answer.env).1 ≡ after
        after_is = state_is s p new all.valid own_here.1 ready.free law e refl answer.env answer.reply q.pool runs.licensed runs.replied runs.becomes

        valid_then : IsValid after
        valid_then = valid_after s p new all.valid own_here.1 ready.free law e refl answer.env answer.reply q.pool runs.licensed runs.replied runs.becomes

        turns : Turns s p q.pool
        turns = record {
          before = all.valid;
          here = own_here.1;
          after = valid_then;
          serial = same_serial p new answer.env q.pool becomes;
          uses_same = same_uses p new answer.env q.pool becomes;
        }

        -- the next table tells of what the pool has become; there is none where it is the same
        pub data Told (next : Option Next) : Type 0 where
          Nothing : next ≡ None → q.pool ≡ p → Told next
          One : (n : Next) → next ≡ Some n → n.state.value ≡ table_of after → Stands n.table (table_of after) → n.table.spare ≡ true → Told next

        module _ (next : Option Next) (failed : answer.env ≡ FaultWrite → next ≡ Some plan.down) (same : (answer.env ≡ FaultWrite → ⊥) → bytes_eq q.pool.name p.name ≡ true → next ≡ None)
            (done : (answer.env ≡ FaultWrite → ⊥) → bytes_eq q.pool.name p.name ≡ false → next ≡ Some plan.done) where
          by_state : (env : Env) → answer.env ≡ env → (state : TableState) → state ≡ table_of (step s (RenamePool p.name new) env).1 → state ≡ table_of after
          by_state env met state is = is ∙ (ap (λ (m : Env). table_of (step s (RenamePool p.name new) m).1) (sym met) ∙ ap table_of after_is)

          told_by : Becomes p new answer.env q.pool → Told next
          told_by (Becomes.Still calm is) = Nothing (same calm (ap (λ (x : PoolState). bytes_eq x.name p.name) is ∙ eq_self p.name)) is
          told_by (Becomes.Renamed plain up is) = One plan.done
              (done (λ (fault : answer.env ≡ FaultWrite). let both : Plain ≡ FaultWrite = sym plain ∙ fault in cc) (ap (λ (x : PoolState). bytes_eq x.name p.name) is ∙ (eq_turned new p.name ∙ ready.other)))
              (by_state Plain plain plan.done.state.value ready.done.state_is)
              (subst (λ (x : PoolState). Stands plan.done.table (table_of (with_other p.name x s))) (sym is) (ready.done.tells p own_here.1 up (subst (λ (x : PoolState). IsValid (with_other p.name x s)) is valid_then)))
              ready.done.spare
          told_by (Becomes.Failed fault up is) = One plan.down
              (failed fault)
              (by_state FaultWrite fault plan.down.state.value ready.down.state_is)
              (subst (λ (x : PoolState). Stands plan.down.table (table_of (with_other p.name x s))) (sym is) (ready.down.tells p own_here.1 up (subst (λ (x : PoolState). IsValid (with_other p.name x s)) is valid_then)))
              ready.down.spare

          told : Told next
          told = told_by becomes

          turned_by : Told next → IfSome next (λ (n : Next). (x : PoolState) × HasTurned board.state n.state.value true x)
          turned_by (Nothing none is) = subst (λ (o : Option Next). IfSome o (λ (n : Next). (x : PoolState) × HasTurned board.state n.state.value true x)) (sym none) tt
          turned_by (One n some state tells spare) = subst (λ (o : Option Next). IfSome o (λ (m : Next). (x : PoolState) × HasTurned board.state m.state.value true x)) (sym some)
              (q.pool, record { state = s; pool = p; turns = turns; was = sym all.table; is = sym state; started = started; mode = still_started p new answer.env q.pool started becomes })

          pub turned : IfSome next (λ (n : Next). (x : PoolState) × HasTurned board.state n.state.value true x)
          turned = turned_by told

          tells_by : Told next → IfSome next (λ (n : Next). Stands n.table n.state.value)
          tells_by (Nothing none is) = subst (λ (o : Option Next). IfSome o (λ (n : Next). Stands n.table n.state.value)) (sym none) tt
          tells_by (One n some state tells spare) = subst (λ (o : Option Next). IfSome o (λ (m : Next). Stands m.table m.state.value)) (sym some) (subst (Stands n.table) (sym state) tells)

          pub tells : IfSome next (λ (n : Next). Stands n.table n.state.value)
          tells = tells_by told

          module _ (b : BoardView D) (none : IfNone next (b ≡ board)) (some : IfSome next (λ (n : Next). b ≡ record board { state = n.state.value; spare = n.table.spare })) where
            -- the board, with the state after
            record BoardIs : Type 0 where
              table : b.state ≡ table_of after
              shown : b.spare ≡ false → shown_table (table_of s) ≡ shown_table b.state
              faults_same : faults_of b ≡ faults_of board
              slack_same : slack_of faults b ≡ slack_of faults board

            board_by : Told next → BoardIs
            board_by (Nothing none_is is) =
                let same_board : b ≡ board = subst (λ (o : Option Next). IfNone o (b ≡ board)) none_is none in
                let state : b.state ≡ table_of s = ap (λ (x : BoardView D). x.state) same_board ∙ all.table in
                record {
                  table = state ∙ ap table_of (sym (same_in_place s p all.valid own_here.1) ∙ ap (λ (x : PoolState). with_other p.name x s) (sym is));
                  shown = λ spare. ap shown_table (sym state);
                  faults_same = ap faults_of same_board;
                  slack_same = ap (slack_of faults) same_board;
                }
            board_by (One n some_is state stands spare) =
                let is : b ≡ record board { state = n.state.value; spare = n.table.spare } = subst (λ (o : Option Next). IfSome o (λ (m : Next). b ≡ record board { state = m.state.value; spare = m.table.spare })) some_is some in
                record {
                  table = ap (λ (x : BoardView D). x.state) is ∙ state;
                  shown = λ lacks. absurd (let is_there : b.spare ≡ true = ap (λ (x : BoardView D). x.spare) is ∙ spare in cc);
                  faults_same = ap faults_of is;
                  slack_same = ap (slack_of faults) is;
                }

            board_is : BoardIs
            board_is = board_by told

            one_runs : OneRuns devs moment state_at faults s (RenamePool p.name new) answer cells i c q board b
            one_runs = record {
              all = all;
              at = at;
              runs = runs;
              alone = besides s p new all.valid own_here.1 ready.free law e refl answer.env answer.reply q.pool runs.licensed runs.replied runs.becomes;
              free = name_free s p new all.valid own_here.1 ready.free answer.env q.pool becomes;
              started = still_started p new answer.env q.pool started becomes;
              table = board_is.table;
              shown = board_is.shown;
              same_faults = board_is.faults_same;
              same_slack = board_is.slack_same;
            }

            pub has_run : HasRun devs moment state_at faults s (RenamePool p.name new) answer cells board (remove cells i ++ q ∷ []) b
            has_run = one_ran devs moment state_at faults taken_out started_law each_own s (RenamePool p.name new) answer cells i c q board b one_runs

-- ---- as the code has it

-- the place of a pool
pub placed : {A : Type 0} (xs : List A) (i : ℕ) (x : A) → slice_get xs i ≡ Some x → i < length xs
placed [] i x e = absurd cc
placed (y ∷ ys) zero x e = omega arith
placed (y ∷ ys) (suc i) x e = let rest = placed ys i x e in omega (arith, rest)

-- one taken out and one put last are as many as before
pub as_many : {A : Type 0} (xs : List A) (i : ℕ) (x y : A) → slice_get xs i ≡ Some x → length (remove xs i ++ y ∷ []) ≡ length xs
as_many [] zero x y e = absurd cc
as_many [] (suc i) x y e = absurd cc
as_many (z ∷ zs) zero x y e = last zs y
  where
    last : {A : Type 0} (ws : List A) (w : A) → length (ws ++ w ∷ []) ≡ suc (length ws)
    last [] w = refl
    last (v ∷ ws) w = ap suc (last ws w)
as_many (z ∷ zs) (suc i) x y e = ap suc (as_many zs i x y e)

pub same_some : {A : Type 0} (o : Option A) (x y : A) → o ≡ Some x → o ≡ Some y → x ≡ y
same_some o x y a b = let both : Some x ≡ Some y = sym a ∙ b in cc

-- the board's racks stay
pub racks_stay : {D : Type 0} (board b : BoardView D) (next : Option Next) → IfNone next (b ≡ board) → IfSome next (λ (n : Next). b ≡ record board { state = n.state.value; spare = n.table.spare }) → (b.free ≡ board.free) × (b.halted ≡ board.halted)
racks_stay {D} board b None none some = (ap (λ (x : BoardView D). x.free) none, ap (λ (x : BoardView D). x.halted) none)
racks_stay {D} board b (Some n) none some = (ap (λ (x : BoardView D). x.free) some, ap (λ (x : BoardView D). x.halted) some)
