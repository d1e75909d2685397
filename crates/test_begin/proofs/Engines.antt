-- an engine that begins, runs and is closed
use Rattle.std.proofs.Common.{◌≡◌, ℕ, Bool, true, false, not, List, [], ◌∷◌, Some, cond, inl, inr, refl, sym, ◌∙◌, ap, subst}
use Rattle.std.specs.List.{AllByRecursion}
use Rattle.st_wants.specs.declared.want.Want.TheVariants as wants
use Rattle.st_wants.specs.declared.want.Mode.TheVariants.{Write}
use Rattle.st_model.specs.declared.call.Call.{Call}
use Rattle.st_model.specs.declared.entry.Origin.{Origin}
use Rattle.st_model.specs.declared.reply.Reply.{Reply}
use Rattle.st_model.specs.declared.state.EngineState.{EngineState}
use Rattle.st_model.specs.declared.state.PoolState.{PoolState}
use Rattle.st_model.specs.declared.state.TableState.{TableState}
use Rattle.st_model.specs.Look.{is_started}
use Rattle.st_model.specs.Parts.{started, table_of}
use Rattle.st_model.specs.Shown.{halted_pools, started_pools}
use Rattle.st_model.specs.Valid.{IsValid}
use Rattle.st_lock.specs.Opening.{IsOpening, state_of}
use Rattle.st_lock.specs.Seats.{LockSeat}
use Rattle.st_book.specs.Stands.{PartStands}
use Rattle.st_rack.specs.Calls.{Devices}
use Rattle.st_rack.specs.Device.{State}
use Rattle.st_pool.specs.View.{IsKeptOn, PoolView}
use Rattle.st_board.specs.Ran.{AreAll}
use Rattle.st_board.specs.View.{BoardView, pools_of}
use Rattle.st_running.specs.Part.{as_table}
use Rattle.st_serving.specs.Serving.{HasStayed}
use Rattle.st_engine.specs.Called.{Called}

not_both : (p : PoolState) (ps : List PoolState) → p ∷ ps ≡ [] → ⊥
not_both p ps e = cc

-- where no pool is started, all are halted
all_halted : (pools : List PoolState) → started_pools pools ≡ [] → halted_pools pools ≡ pools
all_halted [] none = refl
all_halted (p ∷ ps) none = by (is_started p.mode) none (all_halted ps)
  where
    by : (b : Bool) → cond b (p ∷ started_pools ps) (started_pools ps) ≡ [] → (started_pools ps ≡ [] → halted_pools ps ≡ ps) → cond (not b) (p ∷ halted_pools ps) (halted_pools ps) ≡ p ∷ ps
    by true e f = absurd (not_both p (started_pools ps) e)
    by false e f = ap (λ (xs : List PoolState). p ∷ xs) (f e)

same_state : (e : EngineState) → started e ≡ [] → state_of (table_of e) ≡ e
same_state e idle = ap (λ (pools : List PoolState). record { pools = pools; devices = e.devices; next = e.next }) (all_halted e.pools idle)

-- the table of a state without started pools is one to open with
opens_of : (e : EngineState) → IsValid e → started e ≡ [] → IsOpening (table_of e)
opens_of e valid idle = record {
  table = ap table_of (same_state e idle);
  none = ap started (same_state e idle) ∙ idle;
  valid = subst IsValid (sym (same_state e idle)) valid;
}

pub opens : (t : TableState) (e : EngineState) → t ≡ table_of e → IsValid e → started e ≡ [] → IsOpening t
opens t e is valid idle = subst IsOpening (sym is) (opens_of e valid idle)

-- a call leaves the seat at its lock, and its opening what it was
pub after_call : (call : Call) (from : Origin) (reply : Reply) (old new : LockSeat) → Called call from reply old new → (new.turn ≡ old.turn) × (new.opening ≡ old.opening)
after_call call from reply old new (inl served) = (served.later.turn, served.later.opening)
after_call call from reply old new (inr stayed) = by stayed.stayed
  where
    by : HasStayed old new → (new.turn ≡ old.turn) × (new.opening ≡ old.opening)
    by (inl same) = (ap (λ (v : LockSeat). v.turn) same, ap (λ (v : LockSeat). v.opening) same)
    by (inr later) = (later.0.turn, later.0.opening)

-- what a closed engine leaves is all of its last state
pub all_home : {D : Type 0} (devs : D → Devices) (moment : D → ℕ) (state_at : D → ℕ → State) (faults : D → ℕ) (s : EngineState) (b : BoardView D) (cells : List (PoolView D)) → IsValid s
    → PartStands (wants.All Write) s (pools_of cells) (Some (as_table faults b)) → AllByRecursion (IsKeptOn devs moment state_at) cells → AreAll devs moment state_at faults s cells b
all_home devs moment state_at faults s b cells valid part kept = record {
  valid = valid;
  pools = record { apart = part.pools.apart; found = part.pools.found };
  table = (let same : Some b.state ≡ Some (table_of s) = part.board in cc);
  kept = kept;
}
