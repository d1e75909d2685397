-- a part for all to write is every started pool and the board
use Rattle.std.proofs.Common.{◌≡◌, ℕ, ◌+◌, ◌==◌, Bool, true, List, Some, None, refl, sym, ap, subst, ◌∙◌, arith}
use Rattle.st_wants.specs.declared.want.Want.{Want}
use Rattle.st_wants.specs.declared.want.Want.TheVariants.{All}
use Rattle.st_wants.specs.declared.want.Mode.TheVariants.{Write}
use Rattle.st_model.specs.declared.call.Call.{Call}
use Rattle.st_model.specs.declared.call.Call.TheVariants.{CreatePool, DestroyPool, StopPool, StartPool, RenamePool, EngineStateReport}
use Rattle.st_model.specs.declared.reply.Reply.{Reply}
use Rattle.st_model.specs.declared.state.EngineState.{EngineState}
use Rattle.st_model.specs.declared.state.PoolState.{PoolState}
use Rattle.st_model.specs.Parts.{table_of}
use Rattle.st_model.specs.Step.{step}
use Rattle.st_model.specs.Wanted.{want_of}
use Rattle.st_book.specs.Stands.{PartStands}
use Rattle.st_book.specs.View.{TableView}
use Rattle.st_rack.specs.Device.{State}
use Rattle.st_rack.specs.Calls.{Devices}
use Rattle.st_board.specs.Ran.{more}
use Rattle.st_board.specs.View.{faults_with, pools_of}
use Rattle.st_running.specs.Calls.{runs}
use Rattle.st_running.specs.Gives.{IsOfAll, RanOnAll}
use Rattle.st_running.specs.Part.{as_table}
use Rattle.st_running.proofs.Faults.{fault_told}

-- a call whose part has the table wants all to write
pub takes_all : (s : EngineState) (call : Call) (pools : List PoolState) (t : TableView) → runs call ≡ true → PartStands (want_of call) s pools (Some t) → want_of call ≡ All Write
takes_all s (CreatePool name devices) pools t r h = refl
takes_all s (DestroyPool name) pools t r h = refl
takes_all s (StopPool name) pools t r h = refl
takes_all s (StartPool id) pools t r h = refl
takes_all s (RenamePool name new) pools t r h = refl
takes_all s EngineStateReport pools t r h = absurd (let none = h.board in cc)
takes_all s _ pools t r h = absurd cc

-- and one whose part has no table is the report
pub is_report : (s : EngineState) (call : Call) (pools : List PoolState) → runs call ≡ true → PartStands (want_of call) s pools None → call ≡ EngineStateReport
is_report s (CreatePool name devices) pools r h = absurd (let none = h.board in cc)
is_report s (DestroyPool name) pools r h = absurd (let none = h.board in cc)
is_report s (StopPool name) pools r h = absurd (let none = h.board in cc)
is_report s (StartPool id) pools r h = absurd (let none = h.board in cc)
is_report s (RenamePool name new) pools r h = absurd (let none = h.board in cc)
is_report s EngineStateReport pools r h = refl
is_report s _ pools r h = absurd cc

module _ {D : Type 0} (devs : D → Devices) (moment : D → ℕ) (state_at : D → ℕ → State) (faults : D → ℕ) where
  pub whole : IsOfAll devs moment state_at faults
  whole s call cells b infos info short is h =
      let part = subst (λ (w : Want). PartStands w s (pools_of cells) (Some (as_table faults b))) is h.part in
      let table : b.state ≡ table_of s = (let same = part.board in cc) in
      record { valid = h.valid; pools = part.pools; table = table; kept = h.kept }

  pub ran_whole : RanOnAll devs moment state_at faults
  ran_whole s call answer cells after was b is r kept h = record {
    licensed = h.licensed;
    replied = h.replied;
    twin = h.twin;
    low = h.low;
    part = subst (λ (w : Want). PartStands w (step s call answer.env).1 (pools_of after) (Some (as_table faults b))) (sym is) (record { pools = h.all.pools; board = ap Some h.all.table });
    kept = (h.all.kept, kept);
    shown = h.shown;
    table_shown = h.table_shown;
    counts = λ few. h.counts few ∙ ap (λ (f : Bool). faults_with cells was + more f) (fault_told s call answer.env r h.licensed ∙ ap (λ (x : Reply). x.code == 27) (sym h.replied));
    slack = λ base low. (let no_less = h.slack in omega (arith, low, no_less));
  }
