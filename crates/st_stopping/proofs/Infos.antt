-- what the table keeps of a pool that is stopped
use Rattle.std.proofs.Common.{◌≡◌, ℕ, List, [], ◌++◌, map, Option, Some, None, Result, Ok, Err, IfOk, refl, sym, ap, subst, ◌∙◌}
use Rattle.st_units.specs.declared.rows.DevRow.{DevRow}
use Rattle.st_units.specs.declared.memory.NoMemory.{NoMemory}
use Rattle.st_model.specs.declared.call.Call.{Call}
use Rattle.st_model.specs.declared.info.PoolInfo.{PoolInfo}
use Rattle.st_model.specs.declared.state.PoolMode.{PoolMode}
use Rattle.st_model.specs.declared.state.PoolMode.TheVariants.{Up, Down}
use Rattle.st_model.specs.declared.state.PoolState.{PoolState}
use Rattle.st_model.specs.Checks.{halted, halted_from}
use Rattle.st_model.specs.Look.{devices_taken, name_given}
use Rattle.st_model.specs.Shown.{pool_info}
use Rattle.st_table.specs.declared.halted.HaltedInfo.{HaltedInfo}
use Rattle.st_table.specs.declared.halted.HaltedMode.TheVariants as modes
use Rattle.st_table.specs.Stands.{info_in}

abbrev path_in : DevRow → List ℕ
path_in row = row.path

abbrev of_up : List DevRow → HaltedInfo
of_up rows = record { mode = modes.Stopped; devs = map path_in rows ++ []; flight = []; new = None }

abbrev of_down : List DevRow → Call → HaltedInfo
of_down rows call = record { mode = modes.Unsettled; devs = map path_in rows ++ devices_taken call; flight = devices_taken call; new = name_given call }

shown_rows : (p : PoolState) (i : PoolInfo) → i ≡ pool_info p → i.devs ≡ p.devices
unfolding pool_info
shown_rows p i e = ap (λ (x : PoolInfo). x.devs) e

abbrev told : PoolState → PoolMode → Option HaltedInfo
told p m = info_in (halted_from p m) (halted_from p m).mode

if_same : {A E : Type 0} (r : Result A E) (a : A) (o : Option A) → o ≡ Some a → IfOk r (λ x. x ≡ a) → IfOk r (λ x. o ≡ Some x)
if_same (Ok x) a o e h = e ∙ ap (λ y. Some y) (sym h)
if_same (Err n) a o e h = tt

pub told_up : (p : PoolState) (i : PoolInfo) (rows : List DevRow) (r : Result HaltedInfo NoMemory) → p.mode ≡ Up → i ≡ pool_info p → rows ≡ i.devs → IfOk r (λ info. info ≡ of_up rows)
    → IfOk r (λ info. info_in (halted p) (halted p).mode ≡ Some info)
told_up p i rows r up e is h = if_same r (of_up rows) (told p p.mode) (ap (told p) up ∙ ap (λ (rs : List DevRow). Some (of_up rs)) (sym (is ∙ shown_rows p i e))) h

pub told_down : (p : PoolState) (call : Call) (i : PoolInfo) (rows : List DevRow) (r : Result HaltedInfo NoMemory) → p.mode ≡ Down call → i ≡ pool_info p → rows ≡ i.devs → IfOk r (λ info. info ≡ of_down rows call)
    → IfOk r (λ info. info_in (halted p) (halted p).mode ≡ Some info)
told_down p call i rows r down e is h = if_same r (of_down rows call) (told p p.mode) (ap (told p) down ∙ ap (λ (rs : List DevRow). Some (of_down rs call)) (sym (is ∙ shown_rows p i e))) h
