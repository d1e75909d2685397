-- the part of a ticket, as a call takes it
use Rattle.std.proofs.Common.{◌≡◌, true, List, [], ◌∷◌, map, Option, Some, None, refl, ap}
use Rattle.std.specs.Prelude.{option_map}
use Rattle.st_model.specs.declared.call.Call.{Call}
use Rattle.st_model.specs.declared.call.Call.TheVariants.{FsWrite}
use Rattle.st_model.specs.declared.info.PoolInfo.{PoolInfo}
use Rattle.st_model.specs.declared.info.TableInfo.{TableInfo}
use Rattle.st_model.specs.declared.state.EngineState.{EngineState}
use Rattle.st_history.specs.History.{IsShort}
use Rattle.st_running.specs.Calls.{runs}

-- none of the calls that run is a write
pub not_short : (s : EngineState) (call : Call) → runs call ≡ true → IsShort s call → ⊥
not_short s (FsWrite pool name sector payload) r short = absurd cc
not_short s _ r short = short

pub same_infos : (infos : List PoolInfo) → map (λ (i : PoolInfo). i) infos ≡ infos
same_infos [] = refl
same_infos (i ∷ infos) = ap (λ (is : List PoolInfo). i ∷ is) (same_infos infos)

pub same_info : (o : Option TableInfo) → option_map (λ (i : TableInfo). i) o ≡ o
same_info None = refl
same_info (Some i) = refl
