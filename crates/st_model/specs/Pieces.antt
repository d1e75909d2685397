-- which of a state's started pools a list of pools, or of infos, stands for
use Rattle.std.specs.Prelude.{◌≡◌, Bool, true, List, map, find, Option, None, option_map, bytes_eq, if◌then◌else◌}
use Rattle.std.specs.List.{IsDistinct}
use Rattle.st_model.specs.declared.info.PoolInfo.{PoolInfo}
use Rattle.st_model.specs.declared.state.EngineState.{EngineState}
use Rattle.st_model.specs.declared.state.PoolState.{PoolState}
use Rattle.st_model.specs.Look.{Text}
use Rattle.st_model.specs.Parts.{own, pool_at}
use Rattle.st_model.specs.Shown.{pool_info}

-- no two pools of one name
abbrev pub AreNamedApart : List PoolState → Type 0
AreNamedApart pools = IsDistinct bytes_eq (map (λ (p : PoolState). p.name) pools)

-- the info of the pool of this name
abbrev pub info_at : Text → List PoolInfo → Option PoolInfo
info_at n infos = find (λ (info : PoolInfo). bytes_eq info.name n) infos

abbrev pub every : Text → Bool
every n = true

-- the pools are the started ones of the state that have such a name, each once, in any order
pub record ArePools (is_in : Text → Bool) (s : EngineState) (pools : List PoolState) : Type 0 where
  pub apart : AreNamedApart pools
  pub found : (n : Text) → pool_at n pools ≡ (if is_in n then own n s else None)

-- the infos show just these
pub record ShowPools (is_in : Text → Bool) (s : EngineState) (infos : List PoolInfo) : Type 0 where
  pub apart : IsDistinct bytes_eq (map (λ (info : PoolInfo). info.name) infos)
  pub shown : (n : Text) → info_at n infos ≡ option_map pool_info (if is_in n then own n s else None)
