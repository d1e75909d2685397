-- what a grant takes out of the book and what a release brings back, as functions of the want
use Rattle.std.specs.Prelude.{Bool, not, List, [], ◌∷◌, filter, bytes_eq, Option, Some, None, if◌then◌else◌}
use Rattle.st_wants.specs.declared.want.Want.{Want}
use Rattle.st_wants.specs.Wants.{writes, reads, takes_table}
use Rattle.st_model.specs.declared.info.PoolInfo.{PoolInfo}
use Rattle.st_model.specs.declared.info.TableInfo.{TableInfo}
use Rattle.st_model.specs.declared.state.PoolState.{PoolState}
use Rattle.st_model.specs.Look.{Text}

-- the pools that stay at home where such a want is granted
abbrev pub cells_left : Want → List PoolState → List PoolState
cells_left want ps = filter (λ (p : PoolState). not (writes want p.name)) ps

-- those that its part gets
abbrev pub cells_given : Want → List PoolState → List PoolState
cells_given want ps = filter (λ (p : PoolState). writes want p.name) ps

abbrev pub table_left : {T : Type 0} → Want → Option T → Option T
table_left want table = if takes_table want then None else table

abbrev pub table_given : {T : Type 0} → Want → Option T → Option T
table_given want table = if takes_table want then table else None

abbrev pub is_info_of : Text → PoolInfo → Bool
is_info_of n info = bytes_eq info.name n

-- the infos that a part gets, if no copy is refused
abbrev pub infos_given : Want → List PoolInfo → List PoolInfo
infos_given want infos = filter (λ (info : PoolInfo). reads want info.name) infos

abbrev pub table_info_given : Want → TableInfo → Option TableInfo
table_info_given want info = if takes_table want then None else Some info

-- a newer info in place of the first of its name, if there is one
abbrev pub renewed : PoolInfo → List PoolInfo → List PoolInfo
renewed info [] = []
renewed info (x ∷ xs) = if is_info_of info.name x then info ∷ xs else x ∷ renewed info xs

-- the newer infos of pools, each in place of the one of its name
abbrev pub all_renewed : List PoolInfo → List PoolInfo → List PoolInfo
all_renewed [] infos = infos
all_renewed (i ∷ is) infos = all_renewed is (renewed i infos)
