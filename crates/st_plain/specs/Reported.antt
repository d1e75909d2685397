-- infos in byte order of their names
use Rattle.std.specs.Prelude.{List, [], ◌∷◌, insert}
use Rattle.st_model.specs.declared.info.PoolInfo.{PoolInfo}
use Rattle.st_model.specs.Shown.{place_among}

-- the list, and these infos, each put behind all of lower names
abbrev pub entered : List PoolInfo → List PoolInfo → List PoolInfo
entered list [] = list
entered list (info ∷ infos) = entered (insert list (place_among list info.name) info) infos
