-- the rows of started and stopped pools, as they are written
use Rattle.std.proofs.Common.{◌≡◌, ℕ, ◌+◌, ◌<◌, List, ◌∷◌, ◌++◌, length, get_or, map, take, drop, refl, ap, ◌∙◌, sym}
use Rattle.std.proofs.lemmas.List.{at_drop_more}
use Rattle.json.specs.Written.{Written}
use Rattle.st_model.specs.declared.info.PoolInfo.{PoolInfo}
use Rattle.st_model.specs.declared.info.StoppedRow.{StoppedRow}
use Rattle.st_model.specs.Shown.{place_among_stopped}
use Rattle.st_json.specs.Adds.{Adds, data_tokens, listed}
use Rattle.st_json.proofs.Adding.{adds_both}
use Rattle.st_json.proofs.Lists.{listed_append}
use Rattle.st_report.specs.Engine.{pool_rows, started_row, stopped_row}

-- one started pool more, and before it the stopped ones of lower names
rows_step : (info other : PoolInfo) (infos : List PoolInfo) (i : ℕ) (rest : List StoppedRow) → i < length infos → info ≡ get_or infos i other
    → listed (pool_rows (drop i infos) rest)
    ≡ listed (map stopped_row (take (place_among_stopped rest info.name) rest)) ++ (data_tokens (started_row info) ++ listed (pool_rows (drop (i + 1) infos) (drop (place_among_stopped rest info.name) rest)))
unfolding pool_rows
rows_step info other infos i rest inside same =
    let n = place_among_stopped rest info.name in
    at_drop_more (λ more. listed (pool_rows more rest)) infos i other inside
    ∙ ap (λ one. listed (pool_rows (one ∷ drop (i + 1) infos) rest)) (sym same)
    ∙ listed_append (map stopped_row (take n rest)) (started_row info ∷ pool_rows (drop (i + 1) infos) (drop n rest))

-- the same, once that much was written
pub rows_more : {a b c : Written} (info other : PoolInfo) (infos : List PoolInfo) (i : ℕ) (rest lower higher : List StoppedRow) → i < length infos → info ≡ get_or infos i other
    → lower ≡ take (place_among_stopped rest info.name) rest → higher ≡ drop (place_among_stopped rest info.name) rest
    → Adds a b (listed (map stopped_row lower)) → Adds b c (data_tokens (started_row info))
    → c.tokens ++ listed (pool_rows (drop (i + 1) infos) higher) ≡ a.tokens ++ listed (pool_rows (drop i infos) rest)
rows_more {a} {b} {c} info other infos i rest lower higher inside same front back e f =
    let more = listed (pool_rows (drop (i + 1) infos) higher) in
    let step : listed (pool_rows (drop i infos) rest) ≡ listed (map stopped_row lower) ++ (data_tokens (started_row info) ++ more) = rw (front, back) (rows_step info other infos i rest inside same) in
    let rest_written : Adds c (record { before = c.before; tokens = c.tokens ++ more; spare = c.spare }) more = record { kept = refl; more = refl } in
    (adds_both e (adds_both f rest_written)).more ∙ ap (λ s. a.tokens ++ s) (sym step)
