-- the report of the engine
use Rattle.std.specs.Prelude.{ℕ, List, [], ◌∷◌, ◌++◌, codes, map, take, drop}
use Rattle.serde_json.specs.Data.{Data, string, array, object, no_members, member}
use Rattle.serde_json.specs.View.{items_of}
use Rattle.st_model.specs.declared.info.PoolInfo.{PoolInfo}
use Rattle.st_model.specs.declared.info.StoppedRow.{StoppedRow}
use Rattle.st_model.specs.declared.info.TableInfo.{TableInfo}
use Rattle.st_model.specs.declared.info.ShownMode.{ShownMode}
use Rattle.st_model.specs.declared.info.ShownMode.TheVariants.{Up, Down, Stopped, Unsettled, Incomplete}
use Rattle.st_model.specs.declared.reply.Identity.TheVariants.{Pool}
use Rattle.st_model.specs.Shown.{place_among_stopped}
use Rattle.st_report.specs.Uuids.{uuid_text}
use Rattle.st_report.specs.Values.{count, texts}

abbrev pub mode_text : ShownMode → List ℕ
mode_text Up = codes "up"
mode_text Down = codes "down"
mode_text Stopped = codes "stopped"
mode_text Unsettled = codes "unsettled"
mode_text Incomplete = codes "incomplete"

-- a pool, as the engine's report shows it
unfoldable pub pool_row : ShownMode → List ℕ → ℕ → Data
pool_row mode name serial = object (
    member (codes "mode") (string (mode_text mode)) (
    member (codes "name") (string name) (
    member (codes "uuid") (string (uuid_text (Pool serial))) no_members)))

abbrev pub started_row : PoolInfo → Data
started_row info = pool_row info.mode info.name info.serial

abbrev pub stopped_row : StoppedRow → Data
stopped_row row = pool_row row.mode row.name row.serial

-- started and stopped pools merged: before each started pool the stopped ones of lower names,
-- and at the end those that are left. Both come in byte order of names, and so does the merge.
unfoldable pub pool_rows : List PoolInfo → List StoppedRow → List Data
pool_rows [] rows = map stopped_row rows
pool_rows (info ∷ infos) rows =
    map stopped_row (take (place_among_stopped rows info.name) rows)
    ++ started_row info ∷ pool_rows infos (drop (place_among_stopped rows info.name) rows)

unfoldable pub engine_data : TableInfo → List PoolInfo → Data
engine_data table infos = object (
    member (codes "free_devices") (texts table.free) (
    member (codes "next_serial") (count table.next) (
    member (codes "pools") (array (items_of (pool_rows infos table.stopped))) no_members)))
