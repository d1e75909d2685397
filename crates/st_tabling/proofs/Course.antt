-- A pool is added to a table, and halts.
use Rattle.std.proofs.Common.{◌≡◌, ℕ, true, List, [], map, Some, sym, ◌∙◌, ap, subst}
use Rattle.std.specs.List.{AllByRecursion}
use Rattle.st_units.specs.declared.rows.DevRow.{DevRow}
use Rattle.st_model.specs.declared.state.EngineState.{EngineState}
use Rattle.st_model.specs.declared.state.PoolState.{PoolState}
use Rattle.st_model.specs.Look.{Text}
use Rattle.st_model.specs.Parts.{table_of}
use Rattle.st_judge.specs.declared.rows.FoundRow.{FoundRow}
use Rattle.st_table.specs.declared.halted.HaltedInfo.{HaltedInfo}
use Rattle.st_table.specs.Stands.{Alike, Stands}
use Rattle.st_table.specs.Steps.{PlacedAlike}
use Rattle.st_table.specs.Table.{IsFree, TablePool, TableView, changed, halted_as, knows, new_pool, next_above, pool_named, with_instead, with_pool, without}
use Rattle.st_tabling.specs.Telling.{MayPlace, info_for, with_last}
use Rattle.st_tabling.proofs.Last.{devices_free, found_it, known_it, placed}

abbrev map_paths : List DevRow → List Text
map_paths rows = map (λ (r : DevRow). r.path) rows

module _ (alike : Alike) (s : EngineState) (q : PoolState) (row : FoundRow) (v0 : TableView) (may : MayPlace s q row v0) (name : Text) (devs : List Text) (name_is : name ≡ row.name) (none : devs ≡ []) (v1 v2 v3 : TableView)
    (ok1 : v1 ≡ record v0 { prepared = true }) (added : v2 ≡ record (changed v1 (with_pool (new_pool name row.serial devs) v1.pools)) { next = next_above row.serial v1.next }) (ok2 : v3 ≡ record v2 { prepared = true }) where
  abbrev its : TablePool
  its = new_pool q.name q.serial []

  own : row.name ≡ q.name
  own = ap (λ (r : FoundRow). r.name) may.told

  number : row.serial ≡ q.serial
  number = ap (λ (r : FoundRow). r.serial) may.told

  pools : v3.pools ≡ with_pool its v0.pools
  pools = ap (λ (v : TableView). v.pools) ok2 ∙ ap (λ (v : TableView). v.pools) added ∙ (λ i. with_pool (new_pool (name_is i) (number i) (none i)) ((ok1 i).pools)) ∙ (λ i. with_pool (new_pool (own i) q.serial []) v0.pools)

  devices : v3.devices ≡ v0.devices
  devices = ap (λ (v : TableView). v.devices) ok2 ∙ ap (λ (v : TableView). v.devices) added ∙ ap (λ (v : TableView). v.devices) ok1

  next : v3.next ≡ next_above q.serial v0.next
  next = ap (λ (v : TableView). v.next) ok2 ∙ ap (λ (v : TableView). v.next) added ∙ (λ i. next_above (number i) ((ok1 i).next))

  pub known_then : knows row.name v3.pools ≡ true
  known_then = (λ i. knows (own i) (pools i)) ∙ known_it alike s q row v0 may

  found_then : pool_named row.name v3.pools ≡ Some its
  found_then = (λ i. pool_named (own i) (pools i)) ∙ found_it alike s q row v0 may

  pub free_then : (info : HaltedInfo) → info ≡ info_for row → AllByRecursion (IsFree (without row.name v3.pools) v3.devices) info.devs
  free_then info is =
      subst (λ (l : List Text). AllByRecursion (IsFree (without row.name v3.pools) v3.devices) l) (ap (λ (r : FoundRow). map_paths r.devs) (sym may.told) ∙ ap (λ (x : HaltedInfo). x.devs) (sym is))
      (subst (λ (d : List DevRow). AllByRecursion (IsFree (without row.name v3.pools) d) (map_paths q.devices)) (sym devices)
      (subst (λ (zs : List TablePool). AllByRecursion (IsFree zs v0.devices) (map_paths q.devices)) (λ i. without (sym own i) (sym pools i)) (devices_free alike s q row v0 may)))

  pub stands_then : PlacedAlike → (v4 : TableView) (info : HaltedInfo) → info ≡ info_for row → ((pool : TablePool) → pool_named row.name v3.pools ≡ Some pool → v4 ≡ changed v3 (with_instead row.name (halted_as info pool) v3.pools))
      → Stands v4 (table_of (with_last s q))
  stands_then law v4 info is halt =
      let e : v4 ≡ changed v3 (with_instead row.name (halted_as info its) v3.pools) = halt its found_then in
      let after = placed alike s q row v0 may law in
      record {
        pools = ap (λ (v : TableView). v.pools) e ∙ (λ i. with_instead (own i) (halted_as (is i) its) (pools i)) ∙ after.pools;
        devices = ap (λ (v : TableView). v.devices) e ∙ devices ∙ after.devices;
        next = ap (λ (v : TableView). v.next) e ∙ next ∙ after.next;
      }
