-- what a write carries from stretch to stretch
use Rattle.std.specs.Prelude.{ℕ, ◌+◌, ◌*◌, List, [], ◌∷◌, take, drop, Bool, option_map, unwrap_or, if◌then◌else◌}
use Rattle.std.specs.Ordering.{nat_cmp}
use Rattle.std.specs.BTreeMap.{insert_entry}
use Rattle.st_limits.specs.Cache.{promoted}
use Rattle.st_limits.specs.Sums.{takes_cell}
use Rattle.st_limits.specs.declared.TheConstants.{SECTOR_BYTES}
use Rattle.st_model.specs.declared.state.CacheState.{CacheState}
use Rattle.st_model.specs.declared.state.FsState.{FsState}
use Rattle.st_model.specs.declared.state.PoolState.{PoolState}
use Rattle.st_model.specs.Content.{Stretch, block_bytes, cell_at, mapped_cells}
use Rattle.st_model.specs.InPlace.{over}
use Rattle.st_writing.specs.declared.carried.Carried.{Carried}

abbrev pub cache_put : ℕ → CacheState → CacheState
cache_put cell cache = record cache { cells = promoted cell cache.cells }

abbrev pub with_put : ℕ → List ℕ → PoolState → PoolState
with_put cell bytes p = record p { cells = insert_entry nat_cmp p.cells cell bytes; cache = option_map (cache_put cell) p.cache }

-- the cell that a block has after the write
abbrev pub cell_for : FsState → Bool → ℕ → ℕ → ℕ
cell_for fs takes block next = if takes then next else unwrap_or (cell_at block fs.map) next

abbrev pub next_after : Bool → ℕ → ℕ
next_after takes next = if takes then next + 1 else next

-- one stretch more
unfoldable pub carried_on : PoolState → FsState → Stretch → List ℕ → Carried → Carried
carried_on p fs s piece c =
    let takes = takes_cell fs.map (mapped_cells p.filesystems) s.block in
    let cell = cell_for fs takes s.block c.next in
    record {
      pool = with_put cell (over (block_bytes p fs s.block) (SECTOR_BYTES * s.at) piece) c.pool;
      map = insert_entry nat_cmp c.map s.block cell;
      next = next_after takes c.next;
    }

abbrev pub carried : PoolState → FsState → List Stretch → List ℕ → Carried → Carried
carried p fs [] bytes c = c
carried p fs (s ∷ rest) bytes c = carried p fs rest (drop (SECTOR_BYTES * s.sectors) bytes) (carried_on p fs s (take (SECTOR_BYTES * s.sectors) bytes) c)

-- before the first stretch
abbrev pub begins : PoolState → FsState → Carried
begins p fs = record { pool = p; map = fs.map; next = p.next_cell }
