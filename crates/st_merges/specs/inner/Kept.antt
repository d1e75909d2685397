-- what of a pool's cells stays with these filesystems: what some block of them has
use Rattle.std.specs.Prelude.{ℕ, ◌==◌, List, Bool, filter}
use Rattle.std.specs.List.{list_any}
use Rattle.st_model.specs.declared.state.CacheState.{CacheState}
use Rattle.st_model.specs.declared.state.FsState.{FsState}
use Rattle.st_model.specs.Merged.{is_mapped}

abbrev pub has_cell : ℕ → List (ℕ × ℕ) → Bool
has_cell cell = list_any (λ (entry : ℕ × ℕ). entry.1 == cell)

abbrev pub mapped_entries : List FsState → List (ℕ × List ℕ) → List (ℕ × List ℕ)
mapped_entries filesystems = filter (λ (entry : ℕ × List ℕ). is_mapped filesystems entry.0)

abbrev pub mapped_cells : List FsState → List ℕ → List ℕ
mapped_cells filesystems = filter (is_mapped filesystems)

abbrev pub with_mapped : List FsState → CacheState → CacheState
with_mapped filesystems cache = record cache { cells = mapped_cells filesystems cache.cells }
