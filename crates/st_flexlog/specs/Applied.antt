-- What a delta makes of the state of the generation before.
use Rattle.std.specs.Prelude.{ℕ, ◌+◌, ◌*◌, ◌/◌, Bool, true, not, ◌&&◌, ◌||◌, nat_le, nat_lt, ◌==◌, List, [], ◌∷◌, length, Option, Some, None, if◌then◌else◌}
use Rattle.std.specs.List.{list_all, list_any}
use Rattle.st_limits.specs.declared.TheConstants.{BLOCK_SECTORS, MAX_MAPPINGS}
use Rattle.st_units.specs.declared.rows.FsRow.{FsRow}
use Rattle.st_flexlog.specs.declared.delta.Delta.{Delta}
use Rattle.st_flexlog.specs.declared.delta.DeltaRow.{DeltaRow}
use Rattle.st_flexlog.specs.declared.state.FlexState.{FlexState}
use Rattle.st_flexlog.specs.declared.state.Mapping.{Mapping}
use Rattle.st_flexlog.specs.Delta.{rows_of, delta_of}

-- ---- which rows may come

-- a block of this filesystem
abbrev pub is_of_fs : FsRow → DeltaRow → Bool
is_of_fs fs r = (r.fs == fs.serial) && nat_lt r.block (fs.size / BLOCK_SECTORS)

-- all rows are of one filesystem that is there
abbrev pub are_of_one : List FsRow → List DeltaRow → Bool
are_of_one filesystems rows = (length rows == 0) || list_any (λ fs. list_all (is_of_fs fs) rows) filesystems

-- the blocks rise strictly
abbrev pub is_before : DeltaRow → DeltaRow → Bool
is_before r later = nat_lt r.block later.block

abbrev pub blocks_rise : List DeltaRow → Bool
blocks_rise [] = true
blocks_rise (r ∷ rs) = list_all (is_before r) rs && blocks_rise rs

-- the rows have the next cells, in order
abbrev pub cells_follow : ℕ → List DeltaRow → Bool
cells_follow next [] = true
cells_follow next (r ∷ rs) = (r.cell == next) && cells_follow (next + 1) rs

-- the delta is of this pool, its rows may come, and a commit of this generation can have taken their cells
abbrev pub may_come : ℕ → Delta → FlexState → Bool
may_come generation d st =
    (d.serial == st.serial) && ((d.next_cell == st.next_cell + length (rows_of d)) && (nat_le d.next_cell (2 * generation)
    && (cells_follow st.next_cell (rows_of d) && (are_of_one st.filesystems (rows_of d) && blocks_rise (rows_of d)))))

-- ---- what they make of the mappings

-- an earlier filesystem, or a lower block of the same one
abbrev pub stands_before : Mapping → Mapping → Bool
stands_before m later = nat_lt m.fs later.fs || ((m.fs == later.fs) && nat_lt m.block later.block)

abbrev pub is_of_block : Mapping → Mapping → Bool
is_of_block m other = (m.fs == other.fs) && (m.block == other.block)

-- the mapping in its order, in the place of one of the same block
abbrev pub put_mapping : Mapping → List Mapping → List Mapping
put_mapping m [] = m ∷ []
put_mapping m (other ∷ rest) = if stands_before other m then other ∷ put_mapping m rest else (if is_of_block m other then m ∷ rest else m ∷ (other ∷ rest))

abbrev pub mapping_by : DeltaRow → Mapping
mapping_by r = record { fs = r.fs; block = r.block; cell = r.cell; place = r.place }

abbrev pub put_rows : List DeltaRow → List Mapping → List Mapping
put_rows [] mappings = mappings
put_rows (r ∷ rs) mappings = put_rows rs (put_mapping (mapping_by r) mappings)

-- no other cell stands in the place of this row's
abbrev pub has_other_place : DeltaRow → Mapping → Bool
has_other_place r m = (m.cell == r.cell) || not (m.place == r.place)

abbrev pub has_own_place : List Mapping → DeltaRow → Bool
has_own_place mappings r = list_all (has_other_place r) mappings

-- so many mappings may be, and the cells of the rows have places of their own; cells that are mapped no more are gone
abbrev pub are_mappings : List DeltaRow → List Mapping → Bool
are_mappings rows mappings = nat_le (length mappings) MAX_MAPPINGS && list_all (has_own_place mappings) rows

-- ---- the whole

abbrev pub after_rows : Delta → FlexState → FlexState
after_rows d st = record { version2 = st.version2; serial = st.serial; next_fs = st.next_fs; next_cell = d.next_cell; filesystems = st.filesystems; mappings = put_rows (rows_of d) st.mappings }

-- The state after the delta, which is of this generation, if it applies.
abbrev pub applied : ℕ → Delta → FlexState → Option FlexState
applied generation d st = if may_come generation d st && are_mappings (rows_of d) (after_rows d st).mappings then Some (after_rows d st) else None

abbrev pub applied_if : ℕ → Option Delta → FlexState → Option FlexState
applied_if generation None st = None
applied_if generation (Some d) st = applied generation d st

-- what the bytes of a delta of this generation make of a state
abbrev pub applied_bytes : ℕ → List ℕ → FlexState → Option FlexState
applied_bytes generation bytes st = applied_if generation (delta_of bytes) st
