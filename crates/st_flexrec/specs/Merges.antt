-- The marks for a merge: which rows of filesystems may bear one.
use Rattle.std.specs.Prelude.{ℕ, Bool, true, false, not, ◌&&◌, ◌||◌, ◌==◌, List, [], ◌∷◌, Option, Some, None, if◌then◌else◌}
use Rattle.std.specs.List.{list_all, list_any}
use Rattle.st_units.specs.declared.rows.FsRow.{FsRow}
use Rattle.st_flexrec.specs.Filesystems.{has_serial}

abbrev pub is_unmarked : FsRow → Bool
is_unmarked r = not r.merge

-- the row of this serial, without a mark
abbrev pub is_unmarked_at : ℕ → FsRow → Bool
is_unmarked_at serial r = has_serial serial r && not r.merge

-- the serial of one of these rows that bears no mark
abbrev pub is_unmarked_origin : List FsRow → Option ℕ → Bool
is_unmarked_origin rows None = false
is_unmarked_origin rows (Some serial) = list_any (is_unmarked_at serial) rows

-- a mark stands only in a row with an origin whose own row bears none
abbrev pub may_merge : List FsRow → FsRow → Bool
may_merge rows r = not r.merge || is_unmarked_origin rows r.origin

abbrev pub is_one_origin : Option ℕ → Option ℕ → Bool
is_one_origin None other = false
is_one_origin (Some serial) None = false
is_one_origin (Some serial) (Some other) = serial == other

-- not both are to be merged into one filesystem
abbrev pub merges_apart : FsRow → FsRow → Bool
merges_apart r other = not (r.merge && (other.merge && is_one_origin r.origin other.origin))

-- no two rows with a mark have one origin
abbrev pub merge_apart : List FsRow → Bool
merge_apart [] = true
merge_apart (r ∷ rs) = list_all (merges_apart r) rs && merge_apart rs

-- the conditions on marks; a record of version 1 has no place for one
abbrev pub marks_fit : Bool → List FsRow → Bool
marks_fit version2 rows = if version2 then list_all (may_merge rows) rows && merge_apart rows else list_all is_unmarked rows
