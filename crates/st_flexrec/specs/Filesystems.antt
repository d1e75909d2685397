-- What holds of the rows of the filesystems.
use Rattle.std.specs.Prelude.{◌≡◌, ℕ, ◌<◌, ◌%◌, Bool, true, not, ◌&&◌, nat_le, nat_lt, ◌==◌, List, [], ◌∷◌, length, take, Option, Some, None}
use Rattle.std.specs.List.{list_all, list_any, slice_index_or}
use Rattle.std.specs.Str.{bytes_eq}
use Rattle.st_units.specs.declared.rows.FsRow.{FsRow}
use Rattle.st_limits.specs.declared.TheConstants.{BLOCK_SECTORS, MAX_FS_SECTORS}
use Rattle.st_flexrec.specs.Order.{Rises}

abbrev pub has_lower_serial : FsRow → FsRow → Bool
has_lower_serial r later = nat_lt r.serial later.serial

-- whole blocks, at least one, up to the greatest size
abbrev pub is_size : ℕ → Bool
is_size n = (n % BLOCK_SECTORS == 0) && (nat_le BLOCK_SECTORS n && nat_le n MAX_FS_SECTORS)

-- none, or such a number that isn't below the size
abbrev pub is_limit : ℕ → Option ℕ → Bool
is_limit size None = true
is_limit size (Some n) = is_size n && nat_le size n

-- a serial from 1 and below the next, a size, a limit
abbrev pub is_fs_row : ℕ → FsRow → Bool
is_fs_row next r = nat_le 1 r.serial && (nat_lt r.serial next && (is_size r.size && is_limit r.size r.limit))

abbrev pub has_serial : ℕ → FsRow → Bool
has_serial serial r = r.serial == serial

-- none, or the serial of one of these rows
abbrev pub is_origin_in : List FsRow → Option ℕ → Bool
is_origin_in rows None = true
is_origin_in rows (Some serial) = list_any (has_serial serial) rows

-- the origin of each row is none or the serial of an earlier row
abbrev pub HaveEarlierOrigins : List FsRow → Type 0
HaveEarlierOrigins rows = (i : ℕ) (d : FsRow) → i < length rows → is_origin_in (take i rows) (slice_index_or rows i d).origin ≡ true

abbrev pub has_other_name : FsRow → FsRow → Bool
has_other_name r other = not (bytes_eq other.name r.name)

-- no two filesystems have one name
abbrev pub have_own_names : List FsRow → Bool
have_own_names [] = true
have_own_names (r ∷ rs) = list_all (has_other_name r) rs && have_own_names rs

-- the conditions on these rows, where this is the next serial
pub record FilesystemsFit (next : ℕ) (rows : List FsRow) : Type 0 where
  pub serials_rise : Rises has_lower_serial rows
  pub each_fits : list_all (is_fs_row next) rows ≡ true
  pub origins : HaveEarlierOrigins rows
  pub names : have_own_names rows ≡ true
