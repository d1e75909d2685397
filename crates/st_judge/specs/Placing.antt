-- Where the records of a pool stand among looks, and which devices its rows have.
use Rattle.std.specs.Prelude.{ℕ, ◌%◌, Bool, true, false, not, ◌&&◌, ◌||◌, nat_eq, bytes_eq, List, [], ◌∷◌, ◌++◌, map, filter, find, Option, Some, None, is_none, if◌then◌else◌}
use Rattle.std.specs.List.{list_all, list_any}
use Rattle.st_units.specs.declared.rows.DevRow.{DevRow}
use Rattle.st_fields.specs.Slot.{Found}
use Rattle.st_rack.specs.Device.{Path}
use Rattle.st_commit.specs.Standing.{keep}
use Rattle.st_image.specs.Looks.{is_serial}
use Rattle.st_looks.specs.declared.look.DevLook.{DevLook}

abbrev pub has_row : List DevRow → Path → Bool
has_row rows path = list_any (λ row. bytes_eq row.path path) rows

-- no slot of the device is of the pool
abbrev pub is_silent : ℕ → DevLook → Bool
is_silent p look = is_none (keep p look.even) && is_none (keep p look.odd)

-- slots of the pool stand on devices of its rows alone
abbrev pub on_rows_alone : ℕ → List DevRow → List DevLook → Bool
on_rows_alone p rows looks = list_all (λ look. has_row rows look.path || is_silent p look) looks

abbrev pub look_at : List DevLook → Path → Option DevLook
look_at looks path = find (λ look. bytes_eq look.path path) looks

abbrev pub look_fits : ℕ → DevRow → Option DevLook → Bool
look_fits p row None = true
look_fits p row (Some look) = nat_eq look.sectors row.sectors && is_serial p look.header

-- the device of a row has its sectors and a header for the pool, if it is there
abbrev pub row_fits : ℕ → List DevLook → DevRow → Bool
row_fits p looks row = look_fits p row (look_at looks row.path)

abbrev pub rows_fit : ℕ → List DevLook → List DevRow → Bool
rows_fit p looks rows = list_all (row_fits p looks) rows

-- the first row whose device isn't there
abbrev pub missing_of : List DevLook → List DevRow → Option DevRow
missing_of looks rows = find (λ row. is_none (look_at looks row.path)) rows

abbrev pub holds : ℕ × List ℕ → Found → Bool
holds x None = false
holds x (Some y) = nat_eq y.0 x.0 && bytes_eq y.1 x.1

-- a device of the rows with a header for the pool that lacks the record
abbrev pub lacks : ℕ → List DevRow → ℕ × List ℕ → DevLook → Bool
lacks p rows x look = is_serial p look.header && (has_row rows look.path && not (holds x (if nat_eq (x.0 % 2) 0 then look.even else look.odd)))

abbrev pub path_of : DevLook → Path
path_of look = look.path

-- the paths of these devices
abbrev pub lacking : ℕ → List DevRow → ℕ × List ℕ → List DevLook → List Path
lacking p rows x looks = map path_of (filter (lacks p rows x) looks)
