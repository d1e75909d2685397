-- The row of a filesystem, and how it is spelled.
use Rattle.std.specs.Prelude.{◌≡◌, ℕ, ◌<◌, ◌^◌, Bool, true, List, ◌∷◌, slice_index, ◌++◌, length, replicate, Option, Some, None, IfSome, unwrap_or, ◌==◌, if◌then◌else◌}
use Rattle.st_units.specs.Text.{is_name}
use Rattle.st_units.specs.declared.rows.FsRow.{FsRow}
use Rattle.st_fields.specs.Fields.{number_at, spelling}
use Rattle.st_recrows.specs.Texts.{filled, text_in}

-- the byte of the mark for a merge
abbrev pub merge_code : Bool → ℕ
merge_code merge = if merge then 1 else 0

-- the serial, the origin or 0, the size, the limit or 0, the length of the name, the name, the mark for a merge, 61 zero bytes
abbrev pub fs_text : FsRow → List ℕ
fs_text r =
    spelling 8 r.serial ++ (spelling 8 (unwrap_or r.origin 0) ++ (spelling 8 r.size ++ (spelling 8 (unwrap_or r.limit 0)
    ++ (spelling 2 (length r.name) ++ (filled r.name ++ (merge_code r.merge ∷ replicate 61 0))))))

-- a number of 8 bytes that isn't 0
pub record IsPositive (n : ℕ) : Type 0 where
  pub above : 0 < n
  pub below : n < 2 ^ 64

-- what a filesystem's row can hold
pub record FsFits (r : FsRow) : Type 0 where
  pub serial : r.serial < 2 ^ 64
  pub origin : IfSome r.origin IsPositive
  pub size : r.size < 2 ^ 64
  pub limit : IfSome r.limit IsPositive
  pub name : is_name r.name ≡ true

-- an origin or a limit of 0 would be read as none
pub record HasNoZero (r : FsRow) : Type 0 where
  pub origin : IfSome r.origin (λ n. 0 < n)
  pub limit : IfSome r.limit (λ n. 0 < n)

-- 0 stands for none
abbrev pub some_number : ℕ → Option ℕ
some_number n = if n == 0 then None else Some n

abbrev pub fs_fields : List ℕ → FsRow
fs_fields bytes = record {
  serial = number_at 8 0 bytes;
  name = text_in (number_at 2 32 bytes) 34 bytes;
  size = number_at 8 16 bytes;
  limit = some_number (number_at 8 24 bytes);
  origin = some_number (number_at 8 8 bytes);
  merge = slice_index bytes 98 == 1;
}
