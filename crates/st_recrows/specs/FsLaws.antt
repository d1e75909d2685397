-- The row of a filesystem has its width, and is read back from its spelling.
use Rattle.std.proofs.Common.{◌≡◌, ℕ, Bool, true, false, cond, eqb, ◌<◌, ◌≤◌, ◌^◌, List, ◌∷◌, ◌++◌, length, take, replicate, get_or, min, Option, Some, None, unwrap_or, refl, ap, ◌∙◌, arith}
use Rattle.std.specs.Prelude.{IfSome}
use Rattle.std.proofs.lemmas.Bool.Decides.{nat_tests}
use Rattle.std.proofs.lemmas.List.{length-append, get_or_at}
use Rattle.st_units.specs.declared.rows.FsRow.{FsRow}
use Rattle.st_fields.specs.Fields.{number_at, spelling}
use Rattle.st_fields.proofs.Spellings.{number-spelling}
use Rattle.st_recrows.specs.Texts.{filled, text_in}
use Rattle.st_recrows.specs.TextLaws.{name_short, length-filled, text_back}
use Rattle.st_recrows.specs.FsRows.{IsPositive, some_number, merge_code, fs_text, FsFits, fs_fields}

pub positive_160 : 0 < 160
positive_160 = omega arith

pub fs_width : (r : FsRow) → FsFits r → length (fs_text r) ≡ 160
fs_width r fit =
    let size = length-filled r.name (name_short r.name fit.name) in
    let all = length-append (filled r.name) (merge_code r.merge ∷ replicate 61 0) in
    omega (arith, size, all)

positive_some : (n : ℕ) → 0 < n → some_number n ≡ Some n
positive_some n above = let test : eqb n 0 ≡ false = grind (arith, nat_tests) in ap (λ (b : Bool). cond b None (Some n)) test

some_number_back : (o : Option ℕ) → IfSome o IsPositive → some_number (unwrap_or o 0) ≡ o
some_number_back None fit = refl
some_number_back (Some n) fit = positive_some n fit.above

merge_back : (b : Bool) → eqb (merge_code b) 1 ≡ b
merge_back true = refl
merge_back false = refl

small : (o : Option ℕ) → IfSome o IsPositive → unwrap_or o 0 < 256 ^ 8
small None fit = omega arith
small (Some n) fit = let h : n < 2 ^ 64 = fit.below in omega arith

pub fs_reads_back : (r : FsRow) → FsFits r → fs_fields (fs_text r) ≡ r
fs_reads_back r fit =
    let short : length r.name ≤ 64 = name_short r.name fit.name in
    let after_name : List ℕ = merge_code r.merge ∷ replicate 61 0 in
    let after_count : List ℕ = filled r.name ++ after_name in
    let after_limit : List ℕ = spelling 2 (length r.name) ++ after_count in
    let after_size : List ℕ = spelling 8 (unwrap_or r.limit 0) ++ after_limit in
    let after_origin : List ℕ = spelling 8 r.size ++ after_size in
    let after_serial : List ℕ = spelling 8 (unwrap_or r.origin 0) ++ after_origin in
    let serial : number_at 8 0 (fs_text r) ≡ r.serial = number-spelling 8 r.serial after_serial (omega (arith, fit.serial)) in
    let origin : some_number (number_at 8 8 (fs_text r)) ≡ r.origin = ap some_number (number-spelling 8 (unwrap_or r.origin 0) after_origin (small r.origin fit.origin)) ∙ some_number_back r.origin fit.origin in
    let size : number_at 8 16 (fs_text r) ≡ r.size = number-spelling 8 r.size after_size (omega (arith, fit.size)) in
    let limit : some_number (number_at 8 24 (fs_text r)) ≡ r.limit = ap some_number (number-spelling 8 (unwrap_or r.limit 0) after_limit (small r.limit fit.limit)) ∙ some_number_back r.limit fit.limit in
    let count : number_at 2 32 (fs_text r) ≡ length r.name = number-spelling 2 (length r.name) after_count (omega arith) in
    let name : text_in (number_at 2 32 (fs_text r)) 34 (fs_text r) ≡ r.name = ap (λ (n : ℕ). take (min n 64) after_count) count ∙ text_back r.name after_name short in
    let byte : get_or after_count 64 0 ≡ merge_code r.merge = get_or_at (filled r.name) (merge_code r.merge) (replicate 61 0) 0 64 (length-filled r.name short) in
    let merge : eqb (get_or (fs_text r) 98 0) 1 ≡ r.merge = ap (λ (n : ℕ). eqb n 1) byte ∙ merge_back r.merge in
    λ i. record { serial = serial i; name = name i; size = size i; limit = limit i; origin = origin i; merge = merge i }
