-- Rows that are put together front to back are the spellings of their values.
use Rattle.std.proofs.Common.{◌≡◌, ◌<◌, ◌^◌, ℕ, Option, Some, None, List, [], ◌∷◌, ◌++◌, length, take, replicate, unwrap_or, ap, ◌∙◌, append_assoc}
use Rattle.std.specs.Prelude.{IfSome}
use Rattle.st_units.specs.declared.rows.DevRow.{DevRow}
use Rattle.st_units.specs.declared.rows.FsRow.{FsRow}
use Rattle.st_fields.specs.Fields.{spelling}
use Rattle.st_recrows.specs.Texts.{filled}
use Rattle.st_recrows.specs.PoolRows.{tier_code, dev_text}
use Rattle.st_recrows.specs.FsRows.{IsPositive, fs_text, merge_code}
use Rattle.st_recrows.proofs.RowsLemmas.{all_of_it}

pub dev_spelled : (d : DevRow) (w1 w2 w3 w4 path : List ℕ) (code : ℕ) → path ≡ d.path → code ≡ tier_code d.tier → length w4 ≡ 80
    → take 2 w1 ≡ spelling 2 (length path) → take 66 w2 ≡ take 2 w1 ++ filled path → take 72 w3 ≡ take 66 w2 ++ (code ∷ 0 ∷ 0 ∷ 0 ∷ 0 ∷ 0 ∷ [])
    → take 80 w4 ≡ take 72 w3 ++ spelling 8 d.sectors → w4 ≡ dev_text d
dev_spelled d w1 w2 w3 w4 path code is_path is_code size p1 p2 p3 p4 =
    let count : List ℕ = spelling 2 (length path) in
    let zeros : List ℕ = code ∷ 0 ∷ 0 ∷ 0 ∷ 0 ∷ 0 ∷ [] in
    let last : List ℕ = spelling 8 d.sectors in
    let f2 : take 66 w2 ≡ count ++ filled path = p2 ∙ ap (λ (l : List ℕ). l ++ filled path) p1 in
    let f3 : take 72 w3 ≡ (count ++ filled path) ++ zeros = p3 ∙ ap (λ (l : List ℕ). l ++ zeros) f2 in
    let f4 : take 80 w4 ≡ ((count ++ filled path) ++ zeros) ++ last = p4 ∙ ap (λ (l : List ℕ). l ++ last) f3 in
    let right : ((count ++ filled path) ++ zeros) ++ last ≡ count ++ (filled path ++ (zeros ++ last)) = append_assoc (count ++ filled path) zeros last ∙ append_assoc count (filled path) (zeros ++ last) in
    all_of_it 80 w4 (count ++ (filled path ++ (zeros ++ last))) size (f4 ∙ right)
    ∙ (λ i. spelling 2 (length (is_path i)) ++ (filled (is_path i) ++ (is_code i ∷ (replicate 5 0 ++ spelling 8 d.sectors))))

pub fs_spelled : (r : FsRow) (w1 w2 w3 w4 w5 w6 w7 w8 name zeros : List ℕ) (origin limit code : ℕ) → name ≡ r.name → zeros ≡ replicate 61 0 → code ≡ merge_code r.merge → origin ≡ unwrap_or r.origin 0 → limit ≡ unwrap_or r.limit 0 → length w8 ≡ 160
    → take 8 w1 ≡ spelling 8 r.serial → take 16 w2 ≡ take 8 w1 ++ spelling 8 origin → take 24 w3 ≡ take 16 w2 ++ spelling 8 r.size → take 32 w4 ≡ take 24 w3 ++ spelling 8 limit
    → take 34 w5 ≡ take 32 w4 ++ spelling 2 (length name) → take 98 w6 ≡ take 34 w5 ++ filled name → take 99 w7 ≡ take 98 w6 ++ (code ∷ []) → take 160 w8 ≡ take 99 w7 ++ zeros → w8 ≡ fs_text r
fs_spelled r w1 w2 w3 w4 w5 w6 w7 w8 name zeros origin limit code is_name is_zeros is_code is_origin is_limit size p1 p2 p3 p4 p5 p6 p7 p8 =
    let f2 : take 16 w2 ≡ spelling 8 r.serial ++ spelling 8 origin = p2 ∙ ap (λ (l : List ℕ). l ++ spelling 8 origin) p1 in
    let f3 : take 24 w3 ≡ (spelling 8 r.serial ++ spelling 8 origin) ++ spelling 8 r.size = p3 ∙ ap (λ (l : List ℕ). l ++ spelling 8 r.size) f2 in
    let f4 : take 32 w4 ≡ ((spelling 8 r.serial ++ spelling 8 origin) ++ spelling 8 r.size) ++ spelling 8 limit = p4 ∙ ap (λ (l : List ℕ). l ++ spelling 8 limit) f3 in
    let numbers : List ℕ = (((spelling 8 r.serial ++ spelling 8 origin) ++ spelling 8 r.size) ++ spelling 8 limit) ++ spelling 2 (length name) in
    let f5 : take 34 w5 ≡ numbers = p5 ∙ ap (λ (l : List ℕ). l ++ spelling 2 (length name)) f4 in
    let f6 : take 98 w6 ≡ numbers ++ filled name = p6 ∙ ap (λ (l : List ℕ). l ++ filled name) f5 in
    let f7 : take 99 w7 ≡ (numbers ++ filled name) ++ (code ∷ []) = p7 ∙ ap (λ (l : List ℕ). l ++ (code ∷ [])) f6 in
    let f8 : take 160 w8 ≡ ((numbers ++ filled name) ++ (code ∷ [])) ++ zeros = p8 ∙ ap (λ (l : List ℕ). l ++ zeros) f7 in
    all_of_it 160 w8 (numbers ++ (filled name ++ (code ∷ zeros))) size (f8 ∙ append_assoc (numbers ++ filled name) (code ∷ []) zeros ∙ append_assoc numbers (filled name) (code ∷ zeros))
    ∙ (λ i. spelling 8 r.serial ++ (spelling 8 (is_origin i) ++ (spelling 8 r.size ++ (spelling 8 (is_limit i) ++ (spelling 2 (length (is_name i)) ++ (filled (is_name i) ++ (is_code i ∷ is_zeros i)))))))

-- numbers that aren't 0 and fit the type
pub positive_of : (number : Option ℕ) → IfSome number (λ n. 0 < n) → IfSome number (λ n. n < 2 ^ 64) → IfSome number IsPositive
positive_of None above below = tt
positive_of (Some n) above below = record { above = above; below = below }
