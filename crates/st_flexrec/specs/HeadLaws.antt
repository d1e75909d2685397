-- The head of a flex record has its width, and is read back from its spelling.
use Rattle.std.proofs.Common.{◌≡◌, ℕ, Bool, true, false, eqb, ap, ◌∙◌, ◌^◌, ◌<◌, List, [], ◌++◌, length, refl, arith}
use Rattle.st_fields.specs.Fields.{number_at, spelling}
use Rattle.st_fields.proofs.Spellings.{number-spelling}
use Rattle.st_flexrec.specs.declared.head.FlexHead.{FlexHead}
use Rattle.st_flexrec.specs.Head.{version_number, head_text, HeadFits, head_fields}

pub positive_36 : 0 < 36
positive_36 = omega arith

pub head_width : (h : FlexHead) → HeadFits h → length (head_text h) ≡ 36
head_width h fit = refl

version_back : (b : Bool) → eqb (version_number b) 2 ≡ b
version_back true = refl
version_back false = refl

version_small : (b : Bool) → version_number b < 256 ^ 2
version_small true = omega arith
version_small false = omega arith

pub head_reads_back : (h : FlexHead) → HeadFits h → head_fields (head_text h) ≡ h
head_reads_back h fit =
    let after_mappings : List ℕ = spelling 4 h.cells in
    let after_zero : List ℕ = spelling 4 h.mappings ++ after_mappings in
    let after_filesystems : List ℕ = spelling 2 (version_number h.version2) ++ after_zero in
    let after_cell : List ℕ = spelling 2 h.filesystems ++ after_filesystems in
    let after_fs : List ℕ = spelling 8 h.next_cell ++ after_cell in
    let after_serial : List ℕ = spelling 8 h.next_fs ++ after_fs in
    let serial : number_at 8 0 (head_text h) ≡ h.serial = number-spelling 8 h.serial after_serial (omega (arith, fit.serial)) in
    let next_fs : number_at 8 8 (head_text h) ≡ h.next_fs = number-spelling 8 h.next_fs after_fs (omega (arith, fit.next_fs)) in
    let next_cell : number_at 8 16 (head_text h) ≡ h.next_cell = number-spelling 8 h.next_cell after_cell (omega (arith, fit.next_cell)) in
    let filesystems : number_at 2 24 (head_text h) ≡ h.filesystems = number-spelling 2 h.filesystems after_filesystems (omega (arith, fit.filesystems)) in
    let version2 : eqb (number_at 2 26 (head_text h)) 2 ≡ h.version2 = ap (λ (n : ℕ). eqb n 2) (number-spelling 2 (version_number h.version2) after_zero (version_small h.version2)) ∙ version_back h.version2 in
    let mappings : number_at 4 28 (head_text h) ≡ h.mappings = number-spelling 4 h.mappings after_mappings (omega (arith, fit.mappings)) in
    let cells : number_at 4 32 (head_text h) ≡ h.cells = number-spelling 4 h.cells [] (omega (arith, fit.cells)) in
    λ i. record { serial = serial i; next_fs = next_fs i; next_cell = next_cell i; filesystems = filesystems i; version2 = version2 i; mappings = mappings i; cells = cells i }
