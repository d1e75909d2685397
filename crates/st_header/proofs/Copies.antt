-- The spelling of a header is put together, and a copy is read by spelling it again.
use Rattle.std.proofs.Common.{◌≡◌, ℕ, ◌+◌, ◌^◌, ◌<◌, ◌≤◌, Bool, true, false, ◌&&◌, cond, nat_le, List, [], ◌++◌, length, take, replicate, Some, None, refl, sym, ◌∙◌, ap, subst, arith, length-append}
use Rattle.std.specs.Str.{bytes_eq}
use Rattle.std.proofs.lemmas.List.{take_all, append-nil}
use Rattle.std.proofs.lemmas.Bool.Decides.{nat_tests}
use Rattle.std.proofs.lemmas.Slice.Eq.{bytes_eq-Decides}
use Rattle.st_fields.specs.Fields.{number_at, spelling, digest}
use Rattle.st_fields.proofs.Spellings.{number_at-spelling, length-digest}
use Rattle.st_header.specs.Header.{magic, header_fields, header_text, copy_of, IsCopy}

-- Pieces that are put front to back make the spelling.
pub spelled : (w0 w1 w2 w3 w4 w5 sealed : List ℕ) (serial sectors : ℕ) → length sealed ≡ 32 → length w5 ≡ 512
    → take 8 w1 ≡ take 0 w0 ++ magic → take (8 + 8) w2 ≡ take 8 w1 ++ spelling 8 serial → take (16 + 8) w3 ≡ take 16 w2 ++ spelling 8 sectors
    → take (24 + 456) w4 ≡ take 24 w3 ++ replicate 456 0 → sealed ≡ digest (take 480 w4 ++ []) → take (480 + length sealed) w5 ≡ take 480 w4 ++ sealed
    → w5 ≡ header_text serial sectors
unfolding header_fields
spelled w0 w1 w2 w3 w4 w5 sealed serial sectors size whole p1 p2 p3 p4 is_sealed p5 =
    let head : take 480 w4 ≡ header_fields serial sectors =
    p4 ∙ ap (λ (l : List ℕ). l ++ replicate 456 0) (p3 ∙ ap (λ (l : List ℕ). l ++ spelling 8 sectors) (p2 ∙ ap (λ (l : List ℕ). l ++ spelling 8 serial) p1)) in
    let seal : sealed ≡ digest (header_fields serial sectors) = is_sealed ∙ ap digest (append-nil (take 480 w4) ∙ head) in
    let q5 = subst (λ (n : ℕ). take (480 + n) w5 ≡ take 480 w4 ++ sealed) size p5 in
    sym (take_all 512 w5 (omega arith)) ∙ q5 ∙ (λ i. head i ++ seal i)

length-header_fields : (serial sectors : ℕ) → length (header_fields serial sectors) ≡ 480
unfolding header_fields
length-header_fields serial sectors = refl

pub length-header_text : (serial sectors : ℕ) → length (header_text serial sectors) ≡ 512
length-header_text serial sectors =
    omega (arith, length-append (header_fields serial sectors) (digest (header_fields serial sectors)), length-digest (header_fields serial sectors), length-header_fields serial sectors)

-- The serial stands in its spelling.
pub serial_in : (serial sectors : ℕ) (rest : List ℕ) → serial < 2 ^ 64 → number_at 8 8 (header_text serial sectors ++ rest) ≡ serial
unfolding header_fields
serial_in serial sectors rest fits =
    number_at-spelling 8 8 serial magic ((spelling 8 sectors ++ (replicate 456 0 ++ digest (header_fields serial sectors))) ++ rest) refl fits

-- So do the sectors.
pub sectors_in : (serial sectors : ℕ) (rest : List ℕ) → sectors < 2 ^ 64 → number_at 8 16 (header_text serial sectors ++ rest) ≡ sectors
unfolding header_fields
sectors_in serial sectors rest fits =
    number_at-spelling 8 16 sectors (magic ++ spelling 8 serial) ((replicate 456 0 ++ digest (header_fields serial sectors)) ++ rest) refl fits

-- What a guarded value was taken under.
taken : (a b c : Bool) (s n : ℕ) → cond (a && (b && c)) (Some s) None ≡ Some n → (a ≡ true) × (b ≡ true) × (c ≡ true) × (s ≡ n)
taken true true true s n is = (refl, refl, refl, cc)
taken true true false s n is = absurd (cc)
taken true false c s n is = absurd (cc)
taken false b c s n is = absurd (cc)

le_of : (a b : ℕ) → nat_le a b ≡ true → a ≤ b
le_of a b is = grind (arith, nat_tests)

true_of : (a b : ℕ) → a ≤ b → nat_le a b ≡ true
true_of a b le = grind (arith, nat_tests)

pub copy_is : (sectors n : ℕ) (bytes : List ℕ) → copy_of sectors bytes ≡ Some n → IsCopy sectors bytes n
copy_is sectors n bytes is =
    let s : ℕ = number_at 8 8 bytes in
    let found = taken (nat_le 1 s) (nat_le s (2 ^ 48)) (bytes_eq bytes (header_text s sectors)) s n is in
    subst (λ (m : ℕ). IsCopy sectors bytes m) found.3 (record {
      number = record { from = le_of 1 s found.0; until = le_of s (2 ^ 48) found.1 };
      spelled = (bytes_eq-Decides bytes (header_text s sectors)).0 found.2;
    })

pub is_copy : (sectors n : ℕ) (bytes : List ℕ) → IsCopy sectors bytes n → copy_of sectors bytes ≡ Some n
is_copy sectors n bytes copy =
    let s : ℕ = number_at 8 8 bytes in
    let low : n < 2 ^ 64 = omega (arith, copy.number.until) in
    let same : s ≡ n = ap (λ (l : List ℕ). number_at 8 8 l) (copy.spelled ∙ sym (append-nil (header_text n sectors))) ∙ serial_in n sectors [] low in
    let first : nat_le 1 s ≡ true = ap (λ (m : ℕ). nat_le 1 m) same ∙ true_of 1 n copy.number.from in
    let last : nat_le s (2 ^ 48) ≡ true = ap (λ (m : ℕ). nat_le m (2 ^ 48)) same ∙ true_of n (2 ^ 48) copy.number.until in
    let text : bytes_eq bytes (header_text s sectors) ≡ true = (bytes_eq-Decides bytes (header_text s sectors)).1 (copy.spelled ∙ ap (λ (m : ℕ). header_text m sectors) (sym same)) in
    (λ i. cond (first i && (last i && text i)) (Some (same i)) None)
