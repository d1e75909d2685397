-- The header is the first of two copies that is valid.
use Rattle.std.proofs.Common.{◌≡◌, ◌⊎◌, inl, inr, ℕ, ◌+◌, ◌^◌, ◌<◌, ◌≤◌, Bool, true, false, cond, nat_lt, List, ◌++◌, length, take, drop, Option, Some, None, MatchOption, refl, sym, ◌∙◌, ap, arith, append_assoc}
use Rattle.std.proofs.lemmas.List.{take_at, drop_at, length-take-le}
use Rattle.std.proofs.lemmas.Bool.Decides.{nat_tests}
use Rattle.st_fields.specs.Fields.{put_over, number_at}
use Rattle.st_header.specs.Header.{header_text, copy_of, first_of, header_of, sector_of, IsSerial, IsCopy, IsHeader}
use Rattle.st_header.proofs.Copies.{copy_is, is_copy, serial_in, sectors_in, length-header_text}

-- where the device is large enough, the first copy, or else the second
picked : (small : Bool) (x y : Option ℕ) (n : ℕ) → cond small None (first_of x y) ≡ Some n → (small ≡ false) × ((x ≡ Some n) ⊎ ((x ≡ None) × (y ≡ Some n)))
picked true x y n is = absurd (cc)
picked false (Some m) y n is = (refl, inl is)
picked false None y n is = (refl, inr (refl, is))

none_or_some : (o : Option ℕ) → (o ≡ None) ⊎ ((n : ℕ) × (o ≡ Some n))
none_or_some None = inl refl
none_or_some (Some n) = inr (n, refl)

not_small : (sectors : ℕ) → nat_lt sectors 8192 ≡ false → 8192 ≤ sectors
not_small sectors is = grind (arith, nat_tests)

large : (sectors : ℕ) → 8192 ≤ sectors → nat_lt sectors 8192 ≡ false
large sectors le = grind (arith, nat_tests)

small_too : (sectors : ℕ) → sectors < 8192 → nat_lt sectors 8192 ≡ true
small_too sectors lt = grind (arith, nat_tests)

pub none_if_small : (sectors : ℕ) (area : List ℕ) → sectors < 8192 → None ≡ header_of sectors area
none_if_small sectors area lt = sym (ap (λ (b : Bool). cond b None (first_of (copy_of sectors (sector_of 1 area)) (copy_of sectors (sector_of 9 area)))) (small_too sectors lt))

pub first_copy : (sectors n : ℕ) (area : List ℕ) → 8192 ≤ sectors → copy_of sectors (sector_of 1 area) ≡ Some n → header_of sectors area ≡ Some n
first_copy sectors n area le is =
    ap (λ (b : Bool). cond b None (first_of (copy_of sectors (sector_of 1 area)) (copy_of sectors (sector_of 9 area)))) (large sectors le)
    ∙ ap (λ (o : Option ℕ). first_of o (copy_of sectors (sector_of 9 area))) is

pub second_copy : (sectors : ℕ) (area : List ℕ) → 8192 ≤ sectors → copy_of sectors (sector_of 1 area) ≡ None → header_of sectors area ≡ copy_of sectors (sector_of 9 area)
second_copy sectors area le is =
    ap (λ (b : Bool). cond b None (first_of (copy_of sectors (sector_of 1 area)) (copy_of sectors (sector_of 9 area)))) (large sectors le)
    ∙ ap (λ (o : Option ℕ). first_of o (copy_of sectors (sector_of 9 area))) is

no_copy : (sectors : ℕ) (bytes : List ℕ) → copy_of sectors bytes ≡ None → (n : ℕ) → ¬ IsCopy sectors bytes n
no_copy sectors bytes is n copy = let found = is_copy sectors n bytes copy in cc

header_is : (sectors n : ℕ) (area : List ℕ) → header_of sectors area ≡ Some n → IsHeader sectors area n
header_is sectors n area is =
    let found = picked (nat_lt sectors 8192) (copy_of sectors (sector_of 1 area)) (copy_of sectors (sector_of 9 area)) n is in
    record {
      large = not_small sectors found.0;
      copy = elim found.1 [
        | inl first ↦ inl (copy_is sectors n (sector_of 1 area) first)
        | inr second ↦ inr (no_copy sectors (sector_of 1 area) second.0, copy_is sectors n (sector_of 9 area) second.1)
      ];
    }

is_header : (sectors n : ℕ) (area : List ℕ) → IsHeader sectors area n → header_of sectors area ≡ Some n
is_header sectors n area header = elim header.copy [
  | inl first ↦ first_copy sectors n area header.large (is_copy sectors n (sector_of 1 area) first)
  | inr second ↦ elim (none_or_some (copy_of sectors (sector_of 1 area))) [
    | inl none ↦ second_copy sectors area header.large none ∙ is_copy sectors n (sector_of 9 area) second.1
    | inr found ↦ absurd (second.0 found.0 (copy_is sectors found.0 (sector_of 1 area) found.1))
  ]
]

-- What the functions give is the grammar's header, and they give nothing only where there is none.
pub grammar : (sectors : ℕ) (area : List ℕ) (found : Option ℕ) → found ≡ header_of sectors area → MatchOption found ((n : ℕ) → ¬ IsHeader sectors area n) (IsHeader sectors area)
grammar sectors area None is = λ n header. (let there = is_header sectors n area header in cc)
grammar sectors area (Some n) is = header_is sectors n area (sym is)

pub one_spelling : (n m s t : ℕ) (rest more : List ℕ) → n < 2 ^ 64 → m < 2 ^ 64 → s < 2 ^ 64 → t < 2 ^ 64 → header_text n s ++ rest ≡ header_text m t ++ more → (n ≡ m) × (s ≡ t)
one_spelling n m s t rest more n_fits m_fits s_fits t_fits same = (
  sym (serial_in n s rest n_fits) ∙ ap (λ (l : List ℕ). number_at 8 8 l) same ∙ serial_in m t more m_fits,
  sym (sectors_in n s rest s_fits) ∙ ap (λ (l : List ℕ). number_at 8 16 l) same ∙ sectors_in m t more t_fits,
)

pub written : (sectors n : ℕ) (area : List ℕ) → length area ≡ 8192 → 8192 ≤ sectors → IsSerial n → header_of sectors (put_over area 512 (header_text n sectors)) ≡ Some n
written sectors n area size le number =
    let text : List ℕ = header_text n sectors in
    let rest : List ℕ = drop (512 + length text) area in
    let there : sector_of 1 (put_over area 512 text) ≡ text =
    ap (λ (l : List ℕ). take 512 (drop 512 l)) (append_assoc (take 512 area) text rest)
    ∙ ap (λ (l : List ℕ). take 512 l) (drop_at (take 512 area) (text ++ rest) 512 (length-take-le 512 area (omega arith)))
    ∙ take_at text rest 512 (length-header_text n sectors) in
    first_copy sectors n (put_over area 512 text) le (is_copy sectors n (sector_of 1 (put_over area 512 text)) (record { number = number; spelled = there }))
