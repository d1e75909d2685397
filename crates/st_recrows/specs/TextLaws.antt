-- Texts in their fields.
use Rattle.std.proofs.Common.{◌≡◌, ℕ, ◌+◌, ◌-◌, ◌≤◌, List, ◌++◌, length, take, drop, replicate, min, true, refl, sym, ap, ◌∙◌, append_assoc, arith}
use Rattle.std.proofs.lemmas.List.{take_at, drop_at, length-append, length-replicate, drop-drop, drop-replicate, take-replicate}
use Rattle.std.proofs.lemmas.Bool.Decides.{nat_tests}
use Rattle.st_units.specs.Text.{is_name, is_path}
use Rattle.st_recrows.specs.Texts.{filled}

pub name_short : (name : List ℕ) → is_name name ≡ true → length name ≤ 64
name_short name h = grind (arith, nat_tests)

pub path_short : (path : List ℕ) → is_path path ≡ true → length path ≤ 64
path_short path h = grind (arith, nat_tests)

pub length-filled : (text : List ℕ) → length text ≤ 64 → length (filled text) ≡ 64
length-filled text short = length-append text (replicate (64 - length text) 0) ∙ omega (arith, length-replicate {A = ℕ} (64 - length text) 0)

-- the text is read back from the front of its field
pub text_back : (text rest : List ℕ) → length text ≤ 64 → take (min (length text) 64) (filled text ++ rest) ≡ text
text_back text rest short =
    let n : min (length text) 64 ≡ length text = omega arith in
    ap (λ (k : ℕ). take k (filled text ++ rest)) n ∙ ap (λ (l : List ℕ). take (length text) l) (append_assoc text (replicate (64 - length text) 0) rest) ∙ take_at text (replicate (64 - length text) 0 ++ rest) (length text) refl

pub text_back_last : (text : List ℕ) → length text ≤ 64 → take (min (length text) 64) (filled text) ≡ text
text_back_last text short =
    let n : min (length text) 64 ≡ length text = omega arith in
    ap (λ (k : ℕ). take k (filled text)) n ∙ take_at text (replicate (64 - length text) 0) (length text) refl

-- what stands behind the field
pub past_text : (text rest : List ℕ) (n : ℕ) → length text ≤ 64 → drop (64 + n) (filled text ++ rest) ≡ drop n rest
past_text text rest n short = sym (drop-drop n 64 (filled text ++ rest)) ∙ ap (λ (l : List ℕ). drop n l) (drop_at (filled text) rest 64 (length-filled text short))

pub zeros_left : (n : ℕ) → take {A = ℕ} (64 - n) (drop n (replicate 64 0)) ≡ replicate (64 - n) 0
zeros_left n = ap (λ (l : List ℕ). take (64 - n) l) (drop-replicate n 64 0) ∙ take-replicate (64 - n) (64 - n) 0 (omega arith)

-- a text and zero bytes behind it
pub filled_front : (at n : ℕ) (old mid new text piece : List ℕ) → n ≡ length text → length text ≤ 64 → piece ≡ replicate (64 - n) 0
    → take (at + n) mid ≡ take at old ++ text → take (at + n + length piece) new ≡ take (at + n) mid ++ piece → take (at + 64) new ≡ take at old ++ filled text
filled_front at n old mid new text piece size short zeros first second =
    let len : length piece ≡ 64 - n = ap length zeros ∙ length-replicate {A = ℕ} (64 - n) 0 in
    let end : at + n + length piece ≡ at + 64 = omega arith in
    let is_zeros : piece ≡ replicate (64 - length text) 0 = zeros ∙ ap (λ (k : ℕ). replicate (64 - k) 0) size in
    ap (λ (k : ℕ). take k new) (sym end) ∙ second ∙ ap (λ (l : List ℕ). l ++ piece) first ∙ append_assoc (take at old) text piece ∙ ap (λ (l : List ℕ). take at old ++ (text ++ l)) is_zeros
