-- a limit that is broken stays broken, whatever follows
use Rattle.std.proofs.Common.{◌≡◌, ℕ, zero, suc, ◌+◌, ◌-◌, ◌<◌, ◌≤◌, eqb, List, [], ◌∷◌, ◌++◌, Bool, true, false, not, length, take, drop, nat_lt, cond, Option, Some, None, refl, sym, ap, ◌∙◌, ⊎_elim, arith, length-append, length-take, length-drop}
use Rattle.std.proofs.lemmas.Bool.{cases_lt}
use Rattle.std.proofs.lemmas.Grind.{common_steps}
use Rattle.std.proofs.lemmas.List.{take-append-le, drop_all, drop-append-le}
use Rattle.std.proofs.Math.Seq.{take-append-add}
use Rattle.std.proofs.lemmas.List.Folds.{prefix_len-append}
use Rattle.std.proofs.lemmas.List.Sums.{prefix_len-le-length}
use Rattle.std.specs.List.{position_or_len}
use Rattle.std.specs.Option.{option_or}
use Rattle.st_lines.specs.declared.limit.Limit.{Limit}
use Rattle.st_lines.specs.declared.limit.Limit.TheVariants.{Bytes, Lines, Line}
use Rattle.st_lines.specs.Limits.{broken_by_line, broken_by_lines, first_broken}
use Rattle.st_lines.specs.Lines.{is_feed, lines_of}
use Rattle.st_lines.proofs.Cuts.{lines_of-first}
use Rattle.st_lines.proofs.Broken.{first_broken-short, first_broken-long, or_none}

is_lt : (a b : ℕ) → nat_lt a b ≡ true → a < b
is_lt a b h = grind (arith, common_steps)

lt_is : (a b : ℕ) → a < b → nat_lt a b ≡ true
lt_is a b h = grind (arith, common_steps)

long-stays : (b : Bool) (n len more : ℕ) (limit : Limit) → nat_lt 16384 len ≡ b → len ≤ more
    → cond b (Some (Line n)) None ≡ Some limit → cond (nat_lt 16384 more) (Some (Line n)) None ≡ Some limit
long-stays true n len more limit is h broken = rw (lt_is 16384 more (omega (arith, is_lt 16384 len is, h))) broken
long-stays false n len more limit is h broken = absurd cc

number-stays : (b : Bool) (n len more : ℕ) (limit : Limit) → len ≤ more
    → cond b (Some Lines) (cond (nat_lt 16384 len) (Some (Line n)) None) ≡ Some limit → cond b (Some Lines) (cond (nat_lt 16384 more) (Some (Line n)) None) ≡ Some limit
number-stays true n len more limit h broken = broken
number-stays false n len more limit h broken = long-stays (nat_lt 16384 len) n len more limit refl h broken

-- a line that breaks a limit breaks it when it goes on
line-stays : (n len more : ℕ) (limit : Limit) → len ≤ more → broken_by_line n len ≡ Some limit → broken_by_line n more ≡ Some limit
line-stays n len more limit h broken = number-stays (nat_lt 65536 n) n len more limit h broken

-- what a text breaks, by its first line, which has n bytes
by_first : (number : ℕ) (text : List ℕ) (n : ℕ) → 0 < length text → n ≡ position_or_len is_feed text
    → broken_by_lines number (lines_of text) ≡ option_or (broken_by_line number n) (broken_by_lines (number + 1) (lines_of (drop (n + 1) text)))
by_first number text n some is =
    let within = prefix_len-le-length (λ x. not (is_feed x)) text in
    let len : length (take n text) ≡ n = omega (arith, length-take n text, is, within) in
    ap (broken_by_lines number) (lines_of-first text n some is)
    ∙ ap (λ k. option_or (broken_by_line number k) (broken_by_lines (number + 1) (lines_of (drop (n + 1) text)))) len

not_eq : (a b : ℕ) → a < b → eqb a b ≡ false
not_eq a b h = grind (arith, common_steps)

is_eq : (a b : ℕ) → a ≡ b → eqb a b ≡ true
is_eq a b h = grind (arith, common_steps)

-- the rest decides where the first line breaks nothing
either : (o : Option Limit) (rest rest' : Option Limit) (limit : Limit) → (rest ≡ Some limit → rest' ≡ Some limit) → option_or o rest ≡ Some limit → option_or o rest' ≡ Some limit
either None rest rest' limit f h = f h
either (Some x) rest rest' limit f h = h

lines-stay : (fuel number : ℕ) (input more : List ℕ) (limit : Limit) → length input ≤ fuel
    → broken_by_lines number (lines_of input) ≡ Some limit → broken_by_lines number (lines_of (input ++ more)) ≡ Some limit
lines-stay fuel number [] more limit short broken = absurd cc
lines-stay zero number (byte ∷ input) more limit short broken = absurd (omega (arith, short))
lines-stay (suc fuel) number (byte ∷ input) more limit short broken =
    let text = byte ∷ input in
    let n = position_or_len is_feed text in
    let some : 0 < length text = omega arith in
    let some_more : 0 < length (text ++ more) = omega (arith, length-append text more) in
    let within = prefix_len-le-length (λ x. not (is_feed x)) text in
    let told = sym (by_first number text n some refl) ∙ broken in
    ⊎_elim
    (λ (inside : n < length text).
    let same : n ≡ position_or_len is_feed (text ++ more) = sym (prefix_len-append (λ x. not (is_feed x)) text more ∙ ap (λ b. cond b (length text + position_or_len is_feed more) n) (not_eq n (length text) inside)) in
    let onward : drop (n + 1) (text ++ more) ≡ drop (n + 1) text ++ more = drop-append-le (n + 1) text more (omega (arith, inside)) in
    by_first number (text ++ more) n some_more same
    ∙ either (broken_by_line number n) _ _ limit
    (λ rest. ap (λ t. broken_by_lines (number + 1) (lines_of t)) onward ∙ lines-stay fuel (number + 1) (drop (n + 1) text) more limit (omega (arith, length-drop (n + 1) text, short)) rest)
    told)
    (λ (past : length text ≤ n).
    let whole : n ≡ length text = omega (arith, past, within) in
    let longer : position_or_len is_feed (text ++ more) ≡ length text + position_or_len is_feed more = prefix_len-append (λ x. not (is_feed x)) text more ∙ ap (λ b. cond b (length text + position_or_len is_feed more) n) (is_eq n (length text) whole) in
    let alone : broken_by_line number n ≡ Some limit = sym (ap (λ t. option_or (broken_by_line number n) (broken_by_lines (number + 1) (lines_of t))) (drop_all (n + 1) text (omega (arith, whole))) ∙ or_none (broken_by_line number n)) ∙ told in
    let stays = line-stays number n (position_or_len is_feed (text ++ more)) limit (omega (arith, whole, longer)) alone in
    by_first number (text ++ more) (position_or_len is_feed (text ++ more)) some_more refl
    ∙ ap (λ o. option_or o (broken_by_lines (number + 1) (lines_of (drop (position_or_len is_feed (text ++ more) + 1) (text ++ more))))) stays)
    (cases_lt n (length text))

from_short : (input more : List ℕ) (limit : Limit) → length input ≤ 67108864 → first_broken input ≡ Some limit → first_broken (input ++ more) ≡ Some limit
unfolding first_broken
from_short input more limit short broken =
    let lines = sym (first_broken-short input short) ∙ broken in
    let begun : take 67108865 (input ++ more) ≡ input ++ take (67108865 - length input) more = take-append-past input more short in
    ap (λ o. option_or o (cond (nat_lt 67108864 (length (input ++ more))) (Some Bytes) None))
    (ap (λ t. broken_by_lines 1 (lines_of t)) begun ∙ lines-stay (length input) 1 input (take (67108865 - length input) more) limit (omega arith) lines)
  where
    take-append-past : (xs ys : List ℕ) → length xs ≤ 67108864 → take 67108865 (xs ++ ys) ≡ xs ++ take (67108865 - length xs) ys
    take-append-past xs ys h =
        let whole : 67108865 ≡ length xs + (67108865 - length xs) = omega (arith, h) in
        ap (λ k. take k (xs ++ ys)) whole ∙ take-append-add xs ys (67108865 - length xs)

from_long : (input more : List ℕ) (limit : Limit) → 67108864 < length input → first_broken input ≡ Some limit → first_broken (input ++ more) ≡ Some limit
from_long input more limit long broken =
    first_broken-long (input ++ more) (omega (arith, long, length-append input more))
    ∙ ap (λ t. option_or (broken_by_lines 1 (lines_of t)) (Some Bytes)) (take-append-le 67108865 input more (omega (arith, long)))
    ∙ sym (first_broken-long input long) ∙ broken

pub first-stays : (input more : List ℕ) (limit : Limit) → first_broken input ≡ Some limit → first_broken (input ++ more) ≡ Some limit
first-stays input more limit broken =
    ⊎_elim (λ (long : 67108864 < length input). from_long input more limit long broken) (λ (short : length input ≤ 67108864). from_short input more limit short broken)
    (cases_lt 67108864 (length input))
