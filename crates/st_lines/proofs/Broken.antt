-- the limits of what a source gave, of which no more was read than the first byte that is too many
use Rattle.std.proofs.Common.{◌≡◌, ℕ, ◌<◌, ◌≤◌, List, ◌++◌, true, false, length, take, nat_lt, Option, Some, None, Result, Ok, Err, refl, sym, ap, ◌∙◌, cond, arith, append-nil, length-append}
use Rattle.std.proofs.lemmas.List.{take_all, take-append-le}
use Rattle.std.proofs.lemmas.Grind.{common_steps}
use Rattle.std.specs.Prelude.{IfSome}
use Rattle.std.specs.Io.KnownBytes.{Consumes, IsAtEnd}
use Rattle.std.specs.Option.{option_or}
use Rattle.st_lines.specs.declared.limit.Limit.{Limit}
use Rattle.st_lines.specs.declared.limit.Limit.TheVariants.{Bytes}
use Rattle.st_lines.specs.declared.read.ReadStop.{ReadStop}
use Rattle.st_lines.specs.Limits.{broken_by_lines, first_broken}
use Rattle.st_lines.specs.Lines.{lines_of}

pub or_none : (o : Option Limit) → option_or o None ≡ o
or_none None = refl
or_none (Some limit) = refl

not_long : (n : ℕ) → n ≤ 67108864 → nat_lt 67108864 n ≡ false
not_long n h = grind (arith, common_steps)

is_long : (n : ℕ) → 67108864 < n → nat_lt 67108864 n ≡ true
is_long n h = grind (arith, common_steps)

-- an input that isn't too long
pub first_broken-short : (input : List ℕ) → length input ≤ 67108864 → first_broken input ≡ broken_by_lines 1 (lines_of input)
unfolding first_broken
first_broken-short input h =
    ap (λ b. option_or (broken_by_lines 1 (lines_of (take 67108865 input))) (cond b (Some Bytes) None)) (not_long (length input) h)
    ∙ or_none (broken_by_lines 1 (lines_of (take 67108865 input)))
    ∙ ap (λ text. broken_by_lines 1 (lines_of text)) (take_all 67108865 input (omega (arith, h)))

-- one that is
pub first_broken-long : (input : List ℕ) → 67108864 < length input → first_broken input ≡ option_or (broken_by_lines 1 (lines_of (take 67108865 input))) (Some Bytes)
unfolding first_broken
first_broken-long input h =
    ap (λ b. option_or (broken_by_lines 1 (lines_of (take 67108865 input))) (cond b (Some Bytes) None)) (is_long (length input) h)

-- the source was read to its end
pub all_read : (a b : Option (List ℕ)) (input : List ℕ) (o : Option Limit) → Consumes a b input → IsAtEnd b → length input ≤ 67108864
    → broken_by_lines 1 (lines_of input) ≡ o → IfSome a (λ all. first_broken all ≡ o)
all_read None b input o taken end short is = tt
all_read (Some all) None input o taken end short is = absurd taken
all_read (Some all) (Some rest) input o taken end short is =
    rw (taken ∙ ap (λ r. input ++ r) end ∙ append-nil input) (first_broken-short input short ∙ is)

-- more than enough of it was read
pub enough_read : (a b : Option (List ℕ)) (input : List ℕ) (o : Option Limit) → Consumes a b input → 67108864 < length input
    → option_or (broken_by_lines 1 (lines_of (take 67108865 input))) (Some Bytes) ≡ o → IfSome a (λ all. first_broken all ≡ o)
enough_read None b input o taken long is = tt
enough_read (Some all) None input o taken long is = absurd taken
enough_read (Some all) (Some rest) input o taken long is =
    rw taken (first_broken-long (input ++ rest) (omega (arith, long, length-append input rest))
    ∙ ap (λ text. option_or (broken_by_lines 1 (lines_of text)) (Some Bytes)) (take-append-le 67108865 input rest (omega (arith, long))) ∙ is)

abbrev pub stop_or : {T : Type 0} → ReadStop → Result T ReadStop → ReadStop
stop_or d (Ok x) = d
stop_or d (Err stop) = stop

pub stop_is : {T : Type 0} (r : Result T ReadStop) (a b : ReadStop) → r ≡ Err a → r ≡ Err b → a ≡ b
stop_is r a b is_a is_b = ap (stop_or a) (sym is_a ∙ is_b)
