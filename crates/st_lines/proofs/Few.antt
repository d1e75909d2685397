-- an input that breaks no limit has few lines
use Rattle.std.proofs.Common.{◌≡◌, ℕ, ◌+◌, ◌≤◌, List, [], ◌∷◌, length, Bool, true, false, cond, Option, Some, None, refl, arith}
use Rattle.std.proofs.lemmas.Bool.Decides.{nat_tests}
use Rattle.std.specs.Prelude.{nat_lt}
use Rattle.std.specs.Option.{option_or}
use Rattle.st_limits.specs.declared.TheConstants.{MAX_LINES, MAX_LINE_BYTES}
use Rattle.st_lines.specs.declared.limit.Limit.{Limit}
use Rattle.st_lines.specs.declared.limit.Limit.TheVariants.{Lines, Line}
use Rattle.st_lines.specs.Limits.{broken_by_lines}

rest_unbroken : (b c : Bool) (x y : Limit) (more : Option Limit) → option_or (cond b (Some x) (cond c (Some y) None)) more ≡ None → (b ≡ false) × (more ≡ None)
rest_unbroken true c x y more h = absurd cc
rest_unbroken false true x y more h = absurd cc
rest_unbroken false false x y more h = (refl, h)

few_from : (number : ℕ) (lines : List (List ℕ)) → number ≤ MAX_LINES + 1 → broken_by_lines number lines ≡ None → number + length lines ≤ MAX_LINES + 1
few_from number [] low h = omega (arith, low)
few_from number (line ∷ lines) low h =
    let rest = rest_unbroken (nat_lt MAX_LINES number) (nat_lt MAX_LINE_BYTES (length line)) Lines (Line number) (broken_by_lines (number + 1) lines) h in
    let below : number ≤ MAX_LINES = (let told = rest.0 in grind (arith, nat_tests)) in
    let tail = few_from (number + 1) lines (omega (arith, below)) rest.1 in
    omega (arith, tail)

pub few_lines : (lines : List (List ℕ)) → broken_by_lines 1 lines ≡ None → length lines ≤ MAX_LINES
few_lines lines h = let all = few_from 1 lines (omega arith) h in omega (arith, all)
