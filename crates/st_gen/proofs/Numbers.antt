-- a script goes on from line to line, and so does its number
use Rattle.std.proofs.Common.{◌≡◌, ◌⊎◌, ⊎_elim, ◌∙◌, ◌<◌, ◌≤◌, ℕ, zero, suc, ◌+◌, ◌-◌, ◌*◌, List, [], ◌∷◌, ◌++◌, true, false, cond, nat_lt, arith, refl, ap, sym, append_assoc}
use Rattle.std.proofs.lemmas.Grind.{common_steps}
use Rattle.std.specs.Fn.{iterate}
use Rattle.std.proofs.lemmas.Bool.{cases_lt}
use Rattle.std.specs.List.{flat_map, range_with_len}
use Rattle.st_gen.specs.declared.line.TheConstants.{GEN_LINES}
use Rattle.st_gen.specs.Script.{drawn, number_before, number_after, line_at, script_line, script}

once_more : {A : Type 0} (f : A → A) (n : ℕ) (x : A) → iterate f (suc n) x ≡ f (iterate f n x)
once_more f zero x = refl
once_more f (suc n) x = once_more f n (f x)

is_below : (a b : ℕ) → a < b → nat_lt a b ≡ true
is_below a b h = grind (arith, common_steps)

not_below : (a b : ℕ) → b ≤ a → nat_lt a b ≡ false
not_below a b h = grind (arith, common_steps)

-- in the first two lines of each lane it stays, and from then on it is drawn
module _ (f : ℕ → ℕ) (n first : ℕ) where
  next : (i : ℕ) → cond (nat_lt i first) (iterate f (i - first) n) (f (iterate f (i - first) n)) ≡ iterate f (i + 1 - first) n
  next i = ⊎_elim
      (λ (h : i < first).
      let same : i - first ≡ i + 1 - first = omega (arith, h) in
      ap (λ b. cond b (iterate f (i - first) n) (f (iterate f (i - first) n))) (is_below i first h) ∙ ap (λ k. iterate f k n) same)
      (λ (h : first ≤ i).
      let more : suc (i - first) ≡ i + 1 - first = omega (arith, h) in
      ap (λ b. cond b (iterate f (i - first) n) (f (iterate f (i - first) n))) (not_below i first h) ∙ sym (once_more f (i - first) n) ∙ ap (λ k. iterate f k n) more)
      (cases_lt i first)

pub goes_on : (lanes number i : ℕ) → number_after lanes i (number_before lanes number i) ≡ number_before lanes number (i + 1)
unfolding number_after
goes_on lanes number i = next drawn number (2 * lanes) i

-- so many lines from line i on
unfoldable pub lines_from : ℕ → ℕ → ℕ → ℕ → List ℕ
lines_from lanes number i more = flat_map (script_line lanes number) (range_with_len i more)

pub all_lines : (lanes number : ℕ) → script lanes number ≡ lines_from lanes number 0 GEN_LINES
unfolding script lines_from
all_lines lanes number = refl

pub no_line : (lanes number i more : ℕ) → more ≡ 0 → lines_from lanes number i more ≡ []
unfolding lines_from
no_line lanes number i more none = ap (λ n. flat_map (script_line lanes number) (range_with_len i n)) none

pub next_line : (lanes number i more less : ℕ) → more ≡ less + 1 → lines_from lanes number i more ≡ line_at lanes i (number_before lanes number i) ++ 10 ∷ lines_from lanes number (i + 1) less
unfolding lines_from
next_line lanes number i more less one =
    let counted : more ≡ suc less = omega (arith, one) in
    ap (λ n. flat_map (script_line lanes number) (range_with_len i n)) counted
    ∙ append_assoc (line_at lanes i (number_before lanes number i)) (10 ∷ []) (flat_map (script_line lanes number) (range_with_len (i + 1) less))
