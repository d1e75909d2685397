-- the first byte that passes, by a search of bytes
use Rattle.std.proofs.Common.{◌≡◌, ℕ, List, length, get_or, Bool, cond, Option, Some, None, sym, ap, ◌∙◌, lt-ltb, arith}
use Rattle.std.proofs.lemmas.Bool.{le-ltb, false_from_ne_true}
use Rattle.std.proofs.lemmas.List.Sums.{position_or_len_is}
use Rattle.std.specs.Prelude.{nat_lt}
use Rattle.std.specs.List.{position, position_or_len}
use Rattle.memchr.specs.Find.{IsFirstByte}

at : (text : List ℕ) (n i : ℕ) (b : Bool) → n ≡ i → nat_lt i (length text) ≡ b → cond (nat_lt n (length text)) (Some n) None ≡ cond b (Some i) None
at text n i b is below = ap (λ m. cond (nat_lt m (length text)) (Some m) None) is ∙ ap (λ c. cond c (Some i) None) below

pub first-position : (p : ℕ → Bool) (text : List ℕ) (r : Option ℕ) → IsFirstByte p text r → r ≡ position p text
first-position p text None nowhere =
    let len : position_or_len p text ≡ length text = position_or_len_is p text (length text) 0 (omega arith) (λ k below. false_from_ne_true (p (get_or text k 0)) (nowhere k (omega arith) below)) (λ within. absurd (omega arith)) in
    sym (at text (position_or_len p text) (length text) _ len (le-ltb (length text) (length text) (omega arith)))
first-position p text (Some i) first =
    let here : position_or_len p text ≡ i = position_or_len_is p text i 0 (omega (arith, first.0.high)) (λ k below. false_from_ne_true (p (get_or text k 0)) (first.0.before k (omega arith) below)) (λ within. first.1) in
    sym (at text (position_or_len p text) i _ here (lt-ltb i (length text) first.0.high))
