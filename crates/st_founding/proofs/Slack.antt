-- How far a count of faults is above those that are past, once it is cut at the last number.
use Rattle.std.proofs.Common.{◌≡◌, ℕ, ◌-◌, ◌<◌, ◌≤◌, Bool, true, false, cond, min, nat_lt, refl, sym, ap, subst, ◌∙◌, arith}
use Rattle.std.proofs.lemmas.Grind.{common_steps}
use Rattle.st_board.specs.View.{last}

below : (n m : ℕ) → nat_lt n m ≡ true → n < m
below n m h = grind (arith, common_steps)

above : (n m : ℕ) → nat_lt n m ≡ false → m ≤ n
above n m h = grind (arith, common_steps)

abbrev slack : ℕ → ℕ → ℕ
slack n past = cond (nat_lt n last) (n - past) last

pub slack_cut : (n m past : ℕ) → m ≡ min n last → slack n past ≤ slack m past
slack_cut n m past e = by (nat_lt n last) refl (nat_lt m last) refl
  where
    by : (b : Bool) → nat_lt n last ≡ b → (c : Bool) → nat_lt m last ≡ c → cond b (n - past) last ≤ cond c (m - past) last
    by true h true k = let small = below n last h in omega (arith, e, small)
    by true h false k = let small = below n last h in let large = above m last k in omega (arith, e, small, large)
    by false h true k = let large = above n last h in let small = below m last k in omega (arith, e, small, large)
    by false h false k = omega arith

pub slack_same : (n m past : ℕ) → m ≡ n → slack n past ≤ slack m past
slack_same n m past e = let same : slack m past ≡ slack n past = ap (λ (k : ℕ). slack k past) e in omega (arith, same)
