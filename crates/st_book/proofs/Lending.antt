-- The numbers with which parts went out.
use Rattle.std.proofs.Common.{ℕ, ◌≡◌, ◌+◌, ◌≤◌, ◌==◌, Bool, true, false, not, cond, List, [], ◌∷◌, ◌++◌, filter, refl, ap, sym, ◌∙◌, arith}
use Rattle.std.specs.List.{sum_by}
use Rattle.std.proofs.lemmas.Bool.Decides.{nat_tests}
use Rattle.std.proofs.lemmas.List.Filters.{sum_by-filter_both}
use Rattle.std.proofs.lemmas.List.Sums.{sum_by-cons, sum_by_push}
use Rattle.st_book.specs.declared.lent.Lent.{Lent}
use Rattle.st_book.specs.View.{is_lent_to, lent_at, lent_sum}

-- what one of them counts for a ticket
abbrev lent_by : ℕ → Lent → ℕ
lent_by t x = cond (is_lent_to t x) x.faults 0

lent_more : (t : ℕ) (x : Lent) (xs : List Lent) → lent_at t (x ∷ xs) ≡ lent_by t x + lent_at t xs
lent_more t x xs =
    let cases : (b : Bool) → sum_by (λ (y : Lent). y.faults) (cond b (x ∷ filter (is_lent_to t) xs) (filter (is_lent_to t) xs)) ≡ cond b x.faults 0 + lent_at t xs = elim [
      | true ↦ sum_by-cons (λ (y : Lent). y.faults) x (filter (is_lent_to t) xs)
      | false ↦ omega arith
    ] in
    cases (is_lent_to t x)

pub lent_push : (t : ℕ) (xs : List Lent) (x : Lent) → lent_at t (xs ++ x ∷ []) ≡ lent_at t xs + lent_by t x
lent_push t [] x = let a = lent_more t x [] in omega arith
lent_push t (y ∷ ys) x =
    let a = lent_more t y (ys ++ x ∷ []) in
    let b = lent_more t y ys in
    let rest = lent_push t ys x in
    omega arith

pub lent_sum_push : (xs : List Lent) (x : Lent) → lent_sum (xs ++ x ∷ []) ≡ lent_sum xs + x.faults
lent_sum_push xs x = sum_by_push (λ (y : Lent). y.faults) xs x

-- a ticket that another number went to has none of it
pub lent_push_other : (t : ℕ) (xs : List Lent) (x : Lent) → is_lent_to t x ≡ false → lent_at t (xs ++ x ∷ []) ≡ lent_at t xs
lent_push_other t xs x other =
    let a = lent_push t xs x in
    let b : lent_by t x ≡ 0 = ap (λ z. cond z x.faults 0) other in
    omega arith

pub lent_push_own : (t : ℕ) (xs : List Lent) (x : Lent) → is_lent_to t x ≡ true → lent_at t (xs ++ x ∷ []) ≡ lent_at t xs + x.faults
lent_push_own t xs x own =
    let a = lent_push t xs x in
    let b : lent_by t x ≡ x.faults = ap (λ z. cond z x.faults 0) own in
    omega arith

-- what is left once a ticket is forgotten
abbrev pub left_of : ℕ → List Lent → List Lent
left_of t xs = filter (λ (x : Lent). not (is_lent_to t x)) xs

pub lent_left : (t : ℕ) (xs : List Lent) → lent_at t xs + lent_sum (left_of t xs) ≡ lent_sum xs
lent_left t xs = sum_by-filter_both (is_lent_to t) (λ (x : Lent). not (is_lent_to t x)) (λ x. refl) (λ (x : Lent). x.faults) xs

pub lent_gone : (t : ℕ) (xs : List Lent) → lent_at t (left_of t xs) ≡ 0
lent_gone t [] = refl
lent_gone t (x ∷ xs) =
    let rest = lent_gone t xs in
    let cases : (b : Bool) → is_lent_to t x ≡ b → lent_at t (cond (not b) (x ∷ left_of t xs) (left_of t xs)) ≡ 0 = elim [
      | true ↦ (λ e. rest)
      | false ↦ (λ e.
          let a = lent_more t x (left_of t xs) in
          let b : lent_by t x ≡ 0 = ap (λ z. cond z x.faults 0) e in
          omega arith)
    ] in
    cases (is_lent_to t x) refl

pub lent_fewer : (t u : ℕ) (xs : List Lent) → lent_at u (left_of t xs) ≤ lent_at u xs
lent_fewer t u [] = omega arith
lent_fewer t u (x ∷ xs) =
    let rest = lent_fewer t u xs in
    let whole = lent_more u x xs in
    let cases : (b : Bool) → lent_at u (cond b (x ∷ left_of t xs) (left_of t xs)) ≤ lent_at u (x ∷ xs) = elim [
      | true ↦ (let a = lent_more u x (left_of t xs) in omega arith)
      | false ↦ omega arith
    ] in
    cases (not (is_lent_to t x))

-- where no ticket has a number, nothing is lent
pub none_lent : (xs : List Lent) → ((t : ℕ) → lent_at t xs ≡ 0) → lent_sum xs ≡ 0
none_lent [] h = refl
none_lent (x ∷ xs) h =
    let same : is_lent_to x.ticket x ≡ true = grind (arith, nat_tests) in
    let own : lent_by x.ticket x ≡ x.faults = ap (λ z. cond z x.faults 0) same in
    let here = lent_more x.ticket x xs in
    let zero = h x.ticket in
    let rest : lent_sum xs ≡ 0 = none_lent xs (λ t. let a = lent_more t x xs in let b = h t in omega arith) in
    let all = sum_by-cons (λ (y : Lent). y.faults) x xs in
    omega arith

-- the others keep their numbers
pub lent_kept : (t u : ℕ) (xs : List Lent) → (t ≡ u → ⊥) → lent_at u (left_of t xs) ≡ lent_at u xs
lent_kept t u [] ne = refl
lent_kept t u (x ∷ xs) ne =
    let rest = lent_kept t u xs ne in
    let whole = lent_more u x xs in
    let cases : (b : Bool) → is_lent_to t x ≡ b → lent_at u (cond (not b) (x ∷ left_of t xs) (left_of t xs)) ≡ lent_at u (x ∷ xs) = elim [
      | true ↦ (λ e.
          let is : x.ticket ≡ t = grind (arith, nat_tests) in
          let other : is_lent_to u x ≡ false = not_same x.ticket u (λ k. ne (sym is ∙ k)) in
          let zero_by : lent_by u x ≡ 0 = ap (λ z. cond z x.faults 0) other in
          omega arith)
      | false ↦ (λ e. let a = lent_more u x (left_of t xs) in omega arith)
    ] in
    cases (is_lent_to t x) refl
  where
    not_same : (a b : ℕ) → (a ≡ b → ⊥) → (a == b) ≡ false
    not_same a b ne' =
        let cases : (c : Bool) → (a == b) ≡ c → c ≡ false = elim [ true ↦ (λ e. absurd (let same : a ≡ b = grind (arith, nat_tests) in ne' same)) | false ↦ (λ e. refl) ] in
        cases (a == b) refl
