-- one more item among items in order
use Rattle.std.proofs.Common.{◌≡◌, ℕ, suc, ◌+◌, ◌<◌, ◌≤◌, Bool, List, [], ◌∷◌, length, set, cond, eqb, ltb, Option, Some, None, ◌⊎◌, inl, inr, refl, sym, ◌∙◌, ap, subst, arith}
use Rattle.std.specs.List.{All, insert, count_by}
use Rattle.std.specs.Option.{is_none}
use Rattle.std.proofs.lemmas.Bool.{cases_eq, cases_lt, eq-eqb, ne_eqb, cond-true, cond-false, lt-ltb, le-ltb}
use Rattle.std.proofs.lemmas.List.Elements.{All-nil, All-cons, All-head, All-tail}
use Rattle.std.proofs.lemmas.List.Sums.{sum_by-cons}
use Rattle.st_thinmap.specs.declared.mapping.Mapping.{Mapping}
use Rattle.st_thinmap.specs.Order.{RisesFrom, item_at, key, put}
use Rattle.st_thinmap.specs.inner.Rank.{rank}
use Rattle.st_thinmap.specs.inner.Tied.{one, one_of}
use Rattle.st_thinmap.proofs.Rising.{none-below}

-- where it goes
pub record Lower (m r : Mapping) (rows : List Mapping) : Type 0 where
  pub less : key r < key m
  pub is : put m (r ∷ rows) ≡ r ∷ put m rows

pub record Same (m r : Mapping) (rows : List Mapping) : Type 0 where
  pub same : key r ≡ key m
  pub is : put m (r ∷ rows) ≡ m ∷ rows

pub record Higher (m r : Mapping) (rows : List Mapping) : Type 0 where
  pub more : key m < key r
  pub is : put m (r ∷ rows) ≡ m ∷ r ∷ rows

pub put_cases : (m r : Mapping) (rows : List Mapping) → Lower m r rows ⊎ (Same m r rows ⊎ Higher m r rows)
put_cases m r rows = elim (cases_lt (key r) (key m)) [
  | inl less ↦ inl (record { less = less; is = cond-true (ltb (key r) (key m)) (r ∷ put m rows) (cond (eqb (key r) (key m)) (m ∷ rows) (m ∷ r ∷ rows)) (lt-ltb (key r) (key m) less) })
  | inr le ↦
      let on : put m (r ∷ rows) ≡ cond (eqb (key r) (key m)) (m ∷ rows) (m ∷ r ∷ rows) =
      cond-false (ltb (key r) (key m)) (r ∷ put m rows) (cond (eqb (key r) (key m)) (m ∷ rows) (m ∷ r ∷ rows)) (le-ltb (key r) (key m) le) in
      elim (cases_eq (key r) (key m)) [
        | inl e ↦ inr (inl (record { same = e; is = on ∙ cond-true (eqb (key r) (key m)) (m ∷ rows) (m ∷ r ∷ rows) (eq-eqb (key r) (key m) e) }))
        | inr ne ↦ inr (inr (record { more = omega (arith, ne); is = on ∙ cond-false (eqb (key r) (key m)) (m ∷ rows) (m ∷ r ∷ rows) (ne_eqb (key r) (key m) ne) }))
      ]
]

pub rises-put : (m : Mapping) (low : ℕ) (rows : List Mapping) → low ≤ key m → RisesFrom key low rows → RisesFrom key low (put m rows)
rises-put m low [] h r = (h, tt)
rises-put m low (x ∷ rows) h r = elim (put_cases m x rows) [
  | inl c ↦ subst (RisesFrom key low) (sym c.is) (r.0, rises-put m (key x + 1) rows (omega (arith, c.less)) r.1)
  | inr c ↦ elim c [
    | inl s ↦ subst (RisesFrom key low) (sym s.is) (h, subst (λ (k : ℕ). RisesFrom key (k + 1) rows) s.same r.1)
    | inr s ↦ subst (RisesFrom key low) (sym s.is) (h, (omega (arith, s.more), r.1))
  ]
]

pub All-put : (P : Mapping → Type 0) (m : Mapping) (rows : List Mapping) → P m → All P rows → All P (put m rows)
All-put P m [] h a = All-cons P m [] h (All-nil P)
All-put P m (x ∷ rows) h a = elim (put_cases m x rows) [
  | inl c ↦ subst (All P) (sym c.is) (All-cons P x (put m rows) (All-head P x rows a) (All-put P m rows h (All-tail P x rows a)))
  | inr c ↦ elim c [
    | inl s ↦ subst (All P) (sym s.is) (All-cons P m rows h (All-tail P x rows a))
    | inr s ↦ subst (All P) (sym s.is) (All-cons P m (x ∷ rows) h a)
  ]
]

-- how many pass a test: the one that goes no more, and the new one
pub count-put : (p : Mapping → Bool) (m : Mapping) (low : ℕ) (rows : List Mapping) → RisesFrom key low rows
    → count_by p (put m rows) + one_of p (item_at key (key m) rows) ≡ count_by p rows + one (p m)
count-put p m low [] r =
    let head : count_by p (m ∷ []) ≡ one (p m) + count_by p [] = sum_by-cons (λ (x : Mapping). cond (p x) 1 0) m [] in
    let none : count_by p [] ≡ 0 = refl in
    omega arith
count-put p m low (x ∷ rows) r =
    let f : Mapping → ℕ = λ x. cond (p x) 1 0 in
    let whole : count_by p (x ∷ rows) ≡ one (p x) + count_by p rows = sum_by-cons f x rows in
    elim (put_cases m x rows) [
      | inl c ↦
          let look : item_at key (key m) (x ∷ rows) ≡ item_at key (key m) rows =
          cond-false (eqb (key x) (key m)) (Some x) (item_at key (key m) rows) (ne_eqb (key x) (key m) (λ q. absurd (omega (arith, c.less)))) in
          let new : count_by p (put m (x ∷ rows)) ≡ one (p x) + count_by p (put m rows) = ap (count_by p) c.is ∙ sum_by-cons f x (put m rows) in
          omega (arith, ap (one_of p) look, count-put p m (key x + 1) rows r.1)
      | inr c ↦ elim c [
        | inl s ↦
            let look : item_at key (key m) (x ∷ rows) ≡ Some x = cond-true (eqb (key x) (key m)) (Some x) (item_at key (key m) rows) (eq-eqb (key x) (key m) s.same) in
            let new : count_by p (put m (x ∷ rows)) ≡ one (p m) + count_by p rows = ap (count_by p) s.is ∙ sum_by-cons f m rows in
            omega (arith, ap (one_of p) look)
        | inr s ↦
            let look : item_at key (key m) (x ∷ rows) ≡ None =
            none-below key (key x) (key m) (x ∷ rows) (omega arith, r.1) s.more in
            let new : count_by p (put m (x ∷ rows)) ≡ one (p m) + count_by p (x ∷ rows) = ap (count_by p) s.is ∙ sum_by-cons f m (x ∷ rows) in
            omega (arith, ap (one_of p) look)
      ]
    ]

-- a new item is put in at its rank, and one that replaces another at the other's place
pub put-new : (m : Mapping) (low : ℕ) (rows : List Mapping) → RisesFrom key low rows → item_at key (key m) rows ≡ None → put m rows ≡ insert rows (rank key (key m) rows) m
put-new m low [] r h = refl
put-new m low (x ∷ rows) r h = elim (put_cases m x rows) [
  | inl c ↦
      let at : rank key (key m) (x ∷ rows) ≡ suc (rank key (key m) rows) = cond-true (ltb (key x) (key m)) (suc (rank key (key m) rows)) 0 (lt-ltb (key x) (key m) c.less) in
      let rest : item_at key (key m) rows ≡ None =
      sym (cond-false (eqb (key x) (key m)) (Some x) (item_at key (key m) rows) (ne_eqb (key x) (key m) (λ q. absurd (omega (arith, c.less))))) ∙ h in
      c.is ∙ ap (λ (xs : List Mapping). x ∷ xs) (put-new m (key x + 1) rows r.1 rest) ∙ sym (ap (λ (i : ℕ). insert (x ∷ rows) i m) at)
  | inr c ↦ elim c [
    | inl s ↦
        let look : item_at key (key m) (x ∷ rows) ≡ Some x = cond-true (eqb (key x) (key m)) (Some x) (item_at key (key m) rows) (eq-eqb (key x) (key m) s.same) in
        absurd (let bad : Some x ≡ None = sym look ∙ h in cc)
    | inr s ↦
        let at : rank key (key m) (x ∷ rows) ≡ 0 = cond-false (ltb (key x) (key m)) (suc (rank key (key m) rows)) 0 (le-ltb (key x) (key m) (omega (arith, s.more))) in
        s.is ∙ sym (ap (λ (i : ℕ). insert (x ∷ rows) i m) at)
  ]
]

pub put-over : (m o : Mapping) (low : ℕ) (rows : List Mapping) → RisesFrom key low rows → item_at key (key m) rows ≡ Some o → put m rows ≡ set rows (rank key (key m) rows) m
put-over m o low [] r h = absurd (let bad : None ≡ Some o = h in cc)
put-over m o low (x ∷ rows) r h = elim (put_cases m x rows) [
  | inl c ↦
      let at : rank key (key m) (x ∷ rows) ≡ suc (rank key (key m) rows) = cond-true (ltb (key x) (key m)) (suc (rank key (key m) rows)) 0 (lt-ltb (key x) (key m) c.less) in
      let rest : item_at key (key m) rows ≡ Some o =
      sym (cond-false (eqb (key x) (key m)) (Some x) (item_at key (key m) rows) (ne_eqb (key x) (key m) (λ q. absurd (omega (arith, c.less))))) ∙ h in
      c.is ∙ ap (λ (xs : List Mapping). x ∷ xs) (put-over m o (key x + 1) rows r.1 rest) ∙ sym (ap (λ (i : ℕ). set (x ∷ rows) i m) at)
  | inr c ↦ elim c [
    | inl s ↦
        let at : rank key (key m) (x ∷ rows) ≡ 0 = cond-false (ltb (key x) (key m)) (suc (rank key (key m) rows)) 0 (le-ltb (key x) (key m) (omega (arith, s.same))) in
        s.is ∙ sym (ap (λ (i : ℕ). set (x ∷ rows) i m) at)
    | inr s ↦
        let look : item_at key (key m) (x ∷ rows) ≡ None = none-below key (key x) (key m) (x ∷ rows) (omega arith, r.1) s.more in
        absurd (let bad : None ≡ Some o = sym look ∙ h in cc)
  ]
]

-- how many there are then
pub length-put : (m : Mapping) (rows : List Mapping) → length (put m rows) ≤ length rows + 1
length-put m [] = omega arith
length-put m (x ∷ rows) = elim (put_cases m x rows) [
  | inl c ↦ omega (arith, ap length c.is, length-put m rows)
  | inr c ↦ elim c [ inl s ↦ omega (arith, ap length s.is) | inr s ↦ omega (arith, ap length s.is) ]
]

pub length-put-is : (m : Mapping) (low : ℕ) (rows : List Mapping) → RisesFrom key low rows → length (put m rows) ≡ length rows + one (is_none (item_at key (key m) rows))
length-put-is m low [] r = refl
length-put-is m low (x ∷ rows) r = elim (put_cases m x rows) [
  | inl c ↦
      let look : item_at key (key m) (x ∷ rows) ≡ item_at key (key m) rows =
      cond-false (eqb (key x) (key m)) (Some x) (item_at key (key m) rows) (ne_eqb (key x) (key m) (λ q. absurd (omega (arith, c.less)))) in
      omega (arith, ap length c.is, length-put-is m (key x + 1) rows r.1, ap (λ (o : Option Mapping). one (is_none o)) look)
  | inr c ↦ elim c [
    | inl s ↦
        let look : item_at key (key m) (x ∷ rows) ≡ Some x = cond-true (eqb (key x) (key m)) (Some x) (item_at key (key m) rows) (eq-eqb (key x) (key m) s.same) in
        omega (arith, ap length s.is, ap (λ (o : Option Mapping). one (is_none o)) look)
    | inr s ↦
        let look : item_at key (key m) (x ∷ rows) ≡ None = none-below key (key x) (key m) (x ∷ rows) (omega arith, r.1) s.more in
        omega (arith, ap length s.is, ap (λ (o : Option Mapping). one (is_none o)) look)
  ]
]

-- other numbers are found as before
pub look-put : (m : Mapping) (k : ℕ) (rows : List Mapping) → (key m ≡ k → ⊥) → item_at key k (put m rows) ≡ item_at key k rows
look-put m k [] ne = cond-false (eqb (key m) k) (Some m) None (ne_eqb (key m) k ne)
look-put m k (x ∷ rows) ne = elim (put_cases m x rows) [
  | inl c ↦ ap (item_at key k) c.is ∙ ap (λ (o : Option Mapping). cond (eqb (key x) k) (Some x) o) (look-put m k rows ne)
  | inr c ↦ elim c [
    | inl s ↦
        ap (item_at key k) s.is ∙ cond-false (eqb (key m) k) (Some m) (item_at key k rows) (ne_eqb (key m) k ne)
        ∙ sym (cond-false (eqb (key x) k) (Some x) (item_at key k rows) (ne_eqb (key x) k (λ e. ne (sym s.same ∙ e))))
    | inr s ↦ ap (item_at key k) s.is ∙ cond-false (eqb (key m) k) (Some m) (item_at key k (x ∷ rows)) (ne_eqb (key m) k ne)
  ]
]
