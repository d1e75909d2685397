-- what an entry that is put into a map leaves of it
use Rattle.std.proofs.Common.{◌≡◌, ℕ, suc, ◌+◌, ◌<◌, ◌==◌, ◌||◌, List, [], ◌∷◌, length, Bool, true, false, cond, Option, Some, None, is_none, nat_lt, refl, sym, ap, ◌∙◌, subst, Ordering, Less, Equal, Greater, arith}
use Rattle.std.specs.Prelude.{nat_eq}
use Rattle.std.specs.List.{AllByRecursion}
use Rattle.std.specs.Ordering.{match_ordering, nat_cmp}
use Rattle.std.specs.BTreeMap.{insert_entry}
use Rattle.std.specs.Map.{lookup}
use Rattle.std.proofs.lemmas.Bool.{eq-eqb, ne_eqb, eqb-true}
use Rattle.std.proofs.lemmas.Grind.{common_steps}
use Rattle.st_model.specs.ValidPool.{IsMap, has_number}
use Rattle.st_model.proofs.Lists.{All-weaker}

by_order : (k n : ℕ) (P : Ordering → Type 0) → (k < n → P Less) → (k ≡ n → P Equal) → (n < k → P Greater) → P (nat_cmp k n)
by_order k n P less same more = here (nat_lt k n) (k == n) refl refl
  where
    below : nat_lt k n ≡ true → k < n
    below e = grind (arith, common_steps)

    equal : (k == n) ≡ true → k ≡ n
    equal e = grind (arith, common_steps)

    above : nat_lt k n ≡ false → (k == n) ≡ false → n < k
    above e f = grind (arith, common_steps)

    here : (b c : Bool) → nat_lt k n ≡ b → (k == n) ≡ c → P (cond b Less (cond c Equal Greater))
    here true c e f = less (below e)
    here false true e f = same (equal f)
    here false false e f = more (above e f)

not_equal : (a b : ℕ) → a < b → nat_eq a b ≡ false
not_equal a b h = ne_eqb a b (λ e. no e)
  where
    no : a ≡ b → ⊥
    no e = omega (arith, h, e)

not_equal_back : (a b : ℕ) → b < a → nat_eq a b ≡ false
not_equal_back a b h = ne_eqb a b (λ e. no e)
  where
    no : a ≡ b → ⊥
    no e = omega (arith, h, e)

or_left : (a b : Bool) → a ≡ true → (a || b) ≡ true
or_left true b h = refl
or_left false b h = absurd cc

or_right : (a b : Bool) → b ≡ true → (a || b) ≡ true
or_right true b h = refl
or_right false b h = h

same_number : (n : ℕ) → (n == n) ≡ true
same_number n = grind (arith, common_steps)

module _ {X : Type 0} where
  pub insert-all : (P : ℕ × X → Type 0) (k : ℕ) (v : X) (es : List (ℕ × X)) → AllByRecursion P es → P (k, v) → AllByRecursion P (insert_entry nat_cmp es k v)
  insert-all P k v [] h g = (g, tt)
  insert-all P k v (e ∷ es) h g =
      by_order k e.0 (λ o. AllByRecursion P (match_ordering o ((k, v) ∷ e ∷ es) ((e.0, v) ∷ es) (e ∷ insert_entry nat_cmp es k v)))
      (λ l. (g, h)) (λ same. (subst (λ (n : ℕ). P (n, v)) same g, h.1)) (λ m. (h.0, insert-all P k v es h.1 g))

  pub insert-map : (k : ℕ) (v : X) (es : List (ℕ × X)) → IsMap es → IsMap (insert_entry nat_cmp es k v)
  insert-map k v [] h = (tt, tt)
  insert-map k v (e ∷ es) h =
      by_order k e.0 (λ o. IsMap (match_ordering o ((k, v) ∷ e ∷ es) ((e.0, v) ∷ es) (e ∷ insert_entry nat_cmp es k v)))
      (λ l. ((l, All-weaker _ _ es (λ (b : ℕ × X) m. further b.0 l m) h.0), h)) (λ same. h) (λ m. (insert-all (λ (b : ℕ × X). e.0 < b.0) k v es h.0 m, insert-map k v es h.1))
    where
      further : (n : ℕ) → k < e.0 → e.0 < n → k < n
      further n a b = omega (arith, a, b)

  none_below : (k : ℕ) (es : List (ℕ × X)) → AllByRecursion (λ (b : ℕ × X). k < b.0) es → lookup (nat_eq k) es ≡ None
  none_below k [] h = refl
  none_below k (e ∷ es) h = rw (not_equal k e.0 h.0) (none_below k es h.1)

  -- one entry more, where the map had none of the number
  pub insert-length : (k : ℕ) (v : X) (es : List (ℕ × X)) → IsMap es → length (insert_entry nat_cmp es k v) ≡ length es + cond (is_none (lookup (nat_eq k) es)) 1 0
  insert-length k v [] h = refl
  insert-length k v (e ∷ es) h =
      by_order k e.0 (λ o. length (match_ordering o ((k, v) ∷ e ∷ es) ((e.0, v) ∷ es) (e ∷ insert_entry nat_cmp es k v)) ≡ suc (length es) + cond (is_none (lookup (nat_eq k) (e ∷ es))) 1 0)
      (λ l. rw (not_equal k e.0 l, none_below k es (All-weaker _ _ es (λ (b : ℕ × X) m. further b.0 l m) h.0)) (omega arith))
      (λ same. rw (eq-eqb k e.0 same) (omega arith))
      (λ m. rw (not_equal_back k e.0 m) (let rest = insert-length k v es h.1 in omega (arith, rest)))
    where
      further : (n : ℕ) → k < e.0 → e.0 < n → k < n
      further n a b = omega (arith, a, b)

  either : (b c : Bool) (x y z : Option X) → (b ≡ true → c ≡ true → ⊥) → cond b x (cond c y z) ≡ cond c y (cond b x z)
  either true true x y z h = absurd (h refl refl)
  either true false x y z h = refl
  either false true x y z h = refl
  either false false x y z h = refl

  once : (b : Bool) (x y z : Option X) → cond b x z ≡ cond b x (cond b y z)
  once true x y z = refl
  once false x y z = refl

  -- the number has the new value, and each other has what it had
  pub lookup-insert : (q k : ℕ) (v : X) (es : List (ℕ × X)) → lookup (nat_eq q) (insert_entry nat_cmp es k v) ≡ cond (nat_eq q k) (Some v) (lookup (nat_eq q) es)
  lookup-insert q k v [] = refl
  lookup-insert q k v (e ∷ es) =
      by_order k e.0 (λ o. lookup (nat_eq q) (match_ordering o ((k, v) ∷ e ∷ es) ((e.0, v) ∷ es) (e ∷ insert_entry nat_cmp es k v)) ≡ cond (nat_eq q k) (Some v) (lookup (nat_eq q) (e ∷ es)))
      (λ l. refl)
      (λ same. subst (λ (n : ℕ). cond (nat_eq q e.0) (Some v) (lookup (nat_eq q) es) ≡ cond (nat_eq q n) (Some v) (cond (nat_eq q e.0) (Some e.1) (lookup (nat_eq q) es))) (sym same) (once (nat_eq q e.0) (Some v) (Some e.1) _))
      (λ m. ap (λ o. cond (nat_eq q e.0) (Some e.1) o) (lookup-insert q k v es) ∙ either (nat_eq q e.0) (nat_eq q k) _ _ _ (λ a b. no m (eqb-true q e.0 a) (eqb-true q k b)))
    where
      no : e.0 < k → q ≡ e.0 → q ≡ k → ⊥
      no m a b = omega (arith, m, a, b)

  -- no number goes, and the new one is there
  pub insert-has : (n k : ℕ) (v : X) (es : List (ℕ × X)) → has_number n es ≡ true → has_number n (insert_entry nat_cmp es k v) ≡ true
  insert-has n k v [] h = absurd cc
  insert-has n k v (e ∷ es) h =
      by_order k e.0 (λ o. has_number n (match_ordering o ((k, v) ∷ e ∷ es) ((e.0, v) ∷ es) (e ∷ insert_entry nat_cmp es k v)) ≡ true)
      (λ l. or_right (k == n) _ h) (λ same. h) (λ m. here (e.0 == n) h (insert-has n k v es))
    where
      here : (b : Bool) → (b || has_number n es) ≡ true → (has_number n es ≡ true → has_number n (insert_entry nat_cmp es k v) ≡ true) → (b || has_number n (insert_entry nat_cmp es k v)) ≡ true
      here true g rest = refl
      here false g rest = rest g

  pub insert-there : (k : ℕ) (v : X) (es : List (ℕ × X)) → has_number k (insert_entry nat_cmp es k v) ≡ true
  insert-there k v [] = or_left (k == k) _ (same_number k)
  insert-there k v (e ∷ es) =
      by_order k e.0 (λ o. has_number k (match_ordering o ((k, v) ∷ e ∷ es) ((e.0, v) ∷ es) (e ∷ insert_entry nat_cmp es k v)) ≡ true)
      (λ l. or_left (k == k) _ (same_number k)) (λ same. or_left (e.0 == k) _ (subst (λ (n : ℕ). (n == k) ≡ true) same (same_number k))) (λ m. or_right (e.0 == k) _ (insert-there k v es))

  pub has-lookup : (n : ℕ) (es : List (ℕ × X)) → has_number n es ≡ true → is_none (lookup (nat_eq n) es) ≡ false
  has-lookup n [] h = absurd cc
  has-lookup n (e ∷ es) h = here (nat_eq n e.0) (e.0 == n) (flipped n e.0) h (has-lookup n es)
    where
      flipped : (a b : ℕ) → nat_eq a b ≡ (b == a)
      flipped a b = grind (arith, common_steps)

      here : (b c : Bool) → b ≡ c → (c || has_number n es) ≡ true → (has_number n es ≡ true → is_none (lookup (nat_eq n) es) ≡ false) → is_none (cond b (Some e.1) (lookup (nat_eq n) es)) ≡ false
      here true c same h rest = refl
      here false false same h rest = rest h
      here false true same h rest = absurd cc

  -- what holds of each value holds of the one that is looked up
  pub lookup-holds : (P : X → Type 0) (test : ℕ → Bool) (es : List (ℕ × X)) (v : X) → AllByRecursion (λ (e : ℕ × X). P e.1) es → lookup test es ≡ Some v → P v
  lookup-holds P test [] v h g = absurd cc
  lookup-holds P test (e ∷ es) v h g = here (test e.0) g (lookup-holds P test es v h.1)
    where
      here : (b : Bool) → cond b (Some e.1) (lookup test es) ≡ Some v → (lookup test es ≡ Some v → P v) → P v
      here true g rest = let same : e.1 ≡ v = cc in subst P same h.0
      here false g rest = rest g
