-- What is known of a log, while it grows by events of one number.
use Rattle.std.proofs.Common.{ℕ, ◌≡◌, ◌≢◌, ◌+◌, ◌<◌, ◌≤◌, ◌==◌, true, false, List, [], ◌∷◌, ◌++◌, map, length, drop, refl, ap, sym, ◌∙◌, subst, arith, append_assoc}
use Rattle.std.proofs.lemmas.Bool.Decides.{nat_tests}
use Rattle.std.proofs.lemmas.List.{append-nil}
use Rattle.std.proofs.lemmas.List.Elements.{filter-append}
use Rattle.std.specs.Prelude.{Option}
use mathlib.Core.List.{IsPrefix}
use Rattle.st_turn.specs.declared.knowledge.Claim.{Claim}
use Rattle.st_turn.specs.declared.knowledge.Knowledge.{Knowledge}
use Rattle.st_turn.specs.Lists.{one_if, times, told_by, AreBy, number_of, Account, Unheard, grown}
use Rattle.st_turn.specs.Parts.{held, Knows}
use Rattle.st_turn.specs.Kinds.{IsOwn}
use Rattle.st_turn.proofs.Totals.{times_append, once_itself}

pub prefix_grows : {E : Type 0} (a l more : List E) → IsPrefix a l → IsPrefix a (l ++ more)
prefix_grows a l more p = (p.0 ++ more, sym (append_assoc a p.0 more) ∙ ap (λ z. z ++ more) p.1)

pub prefix_self : {E : Type 0} (l : List E) → IsPrefix l l
prefix_self l = ([], append-nil l)

pub drop_front : {E : Type 0} (a b : List E) → drop (length a) (a ++ b) ≡ b
drop_front [] b = refl
drop_front (x ∷ xs) b = drop_front xs b

module _ {E : Type 0} (by : E → ℕ) where
  pub told_mine : (n : ℕ) (es : List E) → AreBy by n es → told_by by n es ≡ es
  told_mine n [] h = refl
  told_mine n (e ∷ es) h =
      let b : (by e == n) ≡ true = (let q : by e ≡ n = h.0 in grind (arith, nat_tests)) in
      let r : told_by by n es ≡ es = told_mine n es h.1 in
      rw (b, r) refl

  pub told_other : (n m : ℕ) (es : List E) → n ≢ m → AreBy by n es → told_by by m es ≡ []
  told_other n m [] ne h = refl
  told_other n m (e ∷ es) ne h =
      let b : (by e == m) ≡ false = (let q : by e ≡ n = h.0 in grind (arith, nat_tests)) in
      let r : told_by by m es ≡ [] = told_other n m es ne h.1 in
      rw (b, r) refl

  pub apart_of : (n m : ℕ) → one_if (n == m) ≡ 0 → n ≢ m
  apart_of n m h e = let o : one_if (n == n) ≡ 1 = once_itself n in let p : one_if (n == n) ≡ 0 = ap (λ z. one_if (n == z)) e ∙ h in absurd (omega (arith, o, p))

  pub account_grows : (n : ℕ) (log more : List E) (cs : List (Claim E)) → times n (map number_of cs) ≡ 0 → AreBy by n more → Account by log cs → Account by (log ++ more) cs
  account_grows n log more [] z h a = tt
  account_grows n log more (c ∷ cs) z h a =
      let first : one_if (n == c.number) ≡ 0 = omega (arith, z) in
      let next : times n (map number_of cs) ≡ 0 = omega (arith, z) in
      let s : told_by by c.number (log ++ more) ≡ told_by by c.number log ++ told_by by c.number more = filter-append (λ (e : E). by e == c.number) log more in
      let t : told_by by c.number more ≡ [] = told_other n c.number more (apart_of n c.number first) h in
      (s ∙ (ap (λ z. told_by by c.number log ++ z) t ∙ (append-nil (told_by by c.number log) ∙ a.0)), account_grows n log more cs next h a.1)

  pub unheard_grows : (n : ℕ) (log more : List E) (ns : List ℕ) → times n ns ≡ 0 → AreBy by n more → Unheard by log ns → Unheard by (log ++ more) ns
  unheard_grows n log more [] z h a = tt
  unheard_grows n log more (m ∷ ns) z h a =
      let first : one_if (n == m) ≡ 0 = omega (arith, z) in
      let next : times n ns ≡ 0 = omega (arith, z) in
      let s : told_by by m (log ++ more) ≡ told_by by m log ++ told_by by m more = filter-append (λ (e : E). by e == m) log more in
      let t : told_by by m more ≡ [] = told_other n m more (apart_of n m first) h in
      (s ∙ (ap (λ z. told_by by m log ++ z) t ∙ (append-nil (told_by by m log) ∙ a.0)), unheard_grows n log more ns next h a.1)

  -- the seat's own claim grows with the log
  pub own_grows : (n : ℕ) (log more : List E) (cs : List (Claim E)) → IsOwn n cs → times n (map number_of cs) ≤ 1 → AreBy by n more → Account by log cs → Account by (log ++ more) (grown more cs)
  own_grows n log more [] own once h a = absurd own
  own_grows n log more (c ∷ cs) own once h a =
      let is : c.number ≡ n = own in
      let o : one_if (n == c.number) ≡ 1 = ap (λ z. one_if (n == z)) is ∙ once_itself n in
      let next : times n (map number_of cs) ≡ 0 = omega (arith, once, o) in
      let s : told_by by c.number (log ++ more) ≡ told_by by c.number log ++ told_by by c.number more = filter-append (λ (e : E). by e == c.number) log more in
      let t : told_by by c.number more ≡ more = told_mine c.number more (subst (λ z. AreBy by z more) (sym is) h) in
      (s ∙ (ap (λ z. told_by by c.number log ++ z) t ∙ ap (λ z. z ++ more) a.0), account_grows n log more cs next h a.1)

  pub account_joins : (log : List E) (a b : List (Claim E)) → Account by log a → Account by log b → Account by log (a ++ b)
  account_joins log [] b p q = q
  account_joins log (c ∷ cs) b p q = (p.0, account_joins log cs b p.1 q)

  pub unheard_joins : (log : List E) (a b : List ℕ) → Unheard by log a → Unheard by log b → Unheard by log (a ++ b)
  unheard_joins log [] b p q = q
  unheard_joins log (n ∷ ns) b p q = (p.0, unheard_joins log ns b p.1 q)

  pub knows_grows : {O : Type 0} (n : ℕ) (log more : List E) (o : Option O) (v : Knowledge E O) → times n (held v.holding) ≡ 0 → AreBy by n more → Knows by log o v → Knows by (log ++ more) o v
  knows_grows n log more o v z h k =
      let t : times n (held v.holding) ≡ times n (map number_of v.holding.claims) + times n v.holding.drawn = times_append n (map number_of v.holding.claims) v.holding.drawn in
      let a : times n (map number_of v.holding.claims) ≡ 0 = omega (arith, t, z) in
      let d : times n v.holding.drawn ≡ 0 = omega (arith, t, z) in
      record {
        seen = prefix_grows v.seen log more k.seen;
        also = prefix_grows v.also log more k.also;
        claims = account_grows n log more v.holding.claims a h k.claims;
        drawn = unheard_grows n log more v.holding.drawn d h k.drawn;
        opened = k.opened;
        begun = k.begun;
        named = k.named;
        nothing = k.nothing;
        lastly = k.lastly;
      }

  pub grown_numbers : (more : List E) (cs : List (Claim E)) → map number_of (grown more cs) ≡ map number_of cs
  grown_numbers more [] = refl
  grown_numbers more (c ∷ cs) = refl

  pub grown_long : (more : List E) (cs : List (Claim E)) → 0 < length cs → 0 < length (grown more cs)
  grown_long more [] h = h
  grown_long more (c ∷ cs) h = h

  pub own_counts : (n : ℕ) (cs : List (Claim E)) → IsOwn n cs → 0 < times n (map number_of cs)
  own_counts n [] h = absurd h
  own_counts n (c ∷ cs) h = let o : one_if (n == c.number) ≡ 1 = ap (λ z. one_if (n == z)) h ∙ once_itself n in omega (arith, o)

  pub own_long : (n : ℕ) (cs : List (Claim E)) → IsOwn n cs → 0 < length cs
  own_long n [] h = absurd h
  own_long n (c ∷ cs) h = omega arith
