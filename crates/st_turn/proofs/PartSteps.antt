-- The parts of the rule, where one view is set or one more comes.
use Rattle.std.proofs.Common.{ℕ, ◌≡◌, ◌≢◌, ◌+◌, ◌<◌, ◌==◌, ◌⊎◌, inl, inr, true, false, List, [], ◌∷◌, ◌++◌, length, set, refl, ap, sym, ◌∙◌, subst, arith}
use native.Mathlib.Decide.{ℕ_discrete}
use mathlib.Core.Option.{some, some-injective}
use lib.ListN.{get_elem?}
use Rattle.atomic_table.proofs.Lists.{at_set, set_else, set_here, at_snoc, at_longer}
use Rattle.st_turn.specs.declared.knowledge.Place.{Place}
use Rattle.st_turn.specs.declared.knowledge.Place.TheVariants.{Out, Waiting, InTurn}
use Rattle.st_turn.specs.declared.knowledge.Holding.{Holding}
use Rattle.st_turn.specs.declared.knowledge.Knowledge.{Knowledge}
use Rattle.st_turn.specs.Lists.{one_if, times, Each}
use Rattle.st_turn.specs.Parts.{Has, IsIn, IsAlive, claimed, held, Tickets, Counts, Family, Alone}
use Rattle.st_turn.proofs.Totals.{inside, total_set, total_snoc, below_more}

-- tickets
pub tickets_draw : (t s : ℕ) (ps : List Place) (id : ℕ) → Tickets t s ps → Tickets (t + 1) s (set ps id (Waiting t))
tickets_draw t s ps id k =
    let split : (j : ℕ) (u : Place) → get_elem? (set ps id (Waiting t)) j ≡ some u → ((j ≡ id) × (Waiting t ≡ u)) ⊎ ((j ≢ id) × (get_elem? ps j ≡ some u)) = λ j u h. at_set ps id j (Waiting t) u h in
    record {
      order = let o = k.order in omega (arith, o);
      between = λ j u m h has. elim (split j u h) [
        | inl e ↦ (let x : t ≡ m = subst (Has m) (sym e.1) has in let o = k.order in (omega (arith, o, x), omega (arith, x)))
        | inr e ↦ (let o = k.between j u m e.1 has in (o.0, omega (arith, o.1)))
      ];
      apart = λ i j u x m hi hj has has'. elim (split i u hi) [
        | inl e ↦ elim (split j x hj) [
          | inl f ↦ e.0 ∙ sym f.0
          | inr f ↦ absurd (let y : t ≡ m = subst (Has m) (sym e.1) has in let o = k.between j x m f.1 has' in omega (arith, y, o.1))
        ]
        | inr e ↦ elim (split j x hj) [
          | inl f ↦ absurd (let y : t ≡ m = subst (Has m) (sym f.1) has' in let o = k.between i u m e.1 has in omega (arith, y, o.1))
          | inr f ↦ k.apart i j u x m e.1 f.1 has has'
        ]
      ];
      turn = λ j u m h is_in has. elim (split j u h) [
        | inl e ↦ absurd (subst IsIn (sym e.1) is_in)
        | inr e ↦ k.turn j u m e.1 is_in has
      ];
    }

pub tickets_enter : (t s : ℕ) (ps : List Place) (id n : ℕ) → get_elem? ps id ≡ some (Waiting n) → s ≡ n → Tickets t s ps → Tickets t s (set ps id (InTurn n))
tickets_enter t s ps id n at is k =
    let split : (j : ℕ) (u : Place) → get_elem? (set ps id (InTurn n)) j ≡ some u → ((j ≡ id) × (InTurn n ≡ u)) ⊎ ((j ≢ id) × (get_elem? ps j ≡ some u)) = λ j u h. at_set ps id j (InTurn n) u h in
    record {
      order = k.order;
      between = λ j u m h has. elim (split j u h) [
        | inl e ↦ (let x : n ≡ m = subst (Has m) (sym e.1) has in k.between id (Waiting n) m at x)
        | inr e ↦ k.between j u m e.1 has
      ];
      apart = λ i j u x m hi hj has has'. elim (split i u hi) [
        | inl e ↦ elim (split j x hj) [
          | inl f ↦ e.0 ∙ sym f.0
          | inr f ↦ (let y : n ≡ m = subst (Has m) (sym e.1) has in e.0 ∙ k.apart id j (Waiting n) x m at f.1 y has')
        ]
        | inr e ↦ elim (split j x hj) [
          | inl f ↦ (let y : n ≡ m = subst (Has m) (sym f.1) has' in k.apart i id u (Waiting n) m e.1 at has y ∙ sym f.0)
          | inr f ↦ k.apart i j u x m e.1 f.1 has has'
        ]
      ];
      turn = λ j u m h is_in has. elim (split j u h) [
        | inl e ↦ (let x : n ≡ m = subst (Has m) (sym e.1) has in sym x ∙ sym is)
        | inr e ↦ k.turn j u m e.1 is_in has
      ];
    }

-- a place without a ticket
pub tickets_idle : (t s : ℕ) (ps : List Place) (id : ℕ) (q : Place) → ((m : ℕ) → Has m q → ⊥) → Tickets t s ps → Tickets t s (set ps id q)
tickets_idle t s ps id q idle k =
    let old : (j : ℕ) (u : Place) (m : ℕ) → get_elem? (set ps id q) j ≡ some u → Has m u → get_elem? ps j ≡ some u = λ j u m h has. elim (at_set ps id j q u h) [ inl e ↦ absurd (idle m (subst (Has m) (sym e.1) has)) | inr e ↦ e.1 ] in
    record {
      order = k.order;
      between = λ j u m h has. k.between j u m (old j u m h has) has;
      apart = λ i j u x m hi hj has has'. k.apart i j u x m (old i u m hi has) (old j x m hj has') has has';
      turn = λ j u m h is_in has. k.turn j u m (old j u m h has) is_in has;
    }

pub tickets_leave : (t s : ℕ) (ps : List Place) (id n : ℕ) → get_elem? ps id ≡ some (InTurn n) → ((j : ℕ) (p : Place) → get_elem? ps j ≡ some p → IsIn p → j ≡ id) → Tickets t s ps → (s < t) × (s ≡ n) × Tickets t (s + 1) (set ps id Out)
tickets_leave t s ps id n at only k =
    let old : (j : ℕ) (u : Place) (m : ℕ) → get_elem? (set ps id Out) j ≡ some u → Has m u → (j ≢ id) × (get_elem? ps j ≡ some u) = λ j u m h has. elim (at_set ps id j Out u h) [ inl e ↦ absurd (subst (Has m) (sym e.1) has) | inr e ↦ e ] in
    let is : n ≡ s = k.turn id (InTurn n) n at tt refl in
    let mine = k.between id (InTurn n) n at refl in (
      omega (arith, mine.1, is),
      sym is,
      record {
        order = omega (arith, mine.1, is);
        between = λ j u m h has.
            let o = old j u m h has in
            let b = k.between j u m o.1 has in
            let ne : m ≢ n = λ q. o.0 (k.apart j id u (InTurn n) m o.1 at has (sym q)) in
            (omega (arith, b.0, ne, is), b.1);
        apart = λ i j u x m hi hj has has'. k.apart i j u x m (old i u m hi has).1 (old j x m hj has').1 has has';
        turn = λ j u m h is_in has. let o = old j u m h has in absurd (o.0 (only j u o.1 is_in));
      },
    )

pub tickets_more : (t s : ℕ) (ps : List Place) (q : Place) → ((m : ℕ) → Has m q → ⊥) → Tickets t s ps → Tickets t s (ps ++ q ∷ [])
tickets_more t s ps q idle k =
    let old : (j : ℕ) (u : Place) (m : ℕ) → get_elem? (ps ++ q ∷ []) j ≡ some u → Has m u → get_elem? ps j ≡ some u = λ j u m h has. elim (at_snoc ps q u j h) [ inl e ↦ e | inr e ↦ absurd (idle m (subst (Has m) (sym e) has)) ] in
    record {
      order = k.order;
      between = λ j u m h has. k.between j u m (old j u m h has) has;
      apart = λ i j u x m hi hj has has'. k.apart i j u x m (old i u m hi has) (old j x m hj has') has has';
      turn = λ j u m h is_in has. k.turn j u m (old j u m h has) is_in has;
    }

-- views, each by itself
module _ {A : Type 0} where
  pub each_set : (P : A → Type 0) (l : List A) (i : ℕ) (w : A) → Each P l → P w → Each P (set l i w)
  each_set P l i w all one j a h = elim (at_set l i j w a h) [ inl e ↦ subst P e.1 one | inr e ↦ all j a e.1 ]

  pub each_more : (P : A → Type 0) (l : List A) (w : A) → Each P l → P w → Each P (l ++ w ∷ [])
  each_more P l w all one j a h = elim (at_snoc l w a j h) [ inl e ↦ all j a e | inr e ↦ subst P e one ]

module _ {E : Type 0} where
  count_in : ℕ → Holding E → ℕ
  count_in x st = times x (held st)

  pub counts_set : (n : ℕ) (sts : List (Holding E)) (i : ℕ) (a b : Holding E) → get_elem? sts i ≡ some a → ((x : ℕ) → times x (held b) ≡ times x (held a)) → length (held b) ≡ length (held a) → Counts n sts → Counts n (set sts i b)
  counts_set n sts i a b at same long k = record {
    once = λ x. let h = total_set (λ (st : Holding E). times x (held st)) sts i a b at in let o = k.once x in let s = same x in omega (arith, h, o, s);
    all = let h = total_set (λ (st : Holding E). length (held st)) sts i a b at in let o = k.all in omega (arith, h, o, long);
  }

  pub counts_draw : (n : ℕ) (sts : List (Holding E)) (i : ℕ) (a b : Holding E) → get_elem? sts i ≡ some a → ((x : ℕ) → times x (held b) ≡ times x (held a) + one_if (x == n)) → length (held b) ≡ length (held a) + 1 → Counts n sts → Counts (n + 1) (set sts i b)
  counts_draw n sts i a b at same long k = record {
    once = λ x. let h = total_set (λ (st : Holding E). times x (held st)) sts i a b at in let o = k.once x in let s = same x in let m = below_more x n in omega (arith, h, o, s, m);
    all = let h = total_set (λ (st : Holding E). length (held st)) sts i a b at in let o = k.all in omega (arith, h, o, long);
  }

  pub counts_split : (n : ℕ) (sts : List (Holding E)) (i : ℕ) (a b c : Holding E) → get_elem? sts i ≡ some a → ((x : ℕ) → times x (held b) + times x (held c) ≡ times x (held a)) → length (held b) + length (held c) ≡ length (held a) → Counts n sts → Counts n (set sts i b ++ c ∷ [])
  counts_split n sts i a b c at same long k = record {
    once = λ x. let f : Holding E → ℕ = λ st. times x (held st) in let h = total_set f sts i a b at in let g = total_snoc f (set sts i b) c in let o = k.once x in let s = same x in omega (arith, h, g, o, s);
    all = let f : Holding E → ℕ = λ st. length (held st) in let h = total_set f sts i a b at in let g = total_snoc f (set sts i b) c in let o = k.all in omega (arith, h, g, o, long);
  }

  pub counts_join : (n : ℕ) (sts : List (Holding E)) (i j : ℕ) (a b c z : Holding E) → get_elem? sts i ≡ some a → get_elem? (set sts i c) j ≡ some b → ((x : ℕ) → times x (held c) ≡ times x (held a) + times x (held b)) → length (held c) ≡ length (held a) + length (held b) → held z ≡ [] → Counts n sts → Counts n (set (set sts i c) j z)
  counts_join n sts i j a b c z at at' same long nil k = record {
    once = λ x. let f : Holding E → ℕ = λ st. times x (held st) in let h = total_set f sts i a c at in let g = total_set f (set sts i c) j b z at' in let o = k.once x in let s = same x in let e : times x (held z) ≡ 0 = ap (times x) nil in omega (arith, h, g, o, s, e);
    all = let f : Holding E → ℕ = λ st. length (held st) in let h = total_set f sts i a c at in let g = total_set f (set sts i c) j b z at' in let o = k.all in let e : length (held z) ≡ 0 = ap (length {A = ℕ}) nil in omega (arith, h, g, o, long, e);
  }

  abbrev pub known : Holding E → List ℕ
  known st = claimed st ++ (st.made ++ st.drawn)

  pub family_set : (n : ℕ) (sts : List (Holding E)) (i : ℕ) (a b : Holding E) → get_elem? sts i ≡ some a → ((x : ℕ) → 0 < times x (claimed a) → 0 < times x (claimed b)) → ((x : ℕ) → 0 < times x (known a) → 0 < times x (known b)) → Family n sts → Family n (set sts i b)
  family_set n sts i a b at more kn k x pos lt =
      let c = k x pos lt in
      elim (ℕ_discrete c.place i) [
        | yes e ↦ (
            let same : c.holding ≡ a = some-injective c.holding a (sym c.at ∙ (ap (get_elem? sts) e ∙ at)) in
            record { parent = c.parent; below = c.below; place = i; holding = b; at = set_here sts i b (inside sts i a at); claimed = more c.parent (subst (λ (st : Holding E). 0 < times c.parent (claimed st)) same c.claimed); known = kn x (subst (λ (st : Holding E). 0 < times x (known st)) same c.known) })
        | no ne ↦ record { parent = c.parent; below = c.below; place = c.place; holding = c.holding; at = set_else sts i c.place b ne ∙ c.at; claimed = c.claimed; known = c.known }
      ]

  pub family_more : (n : ℕ) (sts : List (Holding E)) (b : Holding E) → Family n sts → Family n (sts ++ b ∷ [])
  family_more n sts b k x pos lt =
      let c = k x pos lt in
      record { parent = c.parent; below = c.below; place = c.place; holding = c.holding; at = at_longer sts (b ∷ []) c.place c.holding c.at; claimed = c.claimed; known = c.known }

  pub family_draw : (n p : ℕ) (sts : List (Holding E)) (i : ℕ) (a b : Holding E) → get_elem? sts i ≡ some a → p < n → 0 < times p (claimed b) → 0 < times n (known b) → ((x : ℕ) → 0 < times x (claimed a) → 0 < times x (claimed b)) → ((x : ℕ) → 0 < times x (known a) → 0 < times x (known b)) → Family n sts → Family (n + 1) (set sts i b)
  family_draw n p sts i a b at below parent new more kn k x pos lt =
      elim (ℕ_discrete x n) [
        | yes e ↦ record { parent = p; below = omega (arith, below, e); place = i; holding = b; at = set_here sts i b (inside sts i a at); claimed = parent; known = subst (λ y. 0 < times y (known b)) (sym e) new }
        | no ne ↦ family_set n sts i a b at more kn k x pos (omega (arith, lt, ne))
      ]

  pub family_join : (n : ℕ) (sts : List (Holding E)) (i j : ℕ) (a b c z : Holding E) → get_elem? sts i ≡ some a → get_elem? sts j ≡ some b → j ≢ i
      → ((x : ℕ) → 0 < times x (claimed a) → 0 < times x (claimed c)) → ((x : ℕ) → 0 < times x (known a) → 0 < times x (known c))
      → ((x : ℕ) → 0 < times x (claimed b) → 0 < times x (claimed c)) → ((x : ℕ) → 0 < times x (known b) → 0 < times x (known c)) → Family n sts → Family n (set (set sts i c) j z)
  family_join n sts i j a b c z at at' ne ma ka mb kb k x pos lt =
      let q = k x pos lt in
      let here : get_elem? (set (set sts i c) j z) i ≡ some c = set_else (set sts i c) j i z (λ e. ne (sym e)) ∙ set_here sts i c (inside sts i a at) in
      elim (ℕ_discrete q.place i) [
        | yes e ↦ (
            let same : q.holding ≡ a = some-injective q.holding a (sym q.at ∙ (ap (get_elem? sts) e ∙ at)) in
            record { parent = q.parent; below = q.below; place = i; holding = c; at = here; claimed = ma q.parent (subst (λ (st : Holding E). 0 < times q.parent (claimed st)) same q.claimed); known = ka x (subst (λ (st : Holding E). 0 < times x (known st)) same q.known) })
        | no n1 ↦ elim (ℕ_discrete q.place j) [
          | yes e ↦ (
              let same : q.holding ≡ b = some-injective q.holding b (sym q.at ∙ (ap (get_elem? sts) e ∙ at')) in
              record { parent = q.parent; below = q.below; place = i; holding = c; at = here; claimed = mb q.parent (subst (λ (st : Holding E). 0 < times q.parent (claimed st)) same q.claimed); known = kb x (subst (λ (st : Holding E). 0 < times x (known st)) same q.known) })
          | no n2 ↦ record { parent = q.parent; below = q.below; place = q.place; holding = q.holding; at = set_else (set sts i c) j q.place z n2 ∙ (set_else sts i q.place c n1 ∙ q.at); claimed = q.claimed; known = q.known }
        ]
      ]

module _ {E O : Type 0} where
  pub alone_set : (vs : List (Knowledge E O)) (id : ℕ) (v w : Knowledge E O) → get_elem? vs id ≡ some v → IsAlive v.place → (w.holding.alone ≡ true → v.holding.alone ≡ true) → Alone vs → Alone (set vs id w)
  alone_set vs id v w at alive keep k i j a b hi hj is ne living =
      elim (at_set vs id i w a hi) [
        | inl e ↦ elim (at_set vs id j w b hj) [
          | inl f ↦ ne (f.0 ∙ sym e.0)
          | inr f ↦ k id j v b at f.1 (keep (ap (λ (z : Knowledge E O). z.holding.alone) e.1 ∙ is)) f.0 living
        ]
        | inr e ↦ elim (at_set vs id j w b hj) [
          | inl f ↦ k i id a v e.1 at is (λ q. e.0 (sym q)) alive
          | inr f ↦ k i j a b e.1 f.1 is ne living
        ]
      ]

  -- where nobody is alone
  pub alone_none : (vs : List (Knowledge E O)) → ((i : ℕ) (v : Knowledge E O) → get_elem? vs i ≡ some v → v.holding.alone ≡ true → ⊥) → Alone vs
  alone_none vs h i j a b hi hj is ne living = h i a hi is

  -- beside a living seat that isn't alone nobody is
  pub nobody : (vs : List (Knowledge E O)) (id : ℕ) (v w : Knowledge E O) → get_elem? vs id ≡ some v → IsAlive v.place → w.holding.alone ≡ false → Alone vs → (i : ℕ) (a : Knowledge E O) → get_elem? (set vs id w) i ≡ some a → a.holding.alone ≡ true → ⊥
  nobody vs id v w at alive not k i a h is = elim (at_set vs id i w a h) [
    | inl e ↦ (let x : w.holding.alone ≡ a.holding.alone = ap (λ (z : Knowledge E O). z.holding.alone) e.1 in let y : true ≡ false = sym is ∙ (sym x ∙ not) in cc)
    | inr e ↦ k i id a v e.1 at is (λ q. e.0 (sym q)) alive
  ]
