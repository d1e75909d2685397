-- The numbers are counted: a seat holds as many as were dealt exactly where it has all.
use Rattle.std.proofs.Common.{ℕ, zero, suc, ◌≡◌, ◌≢◌, ◌+◌, ◌<◌, ◌≤◌, inl, inr, true, List, [], ◌∷◌, ◌++◌, map, length, slice_index, slice_set, refl, ap, sym, ◌∙◌, subst, arith}
use Rattle.std.proofs.lemmas.Bool.Decides.{nat_tests}
use Rattle.std.specs.Prelude.{Option, nat_lt}
use native.Mathlib.Decide.{ℕ_discrete}
use mathlib.Core.Option.{some, none, some-injective}
use lib.ListN.{get_elem?}
use Rattle.atomic_table.specs.Table.{State, Me, keeps, Allows, step, stepped}
use Rattle.atomic_table.proofs.Lists.{at_set, at_map}
use Rattle.st_turn.specs.declared.knowledge.Place.TheVariants.{Out}
use Rattle.st_turn.specs.declared.knowledge.Claim.{Claim}
use Rattle.st_turn.specs.declared.knowledge.Holding.{Holding}
use Rattle.st_turn.specs.declared.knowledge.Knowledge.{Knowledge}
use Rattle.st_turn.specs.Lists.{one_if, times, total, number_of}
use Rattle.st_turn.specs.Parts.{IsAlive, holding_of, claimed, held, IsDealt, Alone, Knows}
use Rattle.st_turn.specs.Ruling.{IsKept}
use Rattle.st_turn.specs.Views.{HasAll}
use Rattle.st_turn.specs.Kinds.{with_counted, alone_of, Counted}
use Rattle.st_turn.proofs.Turns.{word_2, read_kept}
use Rattle.std.proofs.Common.{length-append}
use Rattle.st_turn.proofs.Totals.{total_one, total_two, total_alone, one_if_most, below_of}
use Rattle.st_turn.proofs.PartSteps.{known, alone_set}
use Rattle.st_turn.proofs.Splits.{pos_append, pos_cases, pos_self}

module _ {B E O : Type 0} (by : E → ℕ) (events : B → List E) (opens : B → O) (fits : B → O → Type 0) where
  abbrev V : Type 0
  V = Knowledge E O

  abbrev Kept : State (Option B) V → Type 0
  Kept s = IsKept by events fits s

  -- 9: the numbers are counted
  -- a living view has a number
  has_number : (l : List E) (o : Option O) (u : V) → IsAlive u.place → Knows by l o u → 0 < length (held u.holding)
  has_number l o u living k =
      let names : List ℕ = map number_of u.holding.claims in
      let a : length (names ++ u.holding.drawn) ≡ length names + length u.holding.drawn = length-append names u.holding.drawn in
      let go : (cs : List (Claim E)) → 0 < length cs → 0 < length (map number_of cs) = elim [ [] ↦ (λ h. h) | c ∷ cs ↦ (λ h. omega arith) ] in
      let b : 0 < length names = go u.holding.claims (k.named living) in
      omega (arith, a, b)

  counted_alone : (s : State (Option B) V) (id : ℕ) (v : V) (n : ℕ) → get_elem? s.views id ≡ some v → IsAlive v.place → (k : Kept s) → length (held v.holding) ≡ k.dealt → Alone (slice_set s.views id (alone_of n v))
  counted_alone s id v n at alive k all i j a b hi hj is ne living =
      let w : V = alone_of n v in
      let f : Holding E → ℕ = λ st. length (held st) in
      elim (at_set s.views id i w a hi) [
        | inl e ↦ elim (at_set s.views id j w b hj) [
          | inl g ↦ ne (g.0 ∙ sym e.0)
          | inr g ↦ (
              let two : f v.holding + f b.holding ≤ total f (map holding_of s.views) = total_two f (map holding_of s.views) id j v.holding b.holding (λ q. g.0 (sym q)) (at_map holding_of s.views id v at) (at_map holding_of s.views j b g.1) in
              let sum : total f (map holding_of s.views) ≡ k.dealt = k.counts.all in
              let pos = has_number k.log k.opening b living (k.knows j b g.1) in
              absurd (omega (arith, two, sum, pos, all)))
        ]
        | inr e ↦ k.alone i id a v e.1 at is (λ q. e.0 (sym q)) alive
      ]

  -- each number below the word is the seat's, where it has 0 and all that was made of what it has
  all_mine : (s : State (Option B) V) (id : ℕ) (v : V) → get_elem? s.views id ≡ some v → (k : Kept s) → v.holding.drawn ≡ [] → HasAll (claimed v.holding) v.holding.made → (m x : ℕ) → x < m → x < k.dealt → 0 < times x (claimed v.holding)
  all_mine s id v at k drawn has zero x lt below = absurd (omega arith)
  all_mine s id v at k drawn has (suc m) x lt below =
      elim (ℕ_discrete x 0) [
        | yes e ↦ subst (λ y. 0 < times y (claimed v.holding)) (sym e) has.first
        | no ne ↦ (
            let c = k.family x (omega (arith, ne)) below in
            let parent_mine : 0 < times c.parent (claimed v.holding) = all_mine s id v at k drawn has m c.parent (let b = c.below in omega (arith, b, lt)) (let b = c.below in omega (arith, b, below)) in
            let f : Holding E → ℕ = λ st. times c.parent (held st) in
            let in_v : 0 < f v.holding = pos_append c.parent (claimed v.holding) v.holding.drawn (inl parent_mine) in
            let in_q : 0 < f c.holding = pos_append c.parent (claimed c.holding) c.holding.drawn (inl c.claimed) in
            let at_holding : get_elem? (map holding_of s.views) id ≡ some v.holding = at_map holding_of s.views id v at in
            elim (ℕ_discrete c.place id) [
              | yes e ↦ (
                  let same : c.holding ≡ v.holding = some-injective c.holding v.holding (sym c.at ∙ (ap (get_elem? (map holding_of s.views)) e ∙ at_holding)) in
                  let kn : 0 < times x (known v.holding) = subst (λ (st : Holding E). 0 < times x (known st)) same c.known in
                  elim (pos_cases x (claimed v.holding) (v.holding.made ++ v.holding.drawn) kn) [
                    | inl a ↦ a
                    | inr a ↦ elim (pos_cases x v.holding.made v.holding.drawn a) [
                      | inl b ↦ has.others x b
                      | inr b ↦ absurd (let z : 0 < times x [] = subst (λ l. 0 < times x l) drawn b in omega (arith, z))
                    ]
                  ])
              | no n2 ↦ (
                  let two : f c.holding + f v.holding ≤ total f (map holding_of s.views) = total_two f (map holding_of s.views) c.place id c.holding v.holding n2 c.at at_holding in
                  let once : total f (map holding_of s.views) ≡ one_if (nat_lt c.parent k.dealt) = k.counts.once c.parent in
                  let most = one_if_most (nat_lt c.parent k.dealt) in
                  absurd (omega (arith, two, once, most, in_v, in_q)))
            ])
      ]

  counted_all : (s : State (Option B) V) (id : ℕ) (v : V) → get_elem? s.views id ≡ some v → (k : Kept s) → v.holding.drawn ≡ [] → HasAll (claimed v.holding) v.holding.made → length (held v.holding) ≡ k.dealt
  counted_all s id v at k drawn has =
      let f : Holding E → ℕ = λ st. length (held st) in
      let at_holding : get_elem? (map holding_of s.views) id ≡ some v.holding = at_map holding_of s.views id v at in
      let none_else : (j : ℕ) (st : Holding E) → get_elem? (map holding_of s.views) j ≡ some st → j ≢ id → f st ≡ 0 = λ j st h ne.
      let go : (l : List ℕ) → held st ≡ l → length l ≡ 0 = elim [
        | [] ↦ (λ e. refl)
        | y ∷ ys ↦ (λ e. absurd (
            let g : Holding E → ℕ = λ q. times y (held q) in
            let in_st : 0 < g st = subst (λ l. 0 < times y l) (sym e) (pos_self y ys) in
            let once : total g (map holding_of s.views) ≡ one_if (nat_lt y k.dealt) = k.counts.once y in
            let most = one_if_most (nat_lt y k.dealt) in
            let one : g st ≤ total g (map holding_of s.views) = total_one g (map holding_of s.views) j st h in
            let below : y < k.dealt = below_of y k.dealt (omega (arith, one, once, in_st)) in
            let mine : 0 < times y (claimed v.holding) = all_mine s id v at k drawn has (suc y) y (omega arith) below in
            let in_v : 0 < g v.holding = pos_append y (claimed v.holding) v.holding.drawn (inl mine) in
            let two : g st + g v.holding ≤ total g (map holding_of s.views) = total_two g (map holding_of s.views) j id st v.holding ne h at_holding in
            omega (arith, two, once, most, in_st, in_v)))
      ] in
      go (held st) refl in
      let sum : total f (map holding_of s.views) ≡ k.dealt = k.counts.all in
      let alone : total f (map holding_of s.views) ≡ f v.holding = total_alone f (map holding_of s.views) id v.holding at_holding none_else in
      sym alone ∙ sum

  counted_whole : (s : State (Option B) V) (id : ℕ) (v : V) → get_elem? s.views id ≡ some v → IsAlive v.place → (k : Kept s) → v.holding.drawn ≡ [] → length (held v.holding) ≡ k.dealt → HasAll (claimed v.holding) v.holding.made
  counted_whole s id v at alive k drawn all =
      let at_holding : get_elem? (map holding_of s.views) id ≡ some v.holding = at_map holding_of s.views id v at in
      let f : Holding E → ℕ = λ st. length (held st) in
      let sum : total f (map holding_of s.views) ≡ k.dealt = k.counts.all in
      let empty : (l : List ℕ) → length l ≡ 0 → l ≡ [] = elim [ [] ↦ (λ e. refl) | y ∷ ys ↦ (λ e. absurd (omega (arith, e))) ] in
      let none_else : (x j : ℕ) (st : Holding E) → get_elem? (map holding_of s.views) j ≡ some st → j ≢ id → times x (held st) ≡ 0 = λ x j st h ne.
      let two : f st + f v.holding ≤ total f (map holding_of s.views) = total_two f (map holding_of s.views) j id st v.holding ne h at_holding in
      ap (times x) (empty (held st) (omega (arith, two, sum, all))) in
      let mine : (x : ℕ) → x < k.dealt → 0 < times x (claimed v.holding) = λ x below.
      let g : Holding E → ℕ = λ st. times x (held st) in
      let alone : total g (map holding_of s.views) ≡ g v.holding = total_alone g (map holding_of s.views) id v.holding at_holding (none_else x) in
      let once : total g (map holding_of s.views) ≡ one_if (nat_lt x k.dealt) = k.counts.once x in
      let b : nat_lt x k.dealt ≡ true = grind (arith, nat_tests) in
      let b' : one_if (nat_lt x k.dealt) ≡ 1 = ap one_if b in
      let pos : 0 < times x (claimed v.holding ++ v.holding.drawn) = omega (arith, alone, once, b') in
      elim (pos_cases x (claimed v.holding) v.holding.drawn pos) [ inl q ↦ q | inr q ↦ absurd (let z : 0 < times x [] = subst (λ l. 0 < times x l) drawn q in omega (arith, z)) ] in
      let some_held = has_number k.log k.opening v alive (k.knows id v at) in
      record { first = mine 0 (omega (arith, some_held, all)); others = λ x m. mine x ((k.known id v.holding at_holding).made x m) }

  pub count_allows : (slots id : ℕ) (me : Me (Option B) V) → me.0.place ≡ Out → Allows Kept slots id me 2 (λ n. n) (Counted (step slots 2 0 0 none) me)
  count_allows slots id me out s k one at small =
      let v : V = me.0 in
      let n : ℕ = slice_index s.words 2 in
      let n_is : k.dealt ≡ n = sym (ap (λ ws. slice_index ws 2) k.words) in
      let alive : IsAlive v.place = subst IsAlive (sym out) tt in
      let kn = k.knows id v at in
      let f : Holding E → ℕ = λ st. length (held st) in
      let most : f v.holding ≤ total f (map holding_of s.views) = total_one f (map holding_of s.views) id v.holding (at_map holding_of s.views id v at) in
      let sum : total f (map holding_of s.views) ≡ k.dealt = k.counts.all in
      let joined : v.holding.drawn ≡ [] → HasAll (claimed v.holding) v.holding.made → length (held v.holding) ≡ n = λ d has. counted_all s id v at k d has ∙ n_is in
      let dealt_v = k.known id v.holding (at_map holding_of s.views id v at) in
      let later : v.holding.counted ≤ n = let q = dealt_v.counted in omega (arith, q, n_is) in
      let counted_n : n ≤ k.dealt = omega (arith, n_is) in
      let same_dealt : IsDealt k.dealt (with_counted n v).holding = record { made = dealt_v.made; counted = counted_n } in
      elim (ℕ_discrete (length (held v.holding)) n) [
        | yes e ↦ (
            let w : V = alone_of n v in
            let kept : Kept (stepped s 2 n id me.1 w keeps) = read_kept by events opens fits s 2 id v w me.1 (word_2 by events opens fits s k) out out at k
            (record { seen = kn.seen; also = kn.also; claims = kn.claims; drawn = kn.drawn; opened = kn.opened; begun = λ a q. refl; named = kn.named; nothing = kn.nothing; lastly = λ q. refl })
            (counted_alone s id v n at alive k (e ∙ sym n_is)) refl refl refl (record { made = dealt_v.made; counted = counted_n }) in
            (w, keeps, tt, kept, record { enough = omega (arith, most, sum, n_is); later = later; alone = λ q. refl; others = λ q. absurd (omega (arith, q, e)); joined = joined; whole = λ d q. counted_whole s id v at alive k d (q ∙ sym n_is) }))
        | no ne ↦ (
            let w : V = with_counted n v in
            let kept : Kept (stepped s 2 n id me.1 w keeps) = read_kept by events opens fits s 2 id v w me.1 (word_2 by events opens fits s k) out out at k
            (record { seen = kn.seen; also = kn.also; claims = kn.claims; drawn = kn.drawn; opened = kn.opened; begun = kn.begun; named = kn.named; nothing = kn.nothing; lastly = kn.lastly })
            (alone_set s.views id v w at alive (λ h. h) k.alone) refl refl refl same_dealt in
            (w, keeps, tt, kept, record { enough = omega (arith, most, sum, n_is); later = later; alone = λ q. absurd (ne q); others = λ q. refl; joined = joined; whole = λ d q. counted_whole s id v at alive k d (q ∙ sym n_is) }))
      ]
