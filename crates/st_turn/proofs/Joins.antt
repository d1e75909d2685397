-- A seat takes in another, and keeps the longer of what both have seen.
use Rattle.std.proofs.Common.{ℕ, ◌≡◌, ◌+◌, ◌<◌, ◌≤◌, inl, inr, true, false, List, [], ◌++◌, map, length, slice_index, slice_set, refl, ap, sym, ◌∙◌, subst, arith}
use Rattle.std.proofs.Math.Nat.{max-le}
use Rattle.std.specs.Prelude.{Option, Some, None}
use mathlib.Core.Option.{some, none}
use mathlib.Core.List.{IsPrefix}
use lib.ListN.{get_elem?}
use Rattle.atomic_table.specs.Table.{State, Me, keeps, Allows, Joins, step, stepped}
use Rattle.atomic_table.proofs.Lists.{at_set, set_else, at_map}
use Rattle.st_turn.specs.declared.knowledge.Place.TheVariants.{Out, Last, Spent}
use Rattle.st_turn.specs.declared.knowledge.Holding.{Holding}
use Rattle.st_turn.specs.declared.knowledge.Knowledge.{Knowledge}
use Rattle.st_turn.specs.Lists.{times, total, Each, longer, number_of}
use Rattle.st_turn.specs.Parts.{IsIn, IsAlive, place_of, holding_of, claimed, held, Tickets, Counts, Family, IsDealt, Knows}
use Rattle.st_turn.specs.Ruling.{Where, IsKept, spent_view}
use Rattle.st_turn.specs.Kinds.{both_of, Tells}
use Rattle.st_turn.proofs.Turns.{word_2, where_set, read_kept}
use Rattle.std.proofs.Common.{length-append}
use Rattle.st_turn.proofs.Totals.{total_one, longer_prefix, map_set_same, map_set, map_joins, times_append}
use Rattle.st_turn.proofs.PartSteps.{tickets_idle, each_set, counts_join, family_join, known, alone_set, alone_none, nobody}
use Rattle.st_turn.proofs.Splits.{pos_append, pos_cases}
use Rattle.st_turn.proofs.Logs.{account_joins, unheard_joins}

module _ {B E O : Type 0} (by : E → ℕ) (events : B → List E) (opens : B → O) (fits : B → O → Type 0) where
  abbrev V : Type 0
  V = Knowledge E O

  abbrev Kept : State (Option B) V → Type 0
  Kept s = IsKept by events fits s

  -- 7: a seat takes in another
  pub join_keeps : (id : ℕ) (v : V) (other : ℕ) (w : V) (o : O) → v.place ≡ Out → w.place ≡ Out → v.opening ≡ Some o → Joins Kept id v other w (both_of v w) spent_view
  join_keeps id v other w o out out' opening s k at differ at_other =
      let c : V = both_of v w in
      let z : V = spent_view in
      let vs : List V = slice_set s.views id c in
      let at' : get_elem? s.views other ≡ some w = sym (set_else s.views id other c differ) ∙ at_other in
      let alive : IsAlive v.place = subst IsAlive (sym out) tt in
      let alive' : IsAlive w.place = subst IsAlive (sym out') tt in
      let kn = k.knows id v at in
      let kw = k.knows other w at' in
      let not_none : k.opening ≡ None → ⊥ = λ e. let q : v.opening ≡ k.opening = kn.opened alive in let y : Some o ≡ None = sym opening ∙ (q ∙ e) in cc in
      let vn : List ℕ = map number_of v.holding.claims in
      let wn : List ℕ = map number_of w.holding.claims in
      let names : map number_of c.holding.claims ≡ vn ++ wn = map_joins number_of v.holding.claims w.holding.claims in
      let numbers : held c.holding ≡ (vn ++ wn) ++ (v.holding.drawn ++ w.holding.drawn) = ap (λ l. l ++ (v.holding.drawn ++ w.holding.drawn)) names in
      let at_holding : get_elem? (map holding_of s.views) id ≡ some v.holding = at_map holding_of s.views id v at in
      let at_holding' : get_elem? (map holding_of s.views) other ≡ some w.holding = at_map holding_of s.views other w at' in
      let ps1 : map place_of vs ≡ map place_of s.views = map_set_same place_of s.views id v c at refl in
      let ps : map place_of (slice_set vs other z) ≡ slice_set (map place_of s.views) other Spent = map_set place_of vs other z ∙ ap (λ l. slice_set l other Spent) ps1 in
      let sts : map holding_of (slice_set vs other z) ≡ slice_set (slice_set (map holding_of s.views) id c.holding) other z.holding = map_set holding_of vs other z ∙ ap (λ l. slice_set l other z.holding) (map_set holding_of s.views id c) in
      let s1 : State (Option B) V = record { words = s.words; homes = s.homes; views = vs } in
      let book1 : Where events fits s1 k.log k.opening = where_set by events opens fits s s.words k.log k.opening id v c at (λ h. subst IsIn out h) (λ h. subst IsIn out h) k.book in
      let book2 = where_set by events opens fits s1 s.words k.log k.opening other w z at_other (λ h. subst IsIn out' h) (λ h. h) book1 in
      let kc : Knows by k.log k.opening c = record {
        seen = kn.seen;
        also = kw.seen;
        claims = account_joins by k.log v.holding.claims w.holding.claims kn.claims kw.claims;
        drawn = unheard_joins by k.log v.holding.drawn w.holding.drawn kn.drawn kw.drawn;
        opened = kn.opened;
        begun = λ q e. absurd (not_none e);
        named = λ q. let l : length (v.holding.claims ++ w.holding.claims) ≡ length v.holding.claims + length w.holding.claims = length-append v.holding.claims w.holding.claims in let h = kn.named alive in omega (arith, l, h);
        nothing = λ q. absurd (q alive);
        lastly = λ q. let y : Out ≡ Last = sym out ∙ q in absurd cc;
      } in
      let kz : Knows by k.log k.opening z = record { seen = (k.log, refl); also = (k.log, refl); claims = tt; drawn = tt; opened = λ q. absurd q; begun = λ q. absurd q; named = λ q. absurd q; nothing = λ q. refl; lastly = λ q. absurd cc } in
      let at_c : get_elem? (slice_set (map holding_of s.views) id c.holding) other ≡ some w.holding = set_else (map holding_of s.views) id other c.holding differ ∙ at_holding' in
      let sum4 : (x : ℕ) → times x (held c.holding) ≡ times x (held v.holding) + times x (held w.holding) = λ x.
      let e : times x (held c.holding) ≡ times x ((vn ++ wn) ++ (v.holding.drawn ++ w.holding.drawn)) = ap (times x) numbers in
      let e1 = times_append x (vn ++ wn) (v.holding.drawn ++ w.holding.drawn) in
      let e2 = times_append x vn wn in
      let e3 = times_append x v.holding.drawn w.holding.drawn in
      let e4 = times_append x vn v.holding.drawn in
      let e5 = times_append x wn w.holding.drawn in
      omega (arith, e, e1, e2, e3, e4, e5) in
      let long4 : length (held c.holding) ≡ length (held v.holding) + length (held w.holding) =
      let e : length (held c.holding) ≡ length ((vn ++ wn) ++ (v.holding.drawn ++ w.holding.drawn)) = ap (length {A = ℕ}) numbers in
      let e1 : length ((vn ++ wn) ++ (v.holding.drawn ++ w.holding.drawn)) ≡ length (vn ++ wn) + length (v.holding.drawn ++ w.holding.drawn) = length-append (vn ++ wn) (v.holding.drawn ++ w.holding.drawn) in
      let e2 : length (vn ++ wn) ≡ length vn + length wn = length-append vn wn in
      let e3 : length (v.holding.drawn ++ w.holding.drawn) ≡ length v.holding.drawn + length w.holding.drawn = length-append v.holding.drawn w.holding.drawn in
      let e4 : length (vn ++ v.holding.drawn) ≡ length vn + length v.holding.drawn = length-append vn v.holding.drawn in
      let e5 : length (wn ++ w.holding.drawn) ≡ length wn + length w.holding.drawn = length-append wn w.holding.drawn in
      omega (arith, e, e1, e2, e3, e4, e5) in
      let into : (x : ℕ) (a m d : List ℕ) → (0 < times x a → 0 < times x (map number_of c.holding.claims)) → (0 < times x m → 0 < times x c.holding.made) → (0 < times x d → 0 < times x c.holding.drawn) → 0 < times x (a ++ (m ++ d)) → 0 < times x (known c.holding) = λ x a m d fa fm fd h.
      elim (pos_cases x a (m ++ d) h) [
        | inl q ↦ pos_append x (claimed c.holding) (c.holding.made ++ c.holding.drawn) (inl (fa q))
        | inr q ↦ elim (pos_cases x m d q) [
          | inl r ↦ pos_append x (claimed c.holding) (c.holding.made ++ c.holding.drawn) (inr (pos_append x c.holding.made c.holding.drawn (inl (fm r))))
          | inr r ↦ pos_append x (claimed c.holding) (c.holding.made ++ c.holding.drawn) (inr (pos_append x c.holding.made c.holding.drawn (inr (fd r))))
        ]
      ] in
      let ma : (x : ℕ) → 0 < times x vn → 0 < times x (map number_of c.holding.claims) = λ x h. subst (λ l. 0 < times x l) (sym names) (pos_append x vn wn (inl h)) in
      let mb : (x : ℕ) → 0 < times x wn → 0 < times x (map number_of c.holding.claims) = λ x h. subst (λ l. 0 < times x l) (sym names) (pos_append x vn wn (inr h)) in
      record {
        ticket = k.ticket;
        serving = k.serving;
        dealt = k.dealt;
        log = k.log;
        opening = k.opening;
        words = k.words;
        few = k.few;
        one = k.one;
        tickets = subst (Tickets k.ticket k.serving) (sym ps) (tickets_idle k.ticket k.serving (map place_of s.views) other Spent (λ m h. h) k.tickets);
        book = book2;
        knows = each_set (Knows by k.log k.opening) vs other z (each_set (Knows by k.log k.opening) s.views id c k.knows kc) kz;
        unheard = k.unheard;
        counts = subst (Counts k.dealt) (sym sts) (counts_join k.dealt (map holding_of s.views) id other v.holding w.holding c.holding z.holding at_holding at_c sum4 long4 refl k.counts);
        alone = alone_none (slice_set vs other z) (λ i u h is. elim (at_set vs other i z u h) [
          | inl q ↦ (let y : false ≡ u.holding.alone = ap (λ (y : V). y.holding.alone) q.1 in let y' : true ≡ false = sym is ∙ sym y in cc)
          | inr q ↦ nobody s.views id v c at alive refl k.alone i u q.1 is
        ]);
        family = subst (Family k.dealt) (sym sts) (family_join k.dealt (map holding_of s.views) id other v.holding w.holding c.holding z.holding at_holding at_holding' differ
            ma (λ x. into x vn v.holding.made v.holding.drawn (ma x) (λ h. pos_append x v.holding.made w.holding.made (inl h)) (λ h. pos_append x v.holding.drawn w.holding.drawn (inl h)))
            mb (λ x. into x wn w.holding.made w.holding.drawn (mb x) (λ h. pos_append x v.holding.made w.holding.made (inr h)) (λ h. pos_append x v.holding.drawn w.holding.drawn (inr h))) k.family);
        known = subst (Each (IsDealt k.dealt)) (sym sts) (each_set (IsDealt k.dealt) (slice_set (map holding_of s.views) id c.holding) other z.holding (each_set (IsDealt k.dealt) (map holding_of s.views) id c.holding k.known
            (record { made = λ x m. elim (pos_cases x v.holding.made w.holding.made m) [ inl q ↦ (k.known id v.holding at_holding).made x q | inr q ↦ (k.known other w.holding at_holding').made x q ]; counted = max-le (k.known id v.holding at_holding).counted (k.known other w.holding at_holding').counted }))
            (record { made = λ x m. absurd (omega (arith, m)); counted = omega arith }));
      }

  pub tell_allows : (slots id : ℕ) (me : Me (Option B) V) → me.0.place ≡ Out → Allows Kept slots id me 2 (λ n. n) (Tells (step slots 2 0 0 none) me)
  tell_allows slots id me out s k length_is at small =
      let v : V = me.0 in
      let alive : IsAlive v.place = subst IsAlive (sym out) tt in
      let kn = k.knows id v at in
      let n_is : k.dealt ≡ slice_index s.words 2 = sym (ap (λ ws. slice_index ws 2) k.words) in
      let f : Holding E → ℕ = λ st. length (held st) in
      let one : f v.holding ≤ total f (map holding_of s.views) = total_one f (map holding_of s.views) id v.holding (at_map holding_of s.views id v at) in
      let sum : total f (map holding_of s.views) ≡ k.dealt = k.counts.all in
      let most : length (held v.holding) ≤ slice_index s.words 2 = omega (arith, one, sum, n_is) in
      let made : (z : List E) → IsPrefix z k.log → Kept (stepped s 2 (slice_index s.words 2) id me.1 (record v { seen = z; also = [] }) keeps) = λ z p.
      read_kept by events opens fits s 2 id v (record v { seen = z; also = [] }) me.1 (word_2 by events opens fits s k) out out at k
      (record { seen = p; also = (k.log, refl); claims = kn.claims; drawn = kn.drawn; opened = kn.opened; begun = kn.begun; named = kn.named; nothing = kn.nothing; lastly = kn.lastly })
      (alone_set s.views id v (record v { seen = z; also = [] }) at alive (λ h. h) k.alone) refl refl refl (k.known id v.holding (at_map holding_of s.views id v at)) in
      let p = longer_prefix v.seen v.also k.log kn.seen kn.also in
      (record v { seen = longer v.seen v.also; also = [] }, keeps, tt, made (longer v.seen v.also) p.2, (refl, p.0, p.1, most))
