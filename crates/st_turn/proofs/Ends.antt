-- The only seat takes the book, the table is closed, and the table at the start.
use Rattle.std.proofs.Common.{ℕ, zero, suc, ◌≡◌, ◌≢◌, ◌+◌, ◌<◌, ◌==◌, ◌⊎◌, inl, inr, Bool, true, false, List, [], ◌∷◌, map, slice_index, slice_set, refl, ap, sym, ◌∙◌, subst, arith, length-set}
use Rattle.std.proofs.lemmas.Bool.Decides.{nat_tests}
use Rattle.std.specs.Prelude.{Option, Some, None, nat_lt}
use native.Mathlib.Decide.{ℕ_discrete}
use mathlib.Core.Option.{some, none, some-ne-none, some-injective}
use mathlib.Core.List.{IsPrefix}
use lib.ListN.{get_elem?}
use Rattle.atomic_table.specs.Table.{State, Me, takes, Allows, step, stepped, Final, Seen}
use Rattle.atomic_table.proofs.Lists.{at_set, set_here, set_again, at_map}
use Rattle.st_turn.specs.declared.knowledge.Place.{Place}
use Rattle.st_turn.specs.declared.knowledge.Place.TheVariants.{Out, Last}
use Rattle.st_turn.specs.declared.knowledge.Holding.{Holding}
use Rattle.st_turn.specs.declared.knowledge.Knowledge.{Knowledge}
use Rattle.st_turn.specs.Lists.{one_if, times, total, Each, told_by, Account}
use Rattle.st_turn.specs.Parts.{Has, IsIn, IsAlive, place_of, holding_of, held, Tickets, Counts, Family, IsDealt, Knows}
use Rattle.st_turn.specs.Ruling.{log_of, FitsIn, AtHome, WithSeat, IsKept, blank_view}
use Rattle.st_turn.specs.Seated.{IsOpen}
use Rattle.st_turn.specs.Kinds.{Found, TakesLast}
use Rattle.st_turn.proofs.Turns.{word_2, alive_in}
use Rattle.st_turn.proofs.Totals.{inside, total_alone, map_set_same, map_set, unmap}
use Rattle.st_turn.proofs.PartSteps.{tickets_idle, each_set, alone_set}
use Rattle.st_turn.proofs.Totals.{below_more}
use Rattle.st_turn.proofs.Logs.{prefix_self}

only : {A : Type 0} (a : A) (i : ℕ) (b : A) → get_elem? (a ∷ []) i ≡ some b → (i ≡ 0) × (a ≡ b)
only a zero b h = (refl, some-injective a b h)
only a (suc i) b h = absurd (some-ne-none b (sym h))

module _ {B E O : Type 0} (by : E → ℕ) (events : B → List E) (opens : B → O) (fits : B → O → Type 0) where
  abbrev V : Type 0
  V = Knowledge E O

  abbrev Kept : State (Option B) V → Type 0
  Kept s = IsKept by events fits s

  -- the only seat finds the book at home
  pub last_home : (s : State (Option B) V) (id : ℕ) (v : V) → v.place ≡ Out → v.holding.alone ≡ true → get_elem? s.views id ≡ some v → (k : Kept s) → (x : Option B) × (get_elem? s.homes 0 ≡ some (some x)) × (k.log ≡ log_of events x) × FitsIn fits k.opening x × ((i : ℕ) (p : Place) → get_elem? (map place_of s.views) i ≡ some p → IsIn p → ⊥)
  last_home s id v out is at k =
      elim k.book [
        | AtHome x home log fit nobody_in ↦ (x, home, log, fit, nobody_in)
        | WithSeat i x hx x_in seen others ↦ absurd (elim (ℕ_discrete i id) [
          | yes e ↦ (let same : x ≡ v = some-injective x v (sym hx ∙ (ap (get_elem? s.views) e ∙ at)) in let q : IsIn v.place = subst (λ (z : V). IsIn z.place) same x_in in subst IsIn out q)
          | no ne ↦ k.alone id i v x at hx is ne (alive_in by events opens fits x.place x_in)
        ])
      ]

  -- each event is of a number that the only seat has
  last_mine : (s : State (Option B) V) (id : ℕ) (v : V) → v.holding.alone ≡ true → get_elem? s.views id ≡ some v → (k : Kept s) → (y : ℕ) → (0 < times y (held v.holding)) ⊎ (told_by by y k.log ≡ [])
  last_mine s id v is at k y =
      let f : Holding E → ℕ = λ st. times y (held st) in
      let none_else : (j : ℕ) (st : Holding E) → get_elem? (map holding_of s.views) j ≡ some st → j ≢ id → f st ≡ 0 = λ j st h ne.
      let u = unmap holding_of s.views j st h in
      let dead : IsAlive u.0.place → ⊥ = k.alone id j v u.0 at u.1 is ne in
      let none' : held u.0.holding ≡ [] = (k.knows j u.0 u.1).nothing dead in
      subst (λ (q : Holding E). times y (held q) ≡ 0) u.2 (ap (times y) none') in
      let alone : total f (map holding_of s.views) ≡ f v.holding = total_alone f (map holding_of s.views) id v.holding (at_map holding_of s.views id v at) none_else in
      let once : total f (map holding_of s.views) ≡ one_if (nat_lt y k.dealt) = k.counts.once y in
      let go : (b : Bool) → nat_lt y k.dealt ≡ b → (0 < times y (held v.holding)) ⊎ (told_by by y k.log ≡ []) = elim [
        | true ↦ (λ e. inl (let o : one_if (nat_lt y k.dealt) ≡ 1 = ap one_if e in omega (arith, alone, once, o)))
        | false ↦ (λ e. inr (k.unheard y (grind (arith, nat_tests))))
      ] in
      go (nat_lt y k.dealt) refl

  pub take_last_allows : (slots id : ℕ) (me : Me (Option B) V) → me.0.place ≡ Out → me.0.holding.alone ≡ true → Allows Kept slots id me 2 (λ n. n) (TakesLast by events fits (step slots 2 0 0 none) me)
  take_last_allows slots id me out is s k one at small =
      let v : V = me.0 in
      let n : ℕ = slice_index s.words 2 in
      let alive : IsAlive v.place = subst IsAlive (sym out) tt in
      let kn = k.knows id v at in
      let r = last_home s id v out is at k in
      let x : Option B = r.0 in
      let w : V = record v { place = Last; seen = log_of events x } in
      let ws : slice_set s.words 2 n ≡ s.words = set_again s.words 2 n (word_2 by events opens fits s k) in
      let ps : map place_of (slice_set s.views id w) ≡ slice_set (map place_of s.views) id Last = map_set place_of s.views id w in
      let sts : map holding_of (slice_set s.views id w) ≡ map holding_of s.views = map_set_same holding_of s.views id v w at refl in
      let whole : IsPrefix (log_of events x) k.log = subst (λ l. IsPrefix l k.log) r.2 (prefix_self k.log) in
      let kept : Kept (stepped s 2 n id me.1 w (takes 0 x)) = record {
        ticket = k.ticket;
        serving = k.serving;
        dealt = k.dealt;
        log = k.log;
        opening = k.opening;
        words = ws ∙ k.words;
        few = k.few;
        one = length-set s.homes 0 none ∙ k.one;
        tickets = subst (Tickets k.ticket k.serving) (sym ps) (tickets_idle k.ticket k.serving (map place_of s.views) id Last (λ m h. h) k.tickets);
        book = WithSeat id w (set_here s.views id w (inside s.views id v at)) tt (sym r.2) (λ j p h in'. let e : get_elem? (slice_set (map place_of s.views) id Last) j ≡ some p = ap (λ l. get_elem? l j) (sym ps) ∙ h in
            elim (at_set (map place_of s.views) id j Last p e) [ inl q ↦ q.0 | inr q ↦ absurd (r.4 j p q.1 in') ]);
        knows = each_set (Knows by k.log k.opening) s.views id w k.knows (record { seen = whole; also = kn.also; claims = kn.claims; drawn = kn.drawn; opened = λ a. kn.opened alive; begun = λ a. kn.begun alive; named = λ a. kn.named alive; nothing = λ a. absurd (a tt); lastly = λ q. is });
        unheard = k.unheard;
        counts = subst (Counts k.dealt) (sym sts) k.counts;
        alone = alone_set s.views id v w at alive (λ h. h) k.alone;
        family = subst (Family k.dealt) (sym sts) k.family;
        known = subst (Each (IsDealt k.dealt)) (sym sts) k.known;
      } in
      let has : Found by events fits v x = record {
        seen = subst (IsPrefix v.seen) r.2 kn.seen;
        claims = subst (λ l. Account by l v.holding.claims) r.2 kn.claims;
        fitting = subst (λ o. FitsIn fits o x) (sym (kn.opened alive)) r.3;
      } in
      (w, takes 0 x, r.1, kept, (x, refl, has, λ y. subst (λ l. (0 < times y (held v.holding)) ⊎ (told_by by y l ≡ [])) r.2 (last_mine s id v is at k y)))

  -- the closed table's slot has the book
  pub closing : (id : ℕ) (v : V) (ws : List ℕ) (xs : List (Option B)) → v.place ≡ Out → v.holding.alone ≡ true → Final (Seen Kept id v) ws xs
      → (x : Option B) × (get_elem? xs 0 ≡ some x) × Found by events fits v x × ((y : ℕ) → (0 < times y (held v.holding)) ⊎ (told_by by y (log_of events x) ≡ []))
  closing id v ws xs out is f =
      let s : State (Option B) V = f.0 in
      let k : Kept s = f.1.0 in
      let at : get_elem? s.views id ≡ some v = f.1.1 in
      let alive : IsAlive v.place = subst IsAlive (sym out) tt in
      let kn = k.knows id v at in
      let r = last_home s id v out is at k in (
        r.0,
        f.4 0 r.0 r.1,
        record { seen = subst (IsPrefix v.seen) r.2 kn.seen; claims = subst (λ l. Account by l v.holding.claims) r.2 kn.claims; fitting = subst (λ o. FitsIn fits o r.0) (sym (kn.opened alive)) r.3 },
        λ y. subst (λ l. (0 < times y (held v.holding)) ⊎ (told_by by y l ≡ [])) r.2 (last_mine s id v is at k y),
      )

  -- the table at the start
  pub first_kept : Kept (record { words = 0 ∷ 0 ∷ 1 ∷ []; homes = some None ∷ []; views = blank_view ∷ [] })
  first_kept =
      let below : (x : ℕ) → one_if (x == 0) ≡ one_if (nat_lt x 1) = λ x. let b : one_if (nat_lt x 0) + one_if (x == 0) ≡ one_if (nat_lt x 1) = below_more x 0 in let z : nat_lt x 0 ≡ false = grind (arith, nat_tests) in let z' : one_if (nat_lt x 0) ≡ 0 = ap one_if z in omega (arith, b, z') in
      record {
        ticket = 0;
        serving = 0;
        dealt = 1;
        log = [];
        opening = None;
        words = refl;
        few = omega arith;
        one = refl;
        tickets = record {
          order = omega arith;
          between = λ i p t h has. let o = only Out i p h in absurd (subst (Has t) (sym o.1) has);
          apart = λ i j p q t hi hj has has'. (only Out i p hi).0 ∙ sym (only Out j q hj).0;
          turn = λ i p t h is_in has. let o = only Out i p h in absurd (subst IsIn (sym o.1) is_in);
        };
        book = AtHome None refl refl tt (λ i p h in'. let o = only Out i p h in subst IsIn (sym o.1) in');
        knows = λ i v h. let o = only blank_view i v h in subst (Knows by [] None) o.1 (record { seen = ([], refl); also = ([], refl); claims = (refl, tt); drawn = tt; opened = λ q. refl; begun = λ q e. refl; named = λ q. omega arith; nothing = λ q. absurd (q tt); lastly = λ q. absurd cc });
        unheard = λ x le. refl;
        counts = record { once = λ x. let b = below x in omega (arith, b); all = refl };
        alone = λ i j a b hi hj is ne. absurd (ne ((only blank_view j b hj).0 ∙ sym (only blank_view i a hi).0));
        family = λ x pos lt. absurd (omega (arith, pos, lt));
        known = λ i st h. let o = only (blank_view {E = E} {O = O}).holding i st h in subst (IsDealt 1) o.1 (record { made = λ x m. absurd (omega (arith, m)); counted = omega arith });
      }

  -- before the first book there is none
  pub closed_empty : (id : ℕ) (v : V) (ws : List ℕ) (xs : List (Option B)) (x : Option B) → v.place ≡ Out → v.holding.alone ≡ true → v.opening ≡ None → Final (Seen Kept id v) ws xs → get_elem? xs 0 ≡ some x → x ≡ None
  closed_empty id v ws xs x out is unset f at =
      let r = closing id v ws xs out is f in
      let same : r.0 ≡ x = some-injective r.0 x (sym r.1 ∙ at) in
      let found : Found by events fits v x = subst (Found by events fits v) same r.2 in
      let no : (z : Option B) → FitsIn fits None z → z ≡ None = elim [ None ↦ (λ fit. refl) | Some b ↦ (λ fit. absurd fit) ] in
      no x (subst (λ o. FitsIn fits o x) unset found.fitting)

  -- so the book is there
  pub closed_book : (id : ℕ) (v : V) (ws : List ℕ) (xs : List (Option B)) (x : Option B) → v.place ≡ Out → v.holding.alone ≡ true → IsOpen v.opening → Final (Seen Kept id v) ws xs → get_elem? xs 0 ≡ some x
      → (b : B) × (x ≡ Some b) × Found by events fits v (Some b) × ((y : ℕ) → (0 < times y (held v.holding)) ⊎ (told_by by y (events b) ≡ []))
  closed_book id v ws xs x out is opened f at =
      let r = closing id v ws xs out is f in
      let same : r.0 ≡ x = some-injective r.0 x (sym r.1 ∙ at) in
      let Mine : Option B → Type 0 = λ z. (y : ℕ) → (0 < times y (held v.holding)) ⊎ (told_by by y (log_of events z) ≡ []) in
      let found : Found by events fits v x = subst (Found by events fits v) same r.2 in
      let mine : Mine x = subst Mine same r.3 in
      let fits_it : (o : Option O) (z : Option B) → IsOpen o → FitsIn fits o z → (b : B) × (z ≡ Some b) = elim [
        | None ↦ (λ z h fit. absurd h)
        | Some q ↦ elim [ None ↦ (λ h fit. absurd fit) | Some b ↦ (λ h fit. (b, refl)) ]
      ] in
      let b = fits_it v.opening x opened found.fitting in
      (b.0, b.1, subst (Found by events fits v) b.1 found, subst Mine b.1 mine)
