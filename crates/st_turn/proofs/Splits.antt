-- The steps by which seats are made, joined and counted keep the rule.
use Rattle.std.proofs.Common.{ℕ, zero, suc, ◌≡◌, ◌+◌, ◌<◌, ◌≤◌, ◌==◌, ◌⊎◌, inl, inr, Bool, true, false, List, [], ◌∷◌, ◌++◌, map, length, slice_index, slice_set, MatchBool, refl, ap, sym, ◌∙◌, subst, arith}
use Rattle.std.proofs.lemmas.Bool.Decides.{nat_tests}
use Rattle.std.specs.Prelude.{Option, Some, None}
use native.Mathlib.Decide.{ℕ_discrete}
use mathlib.Core.Option.{some, none}
use lib.ListN.{get_elem?}
use prog.Atomic.{either}
use Rattle.atomic_table.specs.Table.{State, Me, Act, keeps, Valid, Allows, Splits, step, stepped, carried_after}
use Rattle.atomic_table.proofs.Lists.{at_snoc, at_longer, at_map}
use Rattle.st_turn.specs.declared.knowledge.Place.TheVariants.{Out, Last}
use Rattle.st_turn.specs.declared.knowledge.Claim.{Claim}
use Rattle.st_turn.specs.declared.knowledge.Knowledge.{Knowledge}
use Rattle.st_turn.specs.Lists.{one_if, times, Each, number_of, Unheard}
use Rattle.st_turn.specs.Parts.{IsIn, IsAlive, place_of, holding_of, held, Tickets, Counts, Family, IsDealt, Knows}
use Rattle.st_turn.specs.Ruling.{AtHome, WithSeat, IsKept}
use Rattle.st_turn.specs.Kinds.{IsOwn, first_of, rest_of, newcomer, left_of, right_of, with_counted, with_drawn, Numbered}
use Rattle.st_turn.proofs.Turns.{word_2, where_set, below_numbers, read_kept}
use Rattle.std.proofs.Common.{length-append}
use Rattle.st_turn.proofs.Totals.{once_itself, map_set_same, map_set, map_snoc, times_append}
use Rattle.st_turn.proofs.PartSteps.{tickets_more, each_set, each_more, counts_draw, counts_split, family_set, family_more, family_draw, known, alone_set, alone_none, nobody}
use Rattle.st_turn.proofs.Logs.{own_counts}

pub first_own : {E : Type 0} (cs : List (Claim E)) → 0 < length cs → (p : ℕ) × IsOwn p cs
first_own [] h = absurd (omega arith)
first_own (c ∷ cs) h = (c.number, refl)

pub pos_append : (x : ℕ) (a b : List ℕ) → (0 < times x a) ⊎ (0 < times x b) → 0 < times x (a ++ b)
pos_append x a b (inl h) = let t = times_append x a b in omega (arith, t, h)
pos_append x a b (inr h) = let t = times_append x a b in omega (arith, t, h)

pub pos_cases : (x : ℕ) (a b : List ℕ) → 0 < times x (a ++ b) → (0 < times x a) ⊎ (0 < times x b)
pos_cases x a b h =
    let t = times_append x a b in
    let go : (m : ℕ) → times x a ≡ m → (0 < times x a) ⊎ (0 < times x b) = elim [
      | zero ↦ (λ e. inr (omega (arith, t, h, e)))
      | suc m ↦ (λ e. inl (omega (arith, e)))
    ] in
    go (times x a) refl

pub pos_self : (x : ℕ) (xs : List ℕ) → 0 < times x (x ∷ xs)
pos_self x xs = let o : one_if (x == x) ≡ 1 = once_itself x in omega (arith, o)

module _ {B E O : Type 0} (by : E → ℕ) (events : B → List E) (opens : B → O) (fits : B → O → Type 0) where
  abbrev V : Type 0
  V = Knowledge E O

  abbrev Kept : State (Option B) V → Type 0
  Kept s = IsKept by events fits s

  -- 8: a number is drawn
  numbered_kept : (s : State (Option B) V) (id : ℕ) (v : V) (c : List (ℕ × Option B)) (n : ℕ) → v.place ≡ Out → get_elem? s.views id ≡ some v → slice_index s.words 2 ≡ n → Kept s → Kept (stepped s 2 (n + 1) id c (with_drawn n v) keeps)
  numbered_kept s id v c n out at found k =
      let w : V = with_drawn n v in
      let n_is : k.dealt ≡ n = sym (ap (λ ws. slice_index ws 2) k.words) ∙ found in
      let alive : IsAlive v.place = subst IsAlive (sym out) tt in
      let ps : map place_of (slice_set s.views id w) ≡ map place_of s.views = map_set_same place_of s.views id v w at refl in
      let sts : map holding_of (slice_set s.views id w) ≡ slice_set (map holding_of s.views) id w.holding = map_set holding_of s.views id w in
      let at_holding : get_elem? (map holding_of s.views) id ≡ some v.holding = at_map holding_of s.views id v at in
      let kn = k.knows id v at in
      let names : List ℕ = map number_of v.holding.claims in
      let own = first_own v.holding.claims (kn.named alive) in
      let own_in : 0 < times own.0 names = own_counts by own.0 v.holding.claims own.1 in
      let below : own.0 < k.dealt = below_numbers by events opens fits s id v own.0 at (pos_append own.0 names v.holding.drawn (inl own_in)) k in
      let c0 : Counts (n + 1) (slice_set (map holding_of s.views) id w.holding) = subst (λ m. Counts (m + 1) (slice_set (map holding_of s.views) id (with_drawn m v).holding)) n_is (counts_draw k.dealt (map holding_of s.views) id v.holding (with_drawn k.dealt v).holding at_holding
      (λ x. let a = times_append x names (k.dealt ∷ v.holding.drawn) in let b = times_append x names v.holding.drawn in omega (arith, a, b))
      (let a : length (names ++ k.dealt ∷ v.holding.drawn) ≡ length names + length (k.dealt ∷ v.holding.drawn) = length-append names (k.dealt ∷ v.holding.drawn) in let b : length (names ++ v.holding.drawn) ≡ length names + length v.holding.drawn = length-append names v.holding.drawn in omega (arith, a, b)) k.counts) in
      let f0 : Family (n + 1) (slice_set (map holding_of s.views) id w.holding) = subst (λ m. Family (m + 1) (slice_set (map holding_of s.views) id (with_drawn m v).holding)) n_is (family_draw k.dealt own.0 (map holding_of s.views) id v.holding (with_drawn k.dealt v).holding at_holding below own_in
      (pos_append k.dealt names (v.holding.made ++ k.dealt ∷ v.holding.drawn) (inr (pos_append k.dealt v.holding.made (k.dealt ∷ v.holding.drawn) (inr (pos_self k.dealt v.holding.drawn)))))
      (λ x h. h)
      (λ x h. elim (pos_cases x names (v.holding.made ++ v.holding.drawn) h) [
        | inl a ↦ pos_append x names (v.holding.made ++ k.dealt ∷ v.holding.drawn) (inl a)
        | inr a ↦ elim (pos_cases x v.holding.made v.holding.drawn a) [
          | inl b ↦ pos_append x names (v.holding.made ++ k.dealt ∷ v.holding.drawn) (inr (pos_append x v.holding.made (k.dealt ∷ v.holding.drawn) (inl b)))
          | inr b ↦ pos_append x names (v.holding.made ++ k.dealt ∷ v.holding.drawn) (inr (pos_append x v.holding.made (k.dealt ∷ v.holding.drawn) (inr (let q : times x (k.dealt ∷ v.holding.drawn) ≡ one_if (x == k.dealt) + times x v.holding.drawn = refl in omega (arith, b)))))
        ]
      ]) k.family) in
      record {
        ticket = k.ticket;
        serving = k.serving;
        dealt = n + 1;
        log = k.log;
        opening = k.opening;
        words = ap (λ ws. slice_set ws 2 (n + 1)) k.words;
        few = k.few;
        one = k.one;
        tickets = subst (Tickets k.ticket k.serving) (sym ps) k.tickets;
        book = where_set by events opens fits s (slice_set s.words 2 (n + 1)) k.log k.opening id v w at (λ h. subst IsIn out h) (λ h. subst IsIn out h) k.book;
        knows = each_set (Knows by k.log k.opening) s.views id w k.knows (record { seen = kn.seen; also = kn.also; claims = kn.claims; drawn = (k.unheard n (omega (arith, n_is)), kn.drawn); opened = kn.opened; begun = kn.begun; named = kn.named; nothing = λ a. absurd (a alive); lastly = kn.lastly });
        unheard = λ x le. k.unheard x (omega (arith, le, n_is));
        counts = subst (Counts (n + 1)) (sym sts) c0;
        alone = alone_set s.views id v w at alive (λ h. h) k.alone;
        family = subst (Family (n + 1)) (sym sts) f0;
        known = subst (Each (IsDealt (n + 1))) (sym sts) (each_set (IsDealt (n + 1)) (map holding_of s.views) id w.holding (λ i st h. let d = k.known i st h in record { made = λ x m. let q = d.made x m in omega (arith, q, n_is); counted = let q = d.counted in omega (arith, q, n_is) }) (let d = k.known id v.holding at_holding in record { made = λ x m. let q = d.made x m in omega (arith, q, n_is); counted = omega arith }));
      }

  pub number_allows : (slots id : ℕ) (me : Me (Option B) V) (old : ℕ) → me.0.place ≡ Out → Allows Kept slots id me 2 (λ n. either (n == old) (old + 1) n) (Numbered (step slots 2 old (old + 1) none) me)
  number_allows slots id me old out s k one at small =
      let n : ℕ = slice_index s.words 2 in
      let Goal : Bool → Type 0 = λ b. (w : V) × (a : Act (Option B)) × Valid s.homes me.1 a × Kept (stepped s 2 (either b (old + 1) n) id me.1 w a)
      × ((me.0.holding.counted ≤ n) × (let after : Me (Option B) V = (w, carried_after me.1 a) in let drew : Me (Option B) V = (with_drawn n me.0, me.1) in let missed : Me (Option B) V = (with_counted n me.0, me.1) in MatchBool b (after ≡ drew) (after ≡ missed))) in
      let kn = k.knows id me.0 at in
      let n_is : k.dealt ≡ n = sym (ap (λ ws. slice_index ws 2) k.words) in
      let dealt_v = k.known id me.0.holding (at_map holding_of s.views id me.0 at) in
      let later : me.0.holding.counted ≤ n = let q = dealt_v.counted in omega (arith, q, n_is) in
      let counted_n : n ≤ k.dealt = omega (arith, n_is) in
      let alive : IsAlive me.0.place = subst IsAlive (sym out) tt in
      let cases : (b : Bool) → (n == old) ≡ b → Goal b = elim [
        | true ↦ (λ e.
            let same : n ≡ old = grind (arith, nat_tests) in
            let kept : Kept (stepped s 2 (n + 1) id me.1 (with_drawn n me.0) keeps) = numbered_kept s id me.0 me.1 n out at refl k in
            (with_drawn n me.0, keeps, tt, subst (λ m. Kept (stepped s 2 (m + 1) id me.1 (with_drawn n me.0) keeps)) same kept, (later, refl)))
        | false ↦ (λ e.
            let w : V = with_counted n me.0 in
            let kept : Kept (stepped s 2 n id me.1 w keeps) = read_kept by events opens fits s 2 id me.0 w me.1 (word_2 by events opens fits s k) out out at k
            (record { seen = kn.seen; also = kn.also; claims = kn.claims; drawn = kn.drawn; opened = kn.opened; begun = kn.begun; named = kn.named; nothing = kn.nothing; lastly = kn.lastly })
            (alone_set s.views id me.0 w at alive (λ h. h) k.alone) refl refl refl (record { made = dealt_v.made; counted = counted_n }) in
            (w, keeps, tt, kept, (later, refl)))
      ] in
      cases (n == old) refl

  -- 6: a seat is cut in two
  abbrev halved : V → ℕ → V
  halved v d = record v { holding = record v.holding { drawn = []; made = v.holding.made ++ d ∷ []; alone = false } }

  split_kept : (s : State (Option B) V) (id : ℕ) (v : V) (d : ℕ) (o : O) → v.place ≡ Out → v.holding.drawn ≡ d ∷ [] → v.opening ≡ Some o → get_elem? s.views id ≡ some v → Kept s
      → Kept (record { words = s.words; homes = s.homes; views = slice_set s.views id (halved v d) ++ newcomer v (d ∷ []) ∷ [] })
  split_kept s id v d o out drawn opening at k =
      let w : V = halved v d in
      let a : V = newcomer v (d ∷ []) in
      let alive : IsAlive v.place = subst IsAlive (sym out) tt in
      let kn = k.knows id v at in
      let names : List ℕ = map number_of v.holding.claims in
      let at_holding : get_elem? (map holding_of s.views) id ≡ some v.holding = at_map holding_of s.views id v at in
      let ps : map place_of (slice_set s.views id w ++ a ∷ []) ≡ map place_of s.views ++ Out ∷ [] = map_snoc place_of (slice_set s.views id w) a ∙ ap (λ l. l ++ Out ∷ []) (map_set_same place_of s.views id v w at refl) in
      let sts : map holding_of (slice_set s.views id w ++ a ∷ []) ≡ slice_set (map holding_of s.views) id w.holding ++ a.holding ∷ [] = map_snoc holding_of (slice_set s.views id w) a ∙ ap (λ l. l ++ a.holding ∷ []) (map_set holding_of s.views id w) in
      let not_none : k.opening ≡ None → ⊥ = λ e. let q : v.opening ≡ k.opening = kn.opened alive in let z : Some o ≡ None = sym opening ∙ (q ∙ e) in cc in
      let old : held v.holding ≡ names ++ d ∷ [] = ap (λ l. names ++ l) drawn in
      let unheard_d : Unheard by k.log (d ∷ []) = subst (Unheard by k.log) drawn kn.drawn in
      let book0 = where_set by events opens fits s s.words k.log k.opening id v w at (λ h. subst IsIn out h) (λ h. subst IsIn out h) k.book in
      let known_old : (x : ℕ) → 0 < times x (known v.holding) → 0 < times x (known w.holding) = λ x h.
      elim (pos_cases x names (v.holding.made ++ v.holding.drawn) h) [
        | inl q ↦ pos_append x names ((v.holding.made ++ d ∷ []) ++ []) (inl q)
        | inr q ↦ pos_append x names ((v.holding.made ++ d ∷ []) ++ []) (inr (pos_append x (v.holding.made ++ d ∷ []) [] (inl (subst (λ l. 0 < times x (v.holding.made ++ l)) drawn q))))
      ] in
      let d_in : 0 < times d (held v.holding) = subst (λ l. 0 < times d l) (sym old) (pos_append d names (d ∷ []) (inr (pos_self d []))) in
      let dealt_v = k.known id v.holding at_holding in
      let d_below : d < k.dealt = below_numbers by events opens fits s id v d at d_in k in
      let made_w : (x : ℕ) → 0 < times x w.holding.made → x < k.dealt = λ x m. elim (pos_cases x v.holding.made (d ∷ []) m) [
        | inl q ↦ dealt_v.made x q
        | inr q ↦ elim (ℕ_discrete x d) [ yes e ↦ omega (arith, d_below, e) | no ne ↦ absurd (let b : (x == d) ≡ false = grind (arith, nat_tests) in let b' : one_if (x == d) ≡ 0 = ap one_if b in omega (arith, q, b')) ]
      ] in
      record {
        ticket = k.ticket;
        serving = k.serving;
        dealt = k.dealt;
        log = k.log;
        opening = k.opening;
        words = k.words;
        few = k.few;
        one = k.one;
        tickets = subst (Tickets k.ticket k.serving) (sym ps) (tickets_more k.ticket k.serving (map place_of s.views) Out (λ m h. h) k.tickets);
        book = elim book0 [
          | AtHome x home is fit nobody_in ↦ AtHome x home is fit (λ j p h in'. let e : get_elem? (map place_of s.views ++ Out ∷ []) j ≡ some p = ap (λ l. get_elem? l j) (sym ps) ∙ h in
              elim (at_snoc (map place_of s.views) Out p j e) [ inl q ↦ nobody_in j p (ap (λ l. get_elem? l j) (map_set_same place_of s.views id v w at refl) ∙ q) in' | inr q ↦ subst IsIn (sym q) in' ])
          | WithSeat i x hx x_in seen others ↦ WithSeat i x (at_longer (slice_set s.views id w) (a ∷ []) i x hx) x_in seen (λ j p h in'. let e : get_elem? (map place_of s.views ++ Out ∷ []) j ≡ some p = ap (λ l. get_elem? l j) (sym ps) ∙ h in
              elim (at_snoc (map place_of s.views) Out p j e) [ inl q ↦ others j p (ap (λ l. get_elem? l j) (map_set_same place_of s.views id v w at refl) ∙ q) in' | inr q ↦ absurd (subst IsIn (sym q) in') ])
        ];
        knows = each_more (Knows by k.log k.opening) (slice_set s.views id w) a (each_set (Knows by k.log k.opening) s.views id w k.knows (record { seen = kn.seen; also = kn.also; claims = kn.claims; drawn = tt; opened = kn.opened; begun = λ q e. absurd (not_none e); named = kn.named; nothing = λ q. absurd (q alive); lastly = λ q. let z : Out ≡ Last = sym out ∙ q in absurd cc }))
            (record { seen = kn.seen; also = (k.log, refl); claims = unheard_d; drawn = tt; opened = λ q. kn.opened alive; begun = λ q e. absurd (not_none e); named = λ q. omega arith; nothing = λ q. absurd (q tt); lastly = λ q. absurd cc });
        unheard = k.unheard;
        counts = subst (Counts k.dealt) (sym sts) (counts_split k.dealt (map holding_of s.views) id v.holding w.holding a.holding at_holding
            (λ x. let e : times x (held v.holding) ≡ times x (names ++ d ∷ []) = ap (times x) old in let f = times_append x names (d ∷ []) in let g = times_append x names [] in omega (arith, e, f, g))
            (let e : length (held v.holding) ≡ length (names ++ d ∷ []) = ap (length {A = ℕ}) old in let f : length (names ++ d ∷ []) ≡ length names + length (d ∷ []) = length-append names (d ∷ []) in let g : length (names ++ []) ≡ length names + length {A = ℕ} [] = length-append names [] in omega (arith, e, f, g)) k.counts);
        alone = alone_none (slice_set s.views id w ++ a ∷ []) (λ i u h is. elim (at_snoc (slice_set s.views id w) a u i h) [
          | inl q ↦ nobody s.views id v w at alive refl k.alone i u q is
          | inr q ↦ (let z : false ≡ u.holding.alone = ap (λ (y : V). y.holding.alone) q in let y : true ≡ false = sym is ∙ sym z in cc)
        ]);
        family = subst (Family k.dealt) (sym sts) (family_more k.dealt (slice_set (map holding_of s.views) id w.holding) a.holding (family_set k.dealt (map holding_of s.views) id v.holding w.holding at_holding (λ x h. h) known_old k.family));
        known = subst (Each (IsDealt k.dealt)) (sym sts) (each_more (IsDealt k.dealt) (slice_set (map holding_of s.views) id w.holding) a.holding (each_set (IsDealt k.dealt) (map holding_of s.views) id w.holding k.known (record { made = made_w; counted = dealt_v.counted })) (record { made = λ x m. absurd (omega (arith, m)); counted = dealt_v.counted }));
      }

  pub split_keeps : (id : ℕ) (v : V) (d : ℕ) (o : O) → v.place ≡ Out → v.holding.drawn ≡ d ∷ [] → v.opening ≡ Some o → Splits Kept id v (left_of v) (right_of v)
  split_keeps id v d o out drawn opening s k at =
      let e : record { words = s.words; homes = s.homes; views = slice_set s.views id (halved v d) ++ newcomer v (d ∷ []) ∷ [] } ≡ record { words = s.words; homes = s.homes; views = slice_set s.views id (left_of v) ++ right_of v ∷ [] }
      = λ x. record { words = s.words; homes = s.homes; views = slice_set s.views id (record v { holding = record v.holding { drawn = rest_of (sym drawn x); made = v.holding.made ++ first_of (sym drawn x); alone = false } }) ++ newcomer v (sym drawn x) ∷ [] } in
      subst Kept e (split_kept s id v d o out drawn opening at k)
