-- The steps of the turn keep the rule.
use Rattle.std.proofs.Common.{ℕ, ◌≡◌, ◌≢◌, ◌+◌, ◌<◌, ◌≤◌, ◌==◌, ◌%◌, ◌^◌, ◌⊎◌, inl, inr, Bool, true, false, List, [], ◌∷◌, ◌++◌, map, drop, length, slice_index, slice_set, MatchBool, refl, ap, sym, ◌∙◌, subst, arith, length-set}
use Rattle.std.proofs.lemmas.Bool.Decides.{nat_tests}
use Rattle.std.proofs.Math.Nat.{mod-eq_of_lt}
use Rattle.std.specs.Prelude.{Option, Some, None, unwrap_or, nat_lt}
use mathlib.Core.Option.{some, none, some-injective}
use mathlib.Core.List.{IsPrefix}
use lib.ListN.{get_elem?}
use prog.Atomic.{either}
use Rattle.atomic_table.specs.Table.{State, Me, Act, keeps, takes, gives, Valid, Allows, step, stepped, carried_after, rest}
use Rattle.atomic_table.proofs.Lists.{at_set, set_else, set_here, set_again, at_map}
use Rattle.st_turn.specs.declared.knowledge.Place.{Place}
use Rattle.st_turn.specs.declared.knowledge.Place.TheVariants.{Out, Waiting, InTurn, Last, Spent}
use Rattle.st_turn.specs.declared.knowledge.Holding.{Holding}
use Rattle.st_turn.specs.declared.knowledge.Knowledge.{Knowledge}
use Rattle.st_turn.specs.Lists.{one_if, times, total, Each, told_by, AreBy, number_of, Account, grown}
use Rattle.st_turn.specs.Parts.{IsIn, IsAlive, place_of, holding_of, claimed, held, Tickets, Counts, Family, IsDealt, Alone, Knows}
use Rattle.st_turn.specs.Ruling.{log_of, FitsIn, Where, AtHome, WithSeat, IsKept}
use Rattle.st_turn.specs.Kinds.{IsOwn, Drew, Found, Enters, or_opens, after_turn, Leaves, MayLeave}
use Rattle.st_turn.proofs.Totals.{inside, total_one, total_two, map_set_same, map_set, times_append, one_if_most, below_of}
use Rattle.st_turn.proofs.PartSteps.{tickets_draw, tickets_enter, tickets_idle, tickets_leave, each_set, counts_set, family_set, known, alone_set}
use Rattle.st_turn.proofs.Logs.{prefix_grows, prefix_self, drop_front, told_other, own_grows, unheard_grows, knows_grows, grown_numbers, grown_long, own_counts}
use Rattle.std.proofs.lemmas.List.Elements.{filter-append}

abbrev held_first : {B : Type 0} → B → List (ℕ × Option B) → B
held_first d [] = d
held_first d (x ∷ xs) = unwrap_or x.1 d

alive_waiting : (p : Place) (n : ℕ) → p ≡ Waiting n → IsAlive p
alive_waiting p n e = subst IsAlive (sym e) tt

module _ {B E O : Type 0} (by : E → ℕ) (events : B → List E) (opens : B → O) (fits : B → O → Type 0) where
  abbrev V : Type 0
  V = Knowledge E O

  abbrev Kept : State (Option B) V → Type 0
  Kept s = IsKept by events fits s

  -- a step that changes neither the word nor the view keeps the rule
  pub same_kept : (s : State (Option B) V) (i id : ℕ) (v : V) (c : List (ℕ × Option B)) (n : ℕ) → get_elem? s.words i ≡ some n → get_elem? s.views id ≡ some v → Kept s → Kept (stepped s i n id c v keeps)
  same_kept s i id v c n at_word at k =
      let ws : slice_set s.words i n ≡ s.words = set_again s.words i n at_word in
      let vs : slice_set s.views id v ≡ s.views = set_again s.views id v at in
      let e : s ≡ stepped s i n id c v keeps = λ x. record { words = sym ws x; homes = s.homes; views = sym vs x } in
      subst Kept e k

  word_0 : (s : State (Option B) V) → Kept s → get_elem? s.words 0 ≡ some (slice_index s.words 0)
  word_0 s k = ap (λ ws. get_elem? ws 0) k.words ∙ ap some (sym (ap (λ ws. slice_index ws 0) k.words))

  word_1 : (s : State (Option B) V) → Kept s → get_elem? s.words 1 ≡ some (slice_index s.words 1)
  word_1 s k = ap (λ ws. get_elem? ws 1) k.words ∙ ap some (sym (ap (λ ws. slice_index ws 1) k.words))

  pub word_2 : (s : State (Option B) V) → Kept s → get_elem? s.words 2 ≡ some (slice_index s.words 2)
  word_2 s k = ap (λ ws. get_elem? ws 2) k.words ∙ ap some (sym (ap (λ ws. slice_index ws 2) k.words))

  -- the book stays where it is while a seat that hasn't it changes its view
  pub where_set : (s : State (Option B) V) (ws : List ℕ) (log : List E) (o : Option O) (id : ℕ) (v w : V) → get_elem? s.views id ≡ some v → (IsIn v.place → ⊥) → (IsIn w.place → ⊥) → Where events fits s log o → Where events fits (record { words = ws; homes = s.homes; views = slice_set s.views id w }) log o
  where_set s ws log o id v w at out out' (AtHome x home is fit nobody_in) =
      AtHome x home is fit (λ j p h in'. let e : get_elem? (slice_set (map place_of s.views) id w.place) j ≡ some p = ap (λ l. get_elem? l j) (sym (map_set place_of s.views id w)) ∙ h in
      elim (at_set (map place_of s.views) id j w.place p e) [ inl q ↦ out' (subst IsIn (sym q.1) in') | inr q ↦ nobody_in j p q.1 in' ])
  where_set s ws log o id v w at out out' (WithSeat i x hx is_in seen others) =
      let ne : i ≢ id = λ e. let same : x ≡ v = some-injective x v (sym hx ∙ (ap (get_elem? s.views) e ∙ at)) in out (subst (λ (z : V). IsIn z.place) same is_in) in
      WithSeat i x (set_else s.views id i w ne ∙ hx) is_in seen (λ j p h in'. let e : get_elem? (slice_set (map place_of s.views) id w.place) j ≡ some p = ap (λ l. get_elem? l j) (sym (map_set place_of s.views id w)) ∙ h in
      elim (at_set (map place_of s.views) id j w.place p e) [ inl q ↦ absurd (out' (subst IsIn (sym q.1) in')) | inr q ↦ others j p q.1 in' ])

  -- 1: a ticket is drawn
  drawn_kept : (s : State (Option B) V) (id : ℕ) (v : V) (c : List (ℕ × Option B)) (n : ℕ) → v.place ≡ Out → get_elem? s.views id ≡ some v → slice_index s.words 0 ≡ n → n + 1 < 2 ^ 64 → Kept s → Kept (stepped s 0 (n + 1) id c (record v { place = Waiting n }) keeps)
  drawn_kept s id v c n out at found few k =
      let w : V = record v { place = Waiting n } in
      let n_is : k.ticket ≡ n = sym (ap (λ ws. slice_index ws 0) k.words) ∙ found in
      let alive : IsAlive v.place = subst IsAlive (sym out) tt in
      let ps : map place_of (slice_set s.views id w) ≡ slice_set (map place_of s.views) id (Waiting n) = map_set place_of s.views id w in
      let sts : map holding_of (slice_set s.views id w) ≡ map holding_of s.views = map_set_same holding_of s.views id v w at refl in
      let kn = k.knows id v at in
      record {
        ticket = n + 1;
        serving = k.serving;
        dealt = k.dealt;
        log = k.log;
        opening = k.opening;
        words = ap (λ ws. slice_set ws 0 (n + 1)) k.words;
        few = few;
        one = k.one;
        tickets = subst (Tickets (n + 1) k.serving) (sym ps) (subst (λ m. Tickets (m + 1) k.serving (slice_set (map place_of s.views) id (Waiting m))) n_is (tickets_draw k.ticket k.serving (map place_of s.views) id k.tickets));
        book = where_set s (slice_set s.words 0 (n + 1)) k.log k.opening id v w at (λ h. subst IsIn out h) (λ h. h) k.book;
        knows = each_set (Knows by k.log k.opening) s.views id w k.knows (record { seen = kn.seen; also = kn.also; claims = kn.claims; drawn = kn.drawn; opened = λ a. kn.opened alive; begun = λ a. kn.begun alive; named = λ a. kn.named alive; nothing = λ a. absurd (a tt); lastly = λ q. absurd cc });
        unheard = k.unheard;
        counts = subst (Counts k.dealt) (sym sts) k.counts;
        alone = alone_set s.views id v w at alive (λ h. h) k.alone;
        family = subst (Family k.dealt) (sym sts) k.family;
        known = subst (Each (IsDealt k.dealt)) (sym sts) k.known;
      }

  pub draw_allows : (slots id : ℕ) (me : Me (Option B) V) (old : ℕ) → me.0.place ≡ Out → old + 1 < 2 ^ 64 → Allows Kept slots id me 0 (λ n. either (n == old) (old + 1) n) (Drew (step slots 0 old (old + 1) none) me)
  draw_allows slots id me old out fit s k one at small =
      let n : ℕ = slice_index s.words 0 in
      let Goal : Bool → Type 0 = λ b. (w : V) × (a : Act (Option B)) × Valid s.homes me.1 a × Kept (stepped s 0 (either b (old + 1) n) id me.1 w a)
      × (let after : Me (Option B) V = (w, carried_after me.1 a) in let drew : Me (Option B) V = (record me.0 { place = Waiting n }, me.1) in MatchBool b (after ≡ drew) (after ≡ me)) in
      let cases : (b : Bool) → (n == old) ≡ b → Goal b = elim [
        | true ↦ (λ e.
            let same : n ≡ old = grind (arith, nat_tests) in
            let kept : Kept (stepped s 0 (n + 1) id me.1 (record me.0 { place = Waiting n }) keeps) = drawn_kept s id me.0 me.1 n out at refl (omega (arith, same, fit)) k in
            (record me.0 { place = Waiting n }, keeps, tt, subst (λ m. Kept (stepped s 0 (m + 1) id me.1 (record me.0 { place = Waiting n }) keeps)) same kept, refl))
        | false ↦ (λ e. (me.0, keeps, tt, same_kept s 0 id me.0 me.1 n (word_0 s k) at k, refl))
      ] in
      cases (n == old) refl

  -- 2: the turn has come, and the book is taken
  pub entered_kept : (s : State (Option B) V) (id : ℕ) (me : Me (Option B) V) (n : ℕ) → me.0.place ≡ Waiting n → get_elem? s.views id ≡ some me.0 → slice_index s.words 1 ≡ n → Kept s
      → (x : Option B) × (get_elem? s.homes 0 ≡ some (some x)) × Found by events fits me.0 x × Kept (stepped s 1 n id me.1 (record me.0 { place = InTurn n; seen = log_of events x }) (takes 0 x))
  entered_kept s id me n waits at found k =
      let v : V = me.0 in
      let serving_is : k.serving ≡ n = sym (ap (λ ws. slice_index ws 1) k.words) ∙ found in
      let alive : IsAlive v.place = subst IsAlive (sym waits) tt in
      let at_place : get_elem? (map place_of s.views) id ≡ some (Waiting n) = at_map place_of s.views id v at ∙ ap some waits in
      let kn = k.knows id v at in
      elim k.book [
        | AtHome x home is fit nobody_in ↦ (
            let w : V = record v { place = InTurn n; seen = log_of events x } in
            let ps : map place_of (slice_set s.views id w) ≡ slice_set (map place_of s.views) id (InTurn n) = map_set place_of s.views id w in
            let sts : map holding_of (slice_set s.views id w) ≡ map holding_of s.views = map_set_same holding_of s.views id v w at refl in
            let whole : IsPrefix (log_of events x) k.log = subst (λ l. IsPrefix l k.log) is (prefix_self k.log) in
            let kept : Kept (stepped s 1 n id me.1 w (takes 0 x)) = record {
              ticket = k.ticket;
              serving = n;
              dealt = k.dealt;
              log = k.log;
              opening = k.opening;
              words = ap (λ ws. slice_set ws 1 n) k.words;
              few = k.few;
              one = length-set s.homes 0 none ∙ k.one;
              tickets = subst (Tickets k.ticket n) (sym ps) (subst (λ m. Tickets k.ticket m (slice_set (map place_of s.views) id (InTurn n))) serving_is (tickets_enter k.ticket k.serving (map place_of s.views) id n at_place serving_is k.tickets));
              book = WithSeat id w (set_here s.views id w (inside s.views id v at)) tt (sym is) (λ j p h in'. let e : get_elem? (slice_set (map place_of s.views) id (InTurn n)) j ≡ some p = ap (λ l. get_elem? l j) (sym ps) ∙ h in
                  elim (at_set (map place_of s.views) id j (InTurn n) p e) [ inl q ↦ q.0 | inr q ↦ absurd (nobody_in j p q.1 in') ]);
              knows = each_set (Knows by k.log k.opening) s.views id w k.knows (record { seen = whole; also = kn.also; claims = kn.claims; drawn = kn.drawn; opened = λ a. kn.opened alive; begun = λ a. kn.begun alive; named = λ a. kn.named alive; nothing = λ a. absurd (a tt); lastly = λ q. absurd cc });
              unheard = k.unheard;
              counts = subst (Counts k.dealt) (sym sts) k.counts;
              alone = alone_set s.views id v w at alive (λ h. h) k.alone;
              family = subst (Family k.dealt) (sym sts) k.family;
              known = subst (Each (IsDealt k.dealt)) (sym sts) k.known;
            } in
            let has : Found by events fits v x = record {
              seen = subst (IsPrefix v.seen) is kn.seen;
              claims = subst (λ l. Account by l v.holding.claims) is kn.claims;
              fitting = subst (λ o. FitsIn fits o x) (sym (kn.opened alive)) fit;
            } in
            (x, home, has, kept))
        | WithSeat i x hx is_in seen others ↦ absurd (
            let px : get_elem? (map place_of s.views) i ≡ some x.place = at_map place_of s.views i x hx in
            let go : (p : Place) → x.place ≡ p → IsIn p → ⊥ = elim [
              | Out ↦ (λ h in'. in')
              | Waiting t ↦ (λ h in'. in')
              | InTurn t ↦ (λ h in'.
                  let h' : get_elem? (map place_of s.views) i ≡ some (InTurn t) = px ∙ ap some h in
                  let t_is : t ≡ k.serving = k.tickets.turn i (InTurn t) t h' tt refl in
                  let i_is : i ≡ id = k.tickets.apart i id (InTurn t) (Waiting n) n h' at_place (t_is ∙ serving_is) refl in
                  let same : some (InTurn t) ≡ some (Waiting n) = sym h' ∙ (ap (get_elem? (map place_of s.views)) i_is ∙ at_place) in
                  let same' : InTurn t ≡ Waiting n = some-injective (InTurn t) (Waiting n) same in cc)
              | Last ↦ (λ h in'.
                  let ne : id ≢ i = λ q. let same : some Last ≡ some (Waiting n) = sym (px ∙ ap some h) ∙ (ap (get_elem? (map place_of s.views)) (sym q) ∙ at_place) in let same' : Last ≡ Waiting n = some-injective Last (Waiting n) same in cc in
                  k.alone i id x v hx at ((k.knows i x hx).lastly h) ne alive)
              | Spent ↦ (λ h in'. in')
            ] in
            go x.place refl is_in)
      ]

  pub enter_allows : (slots id : ℕ) (me : Me (Option B) V) (t : ℕ) → me.0.place ≡ Waiting t → Allows Kept slots id me 1 (λ n. n) (Enters by events fits (step slots 1 0 0 none) me)
  enter_allows slots id me t waits s k one at small =
      let n : ℕ = slice_index s.words 1 in
      let Goal : Type 0 = (w : V) × (a : Act (Option B)) × Valid s.homes me.1 a × Kept (stepped s 1 n id me.1 w a) × Enters by events fits (step slots 1 0 0 none) me n (w, carried_after me.1 a) in
      let cases : (b : Bool) → (n == t) ≡ b → Goal = elim [
        | true ↦ (λ e.
            let same : t ≡ n = grind (arith, nat_tests) in
            let waits' : me.0.place ≡ Waiting n = waits ∙ ap Waiting same in
            let r = entered_kept s id me n waits' at refl k in
            (record me.0 { place = InTurn n; seen = log_of events r.0 }, takes 0 r.0, r.1, r.3, (λ h. (r.0, refl, r.2), λ no. absurd (no waits'))))
        | false ↦ (λ e.
            let other : ¬ (me.0.place ≡ Waiting n) = λ h. let same : Waiting n ≡ Waiting t = sym h ∙ waits in let same' : n ≡ t = cc in absurd (let yes : (n == t) ≡ true = grind (arith, nat_tests) in let x : true ≡ false = sym yes ∙ e in cc) in
            (me.0, keeps, tt, same_kept s 1 id me.0 me.1 n (word_1 s k) at k, (λ h. absurd (other h), λ no. refl)))
      ] in
      cases (n == t) refl

  reopen : (l : List E) (o o' : Option O) (u : V) → Knows by l o u → (o ≡ o') ⊎ (IsAlive u.place → ⊥) → Knows by l o' u
  reopen l o o' u k (inl e) = subst (λ z. Knows by l z u) e k
  reopen l o o' u k (inr dead) = record { seen = k.seen; also = k.also; claims = k.claims; drawn = k.drawn; opened = λ a. absurd (dead a); begun = λ a. absurd (dead a); named = k.named; nothing = k.nothing; lastly = k.lastly }

  never_none : (z : Option O) (b : B) → or_opens opens z b ≡ None → ⊥
  never_none (Some o) b e = cc
  never_none None b e = cc

  pub alive_in : (p : Place) → IsIn p → IsAlive p
  alive_in Out h = absurd h
  alive_in (Waiting t) h = absurd h
  alive_in (InTurn t) h = tt
  alive_in Last h = tt
  alive_in Spent h = absurd h

  -- what the seat that has the book knows of it
  holder : (s : State (Option B) V) (id : ℕ) (v : V) → get_elem? s.views id ≡ some v → IsIn v.place → (k : Kept s) → (v.seen ≡ k.log) × ((j : ℕ) (p : Place) → get_elem? (map place_of s.views) j ≡ some p → IsIn p → j ≡ id)
  holder s id v at is_in k =
      elim k.book [
        | AtHome x home is fit nobody_in ↦ absurd (nobody_in id v.place (at_map place_of s.views id v at) is_in)
        | WithSeat i x hx x_in seen others ↦ (
            let i_is : id ≡ i = others id v.place (at_map place_of s.views id v at) is_in in
            let same : x ≡ v = some-injective x v (sym hx ∙ (ap (get_elem? s.views) (sym i_is) ∙ at)) in
            (subst (λ (z : V). z.seen ≡ k.log) same seen, λ j p h in'. others j p h in' ∙ sym i_is))
      ]

  -- a number that the seat has is no other's
  pub others_none : (s : State (Option B) V) (id j : ℕ) (v u : V) (n : ℕ) → get_elem? s.views id ≡ some v → get_elem? s.views j ≡ some u → j ≢ id → 0 < times n (held v.holding) → Kept s → times n (held u.holding) ≡ 0
  others_none s id j v u n at h ne has k =
      let f : Holding E → ℕ = λ st. times n (held st) in
      let two : f v.holding + f u.holding ≤ total f (map holding_of s.views) = total_two f (map holding_of s.views) id j v.holding u.holding (λ e. ne (sym e)) (at_map holding_of s.views id v at) (at_map holding_of s.views j u h) in
      let once : total f (map holding_of s.views) ≡ one_if (nat_lt n k.dealt) = k.counts.once n in
      let most = one_if_most (nat_lt n k.dealt) in
      omega (arith, two, once, most, has)

  pub below_numbers : (s : State (Option B) V) (id : ℕ) (v : V) (n : ℕ) → get_elem? s.views id ≡ some v → 0 < times n (held v.holding) → (k : Kept s) → n < k.dealt
  below_numbers s id v n at has k =
      let f : Holding E → ℕ = λ st. times n (held st) in
      let one : f v.holding ≤ total f (map holding_of s.views) = total_one f (map holding_of s.views) id v.holding (at_map holding_of s.views id v at) in
      let once : total f (map holding_of s.views) ≡ one_if (nat_lt n k.dealt) = k.counts.once n in
      below_of n k.dealt (omega (arith, one, once, has))

  -- 5: the book comes back, with more events of the seat
  back_kept : (s : State (Option B) V) (id : ℕ) (v : V) (b : B) (more : List E) (n : ℕ) → get_elem? s.views id ≡ some v → IsIn v.place → events b ≡ v.seen ++ more → IsOwn n v.holding.claims → AreBy by n more → FitsIn fits (or_opens opens v.opening b) (Some b) → (k : Kept s)
      → (ws : List ℕ) (ticket serving : ℕ) → ws ≡ ticket ∷ serving ∷ k.dealt ∷ [] → ticket < 2 ^ 64 → Tickets ticket serving (slice_set (map place_of s.views) id Out)
      → Kept (record { words = ws; homes = slice_set s.homes 0 (some (Some b)); views = slice_set s.views id (after_turn events opens v b) })
  back_kept s id v b more n at is_in goes own are fit k ws ticket serving words few tickets =
      let w : V = after_turn events opens v b in
      let o : Option O = or_opens opens v.opening b in
      let es : List E = drop (length v.seen) (events b) in
      let es_is : es ≡ more = ap (drop (length v.seen)) goes ∙ drop_front v.seen more in
      let alive : IsAlive v.place = alive_in v.place is_in in
      let hold = holder s id v at is_in k in
      let log_is : events b ≡ k.log ++ more = goes ∙ ap (λ l. l ++ more) hold.0 in
      let kn = k.knows id v at in
      let split_times : times n (held v.holding) ≡ times n (map number_of v.holding.claims) + times n v.holding.drawn = times_append n (map number_of v.holding.claims) v.holding.drawn in
      let mine : 0 < times n (map number_of v.holding.claims) = own_counts by n v.holding.claims own in
      let has : 0 < times n (held v.holding) = omega (arith, split_times, mine) in
      let below : n < k.dealt = below_numbers s id v n at has k in
      let once : times n (map number_of v.holding.claims) ≤ 1 = (
      let f : Holding E → ℕ = λ st. times n (held st) in
      let one : f v.holding ≤ total f (map holding_of s.views) = total_one f (map holding_of s.views) id v.holding (at_map holding_of s.views id v at) in
      let all : total f (map holding_of s.views) ≡ one_if (nat_lt n k.dealt) = k.counts.once n in
      let most = one_if_most (nat_lt n k.dealt) in
      omega (arith, one, all, most, split_times)) in
      let none_drawn : times n v.holding.drawn ≡ 0 = (
      let f : Holding E → ℕ = λ st. times n (held st) in
      let one : f v.holding ≤ total f (map holding_of s.views) = total_one f (map holding_of s.views) id v.holding (at_map holding_of s.views id v at) in
      let all : total f (map holding_of s.views) ≡ one_if (nat_lt n k.dealt) = k.counts.once n in
      let most = one_if_most (nat_lt n k.dealt) in
      omega (arith, one, all, most, split_times, mine)) in
      let settle : (z : Option O) → v.opening ≡ z → (k.opening ≡ or_opens opens z b) ⊎ (k.opening ≡ None) = elim [
        | Some q ↦ (λ e. inl (sym (kn.opened alive) ∙ e))
        | None ↦ (λ e. inr (sym (kn.opened alive) ∙ e))
      ] in
      let settled : (j : ℕ) (u : V) → get_elem? s.views j ≡ some u → j ≢ id → (k.opening ≡ o) ⊎ (IsAlive u.place → ⊥) = λ j u h ne. elim (settle v.opening refl) [
        | inl e ↦ inl e
        | inr e ↦ inr (λ living. k.alone id j v u at h (kn.begun alive e) ne living)
      ] in
      let ps : map place_of (slice_set s.views id w) ≡ slice_set (map place_of s.views) id Out = map_set place_of s.views id w in
      let sts : map holding_of (slice_set s.views id w) ≡ slice_set (map holding_of s.views) id w.holding = map_set holding_of s.views id w in
      let at_holding : get_elem? (map holding_of s.views) id ≡ some v.holding = at_map holding_of s.views id v at in
      let names : map number_of w.holding.claims ≡ map number_of v.holding.claims = grown_numbers by es v.holding.claims in
      let numbers : held w.holding ≡ held v.holding = ap (λ z. z ++ v.holding.drawn) names in
      record {
        ticket = ticket;
        serving = serving;
        dealt = k.dealt;
        log = k.log ++ more;
        opening = o;
        words = words;
        few = few;
        one = length-set s.homes 0 (some (Some b)) ∙ k.one;
        tickets = subst (Tickets ticket serving) (sym ps) tickets;
        book = AtHome (Some b) (set_here s.homes 0 (some (Some b)) (let l = k.one in omega (arith, l))) (sym log_is) fit (λ j p h in'. let e : get_elem? (slice_set (map place_of s.views) id Out) j ≡ some p = ap (λ l. get_elem? l j) (sym ps) ∙ h in
            elim (at_set (map place_of s.views) id j Out p e) [ inl q ↦ subst IsIn (sym q.1) in' | inr q ↦ q.0 (hold.1 j p q.1 in') ]);
        knows = λ j u h. elim (at_set s.views id j w u h) [
          | inl e ↦ subst (Knows by (k.log ++ more) o) e.1 (record {
            seen = subst (λ l. IsPrefix (events b) l) log_is (prefix_self (events b));
            also = prefix_grows v.also k.log more kn.also;
            claims = subst (λ m. Account by (k.log ++ more) (grown m v.holding.claims)) (sym es_is) (own_grows by n k.log more v.holding.claims own once are kn.claims);
            drawn = unheard_grows by n k.log more v.holding.drawn none_drawn are kn.drawn;
            opened = λ a. refl;
            begun = λ a e. absurd (never_none v.opening b e);
            named = λ a. grown_long by es v.holding.claims (kn.named alive);
            nothing = λ a. absurd (a tt);
            lastly = λ q. absurd cc;
          })
          | inr e ↦ reopen (k.log ++ more) k.opening o u (knows_grows by n k.log more k.opening u (others_none s id j v u n at e.1 e.0 has k) are (k.knows j u e.1)) (settled j u e.1 e.0)
        ];
        unheard = λ x le.
            let ne : n ≢ x = λ e. absurd (omega (arith, le, below, e)) in
            let t : told_by by x (k.log ++ more) ≡ told_by by x k.log ++ told_by by x more = filter-append (λ (e : E). by e == x) k.log more in
            let a : told_by by x k.log ≡ [] = k.unheard x le in
            let c : told_by by x more ≡ [] = told_other by n x more ne are in
            t ∙ (ap (λ z. z ++ told_by by x more) a ∙ c);
        counts = subst (Counts k.dealt) (sym sts) (counts_set k.dealt (map holding_of s.views) id v.holding w.holding at_holding (λ x. ap (times x) numbers) (ap (length {A = ℕ}) numbers) k.counts);
        alone = alone_set s.views id v w at alive (λ h. h) k.alone;
        family = subst (Family k.dealt) (sym sts) (family_set k.dealt (map holding_of s.views) id v.holding w.holding at_holding (λ x h. subst (λ l. 0 < times x l) (sym names) h) (λ x h. subst (λ l. 0 < times x (l ++ (v.holding.made ++ v.holding.drawn))) (sym names) h) k.family);
        known = subst (Each (IsDealt k.dealt)) (sym sts) (each_set (IsDealt k.dealt) (map holding_of s.views) id w.holding k.known (let q = k.known id v.holding at_holding in record { made = q.made; counted = q.counted }));
      }

  left_kept : (s : State (Option B) V) (id : ℕ) (v : V) (n : ℕ) (b : B) → v.place ≡ InTurn n → MayLeave by events opens fits v b → get_elem? s.views id ≡ some v → Kept s
      → let m : ℕ = slice_index s.words 1 in (m + 1 < 2 ^ 64) × Kept (stepped s 1 (m + 1) id ((0, Some b) ∷ []) (after_turn events opens v b) gives)
  left_kept s id v n b in_turn may at k =
      let m : ℕ = slice_index s.words 1 in
      let m_is : k.serving ≡ m = sym (ap (λ ws. slice_index ws 1) k.words) in
      let is_in : IsIn v.place = subst IsIn (sym in_turn) tt in
      let hold = holder s id v at is_in k in
      let at_place : get_elem? (map place_of s.views) id ≡ some (InTurn n) = at_map place_of s.views id v at ∙ ap some in_turn in
      let t = tickets_leave k.ticket k.serving (map place_of s.views) id n at_place hold.1 k.tickets in
      let few = k.few in
      let ws : slice_set s.words 1 (m + 1) ≡ k.ticket ∷ (m + 1) ∷ k.dealt ∷ [] = ap (λ l. slice_set l 1 (m + 1)) k.words in
      (omega (arith, t.0, few, m_is), back_kept s id v b may.more may.number at is_in may.goes may.own may.are may.fit k (slice_set s.words 1 (m + 1)) k.ticket (m + 1) ws k.few (subst (λ z. Tickets k.ticket (z + 1) (slice_set (map place_of s.views) id Out)) m_is t.2))

  pub leave_allows : (slots id : ℕ) (me : Me (Option B) V) (n : ℕ) (b : B) → me.0.place ≡ InTurn n → me.1 ≡ (0, Some b) ∷ [] → MayLeave by events opens fits me.0 b → Allows Kept slots id me 1 (λ n. (n + 1) % 2 ^ 64) (Leaves events opens (step slots 1 1 0 none) me)
  leave_allows slots id me n b in_turn held may s k one at small =
      let m : ℕ = slice_index s.words 1 in
      let w : V = after_turn events opens me.0 b in
      let r = left_kept s id me.0 n b in_turn may at k in
      let small' : (m + 1) % 2 ^ 64 ≡ m + 1 = mod-eq_of_lt r.0 in
      let kept : Kept (stepped s 1 ((m + 1) % 2 ^ 64) id me.1 w gives) = rw (small', held) r.1 in
      (w, gives, tt, kept, λ c is. let e = sym held ∙ is in let same : b ≡ c = ap (held_first b) e in λ x. (after_turn events opens me.0 (same x), ap rest held x))

  last_kept : (s : State (Option B) V) (id : ℕ) (v : V) (b : B) → v.place ≡ Last → MayLeave by events opens fits v b → get_elem? s.views id ≡ some v → Kept s → Kept (stepped s 2 (slice_index s.words 2) id ((0, Some b) ∷ []) (after_turn events opens v b) gives)
  last_kept s id v b last may at k =
      let is_in : IsIn v.place = subst IsIn (sym last) tt in
      let ws : slice_set s.words 2 (slice_index s.words 2) ≡ s.words = set_again s.words 2 (slice_index s.words 2) (word_2 s k) in
      back_kept s id v b may.more may.number at is_in may.goes may.own may.are may.fit k (slice_set s.words 2 (slice_index s.words 2)) k.ticket k.serving (ws ∙ k.words) k.few (tickets_idle k.ticket k.serving (map place_of s.views) id Out (λ m h. h) k.tickets)

  pub leave_last_allows : (slots id : ℕ) (me : Me (Option B) V) (b : B) → me.0.place ≡ Last → me.1 ≡ (0, Some b) ∷ [] → MayLeave by events opens fits me.0 b → Allows Kept slots id me 2 (λ n. n) (Leaves events opens (step slots 2 0 0 none) me)
  leave_last_allows slots id me b last held may s k one at small =
      let w : V = after_turn events opens me.0 b in
      let kept : Kept (stepped s 2 (slice_index s.words 2) id me.1 w gives) = rw held (last_kept s id me.0 b last may at k) in
      (w, gives, tt, kept, λ c is. let e = sym held ∙ is in let same : b ≡ c = ap (held_first b) e in λ x. (after_turn events opens me.0 (same x), ap rest held x))

  -- a step that reads a word, after which the seat has seen another list, counted, or knows that it is alone
  pub read_kept : (s : State (Option B) V) (i id : ℕ) (v w : V) (c : List (ℕ × Option B)) → get_elem? s.words i ≡ some (slice_index s.words i) → v.place ≡ Out → w.place ≡ Out → get_elem? s.views id ≡ some v → (k : Kept s) → Knows by k.log k.opening w → Alone (slice_set s.views id w)
      → held w.holding ≡ held v.holding → claimed w.holding ≡ claimed v.holding → known w.holding ≡ known v.holding → IsDealt k.dealt w.holding → Kept (stepped s i (slice_index s.words i) id c w keeps)
  read_kept s i id v w c at_word out out' at k kw alone numbers names all_known dealt_w =
      let ws : slice_set s.words i (slice_index s.words i) ≡ s.words = set_again s.words i (slice_index s.words i) at_word in
      let ps : map place_of (slice_set s.views id w) ≡ map place_of s.views = map_set_same place_of s.views id v w at (out' ∙ sym out) in
      let sts : map holding_of (slice_set s.views id w) ≡ slice_set (map holding_of s.views) id w.holding = map_set holding_of s.views id w in
      let at_holding : get_elem? (map holding_of s.views) id ≡ some v.holding = at_map holding_of s.views id v at in
      record {
        ticket = k.ticket;
        serving = k.serving;
        dealt = k.dealt;
        log = k.log;
        opening = k.opening;
        words = ws ∙ k.words;
        few = k.few;
        one = k.one;
        tickets = subst (Tickets k.ticket k.serving) (sym ps) k.tickets;
        book = where_set s (slice_set s.words i (slice_index s.words i)) k.log k.opening id v w at (λ h. subst IsIn out h) (λ h. subst IsIn out' h) k.book;
        knows = each_set (Knows by k.log k.opening) s.views id w k.knows kw;
        unheard = k.unheard;
        counts = subst (Counts k.dealt) (sym sts) (counts_set k.dealt (map holding_of s.views) id v.holding w.holding at_holding (λ x. ap (times x) numbers) (ap (length {A = ℕ}) numbers) k.counts);
        alone = alone;
        family = subst (Family k.dealt) (sym sts) (family_set k.dealt (map holding_of s.views) id v.holding w.holding at_holding (λ x h. subst (λ l. 0 < times x l) (sym names) h) (λ x h. subst (λ l. 0 < times x l) (sym all_known) h) k.family);
        known = subst (Each (IsDealt k.dealt)) (sym sts) (each_set (IsDealt k.dealt) (map holding_of s.views) id w.holding k.known dealt_w);
      }
