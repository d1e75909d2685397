-- the started pools through a change of one pool
use Rattle.std.proofs.Common.{◌≡◌, ℕ, suc, zero, ◌≤◌, List, [], ◌∷◌, ◌++◌, Bool, true, false, cond, not, ◌||◌, bytes_eq, map, length, Option, Some, None, is_some, inl, inr, ◌⊎◌, refl, sym, ap, subst, ◌∙◌, arith}
use Rattle.std.specs.Prelude.{filter, slice_get}
use Rattle.std.specs.List.{AllByRecursion, IsDistinct, list_any}
use Rattle.std.specs.Option.{option_or}
use Rattle.std.specs.Cmp.Lexicographic.{nat_list_eq_equiv}
use Rattle.std.proofs.lemmas.List.{length-map, map-append}
use Rattle.std.proofs.lemmas.List.Elements.{filter-append}
use Rattle.std.proofs.lemmas.List.Folds.{find-append}
use Rattle.std.proofs.lemmas.Map.Keys.{IsDistinct-head, IsDistinct-tail, IsDistinct-cons, IsDistinct-push}
use Rattle.std.proofs.lemmas.Map.Made.{length-le_from_is_member}
use Rattle.st_model.specs.declared.state.EngineState.{EngineState}
use Rattle.st_model.specs.declared.state.PoolState.{PoolState}
use Rattle.st_model.specs.Flight.{all_but}
use Rattle.st_model.specs.Look.{Text, is_called, is_started}
use Rattle.st_model.specs.Parts.{own, pool_at, started}
use Rattle.st_model.specs.Pieces.{AreNamedApart, ArePools, every}
use Rattle.st_model.specs.Shown.{started_pools}
use Rattle.st_model.specs.Valid.{Apart}
use Rattle.st_model.specs.ValidPool.{EachPair}
use Rattle.st_model.proofs.Lists.{EachPair-filter}
use Rattle.st_table.specs.Steps.{with_other}
use Rattle.st_cells.specs.Cells.{Added, Becomes, Dropped, EachOwn, Halted, NoMore, NoneOut, Started, TakenOut, others}
use Rattle.st_cells.proofs.Lookups.{after_put, but_others, differ, drop_at, eq_of, eq_self, instead, keep, none_out, own_is, put_at}

abbrev name_of : PoolState → Text
name_of p = p.name

abbrev names : List PoolState → List Text
names ps = map name_of ps

-- ---- names apart

none_called : (n : Text) (ps : List PoolState) → AllByRecursion (λ m. bytes_eq n m ≡ false) (names ps) → pool_at n ps ≡ None
none_called n [] h = refl
none_called n (p ∷ ps) h = ap (λ (b : Bool). cond b (Some p) (pool_at n ps)) (nat_list_eq_equiv.symm p.name n ∙ h.0) ∙ none_called n ps h.1

all_but_one : (n : Text) (f : PoolState → Bool) (ps : List PoolState) → AllByRecursion (λ m. bytes_eq n m ≡ false) (names ps) → AllByRecursion (λ m. bytes_eq n m ≡ false) (names (filter f ps))
all_but_one n f [] h = tt
all_but_one n f (p ∷ ps) h = here (f p) (all_but_one n f ps h.1)
  where
    here : (b : Bool) → AllByRecursion (λ m. bytes_eq n m ≡ false) (names (filter f ps)) → AllByRecursion (λ m. bytes_eq n m ≡ false) (names (cond b (p ∷ filter f ps) (filter f ps)))
    here true rest = (h.0, rest)
    here false rest = rest

pub fewer_apart : (f : PoolState → Bool) (ps : List PoolState) → AreNamedApart ps → AreNamedApart (filter f ps)
fewer_apart f [] h = h
fewer_apart f (p ∷ ps) h = here (f p) (fewer_apart f ps (IsDistinct-tail bytes_eq p.name (names ps) h))
  where
    here : (b : Bool) → AreNamedApart (filter f ps) → AreNamedApart (cond b (p ∷ filter f ps) (filter f ps))
    here true rest = IsDistinct-cons bytes_eq p.name (names (filter f ps)) (all_but_one p.name f ps (IsDistinct-head bytes_eq p.name (names ps) h)) rest
    here false rest = rest

named : (n : Text) (ps : List PoolState) → list_any (bytes_eq n) (names ps) ≡ is_some (pool_at n ps)
named n [] = refl
named n (p ∷ ps) = ap (λ b. b || list_any (bytes_eq n) (names ps)) (nat_list_eq_equiv.symm n p.name) ∙ here (bytes_eq p.name n) (named n ps)
  where
    here : (b : Bool) → list_any (bytes_eq n) (names ps) ≡ is_some (pool_at n ps) → (b || list_any (bytes_eq n) (names ps)) ≡ is_some (cond b (Some p) (pool_at n ps))
    here true h = refl
    here false h = h

more_apart : (ps : List PoolState) (q : PoolState) → AreNamedApart ps → pool_at q.name ps ≡ None → AreNamedApart (ps ++ q ∷ [])
more_apart ps q h none =
    subst (IsDistinct bytes_eq) (sym (map-append name_of ps (q ∷ []))) (IsDistinct-push nat_list_eq_equiv (names ps) q.name h (named q.name ps ∙ ap is_some none))

-- ---- one taken out

pub taken_out : TakenOut
taken_out [] i p h there = absurd (no_item i there)
  where
    no_item : (i : ℕ) → slice_get [] i ≡ Some p → ⊥
    no_item zero k = absurd cc
    no_item (suc i) k = absurd cc
taken_out (x ∷ ps) zero p h there =
    let same : x ≡ p = cc in
    let none = none_called x.name ps (IsDistinct-head bytes_eq x.name (names ps) h) in
    sym (ap (λ (b : Bool). cond (not b) (x ∷ others p.name ps) (others p.name ps)) (subst (λ (y : PoolState). is_called y.name x ≡ true) same (eq_self x.name)) ∙ ap (λ (y : PoolState). others y.name ps) (sym same) ∙ none_out x.name ps none)
taken_out (x ∷ ps) (suc i) p h there =
    let apart = AllOf (λ m. bytes_eq x.name m ≡ false) ps i p (IsDistinct-head bytes_eq x.name (names ps) h) there in
    ap (λ (t : List PoolState). x ∷ t) (taken_out ps i p (IsDistinct-tail bytes_eq x.name (names ps) h) there) ∙ sym (ap (λ (b : Bool). cond (not b) (x ∷ others p.name ps) (others p.name ps)) apart)
  where
    AllOf : (R : Text → Type 0) (ps : List PoolState) (i : ℕ) (p : PoolState) → AllByRecursion R (names ps) → slice_get ps i ≡ Some p → R p.name
    AllOf R [] zero p h k = absurd cc
    AllOf R [] (suc i) p h k = absurd cc
    AllOf R (y ∷ ys) zero p h k = let same : y ≡ p = cc in subst (λ (z : PoolState). R z.name) same h.0
    AllOf R (y ∷ ys) (suc i) p h k = AllOf R ys i p h.1 k

pub no_one_out : NoneOut
no_one_out name ps h = none_out name ps h

-- ---- a new pool

pub added : Added
added s ps q valid after up are = record {
  apart = more_apart ps q are.apart (are.found q.name ∙ fresh);
  found = λ n.
      find-append (is_called n) ps (q ∷ [])
      ∙ ap (λ o. option_or o (pool_at n (q ∷ []))) (are.found n)
      ∙ sym (find-append (is_called n) (started s) (q ∷ []))
      ∙ ap (λ (t : List PoolState). pool_at n (started s ++ t)) (sym (ap (λ (b : Bool). cond b (q ∷ []) []) up))
      ∙ ap (pool_at n) (sym (filter-append (λ (p : PoolState). is_started p.mode) s.pools (q ∷ [])));
}
  where
    last_one : (x : PoolState) (ys : List PoolState) → AllByRecursion (Apart s.devices x) (ys ++ q ∷ []) → Apart s.devices x q
    last_one x [] k = k.0
    last_one x (y ∷ ys) k = last_one x ys k.1

    -- in the new state the names differ, so that none of the old pools has the new one's
    last_apart : (xs : List PoolState) → EachPair (Apart s.devices) (xs ++ q ∷ []) → pool_at q.name xs ≡ None
    last_apart [] h = refl
    last_apart (x ∷ xs) h = here (last_one x xs h.0) (is_called q.name x) refl (last_apart xs h.1)
      where
        here : Apart s.devices x q → (b : Bool) → is_called q.name x ≡ b → pool_at q.name xs ≡ None → cond b (Some x) (pool_at q.name xs) ≡ None
        here apart true e rest = absurd (apart.names q.name (rw e refl) (rw (eq_self q.name) refl))
        here apart false e rest = rest

    fresh : own q.name s ≡ None
    fresh = own_is s.devices q.name s.pools valid.apart ∙ ap keep (last_apart s.pools after.apart)

-- ---- a pool becomes another

either_none : (t : Bool) → cond t None (keep None) ≡ None
either_none true = refl
either_none false = refl

module _ (s : EngineState) (ps : List PoolState) (p q : PoolState) (b : Becomes s p q) (are : ArePools every s ps) where
  own_after : (n : Text) → own n (with_other p.name q s) ≡ keep (after_put p.name q n (pool_at n s.pools))
  own_after n = own_is s.devices n (map (instead p.name q) s.pools) b.after.apart ∙ ap keep (put_at s.devices p.name n q p s.pools b.before.apart b.here b.free)

  cell_before : (n : Text) → pool_at n ps ≡ keep (pool_at n s.pools)
  cell_before n = are.found n ∙ own_is s.devices n s.pools b.before.apart

  others_found : (n : Text) → pool_at n (others p.name ps) ≡ cond (bytes_eq p.name n) None (keep (pool_at n s.pools))
  others_found n = drop_at p.name n ps ∙ ap (λ (o : Option PoolState). cond (bytes_eq p.name n) None o) (cell_before n)

  others_apart : AreNamedApart (others p.name ps)
  others_apart = fewer_apart (λ (x : PoolState). not (is_called p.name x)) ps are.apart

  none_new : pool_at q.name (others p.name ps) ≡ None
  none_new = others_found q.name ∙ by_name b.free
    where
      by_name : (q.name ≡ p.name) ⊎ (pool_at q.name s.pools ≡ None) → cond (bytes_eq p.name q.name) None (keep (pool_at q.name s.pools)) ≡ None
      by_name (inl e) = ap (λ (t : Bool). cond t None (keep (pool_at q.name s.pools))) (subst (λ (m : Text). bytes_eq p.name m ≡ true) (sym e) (eq_self p.name))
      by_name (inr none) = ap (λ (o : Option PoolState). cond (bytes_eq p.name q.name) None (keep o)) none ∙ either_none (bytes_eq p.name q.name)

  module _ (up : is_started q.mode ≡ true) where
    last_found : (n : Text) (t : Bool) → bytes_eq q.name n ≡ t → (d : Bool) → bytes_eq p.name n ≡ d → (o : Option PoolState) → pool_at n s.pools ≡ o
        → option_or (cond d None (keep o)) (cond t (Some q) None) ≡ keep (cond t (Some q) (cond d None o))
    last_found n true e true f o k = sym (ap (λ (u : Bool). cond u (Some q) None) up)
    last_found n true e false f o k = by_free b.free
      where
        by_free : (q.name ≡ p.name) ⊎ (pool_at q.name s.pools ≡ None) → option_or (keep o) (Some q) ≡ keep (Some q)
        by_free (inl same) = absurd (differ p.name n f (sym same ∙ eq_of q.name n e))
        by_free (inr none) =
            let none_here : o ≡ None = sym k ∙ subst (λ (m : Text). pool_at m s.pools ≡ None) (eq_of q.name n e) none in
            ap (λ (x : Option PoolState). option_or (keep x) (Some q)) none_here ∙ sym (ap (λ (u : Bool). cond u (Some q) None) up)
    last_found n false e true f o k = refl
    last_found n false e false f o k = or_none (keep o)
      where
        or_none : (x : Option PoolState) → option_or x None ≡ x
        or_none None = refl
        or_none (Some y) = refl

    started_so : ArePools every (with_other p.name q s) (others p.name ps ++ q ∷ [])
    started_so = record {
      apart = more_apart (others p.name ps) q others_apart none_new;
      found = λ n.
          find-append (is_called n) (others p.name ps) (q ∷ [])
          ∙ ap (λ o. option_or o (cond (bytes_eq q.name n) (Some q) None)) (others_found n)
          ∙ last_found n (bytes_eq q.name n) refl (bytes_eq p.name n) refl (pool_at n s.pools) refl
          ∙ sym (own_after n);
    }

  module _ (same : q.name ≡ p.name) (down : is_started q.mode ≡ false) where
    gone_found : (n : Text) (t : Bool) → bytes_eq q.name n ≡ t → (d : Bool) → bytes_eq p.name n ≡ d → (o : Option PoolState) → cond d None (keep o) ≡ keep (cond t (Some q) (cond d None o))
    gone_found n true e true f o = sym (ap (λ (u : Bool). cond u (Some q) None) down)
    gone_found n true e false f o = absurd (differ p.name n f (sym same ∙ eq_of q.name n e))
    gone_found n false e true f o = refl
    gone_found n false e false f o = refl

    halted_so : ArePools every (with_other p.name q s) (others p.name ps)
    halted_so = record {
      apart = others_apart;
      found = λ n. others_found n ∙ gone_found n (bytes_eq q.name n) refl (bytes_eq p.name n) refl (pool_at n s.pools) ∙ sym (own_after n);
    }

pub started_law : Started
started_law s ps p q b up are = started_so s ps p q b are up

pub halted_law : Halted
halted_law s ps p q b same down are = halted_so s ps p q b are same down

pub dropped : Dropped
dropped s ps p valid here are = record {
  apart = fewer_apart (λ (x : PoolState). not (is_called p.name x)) ps are.apart;
  found = λ n.
      drop_at p.name n ps
      ∙ ap (λ (o : Option PoolState). cond (bytes_eq p.name n) None o) (are.found n ∙ own_is s.devices n s.pools valid.apart)
      ∙ either (bytes_eq p.name n) (pool_at n s.pools)
      ∙ ap keep (sym (drop_at p.name n s.pools))
      ∙ ap (λ (t : List PoolState). keep (pool_at n t)) (sym (but_others s.devices p s.pools valid.apart here))
      ∙ sym (own_is s.devices n (all_but p.serial s.pools) (EachPair-filter _ _ s.pools valid.apart));
}
  where
    either : (t : Bool) (o : Option PoolState) → cond t None (keep o) ≡ keep (cond t None o)
    either true o = refl
    either false o = refl

less_or_more : (b : Bool) (p : PoolState) (ps qs : List PoolState) → length ps ≤ length qs → length (cond b (p ∷ ps) ps) ≤ length (p ∷ qs)
less_or_more true p ps qs h = omega (arith, h)
less_or_more false p ps qs h = omega (arith, h)

few_started : (ps : List PoolState) → length (started_pools ps) ≤ length ps
few_started [] = omega arith
few_started (p ∷ ps) = less_or_more (is_started p.mode) p (started_pools ps) ps (few_started ps)

pub no_more : NoMore
no_more s ps are =
    let most = length-le_from_is_member nat_list_eq_equiv (names ps) (names (started s)) are.apart (λ n h. named n (started s) ∙ (ap is_some (sym (are.found n)) ∙ (sym (named n ps) ∙ h))) in
    let cells : length (names ps) ≡ length ps = length-map ps name_of in
    let pools : length (names (started s)) ≡ length (started s) = length-map (started s) name_of in
    omega (arith, most, cells, pools, few_started s.pools)

kept_is : (o : Option PoolState) (p : PoolState) → keep o ≡ Some p → o ≡ Some p
kept_is None p h = absurd cc
kept_is (Some q) p h = here (is_started q.mode) h
  where
    here : (b : Bool) → cond b (Some q) None ≡ Some p → Some q ≡ Some p
    here true k = k
    here false k = absurd cc

at_own : (ps : List PoolState) (i : ℕ) (p : PoolState) → AreNamedApart ps → slice_get ps i ≡ Some p → pool_at p.name ps ≡ Some p
at_own [] zero p h there = absurd cc
at_own [] (suc i) p h there = absurd cc
at_own (x ∷ ps) zero p h there =
    let same : x ≡ p = cc in
    ap (λ (b : Bool). cond b (Some x) (pool_at p.name ps)) (subst (λ (y : PoolState). is_called y.name x ≡ true) same (eq_self x.name)) ∙ there
at_own (x ∷ ps) (suc i) p h there =
    ap (λ (b : Bool). cond b (Some x) (pool_at p.name ps)) (apart_at ps i (IsDistinct-head bytes_eq x.name (names ps) h) there) ∙ at_own ps i p (IsDistinct-tail bytes_eq x.name (names ps) h) there
  where
    apart_at : (ys : List PoolState) (i : ℕ) → AllByRecursion (λ m. bytes_eq x.name m ≡ false) (names ys) → slice_get ys i ≡ Some p → bytes_eq x.name p.name ≡ false
    apart_at [] zero h k = absurd cc
    apart_at [] (suc i) h k = absurd cc
    apart_at (y ∷ ys) zero h k = let same : y ≡ p = cc in subst (λ (z : PoolState). bytes_eq x.name z.name ≡ false) same h.0
    apart_at (y ∷ ys) (suc i) h k = apart_at ys i h.1 k

pub each_own : EachOwn
each_own s ps i p valid are there =
    let here : own p.name s ≡ Some p = sym (are.found p.name) ∙ at_own ps i p are.apart there in
    (here, kept_is (pool_at p.name s.pools) p (sym (own_is s.devices p.name s.pools valid.apart) ∙ here))
