-- items that are put into byte order one by one
use Rattle.std.proofs.Common.{◌≡◌, suc, List, [], ◌∷◌, ◌++◌, length, Bool, true, false, cond, not, ◌||◌, bytes_eq, map, Some, Less, refl, sym, ap, subst, ◌∙◌}
use Rattle.std.specs.Prelude.{find, filter}
use Rattle.std.specs.List.{AllByRecursion, list_any}
use Rattle.std.specs.Ordering.{is_lt, ordering_reverse}
use Rattle.std.proofs.lemmas.Cmp.{nat_list_cmp_total}
use Rattle.st_order.specs.Sorted.{Text, is_below, IsRising, entered, ordered}
use Rattle.st_order.proofs.Order.{text_cmp, eq_same, eq_turned, less_of, other_way, all_entered, any_entered, all_filtered, filter_none, none_changed, rising_entered, rising_first, rising_rest, rising_none}
use Rattle.st_order.proofs.Lists.{or_first, or_second}

below_turned : (a b : Text) → is_below a b ≡ true → is_below b a ≡ false
below_turned a b h = ap is_lt (nat_list_cmp_total.antisymm b a ∙ ap ordering_reverse (less_of (text_cmp a b) h))

one_way : (a b : Text) → bytes_eq a b ≡ false → is_below b a ≡ not (is_below a b)
one_way a b apart = here (is_below a b) refl
  where
    here : (v : Bool) → is_below a b ≡ v → is_below b a ≡ not v
    here true h = below_turned a b h
    here false h = ap is_lt (other_way a b h apart)

-- what is above x is above what isn't
between : (x a b : Text) → is_below x a ≡ true → is_below x b ≡ false → is_below b a ≡ true
between x a b low high = here (bytes_eq x b) refl
  where
    here : (e : Bool) → bytes_eq x b ≡ e → is_below b a ≡ true
    here true e = subst (λ t. is_below t a ≡ true) (eq_same x b e) low
    here false e = ap is_lt (nat_list_cmp_total.trans b x a (other_way x b high e) (less_of (text_cmp x a) low))

not_both : (b : Bool) → b ≡ true → b ≡ false → ⊥
not_both true h k = cc
not_both false h k = cc

module _ {X : Type 0} (key : X → Text) where
  pub length_entered : (y : X) (xs : List X) → length (entered key y xs) ≡ suc (length xs)
  length_entered y [] = refl
  length_entered y (x ∷ xs) =
      let cases : (b : Bool) → length (cond b (x ∷ entered key y xs) (y ∷ x ∷ xs)) ≡ suc (suc (length xs)) = elim [ true ↦ ap suc (length_entered y xs) | false ↦ refl ] in
      cases (is_below (key x) (key y))

  pub all_ordered : (P : X → Type 0) (xs : List X) → AllByRecursion P xs → AllByRecursion P (ordered key xs)
  all_ordered P [] h = tt
  all_ordered P (x ∷ xs) h = all_entered key P x (ordered key xs) h.0 (all_ordered P xs h.1)

  pub any_ordered : (p : X → Bool) (xs : List X) → list_any p (ordered key xs) ≡ list_any p xs
  any_ordered p [] = refl
  any_ordered p (x ∷ xs) = any_entered key p x (ordered key xs) ∙ ap (λ b. p x || b) (any_ordered p xs)

  pub length_ordered : (xs : List X) → length (ordered key xs) ≡ length xs
  length_ordered [] = refl
  length_ordered (x ∷ xs) = length_entered x (ordered key xs) ∙ ap suc (length_ordered xs)

  pub find_entered : (p : X → Bool) (y : X) (xs : List X) → (p y ≡ true → list_any p xs ≡ false) → find p (entered key y xs) ≡ cond (p y) (Some y) (find p xs)
  find_entered p y [] only = refl
  find_entered p y (x ∷ xs) only = here (p y) refl (is_below (key x) (key y)) (find_entered p y xs)
    where
      here : (b : Bool) → p y ≡ b → (c : Bool) → ((p y ≡ true → list_any p xs ≡ false) → find p (entered key y xs) ≡ cond (p y) (Some y) (find p xs)) → find p (cond c (x ∷ entered key y xs) (y ∷ x ∷ xs)) ≡ cond b (Some y) (cond (p x) (Some x) (find p xs))
      here true e false inner = rw e refl
      here false e false inner = rw e refl
      here true e true inner =
          let out = only e in
          let first : p x ≡ false = or_first (p x) (list_any p xs) out in
          let rest : find p (entered key y xs) ≡ cond (p y) (Some y) (find p xs) = inner (λ k. or_second (p x) (list_any p xs) out) in
          rw (first, rest, e) refl
      here false e true inner =
          let rest : find p (entered key y xs) ≡ cond (p y) (Some y) (find p xs) = inner (λ k. absurd cc) in
          rw (rest, e) refl

  -- no two items have the same text
  abbrev pub EachApart : List X → Type 0
  EachApart [] = Unit {0}
  EachApart (x ∷ xs) = (list_any (λ y. bytes_eq (key y) (key x)) xs ≡ false) × EachApart xs

  -- the test holds of one item at most
  abbrev pub Alone : (X → Bool) → List X → Type 0
  Alone p [] = Unit {0}
  Alone p (x ∷ xs) = (p x ≡ true → list_any p xs ≡ false) × Alone p xs

  pub rising_ordered : (xs : List X) → EachApart xs → IsRising (map key (ordered key xs))
  rising_ordered [] h = rising_none key
  rising_ordered (x ∷ xs) h = rising_entered key x (ordered key xs) (rising_ordered xs h.1) (any_ordered (λ y. bytes_eq (key y) (key x)) xs ∙ h.0)

  -- two items are put in, whichever comes first
  module _ (a b : X) (apart : bytes_eq (key a) (key b) ≡ false) where
    before : (rest : List X) (v : Bool) → cond (not v) (b ∷ a ∷ rest) (a ∷ b ∷ rest) ≡ cond v (a ∷ b ∷ rest) (b ∷ a ∷ rest)
    before rest true = refl
    before rest false = refl

    step : (x : X) (xs : List X) → entered key a (entered key b xs) ≡ entered key b (entered key a xs)
        → (p : Bool) → is_below (key x) (key a) ≡ p → (q : Bool) → is_below (key x) (key b) ≡ q
        → entered key a (cond q (x ∷ entered key b xs) (b ∷ x ∷ xs)) ≡ entered key b (cond p (x ∷ entered key a xs) (a ∷ x ∷ xs))
    step x xs rest true p true q = rw (p, q) (ap (λ ys. x ∷ ys) rest)
    step x xs rest true p false q = let k : is_below (key b) (key a) ≡ true = between (key x) (key a) (key b) p q in rw (k, p, q) refl
    step x xs rest false p true q = let k : is_below (key a) (key b) ≡ true = between (key x) (key b) (key a) q p in rw (k, p, q) refl
    step x xs rest false p false q = let k : is_below (key b) (key a) ≡ not (is_below (key a) (key b)) = one_way (key a) (key b) apart in rw (k, p, q) (before (x ∷ xs) (is_below (key a) (key b)))

    pub either_first : (xs : List X) → entered key a (entered key b xs) ≡ entered key b (entered key a xs)
    either_first [] = let k : is_below (key b) (key a) ≡ not (is_below (key a) (key b)) = one_way (key a) (key b) apart in rw k (before [] (is_below (key a) (key b)))
    either_first (x ∷ xs) = step x xs (either_first xs) (is_below (key x) (key a)) refl (is_below (key x) (key b)) refl

  -- what isn't below x isn't below what x is above
  not_below : (x y : X) (zs : List X) → is_below (key x) (key y) ≡ false → AllByRecursion (λ t. text_cmp (key x) t ≡ Less) (map key zs) → AllByRecursion (λ z. is_below (key z) (key y) ≡ false) zs
  not_below x y [] high above = tt
  not_below x y (z ∷ zs) high above = (here (is_below (key z) (key y)) refl, not_below x y zs high above.1)
    where
      here : (b : Bool) → is_below (key z) (key y) ≡ b → is_below (key z) (key y) ≡ false
      here false e = e
      here true e = absurd (let low : is_below (key x) (key y) ≡ true = ap is_lt (nat_list_cmp_total.trans (key x) (key z) (key y) above.0 (less_of (text_cmp (key z) (key y)) e)) in not_both (is_below (key x) (key y)) low high)

  put_first : (y : X) (zs : List X) → AllByRecursion (λ z. is_below (key z) (key y) ≡ false) zs → entered key y zs ≡ y ∷ zs
  put_first y [] h = refl
  put_first y (z ∷ zs) h = let e : is_below (key z) (key y) ≡ false = h.0 in rw e refl

  module _ (p : X → Bool) where
    filter_entered : (y : X) (xs : List X) → IsRising (map key xs) → filter p (entered key y xs) ≡ cond (p y) (entered key y (filter p xs)) (filter p xs)
    filter_entered y [] rising = refl
    filter_entered y (x ∷ xs) rising = here (is_below (key x) (key y)) refl (p y) refl (p x) refl (filter_entered y xs (rising_rest key x xs rising))
      where
        high : is_below (key x) (key y) ≡ false → entered key y (filter p (x ∷ xs)) ≡ y ∷ filter p (x ∷ xs)
        high e = put_first y (filter p (x ∷ xs)) (all_filtered key (λ z. is_below (key z) (key y) ≡ false) p (x ∷ xs) (e, not_below x y xs e (rising_first key x xs rising)))

        here : (b : Bool) → is_below (key x) (key y) ≡ b → (c : Bool) → p y ≡ c → (d : Bool) → p x ≡ d → filter p (entered key y xs) ≡ cond (p y) (entered key y (filter p xs)) (filter p xs)
            → filter p (cond b (x ∷ entered key y xs) (y ∷ x ∷ xs)) ≡ cond (p y) (entered key y (filter p (x ∷ xs))) (filter p (x ∷ xs))
        here true e true f true g inner = rw (f, g, e, (rw f at inner)) refl
        here true e true f false g inner = rw (f, g, (rw f at inner)) refl
        here true e false f true g inner = rw (f, g, (rw f at inner)) refl
        here true e false f false g inner = rw (f, g, (rw f at inner)) refl
        here false e true f d g inner = rw f (sym (high e))
        here false e false f d g inner = rw f refl

    -- items left out before or after they are put into order
    pub filter_ordered : (xs : List X) → EachApart xs → filter p (ordered key xs) ≡ ordered key (filter p xs)
    filter_ordered [] h = refl
    filter_ordered (x ∷ xs) h =
        let cases : (c : Bool) → cond c (entered key x (ordered key (filter p xs))) (ordered key (filter p xs)) ≡ ordered key (cond c (x ∷ filter p xs) (filter p xs)) = elim [ true ↦ refl | false ↦ refl ] in
        filter_entered x (ordered key xs) (rising_ordered xs h.1) ∙ (ap (λ zs. cond (p x) (entered key x zs) zs) (filter_ordered xs h.1) ∙ cases (p x))

  -- one item more, the last of the list
  pub ordered_last : (y : X) (xs : List X) → list_any (λ x. bytes_eq (key x) (key y)) xs ≡ false → ordered key (xs ++ y ∷ []) ≡ entered key y (ordered key xs)
  ordered_last y [] new = refl
  ordered_last y (x ∷ xs) new =
      let apart : bytes_eq (key x) (key y) ≡ false = or_first (bytes_eq (key x) (key y)) _ new in
      ap (entered key x) (ordered_last y xs (or_second (bytes_eq (key x) (key y)) _ new)) ∙ either_first x y apart (ordered key xs)

  module _ (t : Text) (r : X) where
    abbrev pub instead : List X → List X
    instead xs = map (λ x. cond (bytes_eq (key x) t) r x) xs

    -- what holds of no item there is false of the new one
    new_apart : (q : X → Bool) (xs : List X) → list_any (λ x. bytes_eq (key x) t) xs ≡ true → list_any q (instead xs) ≡ false → q r ≡ false
    new_apart q [] there none = absurd cc
    new_apart q (x ∷ xs) there none = here (bytes_eq (key x) t) there none (new_apart q xs)
      where
        here : (b : Bool) → (b || list_any (λ z. bytes_eq (key z) t) xs) ≡ true → (q (cond b r x) || list_any q (instead xs)) ≡ false
            → (list_any (λ z. bytes_eq (key z) t) xs ≡ true → list_any q (instead xs) ≡ false → q r ≡ false) → q r ≡ false
        here true th out rest = or_first (q r) (list_any q (instead xs)) out
        here false th out rest = rest th (or_second (q x) (list_any q (instead xs)) out)

    -- an item in the place of the one that has the text
    pub ordered_instead : (xs : List X) → EachApart xs → EachApart (instead xs) → list_any (λ x. bytes_eq (key x) t) xs ≡ true → ordered key (instead xs) ≡ entered key r (ordered key (filter (λ x. not (bytes_eq (key x) t)) xs))
    ordered_instead [] h k there = absurd cc
    ordered_instead (x ∷ xs) h k there = here (bytes_eq (key x) t) refl k there (ordered_instead xs)
      where
        alone : bytes_eq (key x) t ≡ true → list_any (λ z. bytes_eq (key z) t) xs ≡ false
        alone e = subst (λ u. list_any (λ z. bytes_eq (key z) u) xs ≡ false) (eq_same (key x) t e) h.0

        here : (b : Bool) → bytes_eq (key x) t ≡ b → EachApart (cond b r x ∷ instead xs) → (b || list_any (λ z. bytes_eq (key z) t) xs) ≡ true
            → (EachApart xs → EachApart (instead xs) → list_any (λ z. bytes_eq (key z) t) xs ≡ true → ordered key (instead xs) ≡ entered key r (ordered key (filter (λ z. not (bytes_eq (key z) t)) xs)))
            → entered key (cond b r x) (ordered key (instead xs)) ≡ entered key r (ordered key (cond (not b) (x ∷ filter (λ z. not (bytes_eq (key z) t)) xs) (filter (λ z. not (bytes_eq (key z) t)) xs)))
        here true e a th rest =
            ap (λ zs. entered key r (ordered key zs)) (none_changed key t (λ z. r) xs (alone e) ∙ sym (filter_none key (λ z. bytes_eq (key z) t) xs (alone e)))
        here false e a th rest =
            let new : bytes_eq (key r) (key x) ≡ false = new_apart (λ z. bytes_eq (key z) (key x)) xs th a.0 in
            ap (entered key x) (rest h.1 a.1 th) ∙ either_first x r (eq_turned (key x) (key r) ∙ new) (ordered key (filter (λ z. not (bytes_eq (key z) t)) xs))

  -- the item that has a text is found before and after
  pub find_ordered : (p : X → Bool) (xs : List X) → Alone p xs → find p (ordered key xs) ≡ find p xs
  find_ordered p [] h = refl
  find_ordered p (x ∷ xs) h =
      find_entered p x (ordered key xs) (λ e. any_ordered p xs ∙ h.0 e) ∙ ap (λ o. cond (p x) (Some x) o) (find_ordered p xs h.1)
