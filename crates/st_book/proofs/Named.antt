-- Look-ups by name in lists of named things, and lists whose names are apart.
use Rattle.std.proofs.Common.{ℕ, ◌≡◌, ◌+◌, ◌≤◌, Bool, true, false, not, ◌||◌, cond, List, [], ◌∷◌, ◌++◌, map, filter, length, Option, Some, None, refl, ap, sym, ◌∙◌, arith}
use Rattle.std.specs.Prelude.{find, is_some, option_map}
use Rattle.std.specs.List.{AllByRecursion, IsDistinct, sum_by}
use Rattle.std.specs.Str.{bytes_eq}
use Rattle.std.specs.Set.{is_member}
use Rattle.std.specs.Cmp.Lexicographic.{nat_list_eq_equiv}
use Rattle.std.proofs.lemmas.Slice.Eq.{bytes_eq-Decides}
use Rattle.std.proofs.lemmas.List.{length-map}
use Rattle.std.proofs.lemmas.List.Sums.{sum_by-cons}
use Rattle.std.proofs.lemmas.Map.Made.{length-le_from_is_member}
use Rattle.st_grants.proofs.Lookups.{find_passes}
use Rattle.st_model.specs.Look.{Text}

pub none_and_some : {A : Type 0} (o : Option A) (x : A) → o ≡ None → o ≡ Some x → ⊥
none_and_some o x n j = cc

-- what isn't found
pub not_found : {A : Type 0} (o : Option A) → ((x : A) → o ≡ Some x → ⊥) → o ≡ None
not_found (Some x) h = absurd (h x refl)
not_found None h = refl

pub not_true : (b : Bool) → not b ≡ true → b ≡ false
not_true true h = absurd cc
not_true false h = refl

-- a third name is another's, where the two are one
pub other_name : (a n m : Text) → bytes_eq a n ≡ true → bytes_eq a m ≡ bytes_eq n m
other_name a n m e = nat_list_eq_equiv.congr a n m e

pub flipped : (a b : Text) → bytes_eq a b ≡ bytes_eq b a
flipped a b = nat_list_eq_equiv.symm a b

module _ {A : Type 0} (f : A → Text) where
  -- the first of this name
  abbrev pub at : Text → List A → Option A
  at n xs = find (λ x. bytes_eq (f x) n) xs

  abbrev pub AreApart : List A → Type 0
  AreApart xs = IsDistinct bytes_eq (map f xs)

  pub name_found : (n : Text) (xs : List A) (x : A) → at n xs ≡ Some x → bytes_eq (f x) n ≡ true
  name_found n xs x h = find_passes (λ y. bytes_eq (f y) n) xs x h

  -- one name found is another's, where the two are one
  pub same_found : (n m : Text) (xs : List A) → bytes_eq n m ≡ true → at n xs ≡ at m xs
  same_found n m [] e = refl
  same_found n m (x ∷ xs) e =
      let same : bytes_eq (f x) n ≡ bytes_eq (f x) m = flipped (f x) n ∙ (other_name n m (f x) e ∙ flipped m (f x)) in
      let rest = same_found n m xs e in
      rw (same, rest) refl

  -- no other of this name behind one that is apart from them
  pub none_of : (n : Text) (x : A) (xs : List A) → bytes_eq (f x) n ≡ true → AllByRecursion (λ y. bytes_eq (f x) y ≡ false) (map f xs) → at n xs ≡ None
  none_of n x [] e h = refl
  none_of n x (y ∷ ys) e h =
      let ne : bytes_eq (f y) n ≡ false = flipped (f y) n ∙ (sym (other_name (f x) n (f y) e) ∙ h.0) in
      rw ne (none_of n x ys e h.1)

  -- those whose names pass a test are found just where the name passes
  pub found_filter : (p : Text → Bool) (n : Text) (xs : List A) → at n (filter (λ x. p (f x)) xs) ≡ cond (p n) (at n xs) None
  found_filter p n [] = here (p n)
    where
      here : (b : Bool) → None ≡ cond b (at n []) None
      here true = refl
      here false = refl
  found_filter p n (x ∷ xs) = here (bytes_eq (f x) n) (p (f x)) refl refl (found_filter p n xs)
    where
      here : (b c : Bool) → bytes_eq (f x) n ≡ b → p (f x) ≡ c → at n (filter (λ y. p (f y)) xs) ≡ cond (p n) (at n xs) None
          → at n (cond c (x ∷ filter (λ y. p (f y)) xs) (filter (λ y. p (f y)) xs)) ≡ cond (p n) (cond b (Some x) (at n xs)) None
      here true true e g rest =
          let same : p n ≡ true = ap p (sym ((bytes_eq-Decides (f x) n).0 e)) ∙ g in
          rw (e, same) refl
      here true false e g rest =
          let same : p n ≡ false = ap p (sym ((bytes_eq-Decides (f x) n).0 e)) ∙ g in
          rest ∙ rw same refl
      here false true e g rest = rw e rest
      here false false e g rest = rest

  all_filter : (P : Text → Type 0) (p : Text → Bool) (xs : List A) → AllByRecursion P (map f xs) → AllByRecursion P (map f (filter (λ x. p (f x)) xs))
  all_filter P p [] h = tt
  all_filter P p (x ∷ xs) h = here (p (f x)) (all_filter P p xs h.1)
    where
      here : (b : Bool) → AllByRecursion P (map f (filter (λ y. p (f y)) xs)) → AllByRecursion P (map f (cond b (x ∷ filter (λ y. p (f y)) xs) (filter (λ y. p (f y)) xs)))
      here true rest = (h.0, rest)
      here false rest = rest

  pub apart_filter : (p : Text → Bool) (xs : List A) → AreApart xs → AreApart (filter (λ x. p (f x)) xs)
  unfolding IsDistinct
  apart_filter p [] h = tt
  apart_filter p (x ∷ xs) h = here (p (f x)) (apart_filter p xs h.1)
    where
      here : (b : Bool) → AreApart (filter (λ y. p (f y)) xs) → AreApart (cond b (x ∷ filter (λ y. p (f y)) xs) (filter (λ y. p (f y)) xs))
      here true rest = (all_filter (λ y. bytes_eq (f x) y ≡ false) p xs h.0, rest)
      here false rest = rest

  -- what is found in two lists put together
  pub found_left : (n : Text) (xs ys : List A) (x : A) → at n xs ≡ Some x → at n (xs ++ ys) ≡ Some x
  found_left n [] ys x h = absurd cc
  found_left n (z ∷ zs) ys x h = here (bytes_eq (f z) n) h (found_left n zs ys x)
    where
      here : (b : Bool) → cond b (Some z) (at n zs) ≡ Some x → (at n zs ≡ Some x → at n (zs ++ ys) ≡ Some x) → cond b (Some z) (at n (zs ++ ys)) ≡ Some x
      here true k rest = k
      here false k rest = rest k

  pub found_right : (n : Text) (xs ys : List A) → at n xs ≡ None → at n (xs ++ ys) ≡ at n ys
  found_right n [] ys h = refl
  found_right n (z ∷ zs) ys h = here (bytes_eq (f z) n) h (found_right n zs ys)
    where
      here : (b : Bool) → cond b (Some z) (at n zs) ≡ None → (at n zs ≡ None → at n (zs ++ ys) ≡ at n ys) → cond b (Some z) (at n (zs ++ ys)) ≡ at n ys
      here true k rest = absurd cc
      here false k rest = rest k

  all_both : (P : Text → Type 0) (xs ys : List A) → AllByRecursion P (map f xs) → AllByRecursion P (map f ys) → AllByRecursion P (map f (xs ++ ys))
  all_both P [] ys h g = g
  all_both P (x ∷ xs) ys h g = (h.0, all_both P xs ys h.1 g)

  -- a name that isn't found is apart from all
  none_apart : (n : Text) (ys : List A) → at n ys ≡ None → AllByRecursion (λ y. bytes_eq n y ≡ false) (map f ys)
  none_apart n [] h = tt
  none_apart n (y ∷ ys) h = here (bytes_eq (f y) n) refl h (none_apart n ys)
    where
      here : (b : Bool) → bytes_eq (f y) n ≡ b → cond b (Some y) (at n ys) ≡ None → (at n ys ≡ None → AllByRecursion (λ z. bytes_eq n z ≡ false) (map f ys)) → AllByRecursion (λ z. bytes_eq n z ≡ false) (map f (y ∷ ys))
      here true e k rest = absurd cc
      here false e k rest = (flipped n (f y) ∙ e, rest k)

  found_own : (x : A) (xs : List A) → at (f x) (x ∷ xs) ≡ Some x
  found_own x xs = rw (nat_list_eq_equiv.refl (f x)) refl

  -- lists apart, of which no name is in both, are apart together
  pub apart_both : (xs ys : List A) → AreApart xs → AreApart ys → ((n : Text) (x : A) → at n xs ≡ Some x → at n ys ≡ None) → AreApart (xs ++ ys)
  unfolding IsDistinct
  apart_both [] ys h g other = g
  apart_both (x ∷ xs) ys h g other = (
    all_both (λ y. bytes_eq (f x) y ≡ false) xs ys h.0 (none_apart (f x) ys (other (f x) x (found_own x xs))),
    apart_both xs ys h.1 g (λ n y k. here n (bytes_eq (f x) n) refl y k),
  )
    where
      here : (n : Text) (b : Bool) → bytes_eq (f x) n ≡ b → (y : A) → at n xs ≡ Some y → at n ys ≡ None
      here n true e y k = absurd (none_and_some (at n xs) y (none_of n x xs e h.0) k)
      here n false e y k = other n y (rw e k)

  -- with none of any name there is none
  pub empty_of : (xs : List A) → ((n : Text) → at n xs ≡ None) → xs ≡ []
  empty_of [] h = refl
  empty_of (x ∷ xs) h = absurd (let e : cond (bytes_eq (f x) (f x)) (Some x) (at (f x) xs) ≡ None = h (f x) in let g = rw (nat_list_eq_equiv.refl (f x)) at e in cc)

  is_member_found : (n : Text) (xs : List A) → is_member bytes_eq (map f xs) n ≡ is_some (at n xs)
  is_member_found n [] = refl
  is_member_found n (x ∷ xs) =
      let cases : (b : Bool) → (b || is_member bytes_eq (map f xs) n) ≡ is_some (cond b (Some x) (at n xs)) = elim [ true ↦ refl | false ↦ is_member_found n xs ] in
      let e : bytes_eq n (f x) ≡ bytes_eq (f x) n = flipped n (f x) in
      rw e (cases (bytes_eq (f x) n))

  -- those whose names are apart are no more than a list in which each of them is found
  pub no_longer : (xs ys : List A) → AreApart xs → ((n : Text) (x : A) → at n xs ≡ Some x → at n ys ≡ Some x) → length xs ≤ length ys
  no_longer xs ys apart found =
      let each : (n : Text) → is_member bytes_eq (map f xs) n ≡ true → is_member bytes_eq (map f ys) n ≡ true = λ n h.
      let cases : (o : Option A) → at n xs ≡ o → is_some o ≡ true → is_some (at n ys) ≡ true = elim [
        | Some x ↦ (λ e k. ap is_some (found n x e))
        | None ↦ (λ e k. absurd cc)
      ] in
      is_member_found n ys ∙ cases (at n xs) refl (sym (is_member_found n xs) ∙ h) in
      let few : length (map f xs) ≤ length (map f ys) = length-le_from_is_member nat_list_eq_equiv (map f xs) (map f ys) apart each in
      let a : length (map f xs) ≡ length xs = length-map xs f in
      let b : length (map f ys) ≡ length ys = length-map ys f in
      omega arith

  -- how many there are of a name
  abbrev pub count_named : Text → List A → ℕ
  count_named n xs = sum_by (λ x. cond (bytes_eq (f x) n) 1 0) xs

  count_more : (n : Text) (x : A) (xs : List A) → count_named n (x ∷ xs) ≡ cond (bytes_eq (f x) n) 1 0 + count_named n xs
  count_more n x xs = sum_by-cons (λ y. cond (bytes_eq (f y) n) 1 0) x xs

  pub none_counted : (n : Text) (xs : List A) → count_named n xs ≡ 0 → at n xs ≡ None
  none_counted n [] h = refl
  none_counted n (x ∷ xs) h =
      let more = count_more n x xs in
      let cases : (b : Bool) → count_named n (x ∷ xs) ≡ cond b 1 0 + count_named n xs → cond b (Some x) (at n xs) ≡ None = elim [
        | true ↦ (λ k. absurd (let k' : count_named n (x ∷ xs) ≡ 1 + count_named n xs = k in omega arith))
        | false ↦ (λ k. let k' : count_named n (x ∷ xs) ≡ 0 + count_named n xs = k in none_counted n xs (omega arith))
      ] in
      cases (bytes_eq (f x) n) more

  pub counted_none : (n : Text) (xs : List A) → at n xs ≡ None → count_named n xs ≡ 0
  counted_none n [] h = refl
  counted_none n (x ∷ xs) h =
      let more = count_more n x xs in
      let cases : (b : Bool) → count_named n (x ∷ xs) ≡ cond b 1 0 + count_named n xs → cond b (Some x) (at n xs) ≡ None → count_named n (x ∷ xs) ≡ 0 = elim [
        | true ↦ (λ k m. absurd cc)
        | false ↦ (λ k m. let k' : count_named n (x ∷ xs) ≡ 0 + count_named n xs = k in let none = counted_none n xs m in omega arith)
      ] in
      cases (bytes_eq (f x) n) more h

-- what is found by name after a map that keeps names
pub map_found : {A B : Type 0} (f : A → Text) (g : B → Text) (h : A → B) (same : (x : A) → g (h x) ≡ f x) (n : Text) (xs : List A) → at g n (map h xs) ≡ option_map h (at f n xs)
map_found f g h same n [] = refl
map_found f g h same n (x ∷ xs) =
    let e : bytes_eq (g (h x)) n ≡ bytes_eq (f x) n = ap (λ a. bytes_eq a n) (same x) in
    let cases : (b : Bool) → cond b (Some (h x)) (at g n (map h xs)) ≡ option_map h (cond b (Some x) (at f n xs)) = elim [ true ↦ refl | false ↦ map_found f g h same n xs ] in
    rw e (cases (bytes_eq (f x) n))

pub map_names : {A B : Type 0} (f : A → Text) (g : B → Text) (h : A → B) (same : (x : A) → g (h x) ≡ f x) (xs : List A) → map g (map h xs) ≡ map f xs
map_names f g h same [] = refl
map_names f g h same (x ∷ xs) = rw (same x, map_names f g h same xs) refl

-- as many of a name after a map that keeps names
pub map_counted : {A B : Type 0} (f : A → Text) (g : B → Text) (h : A → B) (same : (x : A) → g (h x) ≡ f x) (n : Text) (xs : List A) → count_named g n (map h xs) ≡ count_named f n xs
map_counted f g h same n [] = refl
map_counted f g h same n (x ∷ xs) =
    let e : bytes_eq (g (h x)) n ≡ bytes_eq (f x) n = ap (λ a. bytes_eq a n) (same x) in
    let rest = map_counted f g h same n xs in
    let a = count_more g n (h x) (map h xs) in
    let b = count_more f n x xs in
    a ∙ (rw (e, rest) (sym b))
