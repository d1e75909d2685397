-- names put in one by one rise, and are just those that were put in
use Rattle.std.proofs.Common.{◌≡◌, ℕ, suc, ◌+◌, ◌<◌, ◌≤◌, arith, add-one, List, [], ◌∷◌, length, take, drop, drop-cons, get_or, Bool, true, false, cond, ◌&&◌, ◌||◌, bytes_eq, insert, Ordering, Less, Equal, Greater, refl, sym, ap, subst, ◌∙◌}
use Rattle.std.specs.List.{prefix_len, list_all, take_while}
use Rattle.std.specs.Ordering.{is_lt, is_eq, nat_cmp, ordering_reverse}
use Rattle.std.specs.Cmp.Lexicographic.{slice_cmp}
use Rattle.std.proofs.lemmas.List.{drop_all}
use Rattle.std.proofs.lemmas.Bool.Decides.{nat_tests}
use Rattle.std.proofs.lemmas.Cmp.{nat_list_cmp_total}
use Rattle.std.proofs.lemmas.Map.Text.{is_eq-slice_cmp}
use Rattle.std.proofs.lemmas.Slice.Eq.{bytes_eq-Decides}
use Rattle.st_wants.specs.Names.{is_before, is_named, are_rising, are_one_to_eight, with_name, with_names, names_of, AreNamesOf}

abbrev Text : Type 0
Text = List ℕ

abbrev text_cmp : Text → Text → Ordering
text_cmp = slice_cmp nat_cmp

eq_same : (a b : Text) → bytes_eq a b ≡ true → a ≡ b
eq_same a b = (bytes_eq-Decides a b).0

both : (a b : Bool) → a ≡ true → b ≡ true → (a && b) ≡ true
both true true p q = refl
both true false p q = q
both false b p q = p

left : (a b : Bool) → (a && b) ≡ true → a ≡ true
left true b h = refl
left false b h = h

right : (a b : Bool) → (a && b) ≡ true → b ≡ true
right true b h = h
right false b h = absurd cc

or_false : (a b : Bool) → (a || b) ≡ false → (a ≡ false) × (b ≡ false)
or_false true b h = absurd cc
or_false false b h = (refl, h)

less_is : (o : Ordering) → is_lt o ≡ true → o ≡ Less
less_is Less h = refl
less_is Equal h = absurd cc
less_is Greater h = absurd cc

before_trans : (a b c : Text) → is_before a b ≡ true → is_before b c ≡ true → is_before a c ≡ true
before_trans a b c p q =
    let less : text_cmp a c ≡ Less = nat_list_cmp_total.trans a b c (less_is (text_cmp a b) p) (less_is (text_cmp b c) q) in
    ap is_lt less

-- the name put behind all that are lower
abbrev put : Text → List Text → List Text
put n [] = n ∷ []
put n (y ∷ ys) = cond (is_before y n) (y ∷ put n ys) (n ∷ y ∷ ys)

lower : Text → List Text → ℕ
lower n ys = prefix_len (λ p. is_before p n) ys

lower-is : (n : Text) (ys : List Text) → length (take_while (λ p. is_before p n) ys) ≡ lower n ys
unfolding lower
lower-is n [] = refl
lower-is n (y ∷ ys) = here (is_before y n) (lower n ys) (lower-is n ys)
  where
    here : (b : Bool) (k : ℕ) → length (take k ys) ≡ k → length (take (cond b (1 + k) 0) (y ∷ ys)) ≡ cond b (1 + k) 0
    here true k h = let e : 1 + k ≡ suc k = omega arith in rw e (ap suc h)
    here false k h = refl

put_lower : (n : Text) (ys : List Text) → insert ys (lower n ys) n ≡ put n ys
unfolding lower
put_lower n [] = refl
put_lower n (y ∷ ys) = here (is_before y n) (lower n ys) (put_lower n ys)
  where
    here : (b : Bool) (k : ℕ) → insert ys k n ≡ put n ys → insert (y ∷ ys) (cond b (1 + k) 0) n ≡ cond b (y ∷ put n ys) (n ∷ y ∷ ys)
    here true k h = let e : 1 + k ≡ suc k = omega arith in rw e (ap (λ zs. y ∷ zs) h)
    here false k h = refl

put-is : (n : Text) (ys : List Text) → insert ys (length (take_while (λ p. is_before p n) ys)) n ≡ put n ys
put-is n ys = ap (λ k. insert ys k n) (lower-is n ys) ∙ put_lower n ys

abbrev Above : Text → List Text → Type 0
Above n ys = list_all (is_before n) ys ≡ true

above_more : (m n : Text) (ys : List Text) → is_before m n ≡ true → Above n ys → Above m ys
above_more m n [] less h = refl
above_more m n (y ∷ ys) less h =
    both (is_before m y) (list_all (is_before m) ys)
    (before_trans m n y less (left (is_before n y) (list_all (is_before n) ys) h))
    (above_more m n ys less (right (is_before n y) (list_all (is_before n) ys) h))

above_put : (m n : Text) (ys : List Text) → is_before m n ≡ true → Above m ys → Above m (put n ys)
above_put m n [] less h = both (is_before m n) true less refl
above_put m n (y ∷ ys) less h = here (is_before y n) (above_put m n ys less (right (is_before m y) (list_all (is_before m) ys) h))
  where
    here : (b : Bool) → Above m (put n ys) → Above m (cond b (y ∷ put n ys) (n ∷ y ∷ ys))
    here true rest = both (is_before m y) (list_all (is_before m) (put n ys)) (left (is_before m y) (list_all (is_before m) ys) h) rest
    here false rest = both (is_before m n) (list_all (is_before m) (y ∷ ys)) less h

rising_put : (n : Text) (ys : List Text) → is_named ys n ≡ false → are_rising ys ≡ true → are_rising (put n ys) ≡ true
rising_put n [] none h = refl
rising_put n (y ∷ ys) none h = here (text_cmp y n) refl (rising_put n ys apart.1 tail)
  where
    apart : (bytes_eq y n ≡ false) × (is_named ys n ≡ false)
    apart = or_false (bytes_eq y n) (is_named ys n) none

    above : Above y ys
    above = left (list_all (is_before y) ys) (are_rising ys) h

    tail : are_rising ys ≡ true
    tail = right (list_all (is_before y) ys) (are_rising ys) h

    here : (o : Ordering) → text_cmp y n ≡ o → are_rising (put n ys) ≡ true → are_rising (cond (is_lt o) (y ∷ put n ys) (n ∷ y ∷ ys)) ≡ true
    here Less e rest = both (list_all (is_before y) (put n ys)) (are_rising (put n ys)) (above_put y n ys (ap is_lt e) above) rest
    here Equal e rest =
        let same : bytes_eq y n ≡ true = sym (is_eq-slice_cmp y n) ∙ ap is_eq e in
        let other : bytes_eq y n ≡ false = apart.0 in
        absurd cc
    here Greater e rest =
        let less : is_before n y ≡ true = ap is_lt (nat_list_cmp_total.antisymm n y ∙ ap ordering_reverse e) in
        both (list_all (is_before n) (y ∷ ys)) (are_rising (y ∷ ys)) (both (is_before n y) (list_all (is_before n) ys) less (above_more n y ys less above)) h

or_swap : (a b c : Bool) → (a || (b || c)) ≡ (b || (a || c))
or_swap true true c = refl
or_swap true false c = refl
or_swap false b c = refl

named_put : (m n : Text) (ys : List Text) → is_named (put n ys) m ≡ (bytes_eq n m || is_named ys m)
named_put m n [] = refl
named_put m n (y ∷ ys) = here (is_before y n) (named_put m n ys)
  where
    here : (b : Bool) → is_named (put n ys) m ≡ (bytes_eq n m || is_named ys m) → is_named (cond b (y ∷ put n ys) (n ∷ y ∷ ys)) m ≡ (bytes_eq n m || is_named (y ∷ ys) m)
    here true rest = ap (λ b. bytes_eq y m || b) rest ∙ or_swap (bytes_eq y m) (bytes_eq n m) (is_named ys m)
    here false rest = refl

or_in : (a b : Bool) → (a ≡ true → b ≡ true) → b ≡ (a || b)
or_in true b h = h refl
or_in false b h = refl

pub rising_with : (n : Text) (ys : List Text) → are_rising ys ≡ true → are_rising (with_name n ys) ≡ true
rising_with n ys h = here (is_named ys n) refl
  where
    here : (b : Bool) → is_named ys n ≡ b → are_rising (cond b ys (insert ys (length (take_while (λ p. is_before p n) ys)) n)) ≡ true
    here true e = h
    here false e = subst (λ (l : List Text). are_rising l ≡ true) (sym (put-is n ys)) (rising_put n ys e h)

named_with : (m n : Text) (ys : List Text) → is_named (with_name n ys) m ≡ (bytes_eq n m || is_named ys m)
named_with m n ys = here (is_named ys n) refl
  where
    here : (b : Bool) → is_named ys n ≡ b → is_named (cond b ys (insert ys (length (take_while (λ p. is_before p n) ys)) n)) m ≡ (bytes_eq n m || is_named ys m)
    here true e = or_in (bytes_eq n m) (is_named ys m) (λ f. subst (λ (t : Text). is_named ys t ≡ true) (eq_same n m f) e)
    here false e = ap (λ (l : List Text). is_named l m) (put-is n ys) ∙ named_put m n ys

rising_all : (ys ps : List Text) → are_rising ys ≡ true → are_rising (with_names ys ps) ≡ true
rising_all ys [] h = h
rising_all ys (p ∷ ps) h = rising_all (with_name p ys) ps (rising_with p ys h)

or_both : (a b c : Bool) → (a || (b || c)) ≡ ((b || a) || c)
or_both true true c = refl
or_both true false c = refl
or_both false true c = refl
or_both false false c = refl

named_all : (m : Text) (ys ps : List Text) → is_named (with_names ys ps) m ≡ (is_named ps m || is_named ys m)
named_all m ys [] = refl
named_all m ys (p ∷ ps) =
    named_all m (with_name p ys) ps
    ∙ (ap (λ b. is_named ps m || b) (named_with m p ys)
    ∙ or_both (is_named ps m) (bytes_eq p m) (is_named ys m))

or_none : (a : Bool) → (a || false) ≡ a
or_none true = refl
or_none false = refl

pub are_names_of : (list : List Text) → AreNamesOf list (names_of list)
are_names_of list = record {
  rising = rising_all [] list refl;
  same = λ m. named_all m [] list ∙ or_none (is_named list m);
}

length_put : (n : Text) (ys : List Text) → length (put n ys) ≡ suc (length ys)
length_put n [] = refl
length_put n (y ∷ ys) = here (is_before y n) (length_put n ys)
  where
    here : (b : Bool) → length (put n ys) ≡ suc (length ys) → length (cond b (y ∷ put n ys) (n ∷ y ∷ ys)) ≡ suc (length (y ∷ ys))
    here true rest = ap suc rest
    here false rest = refl

length_with : (n : Text) (ys : List Text) → length ys ≤ length (with_name n ys)
length_with n ys = here (is_named ys n)
  where
    here : (b : Bool) → length ys ≤ length (cond b ys (insert ys (length (take_while (λ p. is_before p n) ys)) n))
    here true = omega arith
    here false = let e = put-is n ys in let f = length_put n ys in rw e (omega arith)

-- no name that was put in is taken out again
length_all : (ys ps : List Text) → length ys ≤ length (with_names ys ps)
length_all ys [] = omega arith
length_all ys (p ∷ ps) = let a = length_with p ys in let b = length_all (with_name p ys) ps in omega arith

-- one more of the list put in
pub one_more : (names list : List Text) (i : ℕ) (name : Text) → i < length list → name ≡ get_or list i name → with_names names (drop i list) ≡ names_of list → with_names (with_name name names) (drop (i + 1) list) ≡ names_of list
one_more names list i name lt is h =
    let parts : drop i list ≡ name ∷ drop (i + 1) list = ap (drop i) refl ∙ (rw (add-one, drop-cons list i name) (ap (λ (t : Text). t ∷ drop (suc i) list) (sym is))) in
    ap (with_names names) (sym parts) ∙ h

-- all of them put in
pub all_in : (names list : List Text) (i : ℕ) → length list ≤ i → with_names names (drop i list) ≡ names_of list → names ≡ names_of list
all_in names list i le h = let none : drop i list ≡ [] = drop_all i list le in ap (with_names names) (sym none) ∙ h

abbrev too_many : List Text → Type 0
too_many names = are_one_to_eight names ≡ false

none_fits : (names : List Text) → length names ≡ 0 → too_many names
none_fits [] h = refl
none_fits (p ∷ ps) h = absurd (omega arith)

nine_fit : (names : List Text) → 8 < length names → too_many names
nine_fit names h = grind (arith, nat_tests)

-- more than eight that were put in stay more than eight
pub nine_stay : (names list : List Text) (i : ℕ) (name : Text) → i < length list → name ≡ get_or list i name → with_names names (drop i list) ≡ names_of list → 8 < length (with_name name names) → are_one_to_eight (names_of list) ≡ false
nine_stay names list i name lt is h more =
    let e = one_more names list i name lt is h in
    let stay = length_all (with_name name names) (drop (i + 1) list) in
    let all : length (with_name name names) ≤ length (names_of list) = subst (λ (l : List Text). length (with_name name names) ≤ length l) e stay in
    nine_fit (names_of list) (omega arith)

pub none_is_too_few : (names list : List Text) (i : ℕ) → length list ≤ i → with_names names (drop i list) ≡ names_of list → length names ≡ 0 → are_one_to_eight (names_of list) ≡ false
none_is_too_few names list i le h none = subst too_many (all_in names list i le h) (none_fits names none)

pub one_more_is : (n : Text) (ys : List Text) → is_named ys n ≡ false → length (with_name n ys) ≡ length ys + 1
one_more_is n ys e =
    let put : with_name n ys ≡ put n ys = ap (λ b. cond b ys (insert ys (length (take_while (λ p. is_before p n) ys)) n)) e ∙ put-is n ys in
    let k = length_put n ys in
    let f : length (with_name n ys) ≡ suc (length ys) = ap length put ∙ k in
    omega arith

pub step : (names new list : List Text) (i : ℕ) (name : Text) → i < length list → name ≡ get_or list i name → (are_rising names ≡ true) × (length names ≤ 8) × (with_names names (drop i list) ≡ names_of list)
    → (new ≡ with_name name names) × (length new ≤ 8) → (are_rising new ≡ true) × (length new ≤ 8) × (with_names new (drop (i + 1) list) ≡ names_of list)
step names new list i name lt is h n =
    (subst (λ (l : List Text). are_rising l ≡ true) (sym n.0) (rising_with name names h.0), n.1, subst (λ (l : List Text). with_names l (drop (i + 1) list) ≡ names_of list) (sym n.0) (one_more names list i name lt is h.2))
