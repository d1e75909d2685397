-- infos that are entered one by one stand in byte order of their names, whatever order they come in
use Rattle.std.proofs.Common.{◌≡◌, ℕ, suc, ◌+◌, arith, List, [], ◌∷◌, length, take, Bool, true, false, cond, bytes_eq, map, insert, remove, slice_get, Option, Some, None, Ordering, Less, Equal, Greater, refl, sym, ap, subst, ◌∙◌}
use Rattle.std.specs.List.{AllByRecursion, IsDistinct, prefix_len}
use Rattle.std.specs.Option.{option_or}
use Rattle.std.specs.Ordering.{is_lt, is_eq, nat_cmp, ordering_reverse}
use Rattle.std.specs.Cmp.Lexicographic.{slice_cmp, nat_list_eq_equiv}
use Rattle.std.proofs.lemmas.Cmp.{nat_list_cmp_total, tied_itself}
use Rattle.std.proofs.lemmas.Map.Keys.{IsDistinct-head, IsDistinct-tail}
use Rattle.std.proofs.lemmas.Map.Text.{is_eq-slice_cmp}
use Rattle.std.proofs.lemmas.Slice.Eq.{bytes_eq-Decides}
use Rattle.st_model.specs.declared.info.PoolInfo.{PoolInfo}
use Rattle.st_model.specs.Look.{Text}
use Rattle.st_model.specs.ValidPool.{EachPair}
use Rattle.st_model.specs.Shown.{comes_before, place_among}
use Rattle.st_model.specs.Pieces.{info_at}
use Rattle.st_plain.specs.Reported.{entered}

abbrev text_cmp : Text → Text → Ordering
text_cmp = slice_cmp nat_cmp

eq_same : (a b : Text) → bytes_eq a b ≡ true → a ≡ b
eq_same a b = (bytes_eq-Decides a b).0

eq_self : (a : Text) → bytes_eq a a ≡ true
eq_self a = (bytes_eq-Decides a a).1 refl

not_less_self : (a : Text) → text_cmp a a ≡ Less → ⊥
not_less_self a h = let tied : text_cmp a a ≡ Equal = tied_itself nat_list_cmp_total a in cc

-- a lower name is another one
less_apart : (a b : Text) → text_cmp a b ≡ Less → bytes_eq b a ≡ false
less_apart a b h = here (bytes_eq b a) refl
  where
    here : (c : Bool) → bytes_eq b a ≡ c → c ≡ false
    here true e = absurd (not_less_self a (subst (λ (t : Text). text_cmp a t ≡ Less) (eq_same b a e) h))
    here false e = refl

tied_same : (a b : Text) → text_cmp a b ≡ Equal → a ≡ b
tied_same a b h = eq_same a b (sym (is_eq-slice_cmp a b) ∙ ap is_eq h)

more_less : (a b : Text) → text_cmp a b ≡ Greater → text_cmp b a ≡ Less
more_less a b h = nat_list_cmp_total.antisymm b a ∙ ap ordering_reverse h

tied_is : (a b : Text) → bytes_eq a b ≡ false → text_cmp a b ≡ Equal → ⊥
tied_is a b h e = let same : bytes_eq a b ≡ true = sym (is_eq-slice_cmp a b) ∙ ap is_eq e in cc

-- the info put behind all of lower names
abbrev put : PoolInfo → List PoolInfo → List PoolInfo
put x [] = x ∷ []
put x (y ∷ ys) = cond (comes_before y.name x.name) (y ∷ put x ys) (x ∷ y ∷ ys)

lower : PoolInfo → List PoolInfo → ℕ
lower x ys = prefix_len (λ (info : PoolInfo). comes_before info.name x.name) ys

lower-is : (x : PoolInfo) (ys : List PoolInfo) → place_among ys x.name ≡ lower x ys
unfolding lower
lower-is x [] = refl
lower-is x (y ∷ ys) = here (comes_before y.name x.name) (lower x ys) (lower-is x ys)
  where
    here : (b : Bool) (k : ℕ) → length (take k ys) ≡ k → length (take (cond b (1 + k) 0) (y ∷ ys)) ≡ cond b (1 + k) 0
    here true k h = let e : 1 + k ≡ suc k = omega arith in rw e (ap suc h)
    here false k h = refl

put_lower : (x : PoolInfo) (ys : List PoolInfo) → insert ys (lower x ys) x ≡ put x ys
unfolding lower
put_lower x [] = refl
put_lower x (y ∷ ys) = here (comes_before y.name x.name) (lower x ys) (put_lower x ys)
  where
    here : (b : Bool) (k : ℕ) → insert ys k x ≡ put x ys → insert (y ∷ ys) (cond b (1 + k) 0) x ≡ cond b (y ∷ put x ys) (x ∷ y ∷ ys)
    here true k h = let e : 1 + k ≡ suc k = omega arith in rw e (ap (λ zs. y ∷ zs) h)
    here false k h = refl

put-is : (x : PoolInfo) (ys : List PoolInfo) → insert ys (place_among ys x.name) x ≡ put x ys
put-is x ys = ap (λ k. insert ys k x) (lower-is x ys) ∙ put_lower x ys

-- names rise
abbrev Rising : List PoolInfo → Type 0
Rising = EachPair (λ (a b : PoolInfo). text_cmp a.name b.name ≡ Less)

-- all names are above this one
abbrev Above : Text → List PoolInfo → Type 0
Above n = AllByRecursion (λ (b : PoolInfo). text_cmp n b.name ≡ Less)

absent : (n : Text) (ys : List PoolInfo) → Above n ys → info_at n ys ≡ None
absent n [] h = refl
absent n (y ∷ ys) h = ap (λ b. cond b (Some y) (info_at n ys)) (less_apart n y.name h.0) ∙ absent n ys h.1

above_more : (m n : Text) (ys : List PoolInfo) → text_cmp m n ≡ Less → Above n ys → Above m ys
above_more m n [] less h = tt
above_more m n (y ∷ ys) less h = (nat_list_cmp_total.trans m n y.name less h.0, above_more m n ys less h.1)

-- a look-up that finds nothing passes the first item over
not_first : (n : Text) (y : PoolInfo) (ys : List PoolInfo) → info_at n (y ∷ ys) ≡ None → (bytes_eq y.name n ≡ false) × (info_at n ys ≡ None)
not_first n y ys h = here (bytes_eq y.name n) h
  where
    here : (b : Bool) → cond b (Some y) (info_at n ys) ≡ None → (b ≡ false) × (info_at n ys ≡ None)
    here true e = absurd cc
    here false e = (refl, e)

above_put : (n : Text) (x : PoolInfo) (ys : List PoolInfo) → text_cmp n x.name ≡ Less → Above n ys → Above n (put x ys)
above_put n x [] less h = (less, tt)
above_put n x (y ∷ ys) less h = here (comes_before y.name x.name) (above_put n x ys less h.1)
  where
    here : (b : Bool) → Above n (put x ys) → Above n (cond b (y ∷ put x ys) (x ∷ y ∷ ys))
    here true rest = (h.0, rest)
    here false rest = (less, h)

rising-put : (x : PoolInfo) (ys : List PoolInfo) → info_at x.name ys ≡ None → Rising ys → Rising (put x ys)
rising-put x [] none h = (tt, tt)
rising-put x (y ∷ ys) none h = here (text_cmp y.name x.name) refl (rising-put x ys (not_first x.name y ys none).1 h.1)
  where
    here : (o : Ordering) → text_cmp y.name x.name ≡ o → Rising (put x ys) → Rising (cond (is_lt o) (y ∷ put x ys) (x ∷ y ∷ ys))
    here Less e rest = (above_put y.name x ys e h.0, rest)
    here Equal e rest = absurd (tied_is y.name x.name (not_first x.name y ys none).0 e)
    here Greater e rest = let less = more_less y.name x.name e in ((less, above_more x.name y.name ys less h.0), h)

put_swap : (x y : PoolInfo) (b c : Bool) (o : Option PoolInfo) → (b ≡ true → c ≡ true → ⊥) → cond b (Some y) (cond c (Some x) o) ≡ cond c (Some x) (cond b (Some y) o)
put_swap x y true true o h = absurd (h refl refl)
put_swap x y true false o h = refl
put_swap x y false true o h = refl
put_swap x y false false o h = refl

info_at-put : (n : Text) (x : PoolInfo) (ys : List PoolInfo) → info_at x.name ys ≡ None → info_at n (put x ys) ≡ cond (bytes_eq x.name n) (Some x) (info_at n ys)
info_at-put n x [] none = refl
info_at-put n x (y ∷ ys) none = here (comes_before y.name x.name) (info_at-put n x ys (not_first x.name y ys none).1)
  where
    apart : bytes_eq y.name n ≡ true → bytes_eq x.name n ≡ true → ⊥
    apart e f =
        let same : y.name ≡ x.name = eq_same y.name n e ∙ sym (eq_same x.name n f) in
        let not_same : bytes_eq y.name x.name ≡ false = (not_first x.name y ys none).0 in
        let is_same : bytes_eq y.name x.name ≡ true = (bytes_eq-Decides y.name x.name).1 same in
        cc

    here : (b : Bool) → info_at n (put x ys) ≡ cond (bytes_eq x.name n) (Some x) (info_at n ys) → info_at n (cond b (y ∷ put x ys) (x ∷ y ∷ ys)) ≡ cond (bytes_eq x.name n) (Some x) (info_at n (y ∷ ys))
    here true rest = ap (λ o. cond (bytes_eq y.name n) (Some y) o) rest ∙ put_swap x y (bytes_eq y.name n) (bytes_eq x.name n) (info_at n ys) apart
    here false rest = refl

found_head : (x : PoolInfo) (xs : List PoolInfo) → info_at x.name (x ∷ xs) ≡ Some x
found_head x xs = ap (λ b. cond b (Some x) (info_at x.name xs)) (eq_self x.name)

-- rising lists with the same look-ups are one
pub rising_one : (xs ys : List PoolInfo) → Rising xs → Rising ys → ((n : Text) → info_at n xs ≡ info_at n ys) → xs ≡ ys
rising_one [] [] rx ry same = refl
rising_one [] (y ∷ ys) rx ry same = let some = found_head y ys in let none = same y.name in absurd cc
rising_one (x ∷ xs) [] rx ry same = let some = found_head x xs in let none = same x.name in absurd cc
rising_one (x ∷ xs) (y ∷ ys) rx ry same = here (text_cmp x.name y.name) refl (rising_one xs ys rx.1 ry.1)
  where
    tails : x ≡ y → (n : Text) → info_at n xs ≡ info_at n ys
    tails e n = at (bytes_eq x.name n) refl
      where
        at : (b : Bool) → bytes_eq x.name n ≡ b → info_at n xs ≡ info_at n ys
        at true f =
            let gone : info_at n xs ≡ None = subst (λ (t : Text). info_at t xs ≡ None) (eq_same x.name n f) (absent x.name xs rx.0) in
            let gone_too : info_at n ys ≡ None = subst (λ (t : Text). info_at t ys ≡ None) (ap (λ (i : PoolInfo). i.name) (sym e) ∙ eq_same x.name n f) (absent y.name ys ry.0) in
            gone ∙ sym gone_too
        at false f =
            let f' : bytes_eq y.name n ≡ false = subst (λ (i : PoolInfo). bytes_eq i.name n ≡ false) e f in
            sym (ap (λ b. cond b (Some x) (info_at n xs)) f) ∙ (same n ∙ ap (λ b. cond b (Some y) (info_at n ys)) f')

    here : (o : Ordering) → text_cmp x.name y.name ≡ o → (((n : Text) → info_at n xs ≡ info_at n ys) → xs ≡ ys) → x ∷ xs ≡ y ∷ ys
    here Less e rest =
        let none : info_at x.name (y ∷ ys) ≡ None = absent x.name (y ∷ ys) (e, above_more x.name y.name ys e ry.0) in
        let some = found_head x xs in
        let alike = same x.name in
        absurd cc
    here Equal e rest =
        let named : y.name ≡ x.name = sym (tied_same x.name y.name e) in
        let some : info_at x.name (y ∷ ys) ≡ Some y = subst (λ (t : Text). info_at t (y ∷ ys) ≡ Some y) named (found_head y ys) in
        let first = found_head x xs in
        let alike = same x.name in
        let one : x ≡ y = cc in
        let more : xs ≡ ys = rest (tails one) in
        cc
    here Greater e rest =
        let less = more_less x.name y.name e in
        let none : info_at y.name (x ∷ xs) ≡ None = absent y.name (x ∷ xs) (less, above_more y.name x.name xs less rx.0) in
        let some = found_head y ys in
        let alike = same y.name in
        absurd cc

-- none of these infos has a name of the list
abbrev NoneOf : List PoolInfo → List PoolInfo → Type 0
NoneOf list = AllByRecursion (λ (i : PoolInfo). info_at i.name list ≡ None)

abbrev names : List PoolInfo → List Text
names = map (λ (i : PoolInfo). i.name)

none_of_put : (i : PoolInfo) (list infos : List PoolInfo) → info_at i.name list ≡ None → AllByRecursion (λ n. bytes_eq i.name n ≡ false) (names infos) → NoneOf list infos → NoneOf (put i list) infos
none_of_put i list [] none apart h = tt
none_of_put i list (j ∷ js) none apart h =
    (info_at-put j.name i list none ∙ (ap (λ b. cond b (Some i) (info_at j.name list)) apart.0 ∙ h.0), none_of_put i list js none apart.1 h.1)

not_among : (n : Text) (infos : List PoolInfo) → AllByRecursion (λ m. bytes_eq n m ≡ false) (names infos) → info_at n infos ≡ None
not_among n [] h = refl
not_among n (i ∷ is) h = ap (λ b. cond b (Some i) (info_at n is)) (nat_list_eq_equiv.symm i.name n ∙ h.0) ∙ not_among n is h.1

-- what stands after some infos were entered
pub record Entered (list infos : List PoolInfo) : Type 0 where
  pub rising : Rising (entered list infos)
  pub found : (n : Text) → info_at n (entered list infos) ≡ option_or (info_at n infos) (info_at n list)

entered-is : (list infos : List PoolInfo) → Rising list → IsDistinct bytes_eq (names infos) → NoneOf list infos → Entered list infos
entered-is list [] rising distinct none = record { rising = rising; found = λ n. refl }
entered-is list (i ∷ is) rising distinct none =
    let apart = IsDistinct-head bytes_eq i.name (names is) distinct in
    let more = entered-is (put i list) is (rising-put i list none.0 rising) (IsDistinct-tail bytes_eq i.name (names is) distinct) (none_of_put i list is none.0 apart none.1) in
    record {
      rising = subst (λ (l : List PoolInfo). Rising (entered l is)) (sym (put-is i list)) more.rising;
      found = λ n. ap (λ (l : List PoolInfo). info_at n (entered l is)) (put-is i list) ∙ (more.found n ∙ (ap (λ o. option_or (info_at n is) o) (info_at-put n i list none.0) ∙ here n apart (bytes_eq i.name n) refl));
    }
  where
    here : (n : Text) → AllByRecursion (λ m. bytes_eq i.name m ≡ false) (names is) → (b : Bool) → bytes_eq i.name n ≡ b
        → option_or (info_at n is) (cond b (Some i) (info_at n list)) ≡ option_or (cond b (Some i) (info_at n is)) (info_at n list)
    here n apart true e = ap (λ o. option_or o (Some i)) (not_among n is (subst (λ (t : Text). AllByRecursion (λ m. bytes_eq t m ≡ false) (names is)) (eq_same i.name n e) apart))
    here n apart false e = refl

all_none : (infos : List PoolInfo) → NoneOf [] infos
all_none [] = tt
all_none (i ∷ is) = (refl, all_none is)

or_none : (o : Option PoolInfo) → option_or o None ≡ o
or_none None = refl
or_none (Some i) = refl

-- infos apart with the same look-ups are entered as one list
pub entered_one : (xs ys : List PoolInfo) → IsDistinct bytes_eq (names xs) → IsDistinct bytes_eq (names ys) → ((n : Text) → info_at n xs ≡ info_at n ys) → entered [] xs ≡ entered [] ys
entered_one xs ys dx dy same =
    let ex = entered-is [] xs tt dx (all_none xs) in
    let ey = entered-is [] ys tt dy (all_none ys) in
    rising_one _ _ ex.rising ey.rising (λ n. ex.found n ∙ (or_none (info_at n xs) ∙ (same n ∙ (sym (or_none (info_at n ys)) ∙ sym (ey.found n)))))

-- the first of the infos that are left is entered
pub entered_next : (list infos : List PoolInfo) (x : PoolInfo) → slice_get infos 0 ≡ Some x → entered (insert list (place_among list x.name) x) (remove infos 0) ≡ entered list infos
entered_next list [] x h = absurd cc
entered_next list (i ∷ is) x h = let one : x ≡ i = cc in ap (λ (j : PoolInfo). entered (insert list (place_among list j.name) j) is) one
