-- what a search of a list finds, and the list with that taken out or with another in its place
use Rattle.std.proofs.Common.{ℕ, zero, suc, ◌≡◌, ◌+◌, Bool, true, false, cond, List, [], ◌∷◌, ◌++◌, map, take, set, Some, None, refl, ap, sym, ◌∙◌, subst, arith}
use Rattle.std.specs.Prelude.{find, slice_get, remove}
use Rattle.std.specs.List.{AllByRecursion, sum_by}
use Rattle.std.proofs.lemmas.List.Sums.{sum_by-cons}
use Rattle.std.specs.Str.{bytes_eq}
use Rattle.std.specs.Cmp.Lexicographic.{nat_list_eq_equiv}
use Rattle.st_model.specs.declared.info.PoolInfo.{PoolInfo}
use Rattle.st_model.specs.declared.state.PoolState.{PoolState}
use Rattle.st_model.specs.Look.{Text}
use Rattle.st_model.specs.Shown.{pool_info}
use Rattle.st_model.specs.Pieces.{info_at}
use Rattle.st_book.specs.Effects.{is_info_of, renewed}

-- one more that fails the test isn't found
pub none_more : {A B : Type 0} (f : A → B) (p : B → Bool) (xs : List A) (x : A) → find p (map f xs) ≡ None → p (f x) ≡ false → find p (map f (xs ++ x ∷ [])) ≡ None
none_more f p [] x h e = rw e refl
none_more f p (y ∷ ys) x h e =
    let cases : (b : Bool) → cond b (Some (f y)) (find p (map f ys)) ≡ None → cond b (Some (f y)) (find p (map f (ys ++ x ∷ []))) ≡ None = elim [ true ↦ (λ k. absurd cc) | false ↦ (λ k. none_more f p ys x k e) ] in
    cases (p (f y)) h

-- the first that passes is found
pub found_first : {A B : Type 0} (f : A → B) (p : B → Bool) (xs : List A) (i : ℕ) (x : A) → find p (map f (take i xs)) ≡ None → slice_get xs i ≡ Some x → p (f x) ≡ true → find p (map f xs) ≡ Some (f x)
found_first f p [] i x n at e = absurd cc
found_first f p (y ∷ ys) zero x n at e =
    let same : y ≡ x = cc in
    let g : p (f y) ≡ true = subst (λ z. p (f z) ≡ true) (sym same) e in
    rw g (ap (λ z. Some (f z)) same)
found_first f p (y ∷ ys) (suc i) x n at e =
    let cases : (b : Bool) → cond b (Some (f y)) (find p (map f (take i ys))) ≡ None → cond b (Some (f y)) (find p (map f ys)) ≡ Some (f x) = elim [ true ↦ (λ k. absurd cc) | false ↦ (λ k. found_first f p ys i x k at e) ] in
    cases (p (f y)) n

-- a newer info in the place of the first of its name
pub put_in : {A : Type 0} (f : A → PoolInfo) (n : Text) (xs : List A) (i : ℕ) (x y : A) → (f x).name ≡ n → info_at n (map f (take i xs)) ≡ None → slice_get xs i ≡ Some y → is_info_of n (f y) ≡ true → map f (set xs i x) ≡ renewed (f x) (map f xs)
put_in f n [] i x y w h at e = absurd cc
put_in f n (z ∷ zs) zero x y w h at e =
    let same : z ≡ y = cc in
    let g : is_info_of (f x).name (f z) ≡ true = subst (λ v. is_info_of v (f z) ≡ true) (sym w) (subst (λ v. is_info_of n (f v) ≡ true) (sym same) e) in
    rw g refl
put_in f n (z ∷ zs) (suc i) x y w h at e =
    let cases : (b : Bool) → is_info_of n (f z) ≡ b → cond b (Some (f z)) (info_at n (map f (take i zs))) ≡ None → f z ∷ map f (set zs i x) ≡ cond (is_info_of (f x).name (f z)) (f x ∷ map f zs) (f z ∷ renewed (f x) (map f zs)) = elim [
      | true ↦ (λ g k. absurd cc)
      | false ↦ (λ g k.
          let g' : is_info_of (f x).name (f z) ≡ false = subst (λ v. is_info_of v (f z) ≡ false) (sym w) g in
          rw g' (ap (λ vs. f z ∷ vs) (put_in f n zs i x y w k at e)))
    ] in
    cases (is_info_of n (f z)) refl h

-- with no info of its name, none is put in
pub none_in : (x : PoolInfo) (xs : List PoolInfo) → info_at x.name xs ≡ None → renewed x xs ≡ xs
none_in x [] h = refl
none_in x (y ∷ ys) h =
    let cases : (b : Bool) → cond b (Some y) (info_at x.name ys) ≡ None → cond b (x ∷ ys) (y ∷ renewed x ys) ≡ y ∷ ys = elim [ true ↦ (λ k. absurd cc) | false ↦ (λ k. ap (λ zs. y ∷ zs) (none_in x ys k)) ] in
    cases (is_info_of x.name y) h

-- infos of other names are found as before
pub others_stay : {A : Type 0} (f : A → PoolInfo) (n m : Text) (xs : List A) (i : ℕ) (x : A) → slice_get xs i ≡ Some x → is_info_of n (f x) ≡ true → bytes_eq n m ≡ false → info_at m (map f (remove xs i)) ≡ info_at m (map f xs)
others_stay f n m [] i x at e ne = absurd cc
others_stay f n m (y ∷ ys) zero x at e ne =
    let same : y ≡ x = cc in
    let g : is_info_of n (f y) ≡ true = subst (λ z. is_info_of n (f z) ≡ true) (sym same) e in
    let g' : is_info_of m (f y) ≡ false = nat_list_eq_equiv.congr (f y).name n m g ∙ ne in
    rw g' refl
others_stay f n m (y ∷ ys) (suc i) x at e ne =
    let Goal : Bool → Type 0 = λ b. cond b (Some (f y)) (info_at m (map f (remove ys i))) ≡ cond b (Some (f y)) (info_at m (map f ys)) in
    let cases : (b : Bool) → Goal b = elim [ true ↦ refl | false ↦ others_stay f n m ys i x at e ne ] in
    cases (is_info_of m (f y))

-- sums and tests of a list with an item taken out
pub sum_out : {A : Type 0} (f : A → ℕ) (xs : List A) (i : ℕ) (x : A) → slice_get xs i ≡ Some x → sum_by f (remove xs i) + f x ≡ sum_by f xs
sum_out f [] i x at = absurd cc
sum_out f (y ∷ ys) zero x at = let same : y ≡ x = cc in omega (arith, sum_by-cons f y ys, ap f same)
sum_out f (y ∷ ys) (suc i) x at = omega (arith, sum_by-cons f y ys, sum_by-cons f y (remove ys i), sum_out f ys i x at)

pub all_out : {A : Type 0} (P : A → Type 0) (xs : List A) (i : ℕ) (x : A) → slice_get xs i ≡ Some x → AllByRecursion P xs → P x × AllByRecursion P (remove xs i)
all_out P [] i x at h = absurd cc
all_out P (y ∷ ys) zero x at h = let same : y ≡ x = cc in (subst P same h.0, h.1)
all_out P (y ∷ ys) (suc i) x at h = let r = all_out P ys i x at h.1 in (r.0, (h.0, r.1))

-- an info put in its own place changes nothing
pub same_in : (x : PoolInfo) (xs : List PoolInfo) → info_at x.name xs ≡ Some x → renewed x xs ≡ xs
same_in x [] h = refl
same_in x (y ∷ ys) h =
    let cases : (b : Bool) → cond b (Some y) (info_at x.name ys) ≡ Some x → cond b (x ∷ ys) (y ∷ renewed x ys) ≡ y ∷ ys = elim [ true ↦ (λ k. let same : y ≡ x = cc in ap (λ z. z ∷ ys) (sym same)) | false ↦ (λ k. ap (λ zs. y ∷ zs) (same_in x ys k)) ] in
    cases (is_info_of x.name y) h

-- an info has its pool's name
pub pool_info_name : (p : PoolState) → (pool_info p).name ≡ p.name
unfolding pool_info
pool_info_name p = refl
