-- lists that a function was taken over, and what is found in them
use Rattle.std.proofs.Common.{◌≡◌, List, [], ◌∷◌, Bool, true, false, cond, ◌||◌, map, Some, is_some, refl, ap, subst, ◌∙◌}
use Rattle.std.specs.Prelude.{find, filter, option_map}
use Rattle.std.specs.List.{AllByRecursion, list_any}
use Rattle.st_order.specs.Sorted.{Text, is_below, entered}

pub map-map : {A B C : Type 0} (g : B → C) (f : A → B) (xs : List A) → map g (map f xs) ≡ map (λ x. g (f x)) xs
map-map g f [] = refl
map-map g f (x ∷ xs) = ap (λ ys. g (f x) ∷ ys) (map-map g f xs)

pub find-map : {A B : Type 0} (f : A → B) (p : B → Bool) (xs : List A) → find p (map f xs) ≡ option_map f (find (λ x. p (f x)) xs)
find-map f p [] = refl
find-map f p (x ∷ xs) =
    let cases : (b : Bool) → cond b (Some (f x)) (find p (map f xs)) ≡ option_map f (cond b (Some x) (find (λ y. p (f y)) xs)) = elim [ true ↦ refl | false ↦ find-map f p xs ] in
    cases (p (f x))

pub any-map : {A B : Type 0} (f : A → B) (p : B → Bool) (xs : List A) → list_any p (map f xs) ≡ list_any (λ x. p (f x)) xs
any-map f p [] = refl
any-map f p (x ∷ xs) = ap (λ b. p (f x) || b) (any-map f p xs)

pub filter-map : {A B : Type 0} (f : A → B) (p : B → Bool) (xs : List A) → filter p (map f xs) ≡ map f (filter (λ x. p (f x)) xs)
filter-map f p [] = refl
filter-map f p (x ∷ xs) =
    let cases : (b : Bool) → cond b (f x ∷ filter p (map f xs)) (filter p (map f xs)) ≡ map f (cond b (x ∷ filter (λ y. p (f y)) xs) (filter (λ y. p (f y)) xs)) = elim [ true ↦ ap (λ ys. f x ∷ ys) (filter-map f p xs) | false ↦ filter-map f p xs ] in
    cases (p (f x))

pub entered-map : {A B : Type 0} (f : A → B) (key : B → Text) (y : A) (xs : List A) → map f (entered (λ x. key (f x)) y xs) ≡ entered key (f y) (map f xs)
entered-map f key y [] = refl
entered-map f key y (x ∷ xs) =
    let cases : (b : Bool) → map f (cond b (x ∷ entered (λ z. key (f z)) y xs) (y ∷ x ∷ xs)) ≡ cond b (f x ∷ entered key (f y) (map f xs)) (f y ∷ f x ∷ map f xs) = elim [ true ↦ ap (λ ys. f x ∷ ys) (entered-map f key y xs) | false ↦ refl ] in
    cases (is_below (key (f x)) (key (f y)))

pub weaker : {A : Type 0} (P Q : A → Type 0) → ((x : A) → P x → Q x) → (xs : List A) → AllByRecursion P xs → AllByRecursion Q xs
weaker P Q f [] h = tt
weaker P Q f (x ∷ xs) h = (f x h.0, weaker P Q f xs h.1)

pub any_found : {A : Type 0} (q : A → Bool) (xs : List A) → is_some (find q xs) ≡ list_any q xs
any_found q [] = refl
any_found q (x ∷ xs) =
    let cases : (b : Bool) → is_some (cond b (Some x) (find q xs)) ≡ (b || list_any q xs) = elim [ true ↦ refl | false ↦ any_found q xs ] in
    cases (q x)

pub or_first : (a b : Bool) → (a || b) ≡ false → a ≡ false
or_first true b h = absurd cc
or_first false b h = refl

pub or_second : (a b : Bool) → (a || b) ≡ false → b ≡ false
or_second true b h = absurd cc
or_second false b h = h

-- what holds of each item holds of the one that is found, and so does the test
pub found_passes : {A : Type 0} (q : A → Bool) (P : A → Type 0) (xs : List A) (x : A) → AllByRecursion P xs → find q xs ≡ Some x → (q x ≡ true) × P x
found_passes q P [] x all h = absurd cc
found_passes q P (y ∷ ys) x all h =
    let cases : (b : Bool) → q y ≡ b → cond b (Some y) (find q ys) ≡ Some x → (q x ≡ true) × P x = elim [ true ↦ (λ e k. let same : y ≡ x = cc in subst (λ z. (q z ≡ true) × P z) same (e, all.0)) | false ↦ (λ e k. found_passes q P ys x all.1 k) ] in
    cases (q y) refl h

pub find_same : {A : Type 0} (p q : A → Bool) → ((x : A) → p x ≡ q x) → (xs : List A) → find p xs ≡ find q xs
find_same p q same [] = refl
find_same p q same (x ∷ xs) = ap (λ b. cond b (Some x) (find p xs)) (same x) ∙ ap (λ o. cond (q x) (Some x) o) (find_same p q same xs)

pub filter_same : {A : Type 0} (p q : A → Bool) → ((x : A) → p x ≡ q x) → (xs : List A) → filter p xs ≡ filter q xs
filter_same p q same [] = refl
filter_same p q same (x ∷ xs) = ap (λ b. cond b (x ∷ filter p xs) (filter p xs)) (same x) ∙ ap (λ ys. cond (q x) (x ∷ ys) ys) (filter_same p q same xs)

pub any_same : {A : Type 0} (p q : A → Bool) → ((x : A) → p x ≡ q x) → (xs : List A) → list_any p xs ≡ list_any q xs
any_same p q same [] = refl
any_same p q same (x ∷ xs) = ap (λ b. b || list_any p xs) (same x) ∙ ap (λ b. q x || b) (any_same p q same xs)

pub map_same : {A B : Type 0} (f g : A → B) → ((x : A) → f x ≡ g x) → (xs : List A) → map f xs ≡ map g xs
map_same f g same [] = refl
map_same f g same (x ∷ xs) = ap (λ y. y ∷ map f xs) (same x) ∙ ap (λ ys. g x ∷ ys) (map_same f g same xs)

pub any_less : {A : Type 0} (p q : A → Bool) (xs : List A) → list_any p xs ≡ false → list_any p (filter q xs) ≡ false
any_less p q [] h = refl
any_less p q (x ∷ xs) h =
    let cases : (b : Bool) → list_any p (cond b (x ∷ filter q xs) (filter q xs)) ≡ false = elim [ true ↦ (let e : p x ≡ false = or_first (p x) (list_any p xs) h in rw e (any_less p q xs (or_second (p x) (list_any p xs) h))) | false ↦ any_less p q xs (or_second (p x) (list_any p xs) h) ] in
    cases (q x)
