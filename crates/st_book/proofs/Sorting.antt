-- what a want takes out of the cells at home, cell by cell
use Rattle.std.proofs.Common.{ℕ, zero, suc, ◌≡◌, ◌+◌, ◌<◌, ◌≤◌, arith, add-one, Bool, true, false, not, cond, List, [], ◌∷◌, ◌++◌, append-nil, append_assoc, map, length, length-append, take, drop, Some, refl, ap, sym, ◌∙◌}
use Rattle.std.specs.Prelude.{slice_get, remove}
use Rattle.std.specs.List.{AllByRecursion, sum_by}
use Rattle.std.proofs.lemmas.List.{drop_all, take_all}
use Rattle.std.proofs.lemmas.List.Edits.{length-remove}
use Rattle.std.proofs.lemmas.List.Sums.{sum_by-append, sum_by-cons}
use Rattle.std.proofs.lemmas.Option.{slice_get_within}
use Rattle.st_wants.specs.declared.want.Want.{Want}
use Rattle.st_wants.specs.Wants.{writes}
use Rattle.st_model.specs.declared.state.PoolState.{PoolState}
use Rattle.st_book.specs.Effects.{cells_left, cells_given}
use Rattle.st_book.specs.inner.Sorting.{TakesOrPasses}
use Rattle.st_book.proofs.Finds.{sum_out, all_out}

-- a place within has an item
pub item_at : {A : Type 0} (xs : List A) (i : ℕ) → i < length xs → (x : A) × (slice_get xs i ≡ Some x)
item_at [] i h = absurd (omega arith)
item_at (x ∷ xs) zero h = (x, refl)
item_at (x ∷ xs) (suc i) h = item_at xs i (omega arith)

drop_found : {A : Type 0} (xs : List A) (i : ℕ) (x : A) → slice_get xs i ≡ Some x → drop i xs ≡ x ∷ drop (suc i) xs
drop_found [] i x h = absurd cc
drop_found (y ∷ ys) zero x h = let same : y ≡ x = cc in ap (λ z. z ∷ ys) same
drop_found (y ∷ ys) (suc i) x h = drop_found ys i x h

take_found : {A : Type 0} (xs : List A) (i : ℕ) (x : A) → slice_get xs i ≡ Some x → take (suc i) xs ≡ take i xs ++ x ∷ []
take_found [] i x h = absurd cc
take_found (y ∷ ys) zero x h = let same : y ≡ x = cc in ap (λ z. z ∷ []) same
take_found (y ∷ ys) (suc i) x h = ap (λ zs. y ∷ zs) (take_found ys i x h)

take_removed : {A : Type 0} (xs : List A) (i : ℕ) (x : A) → slice_get xs i ≡ Some x → take i (remove xs i) ≡ take i xs
take_removed [] i x h = absurd cc
take_removed (y ∷ ys) zero x h = refl
take_removed (y ∷ ys) (suc i) x h = ap (λ zs. y ∷ zs) (take_removed ys i x h)

drop_removed : {A : Type 0} (xs : List A) (i : ℕ) (x : A) → slice_get xs i ≡ Some x → drop i (remove xs i) ≡ drop (suc i) xs
drop_removed [] i x h = absurd cc
drop_removed (y ∷ ys) zero x h = refl
drop_removed (y ∷ ys) (suc i) x h = drop_removed ys i x h

map_both : {A B : Type 0} (f : A → B) (xs ys : List A) → map f (xs ++ ys) ≡ map f xs ++ map f ys
map_both f [] ys = refl
map_both f (x ∷ xs) ys = ap (λ zs. f x ∷ zs) (map_both f xs ys)

all_end : {A : Type 0} (P : A → Type 0) (xs : List A) (x : A) → AllByRecursion P xs → P x → AllByRecursion P (xs ++ x ∷ [])
all_end P [] x h p = (p, tt)
all_end P (y ∷ ys) x h p = (h.0, all_end P ys x h.1 p)

-- the cells before place i stay, those of the part go, and those from i on are to be looked at
pub record Sorted {A : Type 0} (f : A → PoolState) (w : Want) (old cells part : List A) (i : ℕ) : Type 0 where
  pub left : cells_left w (map f old) ≡ map f (take i cells) ++ cells_left w (map f (drop i cells))
  pub gone : cells_given w (map f old) ≡ map f part ++ cells_given w (map f (drop i cells))

pub sorted_none : {A : Type 0} (f : A → PoolState) (w : Want) (old part : List A) → length part ≡ 0 → Sorted f w old old part 0
sorted_none f w old [] h = record { left = refl; gone = refl }
sorted_none f w old (x ∷ xs) h = absurd (omega arith)

pub sorted_all : {A : Type 0} (f : A → PoolState) (w : Want) (old cells part : List A) (i : ℕ) → length cells ≤ i → Sorted f w old cells part i → (map f cells ≡ cells_left w (map f old)) × (map f part ≡ cells_given w (map f old))
sorted_all f w old cells part i le h =
    let none : drop i cells ≡ [] = drop_all i cells le in
    let all : take i cells ≡ cells = take_all i cells le in (
      sym (h.left ∙ (ap (λ z. map f (take i cells) ++ cells_left w (map f z)) none ∙ (append-nil (map f (take i cells)) ∙ ap (map f) all))),
      sym (h.gone ∙ (ap (λ z. map f part ++ cells_given w (map f z)) none ∙ append-nil (map f part))),
    )

module _ {A : Type 0} (f : A → PoolState) (w : Want) (old cells part rest given : List A) (i next : ℕ) (x : A) (at : slice_get cells i ≡ Some x) where
  sorted_by : (b : Bool) → writes w (f x).name ≡ b → TakesOrPasses b x i cells rest part given next → Sorted f w old cells part i → Sorted f w old rest given next
  sorted_by true e step h =
      let later : map f (drop i cells) ≡ f x ∷ map f (drop (suc i) cells) = ap (map f) (drop_found cells i x at) in
      let stay : cells_left w (map f (drop i cells)) ≡ cells_left w (map f (drop (suc i) cells)) = ap (cells_left w) later ∙ ap (λ b. cond (not b) (f x ∷ cells_left w (map f (drop (suc i) cells))) (cells_left w (map f (drop (suc i) cells)))) e in
      let go : cells_given w (map f (drop i cells)) ≡ f x ∷ cells_given w (map f (drop (suc i) cells)) = ap (cells_given w) later ∙ ap (λ b. cond b (f x ∷ cells_given w (map f (drop (suc i) cells))) (cells_given w (map f (drop (suc i) cells)))) e in
      let after : Sorted f w old (remove cells i) (part ++ x ∷ []) i = record {
        left = rw (take_removed cells i x at, drop_removed cells i x at) (h.left ∙ ap (λ z. map f (take i cells) ++ z) stay);
        gone = rw (drop_removed cells i x at, map_both f part (x ∷ [])) (h.gone ∙ (ap (λ z. map f part ++ z) go ∙ sym (append_assoc (map f part) (f x ∷ []) (cells_given w (map f (drop (suc i) cells))))));
      } in
      rw (step.0, step.1, step.2) after
  sorted_by false e step h =
      let later : map f (drop i cells) ≡ f x ∷ map f (drop (suc i) cells) = ap (map f) (drop_found cells i x at) in
      let stay : cells_left w (map f (drop i cells)) ≡ f x ∷ cells_left w (map f (drop (suc i) cells)) = ap (cells_left w) later ∙ ap (λ b. cond (not b) (f x ∷ cells_left w (map f (drop (suc i) cells))) (cells_left w (map f (drop (suc i) cells)))) e in
      let go : cells_given w (map f (drop i cells)) ≡ cells_given w (map f (drop (suc i) cells)) = ap (cells_given w) later ∙ ap (λ b. cond b (f x ∷ cells_given w (map f (drop (suc i) cells))) (cells_given w (map f (drop (suc i) cells)))) e in
      let front : map f (take (suc i) cells) ≡ map f (take i cells) ++ f x ∷ [] = ap (map f) (take_found cells i x at) ∙ map_both f (take i cells) (x ∷ []) in
      let after : Sorted f w old cells part (suc i) = record {
        left = h.left ∙ (ap (λ z. map f (take i cells) ++ z) stay ∙ (sym (append_assoc (map f (take i cells)) (f x ∷ []) (cells_left w (map f (drop (suc i) cells)))) ∙ ap (λ z. z ++ cells_left w (map f (drop (suc i) cells))) (sym front)));
        gone = h.gone ∙ ap (λ z. map f part ++ z) go;
      } in
      let next_is : next ≡ suc i = step.2 ∙ add-one i in
      rw (step.0, step.1, next_is) after

  pub sorted_step : TakesOrPasses (writes w (f x).name) x i cells rest part given next → Sorted f w old cells part i → Sorted f w old rest given next
  sorted_step step h = sorted_by (writes w (f x).name) refl step h

-- the two lists have all cells between them: how many, their faults, and what holds of each
pub record Divided {A : Type 0} (P : A → Type 0) (n : A → ℕ) (old cells part : List A) : Type 0 where
  pub count : length cells + length part ≡ length old
  pub sum : sum_by n cells + sum_by n part ≡ sum_by n old
  pub all : AllByRecursion P old → AllByRecursion P part × AllByRecursion P cells

pub divided_none : {A : Type 0} (P : A → Type 0) (n : A → ℕ) (old part : List A) → length part ≡ 0 → Divided P n old old part
divided_none P n old [] h = record { count = omega arith; sum = omega arith; all = λ k. (tt, k) }
divided_none P n old (x ∷ xs) h = absurd (omega arith)

pub divided_step : {A : Type 0} (P : A → Type 0) (n : A → ℕ) (old cells part rest given : List A) (i next : ℕ) (x : A) (b : Bool) → slice_get cells i ≡ Some x → TakesOrPasses b x i cells rest part given next → Divided P n old cells part → Divided P n old rest given
divided_step P n old cells part rest given i next x true at step h =
    let inside = slice_get_within cells i x at in
    let one = length-remove cells i inside in
    let more = length-append part (x ∷ []) in
    let sums = sum_out n cells i x at in
    let sum_more : sum_by n (part ++ x ∷ []) ≡ sum_by n part + (n x + 0) = sum_by-append n part (x ∷ []) ∙ ap (λ z. sum_by n part + z) (sum_by-cons n x []) in
    let counted = h.count in
    let summed = h.sum in
    let after : Divided P n old (remove cells i) (part ++ x ∷ []) = record {
      count = omega arith;
      sum = omega arith;
      all = λ k. let both = h.all k in let out = all_out P cells i x at both.1 in (all_end P part x both.0 out.0, out.1);
    } in
    rw (step.0, step.1) after
divided_step P n old cells part rest given i next x false at step h = rw (step.0, step.1) h

-- and how far the count of looks has come
pub counted_step : {A : Type 0} (cells part rest given : List A) (i next k : ℕ) (x : A) (b : Bool) → TakesOrPasses b x i cells rest part given next → i + length part ≡ k → next + length given ≡ k + 1
counted_step cells part rest given i next k x true step h =
    let more = length-append part (x ∷ []) in
    let g : length given ≡ length (part ++ x ∷ []) = ap length step.1 in
    let n = step.2 in
    omega arith
counted_step cells part rest given i next k x false step h =
    let g : length given ≡ length part = ap length step.1 in
    let n = step.2 in
    omega arith
