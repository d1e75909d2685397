-- Some devices leave a shelf.
use Rattle.std.proofs.Common.{◌≡◌, inl, inr, ℕ, zero, suc, ◌+◌, ◌<◌, Bool, true, false, cond, not, ◌||◌, List, [], ◌∷◌, ◌++◌, length, get_or, take, drop, filter, refl, sym, ◌∙◌, ap, subst, arith}
use Rattle.std.specs.Str.{bytes_eq}
use Rattle.std.specs.List.{IsDistinct, AllByRecursion}
use Rattle.std.proofs.lemmas.Bool.{cases_Bool}
use Rattle.std.proofs.lemmas.Slice.Eq.{bytes_eq-Decides}
use Rattle.st_rack.specs.Device.{Path}
use Rattle.st_rack.specs.Calls.{Rises, names}
use Rattle.st_shelf.specs.Shelf.{look, rows_of, is_in}
use Rattle.st_shelf.proofs.Order.{Below, paths, rises_first, rises_rest, rises_more, rises_none, less_apart}
use Rattle.st_shelf.proofs.Look.{bytes_eq-sym, equal}

same_either : {A : Type 0} (b : Bool) (x : A) → cond b x x ≡ x
same_either true x = refl
same_either false x = refl

-- what is read within a list doesn't depend on the default
pub same_at : {D : Type 0} (l : List D) (i : ℕ) (d e : D) → i < length l → get_or l i d ≡ get_or l i e
same_at [] i d e lt = absurd (omega arith)
same_at (x ∷ l) zero d e lt = refl
same_at (x ∷ l) (suc i) d e lt = same_at l i d e (omega arith)

module _ {D : Type 0} (path : D → Path) where
  module _ {A : Type 0} (f : D → A) (none : A) where
    front : (t : Bool) (x : D) (l : List D) (p : Path) → look path f none (cond t (x ∷ l) l) p ≡ cond (bytes_eq (path x) p) (cond t (f x) (look path f none l p)) (look path f none l p)
    front true x l p = refl
    front false x l p = sym (same_either (bytes_eq (path x) p) (look path f none l p))

    inner : (b : Bool) (x y z : A) → cond b x (cond b y z) ≡ cond b x z
    inner true x y z = refl
    inner false x y z = refl

    -- a device is found among those that are taken exactly where its path is
    pub look-filter : (q : Path → Bool) (l : List D) (p : Path) → look path f none (filter (λ d. q (path d)) l) p ≡ cond (q p) (look path f none l p) none
    look-filter q [] p = sym (same_either (q p) none)
    look-filter q (x ∷ l) p =
        front (q (path x)) x (filter (λ d. q (path d)) l) p
        ∙ elim (cases_Bool (bytes_eq (path x) p)) [
          | inl hit ↦
              let there : path x ≡ p = (bytes_eq-Decides (path x) p).0 hit in
              ap (λ (b : Bool). cond b (cond (q (path x)) (f x) (look path f none (filter (λ d. q (path d)) l) p)) (look path f none (filter (λ d. q (path d)) l) p)) hit
              ∙ ap (λ (y : _). cond (q (path x)) (f x) y) (look-filter q l p)
              ∙ ap (λ (b : Bool). cond b (f x) (cond (q p) (look path f none l p) none)) (ap q there)
              ∙ inner (q p) (f x) (look path f none l p) none
              ∙ sym (ap (λ (b : Bool). cond (q p) (cond b (f x) (look path f none l p)) none) hit)
          | inr miss ↦
              ap (λ (b : Bool). cond b (cond (q (path x)) (f x) (look path f none (filter (λ d. q (path d)) l) p)) (look path f none (filter (λ d. q (path d)) l) p)) miss
              ∙ look-filter q l p
              ∙ sym (ap (λ (b : Bool). cond (q p) (cond b (f x) (look path f none l p)) none) miss)
        ]

  -- the loop: the first i stay, and of the rest some stay and some go
  module _ (q : Path → Bool) where
    abbrev pub keep : List D → List D
    keep l = filter (λ (d : D). not (q (path d))) l

    abbrev pub out : List D → List D
    out l = filter (λ (d : D). q (path d)) l

    pub stay_more : (i : ℕ) (l : List D) (d : D) → i < length l → q (path (get_or l i d)) ≡ false → take (suc i) l ++ keep (drop (suc i) l) ≡ take i l ++ keep (drop i l)
    stay_more zero [] d lt stays = absurd (omega arith)
    stay_more zero (x ∷ l) d lt stays = sym (ap (λ (b : Bool). cond (not b) (x ∷ keep l) (keep l)) stays)
    stay_more (suc i) [] d lt stays = absurd (omega arith)
    stay_more (suc i) (x ∷ l) d lt stays = ap (λ (m : List D). x ∷ m) (stay_more i l d (omega arith) stays)

    pub stay_out : (i : ℕ) (l : List D) (d : D) → i < length l → q (path (get_or l i d)) ≡ false → out (drop (suc i) l) ≡ out (drop i l)
    stay_out zero [] d lt stays = absurd (omega arith)
    stay_out zero (x ∷ l) d lt stays = sym (ap (λ (b : Bool). cond b (x ∷ out l) (out l)) stays)
    stay_out (suc i) [] d lt stays = absurd (omega arith)
    stay_out (suc i) (x ∷ l) d lt stays = stay_out i l d (omega arith) stays

    pub gone_keep : (i : ℕ) (l : List D) (d : D) → i < length l → q (path (get_or l i d)) ≡ true → take i (take i l ++ drop (suc i) l) ++ keep (drop i (take i l ++ drop (suc i) l)) ≡ take i l ++ keep (drop i l)
    gone_keep zero [] d lt go = absurd (omega arith)
    gone_keep zero (x ∷ l) d lt go = sym (ap (λ (b : Bool). cond (not b) (x ∷ keep l) (keep l)) go)
    gone_keep (suc i) [] d lt go = absurd (omega arith)
    gone_keep (suc i) (x ∷ l) d lt go = ap (λ (m : List D). x ∷ m) (gone_keep i l d (omega arith) go)

    pub gone_out : (i : ℕ) (l : List D) (d : D) → i < length l → q (path (get_or l i d)) ≡ true → get_or l i d ∷ out (drop i (take i l ++ drop (suc i) l)) ≡ out (drop i l)
    gone_out zero [] d lt go = absurd (omega arith)
    gone_out zero (x ∷ l) d lt go = sym (ap (λ (b : Bool). cond b (x ∷ out l) (out l)) go)
    gone_out (suc i) [] d lt go = absurd (omega arith)
    gone_out (suc i) (x ∷ l) d lt go = gone_out i l d (omega arith) go

  module _ (size : D → ℕ) where
    -- those that are taken rise
    below-filter : (p : Path) (q : Path → Bool) (l : List D) → Below p (paths path size l) → Below p (paths path size (filter (λ d. q (path d)) l))
    below-filter p q [] h = tt
    below-filter p q (x ∷ l) h =
        elim (q (path x)) as (λ b. Below p (paths path size (cond b (x ∷ filter (λ d. q (path d)) l) (filter (λ d. q (path d)) l)))) [
          | true ↦ (h.0, below-filter p q l h.1)
          | false ↦ below-filter p q l h.1
        ]

    pub rises-filter : (q : Path → Bool) (l : List D) → Rises (rows_of path size l) → Rises (rows_of path size (filter (λ d. q (path d)) l))
    rises-filter q [] h = rises_none path size
    rises-filter q (x ∷ l) h =
        let rest = rises-filter q l (rises_rest path size x l h) in
        elim (q (path x)) as (λ b. Rises (rows_of path size (cond b (x ∷ filter (λ d. q (path d)) l) (filter (λ d. q (path d)) l)))) [
          | true ↦ rises_more path size x (filter (λ d. q (path d)) l) (below-filter (path x) q l (rises_first path size x l h)) rest
          | false ↦ rest
        ]

    -- as many leave as the list names
    none_below : (p : Path) (l : List D) → Below p (paths path size l) → length (filter (λ d. bytes_eq p (path d)) l) ≡ 0
    none_below p [] h = refl
    none_below p (x ∷ l) h = ap (λ (b : Bool). length (cond b (x ∷ filter (λ d. bytes_eq p (path d)) l) (filter (λ d. bytes_eq p (path d)) l))) (less_apart p (path x) h.0) ∙ none_below p l h.1

    one_there : (p : Path) (l : List D) → Rises (rows_of path size l) → is_in path l p ≡ true → length (filter (λ d. bytes_eq p (path d)) l) ≡ 1
    one_there p [] rises there = absurd cc
    one_there p (x ∷ l) rises there = elim (cases_Bool (bytes_eq p (path x))) [
      | inl hit ↦
          let same : path x ≡ p = sym ((bytes_eq-Decides p (path x)).0 hit) in
          let none = none_below p l (subst (λ (y : Path). Below y (paths path size l)) same (rises_first path size x l rises)) in
          ap (λ (b : Bool). length (cond b (x ∷ filter (λ d. bytes_eq p (path d)) l) (filter (λ d. bytes_eq p (path d)) l))) hit ∙ omega (arith, none)
      | inr miss ↦
          let rest = sym (ap (λ (b : Bool). cond b true (is_in path l p)) (bytes_eq-sym p (path x) miss)) ∙ there in
          ap (λ (b : Bool). length (cond b (x ∷ filter (λ d. bytes_eq p (path d)) l) (filter (λ d. bytes_eq p (path d)) l))) miss ∙ one_there p l (rises_rest path size x l rises) rest
    ]

    count-or : (q r : Path → Bool) (l : List D) → ((p : Path) → q p ≡ true → r p ≡ false) → length (filter (λ d. q (path d) || r (path d)) l) ≡ length (filter (λ d. q (path d)) l) + length (filter (λ d. r (path d)) l)
    count-or q r [] apart = refl
    count-or q r (x ∷ l) apart = one (q (path x)) (r (path x)) (apart (path x)) (count-or q r l apart)
      where
        one : (b c : Bool) → (b ≡ true → c ≡ false) → length (filter (λ d. q (path d) || r (path d)) l) ≡ length (filter (λ d. q (path d)) l) + length (filter (λ d. r (path d)) l)
            → length (cond (b || c) (x ∷ filter (λ d. q (path d) || r (path d)) l) (filter (λ d. q (path d) || r (path d)) l))
            ≡ length (cond b (x ∷ filter (λ d. q (path d)) l) (filter (λ d. q (path d)) l)) + length (cond c (x ∷ filter (λ d. r (path d)) l) (filter (λ d. r (path d)) l))
        one true true only rest = absurd (let e = only refl in cc)
        one true false only rest = omega (arith, rest)
        one false true only rest = omega (arith, rest)
        one false false only rest = rest

    count_none : (l : List D) → length (filter (λ (d : D). false) l) ≡ 0
    count_none [] = refl
    count_none (x ∷ l) = count_none l

    not_named : (p : Path) (list : List Path) → AllByRecursion (λ y. bytes_eq p y ≡ false) list → names list p ≡ false
    not_named p [] h = refl
    not_named p (y ∷ list) h = ap (λ (b : Bool). b || names list p) (bytes_eq-sym p y h.0) ∙ not_named p list h.1

    pub count-listed : (list : List Path) (l : List D) → Rises (rows_of path size l) → IsDistinct bytes_eq list → ((p : Path) → names list p ≡ true → is_in path l p ≡ true) → length (out (names list) l) ≡ length list
    unfolding IsDistinct
    count-listed [] l rises distinct there = count_none l
    count-listed (p ∷ list) l rises distinct there =
        let others = count-listed list l rises distinct.1 (λ r named. there r (or_true (bytes_eq p r) (names list r) named)) in
        let here = one_there p l rises (there p (ap (λ (b : Bool). b || names list p) (equal p p refl))) in
        count-or (λ r. bytes_eq p r) (names list) l (λ r hit. subst (λ (y : Path). names list y ≡ false) ((bytes_eq-Decides p r).0 hit) (not_named p list distinct.0))
        ∙ omega (arith, others, here)
      where
        or_true : (b c : Bool) → c ≡ true → (b || c) ≡ true
        or_true true c h = refl
        or_true false c h = h
