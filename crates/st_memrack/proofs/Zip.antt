-- Devices that are changed one after the other.
use Rattle.std.proofs.Common.{◌≡◌, inl, inr, ℕ, zero, suc, ◌<◌, ◌≤◌, Bool, true, false, cond, List, [], ◌∷◌, length, get_or, slice_set, refl, sym, ◌∙◌, ap, subst, arith}
use Rattle.std.specs.List.{AllZip}
use Rattle.std.specs.Str.{bytes_eq}
use Rattle.std.proofs.lemmas.Bool.{cases_Bool}
use Rattle.st_rack.specs.Device.{Path, DevState, Cut}
use Rattle.st_rack.specs.Moments.{AllCut}
use Rattle.st_shelf.specs.Shelf.{look, rows_of, state_in, is_in, no_device}
use Rattle.st_shelf.proofs.Look.{look_none, not_in, has_in}

-- the first k have been changed, and the others are the same
abbrev pub UpTo : {D : Type 0} → (D → D → Type 0) → ℕ → List D → List D → Type 0
UpTo R k [] [] = Unit {0}
UpTo R k [] (b ∷ bs) = ⊥
UpTo R k (a ∷ as') [] = ⊥
UpTo R zero (a ∷ as') (b ∷ bs) = (b ≡ a) × UpTo R zero as' bs
UpTo R (suc k) (a ∷ as') (b ∷ bs) = R a b × UpTo R k as' bs

module _ {D : Type 0} (R : D → D → Type 0) where
  pub none_yet : (l : List D) → UpTo R 0 l l
  none_yet [] = tt
  none_yet (x ∷ l) = (refl, none_yet l)

  pub one_more : (i : ℕ) (as' bs : List D) (v d : D) → UpTo R i as' bs → i < length bs → R (get_or bs i d) v → UpTo R (suc i) as' (slice_set bs i v)
  one_more i [] [] v d h lt s = absurd (omega arith)
  one_more i [] (b ∷ bs) v d h lt s = absurd h
  one_more i (a ∷ as') [] v d h lt s = absurd h
  one_more zero (a ∷ as') (b ∷ bs) v d h lt s = (subst (λ (x : D). R x v) h.0 s, h.1)
  one_more (suc i) (a ∷ as') (b ∷ bs) v d h lt s = (h.0, one_more i as' bs v d h.1 (omega arith) s)

  pub all_done : (k : ℕ) (as' bs : List D) → length bs ≤ k → UpTo R k as' bs → AllZip R as' bs
  all_done k [] [] le h = tt
  all_done k [] (b ∷ bs) le h = absurd h
  all_done k (a ∷ as') [] le h = absurd h
  all_done zero (a ∷ as') (b ∷ bs) le h = absurd (omega arith)
  all_done (suc k) (a ∷ as') (b ∷ bs) le h = (h.0, all_done k as' bs (omega arith) h.1)

module _ {D : Type 0} (R : D → D → Type 0) (path : D → Path) (same_path : (a b : D) → R a b → path b ≡ path a) where
  pub rows_zip : (size : D → ℕ) → ((a b : D) → R a b → size b ≡ size a) → (as' bs : List D) → AllZip R as' bs → rows_of path size bs ≡ rows_of path size as'
  rows_zip size same [] [] h = refl
  rows_zip size same [] (b ∷ bs) h = absurd h
  rows_zip size same (a ∷ as') [] h = absurd h
  rows_zip size same (a ∷ as') (b ∷ bs) h = (λ i. (same_path a b h.0 i, same a b h.0 i) ∷ rows_zip size same as' bs h.1 i)

  pub look_zip : {A : Type 0} (f : D → A) (none : A) → ((a b : D) → R a b → f b ≡ f a) → (as' bs : List D) (p : Path) → AllZip R as' bs → look path f none bs p ≡ look path f none as' p
  look_zip f none same [] [] p h = refl
  look_zip f none same [] (b ∷ bs) p h = absurd h
  look_zip f none same (a ∷ as') [] p h = absurd h
  look_zip f none same (a ∷ as') (b ∷ bs) p h = (λ i. cond (bytes_eq (same_path a b h.0 i) p) (same a b h.0 i) (look_zip f none same as' bs p h.1 i))

  module _ (size : D → ℕ) (same_size : (a b : D) → R a b → size b ≡ size a) (state : D → DevState) (cut : (a b : D) → R a b → Cut (state a) (state b)) where
    cut_here : (as' bs : List D) (p : Path) → is_in path as' p ≡ true → AllZip R as' bs → Cut (state_in path state as' p) (state_in path state bs p)
    cut_here [] bs p there h = absurd cc
    cut_here (a ∷ as') [] p there h = absurd h
    cut_here (a ∷ as') (b ∷ bs) p there h =
        subst (λ (q : Path). Cut (cond (bytes_eq (path a) p) (state a) (state_in path state as' p)) (cond (bytes_eq q p) (state b) (state_in path state bs p))) (sym (same_path a b h.0))
        (elim (cases_Bool (bytes_eq (path a) p)) [
          | inl hit ↦ subst (λ (t : Bool). Cut (cond t (state a) (state_in path state as' p)) (cond t (state b) (state_in path state bs p))) (sym hit) (cut a b h.0)
          | inr miss ↦
              let rest = sym (ap (λ (t : Bool). cond t true (is_in path as' p)) miss) ∙ there in
              subst (λ (t : Bool). Cut (cond t (state a) (state_in path state as' p)) (cond t (state b) (state_in path state bs p))) (sym miss) (cut_here as' bs p rest h.1)
        ])

    pub cut_zip : (as' bs : List D) → AllZip R as' bs → AllCut (rows_of path size as') (state_in path state as') (state_in path state bs)
    cut_zip as' bs h = record {
      here = λ p n has. cut_here as' bs p (has_in path size as' p n has) h;
      others = λ p none.
          look_none path state no_device bs p (look_zip (λ d. true) false (λ a b r. refl) as' bs p h ∙ not_in path size as' p none)
          ∙ sym (look_none path state no_device as' p (not_in path size as' p none));
    }
