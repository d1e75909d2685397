-- entries put behind all others, and copies of maps
use Rattle.std.proofs.Common.{◌≡◌, ℕ, List, [], ◌∷◌, ◌++◌, refl, sym, ap, subst, ◌∙◌, append_assoc}
use Rattle.std.specs.BTreeMap.{insert_entry}
use Rattle.std.specs.List.{AllByRecursion}
use Rattle.std.specs.List.Sorted.{IsStrictlySortedBy}
use Rattle.std.specs.Map.{keys_of}
use Rattle.std.specs.Ordering.{nat_cmp, match_ordering, ordering_reverse}
use Rattle.std.specs.declared.cmp.Ordering.TheVariants.{Less, Greater}
use Rattle.std.proofs.lemmas.Map.Keys.{sorted_head, sorted_tail}
use Rattle.std.proofs.lemmas.Cmp.{nat_cmp_total}

greater : (a b : ℕ) → nat_cmp a b ≡ Less → nat_cmp b a ≡ Greater
greater a b h = nat_cmp_total.antisymm b a ∙ ap ordering_reverse h

module _ {X : Type 0} (k : ℕ) (v : X) where
  here : (P : ℕ → Type 0) (es rest : List (ℕ × X)) → AllByRecursion P (keys_of (es ++ (k, v) ∷ rest)) → P k
  here P [] rest a = a.0
  here P (e ∷ es) rest a = here P es rest a.1

  pub insert_last : (es rest : List (ℕ × X)) → IsStrictlySortedBy nat_cmp (keys_of (es ++ (k, v) ∷ rest)) → insert_entry nat_cmp es k v ≡ es ++ (k, v) ∷ []
  insert_last [] rest s = refl
  insert_last (e ∷ es) rest s =
      let below = here (λ y. nat_cmp e.0 y ≡ Less) es rest (sorted_head nat_cmp e.0 (keys_of (es ++ (k, v) ∷ rest)) s) in
      let after = insert_last es rest (sorted_tail nat_cmp e.0 (keys_of (es ++ (k, v) ∷ rest)) s) in
      ap (λ r. match_ordering r ((k, v) ∷ e ∷ es) ((e.0, v) ∷ es) (e ∷ insert_entry nat_cmp es k v)) (greater e.0 k below) ∙ ap (λ l. e ∷ l) after

  -- a copy so far, and one entry more
  pub copied_on : (copy rest next new whole : List (ℕ × X)) → rest ≡ (k, v) ∷ next → new ≡ insert_entry nat_cmp copy k v
      → IsStrictlySortedBy nat_cmp (keys_of (copy ++ rest)) × (copy ++ rest ≡ whole)
      → IsStrictlySortedBy nat_cmp (keys_of (new ++ next)) × (new ++ next ≡ whole)
  copied_on copy rest next new whole r n so =
      let s : IsStrictlySortedBy nat_cmp (keys_of (copy ++ (k, v) ∷ next)) = subst (λ l. IsStrictlySortedBy nat_cmp (keys_of (copy ++ l))) r so.0 in
      let q : new ++ next ≡ copy ++ rest = ap (λ l. l ++ next) (n ∙ insert_last copy next s) ∙ append_assoc copy ((k, v) ∷ []) next ∙ ap (λ l. copy ++ l) (sym r) in
      (subst (λ l. IsStrictlySortedBy nat_cmp (keys_of l)) (sym q) so.0, q ∙ so.1)
