-- a map that is built anew of the entries that stay
use Rattle.std.proofs.Common.{◌≡◌, ℕ, List, [], ◌∷◌, ◌++◌, Bool, true, false, cond, filter, refl, sym, ap, ◌∙◌, subst}
use Rattle.std.specs.BTreeMap.{insert_entry}
use Rattle.std.specs.List.Sorted.{IsStrictlySortedBy}
use Rattle.std.specs.Map.{keys_of}
use Rattle.std.specs.Ordering.{nat_cmp}
use Rattle.std.proofs.lemmas.List.Kept.{IsStrictlySortedBy-filter}
use Rattle.st_model.specs.declared.state.FsState.{FsState}
use Rattle.st_model.specs.Merged.{is_mapped}
use Rattle.st_model.proofs.Maps.{copied_on}
use Rattle.st_merges.specs.inner.Kept.{mapped_entries}

module _ {X : Type 0} (test : ℕ → Bool) where
  keys_if : (b : Bool) (e : ℕ × X) (es : List (ℕ × X)) (ks : List ℕ) → keys_of es ≡ ks → keys_of (cond b (e ∷ es) es) ≡ cond b (e.0 ∷ ks) ks
  keys_if true e es ks h = ap (λ l. e.0 ∷ l) h
  keys_if false e es ks h = h

  keys_sifted : (es : List (ℕ × X)) → keys_of (filter (λ (e : ℕ × X). test e.0) es) ≡ filter test (keys_of es)
  keys_sifted [] = refl
  keys_sifted (e ∷ es) = keys_if (test e.0) e (filter (λ (e : ℕ × X). test e.0) es) (filter test (keys_of es)) (keys_sifted es)

  pub sorted_sifted : (es : List (ℕ × X)) → IsStrictlySortedBy nat_cmp (keys_of es) → IsStrictlySortedBy nat_cmp (keys_of (filter (λ (e : ℕ × X). test e.0) es))
  sorted_sifted es s = subst (IsStrictlySortedBy nat_cmp) (sym (keys_sifted es)) (IsStrictlySortedBy-filter nat_cmp test (keys_of es) s)

abbrev Kept : List FsState → List (ℕ × List ℕ) → List (ℕ × List ℕ) → List (ℕ × List ℕ) → Type 0
Kept fss kept rest whole = IsStrictlySortedBy nat_cmp (keys_of (kept ++ mapped_entries fss rest)) × (kept ++ mapped_entries fss rest ≡ mapped_entries fss whole)

module _ (fss : List FsState) where
  pub kept_none : (kept rest cells : List (ℕ × List ℕ)) → kept ≡ [] → rest ≡ cells → IsStrictlySortedBy nat_cmp (keys_of cells) → Kept fss kept rest cells
  kept_none kept rest cells none all s =
      let sorted : IsStrictlySortedBy nat_cmp (keys_of (mapped_entries fss cells)) = sorted_sifted (is_mapped fss) cells s in
      rw (none, all) (sorted, refl)

  stays : (k : ℕ) (v : List ℕ) (next : List (ℕ × List ℕ)) → is_mapped fss k ≡ true → mapped_entries fss ((k, v) ∷ next) ≡ (k, v) ∷ mapped_entries fss next
  stays k v next h = rw h refl

  pub kept_on : (k : ℕ) (v : List ℕ) (kept rest next new whole : List (ℕ × List ℕ)) → rest ≡ (k, v) ∷ next → new ≡ insert_entry nat_cmp kept k v → is_mapped fss k ≡ true → Kept fss kept rest whole → Kept fss new next whole
  kept_on k v kept rest next new whole r n h so =
      copied_on k v kept (mapped_entries fss rest) (mapped_entries fss next) new (mapped_entries fss whole) (ap (mapped_entries fss) r ∙ stays k v next h) n so
