-- The rows of a new pool on devices of a rack.
use Rattle.std.proofs.Common.{◌≡◌, ◌≢◌, ℕ, zero, suc, ◌≤◌, ◌^◌, Bool, true, false, not, ◌&&◌, bytes_eq, unwrap_or, List, [], ◌∷◌, length, map, Option, Some, None, refl, sym, ◌∙◌, ap, subst}
use Rattle.std.specs.List.{AllByRecursion, list_all, slice_get}
use Rattle.std.proofs.lemmas.Bool.{and_from}
use Rattle.std.proofs.lemmas.Slice.Eq.{bytes_eq-Decides}
use Rattle.st_limits.specs.Sums.{IsDeviceSize}
use Rattle.st_units.specs.declared.rows.DevRow.{DevRow}
use Rattle.st_units.specs.declared.rows.Tier.TheVariants.{DataTier}
use Rattle.st_poolrec.specs.Conditions.{has_other_path, have_own_paths}
use Rattle.st_model.specs.Sums.{AreSmall}
use Rattle.st_rack.specs.Device.{Path, State}
use Rattle.st_rack.specs.Calls.{Devices, Has, names, size_in}
use Rattle.st_commit.specs.Ready.{AreDistinct, IsOf}
use Rattle.st_image.specs.Bears.{paths}
use Rattle.st_image.specs.Kept.{as_pair}
use Rattle.st_books.specs.Ready.{AreThere}
use Rattle.st_making.specs.First.{AreDataRows}
use Rattle.st_making.specs.Made.{AreFree, IsFree}
use Rattle.st_pool.specs.Makes.{MayTake}
use Rattle.st_pool.specs.inner.Makings.{new_rows}

some_inj : (x y : Path × ℕ) → Some x ≡ Some y → x ≡ y
some_inj x y e = cc

miss : (b : Bool) → (b ≡ true → ⊥) → b ≡ false
miss true never = absurd (never refl)
miss false never = refl

pub all_of : (P : Path → Type 0) (list : List Path) → ((d : Path) → IsOf list d → P d) → AllByRecursion P list
all_of P [] each = tt
all_of P (d ∷ ds) each = (each d (record { index = zero; is = refl }), all_of P ds (λ e of. each e (record { index = suc of.index; is = of.is })))

first_apart : (i : ℕ) → zero ≡ suc i → ⊥
first_apart i e = cc

next_apart : (i j : ℕ) → suc i ≡ suc j → i ≡ j
next_apart i j e = cc

-- the first of distinct paths is none of the others, which are distinct
pub head_apart : (d : Path) (ds : List Path) → AreDistinct (d ∷ ds) → (e : Path) → IsOf ds e → e ≢ d
head_apart d ds own e of same = first_apart of.index (own zero (suc of.index) d refl (of.is ∙ ap (λ (q : Path). Some q) same))

pub tail_distinct : (d : Path) (ds : List Path) → AreDistinct (d ∷ ds) → AreDistinct ds
tail_distinct d ds own i j e a b = next_apart i j (own (suc i) (suc j) e a b)

pub not_equal : (a b : Path) → a ≢ b → bytes_eq a b ≡ false
not_equal a b ne = miss (bytes_eq a b) (λ hit. ne ((bytes_eq-Decides a b).0 hit))

module _ (devs : Devices) where
  pub paths_new : (list : List Path) → paths (map as_pair (new_rows devs list)) ≡ list
  paths_new [] = refl
  paths_new (d ∷ ds) = ap (λ (qs : List Path). d ∷ qs) (paths_new ds)

  length_new : (list : List Path) → length (new_rows devs list) ≡ length list
  length_new [] = refl
  length_new (d ∷ ds) = ap suc (length_new ds)

  data_new : (list : List Path) → AllByRecursion (λ (row : DevRow). row.tier ≡ DataTier) (new_rows devs list)
  data_new [] = tt
  data_new (d ∷ ds) = (refl, data_new ds)

  sized_new : (P : ℕ → Type 0) (list : List Path) → AllByRecursion (λ (d : Path). P (size_in devs d)) list → AllByRecursion (λ (row : DevRow). P row.sectors) (new_rows devs list)
  sized_new P [] all = tt
  sized_new P (d ∷ ds) all = (all.0, sized_new P ds all.1)

  others_new : (d : Path) (n : ℕ) (list : List Path) → ((e : Path) → IsOf list e → e ≢ d) → list_all (has_other_path (record { path = d; tier = DataTier; sectors = n })) (new_rows devs list) ≡ true
  others_new d n [] apart = refl
  others_new d n (e ∷ es) apart =
      and_from (not (bytes_eq e d)) (list_all (has_other_path (record { path = d; tier = DataTier; sectors = n })) (new_rows devs es)) (ap not (not_equal e d (apart e (record { index = zero; is = refl }))))
      (others_new d n es (λ q of. apart q (record { index = suc of.index; is = of.is })))

  own_new : (list : List Path) → AreDistinct list → have_own_paths (new_rows devs list) ≡ true
  own_new [] own = refl
  own_new (d ∷ ds) own =
      and_from (list_all (has_other_path (record { path = d; tier = DataTier; sectors = size_in devs d })) (new_rows devs ds)) (have_own_paths (new_rows devs ds)) (others_new d (size_in devs d) ds (head_apart d ds own)) (own_new ds (tail_distinct d ds own))

  -- a row is that of a path
  pair_new : (list : List Path) (k : ℕ) (d : Path × ℕ) → slice_get (map as_pair (new_rows devs list)) k ≡ Some d → IsOf list d.0 × (d.1 ≡ size_in devs d.0)
  pair_new [] k d is = absurd (cc)
  pair_new (e ∷ es) zero d is =
      let same = some_inj (e, size_in devs e) d is in (
        record { index = zero; is = ap (λ (x : Path × ℕ). Some x.0) same },
        sym (ap (λ (x : Path × ℕ). x.1) same) ∙ ap (λ (x : Path × ℕ). size_in devs x.0) same,
      )
  pair_new (e ∷ es) (suc k) d is = let rest = pair_new es k d is in (record { index = suc rest.0.index; is = rest.0.is }, rest.1)

  size_is : (d : Path) (n : ℕ) → Has devs d n → size_in devs d ≡ n
  size_is d n has = ap (λ (o : Option ℕ). unwrap_or o 0) has

  module _ (serial : ℕ) (list : List Path) (s : State) (may : MayTake serial list devs s) where
    fit : (d : Path) → IsOf list d → IsDeviceSize (size_in devs d)
    fit d of = let one = may.each d of in subst (λ (n : ℕ). IsDeviceSize n) (sym (size_is d one.0 one.1)) one.2

    pub are_rows : AreDataRows (new_rows devs list)
    are_rows = record {
      some = subst (λ (n : ℕ). 1 ≤ n) (sym (length_new list)) may.some;
      few = subst (λ (n : ℕ). n ≤ 16) (sym (length_new list)) may.few;
      data_rows = data_new list;
      sizes = sized_new (λ (n : ℕ). IsDeviceSize n) list (all_of (λ (d : Path). IsDeviceSize (size_in devs d)) list fit);
      own = own_new list may.own;
    }

    pub are_small : AreSmall (new_rows devs list)
    are_small = record {
      few = subst (λ (n : ℕ). n ≤ 16) (sym (length_new list)) may.few;
      small = sized_new (λ (n : ℕ). n ≤ 2 ^ 32) list (all_of (λ (d : Path). size_in devs d ≤ 2 ^ 32) list (λ d of. (fit d of).1));
    }

    pub there_new : AreThere devs (map as_pair (new_rows devs list))
    there_new k d is =
        let one = pair_new list k d is in
        let has = may.each d.0 one.0 in
        subst (λ (n : ℕ). Has devs d.0 n) (sym (one.1 ∙ size_is d.0 has.0 has.1)) has.1

    pub free_new : AreFree serial (map as_pair (new_rows devs list)) s
    free_new k d is =
        let one = pair_new list k d is in
        let has = may.each d.0 one.0 in
        subst (λ (n : ℕ). IsFree serial n (s d.0)) (sym (one.1 ∙ size_is d.0 has.0 has.1)) has.3

    pub alone_new : (d : Path) (n : ℕ) → Has devs d n → names (paths (map as_pair (new_rows devs list))) d ≡ true
    alone_new d n has = ap (λ (qs : List Path). names qs d) (paths_new list) ∙ may.all d n has
