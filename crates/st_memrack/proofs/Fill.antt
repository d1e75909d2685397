-- A rack is filled from the last device on.
use Rattle.std.proofs.Common.{◌≡◌, ℕ, zero, suc, ◌<◌, ◌≤◌, Bool, true, false, cond, is_some, Some, None, Option, IsNone, List, [], ◌∷◌, length, get_or, drop, map, inl, inr, refl, sym, ◌∙◌, ap, subst, arith}
use Rattle.std.specs.List.{AllByRecursion, IsDistinct}
use Rattle.std.specs.Str.{bytes_eq}
use Rattle.std.proofs.lemmas.Bool.{cases_Bool}
use Rattle.std.proofs.lemmas.List.{drop_all}
use Rattle.st_rack.specs.Device.{Path, DevState}
use Rattle.st_rack.specs.Calls.{Devices, sectors_of, path_in}
use Rattle.st_shelf.specs.Shelf.{comes_before, look, insert_in, no_device}
use Rattle.st_shelf.proofs.Order.{rises_none}
use Rattle.st_shelf.proofs.Look.{bytes_eq-sym, sectors_look, is_in_some}
use Rattle.st_shelf.proofs.Come.{look-insert_in, length-insert_in, rises-insert}
use Rattle.st_memrack.specs.Blank.{AreDistinct, Filled}

abbrev Row : Type 0
Row = Path × ℕ

sectors_more : (given : Devices) (k : ℕ) (d : Row) (p : Path) → k < length given
    → sectors_of (drop k given) p ≡ cond (bytes_eq (get_or given k d).0 p) (Some (get_or given k d).1) (sectors_of (drop (suc k) given) p)
sectors_more [] k d p lt = absurd (omega arith)
sectors_more (x ∷ given) zero d p lt = refl
sectors_more (x ∷ given) (suc k) d p lt = sectors_more given k d p (omega arith)

all_other : (p : Path) (given : Devices) → AllByRecursion (λ q. bytes_eq p q ≡ false) (map path_in given) → IsNone (sectors_of given p)
all_other p [] h = refl
all_other p (x ∷ given) h = ap (λ (b : Bool). is_some (cond b (Some x.1) (sectors_of given p))) (bytes_eq-sym p x.0 h.0) ∙ all_other p given h.1

fresh : (given : Devices) (k : ℕ) (d : Row) → AreDistinct given → k < length given → IsNone (sectors_of (drop (suc k) given) (get_or given k d).0)
unfolding IsDistinct
fresh [] k d h lt = absurd (omega arith)
fresh (x ∷ given) zero d h lt = all_other x.0 given h.0
fresh (x ∷ given) (suc k) d h lt = fresh given k d h.1 (omega arith)

same_either : {A : Type 0} (b : Bool) (x : A) → cond b x x ≡ x
same_either true x = refl
same_either false x = refl

-- what holds of a device and of a list holds of the list with the device
pub all-insert_in : {D : Type 0} (path : D → Path) (P : D → Type 0) (s : D) (list : List D) → P s → AllByRecursion P list → AllByRecursion P (insert_in path s list)
all-insert_in path P s [] here all = (here, all)
all-insert_in path P s (x ∷ list) here all = elim (cases_Bool (comes_before (path x) (path s))) [
  | inl before ↦ subst (AllByRecursion P) (sym (ap (λ (b : Bool). cond b (x ∷ insert_in path s list) (s ∷ x ∷ list)) before)) (all.0, all-insert_in path P s list here all.1)
  | inr after ↦ subst (AllByRecursion P) (sym (ap (λ (b : Bool). cond b (x ∷ insert_in path s list) (s ∷ x ∷ list)) after)) (here, all)
]

module _ {D : Type 0} (path : D → Path) (size : D → ℕ) (state : D → DevState) (reads : D → ℕ) (given : Devices) where
  pub filled_none : (k : ℕ) → length given ≤ k → k ≤ length given → Filled path size state reads given k []
  filled_none k le ge = record {
    devices = λ p. sym (ap (λ (l : Devices). sectors_of l p) (drop_all k given le));
    rises = rises_none path size;
    zeros = λ p. refl;
    count = omega arith;
    unread = λ p. refl;
  }

  pub filled_more : (k left : ℕ) (d : Row) (list : List D) (s : D) → left ≡ suc k → AreDistinct given → k < length given → Filled path size state reads given left list
      → path s ≡ (get_or given k d).0 → size s ≡ (get_or given k d).1 → state s ≡ no_device → reads s ≡ 0 → Filled path size state reads given k (insert_in path s list)
  filled_more k left d list s is distinct lt filled there sectors blank unread = record {
    devices = λ p.
        sectors_look path size (insert_in path s list) p ∙ look-insert_in path (λ x. Some (size x)) None s list p
        ∙ (λ i. cond (bytes_eq (there i) p) (Some (sectors i)) (rest p i))
        ∙ sym (sectors_more given k d p lt);
    rises = rises-insert path size s list
        (is_in_some path size list (path s) ∙ ap (λ (o : Option ℕ). is_some o) (filled.devices (path s))
        ∙ (λ i. is_some (sectors_of (drop (is i) given) (there i))) ∙ fresh given k d distinct lt) filled.rises;
    zeros = λ p. look-insert_in path state no_device s list p ∙ (λ i. cond (bytes_eq (path s) p) (blank i) (filled.zeros p i)) ∙ same_either (bytes_eq (path s) p) no_device;
    count = omega (arith, length-insert_in path s list, filled.count, is);
    unread = λ p. look-insert_in path reads 0 s list p ∙ (λ i. cond (bytes_eq (path s) p) (unread i) (filled.unread p i)) ∙ same_either (bytes_eq (path s) p) 0;
  }
    where
      rest : (p : Path) → look path (λ x. Some (size x)) None list p ≡ sectors_of (drop (suc k) given) p
      rest p = sym (sectors_look path size list p) ∙ filled.devices p ∙ ap (λ (j : ℕ). sectors_of (drop j given) p) is
