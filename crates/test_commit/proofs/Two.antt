-- A list of two devices.
use Rattle.std.proofs.Common.{◌≡◌, ℕ, zero, suc, List, [], ◌∷◌, length, Some, None, refl, sym, ◌∙◌, subst, arith}
use Rattle.std.specs.List.{slice_get}
use Rattle.st_rack.specs.Device.{Path}
use Rattle.st_commit.specs.Ready.{AreDistinct, IsOf}

same : (a b : Path) → Some a ≡ Some b → a ≡ b
same a b e = cc

none : (a : Path) → None ≡ Some a → ⊥
none a e = cc

pub each_of_two : (devs : List Path) (a b : Path) (P : Path → Type 0) → length devs ≡ 2 → slice_get devs 0 ≡ Some a → slice_get devs 1 ≡ Some b → P a → P b → (d : Path) → IsOf devs d → P d
each_of_two [] a b P two first second of_a of_b d is = absurd (omega arith)
each_of_two (x ∷ []) a b P two first second of_a of_b d is = absurd (omega arith)
each_of_two (x ∷ (y ∷ (z ∷ zs))) a b P two first second of_a of_b d is = absurd (omega arith)
each_of_two (x ∷ (y ∷ [])) a b P two first second of_a of_b d is = by is.index is.is
  where
    by : (k : ℕ) → slice_get (x ∷ (y ∷ [])) k ≡ Some d → P d
    by zero at = subst P (same a d (sym first ∙ at)) of_a
    by (suc zero) at = subst P (same b d (sym second ∙ at)) of_b
    by (suc (suc k)) at = absurd (none d at)

pub two_differ : (devs : List Path) (a b : Path) → length devs ≡ 2 → slice_get devs 0 ≡ Some a → slice_get devs 1 ≡ Some b → (a ≡ b → ⊥) → AreDistinct devs
two_differ [] a b two first second differ i j d at_i at_j = absurd (omega arith)
two_differ (x ∷ []) a b two first second differ i j d at_i at_j = absurd (omega arith)
two_differ (x ∷ (y ∷ (z ∷ zs))) a b two first second differ i j d at_i at_j = absurd (omega arith)
two_differ (x ∷ (y ∷ [])) a b two first second differ i j d at_i at_j = by i j at_i at_j
  where
    by : (i j : ℕ) → slice_get (x ∷ (y ∷ [])) i ≡ Some d → slice_get (x ∷ (y ∷ [])) j ≡ Some d → i ≡ j
    by zero zero e f = refl
    by (suc zero) (suc zero) e f = refl
    by zero (suc zero) e f = absurd (differ (same a b (sym first ∙ e ∙ sym f ∙ second)))
    by (suc zero) zero e f = absurd (differ (same a b (sym first ∙ f ∙ sym e ∙ second)))
    by (suc (suc k)) j e f = absurd (none d e)
    by zero (suc (suc k)) e f = absurd (none d f)
    by (suc zero) (suc (suc k)) e f = absurd (none d f)
