-- a rack that a run may be handed, device by device
use Rattle.std.proofs.Common.{◌≡◌, ℕ, suc, ◌+◌, ◌<◌, ◌≤◌, ◌^◌, ◌⊎◌, inl, inr, Bool, true, false, cond, length, List, [], ◌∷◌, Option, Some, None, unwrap_or, bytes_eq, refl, sym, ◌∙◌, ap, subst, arith}
use Rattle.std.proofs.lemmas.Bool.{cases_lt}
use Rattle.std.proofs.lemmas.Option.{slice_get_within}
use Rattle.std.specs.Prelude.{IfSome, slice_get}
use Rattle.st_rack.specs.Calls.{Devices, IsFit, sectors_of, size_in}
use Rattle.st_rack.specs.Device.{Path}

-- a device of the rack stands at some place
has_at : (devs : Devices) (p : Path) (n : ℕ) → sectors_of devs p ≡ Some n → (j : ℕ) × (d : Path × ℕ) × (slice_get devs j ≡ Some d) × (d.1 ≡ n)
has_at [] p n h = absurd cc
has_at (d ∷ ds) p n h = by (bytes_eq d.0 p) h (has_at ds p n)
  where
    by : (b : Bool) → cond b (Some d.1) (sectors_of ds p) ≡ Some n → (sectors_of ds p ≡ Some n → (j : ℕ) × (e : Path × ℕ) × (slice_get ds j ≡ Some e) × (e.1 ≡ n)) → (j : ℕ) × (e : Path × ℕ) × (slice_get (d ∷ ds) j ≡ Some e) × (e.1 ≡ n)
    by true e f = (0, d, refl, cc)
    by false e f = let r = f e in (suc r.0, r.1, r.2, r.3)

-- the devices up to this one are small
abbrev pub AreSmall : Devices → ℕ → Type 0
AreSmall devs i = (j : ℕ) (d : Path × ℕ) → j < i → slice_get devs j ≡ Some d → d.1 ≤ 2 ^ 32

pub all_small : (devs : Devices) (i : ℕ) → length devs ≤ i → length devs ≤ 64 → AreSmall devs i → IsFit devs
all_small devs i whole few small = record {
  few = few;
  small = λ p n has. (
      let at = has_at devs p n has in
      let within = slice_get_within devs at.0 at.1 at.2 in
      let low = small at.0 at.1 (omega (arith, within, whole)) at.2 in
      let same = at.3 in
      omega (arith, low, same));
}

pub one_more : (devs : Devices) (i : ℕ) → AreSmall devs i → ((d : Path × ℕ) → slice_get devs i ≡ Some d → d.1 ≤ 2 ^ 32) → AreSmall devs (i + 1)
one_more devs i small here j d lt at = by (cases_lt j i)
  where
    by : (j < i) ⊎ (i ≤ j) → d.1 ≤ 2 ^ 32
    by (inl low) = small j d low at
    by (inr high) = let same : j ≡ i = omega (arith, lt, high) in here d (subst (λ (k : ℕ). slice_get devs k ≡ Some d) same at)

pub none_small : (devs : Devices) → AreSmall devs 0
none_small devs j d lt at = absurd (omega (arith, lt))

pub some_small : (devs : Devices) (i : ℕ) → IfSome (slice_get devs i) (λ d. d.1 ≤ 2 ^ 32) → (d : Path × ℕ) → slice_get devs i ≡ Some d → d.1 ≤ 2 ^ 32
some_small devs i h d at = subst (λ (o : Option (Path × ℕ)). IfSome o (λ e. e.1 ≤ 2 ^ 32)) at h
