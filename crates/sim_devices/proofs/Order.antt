-- The devices of a rack are told by what it has at each path.
use Rattle.std.proofs.Common.{◌≡◌, inl, inr, ℕ, zero, suc, ◌≤◌, Bool, true, false, ◌&&◌, cond, [], ◌∷◌, length, map, take, Less, Some, None, refl, sym, ap, ◌∙◌, subst, arith}
use Rattle.std.specs.Ordering.{nat_cmp}
use Rattle.std.specs.Cmp.Lexicographic.{slice_cmp}
use Rattle.std.specs.Str.{bytes_eq}
use Rattle.std.specs.List.Sorted.{IsStrictlySortedBy}
use Rattle.std.proofs.lemmas.Bool.{cases_Bool}
use Rattle.std.proofs.lemmas.Map.Keys.{sorted_head, sorted_tail}
use Rattle.std.proofs.lemmas.Slice.Eq.{bytes_eq-Decides}
use Rattle.st_rack.specs.Device.{Path, State}
use Rattle.st_rack.specs.Calls.{Devices, Rises, path_in, sectors_of}
use Rattle.st_memrack.specs.Blank.{IsBlank}
use Rattle.st_shelf.specs.Shelf.{comes_before}
use Rattle.st_shelf.proofs.Order.{Below, below_below, before_less, not_before, less_apart}
use Rattle.st_shelf.proofs.Look.{bytes_eq-sym, equal}
use Rattle.sim_devices.specs.Devices.{the_devices}

-- ---- one list of devices for what is at each path

none_below : (p : Path) (ds : Devices) → Below p (map path_in ds) → sectors_of ds p ≡ None
none_below p [] below = refl
none_below p (d ∷ ds) below = ap (λ (b : Bool). cond b (Some d.1) (sectors_of ds p)) (bytes_eq-sym p d.0 (less_apart p d.0 below.0)) ∙ none_below p ds below.1

own : (d : Path × ℕ) (ds : Devices) → sectors_of (d ∷ ds) d.0 ≡ Some d.1
own d ds = ap (λ (b : Bool). cond b (Some d.1) (sectors_of ds d.0)) (equal d.0 d.0 refl)

no_some : (n : ℕ) → Some n ≡ None → ⊥
no_some n e = cc

some_same : (m n : ℕ) → Some m ≡ Some n → m ≡ n
some_same m n e = cc

first : (d : Path × ℕ) (ds : Devices) → Rises (d ∷ ds) → Below d.0 (map path_in ds)
first d ds rises = sorted_head (slice_cmp nat_cmp) d.0 (map path_in ds) rises

rest : (d : Path × ℕ) (ds : Devices) → Rises (d ∷ ds) → Rises ds
rest d ds rises = sorted_tail (slice_cmp nat_cmp) d.0 (map path_in ds) rises

further : (p q : Path) (ds : Devices) → slice_cmp nat_cmp p q ≡ Less → Below q (map path_in ds) → Below p (q ∷ map path_in ds)
further p q ds less below = (less, below_below p q (map path_in ds) less below)

-- of two lists that rise, the one that begins lower has a device that the other lacks
lower : (d e : Path × ℕ) (ds es : Devices) → slice_cmp nat_cmp d.0 e.0 ≡ Less → Rises (e ∷ es) → sectors_of (d ∷ ds) d.0 ≡ sectors_of (e ∷ es) d.0 → ⊥
lower d e ds es less rises same = no_some d.1 (sym (own d ds) ∙ same ∙ none_below d.0 (e ∷ es) (further d.0 e.0 es less (first e es rises)))

pub same_devices : (ds es : Devices) → Rises ds → Rises es → ((p : Path) → sectors_of ds p ≡ sectors_of es p) → ds ≡ es
same_devices [] [] a b same = refl
same_devices [] (e ∷ es) a b same = absurd (no_some e.1 (sym (own e es) ∙ sym (same e.0)))
same_devices (d ∷ ds) [] a b same = absurd (no_some d.1 (sym (own d ds) ∙ same d.0))
same_devices (d ∷ ds) (e ∷ es) a b same = elim (cases_Bool (bytes_eq d.0 e.0)) [
  | inl hit ↦
      let path : d.0 ≡ e.0 = (bytes_eq-Decides d.0 e.0).0 hit in
      let size : d.1 ≡ e.1 = some_same d.1 e.1 (sym (own d ds) ∙ same d.0 ∙ ap (sectors_of (e ∷ es)) path ∙ own e es) in
      let tail : ds ≡ es = same_devices ds es (rest d ds a) (rest e es b) (behind path) in
      λ i. (path i, size i) ∷ tail i
  | inr miss ↦ elim (cases_Bool (comes_before d.0 e.0)) [
    | inl less ↦ absurd (lower d e ds es (before_less d.0 e.0 less) b (same d.0))
    | inr more ↦ absurd (lower e d es ds (not_before d.0 e.0 more miss) a (sym (same e.0)))
  ]
]
  where
    behind : d.0 ≡ e.0 → (p : Path) → sectors_of ds p ≡ sectors_of es p
    behind path p = by (bytes_eq d.0 p) refl
      where
        by : (t : Bool) → bytes_eq d.0 p ≡ t → sectors_of ds p ≡ sectors_of es p
        by true hit =
            let is : d.0 ≡ p = (bytes_eq-Decides d.0 p).0 hit in
            none_below p ds (subst (λ (q : Path). Below q (map path_in ds)) is (first d ds a)) ∙ sym (none_below p es (subst (λ (q : Path). Below q (map path_in es)) (sym path ∙ is) (first e es b)))
        by false miss =
            sym (ap (λ (t : Bool). cond t (Some d.1) (sectors_of ds p)) miss) ∙ same p ∙ ap (λ (t : Bool). cond t (Some e.1) (sectors_of es p)) (ap (λ (q : Path). bytes_eq q p) (sym path) ∙ miss)

-- ---- ours rise

abbrev all_after : Path → Devices → Bool
all_after p [] = true
all_after p (d ∷ ds) = comes_before p d.0 && all_after p ds

abbrev in_order : Devices → Bool
in_order [] = true
in_order (d ∷ ds) = all_after d.0 ds && in_order ds

both : (a b : Bool) → (a && b) ≡ true → (a ≡ true) × (b ≡ true)
both true b h = (refl, h)
both false b h = absurd cc

after_below : (p : Path) (ds : Devices) → all_after p ds ≡ true → Below p (map path_in ds)
after_below p [] h = tt
after_below p (d ∷ ds) h =
    let parts = both (comes_before p d.0) (all_after p ds) h in
    (before_less p d.0 parts.0, after_below p ds parts.1)

order_rises : (ds : Devices) → in_order ds ≡ true → Rises ds
unfolding IsStrictlySortedBy
order_rises [] h = tt
order_rises (d ∷ ds) h =
    let parts = both (all_after d.0 ds) (in_order ds) h in
    (after_below d.0 ds parts.0, order_rises ds parts.1)

after_take : (k : ℕ) (p : Path) (ds : Devices) → all_after p ds ≡ true → all_after p (take k ds) ≡ true
after_take zero p ds h = refl
after_take (suc k) p [] h = refl
after_take (suc k) p (d ∷ ds) h =
    let parts = both (comes_before p d.0) (all_after p ds) h in
    λ i. parts.0 i && after_take k p ds parts.1 i

order_take : (k : ℕ) (ds : Devices) → in_order ds ≡ true → in_order (take k ds) ≡ true
order_take zero ds h = refl
order_take (suc k) [] h = refl
order_take (suc k) (d ∷ ds) h =
    let parts = both (all_after d.0 ds) (in_order ds) h in
    λ i. after_take k d.0 ds parts.0 i && order_take k ds parts.1 i

pub ours_rise : (k : ℕ) → Rises (take k the_devices)
ours_rise k = order_rises (take k the_devices) (order_take k the_devices refl)

no_longer : (k : ℕ) (ds : Devices) → length (take k ds) ≤ length ds
no_longer zero ds = omega arith
no_longer (suc k) [] = omega arith
no_longer (suc k) (d ∷ ds) = omega (arith, no_longer k ds)

pub ours_few : (k : ℕ) → length (take k the_devices) ≤ 64
ours_few k = omega (arith, no_longer k the_devices)

-- a blank rack of the first of them has just these
pub blank_devices : {D : Type 0} (devs : D → Devices) (moment : D → ℕ) (state_at : D → ℕ → State) (reads : D → Path → ℕ) (k : ℕ) (given : Devices) (rack : D) → given ≡ take k the_devices → IsBlank devs moment state_at reads given rack → Rises (devs rack) → devs rack ≡ take k the_devices
blank_devices devs moment state_at reads k given rack is blank rises = same_devices (devs rack) (take k the_devices) rises (ours_rise k) (λ p. blank.devices p ∙ ap (λ (ds : Devices). sectors_of ds p) is)
