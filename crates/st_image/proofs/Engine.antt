-- A rack stands for one state at most, and never for one and for none.
use Rattle.std.proofs.Common.{◌≡◌, inl, inr, ℕ, suc, ◌<◌, ◌≤◌, Bool, true, false, cond, eqb, List, [], ◌∷◌, length, Option, Some, None, refl, sym, ap, ◌∙◌, subst, arith}
use Rattle.std.specs.Prelude.{find, ◌==◌}
use Rattle.std.specs.List.{AllByRecursion}
use Rattle.std.proofs.lemmas.Bool.{eq-eqb, ne_eqb, cases_lt}
use Rattle.std.proofs.lemmas.Bool.Decides.{nat_tests}
use Rattle.st_limits.specs.declared.TheConstants.{MAX_POOLS}
use Rattle.st_model.specs.declared.state.EngineState.{EngineState}
use Rattle.st_model.specs.declared.state.PoolState.{PoolState}
use Rattle.st_model.specs.Found.{with_own_serial}
use Rattle.st_rack.specs.Device.{Image}
use Rattle.st_rack.specs.Calls.{Devices}
use Rattle.st_image.specs.Stands.{StandsFor}
use Rattle.st_image.specs.Rack.{IsSerial, SerialsRise, NamesDiffer, RackStands, IsKnown, KnownBelow, Breaks, IsForeign}
use Rattle.st_image.proofs.Unique.{stands_once}

-- the pool of a serial
abbrev pub pool_of : ℕ → List PoolState → Option PoolState
pool_of p pools = find (λ (q : PoolState). q.serial == p) pools

same_of : (a b : PoolState) → Some a ≡ Some b → a ≡ b
same_of a b e = cc

not_none : (a : PoolState) → Some a ≡ None → ⊥
not_none a e = cc

here : (x : PoolState) (xs : List PoolState) → pool_of x.serial (x ∷ xs) ≡ Some x
here x xs = ap (λ (b : Bool). cond b (Some x) (pool_of x.serial xs)) (eq-eqb x.serial x.serial refl)

missed : (p : ℕ) (x : PoolState) (xs : List PoolState) → eqb x.serial p ≡ false → pool_of p (x ∷ xs) ≡ pool_of p xs
missed p x xs e = ap (λ (b : Bool). cond b (Some x) (pool_of p xs)) e

above : (p : ℕ) (xs : List PoolState) → AllByRecursion (λ (q : PoolState). p < q.serial) xs → pool_of p xs ≡ None
above p [] all = refl
above p (x ∷ xs) all = missed p x xs (ne_eqb x.serial p (λ e. absurd (omega (arith, all.0, e)))) ∙ above p xs all.1

higher : (p q : ℕ) (xs : List PoolState) → p < q → AllByRecursion (λ (x : PoolState). q < x.serial) xs → AllByRecursion (λ (x : PoolState). p < x.serial) xs
higher p q [] lt all = tt
higher p q (x ∷ xs) lt all = (omega (arith, lt, all.0), higher p q xs lt all.1)

-- a lower head is in no list that begins above it
below_all : (x y : PoolState) (xs ys : List PoolState) → x.serial < y.serial → AllByRecursion (λ (q : PoolState). y.serial < q.serial) ys → pool_of x.serial (x ∷ xs) ≡ pool_of x.serial (y ∷ ys) → ⊥
below_all x y xs ys lt all e = not_none x (sym (here x xs) ∙ e ∙ above x.serial (y ∷ ys) (lt, higher x.serial y.serial ys lt all))

same_pools : (xs ys : List PoolState) → SerialsRise xs → SerialsRise ys → ((p : ℕ) → IsSerial p → pool_of p xs ≡ pool_of p ys) → xs ≡ ys
same_pools [] [] a b each = refl
same_pools [] (y ∷ ys) a b each = absurd (not_none y (sym (here y ys) ∙ sym (each y.serial b.0)))
same_pools (x ∷ xs) [] a b each = absurd (not_none x (sym (here x xs) ∙ each x.serial a.0))
same_pools (x ∷ xs) (y ∷ ys) a b each = elim (cases_lt x.serial y.serial) [
  | inl less ↦ absurd (below_all x y xs ys less b.1 (each x.serial a.0))
  | inr from ↦ elim (cases_lt y.serial x.serial) [
    | inl more ↦ absurd (below_all y x ys xs more a.1 (sym (each y.serial b.0)))
    | inr until ↦
        let one : x.serial ≡ y.serial = omega (arith, from, until) in
        let head : x ≡ y = same_of x y (sym (here x xs) ∙ each x.serial a.0 ∙ ap (λ (p : ℕ). pool_of p (y ∷ ys)) one ∙ here y ys) in
        let tail : xs ≡ ys = same_pools xs ys a.2 b.2 (λ p serial. rest p serial one) in
        λ i. head i ∷ tail i
  ]
]
  where
    rest : (p : ℕ) → IsSerial p → x.serial ≡ y.serial → pool_of p xs ≡ pool_of p ys
    rest p serial one = by (eqb x.serial p) refl
      where
        by : (t : Bool) → eqb x.serial p ≡ t → pool_of p xs ≡ pool_of p ys
        by true e =
            let is : x.serial ≡ p = grind (arith, nat_tests) in
            above p xs (subst (λ (n : ℕ). AllByRecursion (λ (q : PoolState). n < q.serial) xs) is a.1) ∙ sym (above p ys (subst (λ (n : ℕ). AllByRecursion (λ (q : PoolState). n < q.serial) ys) (sym one ∙ is) b.1))
        by false e = sym (missed p x xs e) ∙ each p serial ∙ missed p y ys (ap (λ (n : ℕ). eqb n p) (sym one) ∙ e)

pub rack_once : (devs : Devices) (c : Image) (s t : EngineState) → RackStands devs c s → RackStands devs c t → s ≡ t
rack_once devs c s t one two =
    let pools : s.pools ≡ t.pools = same_pools s.pools t.pools one.serials two.serials (λ p serial. stands_once p devs c (with_own_serial p s) (with_own_serial p t) (one.each p serial) (two.each p serial)) in
    λ i. record { pools = pools i; devices = (one.devices ∙ sym two.devices) i; next = (one.next ∙ sym two.next) i }

-- what is found is in the list
found_in_all : (P : PoolState → Type 0) (p : ℕ) (a : PoolState) (xs : List PoolState) → AllByRecursion P xs → pool_of p xs ≡ Some a → P a
found_in_all P p a [] all e = absurd (cc)
found_in_all P p a (x ∷ xs) all e = by (eqb x.serial p) e (found_in_all P p a xs all.1)
  where
    by : (t : Bool) → cond t (Some x) (pool_of p xs) ≡ Some a → (pool_of p xs ≡ Some a → P a) → P a
    by true e later = subst P (same_of x a e) all.0
    by false e later = later e

names_apart : (p q : ℕ) (a b : PoolState) (xs : List PoolState) → q < p → NamesDiffer xs → pool_of p xs ≡ Some a → pool_of q xs ≡ Some b → b.name ≡ a.name → ⊥
names_apart p q a b [] lt differ at_p at_q same = absurd (cc)
names_apart p q a b (x ∷ xs) lt differ at_p at_q same = by (eqb x.serial p) (eqb x.serial q) refl refl at_p at_q (λ u v. names_apart p q a b xs lt differ.1 u v same)
  where
    by : (t u : Bool) → eqb x.serial p ≡ t → eqb x.serial q ≡ u → cond t (Some x) (pool_of p xs) ≡ Some a → cond u (Some x) (pool_of q xs) ≡ Some b → (pool_of p xs ≡ Some a → pool_of q xs ≡ Some b → ⊥) → ⊥
    by true true e f at_p at_q later =
        let is_p : x.serial ≡ p = grind (arith, nat_tests) in
        let is_q : x.serial ≡ q = grind (arith, nat_tests) in
        absurd (omega (arith, is_p, is_q, lt))
    by true false e f at_p at_q later = found_in_all (λ (y : PoolState). x.name ≡ y.name → ⊥) q b xs differ.0 at_q (ap (λ (y : PoolState). y.name) (same_of x a at_p) ∙ sym same)
    by false true e f at_p at_q later = found_in_all (λ (y : PoolState). x.name ≡ y.name → ⊥) p a xs differ.0 at_p (ap (λ (y : PoolState). y.name) (same_of x b at_q) ∙ same)
    by false false e f at_p at_q later = later at_p at_q

-- serials that rise, up to p, and have each a pool among these
abbrev AllHere : List PoolState → ℕ → List ℕ → Type 0
AllHere xs p [] = (a : PoolState) × (pool_of p xs ≡ Some a)
AllHere xs p (q ∷ qs) = ((a : PoolState) × (pool_of q xs ≡ Some a)) × (q < p) × AllByRecursion (λ r. q < r) qs × AllHere xs p qs

-- so all are among the others, where the first pool is below them
without_first : (x : PoolState) (xs : List PoolState) (p : ℕ) (qs : List ℕ) → x.serial < p → AllByRecursion (λ r. x.serial < r) qs → AllHere (x ∷ xs) p qs → AllHere xs p qs
without_first x xs p [] lt low all = (all.0, sym (missed p x xs (ne_eqb x.serial p (λ e. absurd (omega (arith, lt, e))))) ∙ all.1)
without_first x xs p (q ∷ qs) lt low all =
    ((all.0.0, sym (missed q x xs (ne_eqb x.serial q (λ e. absurd (omega (arith, low.0, e))))) ∙ all.0.1), all.1, all.2, without_first x xs p qs lt low.1 all.3)

first_lower : (n q : ℕ) (qs : List ℕ) → n < q → AllByRecursion (λ r. q < r) qs → AllByRecursion (λ r. n < r) qs
first_lower n q [] lt all = tt
first_lower n q (r ∷ rs) lt all = (omega (arith, lt, all.0), first_lower n q rs lt all.1)

many_pools : (xs : List PoolState) (p : ℕ) (qs : List ℕ) → SerialsRise xs → AllHere xs p qs → suc (length qs) ≤ length xs
many_pools [] p [] rise all = absurd (cc)
many_pools [] p (q ∷ qs) rise all = absurd (nothing all.0.0 all.0.1)
  where
    nothing : (a : PoolState) → None ≡ Some a → ⊥
    nothing a e = cc
many_pools (x ∷ xs) p [] rise all = omega arith
many_pools (x ∷ xs) p (q ∷ qs) rise all = elim (cases_lt x.serial q) [
  | inl less ↦ let more = many_pools xs p (q ∷ qs) rise.2 (without_first x xs p (q ∷ qs) (omega (arith, less, all.1)) (less, first_lower x.serial q qs less all.2) all) in omega (arith, more)
  | inr from ↦ elim (cases_lt q x.serial) [
    | inl more ↦ absurd (not_none all.0.0 (sym all.0.1 ∙ above q (x ∷ xs) (more, higher q x.serial xs more rise.1)))
    | inr until ↦
        let is : q ≡ x.serial = omega (arith, from, until) in
        let rest = many_pools xs p qs rise.2 (without_first x xs p qs (omega (arith, until, all.1)) (subst (λ (n : ℕ). AllByRecursion (λ r. n < r) qs) is all.2) all.3) in
        omega (arith, rest)
  ]
]

-- What stands for pools of which the serials rise and the names differ, up to a serial, breaks no rule there.
module _ (devs : Devices) (c : Image) (pools : List PoolState) (rise : SerialsRise pools) (differ : NamesDiffer pools) (few : length pools ≤ MAX_POOLS) where
  module _ (p : ℕ) (each : (q : ℕ) → IsSerial q → q ≤ p → StandsFor q devs c (pool_of q pools)) where
    pool_there : (q : ℕ) (pool : PoolState) → IsSerial q → q ≤ p → StandsFor q devs c (Some pool) → pool_of q pools ≡ Some pool
    pool_there q pool serial le is = stands_once q devs c (pool_of q pools) (Some pool) (each q serial le) is

    all_there : (r : ℕ) (qs : List ℕ) → r ≤ p → IsSerial r → IsKnown devs c r → KnownBelow devs c r qs → AllHere pools r qs
    all_there r [] le serial known below = (known.0, pool_there r known.0 serial le known.1)
    all_there r (q ∷ qs) le serial known below = ((below.2.0, pool_there q below.2.0 below.0 (omega (arith, le, below.1)) below.2.1), below.1, below.3, all_there r qs le serial known below.4)

    pub breaks_none : IsSerial p → Breaks devs c p → ⊥
    breaks_none serial (inl none) = none (pool_of p pools) (each p serial (omega arith))
    breaks_none serial (inr (inl taken)) =
        names_apart p taken.1 taken.0 taken.2 pools taken.4 differ (pool_there p taken.0 serial (omega arith) taken.5) (pool_there taken.1 taken.2 taken.3 (omega (arith, taken.4)) taken.6) taken.7
    breaks_none serial (inr (inr many)) =
        let more = many_pools pools p many.1.0 rise (all_there p many.1.0 (omega arith) serial many.0 many.1.2) in
        let count = many.1.1 in
        absurd (omega (arith, more, few, count))

pub not_foreign : (devs : Devices) (c : Image) (s : EngineState) → RackStands devs c s → (p : ℕ) → IsForeign devs c p → ⊥
not_foreign devs c s stands p foreign = breaks_none devs c s.pools stands.serials stands.names stands.few p (λ q serial le. stands.each q serial) foreign.serial foreign.breaks
