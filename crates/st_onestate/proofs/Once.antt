-- Two states that the same devices stand for are one.
use mathlib.Core.HLevel.{Σ_prop_path}
use mathlib.Core.Logic.{∥∥₁_elim, ∥∥₁_prop}
use Rattle.std.proofs.Common.{◌≡◌, ◌⊎◌, inl, inr, ℕ, ◌<◌, ◌≤◌, Bool, true, false, cond, List, [], ◌∷◌, Option, Some, None, refl, sym, ◌∙◌, ap, subst, arith}
use Rattle.std.specs.Prelude.{find, ◌==◌}
use Rattle.std.specs.Coded.{Coded-set}
use Rattle.std.specs.List.{AllByRecursion}
use Rattle.std.proofs.lemmas.Bool.{cases_lt}
use Rattle.std.proofs.lemmas.Bool.Decides.{Decides-eqb}
use Rattle.st_model.specs.contracts.state.EngineState.{the_row}
use Rattle.st_model.specs.declared.state.EngineState.{EngineState}
use Rattle.st_model.specs.declared.state.PoolState.{PoolState}
use Rattle.st_rack.specs.Device.{Image}
use Rattle.st_rack.specs.Calls.{Devices}
use Rattle.st_image.specs.Rack.{IsSerial, RackStands, SerialsRise}
use Rattle.st_image.proofs.Unique.{stands_once}
use Rattle.st_onestate.specs.Once.{StandsAsOne, TheState}

abbrev at : ℕ → List PoolState → Option PoolState
at p ps = find (λ (q : PoolState). q.serial == p) ps

self : (n : ℕ) → (n == n) ≡ true
self n = (Decides-eqb n n).1 refl

other : (n m : ℕ) → (n ≡ m → ⊥) → (n == m) ≡ false
other n m never = here (n == m) refl
  where
    here : (b : Bool) → (n == m) ≡ b → b ≡ false
    here true e = absurd (never ((Decides-eqb n m).0 e))
    here false e = refl

not_below : (n m k : ℕ) → n < k → m ≤ n → k ≡ m → ⊥
not_below n m k lt le same = omega (arith, lt, le, same)

-- a serial below all
none_below : (n m : ℕ) (ps : List PoolState) → AllByRecursion (λ (q : PoolState). n < q.serial) ps → m ≤ n → at m ps ≡ None
none_below n m [] h le = refl
none_below n m (q ∷ ps) h le = ap (λ (b : Bool). cond b (Some q) (at m ps)) (other q.serial m (not_below n m q.serial h.0 le)) ∙ none_below n m ps h.1 le

none_some : (x : PoolState) → None ≡ Some x → ⊥
none_some x e = cc

some_same : (x y : PoolState) → Some x ≡ Some y → x ≡ y
some_same x y e = cc

later : (n m k : ℕ) → n < m → m < k → n < k
later n m k a b = omega (arith, a, b)

all_later : (n m : ℕ) (ps : List PoolState) → n < m → AllByRecursion (λ (q : PoolState). m < q.serial) ps → AllByRecursion (λ (q : PoolState). n < q.serial) ps
all_later n m [] lt h = tt
all_later n m (q ∷ ps) lt h = (later n m q.serial lt h.0, all_later n m ps lt h.1)

le_self : (n : ℕ) → n ≤ n
le_self n = omega arith

-- the first has its serial alone
first_at : (x : PoolState) (xs : List PoolState) → at x.serial (x ∷ xs) ≡ Some x
first_at x xs = ap (λ (b : Bool). cond b (Some x) (at x.serial xs)) (self x.serial)

-- a list that begins with a higher serial doesn't have the first of the other
higher : (x y : PoolState) (xs ys : List PoolState) → x.serial < y.serial → AllByRecursion (λ (q : PoolState). y.serial < q.serial) ys → at x.serial (x ∷ xs) ≡ at x.serial (y ∷ ys) → ⊥
higher x y xs ys lt rise same = none_some x (sym (none_below x.serial x.serial (y ∷ ys) (lt, all_later x.serial y.serial ys lt rise) (le_self x.serial)) ∙ (sym same ∙ first_at x xs))

equal_both : (n m : ℕ) → m ≤ n → n ≤ m → n ≡ m
equal_both n m a b = omega (arith, a, b)

rest_same : (x : PoolState) (xs ys : List PoolState) → AllByRecursion (λ (q : PoolState). x.serial < q.serial) xs → AllByRecursion (λ (q : PoolState). x.serial < q.serial) ys → (p : ℕ) → at p (x ∷ xs) ≡ at p (x ∷ ys) → at p xs ≡ at p ys
rest_same x xs ys rise_x rise_y p same = here (x.serial == p) refl same
  where
    here : (b : Bool) → (x.serial == p) ≡ b → cond b (Some x) (at p xs) ≡ cond b (Some x) (at p ys) → at p xs ≡ at p ys
    here true e k =
        let is : x.serial ≡ p = (Decides-eqb x.serial p).0 e in
        subst (λ (n : ℕ). at n xs ≡ at n ys) is (none_below x.serial x.serial xs rise_x (le_self x.serial) ∙ sym (none_below x.serial x.serial ys rise_y (le_self x.serial)))
    here false e k = k

pools_once : (xs ys : List PoolState) → SerialsRise xs → SerialsRise ys → ((p : ℕ) → IsSerial p → at p xs ≡ at p ys) → xs ≡ ys
pools_once [] [] rx ry same = refl
pools_once [] (y ∷ ys) rx ry same = absurd (none_some y (same y.serial ry.0 ∙ first_at y ys))
pools_once (x ∷ xs) [] rx ry same = absurd (none_some x (sym (same x.serial rx.0) ∙ first_at x xs))
pools_once (x ∷ xs) (y ∷ ys) rx ry same = here (cases_lt x.serial y.serial) (cases_lt y.serial x.serial) (λ rest. pools_once xs ys rx.2 ry.2 rest)
  where
    here : (x.serial < y.serial) ⊎ (y.serial ≤ x.serial) → (y.serial < x.serial) ⊎ (x.serial ≤ y.serial) → (((p : ℕ) → IsSerial p → at p xs ≡ at p ys) → xs ≡ ys) → x ∷ xs ≡ y ∷ ys
    here (inl lt) d ih = absurd (higher x y xs ys lt ry.1 (same x.serial rx.0))
    here (inr ge) (inl lt) ih = absurd (higher y x ys xs lt rx.1 (sym (same y.serial ry.0)))
    here (inr ge) (inr le) ih =
        let number : x.serial ≡ y.serial = equal_both x.serial y.serial ge le in
        let one : x ≡ y = some_same x y (sym (first_at x xs) ∙ (same x.serial rx.0 ∙ (ap (λ (n : ℕ). at n (y ∷ ys)) number ∙ first_at y ys))) in
        let tail : xs ≡ ys = ih (λ p of. rest_same x xs ys rx.1 (subst (λ (z : PoolState). AllByRecursion (λ (q : PoolState). z.serial < q.serial) ys) (sym one) ry.1) p (same p of ∙ ap (λ (z : PoolState). at p (z ∷ ys)) (sym one))) in
        λ i. one i ∷ tail i

pub state_once : StandsAsOne
state_once devs c a b sa sb =
    let pools = pools_once a.pools b.pools sa.serials sb.serials (λ p of. stands_once p devs c (at p a.pools) (at p b.pools) (sa.each p of) (sb.each p of)) in
    let devices = sa.devices ∙ sym sb.devices in
    let next = sa.next ∙ sym sb.next in
    λ i. record { pools = pools i; devices = devices i; next = next i }

-- the states are apart or the same, and no more is told of two that are the same
pub states_set : (a b : EngineState) → IsProp (a ≡ b)
states_set = Coded-set the_row.coded

pub the_state_prop : (devs : Devices) (c : Image) → IsProp (TheState devs c)
the_state_prop devs c x y = Σ_prop_path (λ (e : EngineState). ∥∥₁_prop {A = RackStands devs c e})
    (∥∥₁_elim x.1 (states_set x.0 y.0) (λ a. ∥∥₁_elim y.1 (states_set x.0 y.0) (λ b. state_once devs c x.0 y.0 a b)))

-- it is the one that they are known to stand for
pub is_the_state : (devs : Devices) (c : Image) (e : EngineState) (x : TheState devs c) → RackStands devs c e → x.0 ≡ e
is_the_state devs c e x stands = ∥∥₁_elim x.1 (states_set x.0 e) (λ a. state_once devs c x.0 e a stands)
