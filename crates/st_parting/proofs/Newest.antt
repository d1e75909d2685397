-- The newest candidate is one of them, and none is newer; so it is told by which candidates there are.
use Rattle.std.proofs.Common.{◌≡◌, ◌⊎◌, inl, inr, ℕ, zero, suc, ◌<◌, ◌≤◌, Bool, true, false, cond, nat_lt, List, [], ◌∷◌, Some, None, refl, sym, ◌∙◌, ap, subst, arith}
use Rattle.std.specs.List.{slice_get}
use Rattle.std.proofs.lemmas.Bool.{cases_lt}
use Rattle.std.proofs.lemmas.Bool.Decides.{nat_tests}
use Rattle.st_fields.specs.Slot.{Found}
use Rattle.st_slots.specs.Reading.{newer}
use Rattle.st_rack.specs.Device.{Path, Image}
use Rattle.st_rack.specs.Calls.{Devices}
use Rattle.st_image.specs.Bears.{Candidate, candidate, newest_on, newest_over}

pub some_same : {X : Type 0} (x y : X) → Some x ≡ Some y → x ≡ y
some_same x y e = cc

pub none_some : {X : Type 0} (x : X) → None ≡ Some x → ⊥
none_some x e = cc

less : (a b : ℕ) → a < b → nat_lt a b ≡ true
less a b lt = grind (arith, nat_tests)

not_less : (a b : ℕ) → b ≤ a → nat_lt a b ≡ false
not_less a b le = grind (arith, nat_tests)

takes : (x y : ℕ × List ℕ) → x.0 < y.0 → newer (Some x) (Some y) ≡ Some y
takes x y lt = ap (λ (b : Bool). cond b (Some y) (Some x)) (less x.0 y.0 lt)

stays : (x y : ℕ × List ℕ) → y.0 ≤ x.0 → newer (Some x) (Some y) ≡ Some x
stays x y le = ap (λ (b : Bool). cond b (Some y) (Some x)) (not_less x.0 y.0 le)

-- the newer of two is one of them
pub one_of_two : (a b : Found) (x : ℕ × List ℕ) → newer a b ≡ Some x → (a ≡ Some x) ⊎ (b ≡ Some x)
one_of_two None b x is = inr is
one_of_two (Some a) None x is = inl is
one_of_two (Some a) (Some b) x is = by (nat_lt a.0 b.0) is
  where
    by : (t : Bool) → cond t (Some b) (Some a) ≡ Some x → (Some a ≡ Some x) ⊎ (Some b ≡ Some x)
    by true e = inr e
    by false e = inl e

-- of no generation above n
abbrev pub AtMost : ℕ → Found → Type 0
AtMost n None = Unit {0}
AtMost n (Some x) = x.0 ≤ n

most_parts : (n : ℕ) (a b : Found) → AtMost n (newer a b) → AtMost n a × AtMost n b
most_parts n None b most = (tt, most)
most_parts n (Some x) None most = (most, tt)
most_parts n (Some x) (Some y) most = elim (cases_lt x.0 y.0) [
  | inl lt ↦ let le : y.0 ≤ n = subst (AtMost n) (takes x y lt) most in (omega (arith, lt, le), le)
  | inr ge ↦ let le : x.0 ≤ n = subst (AtMost n) (stays x y ge) most in (le, omega (arith, ge, le))
]

pub most_of : (n : ℕ) (o : Found) (x : ℕ × List ℕ) → o ≡ Some x → AtMost n o → x.0 ≤ n
most_of n o x is most = subst (AtMost n) is most

-- none where neither is there
pub none_parts : (a b : Found) → newer a b ≡ None → (a ≡ None) × (b ≡ None)
none_parts None b none = (refl, none)
none_parts (Some x) None none = absurd (cc)
none_parts (Some x) (Some y) none = by (nat_lt x.0 y.0) none
  where
    by : (t : Bool) → cond t (Some y) (Some x) ≡ None → (Some x ≡ None) × (Some y ≡ None)
    by true e = absurd (cc)
    by false e = absurd (cc)

-- on one device
pub on_is : (p n : ℕ) (f : ℕ → ℕ) (x : ℕ × List ℕ) → newest_on p n f ≡ Some x → (place : ℕ) × (place < 2) × (candidate p n place f ≡ Some x)
on_is p n f x is = elim (one_of_two (candidate p n 0 f) (candidate p n 1 f) x is) [
  | inl even ↦ (0, omega arith, even)
  | inr odd ↦ (1, omega arith, odd)
]

pub on_most : (p n : ℕ) (f : ℕ → ℕ) (m place : ℕ) (x : ℕ × List ℕ) → place < 2 → candidate p n place f ≡ Some x → AtMost m (newest_on p n f) → x.0 ≤ m
on_most p n f m zero x lt is most = most_of m (candidate p n 0 f) x is (most_parts m (candidate p n 0 f) (candidate p n 1 f) most).0
on_most p n f m (suc zero) x lt is most = most_of m (candidate p n 1 f) x is (most_parts m (candidate p n 0 f) (candidate p n 1 f) most).1
on_most p n f m (suc (suc k)) x lt is most = absurd (omega arith)

pub on_none : (p n : ℕ) (f : ℕ → ℕ) (place : ℕ) (x : ℕ × List ℕ) → place < 2 → newest_on p n f ≡ None → candidate p n place f ≡ Some x → ⊥
on_none p n f zero x lt none is = none_some x (sym (none_parts (candidate p n 0 f) (candidate p n 1 f) none).0 ∙ is)
on_none p n f (suc zero) x lt none is = none_some x (sym (none_parts (candidate p n 0 f) (candidate p n 1 f) none).1 ∙ is)
on_none p n f (suc (suc k)) x lt none is = absurd (omega arith)

module _ (p : ℕ) (c : Image) where
  behind : (d : Path × ℕ) (ds : Devices) (x : ℕ × List ℕ) → Candidate p ds c x → Candidate p (d ∷ ds) c x
  behind d ds x one = record { index = suc one.index; dev = one.dev; of = one.of; place = one.place; of_two = one.of_two; found = one.found }

  pub newest_is : (devs : Devices) (x : ℕ × List ℕ) → newest_over p devs c ≡ Some x → Candidate p devs c x
  newest_is [] x is = absurd (none_some x is)
  newest_is (d ∷ ds) x is = elim (one_of_two (newest_on p d.1 (c d.0)) (newest_over p ds c) x is) [
    | inl own ↦ let here = on_is p d.1 (c d.0) x own in record { index = 0; dev = d; of = refl; place = here.0; of_two = here.1; found = here.2 }
    | inr rest ↦ behind d ds x (newest_is ds x rest)
  ]

  pub all_most : (devs : Devices) (n : ℕ) (y : ℕ × List ℕ) → AtMost n (newest_over p devs c) → Candidate p devs c y → y.0 ≤ n
  all_most [] n y most one = absurd (none_some one.dev one.of)
  all_most (d ∷ ds) n y most one = by one.index one.of (λ most later. all_most ds n y most later)
    where
      both : AtMost n (newest_on p d.1 (c d.0)) × AtMost n (newest_over p ds c)
      both = most_parts n (newest_on p d.1 (c d.0)) (newest_over p ds c) most

      by : (k : ℕ) → slice_get (d ∷ ds) k ≡ Some one.dev → (AtMost n (newest_over p ds c) → Candidate p ds c y → y.0 ≤ n) → y.0 ≤ n
      by zero at rest = on_most p d.1 (c d.0) n one.place y one.of_two (subst (λ (e : Path × ℕ). candidate p e.1 one.place (c e.0) ≡ Some y) (sym (some_same d one.dev at)) one.found) both.0
      by (suc k) at rest = rest both.1 (record { index = k; dev = one.dev; of = at; place = one.place; of_two = one.of_two; found = one.found })

  pub none_all : (devs : Devices) (y : ℕ × List ℕ) → newest_over p devs c ≡ None → Candidate p devs c y → ⊥
  none_all [] y none one = none_some one.dev one.of
  none_all (d ∷ ds) y none one = by one.index one.of (λ none later. none_all ds y none later)
    where
      both : (newest_on p d.1 (c d.0) ≡ None) × (newest_over p ds c ≡ None)
      both = none_parts (newest_on p d.1 (c d.0)) (newest_over p ds c) none

      by : (k : ℕ) → slice_get (d ∷ ds) k ≡ Some one.dev → (newest_over p ds c ≡ None → Candidate p ds c y → ⊥) → ⊥
      by zero at rest = on_none p d.1 (c d.0) one.place y one.of_two both.0 (subst (λ (e : Path × ℕ). candidate p e.1 one.place (c e.0) ≡ Some y) (sym (some_same d one.dev at)) one.found)
      by (suc k) at rest = rest both.1 (record { index = k; dev = one.dev; of = at; place = one.place; of_two = one.of_two; found = one.found })

  pub newest_most : (devs : Devices) (x y : ℕ × List ℕ) → newest_over p devs c ≡ Some x → Candidate p devs c y → y.0 ≤ x.0
  newest_most devs x y is one = all_most devs x.0 y (subst (AtMost x.0) (sym is) (omega arith)) one

-- the same candidates, of which two of one generation have one body, have one newest
pub same_newest : (p : ℕ) (a b : Devices) (c m : Image) → ((x : ℕ × List ℕ) → Candidate p a c x → Candidate p b m x) → ((x : ℕ × List ℕ) → Candidate p b m x → Candidate p a c x)
    → ((x y : ℕ × List ℕ) → Candidate p a c x → Candidate p a c y → x.0 ≡ y.0 → x.1 ≡ y.1) → newest_over p a c ≡ newest_over p b m
same_newest p a b c m to from one = by (newest_over p a c) (newest_over p b m) refl refl
  where
    by : (o u : Found) → newest_over p a c ≡ o → newest_over p b m ≡ u → o ≡ u
    by None None e f = refl
    by None (Some y) e f = absurd (none_all p c a y e (from y (newest_is p m b y f)))
    by (Some x) None e f = absurd (none_all p m b x f (to x (newest_is p c a x e)))
    by (Some x) (Some y) e f =
        let of_x = newest_is p c a x e in
        let of_y = from y (newest_is p m b y f) in
        let le : x.0 ≤ y.0 = newest_most p m b y x f (to x of_x) in
        let ge : y.0 ≤ x.0 = newest_most p c a x y e of_y in
        let same : x.0 ≡ y.0 = omega (arith, le, ge) in
        let body : x.1 ≡ y.1 = one x y of_x of_y same in
        λ i. Some (same i, body i)
