-- The serials that more and more devices name.
use Rattle.std.proofs.Common.{◌≡◌, ◌⊎◌, inl, inr, ℕ, zero, suc, ◌+◌, ◌<◌, ◌≤◌, Bool, true, false, cond, leb, nat_lt, List, [], ◌∷◌, length, take, map, Option, Some, None, refl, sym, ◌∙◌, ap, subst, arith}
use Rattle.std.specs.Prelude.{max}
use Rattle.std.specs.List.{slice_get}
use Rattle.std.proofs.lemmas.Bool.{cases_lt}
use Rattle.std.proofs.lemmas.Option.{slice_get_within}
use Rattle.std.proofs.lemmas.Bool.Decides.{nat_tests}
use Rattle.st_rack.specs.Device.{Image}
use Rattle.st_rack.specs.Calls.{Devices}
use Rattle.st_image.specs.Rack.{greatest_over}
use Rattle.st_looks.specs.declared.look.DevLook.{DevLook}
use Rattle.st_looks.specs.Looked.{looked}
use Rattle.st_looks.specs.Serials.{greatest_in, greatest_among, header_serial, nearer, IsNextOf, IsNamed}

-- looks of devices name what the devices name
pub all_looked : (devs : Devices) (c : Image) (looks : List DevLook) → looks ≡ map (looked c) devs → greatest_among looks ≡ greatest_over devs c
all_looked devs c looks are = ap greatest_among are ∙ by devs
  where
    by : (ds : Devices) → greatest_among (map (looked c) ds) ≡ greatest_over ds c
    by [] = refl
    by (d ∷ ds) = ap (λ (n : ℕ). max (greatest_in (looked c d)) n) (by ds)

max_assoc : (a b c : ℕ) → max (max a b) c ≡ max a (max b c)
max_assoc a b c = omega arith

pub one_greater : (looks : List DevLook) (i : ℕ) (look : DevLook) → slice_get looks i ≡ Some look → max (greatest_among (take i looks)) (greatest_in look) ≡ greatest_among (take (suc i) looks)
one_greater [] i look is = absurd (cc)
one_greater (l ∷ ls) zero look is =
    let same : l ≡ look = cc in
    let n : max 0 (greatest_in look) ≡ max (greatest_in look) 0 = omega arith in
    n ∙ ap (λ (x : DevLook). max (greatest_in x) 0) (sym same)
one_greater (l ∷ ls) (suc i) look is = max_assoc (greatest_in l) (greatest_among (take i ls)) (greatest_in look) ∙ ap (λ (n : ℕ). max (greatest_in l) n) (one_greater ls i look is)

-- the first k devices
pub data NextUpTo (above : ℕ) (looks : List DevLook) (k : ℕ) (found : Option ℕ) : Type 0 where
  NoneYet : found ≡ None → ((j : ℕ) (look : DevLook) → j < k → slice_get looks j ≡ Some look → header_serial look ≤ above) → NextUpTo above looks k found
  OneYet : (n : ℕ) → found ≡ Some n → above < n → IsNamed looks n → ((j : ℕ) (look : DevLook) → j < k → slice_get looks j ≡ Some look → (header_serial look ≤ above) ⊎ (n ≤ header_serial look)) → NextUpTo above looks k found

same_look : (a b : DevLook) → Some a ≡ Some b → a ≡ b
same_look a b e = cc

below_more : (j k : ℕ) → j < k + 1 → (j < k) ⊎ (j ≡ k)
below_more j k lt = elim (cases_lt j k) [
  | inl less ↦ inl less
  | inr more ↦ inr (omega (arith, lt, more))
]

module _ (above : ℕ) (looks : List DevLook) (i : ℕ) (look : DevLook) (is : slice_get looks i ≡ Some look) where
  -- what is true of those before and of this one
  more : (P : DevLook → Type 0) → ((j : ℕ) (l : DevLook) → j < i → slice_get looks j ≡ Some l → P l) → P look → (j : ℕ) (l : DevLook) → j < i + 1 → slice_get looks j ≡ Some l → P l
  more P old new j l lt at = elim (below_more j i lt) [
    | inl less ↦ old j l less at
    | inr e ↦ subst P (same_look look l (sym is ∙ ap (slice_get looks) (sym e) ∙ at)) new
  ]

  abbrev pub s : ℕ
  s = header_serial look

  low : s ≤ above → leb s above ≡ true
  low le = grind (arith, nat_tests)

  high : above < s → leb s above ≡ false
  high lt = grind (arith, nat_tests)

  pub one_nearer : (found : Option ℕ) → NextUpTo above looks i found → NextUpTo above looks (i + 1) (nearer found s above)
  one_nearer None (NoneYet e old) = elim (cases_lt above s) [
    | inl lt ↦ OneYet s (ap (λ (b : Bool). cond b None (Some s)) (high lt)) lt (record { index = i; look = look; of = is; header = refl }) (more (λ l. (header_serial l ≤ above) ⊎ (s ≤ header_serial l)) (λ j l less at. inl (old j l less at)) (inr (omega arith)))
    | inr le ↦ NoneYet (ap (λ (b : Bool). cond b None (Some s)) (low le)) (more (λ l. header_serial l ≤ above) old le)
  ]
  one_nearer None (OneYet n e lt named old) = absurd (cc)
  one_nearer (Some n) (NoneYet e old) = absurd (cc)
  one_nearer (Some m) (OneYet n e lt named old) =
      let same : m ≡ n = some_same m n e in
      subst (λ (x : ℕ). NextUpTo above looks (i + 1) (nearer (Some x) s above)) (sym same) (elim (cases_lt above s) [
        | inl up ↦ elim (cases_lt s n) [
          | inl less ↦ OneYet s (ap (λ (b : Bool). cond b (Some n) (cond (nat_lt s n) (Some s) (Some n))) (high up) ∙ ap (λ (b : Bool). cond b (Some s) (Some n)) (is_less s n less)) up (record { index = i; look = look; of = is; header = refl })
              (more (λ l. (header_serial l ≤ above) ⊎ (s ≤ header_serial l)) (λ j l before at. nearer_still (header_serial l) less (old j l before at)) (inr (omega arith)))
          | inr not ↦ OneYet n (ap (λ (b : Bool). cond b (Some n) (cond (nat_lt s n) (Some s) (Some n))) (high up) ∙ ap (λ (b : Bool). cond b (Some s) (Some n)) (is_not_less s n not)) lt named (more (λ l. (header_serial l ≤ above) ⊎ (n ≤ header_serial l)) old (inr not))
        ]
        | inr le ↦ OneYet n (ap (λ (b : Bool). cond b (Some n) (cond (nat_lt s n) (Some s) (Some n))) (low le)) lt named (more (λ l. (header_serial l ≤ above) ⊎ (n ≤ header_serial l)) old (inl le))
      ])
    where
      some_same : (a b : ℕ) → Some a ≡ Some b → a ≡ b
      some_same a b e = cc

      is_less : (a b : ℕ) → a < b → nat_lt a b ≡ true
      is_less a b lt = grind (arith, nat_tests)

      is_not_less : (a b : ℕ) → b ≤ a → nat_lt a b ≡ false
      is_not_less a b le = grind (arith, nat_tests)

      nearer_still : (h : ℕ) → s < n → (h ≤ above) ⊎ (n ≤ h) → (h ≤ above) ⊎ (s ≤ h)
      nearer_still h less (inl a) = inl a
      nearer_still h less (inr b) = inr (omega (arith, less, b))

-- all devices
pub next_of_all : (above : ℕ) (looks : List DevLook) (n : ℕ) (found : Option ℕ) → length looks ≤ n → NextUpTo above looks n found → IsNextOf above looks found
next_of_all above looks n None all (NoneYet e old) = λ k look at. (let lt = slice_get_within looks k look at in old k look (omega (arith, lt, all)) at)
next_of_all above looks n None all (OneYet m e lt named old) = absurd (cc)
next_of_all above looks n (Some m) all (NoneYet e old) = absurd (cc)
next_of_all above looks n (Some m) all (OneYet k e lt named old) =
    let same : m ≡ k = some_is m k e in
    subst (λ (x : ℕ). IsNextOf above looks (Some x)) (sym same) (lt, (named, λ j look at. (let within = slice_get_within looks j look at in old j look (omega (arith, within, all)) at)))
  where
    some_is : (a b : ℕ) → Some a ≡ Some b → a ≡ b
    some_is a b e = cc
