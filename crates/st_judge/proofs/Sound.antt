-- Candidates of looks are one and are records just where those of the devices are.
use Rattle.std.proofs.Common.{◌≡◌, ◌⊎◌, inl, inr, ℕ, zero, suc, ◌<◌, Bool, true, false, ◌&&◌, ◌||◌, cond, nat_eq, List, [], ◌∷◌, map, Option, Some, None, refl, sym, ◌∙◌, ap, subst, arith}
use Rattle.std.specs.Prelude.{not}
use Rattle.std.specs.List.{slice_get, list_all}
use Rattle.std.specs.Str.{bytes_eq}
use Rattle.std.proofs.lemmas.Slice.Eq.{bytes_eq-Decides}
use Rattle.std.proofs.lemmas.Bool.{and_parts, and_from, cases_Bool}
use Rattle.std.proofs.lemmas.Bool.Decides.{nat_tests}
use Rattle.st_fields.specs.Slot.{Found}
use Rattle.st_poolrec.specs.declared.record.PoolRec.{PoolRec}
use Rattle.st_rack.specs.Device.{Path, Image}
use Rattle.st_rack.specs.Calls.{Devices}
use Rattle.st_image.specs.Bears.{Candidate, AreRecords, SpellsPool, candidate}
use Rattle.st_looks.specs.declared.look.DevLook.{DevLook}
use Rattle.st_looks.specs.Looked.{looked}
use Rattle.st_judge.specs.Candidates.{even_of, odd_of, agrees, looks_agree, are_one}
use Rattle.st_judge.specs.Spelled.{IsSpelled, HasSpelled, AreSpelled}
use Rattle.st_judge.proofs.Lists.{all_at, all_from, mapped_at, at_mapped}
use Rattle.st_judge.proofs.Newest.{even_looked, odd_looked}

-- one of the two slots of a look holds it
abbrev pub OfLook : ℕ → DevLook → ℕ × List ℕ → Type 0
OfLook p look x = (even_of p look ≡ Some x) ⊎ (odd_of p look ≡ Some x)

same_number : (a b : ℕ) → nat_eq a b ≡ true → a ≡ b
same_number a b e = grind (arith, nat_tests)

numbers_eq : (a b : ℕ) → a ≡ b → nat_eq a b ≡ true
numbers_eq a b e = grind (arith, nat_tests)

agree_body : (x y : ℕ × List ℕ) → agrees (Some x) (Some y) ≡ true → x.0 ≡ y.0 → x.1 ≡ y.1
agree_body x y agree same =
    let e : nat_eq x.0 y.0 ≡ true = numbers_eq x.0 y.0 same in
    (bytes_eq-Decides x.1 y.1).0 (sym (ap (λ (b : Bool). not b || bytes_eq x.1 y.1) e) ∙ agree)

agree_from : (a b : Found) → ((x y : ℕ × List ℕ) → a ≡ Some x → b ≡ Some y → x.0 ≡ y.0 → x.1 ≡ y.1) → agrees a b ≡ true
agree_from None b one = refl
agree_from (Some x) None one = refl
agree_from (Some x) (Some y) one = elim (cases_Bool (nat_eq x.0 y.0)) [
  | inl e ↦ ap (λ (b : Bool). not b || bytes_eq x.1 y.1) e ∙ (bytes_eq-Decides x.1 y.1).1 (one x y refl refl (same_number x.0 y.0 e))
  | inr e ↦ ap (λ (b : Bool). not b || bytes_eq x.1 y.1) e
]

module _ (p : ℕ) (a b : DevLook) (x y : ℕ × List ℕ) where
  -- what two devices hold agrees
  looks_body : looks_agree p a b ≡ true → OfLook p a x → OfLook p b y → x.0 ≡ y.0 → x.1 ≡ y.1
  looks_body all one two =
      let first = and_parts (agrees (even_of p a) (even_of p b)) (agrees (even_of p a) (odd_of p b) && (agrees (odd_of p a) (even_of p b) && agrees (odd_of p a) (odd_of p b))) all in
      let second = and_parts (agrees (even_of p a) (odd_of p b)) (agrees (odd_of p a) (even_of p b) && agrees (odd_of p a) (odd_of p b)) first.1 in
      let third = and_parts (agrees (odd_of p a) (even_of p b)) (agrees (odd_of p a) (odd_of p b)) second.1 in
      by first.0 second.0 third.0 third.1 one two
    where
      with : (s t : Found) → agrees s t ≡ true → s ≡ Some x → t ≡ Some y → x.0 ≡ y.0 → x.1 ≡ y.1
      with s t agree e f = agree_body x y (sym (λ i. agrees (e i) (f i)) ∙ agree)

      by : agrees (even_of p a) (even_of p b) ≡ true → agrees (even_of p a) (odd_of p b) ≡ true → agrees (odd_of p a) (even_of p b) ≡ true → agrees (odd_of p a) (odd_of p b) ≡ true → OfLook p a x → OfLook p b y → x.0 ≡ y.0 → x.1 ≡ y.1
      by ee eo oe oo (inl e) (inl f) = with (even_of p a) (even_of p b) ee e f
      by ee eo oe oo (inl e) (inr f) = with (even_of p a) (odd_of p b) eo e f
      by ee eo oe oo (inr e) (inl f) = with (odd_of p a) (even_of p b) oe e f
      by ee eo oe oo (inr e) (inr f) = with (odd_of p a) (odd_of p b) oo e f

spelled_of : (found : Found) (x : ℕ × List ℕ) → found ≡ Some x → IsSpelled found → (rec : PoolRec) × SpellsPool x.1 rec
spelled_of found x is spelled = subst IsSpelled is spelled

module _ (p : ℕ) (devs : Devices) (c : Image) where
  looks : List DevLook
  looks = map (looked c) devs

  -- a candidate is in the look of its device
  of_place : (d : Path × ℕ) (place : ℕ) (x : ℕ × List ℕ) → place < 2 → candidate p d.1 place (c d.0) ≡ Some x → OfLook p (looked c d) x
  of_place d zero x lt found = inl (even_looked p c d ∙ found)
  of_place d (suc zero) x lt found = inr (odd_looked p c d ∙ found)
  of_place d (suc (suc n)) x lt found = absurd (omega arith)

  pub of_candidate : (x : ℕ × List ℕ) → Candidate p devs c x → (k : ℕ) × (look : DevLook) × (slice_get (map (looked c) devs) k ≡ Some look) × OfLook p look x
  of_candidate x one = (one.index, looked c one.dev, at_mapped (looked c) devs one.index one.dev one.of, of_place one.dev one.place x one.of_two one.found)

  pub candidate_of : (k : ℕ) (look : DevLook) (x : ℕ × List ℕ) → slice_get (map (looked c) devs) k ≡ Some look → OfLook p look x → Candidate p devs c x
  candidate_of k look x at of = by (mapped_at (looked c) devs k look at) of
    where
      by : (d : Path × ℕ) × (slice_get devs k ≡ Some d) × (looked c d ≡ look) → OfLook p look x → Candidate p devs c x
      by dev (inl even) = record { index = k; dev = dev.0; of = dev.1; place = 0; of_two = omega arith; found = sym (even_looked p c dev.0) ∙ ap (even_of p) dev.2 ∙ even }
      by dev (inr odd) = record { index = k; dev = dev.0; of = dev.1; place = 1; of_two = omega arith; found = sym (odd_looked p c dev.0) ∙ ap (odd_of p) dev.2 ∙ odd }

  pub sound_of_looks : are_one p (map (looked c) devs) ≡ true → AreSpelled p (map (looked c) devs) → AreRecords p devs c
  sound_of_looks are spelled = record {
    one = λ x y first second. (
        let a = of_candidate x first in
        let b = of_candidate y second in
        looks_body p a.1 b.1 x y (all_at (looks_agree p a.1) (map (looked c) devs) b.0 b.1 (all_at (λ l. list_all (looks_agree p l) (map (looked c) devs)) (map (looked c) devs) a.0 a.1 are a.2) b.2) a.3 b.3);
    each = λ x first. (let a = of_candidate x first in spelled_in a.1 x (spelled a.0 a.1 a.2) a.3);
  }
    where
      spelled_in : (look : DevLook) (x : ℕ × List ℕ) → HasSpelled p look → OfLook p look x → (rec : PoolRec) × SpellsPool x.1 rec
      spelled_in look x has (inl even) = spelled_of (even_of p look) x even has.0
      spelled_in look x has (inr odd) = spelled_of (odd_of p look) x odd has.1

  pub one_of_sound : AreRecords p devs c → are_one p (map (looked c) devs) ≡ true
  one_of_sound sound = all_from (λ l. list_all (looks_agree p l) (map (looked c) devs)) (map (looked c) devs) (λ k a at. all_from (looks_agree p a) (map (looked c) devs) (λ j b bt. both k a at j b bt))
    where
      same : (k : ℕ) (a : DevLook) → slice_get (map (looked c) devs) k ≡ Some a → (j : ℕ) (b : DevLook) → slice_get (map (looked c) devs) j ≡ Some b → (x y : ℕ × List ℕ) → OfLook p a x → OfLook p b y → x.0 ≡ y.0 → x.1 ≡ y.1
      same k a at j b bt x y of_a of_b e = sound.one x y (candidate_of k a x at of_a) (candidate_of j b y bt of_b) e

      both : (k : ℕ) (a : DevLook) → slice_get (map (looked c) devs) k ≡ Some a → (j : ℕ) (b : DevLook) → slice_get (map (looked c) devs) j ≡ Some b → looks_agree p a b ≡ true
      both k a at j b bt =
          and_from (agrees (even_of p a) (even_of p b)) _ (agree_from (even_of p a) (even_of p b) (λ x y e f. same k a at j b bt x y (inl e) (inl f)))
          (and_from (agrees (even_of p a) (odd_of p b)) _ (agree_from (even_of p a) (odd_of p b) (λ x y e f. same k a at j b bt x y (inl e) (inr f)))
          (and_from (agrees (odd_of p a) (even_of p b)) _ (agree_from (odd_of p a) (even_of p b) (λ x y e f. same k a at j b bt x y (inr e) (inl f)))
          (agree_from (odd_of p a) (odd_of p b) (λ x y e f. same k a at j b bt x y (inr e) (inr f)))))

  pub spelled_of_sound : AreRecords p devs c → AreSpelled p (map (looked c) devs)
  spelled_of_sound sound = λ k look at. (in_slot (even_of p look) (λ x e. sound.each x (candidate_of k look x at (inl e))), in_slot (odd_of p look) (λ x e. sound.each x (candidate_of k look x at (inr e))))
    where
      in_slot : (found : Found) → ((x : ℕ × List ℕ) → found ≡ Some x → (rec : PoolRec) × SpellsPool x.1 rec) → IsSpelled found
      in_slot None each = tt
      in_slot (Some x) each = each x refl
