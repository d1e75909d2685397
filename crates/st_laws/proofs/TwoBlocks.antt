-- sectors of a filesystem of which two blocks, or one, are written
use Rattle.std.proofs.Common.{◌≡◌, ℕ, zero, suc, ◌+◌, ◌-◌, ◌*◌, ◌/◌, ◌%◌, ◌<◌, ◌≤◌, ◌==◌, ◌⊎◌, inl, inr, List, [], ◌∷◌, length, take, drop, Bool, true, false, nat_lt, min, refl, sym, ap, ◌∙◌, arith, length-drop}
use Rattle.std.proofs.lemmas.Grind.{common_steps}
use Rattle.std.proofs.Math.Nat.{min-le_left, min-le_right, min-eq_left, min-eq_right}
use Rattle.st_model.specs.InPlace.{over}
use Rattle.st_laws.proofs.Sectors.{is_place, place_of, sector-in, sector-out}

drop_nil : (n : ℕ) → drop {A = ℕ} n [] ≡ []
drop_nil zero = refl
drop_nil (suc n) = refl

drop_drop : (a b m : ℕ) (xs : List ℕ) → m ≡ b + a → drop a (drop b xs) ≡ drop m xs
drop_drop a zero m xs e = ap (λ n. drop n xs) (let same : a ≡ m = omega (arith, e) in same)
drop_drop a (suc b) m [] e = drop_nil a ∙ sym (drop_nil m)
drop_drop a (suc b) zero (x ∷ xs) e = absurd (let no : ⊥ = omega (arith, e) in no)
drop_drop a (suc b) (suc m) (x ∷ xs) e = drop_drop a b m xs (let same : m ≡ b + a = omega (arith, e) in same)

module _ (A B : ℕ → List ℕ) (full : (b : ℕ) → length (B b) ≡ 65536) (sector n : ℕ) (bytes : List ℕ) (long : 512 * n ≤ length bytes) (some : 1 ≤ n) (most : n ≤ 128) where
  abbrev pub here : ℕ
  here = min n (128 - sector % 128)

  abbrev pub IsFirst : Type 0
  IsFirst = A (sector / 128) ≡ over (B (sector / 128)) (512 * (sector % 128)) (take (512 * here) bytes)

  abbrev pub IsSecond : Type 0
  IsSecond = (here == n) ≡ false → A (sector / 128 + 1) ≡ over (B (sector / 128 + 1)) (512 * 0) (take (512 * min (n - here) 128) (drop (512 * here) bytes))

  abbrev pub IsRest : Type 0
  IsRest = (block : ℕ) → (block ≡ sector / 128 → ⊥) → ((here == n) ≡ false → block ≡ sector / 128 + 1 → ⊥) → A block ≡ B block

  few : here ≤ n
  few = min-le_left n (128 - sector % 128)

  inside : sector % 128 + here ≤ 128
  inside = let less = min-le_right n (128 - sector % 128) in let low = (is_place sector).1 in omega (arith, less, low)

  enough : 512 * here ≤ length bytes
  enough = let less = few in omega (arith, long, less)

  -- where the sectors go on in the next block, the first is written to its end
  to_end : (here == n) ≡ false → here ≡ 128 - sector % 128
  to_end e = min-eq_right {n = 128 - sector % 128} {m = n} (above (128 - sector % 128) e)
    where
      above : (m : ℕ) → (min n m == n) ≡ false → m ≤ n
      above m e = grind (arith, common_steps, min-eq_left)

  next : ℕ
  next = n - here

  all_next : min (n - here) 128 ≡ n - here
  all_next = min-eq_left {n = n - here} {m = 128} (omega (arith, most))

  enough_next : 512 * min (n - here) 128 ≤ length (drop (512 * here) bytes)
  enough_next =
      let is : length (drop (512 * here) bytes) ≡ length bytes - 512 * here = length-drop (512 * here) bytes in
      let same = all_next in
      let less = few in
      omega (arith, is, same, long, less)

  inside_next : 0 + min (n - here) 128 ≤ 128
  inside_next = let less = min-le_right (n - here) 128 in omega (arith, less)

  module _ (first : IsFirst) (second : IsSecond) where
    back_first : (k : ℕ) → k < here → take 512 (drop (512 * ((sector + k) % 128)) (A ((sector + k) / 128))) ≡ take 512 (drop (512 * k) bytes)
    back_first k low =
        let at = is_place sector in
        let start = at.0 in
        let fits = inside in
        let pl = place_of (sector + k) (sector / 128) (sector % 128 + k) (omega (arith, low, fits)) (omega (arith, start)) in
        let same : sector % 128 + k - sector % 128 ≡ k = omega arith in
        ap (λ b. take 512 (drop (512 * ((sector + k) % 128)) (A b))) pl.in_block
        ∙ ap (λ j. take 512 (drop (512 * j) (A (sector / 128)))) pl.place
        ∙ ap (λ (l : List ℕ). take 512 (drop (512 * (sector % 128 + k)) l)) first
        ∙ sector-in (B (sector / 128)) bytes (sector % 128) here (sector % 128 + k) (full (sector / 128)) enough inside (omega arith) (omega (arith, low))
        ∙ ap (λ j. take 512 (drop (512 * j) bytes)) same

    back_next : (k : ℕ) → here ≤ k → k < n → take 512 (drop (512 * ((sector + k) % 128)) (A ((sector + k) / 128))) ≡ take 512 (drop (512 * k) bytes)
    back_next k low high =
        let at = is_place sector in
        let start = at.0 in
        let below = at.1 in
        let more : (here == n) ≡ false = not_all here low in
        let end = to_end more in
        let whole = all_next in
        let pl = place_of (sector + k) (sector / 128 + 1) (k - here) (omega (arith, low, high, most, end, below)) (omega (arith, start, below, end, low)) in
        let place : 512 * k ≡ 512 * here + 512 * (k - here - 0) = omega (arith, low) in
        ap (λ b. take 512 (drop (512 * ((sector + k) % 128)) (A b))) pl.in_block
        ∙ ap (λ j. take 512 (drop (512 * j) (A (sector / 128 + 1)))) pl.place
        ∙ ap (λ (l : List ℕ). take 512 (drop (512 * (k - here)) l)) (second more)
        ∙ sector-in (B (sector / 128 + 1)) (drop (512 * here) bytes) 0 (min (n - here) 128) (k - here) (full (sector / 128 + 1)) enough_next inside_next (omega arith) (omega (arith, whole, high, low))
        ∙ ap (take 512) (drop_drop (512 * (k - here - 0)) (512 * here) (512 * k) bytes place)
      where
        not_all : (m : ℕ) → m ≤ k → (m == n) ≡ false
        not_all m l = grind (arith, common_steps)

    -- a sector that was written
    pub read-back : (k : ℕ) → k < n → take 512 (drop (512 * ((sector + k) % 128)) (A ((sector + k) / 128))) ≡ take 512 (drop (512 * k) bytes)
    read-back k high = by (nat_lt k here) refl
      where
        below : nat_lt k here ≡ true → k < here
        below e = grind (arith, common_steps)

        above : nat_lt k here ≡ false → here ≤ k
        above e = grind (arith, common_steps)

        by : (b : Bool) → nat_lt k here ≡ b → take 512 (drop (512 * ((sector + k) % 128)) (A ((sector + k) / 128))) ≡ take 512 (drop (512 * k) bytes)
        by true e = back_first k (below e)
        by false e = back_next k (above e) high

    module _ (rest : IsRest) (k : ℕ) (out : sector ≤ k → k < sector + n → ⊥) where
      in_first : k / 128 ≡ sector / 128 → take 512 (drop (512 * (k % 128)) (A (k / 128))) ≡ take 512 (drop (512 * (k % 128)) (B (k / 128)))
      in_first e =
          ap (λ b. take 512 (drop (512 * (k % 128)) (A b))) e
          ∙ ap (λ (l : List ℕ). take 512 (drop (512 * (k % 128)) l)) first
          ∙ sector-out (B (sector / 128)) bytes (sector % 128) here (k % 128) (full (sector / 128)) enough inside (by (nat_lt (k % 128) (sector % 128)) refl (nat_lt (k % 128) (sector % 128 + here)) refl)
          ∙ sym (ap (λ b. take 512 (drop (512 * (k % 128)) (B b))) e)
        where
          lower : nat_lt (k % 128) (sector % 128) ≡ true → k % 128 < sector % 128
          lower h = grind (arith, common_steps)

          no_lower : nat_lt (k % 128) (sector % 128) ≡ false → sector % 128 ≤ k % 128
          no_lower h = grind (arith, common_steps)

          within : nat_lt (k % 128) (sector % 128 + here) ≡ true → k % 128 < sector % 128 + here
          within h = grind (arith, common_steps)

          behind : nat_lt (k % 128) (sector % 128 + here) ≡ false → sector % 128 + here ≤ k % 128
          behind h = grind (arith, common_steps)

          by : (b : Bool) → nat_lt (k % 128) (sector % 128) ≡ b → (c : Bool) → nat_lt (k % 128) (sector % 128 + here) ≡ c → (k % 128 < sector % 128) ⊎ (sector % 128 + here ≤ k % 128)
          by true x c y = inl (lower x)
          by false x false y = inr (behind y)
          by false x true y =
              let low = no_lower x in
              let high = within y in
              let start = (is_place sector).0 in
              let mine = (is_place k).0 in
              let less = few in
              absurd (out (omega (arith, low, start, mine, e)) (omega (arith, high, start, mine, e, less)))

      in_second : (here == n) ≡ false → k / 128 ≡ sector / 128 + 1 → take 512 (drop (512 * (k % 128)) (A (k / 128))) ≡ take 512 (drop (512 * (k % 128)) (B (k / 128)))
      in_second more e =
          ap (λ b. take 512 (drop (512 * (k % 128)) (A b))) e
          ∙ ap (λ (l : List ℕ). take 512 (drop (512 * (k % 128)) l)) (second more)
          ∙ sector-out (B (sector / 128 + 1)) (drop (512 * here) bytes) 0 (min (n - here) 128) (k % 128) (full (sector / 128 + 1)) enough_next inside_next (by (nat_lt (k % 128) (n - here)) refl)
          ∙ sym (ap (λ b. take 512 (drop (512 * (k % 128)) (B b))) e)
        where
          within : nat_lt (k % 128) (n - here) ≡ true → k % 128 < n - here
          within h = grind (arith, common_steps)

          behind : nat_lt (k % 128) (n - here) ≡ false → n - here ≤ k % 128
          behind h = grind (arith, common_steps)

          by : (b : Bool) → nat_lt (k % 128) (n - here) ≡ b → (k % 128 < 0) ⊎ (0 + min (n - here) 128 ≤ k % 128)
          by false x = inr (let high = behind x in let whole = all_next in omega (arith, high, whole))
          by true x =
              let low = within x in
              let start = is_place sector in
              let from = start.0 in
              let below = start.1 in
              let mine = (is_place k).0 in
              let end = to_end more in
              let less = few in
              absurd (out (omega (arith, from, below, mine, e)) (omega (arith, from, below, mine, e, end, low, less)))

      -- a sector that wasn't
      pub read-other : take 512 (drop (512 * (k % 128)) (A (k / 128))) ≡ take 512 (drop (512 * (k % 128)) (B (k / 128)))
      read-other = by (k / 128 == sector / 128) refl (here == n) refl (k / 128 == sector / 128 + 1) refl
        where
          equal : (a b : ℕ) → (a == b) ≡ true → a ≡ b
          equal a b h = grind (arith, common_steps)

          unequal : (a b : ℕ) → (a == b) ≡ false → a ≡ b → ⊥
          unequal a b h e = no (a == b) h (let same : (a == b) ≡ true = grind (arith, common_steps) in same)
            where
              no : (c : Bool) → c ≡ false → c ≡ true → ⊥
              no c f t = absurd cc

          clash : (c : Bool) → c ≡ true → c ≡ false → ⊥
          clash c t f = absurd cc

          by : (b : Bool) → (k / 128 == sector / 128) ≡ b → (c : Bool) → (here == n) ≡ c → (d : Bool) → (k / 128 == sector / 128 + 1) ≡ d → take 512 (drop (512 * (k % 128)) (A (k / 128))) ≡ take 512 (drop (512 * (k % 128)) (B (k / 128)))
          by true x c y d z = in_first (equal (k / 128) (sector / 128) x)
          by false x false y true z = in_second y (equal (k / 128) (sector / 128 + 1) z)
          by false x true y d z = ap (λ (l : List ℕ). take 512 (drop (512 * (k % 128)) l)) (rest (k / 128) (unequal (k / 128) (sector / 128) x) (λ more. absurd (clash (here == n) y more)))
          by false x false y false z = ap (λ (l : List ℕ). take 512 (drop (512 * (k % 128)) l)) (rest (k / 128) (unequal (k / 128) (sector / 128) x) (λ more. unequal (k / 128) (sector / 128 + 1) z))
