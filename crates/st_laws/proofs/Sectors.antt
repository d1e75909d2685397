-- the sectors of a block that is written
use Rattle.std.proofs.Common.{◌≡◌, ℕ, ◌+◌, ◌-◌, ◌*◌, ◌/◌, ◌%◌, ◌<◌, ◌≤◌, ◌⊎◌, inl, inr, List, length, take, drop, sym, ap, ◌∙◌, arith}
use Rattle.std.proofs.lemmas.List.{take-append-drop}
use Rattle.std.proofs.Math.Nat.{div-mul-le_self, lt-div-mul-add, mod-eq-sub-div-mul}
use Rattle.st_model.specs.InPlace.{over}
use Rattle.st_laws.proofs.Bytes.{front, over-before, over-behind, over-inside, short}

part : (d m n : ℕ) (bs : List ℕ) → d + m ≤ n → n ≤ length bs → take m (drop d (take n bs)) ≡ take m (drop d bs)
part d m n bs h g =
    let is = short n bs g in
    sym (front d m (take n bs) (drop n bs) (omega (arith, is, h))) ∙ ap (λ (l : List ℕ). take m (drop d l)) (take-append-drop n bs)

-- one of those that are written
pub sector-in : (old bs : List ℕ) (at n j : ℕ) → length old ≡ 65536 → 512 * n ≤ length bs → at + n ≤ 128 → at ≤ j → j < at + n
    → take 512 (drop (512 * j) (over old (512 * at) (take (512 * n) bs))) ≡ take 512 (drop (512 * (j - at)) bs)
sector-in old bs at n j whole long inside low high =
    let is = short (512 * n) bs long in
    let place : 512 * j ≡ 512 * at + 512 * (j - at) = omega (arith, low) in
    ap (λ m. take 512 (drop m (over old (512 * at) (take (512 * n) bs)))) place
    ∙ over-inside old (512 * at) (take (512 * n) bs) (512 * (j - at)) 512 (omega (arith, whole, inside)) (omega (arith, is, low, high))
    ∙ part (512 * (j - at)) 512 (512 * n) bs (omega (arith, low, high)) long

-- one that isn't
pub sector-out : (old bs : List ℕ) (at n j : ℕ) → length old ≡ 65536 → 512 * n ≤ length bs → at + n ≤ 128 → (j < at) ⊎ (at + n ≤ j)
    → take 512 (drop (512 * j) (over old (512 * at) (take (512 * n) bs))) ≡ take 512 (drop (512 * j) old)
sector-out old bs at n j whole long inside (inl before) =
    over-before old (512 * at) (take (512 * n) bs) (512 * j) 512 (omega (arith, whole, inside)) (omega (arith, before))
sector-out old bs at n j whole long inside (inr behind) =
    let is = short (512 * n) bs long in
    over-behind old (512 * at) (take (512 * n) bs) (512 * j) 512 (omega (arith, whole, inside)) (omega (arith, is, behind))

-- where a sector lies
pub record IsPlace (sector block at : ℕ) : Type 0 where
  pub in_block : sector / 128 ≡ block
  pub place : sector % 128 ≡ at

pub place_of : (sector block at : ℕ) → at < 128 → sector ≡ block * 128 + at → IsPlace sector block at
place_of sector block at h e =
    let low = div-mul-le_self sector 128 in
    let high = lt-div-mul-add {a = sector} {b = 128} (omega arith) in
    let is = mod-eq-sub-div-mul sector 128 in
    let same : sector / 128 ≡ block = omega (arith, low, high, h, e) in
    record { in_block = same; place = omega (arith, is, same, e) }

pub is_place : (sector : ℕ) → (sector ≡ sector / 128 * 128 + sector % 128) × (sector % 128 < 128)
is_place sector =
    let low = div-mul-le_self sector 128 in
    let high = lt-div-mul-add {a = sector} {b = 128} (omega arith) in
    let is = mod-eq-sub-div-mul sector 128 in
    (omega (arith, is, low), omega (arith, is, high))
