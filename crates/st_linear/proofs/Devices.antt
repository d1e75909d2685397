-- all blocks of devices in order: no block stands twice, how many they are, and where each lies
use Rattle.std.proofs.Common.{◌≡◌, ℕ, suc, ◌+◌, ◌-◌, ◌<◌, ◌≤◌, inl, inr, List, [], ◌∷◌, ◌++◌, length, get_or, refl, sym, subst, ap, ap₂, ◌∙◌, arith}
use Rattle.std.specs.List.{All, sum_by}
use Rattle.std.proofs.lemmas.Bool.{cases_lt}
use Rattle.std.proofs.lemmas.List.{append-nil, append_assoc, length-append, get_or_append_left, get_or-append_right}
use Rattle.std.proofs.lemmas.List.Elements.{All-nil, All-append, All-weaker}
use Rattle.std.proofs.lemmas.List.Sums.{sum_by-cons}
use Rattle.st_seg.specs.Blocks.{Block, NoneTwice, blocks_from}
use Rattle.st_seg.proofs.Parts.{length-blocks_from, get_or-blocks_from}
use Rattle.st_limits.specs.Sums.{usable_blocks}
use Rattle.st_linear.specs.Devices.{blocks_of_devices}

joined_apart : (xs ys : List Block) (dev : ℕ) → NoneTwice xs → NoneTwice ys → All (λ (b : Block). b.0 ≡ dev) xs → All (λ (b : Block). dev < b.0) ys → NoneTwice (xs ++ ys)
joined_apart xs ys dev h g here above i j d below within e =
    let n = length xs in
    let all : length (xs ++ ys) ≡ n + length ys = length-append xs ys in
    elim (cases_lt j n) [
      | inl second ↦ h i j d below second (sym (get_or_append_left xs ys d i (omega arith)) ∙ (e ∙ get_or_append_left xs ys d j second))
      | inr second ↦
          let at : get_or (xs ++ ys) j d ≡ get_or ys (j - n) d = get_or-append_right xs ys n j d refl second in
          elim (cases_lt i n) [
            | inl first ↦
                let same : get_or xs i d ≡ get_or ys (j - n) d = sym (get_or_append_left xs ys d i first) ∙ (e ∙ at) in
                absurd (omega (arith, here i d first, above (j - n) d (omega arith), ap (λ (b : Block). b.0) same))
            | inr first ↦ g (i - n) (j - n) d (omega arith) (omega arith) (sym (get_or-append_right xs ys n i d refl first) ∙ (e ∙ at))
          ]
    ]

pub device_apart : (dev first n : ℕ) → NoneTwice (blocks_from dev first n)
device_apart dev first n i j d below within e =
    let short : j < n = omega (arith, length-blocks_from dev first n) in
    let same = sym (get_or-blocks_from dev first n i d (omega arith)) ∙ (e ∙ get_or-blocks_from dev first n j d short) in
    absurd (omega (arith, ap (λ (b : Block). b.1) same))

of_device : (dev first n : ℕ) → All (λ (b : Block). b.0 ≡ dev) (blocks_from dev first n)
of_device dev first n k d w = ap (λ (b : Block). b.0) (get_or-blocks_from dev first n k d (omega (arith, length-blocks_from dev first n)))

from_device : (sectors : List ℕ) (dev : ℕ) → All (λ (b : Block). dev ≤ b.0) (blocks_of_devices dev sectors)
from_device [] dev = All-nil (λ (b : Block). dev ≤ b.0)
from_device (size ∷ more) dev =
    All-append (λ (b : Block). dev ≤ b.0) (blocks_from dev 0 (usable_blocks size)) (blocks_of_devices (dev + 1) more)
    (All-weaker (λ (b : Block). b.0 ≡ dev) (λ (b : Block). dev ≤ b.0) (λ b h. omega arith) _ (of_device dev 0 (usable_blocks size)))
    (All-weaker (λ (b : Block). dev + 1 ≤ b.0) (λ (b : Block). dev ≤ b.0) (λ b h. omega arith) _ (from_device more (dev + 1)))

none_apart : NoneTwice []
none_apart i j d below within e = absurd (omega arith)

pub devices_apart : (sectors : List ℕ) (dev : ℕ) → NoneTwice (blocks_of_devices dev sectors)
devices_apart [] dev = none_apart
devices_apart (size ∷ more) dev =
    joined_apart (blocks_from dev 0 (usable_blocks size)) (blocks_of_devices (dev + 1) more) dev
    (device_apart dev 0 (usable_blocks size)) (devices_apart more (dev + 1)) (of_device dev 0 (usable_blocks size))
    (All-weaker (λ (b : Block). dev + 1 ≤ b.0) (λ (b : Block). dev < b.0) (λ b h. omega arith) _ (from_device more (dev + 1)))

pub length-devices : (sectors : List ℕ) (dev : ℕ) → length (blocks_of_devices dev sectors) ≡ sum_by usable_blocks sectors
length-devices [] dev = refl
length-devices (size ∷ more) dev =
    length-append (blocks_from dev 0 (usable_blocks size)) (blocks_of_devices (dev + 1) more)
    ∙ (ap₂ (λ m n. m + n) (length-blocks_from dev 0 (usable_blocks size)) (length-devices more (dev + 1))
    ∙ sym (sum_by-cons usable_blocks size more))

pub devices-push : (sectors : List ℕ) (dev size : ℕ) → blocks_of_devices dev (sectors ++ size ∷ []) ≡ blocks_of_devices dev sectors ++ blocks_from (dev + length sectors) 0 (usable_blocks size)
devices-push [] dev size =
    let e : dev + 0 ≡ dev = omega arith in
    rw e (append-nil (blocks_from dev 0 (usable_blocks size)))
devices-push (first ∷ more) dev size =
    let e : dev + suc (length more) ≡ (dev + 1) + length more = omega arith in
    rw e (ap (λ bs. blocks_from dev 0 (usable_blocks first) ++ bs) (devices-push more (dev + 1) size) ∙ sym (append_assoc (blocks_from dev 0 (usable_blocks first)) (blocks_of_devices (dev + 1) more) _))

-- the b-th block of devices that are numbered from `dev` on
pub record OnDevice (dev : ℕ) (sectors : List ℕ) (b : ℕ) (block : Block) : Type 0 where
  -- it is a block of the device with this place among them
  pub number : ℕ
  pub device : block.0 ≡ dev + number
  pub within : number < length sectors
  pub usable : block.1 < usable_blocks (get_or sectors number 0)
  -- on the first of them it is the b-th
  pub first : number ≡ 0 → block.1 ≡ b

pub on_device : (sectors : List ℕ) (dev b : ℕ) → b < length (blocks_of_devices dev sectors) → OnDevice dev sectors b (get_or (blocks_of_devices dev sectors) b (0, 0))
on_device [] dev b h = absurd (omega arith)
on_device (size ∷ more) dev b h =
    let n : ℕ = usable_blocks size in
    let own : List Block = blocks_from dev 0 n in
    let rest : List Block = blocks_of_devices (dev + 1) more in
    let long : length own ≡ n = length-blocks_from dev 0 n in
    let all : length (own ++ rest) ≡ length own + length rest = length-append own rest in
    elim (cases_lt b n) [
      | inl here ↦
          let at : get_or (own ++ rest) b (0, 0) ≡ (dev, 0 + b) = get_or_append_left own rest (0, 0) b (omega arith) ∙ get_or-blocks_from dev 0 n b (0, 0) here in
          let found : OnDevice dev (size ∷ more) b (dev, 0 + b) = record { number = 0; device = omega arith; within = omega arith; usable = omega arith; first = λ e. omega arith } in
          subst (OnDevice dev (size ∷ more) b) (sym at) found
      | inr later ↦
          let at : get_or (own ++ rest) b (0, 0) ≡ get_or rest (b - n) (0, 0) = get_or-append_right own rest n b (0, 0) long later in
          let there = on_device more (dev + 1) (b - n) (omega arith) in
          let found : OnDevice dev (size ∷ more) b (get_or rest (b - n) (0, 0)) =
          record { number = suc there.number; device = omega (arith, there.device); within = omega (arith, there.within); usable = there.usable; first = λ (e : suc there.number ≡ 0). absurd (omega arith) } in
          subst (OnDevice dev (size ∷ more) b) (sym at) found
    ]
