-- the blocks for data: no block stands twice, and how many they are
use Rattle.std.proofs.Common.{◌≡◌, ℕ, zero, suc, ◌+◌, ◌-◌, ◌*◌, ◌<◌, ◌≤◌, Bool, cond, List, [], ◌∷◌, ◌++◌, length, get_or, take, drop, Some, None, refl, sym, ap, ◌∙◌, arith}
use Rattle.std.specs.List.{All}
use Rattle.std.proofs.Math.Dec.{eqb-suc-zero}
use Rattle.std.proofs.lemmas.List.{get_or-take, length-take, append-nil, length-drop, drop-append-le, get_or-drop}
use Rattle.std.proofs.lemmas.List.Sums.{sum_by-le, sum_by-cons}
use Rattle.st_seg.specs.Blocks.{Block, NoneTwice, blocks_from}
use Rattle.st_seg.proofs.Parts.{drop-blocks_from}
use Rattle.st_limits.specs.Sums.{IsDeviceSize, usable_blocks, room}
use Rattle.st_linear.specs.Devices.{blocks_of_devices}
use Rattle.st_linear.specs.Places.{place_of, place_at}
use Rattle.st_linear.proofs.Devices.{devices_apart, length-devices, devices-push, OnDevice, on_device}
use Rattle.st_datatier.specs.Tier.{data_blocks, first_block_of, LiesOn}

dropped_apart : (n : ℕ) (blocks : List Block) → NoneTwice blocks → NoneTwice (drop n blocks)
dropped_apart n blocks h i j d below within e =
    h (n + i) (n + j) d (omega arith) (omega (arith, length-drop n blocks)) (sym (get_or-drop n blocks i d) ∙ (e ∙ get_or-drop n blocks j d))

pub data_apart : (sectors : List ℕ) → NoneTwice (data_blocks sectors)
unfolding data_blocks
data_apart sectors = dropped_apart 26 (blocks_of_devices 0 sectors) (devices_apart sectors 0)

pub length-data_blocks : (sectors : List ℕ) → length (data_blocks sectors) ≡ room sectors
unfolding data_blocks
length-data_blocks sectors = length-drop 26 (blocks_of_devices 0 sectors) ∙ ap (λ n. n - 26) (length-devices sectors 0)

-- sixteen devices have few blocks
pub room_fits : (sectors : List ℕ) → length sectors ≤ 16 → All IsDeviceSize sectors → room sectors ≤ 536870912
room_fits sectors h g =
    let each : All (λ size. usable_blocks size ≤ 33554432) sectors = λ k d w. omega (arith, g k d w) in
    omega (arith, sum_by-le usable_blocks 33554432 sectors each)

first_later : (n : ℕ) → first_block_of (suc n) ≡ 0
first_later n = ap (λ (b : Bool). cond b 26 0) (eqb-suc-zero n)

-- one more device comes last; the flex area is taken from the first one alone
pub data_blocks-push : (sectors : List ℕ) (size : ℕ) → All IsDeviceSize sectors → data_blocks (sectors ++ size ∷ []) ≡ data_blocks sectors ++ blocks_from (length sectors) (first_block_of (length sectors)) (usable_blocks size - first_block_of (length sectors))
unfolding data_blocks
data_blocks-push [] size h =
    ap (drop 26) (append-nil (blocks_from 0 0 (usable_blocks size))) ∙ drop-blocks_from 26 0 0 (usable_blocks size)
data_blocks-push (first ∷ more) size h =
    let before = blocks_of_devices 0 (first ∷ more) in
    let dev = length (first ∷ more) in
    let fits : IsDeviceSize first = h 0 0 (omega arith) in
    let some : 26 ≤ usable_blocks first = omega (arith, fits.0) in
    let enough : 26 ≤ length before = omega (arith, length-devices (first ∷ more) 0 ∙ sum_by-cons usable_blocks first more) in
    let number : 0 + dev ≡ dev = omega arith in
    let whole : usable_blocks size ≡ usable_blocks size - 0 = omega arith in
    let last : blocks_from (0 + dev) 0 (usable_blocks size) ≡ blocks_from dev (first_block_of dev) (usable_blocks size - first_block_of dev) =
    ap (λ n. blocks_from n 0 (usable_blocks size)) number ∙ (ap (blocks_from dev 0) whole ∙ ap (λ k. blocks_from dev k (usable_blocks size - k)) (sym (first_later (length more)))) in
    ap (drop 26) (devices-push (first ∷ more) 0 size)
    ∙ (drop-append-le 26 before (blocks_from (0 + dev) 0 (usable_blocks size)) enough
    ∙ ap (λ bs. drop 26 before ++ bs) last)

pub no_blocks : data_blocks [] ≡ []
unfolding data_blocks
no_blocks = refl

-- where a block for data lies, by the device that it is of
place_at-some : (blocks : List Block) (b : ℕ) (p : ℕ × ℕ) → place_at blocks b ≡ Some p → (b < length blocks) × (p ≡ place_of (get_or blocks b (0, 0)))
place_at-some [] b p e = absurd (let bad : None ≡ Some p = e in cc)
place_at-some (x ∷ blocks) zero p e = (omega arith, (let same : Some (place_of x) ≡ Some p = e in cc))
place_at-some (x ∷ blocks) (suc b) p e =
    let there = place_at-some blocks b p e in
    (omega (arith, there.0), there.1)

lies_from : (sectors : List ℕ) (b : ℕ) (block : Block) (dev first : ℕ) → OnDevice 0 sectors (26 + b) block → (dev, first) ≡ place_of block → LiesOn sectors dev first
lies_from sectors b block dev first on place =
    let dev_is : dev ≡ on.number = omega (arith, ap (λ (p : ℕ × ℕ). p.0) place, on.device) in
    let first_is : first ≡ 256 + 128 * block.1 = ap (λ (p : ℕ × ℕ). p.1) place in
    let size : get_or sectors dev 0 ≡ get_or sectors on.number 0 = ap (λ (k : ℕ). get_or sectors k 0) dev_is in
    record {
      device = omega (arith, on.within);
      behind_head = omega arith;
      behind_flex = λ (z : dev ≡ 0). omega (arith, on.first (omega arith));
      within = omega (arith, on.usable);
    }

pub lies_on : (sectors : List ℕ) (n b dev first : ℕ) → place_at (take n (data_blocks sectors)) b ≡ Some (dev, first) → LiesOn sectors dev first
unfolding data_blocks
lies_on sectors n b dev first e =
    let all : List Block = blocks_of_devices 0 sectors in
    let there = place_at-some (take n (drop 26 all)) b (dev, first) e in
    let short : b < length (drop 26 all) = omega (arith, there.0, length-take n (drop 26 all)) in
    let inside : 26 + b < length all = omega (arith, length-drop 26 all) in
    let at : get_or (take n (drop 26 all)) b (0, 0) ≡ get_or all (26 + b) (0, 0) = get_or-take n (drop 26 all) b (0, 0) (omega (arith, there.0, length-take n (drop 26 all))) ∙ get_or-drop 26 all b (0, 0) in
    let place : (dev, first) ≡ place_of (get_or all (26 + b) (0, 0)) = there.1 ∙ ap place_of at in
    lies_from sectors b (get_or all (26 + b) (0, 0)) dev first (on_device sectors 0 (26 + b) inside) place
