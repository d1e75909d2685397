use Rattle.std.proofs.Common.{◌≡◌, ◌+◌, ◌-◌, ◌*◌, ◌/◌, ◌≤◌, ℕ, max, min, ◌++◌, length-take, length-drop, length, take, drop, ◌∙◌, arith}
use Rattle.st_sparse.proofs.Over.{laid, laid_outside}
use Rattle.st_sparse.proofs.sectors.lay_over.Goals as goal

pub returns-then-low-high : goal.returns-then-low-high
returns-then-low-high c =
    let s = c.args.sector in
    let from = c.args.from in
    let n = length c.args.buf.now in
    let bytes = c.args.bytes.now in
    let low = c.max-low.result in
    let high = c.min-high.result in
    let first = 512 * (low - from) in
    let a = 512 * (low - s) in
    let m = 512 * (high - from) - first in
    let is_low : low ≡ max s from = c.max-low.ensures in
    let is_high : high ≡ min (s + n / 512) (from + length bytes / 512) = c.min-high.ensures in
    let same : 512 * s + a ≡ 512 * from + first = omega (arith, is_low) in
    let inside : first + m ≤ length bytes = omega (arith, is_low, is_high, c.if-low-high.true) in
    let fits : a + m ≤ n = omega (arith, is_low, is_high, c.if-low-high.true) in
    let size : length (take m (drop first bytes)) ≡ m = omega (arith, length-take {A = ℕ}, length-drop {A = ℕ}, inside) in
    λ f given.
    c.put.ensures.all
    ∙ (λ i. take a (given i) ++ take m (drop first bytes) ++ drop (a + size i) (given i))
    ∙ laid f (512 * s) n (512 * from) bytes a first m same inside fits
    (λ k lt. omega (arith, is_low, lt))
    (λ k ge lt. omega (arith, is_low, is_high, c.if-low-high.true, ge, lt, c.requires.whole, c.requires.whole_bytes))

pub returns-else-low-high : goal.returns-else-low-high
returns-else-low-high c =
    let s = c.args.sector in
    let n = length c.args.buf.now in
    let m = length c.args.bytes.now in
    λ f given. given ∙ laid_outside f (512 * s) n (512 * c.args.from) c.args.bytes.now
    (λ k lt ge. omega (arith, c.requires.whole, c.requires.whole_bytes, lt, ge, c.if-low-high.false, c.max-low.ensures, c.min-high.ensures))
