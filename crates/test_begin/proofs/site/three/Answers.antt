use Rattle.std.proofs.Common.{◌≡◌, false, sym, ◌∙◌}
use Rattle.std.specs.List.{IsDistinct}
use Rattle.std.specs.Str.{bytes_eq}
use Rattle.test_begin.proofs.site.three.Goals as goal

pub blank-requires : goal.blank-requires
unfolding IsDistinct
blank-requires c =
    let one = c.in_ok-first.first in let two = c.in_ok-second.second in let three = c.in_ok-third.third in
    let first : bytes_eq one two ≡ false = (λ i. bytes_eq (sym c.bytes.ensures.value i) (sym c.bytes-2.ensures.value i)) ∙ sym c.eq.ensures ∙ c.if-eq.false in
    let second : bytes_eq one three ≡ false = (λ i. bytes_eq (sym c.bytes-3.ensures.value i) (sym c.bytes-4.ensures.value i)) ∙ sym c.eq-2.ensures ∙ c.if-eq-2.false in
    let third : bytes_eq two three ≡ false = (λ i. bytes_eq (sym c.bytes-5.ensures.value i) (sym c.bytes-6.ensures.value i)) ∙ sym c.eq-3.ensures ∙ c.if-eq-3.false in
    ((first, (second, tt)), ((third, tt), (tt, tt)))
