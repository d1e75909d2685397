use Rattle.std.proofs.Common.{◌≡◌, false, sym, ◌∙◌}
use Rattle.std.specs.List.{IsDistinct}
use Rattle.std.specs.Str.{bytes_eq}
use Rattle.test_devices.proofs.site.two.Goals as goal

pub blank-requires : goal.blank-requires
unfolding IsDistinct
blank-requires c =
    let differ : bytes_eq c.in_ok-first.first c.in_ok-second.second ≡ false =
    (λ i. bytes_eq (sym c.bytes.ensures.value i) (sym c.bytes-2.ensures.value i)) ∙ sym c.eq.ensures ∙ c.if-eq.false in
    ((differ, tt), (tt, tt))
