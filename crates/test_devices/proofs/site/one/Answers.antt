use Rattle.std.specs.List.{IsDistinct}
use Rattle.test_devices.proofs.site.one.Goals as goal

pub blank-requires : goal.blank-requires
unfolding IsDistinct
blank-requires c = (tt, tt)
