use Rattle.std.specs.List.{IsDistinct}
use Rattle.test_disk.proofs.slots.one_device.Goals as goal

pub blank-requires : goal.blank-requires
unfolding IsDistinct
blank-requires c = (tt, tt)
