use Rattle.std.specs.List.{IsDistinct}
use Rattle.bench_racks.proofs.one_device.Goals as goal

pub blank-requires : goal.blank-requires
unfolding IsDistinct
blank-requires c = (tt, tt)
