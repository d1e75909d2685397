-- No device is twice in the empty list.
use Rattle.std.proofs.Common.{[]}
use Rattle.std.specs.List.{IsDistinct}
use Rattle.st_memrack.specs.Blank.{AreDistinct}

pub distinct_none : AreDistinct []
unfolding IsDistinct
distinct_none = tt
