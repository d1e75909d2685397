use Rattle.st_making.proofs.Blank.{blank_free}
use Rattle.st_making.proofs.laws.a_blank_device_is_free.Goals as goal

pub returns : goal.returns
returns x = λ p sectors. blank_free p sectors
