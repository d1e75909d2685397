use Rattle.std.proofs.Common.{ap, sym}
use Rattle.st_order.proofs.Order.{find_none}
use Rattle.st_fstable.specs.Rows.{has_serial}
use Rattle.st_fstable.specs.inner.ByName.{name_of, name_or_none}
use Rattle.st_fstable.proofs.names.name_at.Goals as goal

pub returns-in-Err : goal.returns-in-Err
returns-in-Err c = sym (ap name_or_none (find_none name_of (has_serial c.args.serial) c.args.rows.now c.in-Err.ensures.absent))
