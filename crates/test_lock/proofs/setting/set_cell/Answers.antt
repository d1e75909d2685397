use Rattle.std.proofs.Common.{◌∙◌}
use Rattle.test_lock.proofs.Limits.{same_devices}
use Rattle.test_lock.proofs.setting.set_cell.Goals as goal

pub with_spare-requires : goal.with_spare-requires
with_spare-requires c = same_devices c.args.limit c.args.cell.now.pool _ _ _ (c.in_ok-pool.ensures ∙ c.pool.ensures) c.in_ok-reply.ensures c.requires.small
