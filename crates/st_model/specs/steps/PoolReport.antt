-- PoolReport: what is known of a pool, with nothing changed
use Rattle.st_model.specs.declared.reply.Given.TheVariants.{Pool}
use Rattle.st_model.specs.declared.reply.Reply.{Reply}
use Rattle.st_model.specs.declared.state.PoolState.{PoolState}
use Rattle.st_model.specs.Answer.{accepted}
use Rattle.st_model.specs.Shown.{pool_info}

unfoldable pub pool_report : PoolState → Reply × PoolState
pool_report p = (accepted (Pool (pool_info p)), p)
