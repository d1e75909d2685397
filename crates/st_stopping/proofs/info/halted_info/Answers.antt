use Rattle.st_stopping.proofs.Infos.{told_down, told_up}
use Rattle.st_stopping.proofs.info.halted_info.Goals as goal

pub returns-in-Some : goal.returns-in-Some
returns-in-Some g c = told_down c.args.pool.now.pool c.in-Some.call.now c.view.result.now c.items-rows.result.now c.unsettled.result c.in-Some.ensures c.view.ensures.shown c.items-rows.ensures c.unsettled.ensures

pub returns-in-None : goal.returns-in-None
returns-in-None g c = told_up c.args.pool.now.pool c.view.result.now c.items-rows.result.now c.stopped.result c.in-None.ensures c.view.ensures.shown c.items-rows.ensures c.stopped.ensures
