use Rattle.std.proofs.Common.{◌∙◌}
use Rattle.st_plain.proofs.InOrder.{entered_next}
use Rattle.st_plain.proofs.state_report.in_order.Goals as goal

pub loop-list-preserved : goal.loop-list-preserved
loop-list-preserved c =
    let next = entered_next c.loop-list.list c.loop-list.infos.items c.take_at.result c.take_at.ensures.taken in
    rw (c.in_ok-insert_info.ensures.ok, c.take_at.ensures.items) (next ∙ c.loop-list.invariant)
