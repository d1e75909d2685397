use Rattle.std.proofs.Common.{rules}
use Rattle.st_model.proofs.Maps.{copied_on}
use Rattle.st_model.proofs.number_map.NumberMap+Bytes.copy.Goals as goal

pub loop-number-preserved : goal.loop-number-preserved
loop-number-preserved c =
    copied_on c.in-Some.number.now c.in-Some.item.now c.loop-number.copy c.loop-number.number-iterator c.next.new.self c.insert.new.self c.args.self.now
    (search rules) (search rules) c.loop-number.invariant
