use Rattle.std.proofs.Common.{arith}
use Rattle.st_flexrec.proofs.ReadingLemmas.{bad_head, with_head}
use Rattle.st_flexrec.proofs.record.read.Goals as goal

pub returns-in-Err : goal.returns-in-Err
returns-in-Err c = bad_head c.args.bytes.now c.split_at.result.0.now c.in-Err.fault c.split_at.ensures.front c.in-Err.ensures

pub returns-in-Ok : goal.returns-in-Ok
returns-in-Ok c =
    with_head c.args.bytes.now c.split_at.result.0.now c.split_at.result.1.now c.in-Ok.head c.read_rest.result (omega arith) c.split_at.ensures.front c.split_at.ensures.back c.in-Ok.ensures c.read_rest.ensures
