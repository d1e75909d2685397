use Rattle.std.proofs.Common.{arith}
use Rattle.st_poolrec.proofs.ReadingLemmas.{wrong_length, bad_devs, bad_segments, with_rows}
use Rattle.st_poolrec.proofs.record.read_rest.Goals as goal

pub returns-then-rest-dev_len : goal.returns-then-rest-dev_len
returns-then-rest-dev_len c = wrong_length c.args.head c.args.rest.now (λ e. omega arith)

pub returns-in-Err : goal.returns-in-Err
returns-in-Err c = bad_devs c.args.head c.args.rest.now c.split_at.result.0.now _ c.in-Err.fault (omega arith) c.split_at.ensures.front c.in-Err.ensures

pub returns-in-Err-read_rows : goal.returns-in-Err-read_rows
returns-in-Err-read_rows c = bad_segments c.args.head c.args.rest.now c.split_at.result.1.now _ c.in-Err-read_rows.fault (omega arith) c.split_at.ensures.back c.in-Err-read_rows.ensures

pub returns-in-Ok-read_rows : goal.returns-in-Ok-read_rows
returns-in-Ok-read_rows c =
    with_rows c.args.head c.args.rest.now c.split_at.result.0.now c.split_at.result.1.now _ c.in-Ok.devs c.in-Ok-read_rows.segments c.requires (omega arith) (omega arith)
    c.split_at.ensures.front c.split_at.ensures.back c.in-Ok.ensures c.in-Ok-read_rows.ensures
