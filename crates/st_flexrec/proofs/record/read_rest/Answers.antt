use Rattle.std.proofs.Common.{arith}
use Rattle.st_flexrec.proofs.ReadingLemmas.{wrong_length, bad_filesystems, bad_mappings, bad_cells, with_rows}
use Rattle.st_flexrec.proofs.record.read_rest.Goals as goal

pub returns-then-rest-fs_len : goal.returns-then-rest-fs_len
returns-then-rest-fs_len c = wrong_length c.args.head c.args.rest.now (λ e. omega arith)

pub returns-in-Err : goal.returns-in-Err
returns-in-Err c = bad_filesystems c.args.head c.args.rest.now c.split_at.result.0.now _ c.in-Err.fault (omega arith) c.split_at.ensures.front c.in-Err.ensures

pub returns-in-Err-read_rows : goal.returns-in-Err-read_rows
returns-in-Err-read_rows c =
    bad_mappings c.args.head c.args.rest.now c.split_at.result.1.now c.split_at-2.result.0.now _ _ c.in-Err-read_rows.fault (omega arith) (omega arith)
    c.split_at.ensures.back c.split_at-2.ensures.front c.in-Err-read_rows.ensures

pub returns-in-Err-read_rows-2 : goal.returns-in-Err-read_rows-2
returns-in-Err-read_rows-2 c =
    bad_cells c.args.head c.args.rest.now c.split_at.result.1.now c.split_at-2.result.1.now _ _ c.in-Err-read_rows-2.fault (omega arith) (omega arith)
    c.split_at.ensures.back c.split_at-2.ensures.back c.in-Err-read_rows-2.ensures

pub returns-in-Ok-read_rows-2 : goal.returns-in-Ok-read_rows-2
returns-in-Ok-read_rows-2 c =
    with_rows c.args.head c.args.rest.now c.split_at.result.0.now c.split_at.result.1.now c.split_at-2.result.0.now c.split_at-2.result.1.now _ _
    c.in-Ok.filesystems c.in-Ok-read_rows.mappings c.in-Ok-read_rows-2.cells c.requires (omega arith) (omega arith) (omega arith)
    c.split_at.ensures.front c.split_at.ensures.back c.split_at-2.ensures.front c.split_at-2.ensures.back c.in-Ok.ensures c.in-Ok-read_rows.ensures c.in-Ok-read_rows-2.ensures
