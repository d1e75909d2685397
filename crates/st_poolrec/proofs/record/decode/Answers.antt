use Rattle.std.proofs.Common.{◌≡◌, false}
use Rattle.st_poolrec.specs.Record.{is_record}
use Rattle.st_poolrec.proofs.ReadingLemmas.{invalid}
use Rattle.st_poolrec.proofs.record.decode.Goals as goal

pub returns-else-is_record : goal.returns-else-is_record
returns-else-is_record c =
    let untrue : is_record c.in-Ok.rec ≡ false = cc in
    invalid c.args.bytes.now c.in-Ok.rec c.in-Ok.ensures untrue
