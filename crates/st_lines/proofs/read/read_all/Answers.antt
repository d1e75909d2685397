use Rattle.st_lines.proofs.Known.{Consumes-read}
use Rattle.st_lines.proofs.read.read_all.Goals as goal

pub returns-in-Ok-eq0-clause-taken : goal.returns-in-Ok-eq0-clause-taken
returns-in-Ok-eq0-clause-taken g c = Consumes-read _ _ _ _ _ _ c.loop.invariant.taken c.next.ensures.bytes

pub returns-in_err-extend_from_slice-in-Ok-clause-taken : goal.returns-in_err-extend_from_slice-in-Ok-clause-taken
returns-in_err-extend_from_slice-in-Ok-clause-taken g c = Consumes-read _ _ _ _ _ _ c.loop.invariant.taken c.next.ensures.bytes

pub returns-then-len-gt-MOST_BYTES-clause-taken : goal.returns-then-len-gt-MOST_BYTES-clause-taken
returns-then-len-gt-MOST_BYTES-clause-taken g c = Consumes-read _ _ _ _ _ _ c.loop.invariant.taken c.next.ensures.bytes

pub returns-in-Err-clause-taken : goal.returns-in-Err-clause-taken
returns-in-Err-clause-taken g c = Consumes-read _ _ _ _ _ _ c.loop.invariant.taken c.next.ensures.bytes
