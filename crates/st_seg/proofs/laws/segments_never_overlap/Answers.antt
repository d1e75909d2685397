use Rattle.st_seg.proofs.Calls.{all_added, taken_apart}
use Rattle.st_seg.proofs.laws.segments_never_overlap.Goals as goal

pub returns-clause-order : goal.returns-clause-order
returns-clause-order c = all_added

pub returns-clause-apart : goal.returns-clause-apart
returns-clause-apart c = taken_apart
