use Rattle.st_flexat.specs.inner.Replaying.{ReplayedTo}
use Rattle.st_flexat.proofs.replay.replay.Given as goal

abbrev pub invariant-loop-k : goal.invariant-loop-k
invariant-loop-k l = ReplayedTo l.magic l.begun.generation l.begun.body l.sectors l.k l.state
