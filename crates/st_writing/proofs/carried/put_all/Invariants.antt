use Rattle.std.proofs.Common.{◌≡◌, ◌≤◌, ◌+◌, drop}
use Rattle.st_writing.specs.inner.Carry.{carried}
use Rattle.st_writing.proofs.carried.put_all.Given as goal

abbrev pub invariant-loop-stretch : goal.invariant-loop-stretch
invariant-loop-stretch l = record {
  rest : carried l.pool l.fs (drop l.stretch-index l.stretches) l.left l.done ≡ carried l.pool l.fs l.stretches l.bytes l.initial.done;
  next : l.done.next ≤ l.initial.done.next + l.stretch-index;
}
