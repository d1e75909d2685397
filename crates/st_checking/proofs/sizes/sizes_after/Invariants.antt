use Rattle.std.proofs.Common.{◌≡◌, ◌≤◌, ◌*◌, ◌^◌, ◌++◌, drop, map}
use Rattle.std.specs.List.{AllByRecursion}
use Rattle.st_limits.specs.Growth.{all_grown, volume_blocks}
use Rattle.st_model.specs.steps.Check.{volume_of}
use Rattle.st_checking.specs.inner.Small.{IsSmallFs}
use Rattle.st_checking.proofs.sizes.sizes_after.Given as goal

-- the sizes so far, with those of the rest, make the whole; behind are the blocks of the rest, and those before are few
abbrev pub invariant-loop-fs : goal.invariant-loop-fs
invariant-loop-fs l = record {
  list : l.list ++ all_grown l.room l.over l.before (map volume_of (drop l.fs-index l.filesystems)) ≡ all_grown l.room l.over 0 (map volume_of l.filesystems);
  behind : l.behind ≡ volume_blocks (map volume_of (drop l.fs-index l.filesystems));
  before : l.before ≤ l.fs-index * 2 ^ 25;
  small : AllByRecursion IsSmallFs (drop l.fs-index l.filesystems);
}
