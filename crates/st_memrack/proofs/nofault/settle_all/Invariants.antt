use Rattle.std.proofs.Common.{◌≡◌, vec_len, vec_capacity}
use Rattle.st_memrack.specs.Blank.{IsSettled}
use Rattle.st_memrack.proofs.Zip.{UpTo}
use Rattle.st_memrack.proofs.nofault.settle_all.Given as goal

abbrev pub invariant-loop-i : goal.invariant-loop-i
invariant-loop-i l = UpTo IsSettled l.i l.fn.slabs.items l.slabs.items × (vec_len l.slabs ≡ vec_len l.fn.slabs) × (vec_capacity l.slabs ≡ vec_capacity l.fn.slabs)
