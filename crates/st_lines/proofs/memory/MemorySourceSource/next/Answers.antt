use Rattle.std.proofs.Common.{◌≡◌, ◌≤◌, ◌+◌, min, drop, take, length, arith, ap, length-append, length-drop, length-take}
use Rattle.std.proofs.lemmas.List.{take_rest, drop_all}
use Rattle.st_lines.proofs.Known.{Consumes-copied}
use Rattle.st_lines.proofs.memory.MemorySourceSource.next.Goals as goal

pub returns-clause-bytes : goal.returns-clause-bytes
returns-clause-bytes c =
    let bytes = c.args.self.now.bytes.items in
    let given = c.args.self.now.given in
    let count = c.min-count.result in
    let rest = drop given bytes in
    let buf = c.args.buf.now in
    let fewer : c.min.result ≡ min (length buf) (length rest) = rw c.deref.ensures.value at rw take_rest at c.min.ensures in
    let least : count ≤ length rest = omega (arith, fewer, c.min-count.ensures) in
    let front : c.copy_from_slice.new.self ≡ take count rest = rw c.deref.ensures.value at rw take_rest at c.copy_from_slice.ensures.after in (
      Consumes-copied bytes given count c.copy_from_slice.new.self _ least front,
      λ zero some.
          drop_all (given + count) bytes (omega (arith, zero, some, fewer, c.min-count.ensures, c.max.ensures, length-drop given bytes, ap length front, length-append c.copy_from_slice.new.self (drop count buf), length-drop count buf, length-take count rest)),
    )
