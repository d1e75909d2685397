use Rattle.std.proofs.Common.{◌≡◌, ℕ, ◌+◌, ◌-◌, ◌*◌, ◌%◌, ◌/◌, ◌≤◌, List, length, ◌++◌, get_or, take, drop, Some, None, sym, ◌∙◌, ap, arith}
use Rattle.st_rack.specs.Device.{cells}
use Rattle.st_rack.proofs.Cells.{length-cells}
use Rattle.st_blocks.specs.Blocks.{content_of}
use Rattle.st_blocks.proofs.Read.{front_of, read_kept, read_blank}
use Rattle.st_blocks.proofs.blocks.Blocks.read_part.Goals as goal

pub returns-in-Some-clause-front : goal.returns-in-Some-clause-front
returns-in-Some-clause-front c =
    let blocks = c.args.self.now in
    let p = c.in-Some.place in
    let at = c.args.at in
    let n = c.args.len in
    let start = 65536 * p + at % 65536 in
    let is : get_or blocks.places.items (at / 65536) None ≡ Some p = sym c.in-Some.ensures.place in
    let within : 65536 * (p + 1) ≤ blocks.room.len = blocks.within (at / 65536) p is in
    let there : 65536 * (p + 1) ≤ length blocks.room.items = omega (arith, within, blocks.room.ok.0) in
    let same : start + n - start ≡ n = omega arith in
    let piece : take (start + n - start) (drop start c.deref.result.now) ≡ cells (content_of blocks) at n =
    ap (λ (m : ℕ). take m (drop start c.deref.result.now)) same ∙ ap (λ (l : List ℕ). take n (drop start l)) c.deref.ensures.value
    ∙ read_kept blocks.places.items blocks.room.items at n c.requires.one p is there in
    front_of c.args.done n c.args.buf.now c.put.new.bytes _ (cells (content_of blocks) at n) (length-cells (content_of blocks) at n) piece c.put.ensures.front

pub returns-in-None-clause-front : goal.returns-in-None-clause-front
returns-in-None-clause-front c =
    let blocks = c.args.self.now in
    let is : get_or blocks.places.items (c.args.at / 65536) None ≡ None = sym c.in-None.ensures.place in
    c.clear.ensures.front ∙ ap (λ (l : List ℕ). take c.args.done c.args.buf.now ++ l) (read_blank blocks.places.items blocks.room.items c.args.at c.args.len c.requires.one is)
