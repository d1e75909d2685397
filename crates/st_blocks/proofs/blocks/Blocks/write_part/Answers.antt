use Rattle.std.proofs.Common.{◌≡◌, ℕ, ◌+◌, ◌*◌, ◌%◌, ◌/◌, get_or, Option, Some, None, refl, sym, ◌∙◌, ap, arith}
use Rattle.st_rack.specs.Story.{put_in}
use Rattle.st_blocks.specs.Kept.{byte_in}
use Rattle.st_blocks.specs.Blocks.{content_of}
use Rattle.st_blocks.proofs.Write.{wrote}
use Rattle.st_blocks.proofs.blocks.Blocks.write_part.Goals as goal

pub returns-in-Some-clause-content : goal.returns-in-Some-clause-content
returns-in-Some-clause-content c =
    let blocks = c.args.self.now in
    let places = blocks.places.items in
    let p = c.in-Some.place in
    let at = c.args.at in
    let k = at / 65536 in
    let off = at % 65536 in
    let is : get_or places k None ≡ Some p = sym c.in-Some.ensures.place in
    let spelled : 65536 * k + off ≡ at = omega arith in
    λ i.
    wrote places places blocks.room.items c.overwrite.new.room.items k p off c.args.bytes.now c.requires.one is (λ j ne. refl)
    (λ j lt. ap (λ (o : Option ℕ). byte_in o blocks.room.items j) is)
    (λ j q ne there e. ne (blocks.apart j k q there (is ∙ ap (λ (n : ℕ). Some n) (sym e))))
    c.overwrite.ensures.items i
    ∙ ap (λ (n : ℕ). put_in n c.args.bytes.now (content_of blocks) i) spelled
