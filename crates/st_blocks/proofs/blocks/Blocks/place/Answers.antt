use Rattle.std.proofs.Common.{◌≡◌, ℕ, ◌+◌, ◌*◌, ◌/◌, ◌<◌, ◌≤◌, List, length, get_or, slice_set, Option, Some, None, sym, ◌∙◌, ap, arith}
use Rattle.std.proofs.lemmas.List.{get_or_past}
use Rattle.st_rack.specs.Story.{put_in}
use Rattle.st_blocks.specs.Kept.{byte_in, kept}
use Rattle.st_blocks.proofs.Table.{kept_fewer, kept_set, placed, others_stay, earlier, within_more, apart_more}
use Rattle.st_blocks.proofs.Write.{held, wrote}
use Rattle.st_blocks.proofs.blocks.Blocks.place.Goals as goal

-- a room of so many blocks has room for one more
abbrev pub fits_one : (places : List (Option ℕ)) (k count len capacity : ℕ) → count ≡ length places → k < count → get_or places k None ≡ None → 65536 * kept places ≡ len → 65536 * count ≤ capacity → len + 65536 ≤ capacity
fits_one places k count len capacity is lt none filled spare =
    let fewer : kept places < length places = kept_fewer places k (omega (arith, is, lt)) none in
    omega (arith, fewer, filled, spare, is)

pub zeros_to-requires-clause-fits : goal.zeros_to-requires-clause-fits
zeros_to-requires-clause-fits c =
    let blocks = c.args.self.now in
    let fits = fits_one blocks.places.items c.args.block blocks.places.len blocks.room.len blocks.room.cap blocks.places.ok.0 c.requires.there c.requires.unwritten blocks.filled blocks.spare in
    let within : c.args.offset + length c.args.bytes.now ≤ 65536 = c.requires.within in
    omega (arith, fits, c.len-start.ensures, within)

pub append-requires : goal.append-requires
append-requires c =
    let blocks = c.args.self.now in
    let fits = fits_one blocks.places.items c.args.block blocks.places.len blocks.room.len blocks.room.cap blocks.places.ok.0 c.requires.there c.requires.unwritten blocks.filled blocks.spare in
    let within : c.args.offset + length c.args.bytes.now ≤ 65536 = c.requires.within in
    omega (arith, fits, c.len-start.ensures, within, c.zeros_to.ensures.len, c.zeros_to.ensures.capacity)

pub zeros_to-requires-2-clause-fits : goal.zeros_to-requires-2-clause-fits
zeros_to-requires-2-clause-fits c =
    let blocks = c.args.self.now in
    let fits = fits_one blocks.places.items c.args.block blocks.places.len blocks.room.len blocks.room.cap blocks.places.ok.0 c.requires.there c.requires.unwritten blocks.filled blocks.spare in
    omega (arith, fits, c.len-start.ensures, c.zeros_to.ensures.capacity, c.append.ensures.capacity)

pub invariant_of-self : goal.invariant_of-self
invariant_of-self c =
    let blocks = c.args.self.now in
    let places = blocks.places.items in
    let k = c.args.block in
    let q = c.len-start.result / 65536 in
    let lt : k < length places = omega (arith, c.requires.there, blocks.places.ok.0) in
    let filled : 65536 * kept places ≡ blocks.room.len = blocks.filled in
    let next : blocks.room.len ≡ 65536 * q = omega (arith, filled, c.len-start.ensures) in
    let spare : 65536 * blocks.places.len ≤ blocks.room.cap = blocks.spare in
    let more = kept_set places k q lt c.requires.unwritten in
    record {
      within = within_more places k q blocks.room.len lt next blocks.within c.zeros_to-2.new.room.len (omega (arith, c.zeros_to-2.ensures.len, c.len-start.ensures));
      apart = apart_more places k q blocks.room.len lt next blocks.within blocks.apart;
      filled = omega (arith, more, filled, c.zeros_to-2.ensures.len, c.len-start.ensures);
      spare = omega (arith, spare, c.zeros_to.ensures.capacity, c.append.ensures.capacity, c.zeros_to-2.ensures.capacity);
    }

pub returns-clause-content : goal.returns-clause-content
returns-clause-content c =
    let blocks = c.args.self.now in
    let places = blocks.places.items in
    let room = blocks.room.items in
    let bytes = c.args.bytes.now in
    let k = c.args.block in
    let q = c.len-start.result / 65536 in
    let lt : k < length places = omega (arith, c.requires.there, blocks.places.ok.0) in
    let filled : 65536 * kept places ≡ blocks.room.len = blocks.filled in
    let next : blocks.room.len ≡ 65536 * q = omega (arith, filled, c.len-start.ensures) in
    let at : c.zeros_to.new.room.len ≡ 65536 * q + c.args.offset = omega (arith, c.zeros_to.ensures.len, c.len-start.ensures, next) in
    let same : held c.zeros_to.new.room.items ≡ held room = (λ j i. c.zeros_to.ensures.items i j) in
    wrote places (slice_set places k (Some q)) room c.zeros_to-2.new.room.items k q c.args.offset bytes c.requires.within
    (placed places k q blocks.room.len lt next blocks.within)
    (others_stay places k q blocks.room.len lt next blocks.within)
    (λ i small. ap (λ (o : Option ℕ). byte_in o room i) c.requires.unwritten ∙ sym (get_or_past room (65536 * q + i) 0 (omega (arith, next, blocks.room.ok.0))))
    (λ j p ne there. earlier places k q blocks.room.len lt next blocks.within j p there)
    (λ i. c.zeros_to-2.ensures.items i ∙ c.append.ensures.items i ∙ (λ j. put_in (at j) bytes (same j) i))
