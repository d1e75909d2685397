use Rattle.std.proofs.Common.{◌≡◌, ℕ, ◌*◌, get_or, Option, Some, None, arith}
use Rattle.st_blocks.proofs.blocks.Blocks.zeros.Goals as goal

no_some : (o : Option ℕ) (p : ℕ) → o ≡ None → o ≡ Some p → ⊥
no_some o p none is = cc

pub invariant_of-result : goal.invariant_of-result
invariant_of-result c =
    let places = c.in_ok-places.places in
    let room = c.in_ok-room.room in
    let bytes : c.in-Some.bytes ≡ c.args.blocks * 65536 = c.in-Some.ensures.1 in
    record {
      within = λ k p is. absurd (no_some (get_or places.items k None) p (c.in_ok-places.ensures.none k) is);
      apart = λ j k p one two. absurd (no_some (get_or places.items j None) p (c.in_ok-places.ensures.none j) one);
      filled = omega (arith, c.in_ok-places.ensures.kept, c.in_ok-room.ensures.len);
      spare = omega (arith, c.in_ok-places.ensures.len, c.in_ok-room.ensures.capacity, bytes);
    }
