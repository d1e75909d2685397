-- The blocks of a record's segments lie on devices of its rows.
use Rattle.std.proofs.Common.{◌≡◌, ℕ, zero, suc, ◌+◌, ◌<◌, true, false, ◌||◌, List, [], ◌∷◌, length, get_or, Option, Some, refl, ap, subst, arith}
use Rattle.std.specs.Prelude.{◌==◌, nat_lt, nat_le, ◌&&◌}
use Rattle.std.specs.List.{slice_get, All}
use Rattle.std.specs.Option.{option_map}
use Rattle.std.proofs.lemmas.Bool.{and_parts}
use Rattle.std.proofs.lemmas.Bool.Decides.{nat_tests}
use Rattle.std.proofs.lemmas.List.Elements.{All-nil, All-append, All-weaker}
use Rattle.st_units.specs.declared.rows.DevRow.{DevRow}
use Rattle.st_units.specs.declared.rows.Segment.{Segment}
use Rattle.st_units.specs.declared.rows.Tier.{Tier}
use Rattle.st_units.specs.declared.rows.Tier.TheVariants.{DataTier, CacheTier}
use Rattle.st_limits.specs.Sums.{usable_blocks}
use Rattle.st_seg.specs.Blocks.{Block, blocks_from, blocks_in, blocks_of}
use Rattle.st_seg.proofs.Parts.{length-blocks_from, get_or-blocks_from}
use Rattle.st_linear.specs.Places.{place_at, place_of}
use Rattle.st_poolrec.specs.Conditions.{first_block, is_part, ends_device, take_in_order}
use Rattle.st_parting.proofs.Newest.{some_same, none_some}

of_device : (dev first n : ℕ) → All (λ (b : Block). b.0 ≡ dev) (blocks_from dev first n)
of_device dev first n k d w = ap (λ (b : Block). b.0) (get_or-blocks_from dev first n k d (omega (arith, length-blocks_from dev first n)))

not_true : false ≡ true → ⊥
not_true e = cc

on_rows : (at : ℕ) (segs : List Segment) (rows : List DevRow) → take_in_order at segs rows ≡ true → All (λ (b : Block). b.0 < at + length rows) (blocks_of segs)
on_rows at [] rows taken = All-nil (λ (b : Block). b.0 < at + length rows)
on_rows at (s ∷ ss) [] taken = absurd (not_true taken)
on_rows at (s ∷ ss) (d ∷ ds) taken = by d.tier taken (λ rest. on_rows (at + 1) ss ds rest) (λ rest. on_rows (at + 1) (s ∷ ss) ds rest)
  where
    wider : (xs : List Block) → All (λ (b : Block). b.0 < at + 1 + length ds) xs → All (λ (b : Block). b.0 < at + suc (length ds)) xs
    wider xs all = All-weaker (λ (b : Block). b.0 < at + 1 + length ds) (λ (b : Block). b.0 < at + suc (length ds)) (λ b h. omega (arith, h)) xs all

    by : (t : Tier) → take_in_order at (s ∷ ss) (record d { tier = t } ∷ ds) ≡ true → (take_in_order (at + 1) ss ds ≡ true → All (λ (b : Block). b.0 < at + 1 + length ds) (blocks_of ss))
        → (take_in_order (at + 1) (s ∷ ss) ds ≡ true → All (λ (b : Block). b.0 < at + 1 + length ds) (blocks_of (s ∷ ss))) → All (λ (b : Block). b.0 < at + suc (length ds)) (blocks_of (s ∷ ss))
    by DataTier e later pass =
        let both = and_parts (is_part at d s) (((length ss == 0) || ends_device d s) && take_in_order (at + 1) ss ds) e in
        let rest = and_parts ((length ss == 0) || ends_device d s) (take_in_order (at + 1) ss ds) both.1 in
        let own = and_parts (s.dev == at) ((s.first == first_block at) && (nat_lt 0 s.blocks && nat_le (s.first + s.blocks) (usable_blocks d.sectors))) both.0 in
        let is : s.dev ≡ at = number own.0 in
        All-append (λ (b : Block). b.0 < at + suc (length ds)) (blocks_in s) (blocks_of ss)
        (All-weaker (λ (b : Block). b.0 ≡ s.dev) (λ (b : Block). b.0 < at + suc (length ds)) (λ b h. omega (arith, h, is)) (blocks_in s) (of_device s.dev s.first s.blocks)) (wider (blocks_of ss) (later rest.1))
      where
        number : (s.dev == at) ≡ true → s.dev ≡ at
        number e = grind (arith, nat_tests)
    by CacheTier e later pass = wider (blocks_of (s ∷ ss)) (pass e)

got : {X : Type 0} (xs : List X) (k : ℕ) (x d : X) → slice_get xs k ≡ Some x → (k < length xs) × (get_or xs k d ≡ x)
got [] k x d at = absurd (none_some x at)
got (y ∷ ys) zero x d at = (omega arith, some_same y x at)
got (y ∷ ys) (suc k) x d at = let rest = got ys k x d at in (omega (arith, rest.0), rest.1)

pub slice_at : {X : Type 0} (xs : List X) (k : ℕ) → k < length xs → (x : X) × (slice_get xs k ≡ Some x)
slice_at [] k lt = absurd (omega arith)
slice_at (x ∷ xs) zero lt = (x, refl)
slice_at (x ∷ xs) (suc k) lt = slice_at xs k (omega (arith, lt))

-- where a block that is allocated lies: on a device of the rows
pub place_on_row : (segs : List Segment) (rows : List DevRow) (b : ℕ) → take_in_order 0 segs rows ≡ true → b < length (blocks_of segs)
    → (place : ℕ × ℕ) × (place_at (blocks_of segs) b ≡ Some place) × ((row : DevRow) × (slice_get rows place.0 ≡ Some row))
place_on_row segs rows b taken lt =
    let one = slice_at (blocks_of segs) b lt in
    let here = got (blocks_of segs) b one.0 one.0 one.1 in
    let low : one.0.0 < 0 + length rows = subst (λ (x : Block). x.0 < 0 + length rows) here.1 (on_rows 0 segs rows taken b one.0 lt) in
    let below : one.0.0 < length rows = omega (arith, low) in
    (place_of one.0, ap (λ (o : Option Block). option_map place_of o) one.1, slice_at rows one.0.0 below)
