-- A device of which only the sectors that were written are kept.
use Rattle.std.specs.Prelude.{ℕ, ◌/◌, ◌%◌, Bool, List, [], slice_index, unwrap_or, is_some}
use Rattle.std.specs.Ordering.{nat_cmp}
use Rattle.std.specs.BTreeMap.{BTreeMap, get}
use Rattle.st_rack.specs.Story.{Content}

-- a sector that isn't kept is zeros
abbrev pub byte_at : BTreeMap ℕ (List ℕ) → Content
byte_at m i = slice_index (unwrap_or (get nat_cmp m (i / 512)) []) (i % 512)

abbrev pub is_kept : BTreeMap ℕ (List ℕ) → ℕ → Bool
is_kept m s = is_some (get nat_cmp m s)
