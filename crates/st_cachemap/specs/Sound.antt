-- how the fields of `CacheMap` stand for a cache list
use Rattle.std.specs.Prelude.{◌≡◌, ℕ, ◌*◌, ◌/◌, ◌%◌, ◌^◌, ◌<◌, ◌≤◌, true, false, List, [], length, map, slice_index}
use Rattle.st_limits.specs.Cache.{has}
use Rattle.st_links.specs.Arena.{Arena, row, is_linked, IsArena}
use Rattle.st_cachemap.specs.declared.slots.TheConstants.{USED, SPREAD}

-- the bucket of a cell among so many: the high bits of a product, which spread numbers that follow each other
abbrev pub bucket_of : ℕ → ℕ → ℕ
bucket_of cell buckets = cell * SPREAD % 2 ^ 64 / 2 ^ 32 % buckets

-- the entries at these places
abbrev pub entries_at : List ℕ → List ℕ → List (ℕ × ℕ)
entries_at cells places = map (λ p. (slice_index cells p, p)) places

-- the places in use, the one used last first
abbrev pub used : Arena → List ℕ
used order = row order.lists USED

pub record Sound (order buckets : Arena) (cells : List ℕ) (len : ℕ) : Type 0 where
  pub some : 0 < length cells
  pub order_places : order.places ≡ length cells
  pub order_lists : length order.lists ≡ 2
  pub order_arena : IsArena order.lists order.places
  pub bucket_places : buckets.places ≡ length cells
  pub bucket_lists : length buckets.lists ≡ length cells
  pub bucket_arena : IsArena buckets.lists buckets.places
  pub counted : len ≡ length (used order)
  -- each place is in use or free
  pub known : (p : ℕ) → p < length cells → is_linked order.lists p ≡ true
  -- a place in use stands in its cell's bucket, and no other place stands in one
  pub filed : (p : ℕ) → has p (used order) ≡ true → has p (row buckets.lists (bucket_of (slice_index cells p) (length cells))) ≡ true
  pub cached : (k p : ℕ) → has p (row buckets.lists k) ≡ true → has p (used order) ≡ true
  -- no two have one cell
  pub unique : (p q : ℕ) → has p (used order) ≡ true → has q (used order) ≡ true → slice_index cells p ≡ slice_index cells q → p ≡ q

-- no place is in use, and the first `count` of n places are free
pub record IsUnused (order : Arena) (n count : ℕ) : Type 0 where
  pub places : order.places ≡ n
  pub two : length order.lists ≡ 2
  pub arena : IsArena order.lists order.places
  pub none_used : used order ≡ []
  pub free : (p : ℕ) → p < count → is_linked order.lists p ≡ true
  pub rest : (p : ℕ) → count ≤ p → is_linked order.lists p ≡ false
