-- a pool just made is whole, and one whose making failed is blank
use Rattle.std.proofs.Common.{◌≡◌, ◌≢◌, ℕ, suc, ◌+◌, ◌-◌, ◌≤◌, ◌^◌, ◌==◌, List, [], ◌∷◌, length, Bool, true, false, filter, fold, cond, Option, Some, None, is_some, option_map, unwrap_or, bytes_eq, ap, refl, arith}
use Rattle.std.specs.List.{AllByRecursion, sum_by}
use Rattle.st_limits.specs.Sums.{usable_blocks}
use Rattle.std.proofs.lemmas.Nat.{le-div}
use Rattle.st_units.specs.declared.rows.DevRow.{DevRow}
use Rattle.st_units.specs.declared.rows.Tier.TheVariants.{DataTier}
use Rattle.st_model.specs.declared.state.EngineState.{EngineState}
use Rattle.st_model.specs.Look.{Text, row_of, distinct}
use Rattle.st_model.specs.Sums.{AreSmall, cache_rows, is_data, sectors_in}
use Rattle.st_model.specs.ValidPool.{StartsWithData, AreDevices, IsWhole, IsBegun}
use Rattle.st_model.specs.Valid.{AreRackRows, is_there, IsRow}
use Rattle.st_model.specs.steps.CreatePool.{data_rows, new_pool, broken_pool}
use Rattle.st_model.specs.Checks.{sectors_of}
use Rattle.st_model.proofs.Fresh.{IsFresh}
use Rattle.st_model.proofs.Lists.{All-map, All-weaker, All-distinct, EachPair-map, distinct-differ}

pub small_row : (path : Text) (rows : List DevRow) → AllByRecursion (λ (row : DevRow). row.sectors ≤ 2 ^ 32) rows → sectors_of path rows ≤ 2 ^ 32
small_row path [] h = omega arith
small_row path (row ∷ rows) h = here (bytes_eq row.path path) (small_row path rows h.1)
  where
    here : (b : Bool) → sectors_of path rows ≤ 2 ^ 32 → unwrap_or (option_map (λ (r : DevRow). r.sectors) (cond b (Some row) (row_of path rows))) 0 ≤ 2 ^ 32
    here true g = h.0
    here false g = g

small_rows : (rows : List DevRow) (paths : List Text) → AreRackRows rows → AllByRecursion (λ (row : DevRow). row.sectors ≤ 2 ^ 32) (data_rows rows paths)
small_rows rows [] h = tt
small_rows rows (path ∷ paths) h = (small_row path rows h.small, small_rows rows paths h)

length-rows : (rows : List DevRow) (paths : List Text) → length (data_rows rows paths) ≡ length paths
length-rows rows [] = refl
length-rows rows (path ∷ paths) = ap suc (length-rows rows paths)

all_data : (rows : List DevRow) (paths : List Text) → filter (λ (row : DevRow). is_data row.tier) (data_rows rows paths) ≡ data_rows rows paths
all_data rows [] = refl
all_data rows (path ∷ paths) = ap (λ rs. record { path = path; tier = DataTier; sectors = sectors_of path rows } ∷ rs) (all_data rows paths)

pub no_cache : (rows : List DevRow) (paths : List Text) → cache_rows (data_rows rows paths) ≡ []
no_cache rows [] = refl
no_cache rows (path ∷ paths) = no_cache rows paths

starts : (rows : List DevRow) (paths : List Text) → (length paths == 0) ≡ false → StartsWithData (data_rows rows (distinct paths))
starts rows [] h = absurd cc
starts rows (path ∷ paths) h = refl

usable : (sectors : ℕ) → 8192 ≤ sectors → 58 ≤ usable_blocks sectors
usable sectors h = le-div 58 (sectors - 256) 128 (omega arith) (omega (arith, h))

no_less : (n : ℕ) (xs : List ℕ) → n ≤ fold (λ a x. a + usable_blocks x) n xs
no_less n [] = omega arith
no_less n (x ∷ xs) = let rest = no_less (n + usable_blocks x) xs in omega (arith, rest)

has_room : (rows : List DevRow) → StartsWithData rows → AllByRecursion (λ (row : DevRow). 8192 ≤ row.sectors) rows → 58 ≤ sum_by usable_blocks (sectors_in rows)
has_room [] starts h = absurd starts
has_room (row ∷ rows) starts h =
    let first = usable row.sectors h.0 in
    let rest = no_less (0 + usable_blocks row.sectors) (sectors_in rows) in
    omega (arith, first, rest)

pub row_there : (path : Text) (o : Option DevRow) → is_some o ≡ true → option_map (λ (r : DevRow). r.sectors) o ≡ Some (unwrap_or (option_map (λ (r : DevRow). r.sectors) o) 0)
row_there path None h = absurd cc
row_there path (Some row) h = refl

pub new-there : (s : EngineState) (name : Text) (paths : List Text) → IsFresh s name paths → AllByRecursion (IsRow s.devices) (data_rows s.devices (distinct paths))
new-there s name paths fresh =
    All-map (IsRow s.devices) _ (distinct paths)
    (All-weaker _ _ (distinct paths) (λ path. row_there path (row_of path s.devices)) (All-distinct (λ path. is_there s.devices path ≡ true) paths fresh.there))

pub new-small : (s : EngineState) (name : Text) (paths : List Text) → AreRackRows s.devices → IsFresh s name paths → AreSmall (data_rows s.devices (distinct paths))
new-small s name paths rack fresh = record { few = rw (length-rows s.devices (distinct paths)) fresh.few; small = small_rows s.devices (distinct paths) rack }

new-devices : (s : EngineState) (name : Text) (paths : List Text) → AreRackRows s.devices → IsFresh s name paths → AreDevices (data_rows s.devices (distinct paths))
new-devices s name paths rack fresh = record {
  first = starts s.devices paths fresh.some;
  small = new-small s name paths rack fresh;
  large = All-map (λ (row : DevRow). 8192 ≤ row.sectors) _ (distinct paths) (All-distinct (λ path. 8192 ≤ sectors_of path s.devices) paths fresh.large);
  distinct = EachPair-map (λ (a b : DevRow). a.path ≢ b.path) _ (distinct paths) (distinct-differ paths);
}

pub new-whole : (s : EngineState) (name : Text) (paths : List Text) → AreRackRows s.devices → IsFresh s name paths → IsWhole (new_pool s.next name (data_rows s.devices (distinct paths)))
new-whole s name paths rack fresh =
    let devices = new-devices s name paths rack fresh in
    let blocks = has_room (data_rows s.devices (distinct paths)) devices.first devices.large in
    record {
      devices = devices;
      ordered = tt;
      filesystems = tt;
      count = omega arith;
      mappings = omega arith;
      cell_map = tt;
      cells = tt;
      used = omega arith;
      allocated = rw (all_data s.devices (distinct paths)) (omega (arith, blocks));
      cell_from_one = omega arith;
      cell_bounded = omega arith;
      filesystem_from_one = omega arith;
      filesystem_bounded = omega arith;
      commits = omega arith;
      limit = omega arith;
      cache = no_cache s.devices (distinct paths);
    }

pub broken-begun : (next : ℕ) (name : Text) (paths : List Text) → IsBegun (broken_pool next name (distinct paths)) name (distinct paths)
broken-begun next name paths = record {
  named = refl;
  devices = refl;
  blank = record { filesystems = refl; cells = refl; next_cell = refl; next_filesystem = refl; allocated = refl; limit = refl; overprovisioning = refl; commits = refl; cache = refl };
  distinct = distinct-differ paths;
}
