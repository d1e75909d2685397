-- the rules of writes, reads and checks, worked out on small pools
use Rattle.std.proofs.Common.{◌≡◌, ℕ, ◌+◌, List, [], ◌∷◌, Bool, true, false, map, Option, Some, None, refl}
use Rattle.std.specs.List.{range_with_len}
use Rattle.st_units.specs.declared.rows.Tier.TheVariants.{DataTier}
use Rattle.st_model.specs.declared.state.FsState.{FsState}
use Rattle.st_model.specs.declared.state.PoolMode.TheVariants.{Up}
use Rattle.st_model.specs.declared.state.PoolState.{PoolState}
use Rattle.st_model.specs.declared.call.Call.TheVariants.{FsWrite}
use Rattle.st_model.specs.declared.call.Payload.TheVariants.{Fill}
use Rattle.st_model.specs.Content.{stretches, touched}
use Rattle.st_model.specs.InPlace.{in_place}
use Rattle.st_model.specs.Sums.{room}
use Rattle.st_model.specs.steps.Check.{blocks_added, fs_grown, is_settled, new_sizes}
use Rattle.st_model.specs.steps.FsRead.{cells_read, with_reads}
use Rattle.st_model.specs.steps.FsWrite.{cells_needed, in_front, puts, written}

abbrev entries : ℕ → List (ℕ × ℕ)
entries n = map (λ i. (i, i + 1)) (range_with_len 0 n)

abbrev fs : ℕ → ℕ → Option ℕ → List (ℕ × ℕ) → FsState
fs serial size limit m = record { row = record { serial = serial; name = serial ∷ []; size = size; limit = limit; origin = None; merge = false }; map = m }

abbrev pool : List FsState → ℕ → List (ℕ × List ℕ) → Bool → PoolState
pool fss allocated cells over = record {
  serial = 1;
  name = [];
  mode = Up;
  devices = record { path = []; tier = DataTier; sectors = 65536 } ∷ [];
  filesystems = fss;
  cells = cells;
  next_cell = 20;
  next_filesystem = 9;
  allocated = allocated;
  filesystem_limit = 100;
  overprovisioning = over;
  commits = 3;
  cache = Some (record { capacity = 5; cells = 3 ∷ 1 ∷ 2 ∷ []; hits = 0; misses = 0 });
}

abbrev cells : ℕ → List (ℕ × List ℕ)
cells n = map (λ i. (i + 1, [])) (range_with_len 0 n)

room_is : room (pool [] 32 [] true) ≡ 484
room_is = refl

-- sixteen blocks are free: nothing is added
enough : is_settled (pool (fs 1 32768 None (entries 16) ∷ []) 32 (cells 16) true) ≡ true
enough = refl

-- fifteen are: a whole step
short : blocks_added (pool (fs 1 32768 None (entries 17) ∷ []) 32 (cells 17) true) ≡ 64
short = refl

-- near the end of the room
last_step : blocks_added (pool (fs 1 32768 None (entries 17) ∷ []) 483 (cells 470) true) ≡ 1
last_step = refl

-- two of two blocks are mapped: twice the size; with a limit up to it; with the limit at the size nothing
grows : new_sizes (pool (fs 1 256 None (entries 2) ∷ fs 2 256 (Some 384) (entries 2) ∷ fs 3 256 (Some 256) (entries 2) ∷ fs 4 256 None (entries 1) ∷ []) 32 (cells 2) true) ≡ 512 ∷ 384 ∷ 256 ∷ 256 ∷ []
grows = refl

grown_are : fs_grown (pool (fs 1 256 None (entries 2) ∷ fs 2 256 (Some 384) (entries 2) ∷ fs 3 256 (Some 256) (entries 2) ∷ fs 4 256 None (entries 1) ∷ []) 32 (cells 2) true) ≡ 2
grown_are = refl

-- without overprovisioning: 484 blocks of room, 481 and 2: the first may not double, the second takes one more
crowded : new_sizes (pool (fs 1 61568 None (entries 250) ∷ fs 2 128 None (entries 1) ∷ []) 300 (cells 250) false) ≡ 61568 ∷ 256 ∷ []
crowded = refl

-- sectors 64 to 191: blocks 0 and 1
both_touched : touched 64 128 ≡ 0 ∷ 1 ∷ []
both_touched = refl

one_touched : touched 0 128 ≡ 0 ∷ []
one_touched = refl

-- block 0 is shared with the snapshot, block 1 isn't mapped: two cells
shared : cells_needed (fs 1 1024 None ((0, 1) ∷ [])) 64 128 (pool (fs 1 1024 None ((0, 1) ∷ []) ∷ fs 2 1024 None ((0, 1) ∷ []) ∷ []) 32 (cells 1) true) ≡ 2
shared = refl

new_maps : map (λ (f : FsState). f.map) (written (fs 1 1024 None ((0, 1) ∷ [])) (puts (pool (fs 1 1024 None ((0, 1) ∷ []) ∷ fs 2 1024 None ((0, 1) ∷ []) ∷ []) 32 (cells 1) true) (fs 1 1024 None ((0, 1) ∷ [])) 20 [] (stretches 64 128)) 2
    (pool (fs 1 1024 None ((0, 1) ∷ []) ∷ fs 2 1024 None ((0, 1) ∷ []) ∷ []) 32 (cells 1) true)).filesystems ≡ ((0, 20) ∷ (1, 21) ∷ []) ∷ ((0, 1) ∷ []) ∷ []
new_maps = refl

-- both blocks in place: 8 sectors from 124 on are four of each
places : in_place (pool (fs 1 1024 None ((0, 1) ∷ (1, 2) ∷ []) ∷ []) 32 (cells 2) true) (FsWrite [] (1 ∷ []) 124 (Fill 7 8)) ≡ (1, 63488, 2048) ∷ (2, 0, 2048) ∷ []
places = refl

-- the cache: the second cell ends in front
fronts : in_front (puts (pool (fs 1 1024 None ((0, 1) ∷ (1, 2) ∷ []) ∷ []) 32 (cells 2) true) (fs 1 1024 None ((0, 1) ∷ (1, 2) ∷ [])) 20 [] (stretches 124 8)) (3 ∷ 1 ∷ 2 ∷ []) ≡ 2 ∷ 1 ∷ 3 ∷ []
fronts = refl

-- reads: a miss where the list is full lets the last fall out, a hit moves to the front
reads : with_reads (7 ∷ 5 ∷ []) (record { capacity = 2; cells = 5 ∷ 6 ∷ []; hits = 0; misses = 18446744073709551615 }) ≡ record { capacity = 2; cells = 5 ∷ 7 ∷ []; hits = 1; misses = 18446744073709551615 }
reads = refl

mapped_read : cells_read (fs 1 1024 None ((1, 9) ∷ [])) (touched 124 8) ≡ 9 ∷ []
mapped_read = refl
