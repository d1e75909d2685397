-- Where the copies of a tier lie.
use Rattle.std.proofs.Common.{◌≡◌, ◌≢◌, inl, inr, ℕ, zero, suc, ◌+◌, ◌*◌, ◌%◌, ◌<◌, ◌≤◌, false, ◌&&◌, ◌||◌, List, [], ◌∷◌, ◌++◌, length, map, get_or, Option, Some, refl, sym, ◌∙◌, ap, subst, arith, add-zero}
use Rattle.std.specs.Option.{option_map}
use Rattle.std.specs.List.{slice_get}
use Rattle.std.proofs.lemmas.Bool.{cases_order}
use Rattle.std.proofs.lemmas.Option.{slice_get-get_or}
use Rattle.std.specs.Str.{bytes_eq}
use Rattle.std.proofs.lemmas.List.{append_assoc, length-map, map-append}
use Rattle.st_seg.specs.Blocks.{Block, blocks_from}
use Rattle.st_linear.specs.Devices.{blocks_of_devices}
use Rattle.st_rack.specs.Story.{within}
use Rattle.st_rack.proofs.Look.{off_path}
use Rattle.st_units.specs.declared.rows.DevRow.{DevRow}
use Rattle.st_limits.specs.Sums.{usable_blocks}
use Rattle.st_linear.specs.Places.{place_of, place_at}
use Rattle.st_linear.proofs.Devices.{on_device, length-devices, devices_apart}
use Rattle.st_linear.proofs.Places.{places_apart, places_stay}
use Rattle.st_rack.specs.Device.{Path, Image}
use Rattle.st_rack.specs.Steps.{put_on}
use Rattle.st_rack.specs.Calls.{Devices, IsWithin}
use Rattle.st_ranges.specs.Ranges.{Range, covers, AreApart}
use Rattle.st_ranges.specs.Spots.{PathsDiffer, path_in, range_in}
use Rattle.st_ranges.proofs.Apart.{covers_inside}
use Rattle.st_cachetier.specs.Tier.{Caching, InRack, IsElsewhere, row_blocks, cache_ranges, capacity_of, copy_range, sectors_of}

pub got_map : {A B : Type 0} (f : A → B) (xs : List A) (k : ℕ) (x : A) → slice_get xs k ≡ Some x → slice_get (map f xs) k ≡ Some (f x)
got_map f [] k x is = absurd (cc)
got_map f (y ∷ xs) zero x is = (let same : y ≡ x = cc in ap (λ z. Some (f z)) same)
got_map f (y ∷ xs) (suc k) x is = got_map f xs k x is

some_row : (rows : List DevRow) (k : ℕ) → k < length rows → (row : DevRow) × (slice_get rows k ≡ Some row) × (get_or (sectors_of rows) k 0 ≡ row.sectors)
some_row [] k lt = absurd (omega arith)
some_row (row ∷ rows) zero lt = (row, refl, refl)
some_row (row ∷ rows) (suc k) lt = some_row rows k (omega arith)

-- the copy at a place
pub record CopyAt (rows : List DevRow) (place : ℕ) : Type 0 where
  pub number : ℕ
  pub block : ℕ
  pub row : DevRow
  pub of : slice_get rows number ≡ Some row
  pub at : place_at (row_blocks rows) place ≡ Some (number, 256 + 128 * block)
  pub usable : block < usable_blocks row.sectors
  pub range : copy_range rows place ≡ (row.path, 512 * (256 + 128 * block), 65536)

pub copy_at : (rows : List DevRow) (place : ℕ) → place < capacity_of rows → CopyAt rows place
copy_at rows place lt =
    let inside : place < length (row_blocks rows) = omega (arith, length-devices (sectors_of rows) 0) in
    let on = on_device (sectors_of rows) 0 place inside in
    let entry : ℕ × ℕ = get_or (row_blocks rows) place (0, 0) in
    let here = some_row rows on.number (omega (arith, on.within, length-map rows (λ (row : DevRow). row.sectors))) in
    let number : entry.0 ≡ on.number = omega (arith, on.device) in
    let at : place_at (row_blocks rows) place ≡ Some (on.number, 256 + 128 * entry.1) = ap (option_map place_of) (slice_get-get_or (row_blocks rows) place (0, 0) inside) ∙ ap (λ (n : ℕ). Some (n, 256 + 128 * entry.1)) number in
    record {
      number = on.number;
      block = entry.1;
      row = here.0;
      of = here.1;
      at = at;
      usable = subst (λ (n : ℕ). entry.1 < usable_blocks n) here.2 on.usable;
      range = ap (range_in rows) at ∙ ap (λ (o : Option DevRow). (path_in o, 512 * (256 + 128 * entry.1), 65536)) here.1;
    }

-- two copies lie apart
pub copies_apart : (rows : List DevRow) (p q : ℕ) → PathsDiffer rows → p < capacity_of rows → q < capacity_of rows → p ≢ q → AreApart (copy_range rows p) (copy_range rows q)
copies_apart rows p q differ lt_p lt_q ne =
    let a = copy_at rows p lt_p in
    let b = copy_at rows q lt_q in
    let long = length-devices (sectors_of rows) 0 in
    let places : place_at (row_blocks rows) p ≢ place_at (row_blocks rows) q = places_apart (row_blocks rows) (devices_apart (sectors_of rows) 0) p q (omega arith) (omega arith) ne in
    subst (λ (r : Range). AreApart r (copy_range rows q)) (sym a.range) (subst (λ (r : Range). AreApart (a.row.path, 512 * (256 + 128 * a.block), 65536) r) (sym b.range) (apart a b places))
  where
    apart : (a : CopyAt rows p) (b : CopyAt rows q) → place_at (row_blocks rows) p ≢ place_at (row_blocks rows) q → AreApart (a.row.path, 512 * (256 + 128 * a.block), 65536) (b.row.path, 512 * (256 + 128 * b.block), 65536)
    apart a b places path =
        let number : a.number ≡ b.number = differ a.number b.number a.row b.row a.of b.of path in
        elim (cases_order a.block b.block) [
          | inl same ↦ absurd (places (a.at ∙ (λ i. Some (number i, 256 + 128 * same i)) ∙ sym b.at))
          | inr other ↦ elim other [ inl below ↦ inl (omega arith) | inr above ↦ inr (omega arith) ]
        ]

some_is : {A : Type 0} (x y : A) → Some x ≡ Some y → x ≡ y
some_is x y e = cc

-- the row and the first sector of the copy at a place
pub record Lies (rows : List DevRow) (place : ℕ) (row : DevRow) (s : ℕ) : Type 0 where
  pub number : ℕ
  pub block : ℕ
  pub of : slice_get rows number ≡ Some row
  pub sector : s ≡ 256 + 128 * block
  pub usable : block < usable_blocks row.sectors
  pub range : copy_range rows place ≡ (row.path, 512 * s, 65536)

pub lies : (rows : List DevRow) (place n s : ℕ) (row : DevRow) → place < capacity_of rows → place_at (row_blocks rows) place ≡ Some (n, s) → slice_get rows n ≡ Some row → Lies rows place row s
lies rows place n s row lt at of =
    let a = copy_at rows place lt in
    let both = some_is (a.number, 256 + 128 * a.block) (n, s) (sym a.at ∙ at) in
    let number : a.number ≡ n = ap (λ (q : ℕ × ℕ). q.0) both in
    let sector : s ≡ 256 + 128 * a.block = sym (ap (λ (q : ℕ × ℕ). q.1) both) in
    let rows_are : Some a.row ≡ Some row = sym a.of ∙ ap (slice_get rows) number ∙ of in
    let row_is : a.row ≡ row = cc in
    record {
      number = n;
      block = a.block;
      of = of;
      sector = sector;
      usable = subst (λ (r : DevRow). a.block < usable_blocks r.sectors) row_is a.usable;
      range = a.range ∙ (λ i. ((row_is i).path, 512 * sym sector i, 65536));
    }

pub lies_in : (tier : Caching) (place : ℕ) (at : ℕ × ℕ) (row : DevRow) → place < tier.list.capacity → tier.list.capacity ≡ capacity_of tier.rows → place_at (row_blocks tier.rows) place ≡ Some at → slice_get tier.rows at.0 ≡ Some row → Lies tier.rows place row at.1
lies_in tier place at row lt full is of = lies tier.rows place at.0 at.1 row (omega (arith, lt, full)) is of

module _ (rows : List DevRow) (place : ℕ) (row : DevRow) (s : ℕ) (a : Lies rows place row s) (o n : ℕ) (fits : 512 * o + n ≤ 65536) where
  -- a part of a copy lies on its device
  pub part_within : (devs : Devices) → InRack devs rows → n % 512 ≡ 0 → 0 < n → IsWithin devs row.path (s + o) n
  part_within devs in_rack whole some = record {
    sectors = row.sectors;
    has = in_rack a.number row a.of;
    whole = whole;
    some = some;
    within = omega (arith, fits, a.usable, a.sector);
  }

  -- and among the tier's places
  pub part_covered : (p : Path) (i : ℕ) → covers (cache_ranges rows) p i ≡ false → covers ((row.path, 512 * (s + o), n) ∷ []) p i ≡ false
  part_covered = covers_inside (cache_ranges rows) a.number (row.path, 131072, 65536 * usable_blocks row.sectors) (row.path, 512 * (s + o), n)
      (got_map (λ (r : DevRow). (r.path, 131072, 65536 * usable_blocks r.sectors)) rows a.number row a.of) refl (omega (arith, a.sector)) (omega (arith, fits, a.usable, a.sector))

-- where a part of a copy is written
pub put_same : (rows : List DevRow) (place : ℕ) (row : DevRow) (s o : ℕ) (bytes : List ℕ) (c : Image) → Lies rows place row s
    → put_on row.path (512 * (s + o)) bytes c ≡ put_on (copy_range rows place).0 ((copy_range rows place).1 + 512 * o) bytes c
put_same rows place row s o bytes c a =
    let path : row.path ≡ (copy_range rows place).0 = sym (ap (λ (r : Range). r.0) a.range) in
    let first : (copy_range rows place).1 ≡ 512 * s = ap (λ (r : Range). r.1) a.range in
    let at : 512 * (s + o) ≡ (copy_range rows place).1 + 512 * o = omega (arith, first) in
    (λ i. put_on (path i) (at i) bytes c)

pub device_there : {A : Type 0} (xs : List A) (k : ℕ) (x : A) → slice_get xs k ≡ Some x → k < length xs
device_there [] k x is = absurd (cc)
device_there (y ∷ xs) zero x is = omega arith
device_there (y ∷ xs) (suc k) x is = omega (arith, device_there xs k x is)

pub place_device : (rows : List DevRow) (place n s : ℕ) → place < capacity_of rows → place_at (row_blocks rows) place ≡ Some (n, s) → n < length rows
place_device rows place n s lt at =
    let a = copy_at rows place lt in
    let number : a.number ≡ n = ap (λ (q : ℕ × ℕ). q.0) (some_is (a.number, 256 + 128 * a.block) (n, s) (sym a.at ∙ at)) in
    omega (arith, device_there rows a.number a.row a.of)

-- a copy lies on no device that is elsewhere
pub copy_elsewhere : (rows : List DevRow) (place : ℕ) → CopyAt rows place → (dev : Path) → IsElsewhere rows dev → (copy_range rows place).0 ≢ dev
copy_elsewhere rows place a dev away e = away a.number a.row a.of (sym (ap (λ (r : Range). r.0) a.range) ∙ e)

-- no place of the tier lies on a device that is elsewhere
pub covers_elsewhere : (rows : List DevRow) (p : Path) → IsElsewhere rows p → (i : ℕ) → covers (cache_ranges rows) p i ≡ false
covers_elsewhere [] p away i = refl
covers_elsewhere (row ∷ rows) p away i =
    let other : bytes_eq row.path p ≡ false = off_path row.path p (away 0 row refl) in
    (λ j. other j && within 131072 (65536 * usable_blocks row.sectors) i || covers_elsewhere rows p (λ k r is. away (suc k) r is) i j)

-- more devices behind those of a tier
devices-append : (xs ys : List ℕ) (dev : ℕ) → blocks_of_devices dev (xs ++ ys) ≡ blocks_of_devices dev xs ++ blocks_of_devices (dev + length xs) ys
devices-append [] ys dev = ap (λ (n : ℕ). blocks_of_devices n ys) (sym (add-zero dev))
devices-append (x ∷ xs) ys dev =
    let shift : dev + 1 + length xs ≡ dev + suc (length xs) = omega arith in
    ap (λ (bs : List Block). blocks_from dev 0 (usable_blocks x) ++ bs) (devices-append xs ys (dev + 1) ∙ ap (λ (n : ℕ). blocks_of_devices (dev + 1) xs ++ blocks_of_devices n ys) shift)
    ∙ sym (append_assoc (blocks_from dev 0 (usable_blocks x)) (blocks_of_devices (dev + 1) xs) (blocks_of_devices (dev + suc (length xs)) ys))

got_left : {A : Type 0} (xs ys : List A) (k : ℕ) (x : A) → slice_get xs k ≡ Some x → slice_get (xs ++ ys) k ≡ Some x
got_left [] ys k x is = absurd (cc)
got_left (y ∷ xs) ys zero x is = is
got_left (y ∷ xs) ys (suc k) x is = got_left xs ys k x is

pub copies_stay : (rows more : List DevRow) (place : ℕ) → place < capacity_of rows → copy_range (rows ++ more) place ≡ copy_range rows place
copies_stay rows more place lt =
    let a = copy_at rows place lt in
    let inside : place < length (row_blocks rows) = omega (arith, length-devices (sectors_of rows) 0) in
    let wider : row_blocks (rows ++ more) ≡ row_blocks rows ++ blocks_of_devices (0 + length (sectors_of rows)) (sectors_of more) =
    ap (blocks_of_devices 0) (map-append (λ (row : DevRow). row.sectors) rows more) ∙ devices-append (sectors_of rows) (sectors_of more) 0 in
    let at : place_at (row_blocks (rows ++ more)) place ≡ Some (a.number, 256 + 128 * a.block) =
    ap (λ (bs : List Block). place_at bs place) wider ∙ places_stay (row_blocks rows) (blocks_of_devices (0 + length (sectors_of rows)) (sectors_of more)) place inside ∙ a.at in
    ap (range_in (rows ++ more)) at
    ∙ ap (λ (o : Option DevRow). (path_in o, 512 * (256 + 128 * a.block), 65536)) (got_left rows more a.number a.row a.of)
    ∙ sym a.range
