-- a pool stays whole where rows of its filesystems change
use Rattle.std.proofs.Common.{◌≡◌, ℕ, ◌+◌, ◌/◌, ◌<◌, ◌≤◌, ◌==◌, ◌&&◌, ◌||◌, List, [], ◌∷◌, length, Bool, true, false, map, Option, Some, None, refl, sym, ap, ◌∙◌, subst, arith}
use Rattle.std.specs.List.{AllByRecursion, list_any}
use Rattle.std.proofs.lemmas.List.{length-map}
use Rattle.std.proofs.lemmas.Nat.{le-div}
use Rattle.std.proofs.Math.Nat.{div-mul-le_self}
use Rattle.st_limits.specs.declared.TheConstants.{MAX_COMMITS}
use Rattle.st_model.specs.declared.state.FsState.{FsState}
use Rattle.st_model.specs.declared.state.PoolState.{PoolState}
use Rattle.st_model.specs.Merged.{is_mapped}
use Rattle.st_model.specs.ValidPool.{EachPair, has_serial, is_marked, IsSize, IsLimit, IsOrigin, IsMark, IsMapping, IsValidFs, AreFsPair, IsCell, IsWhole}
use Rattle.st_model.proofs.Among.{All-with}
use Rattle.st_model.proofs.Lists.{All-weaker, All-map}
use Rattle.st_model.proofs.Replacing.{IsFitting}
use Rattle.st_model.proofs.Totals.{total, total-is}
use Rattle.st_model.proofs.Whole.{cache_alike}

-- the maps stay as they are
pub record KeepsMap (a b : FsState) : Type 0 where
  pub map : b.map ≡ a.map
  pub serial : b.row.serial ≡ a.row.serial

any_over : {X : Type 0} (p : X → Bool) (c : X → X) (xs : List X) → ((x : X) → p (c x) ≡ p x) → list_any p (map c xs) ≡ list_any p xs
any_over p c [] h = refl
any_over p c (x ∷ xs) h = rw (h x) (ap (λ b. p x || b) (any_over p c xs h))

pub serial_over : (c : FsState → FsState) → ((fs : FsState) → KeepsMap fs (c fs)) → (serial : ℕ) (fss : List FsState) → has_serial serial (map c fss) ≡ has_serial serial fss
serial_over c k serial fss = any_over (λ (fs : FsState). fs.row.serial == serial) c fss (λ fs. rw (k fs).serial refl)

pub mapped_over : (c : FsState → FsState) → ((fs : FsState) → KeepsMap fs (c fs)) → (cell : ℕ) (fss : List FsState) → is_mapped (map c fss) cell ≡ is_mapped fss cell
mapped_over c k cell fss = any_over (λ (fs : FsState). list_any (λ (entry : ℕ × ℕ). entry.1 == cell) fs.map) c fss (λ fs. rw (k fs).map refl)

maps_over : (c : FsState → FsState) → ((fs : FsState) → KeepsMap fs (c fs)) → (fss : List FsState) → total (λ (fs : FsState). length fs.map) (map c fss) ≡ total (λ (fs : FsState). length fs.map) fss
maps_over c k [] = refl
maps_over c k (fs ∷ fss) = rw (k fs).map (ap (λ n. length fs.map + n) (maps_over c k fss))

fitting_row : (p q : PoolState) (fss : List FsState) → q.next_filesystem ≡ p.next_filesystem → q.next_cell ≡ p.next_cell → q.cells ≡ p.cells → q.filesystems ≡ fss → (fs : FsState) → IsFitting p fss fs → IsValidFs q fs
fitting_row p q fss n c k e fs h = record {
  from_one = h.from_one;
  below_next = rw n h.below_next;
  size = h.size;
  limit = h.limit;
  origin = rw e h.origin;
  mark = rw e h.mark;
  map = h.map;
  mapped = All-weaker _ _ fs.map (λ entry m. record { within = m.within; from_one = m.from_one; below_next = rw c m.below_next; kept = rw k m.kept }) h.mapped;
}

-- with other rows, and one commit more or less of other things
pub whole-rowed : (p q : PoolState) (c : FsState → FsState) → ((fs : FsState) → KeepsMap fs (c fs)) → q.filesystems ≡ map c p.filesystems → q.devices ≡ p.devices → q.cells ≡ p.cells → q.next_cell ≡ p.next_cell → q.next_filesystem ≡ p.next_filesystem
    → p.allocated ≤ q.allocated → q.allocated ≤ Rattle.st_model.specs.Sums.room p → q.commits ≡ p.commits + 1 → q.filesystem_limit ≡ p.filesystem_limit → q.cache ≡ p.cache
    → EachPair AreFsPair (map c p.filesystems) → AllByRecursion (IsFitting p (map c p.filesystems)) (map c p.filesystems) → p.commits < MAX_COMMITS → IsWhole p → IsWhole q
whole-rowed p q c k e d cells n f grew room one l same ordered fits less h =
    let before = total-is (λ (fs : FsState). length fs.map) p.filesystems in
    let after = total-is (λ (fs : FsState). length fs.map) (map c p.filesystems) in
    let over = maps_over c k p.filesystems in
    let maps = h.mappings in
    let used = h.used in
    let cb = h.cell_bounded in
    let fb = h.filesystem_bounded in
    record {
      devices = rw d h.devices;
      ordered = rw e ordered;
      filesystems = subst (λ (x : List FsState). AllByRecursion (IsValidFs q) x) (sym e) (All-weaker _ _ (map c p.filesystems) (fitting_row p q (map c p.filesystems) f n cells e) fits);
      count = rw (e, length-map p.filesystems c) h.count;
      mappings = rw e (omega (arith, before, after, over, maps));
      cell_map = rw cells h.cell_map;
      cells = subst (λ (x : List (ℕ × List ℕ)). AllByRecursion (λ (entry : ℕ × List ℕ). IsCell q entry.0 entry.1) x) (sym cells)
          (All-weaker _ _ p.cells (λ entry i. record { mapped = rw e (mapped_over c k entry.0 p.filesystems ∙ i.mapped); full = i.full }) h.cells);
      used = rw cells (omega (arith, used, grew));
      allocated = rw d room;
      cell_from_one = rw n h.cell_from_one;
      cell_bounded = rw (n, one) (omega (arith, cb));
      filesystem_from_one = rw f h.filesystem_from_one;
      filesystem_bounded = rw (f, one) (omega (arith, fb));
      commits = rw one (omega (arith, less));
      limit = rw l h.limit;
      cache = subst (λ o. Rattle.st_model.specs.ValidPool.IsCacheOf q o) (sym same) (cache_alike p q d cells p.cache h.cache);
    }

-- the rows keep what origins and marks speak of
pub record KeepsLine (a b : FsState) : Type 0 where
  pub keeps : KeepsMap a b
  pub origin : b.row.origin ≡ a.row.origin
  pub merge : b.row.merge ≡ a.row.merge

marked_over : (c : FsState → FsState) → ((fs : FsState) → KeepsLine fs (c fs)) → (serial : ℕ) (fss : List FsState) → is_marked serial (map c fss) ≡ is_marked serial fss
marked_over c k serial fss = any_over (λ (fs : FsState). fs.row.merge && (fs.row.serial == serial)) c fss (λ fs. rw ((k fs).merge, (k fs).keeps.serial) refl)

-- a size and a limit that such a row may have
pub record IsSized (a b : FsState) : Type 0 where
  pub size : IsSize b.row.size
  pub limit : IsLimit b.row.size b.row.limit
  pub grew : a.row.size ≤ b.row.size

line_fits : (p : PoolState) (c : FsState → FsState) → ((fs : FsState) → KeepsLine fs (c fs)) → (fs : FsState) → IsValidFs p fs → IsSized fs (c fs) → IsFitting p (map c p.filesystems) (c fs)
line_fits p c k fs h s =
    let o = k fs in
    record {
      from_one = rw o.keeps.serial h.from_one;
      below_next = rw o.keeps.serial h.below_next;
      size = s.size;
      limit = s.limit;
      origin = rw (o.keeps.serial, o.origin) (of_origin fs.row.origin h.origin);
      mark = rw (o.merge, o.origin) (of_mark fs.row.merge fs.row.origin h.mark);
      map = rw o.keeps.map h.map;
      mapped = rw o.keeps.map (All-weaker _ _ fs.map (λ entry m. record { within = wider entry.0 m.within; from_one = m.from_one; below_next = m.below_next; kept = m.kept }) h.mapped);
    }
  where
    of_origin : (x : Option ℕ) → IsOrigin p.filesystems fs.row.serial x → IsOrigin (map c p.filesystems) fs.row.serial x
    of_origin None h = tt
    of_origin (Some x) h = (h.0, serial_over c (λ y. (k y).keeps) x p.filesystems ∙ h.1)

    of_mark : (b : Bool) (x : Option ℕ) → IsMark p.filesystems b x → IsMark (map c p.filesystems) b x
    of_mark false x h = tt
    of_mark true None h = h
    of_mark true (Some x) h = marked_over c k x p.filesystems ∙ h

    wider : (block : ℕ) → block < fs.row.size / 128 → block < (c fs).row.size / 128
    wider block h =
        let least = div-mul-le_self fs.row.size 128 in
        let grew = s.grew in
        let more : fs.row.size / 128 ≤ (c fs).row.size / 128 = le-div (fs.row.size / 128) (c fs).row.size 128 (omega arith) (omega (arith, least, grew)) in
        omega (arith, h, more)

pub lines_fit : (p : PoolState) (c : FsState → FsState) → ((fs : FsState) → KeepsLine fs (c fs)) → AllByRecursion (IsValidFs p) p.filesystems → AllByRecursion (λ (fs : FsState). IsSized fs (c fs)) p.filesystems → AllByRecursion (IsFitting p (map c p.filesystems)) (map c p.filesystems)
lines_fit p c k h s = All-map _ c p.filesystems (All-with _ _ _ p.filesystems (line_fits p c k) h s)
