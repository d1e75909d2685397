-- filesystems that grow keep all but their sizes
use Rattle.std.proofs.Common.{◌≡◌, ℕ, ◌+◌, ◌-◌, ◌*◌, ◌/◌, ◌%◌, ◌<◌, ◌≤◌, ◌==◌, ◌&&◌, ◌||◌, List, [], ◌∷◌, length, map, Bool, true, false, cond, Option, Some, None, nat_le, min, unwrap_or, refl, sym, ap, ◌∙◌, subst, arith}
use Rattle.std.specs.List.{AllByRecursion, list_any}
use Rattle.std.proofs.lemmas.Grind.{common_steps}
use Rattle.std.proofs.lemmas.Nat.{le-div}
use Rattle.std.proofs.Math.Nat.{div-mul-le_self, min-le_right, le-min, min-eq_left, min-eq_right}
use Rattle.st_limits.specs.Growth.{all_grown, doubled, grown, is_filling, may_be, volume_blocks}
use Rattle.st_model.specs.declared.state.FsState.{FsState}
use Rattle.st_model.specs.declared.state.PoolState.{PoolState}
use Rattle.st_model.specs.Merged.{is_mapped}
use Rattle.st_model.specs.ValidPool.{EachPair, has_serial, is_marked, IsSize, IsLimit, IsOrigin, IsMark, IsValidFs, AreFsPair}
use Rattle.st_model.proofs.Lists.{All-weaker}
use Rattle.st_model.proofs.Totals.{total}
use Rattle.st_model.specs.steps.Check.{resized, volume_of, with_size}

pub serials_stay : (n : ℕ) (fss : List FsState) (sizes : List ℕ) → has_serial n (resized fss sizes) ≡ has_serial n fss
serials_stay n [] sizes = refl
serials_stay n (x ∷ fss) [] = refl
serials_stay n (x ∷ fss) (size ∷ sizes) = ap (λ b. (x.row.serial == n) || b) (serials_stay n fss sizes)

pub marks_stay : (n : ℕ) (fss : List FsState) (sizes : List ℕ) → is_marked n (resized fss sizes) ≡ is_marked n fss
marks_stay n [] sizes = refl
marks_stay n (x ∷ fss) [] = refl
marks_stay n (x ∷ fss) (size ∷ sizes) = ap (λ b. (x.row.merge && (x.row.serial == n)) || b) (marks_stay n fss sizes)

pub cells_stay : (cell : ℕ) (fss : List FsState) (sizes : List ℕ) → is_mapped (resized fss sizes) cell ≡ is_mapped fss cell
cells_stay cell [] sizes = refl
cells_stay cell (x ∷ fss) [] = refl
cells_stay cell (x ∷ fss) (size ∷ sizes) = ap (λ b. list_any (λ (e : ℕ × ℕ). e.1 == cell) x.map || b) (cells_stay cell fss sizes)

pub maps_stay : (fss : List FsState) (sizes : List ℕ) → total (λ (fs : FsState). length fs.map) (resized fss sizes) ≡ total (λ (fs : FsState). length fs.map) fss
maps_stay [] sizes = refl
maps_stay (x ∷ fss) [] = refl
maps_stay (x ∷ fss) (size ∷ sizes) = ap (λ n. length x.map + n) (maps_stay fss sizes)

pub resized-length : (fss : List FsState) (sizes : List ℕ) → length (resized fss sizes) ≡ length fss
resized-length [] sizes = refl
resized-length (x ∷ fss) [] = refl
resized-length (x ∷ fss) (size ∷ sizes) = ap (λ n. Rattle.std.proofs.Common.suc n) (resized-length fss sizes)

first_pairs : (x : FsState) (size : ℕ) (fss : List FsState) (sizes : List ℕ) → AllByRecursion (AreFsPair x) fss → AllByRecursion (AreFsPair (with_size size x)) (resized fss sizes)
first_pairs x size [] sizes h = tt
first_pairs x size (y ∷ fss) [] h = All-weaker (AreFsPair x) (AreFsPair (with_size size x)) (y ∷ fss) (λ z r. record { serials = r.serials; names = r.names; marks = r.marks }) h
first_pairs x size (y ∷ fss) (n ∷ sizes) h = (record { serials = h.0.serials; names = h.0.names; marks = h.0.marks }, first_pairs x size fss sizes h.1)

pub resized-pairs : (fss : List FsState) (sizes : List ℕ) → EachPair AreFsPair fss → EachPair AreFsPair (resized fss sizes)
resized-pairs [] sizes h = tt
resized-pairs (x ∷ fss) [] h = h
resized-pairs (x ∷ fss) (size ∷ sizes) h = (first_pairs x size fss sizes h.0, resized-pairs fss sizes h.1)

-- a size that the filesystem may have, and that isn't below its own
pub record IsGrown (x : FsState) (n : ℕ) : Type 0 where
  pub size : IsSize n
  pub limit : IsLimit n x.row.limit
  pub grew : x.row.size ≤ n

abbrev pub AreGrown : List FsState → List ℕ → Type 0
AreGrown (x ∷ fss) (size ∷ sizes) = IsGrown x size × AreGrown fss sizes
AreGrown _ _ = Unit {0}

module _ (p q : PoolState) (sizes : List ℕ) (same : q.filesystems ≡ resized p.filesystems sizes) (next : q.next_filesystem ≡ p.next_filesystem) (cell : q.next_cell ≡ p.next_cell) (cells : q.cells ≡ p.cells) where
  one_valid : (x : FsState) (size : ℕ) → IsGrown x size → IsValidFs p x → IsValidFs q (with_size size x)
  one_valid x size g v = record {
    from_one = v.from_one;
    below_next = rw next v.below_next;
    size = g.size;
    limit = g.limit;
    origin = of_origin x.row.origin v.origin;
    mark = of_mark x.row.merge x.row.origin v.mark;
    map = v.map;
    mapped = All-weaker _ _ x.map (λ (e : ℕ × ℕ) m. record { within = wider e.0 m.within; from_one = m.from_one; below_next = rw cell m.below_next; kept = rw cells m.kept }) v.mapped;
  }
    where
      of_origin : (o : Option ℕ) → IsOrigin p.filesystems x.row.serial o → IsOrigin q.filesystems x.row.serial o
      of_origin None h = tt
      of_origin (Some n) h = (h.0, rw same (serials_stay n p.filesystems sizes ∙ h.1))

      of_mark : (b : Bool) (o : Option ℕ) → IsMark p.filesystems b o → IsMark q.filesystems b o
      of_mark false o h = tt
      of_mark true None h = h
      of_mark true (Some n) h = rw same (marks_stay n p.filesystems sizes ∙ h)

      wider : (block : ℕ) → block < x.row.size / 128 → block < size / 128
      wider block h =
          let least = div-mul-le_self x.row.size 128 in
          let grew = g.grew in
          let more : x.row.size / 128 ≤ size / 128 = le-div (x.row.size / 128) size 128 (omega arith) (omega (arith, least, grew)) in
          omega (arith, h, more)

  pub resized-valid : (fss : List FsState) (ss : List ℕ) → AreGrown fss ss → AllByRecursion (IsValidFs p) fss → AllByRecursion (IsValidFs q) (resized fss ss)
  resized-valid [] ss g h = tt
  resized-valid (x ∷ fss) [] g h = (one_valid x x.row.size (record { size = h.0.size; limit = h.0.limit; grew = omega arith }) h.0, all fss h.1)
    where
      all : (xs : List FsState) → AllByRecursion (IsValidFs p) xs → AllByRecursion (IsValidFs q) xs
      all [] h = tt
      all (y ∷ ys) h = (one_valid y y.row.size (record { size = h.0.size; limit = h.0.limit; grew = omega arith }) h.0, all ys h.1)
  resized-valid (x ∷ fss) (size ∷ ss) g h = (one_valid x size g.0 h.0, resized-valid fss ss g.1 h.1)

-- the growth rule
one_of : (P : ℕ → Type 0) (a b : ℕ) → P a → P b → P (min a b)
one_of P a b x y = here (nat_le a b) refl
  where
    left : nat_le a b ≡ true → min a b ≡ a
    left e = min-eq_left (below e)
      where
        below : nat_le a b ≡ true → a ≤ b
        below e = grind (arith, common_steps)

    right : nat_le a b ≡ false → min a b ≡ b
    right e = min-eq_right (above e)
      where
        above : nat_le a b ≡ false → b ≤ a
        above e = grind (arith, common_steps)

    here : (c : Bool) → nat_le a b ≡ c → P (min a b)
    here true e = subst P (sym (left e)) x
    here false e = subst P (sym (right e)) y

twice_whole : (size : ℕ) → size % 128 ≡ 0 → (2 * size) % 128 ≡ 0
twice_whole size h = omega (arith, h)

most_size : IsSize 4294967296
most_size = record { whole = refl; some = omega arith; bounded = omega arith }

-- the least of twice the size and a limit is a size, where the limit is
least_size : (size most : ℕ) → IsSize size → IsSize most → size ≤ most → IsSize (min (2 * size) most) × ((size ≤ min (2 * size) most) × (min (2 * size) most ≤ most))
least_size size most s m le =
    let some = s.some in
    let top = m.bounded in
    let low = m.some in
    let less = min-le_right (2 * size) most in
    let all : 128 ≤ min (2 * size) most = le-min (omega (arith, some)) low in
    let grew : size ≤ min (2 * size) most = le-min (omega arith) le in (
      record { whole = one_of (λ n. n % 128 ≡ 0) (2 * size) most (twice_whole size s.whole) m.whole; some = all; bounded = omega (arith, less, top) },
      (grew, less),
    )

doubled-grown : (x : FsState) → IsSize x.row.size → (limit : Option ℕ) → x.row.limit ≡ limit → IsLimit x.row.size limit → IsGrown x (doubled x.row.size limit)
doubled-grown x s None e l =
    let bounded = s.bounded in
    let d = least_size x.row.size 4294967296 s most_size bounded in
    record { size = d.0; limit = rw e tt; grew = d.1.0 }
doubled-grown x s (Some limit) e l =
    let same : min limit 4294967296 ≡ limit = min-eq_left l.0.bounded in
    let d = least_size x.row.size limit s l.0 l.1 in
    let is : doubled x.row.size (Some limit) ≡ min (2 * x.row.size) limit = ap (λ m. min (2 * x.row.size) m) same in
    subst (IsGrown x) (sym is) (record { size = d.0; limit = rw e (l.0, d.1.1); grew = d.1.0 })

grown-fits : (x : FsState) (mapped others room : ℕ) (over : Bool) → IsSize x.row.size → IsLimit x.row.size x.row.limit → IsGrown x (grown x.row.size mapped x.row.limit others room over)
grown-fits x mapped others room over s l = here (is_filling x.row.size mapped && may_be (doubled x.row.size x.row.limit) others room over)
  where
    here : (b : Bool) → IsGrown x (cond b (doubled x.row.size x.row.limit) x.row.size)
    here true = doubled-grown x s x.row.limit refl l
    here false = record { size = s; limit = l; grew = omega arith }

pub all_grown-fit : (p : PoolState) (room : ℕ) (over : Bool) (before : ℕ) (fss : List FsState) → AllByRecursion (IsValidFs p) fss → AreGrown fss (all_grown room over before (map volume_of fss))
all_grown-fit p room over before [] h = tt
all_grown-fit p room over before (x ∷ fss) h =
    let others = before + volume_blocks (map volume_of fss) in
    let size = grown x.row.size (length x.map) x.row.limit others room over in
    (grown-fits x (length x.map) others room over h.0.size h.0.limit, all_grown-fit p room over (before + size / 128) fss h.1)
