-- what the blocks of a pool hold after a write
use Rattle.std.proofs.Common.{◌≡◌, ℕ, ◌<◌, ◌≤◌, ◌==◌, ◌||◌, inl, inr, List, [], ◌∷◌, map, filter, replicate, Bool, true, false, cond, Option, Some, None, unwrap_or, refl, sym, ap, ◌∙◌, subst, arith}
use Rattle.std.specs.Prelude.{nat_eq}
use Rattle.std.specs.List.{AllByRecursion, list_any}
use Rattle.std.specs.Map.{lookup}
use Rattle.std.proofs.lemmas.Bool.{eqb-true}
use Rattle.std.proofs.lemmas.Grind.{common_steps}
use Rattle.std.proofs.lemmas.Map.Entries.{lookup-filter-keys}
use Rattle.st_model.specs.declared.state.FsState.{FsState}
use Rattle.st_model.specs.declared.state.PoolState.{PoolState}
use Rattle.st_model.specs.Content.{block_bytes, bytes_at, cell_at}
use Rattle.st_model.specs.Merged.{is_mapped}
use Rattle.st_model.specs.ValidPool.{EachPair, IsWhole}
use Rattle.st_model.specs.steps.FsWrite.{Put, with_blocks, with_cells, with_map, written}
use Rattle.st_model.proofs.Among.{IsIn}
use Rattle.st_model.proofs.Inserted.{lookup-holds}
use Rattle.st_model.proofs.Lists.{All-weaker}
use Rattle.st_model.proofs.ValidFields.{same_serial}
use Rattle.st_model.proofs.ValidMerge.{valid_in}
use Rattle.st_laws.proofs.Puts.{AreApart, IsFrom, all_blocks, all_cells, other_blocks, other_cells}
use Rattle.st_laws.proofs.Sharing.{shared-apart, shared-within}

or_left : (a b : Bool) → a ≡ true → (a || b) ≡ true
or_left true b h = refl
or_left false b h = absurd cc

or_right : (a b : Bool) → b ≡ true → (a || b) ≡ true
or_right true b h = refl
or_right false b h = h

same_number : (n : ℕ) → (n == n) ≡ true
same_number n = grind (arith, common_steps)

pub equal_numbers : (a b : ℕ) → (a == b) ≡ true → a ≡ b
equal_numbers a b h = grind (arith, common_steps)

clash : (b : Bool) → b ≡ false → b ≡ true → ⊥
clash b f t = absurd cc

-- what a map gives is mapped
one_mapped : (block c : ℕ) (entries : List (ℕ × ℕ)) → lookup (nat_eq block) entries ≡ Some c → list_any (λ (e : ℕ × ℕ). e.1 == c) entries ≡ true
one_mapped block c [] h = absurd cc
one_mapped block c (e ∷ es) h = here (nat_eq block e.0) h (one_mapped block c es)
  where
    here : (b : Bool) → cond b (Some e.1) (lookup (nat_eq block) es) ≡ Some c → (lookup (nat_eq block) es ≡ Some c → list_any (λ (x : ℕ × ℕ). x.1 == c) es ≡ true) → ((e.1 == c) || list_any (λ (x : ℕ × ℕ). x.1 == c) es) ≡ true
    here true h rest = let same : e.1 ≡ c = cc in or_left (e.1 == c) _ (subst (λ (n : ℕ). (e.1 == n) ≡ true) same (same_number e.1))
    here false h rest = or_right (e.1 == c) _ (rest h)

pub mapped_by : (c block : ℕ) (x : FsState) (fss : List FsState) → IsIn x fss → lookup (nat_eq block) x.map ≡ Some c → is_mapped fss c ≡ true
mapped_by c block x [] i h = absurd i
mapped_by c block x (y ∷ fss) (inl e) h = or_left _ _ (subst (λ (z : FsState). list_any (λ (n : ℕ × ℕ). n.1 == c) z.map ≡ true) (sym e) (one_mapped block c x.map h))
mapped_by c block x (y ∷ fss) (inr i) h = or_right _ _ (mapped_by c block x fss i h)

pub in_map : (f : FsState → FsState) (x : FsState) (fss : List FsState) → IsIn x fss → IsIn (f x) (map f fss)
in_map f x [] i = absurd i
in_map f x (y ∷ fss) (inl e) = inl (ap f e)
in_map f x (y ∷ fss) (inr i) = inr (in_map f x fss i)

-- bytes of a cell that stays
pub stays : (fss : List FsState) (c : ℕ) (cells : List (ℕ × List ℕ)) → is_mapped fss c ≡ true → lookup (nat_eq c) (filter (λ (e : ℕ × List ℕ). is_mapped fss e.0) cells) ≡ lookup (nat_eq c) cells
stays fss c cells h = lookup-filter-keys (nat_eq c) (is_mapped fss) true (λ k e. subst (λ (n : ℕ). is_mapped fss n ≡ true) (eqb-true c k e) h) cells

module _ (p : PoolState) (h : IsWhole p) (fs : FsState) (i : IsIn fs p.filesystems) (qs : List Put) (taken : ℕ) (from : AllByRecursion (IsFrom p fs p.next_cell) qs) (apart : EachPair AreApart qs) where
  abbrev pub after : PoolState
  after = written fs qs taken p

  abbrev pub change : FsState → FsState
  change = with_map fs.row.serial (with_blocks qs fs.map)

  -- a cell of another place isn't put
  unput : (x : FsState) → IsIn x p.filesystems → (block c : ℕ) → lookup (nat_eq block) x.map ≡ Some c → ((x.row.serial == fs.row.serial) ≡ true → AllByRecursion (λ (q : Put). block ≡ q.block → ⊥) qs) → AllByRecursion (λ (q : Put). c ≡ q.cell → ⊥) qs
  unput x j block c e other = here (x.row.serial == fs.row.serial) refl
    where
      low : c < p.next_cell
      low = lookup-holds (λ n. n < p.next_cell) (nat_eq block) x.map c (All-weaker _ _ x.map (λ (n : ℕ × ℕ) m. m.below_next) (valid_in p x p.filesystems j h.filesystems).mapped) e

      no : (q : Put) → p.next_cell ≤ q.cell → c ≡ q.cell → ⊥
      no q l s = let below = low in omega (arith, below, l, s)

      far : (x.row.serial == fs.row.serial) ≡ false → (q : Put) → IsFrom p fs p.next_cell q → c ≡ q.cell → ⊥
      far ne q (inl l) s = no q l s
      far ne q (inr own) s =
          clash _ own.1 (shared-apart q.cell block q.block x fs p.filesystems j i (λ same. clash _ ne (subst (λ (n : ℕ). (x.row.serial == n) ≡ true) same (same_number x.row.serial))) (subst (λ (n : ℕ). lookup (nat_eq block) x.map ≡ Some n) s e) own.0)

      near : x ≡ fs → (q : Put) → (block ≡ q.block → ⊥) → IsFrom p fs p.next_cell q → c ≡ q.cell → ⊥
      near is q ne (inl l) s = no q l s
      near is q ne (inr own) s =
          clash _ own.1 (shared-within q.cell block q.block fs p.filesystems i ne (subst (λ (n : ℕ). lookup (nat_eq block) fs.map ≡ Some n) s (subst (λ (y : FsState). lookup (nat_eq block) y.map ≡ Some c) is e)) own.0)

      all_near : x ≡ fs → (rs : List Put) → AllByRecursion (IsFrom p fs p.next_cell) rs → AllByRecursion (λ (q : Put). block ≡ q.block → ⊥) rs → AllByRecursion (λ (q : Put). c ≡ q.cell → ⊥) rs
      all_near is [] f o = tt
      all_near is (q ∷ rs) f o = (near is q o.0 f.0, all_near is rs f.1 o.1)

      is_fs : (x.row.serial == fs.row.serial) ≡ true → x ≡ fs
      is_fs same = found p.filesystems (same_serial p.filesystems fs h.ordered i) j same
        where
          found : (xs : List FsState) → AllByRecursion (λ (y : FsState). (y.row.serial == fs.row.serial) ≡ true → y ≡ fs) xs → IsIn x xs → (x.row.serial == fs.row.serial) ≡ true → x ≡ fs
          found [] a j = absurd j
          found (y ∷ ys) a (inl e) = subst (λ (z : FsState). (z.row.serial == fs.row.serial) ≡ true → z ≡ fs) e a.0
          found (y ∷ ys) a (inr j) = found ys a.1 j

      here : (b : Bool) → (x.row.serial == fs.row.serial) ≡ b → AllByRecursion (λ (q : Put). c ≡ q.cell → ⊥) qs
      here true same = all_near (is_fs same) qs from (other same)
      here false ne = All-weaker _ _ qs (far ne) from

  -- a block that isn't written holds what it held
  pub untouched : (x : FsState) → IsIn x p.filesystems → (block : ℕ) → ((x.row.serial == fs.row.serial) ≡ true → (x ≡ fs) × AllByRecursion (λ (q : Put). block ≡ q.block → ⊥) qs) → block_bytes after (change x) block ≡ block_bytes p x block
  untouched x j block other = bytes (cell_at block x.map) refl
    where
      new_cell : cell_at block (change x).map ≡ cell_at block x.map
      new_cell = here (x.row.serial == fs.row.serial) refl
        where
          here : (b : Bool) → (x.row.serial == fs.row.serial) ≡ b → cell_at block (cond b (record x { map = with_blocks qs fs.map }) x).map ≡ cell_at block x.map
          here true same = other_blocks block qs fs.map (other same).1 ∙ ap (λ (y : FsState). cell_at block y.map) (sym (other same).0)
          here false ne = refl

      bytes : (o : Option ℕ) → cell_at block x.map ≡ o → bytes_at after.cells (cell_at block (change x).map) ≡ bytes_at p.cells (cell_at block x.map)
      bytes None e = ap (bytes_at after.cells) (new_cell ∙ e) ∙ sym (ap (bytes_at p.cells) e)
      bytes (Some c) e =
          let there = mapped_by c block (change x) (map change p.filesystems) (in_map change x p.filesystems j) (new_cell ∙ e) in
          ap (bytes_at after.cells) (new_cell ∙ e)
          ∙ ap (λ o. unwrap_or o (replicate 65536 0)) (stays (map change p.filesystems) c (with_cells qs p.cells) there ∙ other_cells c qs p.cells (unput x j block c e (λ same. (other same).1)))
          ∙ sym (ap (bytes_at p.cells) e)

  changed : change fs ≡ record fs { map = with_blocks qs fs.map }
  changed = rw (same_number fs.row.serial) refl

  -- and one that is written holds what was put
  pub touched : AllByRecursion (λ (q : Put). block_bytes after (change fs) q.block ≡ q.bytes) qs
  touched = all qs (all_blocks qs fs.map apart) (all_cells qs p.cells apart)
    where
      one : (q : Put) → lookup (nat_eq q.block) (with_blocks qs fs.map) ≡ Some q.cell → lookup (nat_eq q.cell) (with_cells qs p.cells) ≡ Some q.bytes → block_bytes after (change fs) q.block ≡ q.bytes
      one q b c =
          let e : cell_at q.block (change fs).map ≡ Some q.cell = ap (λ (y : FsState). cell_at q.block y.map) changed ∙ b in
          let there = mapped_by q.cell q.block (change fs) (map change p.filesystems) (in_map change fs p.filesystems i) e in
          ap (bytes_at after.cells) e ∙ ap (λ o. unwrap_or o (replicate 65536 0)) (stays (map change p.filesystems) q.cell (with_cells qs p.cells) there ∙ c)

      all : (rs : List Put) → AllByRecursion (λ (q : Put). lookup (nat_eq q.block) (with_blocks qs fs.map) ≡ Some q.cell) rs → AllByRecursion (λ (q : Put). lookup (nat_eq q.cell) (with_cells qs p.cells) ≡ Some q.bytes) rs
          → AllByRecursion (λ (q : Put). block_bytes after (change fs) q.block ≡ q.bytes) rs
      all [] a b = tt
      all (q ∷ rs) a b = (one q a.0 b.0, all rs a.1 b.1)
