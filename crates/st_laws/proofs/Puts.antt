-- what is found of what a write puts
use Rattle.std.proofs.Common.{◌≡◌, ℕ, ◌+◌, ◌*◌, ◌<◌, ◌≤◌, ◌⊎◌, inl, inr, List, [], ◌∷◌, take, drop, Bool, true, false, cond, Option, Some, None, unwrap_or, refl, sym, ap, ◌∙◌, subst, arith}
use Rattle.std.specs.Prelude.{nat_eq}
use Rattle.std.specs.List.{AllByRecursion}
use Rattle.std.specs.Map.{lookup}
use Rattle.std.specs.BTreeMap.{insert_entry}
use Rattle.std.specs.Ordering.{nat_cmp}
use Rattle.std.proofs.lemmas.Bool.{eq-eqb, ne_eqb}
use Rattle.st_limits.specs.Sums.{is_shared, takes_cell}
use Rattle.st_model.specs.declared.state.FsState.{FsState}
use Rattle.st_model.specs.declared.state.PoolState.{PoolState}
use Rattle.st_model.specs.Content.{Stretch, cell_at, mapped_cells, block_bytes}
use Rattle.st_model.specs.InPlace.{over}
use Rattle.st_model.specs.ValidPool.{EachPair}
use Rattle.st_model.specs.steps.FsWrite.{Put, puts, with_blocks, with_cells}
use Rattle.st_model.proofs.Among.{IsIn}
use Rattle.st_model.proofs.Inserted.{lookup-holds, lookup-insert}
use Rattle.st_model.proofs.Lists.{All-weaker}
use Rattle.st_laws.proofs.Sharing.{shared-within}

pub other_cells : (c : ℕ) (qs : List Put) (cells : List (ℕ × List ℕ)) → AllByRecursion (λ (q : Put). c ≡ q.cell → ⊥) qs → lookup (nat_eq c) (with_cells qs cells) ≡ lookup (nat_eq c) cells
other_cells c [] cells h = refl
other_cells c (q ∷ qs) cells h =
    other_cells c qs (insert_entry nat_cmp cells q.cell q.bytes) h.1 ∙ lookup-insert c q.cell q.bytes cells ∙ ap (λ b. cond b (Some q.bytes) (lookup (nat_eq c) cells)) (ne_eqb c q.cell h.0)

pub other_blocks : (n : ℕ) (qs : List Put) (entries : List (ℕ × ℕ)) → AllByRecursion (λ (q : Put). n ≡ q.block → ⊥) qs → lookup (nat_eq n) (with_blocks qs entries) ≡ lookup (nat_eq n) entries
other_blocks n [] entries h = refl
other_blocks n (q ∷ qs) entries h =
    other_blocks n qs (insert_entry nat_cmp entries q.block q.cell) h.1 ∙ lookup-insert n q.block q.cell entries ∙ ap (λ b. cond b (Some q.cell) (lookup (nat_eq n) entries)) (ne_eqb n q.block h.0)

abbrev pub AreApart : Put → Put → Type 0
AreApart q r = (q.cell ≡ r.cell → ⊥) × (q.block ≡ r.block → ⊥)

-- all that is put is found, where no two puts have a block or a cell in common
pub all_cells : (qs : List Put) (cells : List (ℕ × List ℕ)) → EachPair AreApart qs → AllByRecursion (λ (q : Put). lookup (nat_eq q.cell) (with_cells qs cells) ≡ Some q.bytes) qs
all_cells [] cells h = tt
all_cells (q ∷ qs) cells h =
    let more = insert_entry nat_cmp cells q.cell q.bytes in (
      other_cells q.cell qs more (All-weaker _ _ qs (λ (r : Put) a. a.0) h.0) ∙ lookup-insert q.cell q.cell q.bytes cells ∙ ap (λ b. cond b (Some q.bytes) (lookup (nat_eq q.cell) cells)) (eq-eqb q.cell q.cell refl),
      all_cells qs more h.1,
    )

pub all_blocks : (qs : List Put) (entries : List (ℕ × ℕ)) → EachPair AreApart qs → AllByRecursion (λ (q : Put). lookup (nat_eq q.block) (with_blocks qs entries) ≡ Some q.cell) qs
all_blocks [] entries h = tt
all_blocks (q ∷ qs) entries h =
    let more = insert_entry nat_cmp entries q.block q.cell in (
      other_blocks q.block qs more (All-weaker _ _ qs (λ (r : Put) a. a.1) h.0) ∙ lookup-insert q.block q.block q.cell entries ∙ ap (λ b. cond b (Some q.cell) (lookup (nat_eq q.block) entries)) (eq-eqb q.block q.block refl),
      all_blocks qs more h.1,
    )

-- a put takes a cell from this number on, or the block's own, which is mapped there alone
abbrev pub IsFrom : PoolState → FsState → ℕ → Put → Type 0
IsFrom p fs next q = (next ≤ q.cell) ⊎ ((cell_at q.block fs.map ≡ Some q.cell) × (is_shared (mapped_cells p.filesystems) q.cell ≡ false))

record IsSole (p : PoolState) (fs : FsState) (block : ℕ) : Type 0 where
  cell : ℕ
  is : cell_at block fs.map ≡ Some cell
  sole : is_shared (mapped_cells p.filesystems) cell ≡ false

taken_none : (entries : List (ℕ × ℕ)) (cells : List ℕ) (block : ℕ) → cell_at block entries ≡ None → takes_cell entries cells block ≡ true
taken_none entries cells block e = rw e refl

taken_some : (entries : List (ℕ × ℕ)) (cells : List ℕ) (block cell : ℕ) → cell_at block entries ≡ Some cell → takes_cell entries cells block ≡ is_shared cells cell
taken_some entries cells block cell e = rw e refl

sole_of : (p : PoolState) (fs : FsState) (block : ℕ) → takes_cell fs.map (mapped_cells p.filesystems) block ≡ false → IsSole p fs block
sole_of p fs block h = here (cell_at block fs.map) refl
  where
    clash : (b : Bool) → b ≡ false → b ≡ true → ⊥
    clash b f t = absurd cc

    here : (o : Option ℕ) → cell_at block fs.map ≡ o → IsSole p fs block
    here None e = absurd (clash (takes_cell fs.map (mapped_cells p.filesystems) block) h (taken_none fs.map (mapped_cells p.filesystems) block e))
    here (Some cell) e = record { cell = cell; is = e; sole = sym (taken_some fs.map (mapped_cells p.filesystems) block cell e) ∙ h }

module _ (p : PoolState) (fs : FsState) where
  abbrev pub takes : ℕ → Bool
  takes block = takes_cell fs.map (mapped_cells p.filesystems) block

  abbrev pub first_put : ℕ → List ℕ → Stretch → Put
  first_put next bytes s = record {
    block = s.block;
    cell = cond (takes s.block) next (unwrap_or (cell_at s.block fs.map) next);
    bytes = over (block_bytes p fs s.block) (512 * s.at) (take (512 * s.sectors) bytes);
  }

  first-from : (next : ℕ) (bytes : List ℕ) (s : Stretch) → IsFrom p fs next (first_put next bytes s)
  first-from next bytes s = here (takes s.block) refl
    where
      here : (b : Bool) → takes s.block ≡ b → IsFrom p fs next (record { block = s.block; cell = cond b next (unwrap_or (cell_at s.block fs.map) next); bytes = over (block_bytes p fs s.block) (512 * s.at) (take (512 * s.sectors) bytes) })
      here true e = inl (omega arith)
      here false e = let sole = sole_of p fs s.block e in rw sole.is (inr (refl, sole.sole))

  later : (next more : ℕ) (q : Put) → next ≤ more → IsFrom p fs more q → IsFrom p fs next q
  later next more q le (inl h) = inl (omega (arith, le, h))
  later next more q le (inr h) = inr h

  rises : (next : ℕ) (s : Stretch) → next ≤ cond (takes s.block) (next + 1) next
  rises next s = here (takes s.block)
    where
      here : (b : Bool) → next ≤ cond b (next + 1) next
      here true = omega arith
      here false = omega arith

  pub puts-from : (next : ℕ) (bytes : List ℕ) (ss : List Stretch) → AllByRecursion (IsFrom p fs next) (puts p fs next bytes ss)
  puts-from next bytes [] = tt
  puts-from next bytes (s ∷ ss) =
      let more = cond (takes s.block) (next + 1) next in
      (first-from next bytes s, All-weaker _ _ (puts p fs more (drop (512 * s.sectors) bytes) ss) (λ (q : Put). later next more q (rises next s)) (puts-from more (drop (512 * s.sectors) bytes) ss))

  pub puts-blocks : (P : ℕ → Type 0) (next : ℕ) (bytes : List ℕ) (ss : List Stretch) → AllByRecursion (λ (s : Stretch). P s.block) ss → AllByRecursion (λ (q : Put). P q.block) (puts p fs next bytes ss)
  puts-blocks P next bytes [] h = tt
  puts-blocks P next bytes (s ∷ ss) h = (h.0, puts-blocks P (cond (takes s.block) (next + 1) next) (drop (512 * s.sectors) bytes) ss h.1)

  -- no two puts have a block or a cell in common
  pub puts-apart : (next : ℕ) (bytes : List ℕ) (ss : List Stretch) → IsIn fs p.filesystems → AllByRecursion (λ (e : ℕ × ℕ). e.1 < next) fs.map → EachPair (λ (a b : Stretch). a.block ≡ b.block → ⊥) ss → EachPair AreApart (puts p fs next bytes ss)
  puts-apart next bytes [] i low h = tt
  puts-apart next bytes (s ∷ ss) i low h =
      let more = cond (takes s.block) (next + 1) next in
      let rest = drop (512 * s.sectors) bytes in (
        both (puts p fs more rest ss) (puts-from more rest ss) (puts-blocks (λ n. s.block ≡ n → ⊥) more rest ss h.0),
        puts-apart more rest ss i (All-weaker _ _ fs.map (λ (e : ℕ × ℕ) l. still e.1 more (rises next s) l) low) h.1,
      )
    where
      still : (n more : ℕ) → next ≤ more → n < next → n < more
      still n more a b = omega (arith, a, b)

      clash : (b : Bool) → b ≡ false → b ≡ true → ⊥
      clash b f t = absurd cc

      one : (q : Put) → IsFrom p fs (cond (takes s.block) (next + 1) next) q → (s.block ≡ q.block → ⊥) → (first_put next bytes s).cell ≡ q.cell → ⊥
      one q from ne = here (takes s.block) refl from
        where
          here : (b : Bool) → takes s.block ≡ b → IsFrom p fs (cond b (next + 1) next) q → cond b next (unwrap_or (cell_at s.block fs.map) next) ≡ q.cell → ⊥
          here true t (inl h) e = no h e
            where
              no : next + 1 ≤ q.cell → next ≡ q.cell → ⊥
              no h e = omega (arith, h, e)
          here true t (inr h) e = no (lookup-holds (λ n. n < next) (nat_eq q.block) fs.map q.cell low h.0) e
            where
              no : q.cell < next → next ≡ q.cell → ⊥
              no h e = omega (arith, h, e)
          here false t (inl h) e =
              let sole = sole_of p fs s.block t in
              let less = lookup-holds (λ n. n < next) (nat_eq s.block) fs.map sole.cell low sole.is in
              let same : sole.cell ≡ q.cell = subst (λ (o : Option ℕ). unwrap_or o next ≡ q.cell) sole.is e in
              no sole.cell less h same
            where
              no : (c : ℕ) → c < next → next ≤ q.cell → c ≡ q.cell → ⊥
              no c l h e = omega (arith, l, h, e)
          here false t (inr h) e =
              let sole = sole_of p fs s.block t in
              let same : sole.cell ≡ q.cell = subst (λ (o : Option ℕ). unwrap_or o next ≡ q.cell) sole.is e in
              clash _ h.1 (shared-within q.cell s.block q.block fs p.filesystems i ne (subst (λ (c : ℕ). cell_at s.block fs.map ≡ Some c) same sole.is) h.0)

      both : (qs : List Put) → AllByRecursion (IsFrom p fs (cond (takes s.block) (next + 1) next)) qs → AllByRecursion (λ (q : Put). s.block ≡ q.block → ⊥) qs → AllByRecursion (AreApart (first_put next bytes s)) qs
      both [] f n = tt
      both (q ∷ qs) f n = ((one q f.0 n.0, n.0), both qs f.1 n.1)
