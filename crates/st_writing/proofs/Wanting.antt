-- what a planned write is refused for
use Rattle.std.proofs.Common.{◌≡◌, ℕ, ◌+◌, ◌-◌, ◌/◌, ◌%◌, ◌==◌, ◌||◌, ◌≤◌, nat_lt, List, [], ◌∷◌, length, map, Bool, true, false, cond, Option, None, refl, sym, ap, ◌∙◌, arith, if◌then◌else◌}
use Rattle.std.specs.List.{flat_map, sum_by}
use Rattle.std.proofs.lemmas.List.Concat.{length-flat_map}
use Rattle.std.proofs.lemmas.List.Sums.{count_by-le-length}
use Rattle.st_limits.specs.Sums.{takes_cell}
use Rattle.st_limits.specs.declared.TheConstants.{BLOCK_SECTORS, MAX_MAPPINGS, MAX_WRITE_SECTORS}
use Rattle.st_units.specs.declared.cause.Cause.TheVariants.{BadSize, OutOfRange, MappingFull, NoSpace}
use Rattle.st_model.specs.declared.reply.Reply.{Reply}
use Rattle.st_model.specs.declared.state.FsState.{FsState}
use Rattle.st_model.specs.declared.state.PoolState.{PoolState}
use Rattle.st_model.specs.Answer.{first_answer, refused_where}
use Rattle.st_model.specs.Checks.{worn}
use Rattle.st_model.specs.Content.{Stretch, in_block, mapped_cells, stretches}
use Rattle.st_model.specs.Sums.{free, mappings}
use Rattle.st_model.specs.steps.FsWrite.{cells_needed, write_answers}
use Rattle.st_model.proofs.Totals.{total, total-is}
use Rattle.st_writing.specs.inner.Plans.{plan_of, planned_answers}

length-map : {X Y : Type 0} (f : X → Y) (xs : List X) → length (map f xs) ≡ length xs
length-map f [] = refl
length-map f (x ∷ xs) = ap Rattle.std.proofs.Common.suc (length-map f xs)

total-same : {X : Type 0} (f g : X → ℕ) (xs : List X) → ((x : X) → f x ≡ g x) → total f xs ≡ total g xs
total-same f g [] h = refl
total-same f g (x ∷ xs) h = let first = h x in let rest = total-same f g xs h in omega (arith, first, rest)

-- there is a cell for each mapping
pub mappings_are : (p : PoolState) → length (mapped_cells p.filesystems) ≡ mappings p
mappings_are p =
    length-flat_map (λ (fs : FsState). map (λ (e : ℕ × ℕ). e.1) fs.map) p.filesystems
    ∙ (total-is _ p.filesystems ∙ (total-same _ _ p.filesystems (λ fs. length-map (λ (e : ℕ × ℕ). e.1) fs.map) ∙ sym (total-is (λ (fs : FsState). length fs.map) p.filesystems)))

module _ (p : PoolState) (fs : FsState) (sector n : ℕ) where
  abbrev rest_with : ℕ → List (Option Reply)
  rest_with count =
      refused_where ((n == 0) || nat_lt MAX_WRITE_SECTORS n) (BadSize fs.row.name)
      ∷ refused_where (nat_lt fs.row.size (sector + n)) OutOfRange
      ∷ refused_where (nat_lt MAX_MAPPINGS (count + (plan_of p fs sector n).more)) (MappingFull count (plan_of p fs sector n).more)
      ∷ refused_where (nat_lt (free p) (cells_needed fs sector n p)) (NoSpace (free p) (cells_needed fs sector n p))
      ∷ (if cells_needed fs sector n p == 0 then None else worn p)
      ∷ []

  pub same_answers : planned_answers (plan_of p fs sector n) fs sector n p ≡ write_answers fs sector n p
  same_answers = ap rest_with (mappings_are p)

two_most : (b : Bool) (s t : Stretch) → length (s ∷ cond b [] (t ∷ [])) ≤ 2
two_most true s t = omega arith
two_most false s t = omega arith

-- two blocks at most are touched
pub few_stretches : (sector n : ℕ) → length (stretches sector n) ≤ 2
few_stretches sector n =
    let at = sector % BLOCK_SECTORS in
    let here = in_block at n in
    two_most (here == n) (record { block = sector / BLOCK_SECTORS; at = at; sectors = here }) (record { block = sector / BLOCK_SECTORS + 1; at = 0; sectors = in_block 0 (n - here) })

-- and two fresh cells at most are taken
pub few_needed : (p : PoolState) (fs : FsState) (sector n : ℕ) → cells_needed fs sector n p ≤ 2
few_needed p fs sector n =
    let blocks = map (λ (s : Stretch). s.block) (stretches sector n) in
    let most = count_by-le-length (takes_cell fs.map (mapped_cells p.filesystems)) blocks in
    let long = length-map (λ (s : Stretch). s.block) (stretches sector n) in
    let few = few_stretches sector n in
    omega (arith, most, long, few)
