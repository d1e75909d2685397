-- what the tests of a change tell of the table
use denote.Bor.{Bor}
use Rattle.std.proofs.Common.{◌≡◌, List, [], ◌∷◌, Bool, true, false, cond, not, ◌||◌, ◌&&◌, bytes_eq, map, Option, Some, None, is_some, is_none, refl, sym, ap, ◌∙◌}
use Rattle.std.specs.Prelude.{find, option_copied, option_map, ◌==◌}
use Rattle.std.specs.List.{AllByRecursion, list_any, list_all}
use Rattle.st_units.specs.declared.rows.DevRow.{DevRow}
use Rattle.st_model.specs.Look.{Text, row_of}
use Rattle.st_model.specs.Parts.{is_used}
use Rattle.st_order.proofs.Lists.{any-map, any_found}
use Rattle.st_table.specs.declared.pool.Pool.{Pool}
use Rattle.st_table.specs.Table.{TablePool, IsFree, is_named, has_serial, knows, pool_named, without}
use Rattle.st_table.specs.inner.Sound.{is_free, table_pool}

pub copied_some : {A : Type 0} (found : Option (Bor A)) → is_some (option_copied found) ≡ is_some found
copied_some None = refl
copied_some (Some x) = refl

mapped_some : {A B : Type 0} (f : A → B) (found : Option (Bor A)) → is_some (option_map f (option_copied found)) ≡ is_some found
mapped_some f None = refl
mapped_some f (Some x) = refl

-- ---- the other pools

-- what some other pool does
pub any_other : (p : TablePool → Bool) (n : Text) (xs : List Pool) → list_any (λ (x : Pool). not (bytes_eq x.name n) && p (table_pool x)) xs ≡ list_any p (without n (map table_pool xs))
any_other p n [] = refl
any_other p n (x ∷ xs) =
    let cases : (b : Bool) → ((not b && p (table_pool x)) || list_any (λ (y : Pool). not (bytes_eq y.name n) && p (table_pool y)) xs) ≡ list_any p (cond (not b) (table_pool x ∷ without n (map table_pool xs)) (without n (map table_pool xs))) =
    elim [ true ↦ any_other p n xs | false ↦ ap (λ b. p (table_pool x) || b) (any_other p n xs) ] in
    cases (bytes_eq x.name n)

-- ---- found or not

pub serial_told : (serial : _) (xs : List Pool) (found : Option (Bor Pool)) → option_copied found ≡ find (λ (pool : Pool). pool.serial == serial) xs → is_some found ≡ has_serial serial (map table_pool xs)
serial_told serial xs found h =
    sym (copied_some found) ∙ (ap is_some h ∙ (any_found (λ (pool : Pool). pool.serial == serial) xs ∙ sym (any-map table_pool (λ (pool : TablePool). pool.known.serial == serial) xs)))

pub known_told : (n : Text) (pools : List TablePool) (found : Option (Bor Pool)) → option_map table_pool (option_copied found) ≡ pool_named n pools → is_some found ≡ knows n pools
known_told n pools found h = sym (mapped_some table_pool found) ∙ (ap is_some h ∙ any_found (is_named n) pools)

-- ---- free devices

absent_free : (o : Option DevRow) (u : Bool) → o ≡ None → true ≡ (is_none o || u)
absent_free o u e = rw e refl

there_free : (o : Option DevRow) (row : DevRow) (u : Bool) → o ≡ Some row → u ≡ (is_none o || u)
there_free o row u e = rw e refl

pub free_absent : (pools : List TablePool) (rows : List DevRow) (path : Text) → row_of path rows ≡ None → true ≡ is_free pools rows path
free_absent pools rows path e = absent_free (row_of path rows) (not (list_any (λ (pool : TablePool). is_used path pool.known) pools)) e

pub free_there : (pools : List TablePool) (rows : List DevRow) (path : Text) (row : DevRow) (u : Bool) → row_of path rows ≡ Some row → u ≡ list_any (λ (pool : TablePool). is_used path pool.known) pools → not u ≡ is_free pools rows path
free_there pools rows path row u e h =
    ap not h ∙ there_free (row_of path rows) row (not (list_any (λ (pool : TablePool). is_used path pool.known) pools)) e

one_free : (o : Option DevRow) (u : Bool) → (is_none o || not u) ≡ true → is_some o ≡ true → u ≡ false
one_free None u h k = absurd cc
one_free (Some row) true h k = absurd cc
one_free (Some row) false h k = refl

free_one : (o : Option DevRow) (u : Bool) → (is_some o ≡ true → u ≡ false) → (is_none o || not u) ≡ true
free_one None u f = refl
free_one (Some row) u f = let e : u ≡ false = f refl in rw e refl

and_first : (a b : Bool) → (a && b) ≡ true → a ≡ true
and_first true b h = refl
and_first false b h = absurd cc

and_second : (a b : Bool) → (a && b) ≡ true → b ≡ true
and_second true b h = h
and_second false b h = absurd cc

pub all_free : (pools : List TablePool) (rows : List DevRow) (paths : List Text) → list_all (is_free pools rows) paths ≡ true → AllByRecursion (IsFree pools rows) paths
all_free pools rows [] h = tt
all_free pools rows (path ∷ paths) h = (
  one_free (row_of path rows) (list_any (λ (pool : TablePool). is_used path pool.known) pools) (and_first (is_free pools rows path) (list_all (is_free pools rows) paths) h),
  all_free pools rows paths (and_second (is_free pools rows path) (list_all (is_free pools rows) paths) h),
)

pub free_all : (pools : List TablePool) (rows : List DevRow) (paths : List Text) → AllByRecursion (IsFree pools rows) paths → list_all (is_free pools rows) paths ≡ true
free_all pools rows [] h = refl
free_all pools rows (path ∷ paths) h =
    let first : is_free pools rows path ≡ true = free_one (row_of path rows) (list_any (λ (pool : TablePool). is_used path pool.known) pools) h.0 in
    rw first (free_all pools rows paths h.1)
