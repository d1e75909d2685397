-- the lists that the code keeps, and what a change of the table asks
use Rattle.std.proofs.Common.{arith, length, get_or, take, drop, insert, remove, append-nil, ◌≡◌, ℕ, List, [], ◌∷◌, ◌++◌, Bool, true, false, cond, not, ◌||◌, bytes_eq, map, Option, Some, None, is_some, is_none, refl, sym, ap, subst, ◌∙◌}
use Rattle.std.specs.Prelude.{find, filter, option_map}
use Rattle.std.specs.List.{AllByRecursion, list_any}
use Rattle.std.proofs.lemmas.List.{drop_all, take_all}
use Rattle.st_table.specs.declared.pool.Pool.{Pool}
use Rattle.st_table.specs.declared.halted.HaltedInfo.{HaltedInfo}
use Rattle.st_units.specs.declared.rows.DevRow.{DevRow}
use Rattle.st_model.specs.Look.{Text, row_of, is_name_of}
use Rattle.st_model.specs.OnTable.{is_held}
use Rattle.st_model.specs.Parts.{is_used}
use Rattle.st_table.specs.declared.device.Device.{Device}
use Rattle.st_order.specs.Sorted.{IsRising, entered}
use Rattle.st_table.specs.Table.{TablePool, name_of, is_named, pool_named, knows, names_of, is_taken, is_running, runs, IsFree, without, with_pool}
use Rattle.st_table.specs.inner.Sound.{row_in, path_in, IsMarked, user_among, table_pool, new_held, info_held}
use Rattle.st_order.proofs.Order.{eq_same, find_none}
use Rattle.st_order.proofs.Lists.{map-map, find-map, any-map, filter-map, entered-map, weaker, or_first, or_second, any_found, found_passes, any_less}
use Rattle.st_table.proofs.Marks.{user_is}

-- ---- the lists of the code

pub whole : {A : Type 0} (n : ℕ) (xs ys : List A) → length xs ≡ n → length ys ≡ length xs → take n (ys ++ drop (length ys) xs) ≡ ys
whole n xs ys size same =
    ap (λ r. take n (ys ++ r)) (drop_all (length ys) xs (omega (arith, same))) ∙ (ap (take n) (append-nil ys) ∙ take_all n ys (omega (arith, size, same)))

abbrev pub called : Text → Pool → Bool
called n item = bytes_eq item.name n

pub pools_rise : (ys xs : List Pool) → ys ≡ xs → IsRising (map name_of (map table_pool xs)) → IsRising (map (λ (item : Pool). item.name) ys)
pools_rise ys xs e h = rw e (subst IsRising (map-map name_of table_pool xs) h)

pub devices_rise : (ys xs : List Device) → ys ≡ xs → IsRising (map path_in xs) → IsRising (map path_in ys)
devices_rise ys xs e h = rw e h

pub found_in : (ys xs : List Pool) (k n : Text) (i : ℕ) (x : Pool) → ys ≡ xs → k ≡ n → find (called k) ys ≡ Some (get_or ys i x) → x ≡ get_or xs i x → find (called n) xs ≡ Some x
found_in ys xs k n i x e f h is = (rw (e, f) at h) ∙ ap Some (sym is)

pub pool_found : (xs : List Pool) (n : Text) (x : Pool) → find (called n) xs ≡ Some x → pool_named n (map table_pool xs) ≡ Some (table_pool x)
pool_found xs n x h = find-map table_pool (is_named n) xs ∙ ap (option_map table_pool) h

pub pool_absent : (ys xs : List Pool) (k n : Text) → ys ≡ xs → k ≡ n → list_any (called k) ys ≡ false → pool_named n (map table_pool xs) ≡ None
pool_absent ys xs k n e f h = find-map table_pool (is_named n) xs ∙ ap (option_map table_pool) (find_none name_key (called n) xs (rw (e, f) at h))
  where
    name_key : Pool → Text
    name_key item = item.name

pub pools_left : (ys xs zs : List Pool) (k n : Text) (i : ℕ) → ys ≡ xs → k ≡ n → zs ≡ remove xs i → remove ys i ≡ filter (λ (item : Pool). not (called k item)) ys → map table_pool zs ≡ without n (map table_pool xs)
pools_left ys xs zs k n i e f g h =
    ap (map table_pool) (g ∙ (rw (e, f) at h)) ∙ sym (filter-map table_pool (λ (q : TablePool). not (is_named n q)) xs)

pub pools_more : (ys xs zs : List Pool) (k : Text) (i : ℕ) (x : Pool) → ys ≡ xs → k ≡ x.name → zs ≡ insert xs i x → ((item : Pool) → item.name ≡ k → insert ys i item ≡ entered (λ (z : Pool). z.name) item ys) → map table_pool zs ≡ with_pool (table_pool x) (map table_pool xs)
pools_more ys xs zs k i x e f g h =
    ap (map table_pool) (g ∙ (rw e at (h x (sym f)))) ∙ entered-map table_pool name_of x xs

pub row_found : (ys xs : List Device) (k n : Text) (i : ℕ) (x : Device) → ys ≡ xs → k ≡ n → find (λ (d : Device). bytes_eq (path_in d) k) ys ≡ Some (get_or ys i x) → x ≡ get_or xs i x → row_of n (map row_in xs) ≡ Some (row_in x)
row_found ys xs k n i x e f h is = find-map row_in (λ (row : DevRow). bytes_eq row.path n) xs ∙ ap (option_map row_in) ((rw (e, f) at h) ∙ ap Some (sym is))

pub row_absent : (ys xs : List Device) (k n : Text) → ys ≡ xs → k ≡ n → list_any (λ (d : Device). bytes_eq (path_in d) k) ys ≡ false → row_of n (map row_in xs) ≡ None
row_absent ys xs k n e f h = find-map row_in (λ (row : DevRow). bytes_eq row.path n) xs ∙ ap (option_map row_in) (find_none path_in (λ (d : Device). bytes_eq (path_in d) n) xs (rw (e, f) at h))

-- the device that is found tells its user
pub user_told_by : (ys xs : List Device) (pools : List TablePool) (k n : Text) (i : ℕ) (x : Device) → ys ≡ xs → k ≡ n → AllByRecursion (IsMarked pools) xs → find (λ (d : Device). bytes_eq (path_in d) k) ys ≡ Some (get_or ys i x) → x ≡ get_or xs i x
    → option_map (λ (pool : TablePool). pool.known) (user_among x.user pools) ≡ find (is_used n) (names_of pools)
user_told_by ys xs pools k n i x e f all h is =
    let here = found_passes (λ (d : Device). bytes_eq (path_in d) n) (IsMarked pools) xs x all ((rw (e, f) at h) ∙ ap Some (sym is)) in
    let same : path_in x ≡ n = eq_same (path_in x) n here.0 in
    sym (user_is (path_in x) x.user pools here.1.uses) ∙ ap (λ t. find (is_used t) (names_of pools)) same

or_any : (xs : List Pool) (n : Text) → list_any (λ (item : Pool). called n item || is_name_of n (new_held item.holding)) xs ≡ (list_any (called n) xs || list_any (λ (item : Pool). is_name_of n (new_held item.holding)) xs)
or_any [] n = refl
or_any (x ∷ xs) n = ap (λ b. (called n x || is_name_of n (new_held x.holding)) || b) (or_any xs n) ∙ shuffle (called n x) (is_name_of n (new_held x.holding)) (list_any (called n) xs) _
  where
    shuffle : (a b c d : Bool) → ((a || b) || (c || d)) ≡ ((a || c) || (b || d))
    shuffle true b c d = refl
    shuffle false true true d = refl
    shuffle false true false d = refl
    shuffle false false c d = refl

pub taken_told : (xs : List Pool) (n : Text) → is_taken n (map table_pool xs) ≡ (is_some (pool_named n (map table_pool xs)) || list_any (λ (item : Pool). is_name_of n (new_held item.holding)) xs)
taken_told xs n =
    any-map table_pool (λ (q : TablePool). is_held n q.known) xs ∙ (or_any xs n
    ∙ ap (λ b. b || list_any (λ (item : Pool). is_name_of n (new_held item.holding)) xs) (sym (any_found (is_named n) (map table_pool xs) ∙ any-map table_pool (is_named n) xs)))

pub known_is_found : (pools : List TablePool) (n : Text) → knows n pools ≡ true → pool_named n pools ≡ None → ⊥
known_is_found pools n h e = let b : is_some (pool_named n pools) ≡ true = any_found (is_named n) pools ∙ h in cc

pub named_so : (xs : List Pool) (n : Text) (x : Pool) → find (called n) xs ≡ Some x → x.name ≡ n
named_so [] n x h = absurd cc
named_so (y ∷ ys) n x h =
    let cases : (b : Bool) → called n y ≡ b → cond b (Some y) (find (called n) ys) ≡ Some x → x.name ≡ n = elim [ true ↦ (λ e k. let same : y ≡ x = cc in ap (λ (z : Pool). z.name) (sym same) ∙ eq_same y.name n e) | false ↦ (λ e k. named_so ys n x k) ] in
    cases (called n y) refl h

-- ---- what a change asks

pub not_taken : (n : Text) (pools : List TablePool) → is_taken n pools ≡ false → knows n pools ≡ false
not_taken n [] h = refl
not_taken n (p ∷ pools) h =
    let named : is_named n p ≡ false = or_first (is_named n p) (is_name_of n p.known.new) (or_first (is_held n p.known) (is_taken n pools) h) in
    rw named (not_taken n pools (or_second (is_held n p.known) (is_taken n pools) h))

-- a name that no pool holds is new to the other pools
pub new_to_rest : (pools rest : List TablePool) (n old : Text) → rest ≡ without old pools → is_taken n pools ≡ false → knows n rest ≡ false
new_to_rest pools rest n old e h = rw e (not_taken n (without old pools) (any_less (λ (q : TablePool). is_held n q.known) (λ (q : TablePool). not (is_named old q)) pools h))

pub runs_known : (n : Text) (pools : List TablePool) → runs n pools ≡ true → knows n pools ≡ true
runs_known n pools h = sym (any_found (is_named n) pools) ∙ here (pool_named n pools) h
  where
    here : (o : Option TablePool) → is_running o ≡ true → is_some o ≡ true
    here None k = absurd cc
    here (Some p) k = refl

pub runs_started : (n : Text) (pools : List TablePool) (x : Pool) → runs n pools ≡ true → pool_named n pools ≡ Some (table_pool x) → info_held x.holding ≡ None
runs_started n pools x h e = here (info_held x.holding) (sym (ap is_running e) ∙ h)
  where
    here : (o : Option HaltedInfo) → is_none o ≡ true → o ≡ None
    here None k = refl
    here (Some info) k = absurd cc

free_to_rest : (pools : List TablePool) (rows : List DevRow) (n : Text) (path : Text) → IsFree pools rows path → IsFree (without n pools) rows path
free_to_rest pools rows n path free there = any_less (λ (q : TablePool). is_used path q.known) (λ (q : TablePool). not (is_named n q)) pools (free there)

all_append : {A : Type 0} (P : A → Type 0) (xs ys : List A) → AllByRecursion P xs → AllByRecursion P ys → AllByRecursion P (xs ++ ys)
all_append P [] ys h k = k
all_append P (x ∷ xs) ys h k = (h.0, all_append P xs ys h.1 k)

-- the devices that a pool has and those that it is to get are free for it
pub both_free : (pools rest : List TablePool) (rows : List DevRow) (n : Text) (own more : List Text) → rest ≡ without n pools → AllByRecursion (IsFree rest rows) own → AllByRecursion (IsFree pools rows) more → AllByRecursion (IsFree rest rows) (own ++ more)
both_free pools rest rows n own more e h k =
    all_append (IsFree rest rows) own more h (subst (λ ps. AllByRecursion (IsFree ps rows) more) (sym e) (weaker (IsFree pools rows) (IsFree (without n pools) rows) (free_to_rest pools rows n) more k))
