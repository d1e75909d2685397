-- A pool that is put behind those of lower serials.
use Rattle.std.proofs.Common.{◌≡◌, ◌≢◌, ℕ, ◌<◌, List, [], ◌∷◌, ◌++◌, Bool, true, false, cond, not, ◌||◌, map, Option, Some, None, is_some, bytes_eq, refl, sym, ap, subst, ◌∙◌, arith}
use Rattle.std.specs.Prelude.{find, filter, ◌==◌}
use Rattle.std.specs.List.{AllByRecursion, list_any}
use Rattle.std.proofs.lemmas.Bool.Decides.{Decides-eqb}
use Rattle.std.proofs.lemmas.List.{append-nil}
use Rattle.st_units.specs.declared.rows.DevRow.{DevRow}
use Rattle.st_model.specs.declared.call.Call.{Call}
use Rattle.st_model.specs.declared.state.EngineState.{EngineState}
use Rattle.st_model.specs.declared.state.KnownPool.{KnownPool}
use Rattle.st_model.specs.declared.state.PoolMode.{PoolMode}
use Rattle.st_model.specs.declared.state.PoolMode.TheVariants.{Up, Down, Stopped, Unsettled, Incomplete}
use Rattle.st_model.specs.declared.state.PoolState.{PoolState}
use Rattle.st_model.specs.Look.{Text, flight_of, gives_name, has_path, holds, is_called, is_name_of, is_started, row_of, takes_path, uses}
use Rattle.st_model.specs.OnTable.{is_held}
use Rattle.st_model.specs.Parts.{is_used, known, new_name, paths_taken, table_of}
use Rattle.st_model.specs.Valid.{Apart}
use Rattle.st_model.specs.ValidPool.{EachPair}
use Rattle.st_order.specs.Sorted.{entered, is_below, ordered}
use Rattle.st_order.proofs.Order.{eq_self}
use Rattle.st_order.proofs.Ordered.{any_ordered}
use Rattle.st_order.proofs.Lists.{any-map, any_found, any_same, or_first, or_second}
use Rattle.st_assemble.specs.Found as found_rows
use Rattle.st_table.specs.declared.halted.HaltedInfo.{HaltedInfo}
use Rattle.st_table.specs.Stands.{Alike, Stands, info_in, known_name, tabled}
use Rattle.st_table.specs.Steps.{PlacedAlike}
use Rattle.st_table.specs.Table.{IsFree, TablePool, TableView, changed, halted_as, has_serial, is_named, is_taken, knows, name_of, new_pool, next_above, pool_named, with_instead, with_pool, without}
use Rattle.st_tabling.specs.Telling.{IsIdle, MayPlace, halted_mode, info_for, with_last}

-- ---- pairs of a list with one more

pub all_front : (P : PoolState → Type 0) (ps : List PoolState) (q : PoolState) → AllByRecursion P (ps ++ q ∷ []) → AllByRecursion P ps
all_front P [] q h = tt
all_front P (p ∷ ps) q h = (h.0, all_front P ps q h.1)

all_last : (P : PoolState → Type 0) (ps : List PoolState) (q : PoolState) → AllByRecursion P (ps ++ q ∷ []) → P q
all_last P [] q h = h.0
all_last P (p ∷ ps) q h = all_last P ps q h.1

pub pairs_front : (R : PoolState → PoolState → Type 0) (ps : List PoolState) (q : PoolState) → EachPair R (ps ++ q ∷ []) → EachPair R ps
pairs_front R [] q h = tt
pairs_front R (p ∷ ps) q h = (all_front (R p) ps q h.0, pairs_front R ps q h.1)

pairs_last : (R : PoolState → PoolState → Type 0) (ps : List PoolState) (q : PoolState) → EachPair R (ps ++ q ∷ []) → AllByRecursion (λ (p : PoolState). R p q) ps
pairs_last R [] q h = tt
pairs_last R (p ∷ ps) q h = (all_last (R p) ps q h.0, pairs_last R ps q h.1)

none_any : (f : PoolState → Bool) (ps : List PoolState) → AllByRecursion (λ (p : PoolState). f p ≡ false) ps → list_any f ps ≡ false
none_any f [] h = refl
none_any f (p ∷ ps) h = ap (λ (b : Bool). b || list_any f ps) h.0 ∙ none_any f ps h.1

each_none : (R : PoolState → Type 0) (f : PoolState → Bool) → ((p : PoolState) → R p → f p ≡ false) → (ps : List PoolState) → AllByRecursion R ps → AllByRecursion (λ (p : PoolState). f p ≡ false) ps
each_none R f so [] h = tt
each_none R f so (p ∷ ps) h = (so p h.0, each_none R f so ps h.1)

not_true : (b : Bool) → (b ≡ true → ⊥) → b ≡ false
not_true true never = absurd (never refl)
not_true false never = refl

-- ---- names and devices

held_holds : (name : Text) (p : PoolState) → is_held name (known p) ≡ holds name p
held_holds name p = ap (λ (b : Bool). bytes_eq p.name name || b) (by (flight_of p.mode))
  where
    by : (flight : Option Call) → is_name_of name (new_name flight) ≡ gives_name name flight
    by None = refl
    by (Some call) = refl

rows_used : (path : Text) (rows : List DevRow) (flight : Option Call) → has_path path (map (λ (row : DevRow). row.path) rows ++ paths_taken flight) ≡ (is_some (row_of path rows) || takes_path path flight)
rows_used path [] None = refl
rows_used path [] (Some call) = refl
rows_used path (r ∷ rs) flight = here (bytes_eq r.path path) (row_of path rs) (rows_used path rs flight)
  where
    here : (b : Bool) (o : Option DevRow) → has_path path (map (λ (row : DevRow). row.path) rs ++ paths_taken flight) ≡ (is_some o || takes_path path flight)
        → (b || has_path path (map (λ (row : DevRow). row.path) rs ++ paths_taken flight)) ≡ (is_some (cond b (Some r) o) || takes_path path flight)
    here true o h = refl
    here false o h = h

used_uses : (path : Text) (p : PoolState) → is_used path (known p) ≡ uses path p
used_uses path p = rows_used path p.devices (flight_of p.mode)

or_true : (a b : Bool) → b ≡ true → (a || b) ≡ true
or_true true b e = refl
or_true false b e = e

-- each path of the rows is one of them
each_named : (all rows : List DevRow) → ((path : Text) → is_some (row_of path rows) ≡ true → is_some (row_of path all) ≡ true) → AllByRecursion (λ (path : Text). is_some (row_of path all) ≡ true) (map (λ (row : DevRow). row.path) rows)
each_named all [] within = tt
each_named all (r ∷ rs) within = (
  within r.path (ap (λ (b : Bool). is_some (cond b (Some r) (row_of r.path rs))) (eq_self r.path)),
  each_named all rs (λ path e. within path (later r (bytes_eq r.path path) (row_of path rs) e)),
)
  where
    later : (x : DevRow) (b : Bool) (o : Option DevRow) → is_some o ≡ true → is_some (cond b (Some x) o) ≡ true
    later x true o e = refl
    later x false o e = e

-- ---- a list in order with one more

pub find_entered : (p : TablePool → Bool) (x : TablePool) (zs : List TablePool) → p x ≡ true → list_any p zs ≡ false → find p (entered name_of x zs) ≡ Some x
find_entered p x [] on off = ap (λ (b : Bool). cond b (Some x) None) on
find_entered p x (z ∷ zs) on off = here (is_below (name_of z) (name_of x)) (find_entered p x zs on (or_second (p z) (list_any p zs) off))
  where
    here : (b : Bool) → find p (entered name_of x zs) ≡ Some x → find p (cond b (z ∷ entered name_of x zs) (x ∷ z ∷ zs)) ≡ Some x
    here true rest = ap (λ (b : Bool). cond b (Some z) (find p (entered name_of x zs))) (or_first (p z) (list_any p zs) off) ∙ rest
    here false rest = ap (λ (b : Bool). cond b (Some x) (find p (z ∷ zs))) on

without_none : (name : Text) (zs : List TablePool) → list_any (is_named name) zs ≡ false → without name zs ≡ zs
without_none name [] h = refl
without_none name (z ∷ zs) h =
    ap (λ (b : Bool). cond (not b) (z ∷ without name zs) (without name zs)) (or_first (is_named name z) (list_any (is_named name) zs) h)
    ∙ ap (λ ys. z ∷ ys) (without_none name zs (or_second (is_named name z) (list_any (is_named name) zs) h))

without_entered : (x : TablePool) (zs : List TablePool) → list_any (is_named x.known.name) zs ≡ false → without x.known.name (with_pool x zs) ≡ zs
without_entered x [] h = ap (λ (b : Bool). cond (not b) (x ∷ []) []) (eq_self x.known.name)
without_entered x (z ∷ zs) h = here (is_below (name_of z) (name_of x)) (without_entered x zs (or_second (is_named x.known.name z) (list_any (is_named x.known.name) zs) h))
  where
    here : (b : Bool) → without x.known.name (with_pool x zs) ≡ zs → without x.known.name (cond b (z ∷ with_pool x zs) (x ∷ z ∷ zs)) ≡ z ∷ zs
    here true rest =
        ap (λ (b : Bool). cond (not b) (z ∷ without x.known.name (with_pool x zs)) (without x.known.name (with_pool x zs))) (or_first (is_named x.known.name z) (list_any (is_named x.known.name) zs) h)
        ∙ ap (λ ys. z ∷ ys) rest
    here false rest = ap (λ (b : Bool). cond (not b) (x ∷ without x.known.name (z ∷ zs)) (without x.known.name (z ∷ zs))) (eq_self x.known.name) ∙ without_none x.known.name (z ∷ zs) h

-- ---- the pool of a row

idle_info : (q : PoolState) (m : PoolMode) → q.mode ≡ m → IsIdle m → info_in q m ≡ Some (info_for (found_rows.row_of q))
idle_info q Up is idle = absurd (let off : true ≡ false = idle.0 in cc)
idle_info q (Down call) is idle = absurd (let off : true ≡ false = idle.0 in cc)
idle_info q (Unsettled call) is idle = absurd (let off : Some call ≡ None = idle.1 in cc)
idle_info q Stopped is idle =
    ap (λ (l : List Text). Some (record { mode = Rattle.st_table.specs.declared.halted.HaltedMode.TheVariants.Stopped; devs = l; flight = []; new = None })) (ap (λ (m : PoolMode). map (λ (row : DevRow). row.path) q.devices ++ paths_taken (flight_of m)) is ∙ append-nil (map (λ (row : DevRow). row.path) q.devices))
    ∙ ap (λ (m : PoolMode). Some (record { mode = halted_mode (found_rows.lacked m); devs = map (λ (row : DevRow). row.path) q.devices; flight = []; new = None })) (sym is)
idle_info q (Incomplete missing) is idle =
    ap (λ (l : List Text). Some (record { mode = Rattle.st_table.specs.declared.halted.HaltedMode.TheVariants.Incomplete missing; devs = l; flight = []; new = None })) (ap (λ (m : PoolMode). map (λ (row : DevRow). row.path) q.devices ++ paths_taken (flight_of m)) is ∙ append-nil (map (λ (row : DevRow). row.path) q.devices))
    ∙ ap (λ (m : PoolMode). Some (record { mode = halted_mode (found_rows.lacked m); devs = map (λ (row : DevRow). row.path) q.devices; flight = []; new = None })) (sym is)

module _ (alike : Alike) (s : EngineState) (q : PoolState) (row : Rattle.st_judge.specs.declared.rows.FoundRow.FoundRow) (view : TableView) (may : MayPlace s q row view) where
  lower : AllByRecursion (λ (p : PoolState). Apart s.devices p q) s.pools
  lower = pairs_last (Apart s.devices) s.pools q may.all

  own_name : holds q.name q ≡ true
  own_name = ap (λ (b : Bool). b || gives_name q.name (flight_of q.mode)) (eq_self q.name)

  pub name_free : is_taken q.name view.pools ≡ false
  name_free =
      (alike view (table_of s) may.stands).held q.name ∙ any_found (is_held q.name) (map known s.pools) ∙ any-map known (is_held q.name) s.pools ∙ any_same (λ (p : PoolState). is_held q.name (known p)) (holds q.name) (held_holds q.name) s.pools
      ∙ none_any (holds q.name) s.pools (each_none (λ (p : PoolState). Apart s.devices p q) (holds q.name) (λ p apart. not_true (holds q.name p) (λ on. apart.names q.name on own_name)) s.pools lower)

  pub serial_free : has_serial q.serial view.pools ≡ false
  serial_free =
      (alike view (table_of s) may.stands).serials q.serial ∙ any-map known (λ (k : KnownPool). k.serial == q.serial) s.pools
      ∙ none_any (λ (p : PoolState). p.serial == q.serial) s.pools (each_none (λ (p : PoolState). Apart s.devices p q) (λ (p : PoolState). p.serial == q.serial) (λ p apart. not_true (p.serial == q.serial) (λ on. below p.serial q.serial apart.serials ((Decides-eqb p.serial q.serial).0 on))) s.pools lower)
    where
      below : (n m : ℕ) → n < m → n ≡ m → ⊥
      below n m lt same = omega (arith, lt, same)

  off_name : list_any (is_named q.name) view.pools ≡ false
  off_name = not_true (list_any (is_named q.name) view.pools) (λ on. clash (is_taken q.name view.pools) (some_held view.pools on) name_free)
    where
      clash : (b : Bool) → b ≡ true → b ≡ false → ⊥
      clash b t f = cc

      some_held : (zs : List TablePool) → list_any (is_named q.name) zs ≡ true → is_taken q.name zs ≡ true
      some_held [] on = absurd cc
      some_held (z ∷ zs) on = by (bytes_eq z.known.name q.name) on (some_held zs)
        where
          by : (b : Bool) → (b || list_any (is_named q.name) zs) ≡ true → (list_any (is_named q.name) zs ≡ true → is_taken q.name zs ≡ true) → ((b || is_name_of q.name z.known.new) || is_taken q.name zs) ≡ true
          by true k rest = refl
          by false k rest = or_true (is_name_of q.name z.known.new) (is_taken q.name zs) (rest k)

  abbrev pub its_pool : TablePool
  its_pool = new_pool q.name q.serial []

  pub found_it : pool_named q.name (with_pool its_pool view.pools) ≡ Some its_pool
  found_it = find_entered (is_named q.name) its_pool view.pools (eq_self q.name) off_name

  pub known_it : knows q.name (with_pool its_pool view.pools) ≡ true
  known_it = sym (any_found (is_named q.name) (with_pool its_pool view.pools)) ∙ ap is_some found_it

  pub devices_free : AllByRecursion (IsFree (without q.name (with_pool its_pool view.pools)) view.devices) (map (λ (r : DevRow). r.path) q.devices)
  devices_free = subst (λ (zs : List TablePool). AllByRecursion (IsFree zs view.devices) (map (λ (r : DevRow). r.path) q.devices)) (sym (without_entered its_pool view.pools off_name))
      (subst (λ (rows : List DevRow). AllByRecursion (IsFree view.pools rows) (map (λ (r : DevRow). r.path) q.devices)) (sym may.stands.devices)
      (all_free (map (λ (r : DevRow). r.path) q.devices) (each_named q.devices q.devices (λ path e. e))))
    where
      free_one : (path : Text) → is_some (row_of path q.devices) ≡ true → IsFree view.pools s.devices path
      free_one path named there =
          ap (list_any (λ (pool : TablePool). is_used path pool.known)) may.stands.pools ∙ any-map (tabled (table_of s).stopped) (λ (pool : TablePool). is_used path pool.known) (ordered known_name (map known s.pools))
          ∙ any_ordered known_name (is_used path) (map known s.pools) ∙ any-map known (is_used path) s.pools
          ∙ none_any (λ (p : PoolState). is_used path (known p)) s.pools (each_none (λ (p : PoolState). Apart s.devices p q) (λ (p : PoolState). is_used path (known p))
          (λ p apart. not_true (is_used path (known p)) (λ on. apart.devices path there (sym (used_uses path p) ∙ on) (ap (λ (b : Bool). b || takes_path path (flight_of q.mode)) named))) s.pools lower)

      all_free : (paths : List Text) → AllByRecursion (λ (path : Text). is_some (row_of path q.devices) ≡ true) paths → AllByRecursion (IsFree view.pools s.devices) paths
      all_free [] h = tt
      all_free (path ∷ paths) h = (free_one path h.0, all_free paths h.1)

  info_is : info_in q q.mode ≡ Some (info_for row)
  info_is = idle_info q q.mode refl may.idle ∙ ap (λ r. Some (info_for r)) (sym may.told)

  pub placed : PlacedAlike → Stands (record (changed view (with_instead q.name (halted_as (info_for row) its_pool) (with_pool its_pool view.pools))) { next = next_above q.serial view.next }) (table_of (with_last s q))
  placed law = law view s q (info_for row) [] may.all may.serial info_is may.stands
