-- The table after each thing that a start may find.
use Rattle.std.proofs.Common.{◌≡◌, ◌⊎◌, inl, inr, ◌||◌, Bool, true, false, cond, bytes_eq, List, [], ◌∷◌, ◌++◌, map, Option, Some, None, IfSome, is_some, refl, sym, ap, subst, ◌∙◌}
use Rattle.std.specs.Prelude.{find, option_map}
use Rattle.std.specs.List.{AllByRecursion, list_any}
use Rattle.st_units.specs.declared.rows.DevRow.{DevRow}
use Rattle.st_model.specs.declared.call.Call.{Call}
use Rattle.st_model.specs.declared.state.EngineState.{EngineState}
use Rattle.st_model.specs.declared.state.KnownPool.{KnownPool}
use Rattle.st_model.specs.declared.state.PoolMode.{PoolMode}
use Rattle.st_model.specs.declared.state.PoolMode.TheVariants.{Up, Down, Stopped, Unsettled, Incomplete}
use Rattle.st_model.specs.declared.state.PoolState.{PoolState}
use Rattle.st_model.specs.Flight.{all_but}
use Rattle.st_model.specs.Look.{Text, flight_of, gives_name, has_path, holds, is_name_of, name_given, row_of, takes_path, uses}
use Rattle.st_model.specs.OnTable.{is_held, user_of}
use Rattle.st_model.specs.Parts.{is_used, known, new_name, paths_taken, pool_at, table_of}
use Rattle.st_model.specs.Step.{can_start}
use Rattle.st_model.specs.Valid.{IsValid}
use Rattle.st_model.proofs.Among.{IsOther, holds_own, self}
use Rattle.st_model.proofs.CreateKind.{each_among}
use Rattle.st_model.proofs.Replaced.{vanished-valid}
use Rattle.st_order.proofs.Lists.{any-map, any_found}
use Rattle.st_startbeside.proofs.Before.{known_at, others_of}
use Rattle.st_table.specs.declared.halted.HaltedInfo.{HaltedInfo}
use Rattle.st_table.specs.Stands.{Alike, info_in}
use Rattle.st_table.specs.Steps.{DroppedAlike, KeptAlike, PoolsTold, PutAlike, StandsFor, UsersTold, kept, with_other}
use Rattle.st_table.specs.Table.{IsFree, TablePool, TableView, changed, is_named, is_taken, knows, names_of, pool_named, user_name, with_instead, without, woken}
use Rattle.st_meant.specs.declared.tables.Tables.{Tables}
use Rattle.st_meant.specs.Started.{IsStarted}
use Rattle.st_meant.specs.Tables.{AreTables, CanMay, MayStart, TablesTell, TellOf, started_table}

-- ---- what the table keeps of a pool

new_held : (name : Text) (flight : Option Call) → is_name_of name (new_name flight) ≡ gives_name name flight
new_held name None = refl
new_held name (Some call) = refl

held_alike : (name : Text) (p : PoolState) → is_held name (known p) ≡ holds name p
held_alike name p = ap (λ (b : Bool). bytes_eq p.name name || b) (new_held name (flight_of p.mode))

rows_used : (path : Text) (rows : List DevRow) (flight : Option Call) → has_path path (map (λ (row : DevRow). row.path) rows ++ paths_taken flight) ≡ (is_some (row_of path rows) || takes_path path flight)
rows_used path [] None = refl
rows_used path [] (Some call) = refl
rows_used path (r ∷ rs) flight = here (bytes_eq r.path path) (row_of path rs) (rows_used path rs flight)
  where
    here : (b : Bool) (o : Option DevRow) → has_path path (map (λ (row : DevRow). row.path) rs ++ paths_taken flight) ≡ (is_some o || takes_path path flight)
        → (b || has_path path (map (λ (row : DevRow). row.path) rs ++ paths_taken flight)) ≡ (is_some (cond b (Some r) o) || takes_path path flight)
    here true o h = refl
    here false o h = h

used_alike : (path : Text) (p : PoolState) → is_used path (known p) ≡ uses path p
used_alike path p = rows_used path p.devices (flight_of p.mode)

-- an info is kept of a pool that can be started, with its devices and its new name
pub record IsInfo (p : PoolState) (info : HaltedInfo) : Type 0 where
  pub kept_so : info_in p p.mode ≡ Some info
  pub devs : info.devs ≡ (known p).devices
  pub new : info.new ≡ new_name (flight_of p.mode)

info_of : (p : PoolState) → can_start p.mode ≡ true → (info : HaltedInfo) × IsInfo p info
info_of p can = by p.mode refl can
  where
    by : (m : PoolMode) → p.mode ≡ m → can_start m ≡ true → (info : HaltedInfo) × IsInfo p info
    by Up is k = absurd cc
    by (Down call) is k = absurd cc
    by Stopped is k = (Rattle.st_table.specs.Stands.halted_so Rattle.st_table.specs.declared.halted.HaltedMode.TheVariants.Stopped p, record { kept_so = ap (info_in p) is; devs = refl; new = sym (ap (λ (n : PoolMode). new_name (flight_of n)) is) })
    by (Unsettled call) is k = (record { mode = Rattle.st_table.specs.declared.halted.HaltedMode.TheVariants.Unsettled; devs = (known p).devices; flight = Rattle.st_model.specs.Look.devices_taken call; new = name_given call }, record { kept_so = ap (info_in p) is; devs = refl; new = sym (ap (λ (n : PoolMode). new_name (flight_of n)) is) })
    by (Incomplete path) is k = absurd cc

-- ---- no other pool has what it has

none_holds : (rows : List DevRow) (name : Text) (p : PoolState) (ps : List PoolState) → holds name p ≡ true → AllByRecursion (IsOther rows p) ps → find (is_held name) (map known ps) ≡ None
none_holds rows name p [] on h = refl
none_holds rows name p (q ∷ ps) on h = ap (λ (b : Bool). cond b (Some (known q)) (find (is_held name) (map known ps))) (held_alike name q ∙ h.0.names name on) ∙ none_holds rows name p ps on h.1

none_uses : (rows : List DevRow) (path : Text) (p : PoolState) (ps : List PoolState) → is_some (row_of path rows) ≡ true → uses path p ≡ true → AllByRecursion (IsOther rows p) ps → find (is_used path) (map known ps) ≡ None
none_uses rows path p [] there on h = refl
none_uses rows path p (q ∷ ps) there on h = ap (λ (b : Bool). cond b (Some (known q)) (find (is_used path) (map known ps))) (used_alike path q ∙ h.0.devices path there on) ∙ none_uses rows path p ps there on h.1

no_user : (path : Text) (pools : List TablePool) → user_name path pools ≡ None → list_any (λ (pool : TablePool). is_used path pool.known) pools ≡ false
no_user path pools e = sym (any-map (λ (pool : TablePool). pool.known) (is_used path) pools) ∙ (sym (any_found (is_used path) (names_of pools)) ∙ none (user_of path (names_of pools)) e)
  where
    none : (o : Option KnownPool) → option_map (λ (pool : KnownPool). pool.name) o ≡ None → is_some o ≡ false
    none None h = refl
    none (Some k) h = absurd cc

module _ (alike : Alike) (told : PoolsTold) (users : UsersTold) (dropped : DroppedAlike) (view : TableView) (s : EngineState) (p : PoolState) (valid : IsValid s) (stands : StandsFor view s) (here : pool_at p.name s.pools ≡ Some p) where
  abbrev rest : EngineState
  rest = record s { pools = all_but p.serial s.pools }

  others : AllByRecursion (IsOther s.devices p) rest.pools
  others = others_of s.devices p s.pools (known_at s p valid here).placed.beside

  stands_rest : StandsFor (changed view (without p.name view.pools)) rest
  stands_rest = dropped view s p.name p valid here stands

  not_taken : (name : Text) → holds name p ≡ true → is_taken name (without p.name view.pools) ≡ false
  not_taken name on = (alike (changed view (without p.name view.pools)) (table_of rest) stands_rest).held name ∙ ap is_some (none_holds s.devices name p rest.pools on others)

  not_used : (path : Text) → is_used path (known p) ≡ true → IsFree (without p.name view.pools) view.devices path
  not_used path on there =
      let row : is_some (row_of path s.devices) ≡ true = subst (λ (rows : List DevRow). is_some (row_of path rows) ≡ true) stands.devices there in
      no_user path (without p.name view.pools) (
      users (changed view (without p.name view.pools)) rest path (vanished-valid s p valid) stands_rest row
      ∙ ap (option_map (λ (pool : KnownPool). pool.name)) (none_uses s.devices path p rest.pools row (sym (used_alike path p) ∙ on) others))

  all_unused : (paths : List Text) → AllByRecursion (λ path. is_used path (known p) ≡ true) paths → AllByRecursion (IsFree (without p.name view.pools) view.devices) paths
  all_unused [] h = tt
  all_unused (path ∷ paths) h = (not_used path h.0, all_unused paths h.1)

  pool_is : pool_named p.name view.pools ≡ Some (kept p)
  pool_is = told view s p.name valid stands ∙ ap (option_map kept) here

  may_start : can_start p.mode ≡ true → MayStart view p.name
  may_start can =
      let one = info_of p can in
      let info = one.0 in
      record {
        pool = kept p;
        info = info;
        at = pool_is;
        halted = one.1.kept_so;
        own = not_taken p.name (holds_own p);
        new = subst (λ (o : Option Text). IfSome o (λ new. is_taken new (without p.name view.pools) ≡ false)) (sym one.1.new) (given (flight_of p.mode) refl);
        free = subst (AllByRecursion (IsFree (without p.name view.pools) view.devices)) (sym one.1.devs) (all_unused (known p).devices (each_among (known p).devices));
      }
    where
      or_second : (a b : Bool) → b ≡ true → (a || b) ≡ true
      or_second true b k = refl
      or_second false b k = k

      named_by : (call : Call) (o : Option Text) → name_given call ≡ o → flight_of p.mode ≡ Some call → IfSome o (λ new. is_taken new (without p.name view.pools) ≡ false)
      named_by call None e is = tt
      named_by call (Some new) e is = not_taken new (or_second (bytes_eq p.name new) _ (ap (gives_name new) is ∙ (ap (is_name_of new) e ∙ self new)))

      given : (flight : Option Call) → flight_of p.mode ≡ flight → IfSome (new_name flight) (λ new. is_taken new (without p.name view.pools) ≡ false)
      given None is = tt
      given (Some call) is = named_by call (name_given call) refl is

pub can_may : Alike → PoolsTold → UsersTold → DroppedAlike → CanMay
can_may alike told users dropped view s p valid stands here can = may_start alike told users dropped view s p valid stands here can

-- ---- what the tables tell

module _ (told : PoolsTold) (dropped : DroppedAlike) (put : PutAlike) (keeps : KeptAlike) (view : TableView) (s : EngineState) (p : PoolState) (t : Tables) (valid : IsValid s) (stands : StandsFor view s) (here : pool_at p.name s.pools ≡ Some p) (can : can_start p.mode ≡ true) (are : AreTables view p.name t) where
  abbrev info : HaltedInfo
  info = (info_of p can).0

  is_info : IsInfo p info
  is_info = (info_of p can).1

  named_so : pool_named p.name view.pools ≡ Some (kept p)
  named_so = told view s p.name valid stands ∙ ap (option_map kept) here

  -- as the change of the table has it
  started_is : (q : PoolState) → IsStarted p q → woken q.name info.devs (kept p) ≡ kept q
  started_is q so = ap (λ (ds : List Text). woken q.name ds (kept p)) (is_info.devs ∙ sym so.devices) ∙ sym (keeps.woken p q so.serial so.mode)

  tells : (q : PoolState) → IsStarted p q → IsValid (with_other p.name q s) → StandsFor (started_table view p.name q.name info.devs (kept p)) (with_other p.name q s)
  tells q so after =
      let h = put view s p.name p q valid after here stands in
      record { pools = ap (λ (x : TablePool). with_instead p.name x view.pools) (started_is q so) ∙ h.pools; devices = h.devices; next = h.next }

  new_is : (q : PoolState) → IsStarted p q → (q.name ≡ p.name → ⊥) → info.new ≡ Some q.name
  new_is q so other = by so.name
    where
      by : (q.name ≡ p.name) ⊎ (new_name (flight_of p.mode) ≡ Some q.name) → info.new ≡ Some q.name
      by (inl e) = absurd (other e)
      by (inr e) = is_info.new ∙ e

  tell_of : TellOf s p t
  tell_of =
      let first = are.started (kept p) info named_so is_info.kept_so in
      record {
        started_spare = ap (λ (v : TableView). v.spare) first;
        started = λ q so same after. subst (λ (v : TableView). StandsFor v (with_other p.name q s)) (sym (first ∙ ap (λ (n : Text). started_table view p.name n info.devs (kept p)) (sym same))) (tells q so after);
        renamed = λ q so other after. (started_table view p.name q.name info.devs (kept p), are.renamed (kept p) info q.name named_so is_info.kept_so (new_is q so other), refl, tells q so after);
        gone_spare = ap (λ (v : TableView). v.spare) are.gone;
        gone = let h = dropped view s p.name p valid here stands in subst (λ (v : TableView). StandsFor v (record s { pools = all_but p.serial s.pools })) (sym are.gone) (record { pools = h.pools; devices = h.devices; next = h.next });
      }

pub tables_tell : PoolsTold → DroppedAlike → PutAlike → KeptAlike → TablesTell
tables_tell told dropped put keeps view s p t valid stands here can are = tell_of told dropped put keeps view s p t valid stands here can are

-- ---- what the changes want

pub known_so : (name : Text) (pools : List TablePool) (pool : TablePool) → pool_named name pools ≡ Some pool → knows name pools ≡ true
known_so name pools pool e = sym (any_found (is_named name) pools) ∙ ap is_some e
