-- what a stop answers, and the table after it
use Rattle.std.proofs.Common.{◌≡◌, bytes_eq, ◌∷◌, List, [], Bool, true, false, cond, ◌||◌, ◌++◌, map, Option, Some, None, IfSome, is_some, unwrap_or, refl, sym, ap, subst, ◌∙◌}
use Rattle.std.specs.List.{AllByRecursion, list_any}
use Rattle.st_units.specs.declared.rows.DevRow.{DevRow}
use Rattle.st_units.specs.declared.cause.Cause.TheVariants.{NoSuchPool, OutOfMemory}
use Rattle.st_model.specs.declared.call.Call.{Call}
use Rattle.st_model.specs.declared.call.Call.TheVariants.{StopPool}
use Rattle.st_model.specs.declared.entry.Env.TheVariants.{Plain}
use Rattle.st_model.specs.declared.reply.Given.TheVariants.{Changed}
use Rattle.st_model.specs.declared.reply.Identity.TheVariants.{Pool}
use Rattle.st_model.specs.declared.reply.Reply.{Reply}
use Rattle.st_model.specs.declared.state.EngineState.{EngineState}
use Rattle.st_model.specs.declared.state.KnownPool.{KnownPool}
use Rattle.st_model.specs.declared.state.PoolMode.{PoolMode}
use Rattle.st_model.specs.declared.state.PoolMode.TheVariants.{Up, Down, Stopped, Unsettled, Incomplete}
use Rattle.st_model.specs.declared.state.PoolState.{PoolState}
use Rattle.st_model.specs.Answer.{accepted, refused}
use Rattle.st_model.specs.Checks.{halted, halted_from}
use Rattle.st_model.specs.Flight.{all_but}
use Rattle.st_model.specs.Local.{Outcome}
use Rattle.st_model.specs.Look.{Text, flight_of, gives_name, has_path, holds, is_called, is_name_of, is_started, row_of, takes_path, uses}
use Rattle.st_model.specs.OnTable.{is_held}
use Rattle.st_model.specs.Parts.{is_used, known, new_name, own, paths_taken, pool_at, table_of}
use Rattle.st_model.specs.Step.{outcome, step}
use Rattle.st_model.specs.Valid.{Apart, IsValid}
use Rattle.st_model.specs.steps.StopPool.{stop_found, stop_pool}
use Rattle.st_model.proofs.Validity.{step-keeps}
use Rattle.st_order.proofs.Lists.{any-map, any_same}
use Rattle.st_cells.proofs.Lookups.{eq_self}
use Rattle.st_table.specs.declared.halted.HaltedInfo.{HaltedInfo}
use Rattle.st_table.specs.Stands.{info_in}
use Rattle.st_table.specs.Steps.{DroppedAlike, KeptAlike, PoolsTold, PutAlike, StandsFor, StepsPut, kept, with_other}
use Rattle.st_table.specs.Table.{IsFree, TablePool, TableView, changed, halted_as, is_taken, with_instead, without}
use Rattle.st_outcomes.specs.Stopping.{HaltsTold, MayHalt, StaysAs, StopOutcomes, StopsAs}
use Rattle.st_outcomes.proofs.Others.{any_told, no_other}
use Rattle.st_outcomes.specs.Told.{StartedTold}
use Rattle.st_outcomes.proofs.Told.{started}

-- ---- the answers

unknown : (s : EngineState) (name : Text) → pool_at name s.pools ≡ None → outcome s (StopPool name) Plain ≡ Some (refused NoSuchPool, s)
unfolding stop_pool
unknown s name none = ap (λ (o : Option PoolState). Some (stop_found s name o)) none

abbrev put_halted : Text → EngineState → EngineState
put_halted name s = record s { pools = map (λ (q : PoolState). cond (is_called name q) (halted q) q) s.pools }

abbrev by_start : EngineState → Text → PoolState → Bool → Outcome
by_start s name p b = Some (cond b (accepted (Changed true (Some (Pool p.serial))), put_halted name s) (accepted (Changed false None), s))

idle : (s : EngineState) (name : Text) (p : PoolState) → pool_at name s.pools ≡ Some p → is_started p.mode ≡ false → outcome s (StopPool name) Plain ≡ Some (accepted (Changed false None), s)
unfolding stop_pool
idle s name p here off = ap (λ (o : Option PoolState). Some (stop_found s name o)) here ∙ ap (by_start s name p) off

stopped : StepsPut → (s : EngineState) (name : Text) (p : PoolState) → IsValid s → pool_at name s.pools ≡ Some p → is_started p.mode ≡ true
    → outcome s (StopPool name) Plain ≡ Some (accepted (Changed true (Some (Pool p.serial))), with_other name (halted p) s)
unfolding stop_pool
stopped put s name p valid here on =
    ap (λ (o : Option PoolState). Some (stop_found s name o)) here
    ∙ (ap (by_start s name p) on ∙ ap (λ (t : EngineState). Some (accepted (Changed true (Some (Pool p.serial))), t)) (put.stopped s name p valid here))

pub stop_outcomes : StepsPut → StopOutcomes
stop_outcomes put = record { unknown = unknown; idle = idle; started = stopped put }

-- ---- what a stopped pool keeps

stays_so : (p : PoolState) (m : PoolMode) → p.mode ≡ m → is_started m ≡ true → StaysAs p (halted_from p m)
stays_so p Up e on = record { idle = refl; name = refl; serial = refl; flight = sym (ap flight_of e); uses = λ path. sym (ap (λ (n : PoolMode). is_some (row_of path p.devices) || takes_path path (flight_of n)) e) }
stays_so p (Down call) e on = record { idle = refl; name = refl; serial = refl; flight = sym (ap flight_of e); uses = λ path. sym (ap (λ (n : PoolMode). is_some (row_of path p.devices) || takes_path path (flight_of n)) e) }
stays_so p Stopped e on = absurd cc
stays_so p (Unsettled call) e on = absurd cc
stays_so p (Incomplete path) e on = absurd cc

pub stops_as : StopsAs
stops_as p on = stays_so p p.mode refl on

-- ---- the table

new_is : (name : Text) (flight : Option Call) → is_name_of name (new_name flight) ≡ gives_name name flight
new_is name None = refl
new_is name (Some call) = refl

holds_known : (name : Text) (p : PoolState) → is_held name (known p) ≡ holds name p
holds_known name p = ap (λ (b : Bool). is_called name p || b) (new_is name (flight_of p.mode))

rows_used : (path : Text) (rows : List DevRow) (flight : Option Call) → has_path path (map (λ (row : DevRow). row.path) rows ++ paths_taken flight) ≡ (is_some (row_of path rows) || takes_path path flight)
rows_used path [] None = refl
rows_used path [] (Some call) = refl
rows_used path (r ∷ rs) flight = here (bytes_eq r.path path) (row_of path rs) (rows_used path rs flight)
  where
    here : (b : Bool) (o : Option DevRow) → has_path path (map (λ (row : DevRow). row.path) rs ++ paths_taken flight) ≡ (is_some o || takes_path path flight)
        → (b || has_path path (map (λ (row : DevRow). row.path) rs ++ paths_taken flight)) ≡ (is_some (cond b (Some r) o) || takes_path path flight)
    here true o h = refl
    here false o h = h

uses_known : (path : Text) (p : PoolState) → is_used path (known p) ≡ uses path p
uses_known path p = rows_used path p.devices (flight_of p.mode)

or_second : (a b : Bool) → b ≡ true → (a || b) ≡ true
or_second true b k = refl
or_second false b k = k

all_of : (P : Text → Type 0) (list : List Text) → ((path : Text) → has_path path list ≡ true → P path) → AllByRecursion P list
all_of P [] f = tt
all_of P (x ∷ xs) f = (f x (ap (λ (b : Bool). b || has_path x xs) (eq_self x)), all_of P xs (λ path e. f path (or_second (bytes_eq x path) (has_path path xs) e)))

module _ (kept_law : KeptAlike) (dropped : DroppedAlike) (put : PutAlike) (pools_law : PoolsTold) (steps : StepsPut)
    (view : TableView) (s : EngineState) (p : PoolState) (info : HaltedInfo) (valid : IsValid s) (stands : StandsFor view s) (is_own : own p.name s ≡ Some p)
    (is_info : info_in (halted p) (halted p).mode ≡ Some info) where
  abbrev q : PoolState
  q = halted p

  tells : StartedTold view s p
  tells = started pools_law view s p valid stands is_own

  stays : StaysAs p q
  stays = stops_as p tells.started

  keeps : kept q ≡ halted_as info (kept p)
  keeps = kept_law.halted p q info stays.serial stays.name is_info

  after : IsValid (with_other p.name q s)
  after =
      let out = stopped steps s p.name p valid tells.here tells.started in
      let is : step s (StopPool p.name) Plain ≡ (accepted (Changed true (Some (Pool p.serial))), with_other p.name q s) = ap (λ (o : Outcome). unwrap_or o (refused OutOfMemory, s)) out in
      subst (λ (x : Reply × EngineState). IsValid x.1) is (step-keeps s (StopPool p.name) Plain valid)

  abbrev rest : EngineState
  rest = record s { pools = all_but p.serial s.pools }

  -- what the pool does and no two do, none of the others in the table does
  none_other : (k : KnownPool → Bool) (f : PoolState → Bool) → ((x : PoolState) → k (known x) ≡ f x) → ((a b : PoolState) → Apart s.devices a b → f a ≡ true → f b ≡ true → ⊥) → f p ≡ true
      → list_any (λ (x : TablePool). k x.known) (without p.name view.pools) ≡ false
  none_other k f alike once has =
      any_told (changed view (without p.name view.pools)) (table_of rest) k (dropped view s p.name p valid tells.here stands)
      ∙ (any-map known k (all_but p.serial s.pools) ∙ (any_same (λ (x : PoolState). k (known x)) f alike (all_but p.serial s.pools) ∙ no_other s.devices f once p.name p s.pools valid.apart tells.here has))

  new_free : (o : Option Text) → info.new ≡ o → IfSome o (λ new. is_taken new (without p.name view.pools) ≡ false)
  new_free None e = tt
  new_free (Some new) e =
      let told : new_name (flight_of p.mode) ≡ Some new = ap new_name (sym stays.flight) ∙ (ap (λ (x : TablePool). x.known.new) keeps ∙ e) in
      let gives : gives_name new (flight_of p.mode) ≡ true = sym (new_is new (flight_of p.mode)) ∙ (ap (is_name_of new) told ∙ eq_self new) in
      none_other (is_held new) (holds new) (holds_known new) (λ a b apart x y. apart.names new x y) (or_second (is_called new p) (gives_name new (flight_of p.mode)) gives)

  devices_free : AllByRecursion (IsFree (without p.name view.pools) view.devices) info.devs
  devices_free = all_of (IsFree (without p.name view.pools) view.devices) info.devs (λ path has there.
      let used : uses path p ≡ true = sym (stays.uses path) ∙ (sym (uses_known path q) ∙ (ap (λ (x : TablePool). has_path path x.known.devices) keeps ∙ has)) in
      none_other (is_used path) (uses path) (uses_known path) (λ a b apart x y. apart.devices path (sym (ap (λ (rows : List DevRow). is_some (row_of path rows)) stands.devices) ∙ there) x y) used)

  abbrev after_view : TablePool → TableView
  after_view x = changed view (with_instead p.name x view.pools)

  pub may_halt : MayHalt view s p info
  may_halt =
      let there : StandsFor (after_view (halted_as info (kept p))) (with_other p.name q s) = subst (λ (x : TablePool). StandsFor (after_view x) (with_other p.name q s)) keeps (put view s p.name p q valid after tells.here stands) in
      record {
        new = new_free info.new refl;
        free = devices_free;
        after = after;
        stands = record { pools = there.pools; devices = there.devices; next = there.next };
      }

pub halts_told : KeptAlike → DroppedAlike → PutAlike → PoolsTold → StepsPut → HaltsTold
halts_told kept_law dropped put pools_law steps view s p info valid stands is_own is_info = may_halt kept_law dropped put pools_law steps view s p info valid stands is_own is_info
