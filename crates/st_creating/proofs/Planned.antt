-- What a table tells where nothing is against a CreatePool, and what it tells with the pool.
use Rattle.std.proofs.Common.{◌≡◌, ℕ, ◌+◌, ◌<◌, List, [], ◌∷◌, Bool, true, false, cond, ◌||◌, bytes_eq, find, map, Option, Some, None, is_some, option_map, refl, sym, ap, subst, ◌∙◌, arith}
use Rattle.std.specs.Prelude.{◌==◌}
use Rattle.std.specs.List.{AllByRecursion, list_any}
use Rattle.std.proofs.lemmas.Bool.Decides.{Decides-eqb}
use Rattle.st_units.specs.declared.rows.DevRow.{DevRow}
use Rattle.st_units.specs.declared.rows.Tier.{Tier}
use Rattle.st_units.specs.declared.rows.Tier.TheVariants.{DataTier}
use Rattle.st_units.specs.declared.cause.Cause.TheVariants.{DeviceInUse}
use Rattle.st_model.specs.declared.info.PoolInfo.{PoolInfo}
use Rattle.st_model.specs.declared.reply.Given.TheVariants.{Created}
use Rattle.st_model.specs.declared.reply.Reply.{Reply}
use Rattle.st_model.specs.declared.state.EngineState.{EngineState}
use Rattle.st_model.specs.declared.state.KnownPool.{KnownPool}
use Rattle.st_model.specs.declared.state.PoolState.{PoolState}
use Rattle.st_model.specs.Answer.{accepted, first_answer, refused_by, unless_answered}
use Rattle.st_model.specs.Checks.{rows_on}
use Rattle.st_model.specs.Look.{Text, distinct, row_of}
use Rattle.st_model.specs.Parts.{is_used, known, own, table_of}
use Rattle.st_model.specs.Shown.{pool_info}
use Rattle.st_model.specs.Valid.{IsValid}
use Rattle.st_model.specs.ValidPool.{IsValidPool}
use Rattle.st_model.specs.steps.CreatePool.{create_answer, create_plain, data_rows, new_pool, with_pool}
use Rattle.st_model.proofs.Fresh.{create_fresh}
use Rattle.st_model.proofs.Lists.{All-distinct, All-weaker, found_passes, none_found}
use Rattle.st_model.proofs.ValidMaking.{create-valid}
use Rattle.st_table.specs.Stands.{Alike, Stands}
use Rattle.st_table.specs.Steps.{AddedAlike, KeptAlike, StandsFor, kept}
use Rattle.st_table.specs.Table as tables
use Rattle.st_table.specs.Table.{IsFree, TablePool, TableView, changed, has_serial, is_taken, names_of, next_above, user_name}
use Rattle.st_creating.specs.declared.plan.Plan.{Plan}
use Rattle.st_creating.specs.Plan.{IsPlan, pool_made}
use Rattle.st_creating.specs.Told.{ToldAlike, first_user, held_told, is_shown_made, taken_told, told_answer, told_answers, user_here}

none_answers : (answers : List (Option Reply)) → first_answer answers ≡ None → AllByRecursion (λ o. o ≡ None) answers
none_answers [] h = tt
none_answers (None ∷ answers) h = (refl, none_answers answers h)
none_answers (Some r ∷ answers) h = absurd cc

-- no pool holds the name
not_held : (name : Text) (paths : List Text) (own : Option PoolInfo) (b : Bool) → held_told name paths own b ≡ None → b ≡ false
not_held name paths own false h = refl
not_held name paths None true h = absurd cc
not_held name paths (Some info) true h = one_of (is_shown_made name paths info) _ _ h
  where
    one_of : (b : Bool) (r t : Reply) → cond b (Some r) (Some t) ≡ None → true ≡ false
    one_of true r t h = absurd cc
    one_of false r t h = absurd cc

-- no pool uses one of the devices
none_taken : (view : TableView) (o : Option Text) → ((path : Text) → o ≡ Some path → is_some (user_here view path) ≡ true) → refused_by (taken_told view o) ≡ None → o ≡ None
none_taken view None f h = refl
none_taken view (Some path) f h = user (user_here view path) (f path refl) h
  where
    user : (u : Option Text) → is_some u ≡ true → refused_by (option_map (DeviceInUse path) u) ≡ None → Some path ≡ None
    user None g h = absurd cc
    user (Some name) g h = absurd cc

none_uses : (path : Text) (pools : List TablePool) → is_some (user_name path pools) ≡ false → list_any (λ (pool : TablePool). is_used path pool.known) pools ≡ false
none_uses path [] h = refl
none_uses path (x ∷ xs) h = here (is_used path x.known) h (none_uses path xs)
  where
    here : (b : Bool) → is_some (option_map (λ (pool : KnownPool). pool.name) (cond b (Some x.known) (find (is_used path) (names_of xs)))) ≡ false
        → (is_some (user_name path xs) ≡ false → list_any (λ (pool : TablePool). is_used path pool.known) xs ≡ false)
        → (b || list_any (λ (pool : TablePool). is_used path pool.known) xs) ≡ false
    here true h ih = absurd cc
    here false h ih = ih h

is_free : (view : TableView) (path : Text) → is_some (user_here view path) ≡ false → IsFree view.pools view.devices path
is_free view path h there = none_uses path view.pools (ap (λ (b : Bool). is_some (cond b (user_name path view.pools) None)) (sym there) ∙ h)

-- all serials are below the next
unequal : (n m : ℕ) → n < m → (n == m) ≡ false
unequal n m less = here (n == m) refl
  where
    here : (b : Bool) → (n == m) ≡ b → b ≡ false
    here true e = absurd (let same : n ≡ m = (Decides-eqb n m).0 e in omega (arith, less, same))
    here false e = refl

none_serial : (n : ℕ) (ps : List PoolState) → AllByRecursion (IsValidPool n) ps → list_any (λ (pool : KnownPool). pool.serial == n) (map known ps) ≡ false
none_serial n [] h = refl
none_serial n (p ∷ ps) h = ap (λ (b : Bool). b || list_any (λ (pool : KnownPool). pool.serial == n) (map known ps)) (unequal p.serial n h.0.serial) ∙ none_serial n ps h.1

on_paths : (tier : Tier) (rack : List DevRow) (ps : List Text) → map (λ (row : DevRow). row.path) (rows_on tier rack ps) ≡ ps
on_paths tier rack [] = refl
on_paths tier rack (p ∷ ps) = ap (λ rest. p ∷ rest) (on_paths tier rack ps)

module _ (told : ToldAlike) (alike : Alike) (view : TableView) (s : EngineState) (name : Text) (paths : List Text) (valid : IsValid s) (stands : StandsFor view s) (unanswered : create_answer s name paths ≡ None) where
  none : AllByRecursion (λ o. o ≡ None) (told_answers view (option_map pool_info (own name s)) name paths)
  unfolding told_answer
  none = none_answers (told_answers view (option_map pool_info (own name s)) name paths) (told view s name paths valid stands ∙ unanswered)

  pub name_free : is_taken name view.pools ≡ false
  name_free = not_held name paths (option_map pool_info (own name s)) (is_taken name view.pools) none.1.1.0

  pub serial_free : has_serial view.next view.pools ≡ false
  serial_free =
      (alike view (table_of s) stands).serials view.next
      ∙ (ap (λ (n : ℕ). list_any (λ (pool : KnownPool). pool.serial == n) (map known s.pools)) stands.next ∙ none_serial s.next s.pools valid.pools)

  pub devices_free : AllByRecursion (IsFree view.pools view.devices) (distinct paths)
  devices_free =
      let unused : first_user view paths ≡ None = none_taken view (first_user view paths) (λ path e. found_passes _ paths path e) none.1.1.1.0 in
      All-distinct (IsFree view.pools view.devices) paths (All-weaker _ _ paths (is_free view) (none_found _ paths unused))

module _ (added : AddedAlike) (keeps : KeptAlike) (view : TableView) (s : EngineState) (name : Text) (paths : List Text) (valid : IsValid s) (stands : StandsFor view s) (unanswered : create_answer s name paths ≡ None) where
  valid_after : IsValid (with_pool s (pool_made s name paths))
  unfolding create_plain
  valid_after = subst IsValid (ap (λ (a : Option Reply). (unless_answered a s (accepted (Created true (Some (s.next, distinct paths))), with_pool s (pool_made s name paths))).1) unanswered) (create-valid s name paths valid)

  kept_is : kept (pool_made s name paths) ≡ tables.new_pool name s.next (distinct paths)
  kept_is = keeps.added s.next name (data_rows s.devices (distinct paths)) ∙ ap (tables.new_pool name s.next) (on_paths DataTier s.devices (distinct paths))

  pub told_with : (other : TableView) → other ≡ record (changed view (tables.with_pool (tables.new_pool name view.next (distinct paths)) view.pools)) { next = next_above view.next view.next; spare = true } → StandsFor other (with_pool s (pool_made s name paths))
  told_with other is =
      let st = added view s (pool_made s name paths) valid valid_after refl stands in
      record {
        pools = ap (λ (v : TableView). v.pools) is ∙ (ap (λ (n : ℕ). tables.with_pool (tables.new_pool name n (distinct paths)) view.pools) stands.next ∙ (ap (λ (k : TablePool). tables.with_pool k view.pools) (sym kept_is) ∙ st.pools));
        devices = ap (λ (v : TableView). v.devices) is ∙ st.devices;
        next = ap (λ (v : TableView). v.next) is ∙ (ap (λ (n : ℕ). next_above n view.next) stands.next ∙ st.next);
      }

  abbrev with_new : ℕ → List Text → TableView
  with_new n ps = record (changed view (tables.with_pool (tables.new_pool name n ps) view.pools)) { next = next_above n view.next; spare = true }

  pub is_plan : (p : Plan) → p.name ≡ name → p.serial ≡ view.next → p.devs ≡ distinct paths
      → p.table ≡ record (changed view (tables.with_pool (tables.new_pool name p.serial p.devs) view.pools)) { next = next_above p.serial view.next; spare = true }
      → p.reply ≡ accepted (Created true (Some (p.serial, p.devs))) → p.twin ≡ accepted (Created true (Some (p.serial, p.devs))) → IsPlan s name paths p
  is_plan p named serial devs table reply twin = record {
    unanswered = unanswered;
    name_is = named;
    serial = serial ∙ stands.next;
    devs = devs;
    tells = told_with p.table (table ∙ (ap (λ (n : ℕ). with_new n p.devs) serial ∙ ap (with_new view.next) devs));
    spare = ap (λ (v : TableView). v.spare) table;
    reply = reply ∙ (ap (λ (n : ℕ). accepted (Created true (Some (n, p.devs)))) (serial ∙ stands.next) ∙ ap (λ (ps : List Text). accepted (Created true (Some (s.next, ps)))) devs);
    twin = twin ∙ sym reply;
  }
