-- a start that finds a pool that was being made
use Rattle.std.proofs.Common.{◌≡◌, ◌≢◌, ℕ, ◌<◌, ◌≤◌, ◌^◌, List, [], ◌∷◌, Bool, true, false, cond, not, ◌&&◌, bytes_eq, length, Option, Some, None, option_map, refl, sym, ap, subst, ◌∙◌, arith}
use Rattle.std.specs.Prelude.{◌==◌}
use Rattle.std.specs.List.{AllByRecursion}
use Rattle.std.proofs.lemmas.Slice.Eq.{bytes_eq-Decides}
use Rattle.st_units.specs.declared.cause.Cause.{Cause}
use Rattle.st_units.specs.declared.cause.Cause.TheVariants.{DeviceInUse, DeviceTooSmall, EmptyDevices, NoSuchDevice, TooManyDevices, TooManyPools}
use Rattle.st_units.specs.declared.rows.DevRow.{DevRow}
use Rattle.st_units.specs.declared.rows.Tier.TheVariants.{DataTier}
use Rattle.st_model.specs.declared.call.Call.TheVariants.{CreatePool}
use Rattle.st_model.specs.declared.reply.Given.TheVariants.{Created}
use Rattle.st_model.specs.declared.reply.Reply.{Reply}
use Rattle.st_model.specs.declared.state.EngineState.{EngineState}
use Rattle.st_model.specs.declared.state.PoolState.{PoolState}
use Rattle.st_model.specs.Answer.{accepted, code_of, first_answer, refused_by, refused_where, unless_answered}
use Rattle.st_model.specs.Checks.{first_small, in_use, sectors_of}
use Rattle.st_model.specs.Flight.{state_before}
use Rattle.st_model.specs.Found.{found_after, found_after_of, has_commit, started_so, taken_over, with_own_serial}
use Rattle.st_model.specs.Local.{Outcome, where_so}
use Rattle.st_model.specs.Look.{Text, distinct, first_absent, first_used, has_path, holder, holds, pool_using, without}
use Rattle.st_model.specs.ValidPool.{EachPair}
use Rattle.st_model.specs.Valid.{is_there}
use Rattle.st_model.specs.steps.CreatePool.{answer_held, create_answer, create_answers, create_plain, data_rows, new_pool, with_pool}
use Rattle.st_model.proofs.CreateKind.{each_among}
use Rattle.st_model.proofs.Flights.{fresh-unanswered}
use Rattle.st_model.proofs.Fresh.{FreeOf, IsFresh, create_fresh}
use Rattle.st_model.proofs.Lists.{All-weaker, All-distinct}
use Rattle.st_startbeside.proofs.Before.{found_last, none_before}

-- ---- refusals have a code

abbrev IsRefusal : Option Reply → Type 0
IsRefusal None = Unit {0}
IsRefusal (Some r) = r.code ≡ 0 → ⊥

by_where : (b : Bool) (cause : Cause) → (code_of cause ≡ 0 → ⊥) → IsRefusal (refused_where b cause)
by_where true cause h = h
by_where false cause h = tt

absent : (o : Option Text) → IsRefusal (refused_by (option_map NoSuchDevice o))
absent None = tt
absent (Some path) = λ e. omega (arith, e)

small : (o : Option Text) → IsRefusal (refused_by (option_map DeviceTooSmall o))
small None = tt
small (Some path) = λ e. omega (arith, e)

using : (path : Text) (o : Option PoolState) → IsRefusal (refused_by (option_map (λ (pool : PoolState). DeviceInUse path pool.name) o))
using path None = tt
using path (Some pool) = λ e. omega (arith, e)

used : (pools : List PoolState) (o : Option Text) → IsRefusal (refused_by (in_use pools o))
used pools None = tt
used pools (Some path) = using path (pool_using path pools)

held : (name : Text) (paths : List Text) (o : Option PoolState) → o ≡ None → IsRefusal (answer_held name paths o)
held name paths None e = tt
held name paths (Some pool) e = absurd cc

first : (answers : List (Option Reply)) → AllByRecursion IsRefusal answers → IsRefusal (first_answer answers)
first [] h = tt
first (None ∷ answers) h = first answers h.1
first (Some r ∷ answers) h = h.0

-- where nobody holds the name, what is accepted makes the pool
pub unanswered : (t : EngineState) (name : Text) (paths : List Text) → holder name t.pools ≡ None → (create_plain t name paths).0.code ≡ 0 → create_answer t name paths ≡ None
unfolding create_plain create_answer
unanswered t name paths free h = here (first_answer (create_answers t name paths)) refl h
  where
    all : AllByRecursion IsRefusal (create_answers t name paths)
    all = (
      by_where (length paths == 0) EmptyDevices (λ e. omega (arith, e)),
      (
        absent (first_absent paths t.devices),
        (
          held name paths (holder name t.pools) free,
          (
            used t.pools (first_used paths t.pools),
            (
              small (first_small paths t.devices),
              (
                by_where _ TooManyDevices (λ e. omega (arith, e)),
                (by_where _ TooManyPools (λ e. omega (arith, e)), tt),
              ),
            ),
          ),
        ),
      ),
    )

    here : (a : Option Reply) → first_answer (create_answers t name paths) ≡ a → (unless_answered a t (accepted (Created true (Some (t.next, distinct paths))), with_pool t (new_pool t.next name (data_rows t.devices (distinct paths))))).0.code ≡ 0 → first_answer (create_answers t name paths) ≡ None
    here None e k = e
    here (Some r) e k = absurd (subst IsRefusal e (first (create_answers t name paths) all) k)

-- ---- what is found done

module _ (t : EngineState) (p : PoolState) (name : Text) (devices : List Text) (none : create_answer (state_before t p (CreatePool name devices)) name devices ≡ None) where
  abbrev before : EngineState
  before = state_before t p (CreatePool name devices)

  abbrev new : PoolState
  new = new_pool p.serial name (data_rows t.devices (distinct devices))

  abbrev made : Reply × EngineState
  made = (accepted (Created true (Some (p.serial, distinct devices))), with_pool before new)

  made_is : create_plain before name devices ≡ made
  unfolding create_plain
  made_is = ap (λ (a : Option Reply). unless_answered a before made) none

  abbrev found_by : Option PoolState → Option PoolState → Outcome
  found_by old now = where_so (true && has_commit old now) (taken_over t p now)

  pub created_after : found_after t p (CreatePool name devices) ≡ Some (started_so t p new)
  created_after =
      ap (λ (a : Reply × EngineState). found_after_of t p before (Some a)) made_is
      ∙ ap (λ (o : Option PoolState). found_by o (with_own_serial p.serial (with_pool before new))) (none_before p t.pools)
      ∙ ap (found_by None) (found_last p before.pools new (none_before p t.pools) refl)

-- ---- the other engine, which has the same devices

unequal : (p q : Text) → p ≢ q → bytes_eq p q ≡ false
unequal p q ne = here (bytes_eq p q) refl
  where
    here : (b : Bool) → bytes_eq p q ≡ b → b ≡ false
    here true e = absurd (ne ((bytes_eq-Decides p q).0 e))
    here false e = refl

none_out : (p : Text) (paths : List Text) → AllByRecursion (λ q. p ≢ q) paths → without p paths ≡ paths
none_out p [] h = refl
none_out p (q ∷ paths) h = ap (λ (b : Bool). cond (not b) (q ∷ without p paths) (without p paths)) (unequal p q h.0) ∙ ap (λ (rest : List Text). q ∷ rest) (none_out p paths h.1)

once_once : (paths : List Text) → EachPair (λ (a b : Text). a ≢ b) paths → distinct paths ≡ paths
once_once [] h = refl
once_once (p ∷ paths) h = ap (λ (rest : List Text). p ∷ without p rest) (once_once paths h.1) ∙ ap (λ (rest : List Text). p ∷ rest) (none_out p paths h.0)

same_rows : (a b : List DevRow) (paths : List Text) → AllByRecursion (λ path. sectors_of path a ≡ sectors_of path b) paths → data_rows a paths ≡ data_rows b paths
same_rows a b [] h = refl
same_rows a b (path ∷ paths) h = ap (λ (n : ℕ). (record { path = path; tier = DataTier; sectors = n }) ∷ data_rows a paths) h.0 ∙ ap (λ (rest : List DevRow). (record { path = path; tier = DataTier; sectors = sectors_of path b }) ∷ rest) (same_rows a b paths h.1)

-- An engine without pools has each of these devices with the same sectors, and gives the same serial next.
pub record AreDevicesOf (paths : List Text) (s t : EngineState) : Type 0 where
  pub none : t.pools ≡ []
  pub next : t.next ≡ s.next
  pub there : (path : Text) → has_path path paths ≡ true → is_there t.devices path ≡ true
  pub sectors : (path : Text) → has_path path paths ≡ true → sectors_of path t.devices ≡ sectors_of path s.devices

module _ (s t : EngineState) (name : Text) (paths : List Text) (none : create_answer s name paths ≡ None) (are : AreDevicesOf paths s t) where
  fresh : IsFresh s name paths
  fresh = create_fresh s name paths none

  enough : (list : List Text) → AllByRecursion (λ path. 8192 ≤ sectors_of path s.devices) list → AllByRecursion (λ path. has_path path paths ≡ true) list → AllByRecursion (λ path. 8192 ≤ sectors_of path t.devices) list
  enough [] h g = tt
  enough (path ∷ list) h g = (subst (λ (n : ℕ). 8192 ≤ n) (sym (are.sectors path g.0)) h.0, enough list h.1 g.1)

  fresh_there : IsFresh t name paths
  fresh_there = record {
    names = subst (λ (ps : List PoolState). AllByRecursion (λ (p : PoolState). holds name p ≡ false) ps) (sym are.none) tt;
    paths_free = All-weaker _ _ paths (λ path h. subst (λ (ps : List PoolState). FreeOf ps path) (sym are.none) tt) fresh.there;
    some = fresh.some;
    there = All-weaker _ _ paths (λ path among. are.there path among) (each_among paths);
    large = enough paths fresh.large (each_among paths);
    count = subst (λ (ps : List PoolState). length ps < 16) (sym are.none) (omega arith);
    few = fresh.few;
    room = subst (λ (n : ℕ). n ≤ 2 ^ 48) (sym are.next) fresh.room;
  }

  pub unanswered_there : EachPair (λ (a b : Text). a ≢ b) paths → create_answer t name paths ≡ None
  unanswered_there once = ap (create_answer t name) (sym (once_once paths once)) ∙ fresh-unanswered t name paths fresh_there

  pub rows_alike : data_rows t.devices (distinct paths) ≡ data_rows s.devices (distinct paths)
  rows_alike = same_rows t.devices s.devices (distinct paths) (All-distinct (λ path. sectors_of path t.devices ≡ sectors_of path s.devices) paths (All-weaker _ _ paths (λ path among. are.sectors path among) (each_among paths)))
