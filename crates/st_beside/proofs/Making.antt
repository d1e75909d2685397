-- what CreatePool makes in an engine without pools, it makes beside others
use Rattle.std.proofs.Common.{◌≡◌, ◌≢◌, ℕ, ◌<◌, ◌≤◌, ◌^◌, List, [], ◌∷◌, ◌++◌, Bool, true, false, cond, not, ◌&&◌, bytes_eq, filter, map, length, Option, Some, None, refl, sym, ap, subst, ◌∙◌, arith}
use Rattle.std.specs.List.{AllByRecursion}
use Rattle.std.proofs.lemmas.Slice.Eq.{bytes_eq-Decides}
use Rattle.st_units.specs.declared.cause.Cause.TheVariants.{DeviceFault, OutOfMemory}
use Rattle.st_units.specs.declared.rows.DevRow.{DevRow}
use Rattle.st_units.specs.declared.rows.Tier.TheVariants.{DataTier}
use Rattle.st_model.specs.declared.call.Call.TheVariants.{CreatePool}
use Rattle.st_model.specs.declared.entry.Env.{Env}
use Rattle.st_model.specs.declared.entry.Env.TheVariants.{Plain, NoMem, FaultRead, FaultWrite, After, Before}
use Rattle.st_model.specs.declared.reply.Given.TheVariants.{Created}
use Rattle.st_model.specs.declared.reply.Reply.{Reply}
use Rattle.st_model.specs.declared.state.EngineState.{EngineState}
use Rattle.st_model.specs.declared.state.PoolState.{PoolState}
use Rattle.st_model.specs.Answer.{accepted, refused, unless_answered}
use Rattle.st_model.specs.Checks.{sectors_of}
use Rattle.st_model.specs.Local.{Outcome, where_so}
use Rattle.st_model.specs.Look.{Text, distinct, has_path, holds, without}
use Rattle.st_model.specs.Plain.{plain}
use Rattle.st_model.specs.Step.{is_changed, is_ok, outcome}
use Rattle.st_model.specs.Valid.{is_there}
use Rattle.st_model.specs.ValidPool.{EachPair}
use Rattle.st_model.specs.steps.CreatePool.{broken_pool, create_answer, create_plain, data_rows, new_pool, with_pool}
use Rattle.st_model.proofs.CreateKind.{each_among}
use Rattle.st_model.proofs.Flights.{fresh-unanswered}
use Rattle.st_model.proofs.Fresh.{FreeOf, IsFresh, create_fresh}
use Rattle.st_model.proofs.Lists.{All-weaker, All-distinct, distinct-differ}
use Rattle.st_beside.specs.Beside.{CreateBeside, IsBare, add_made, beside_made}

unequal : (p q : Text) → p ≢ q → bytes_eq p q ≡ false
unequal p q ne = here (bytes_eq p q) refl
  where
    here : (b : Bool) → bytes_eq p q ≡ b → b ≡ false
    here true e = absurd (ne ((bytes_eq-Decides p q).0 e))
    here false e = refl

-- a path that differs from all of them isn't taken out
none_out : (p : Text) (paths : List Text) → AllByRecursion (λ q. p ≢ q) paths → without p paths ≡ paths
none_out p [] h = refl
none_out p (q ∷ paths) h = ap (λ (b : Bool). cond (not b) (q ∷ without p paths) (without p paths)) (unequal p q h.0) ∙ ap (λ (rest : List Text). q ∷ rest) (none_out p paths h.1)

once_once : (paths : List Text) → EachPair (λ (a b : Text). a ≢ b) paths → distinct paths ≡ paths
once_once [] h = refl
once_once (p ∷ paths) h = ap (λ (rest : List Text). p ∷ without p rest) (once_once paths h.1) ∙ ap (λ (rest : List Text). p ∷ rest) (none_out p paths h.0)

same_rows : (a b : List DevRow) (paths : List Text) → AllByRecursion (λ path. sectors_of path a ≡ sectors_of path b) paths → data_rows a paths ≡ data_rows b paths
same_rows a b [] h = refl
same_rows a b (path ∷ paths) h = ap (λ (n : ℕ). (record { path = path; tier = DataTier; sectors = n }) ∷ data_rows a paths) h.0 ∙ ap (λ (rest : List DevRow). (record { path = path; tier = DataTier; sectors = sectors_of path b }) ∷ rest) (same_rows a b paths h.1)

and_false : (b : Bool) → (b && false) ≡ false
and_false true = refl
and_false false = refl

module _ (s e : EngineState) (name : Text) (paths : List Text) (none : create_answer s name paths ≡ None) (bare : IsBare paths s e) where
  abbrev once : List Text
  once = distinct paths

  fresh : IsFresh s name paths
  fresh = create_fresh s name paths none

  enough : (list : List Text) → AllByRecursion (λ path. 8192 ≤ sectors_of path s.devices) list → AllByRecursion (λ path. has_path path paths ≡ true) list → AllByRecursion (λ path. 8192 ≤ sectors_of path e.devices) list
  enough [] h g = tt
  enough (path ∷ list) h g = (subst (λ (n : ℕ). 8192 ≤ n) (sym (bare.sectors path g.0)) h.0, enough list h.1 g.1)

  fresh_alone : IsFresh e name paths
  fresh_alone = record {
    names = subst (λ (ps : List PoolState). AllByRecursion (λ (p : PoolState). holds name p ≡ false) ps) (sym bare.none) tt;
    paths_free = All-weaker _ _ paths (λ path h. subst (λ (ps : List PoolState). FreeOf ps path) (sym bare.none) tt) fresh.there;
    some = fresh.some;
    there = All-weaker _ _ paths (λ path among. bare.there path among) (each_among paths);
    large = enough paths fresh.large (each_among paths);
    count = subst (λ (ps : List PoolState). length ps < 16) (sym bare.none) (omega arith);
    few = fresh.few;
    room = subst (λ (n : ℕ). n ≤ 2 ^ 48) (sym bare.next) fresh.room;
  }

  once_again : distinct once ≡ once
  once_again = once_once once (distinct-differ paths)

  rows_alike : data_rows e.devices (distinct once) ≡ data_rows s.devices once
  rows_alike = ap (data_rows e.devices) once_again ∙ same_rows e.devices s.devices once (All-distinct (λ path. sectors_of path e.devices ≡ sectors_of path s.devices) paths (All-weaker _ _ paths (λ path among. bare.sectors path among) (each_among paths)))

  abbrev made_in : EngineState → List Text → List DevRow → Reply × EngineState
  made_in t list rows = (accepted (Created true (Some (t.next, list))), with_pool t (new_pool t.next name rows))

  here_is : create_plain s name paths ≡ made_in s once (data_rows s.devices once)
  unfolding create_plain
  here_is = ap (λ (a : Option Reply). unless_answered a s (made_in s once (data_rows s.devices once))) none

  alone_is : create_plain e name once ≡ made_in e once (data_rows s.devices once)
  unfolding create_plain
  alone_is =
      ap (λ (a : Option Reply). unless_answered a e (made_in e (distinct once) (data_rows e.devices (distinct once)))) (fresh-unanswered e name paths fresh_alone)
      ∙ ap (λ (list : List Text). made_in e list (data_rows e.devices (distinct once))) once_again
      ∙ ap (λ (rows : List DevRow). made_in e once rows) rows_alike

  add_alone : (q : ℕ → PoolState) → add_made (with_pool e (q e.next)).pools s ≡ with_pool s (q s.next)
  add_alone q =
      ap (λ (ps : List PoolState). add_made (ps ++ q e.next ∷ []) s) bare.none
      ∙ ap (λ (n : ℕ). with_pool s (q n)) bare.next

  plain_beside : plain s (CreatePool name paths) ≡ beside_made s (plain e (CreatePool name once))
  plain_beside =
      ap (λ (a : Reply × EngineState). Some a) here_is
      ∙ ap (λ (t : EngineState). Some (accepted (Created true (Some (s.next, once))), t)) (sym (add_alone (λ n. new_pool n name (data_rows s.devices once))))
      ∙ ap (λ (n : ℕ). Some (accepted (Created true (Some (n, once))), add_made (with_pool e (new_pool e.next name (data_rows s.devices once))).pools s)) (sym bare.next)
      ∙ ap (λ (a : Reply × EngineState). beside_made s (Some a)) (sym alone_is)

  changed_here : is_changed (plain s (CreatePool name paths)) ≡ true
  changed_here = ap (λ (a : Reply × EngineState). is_changed (Some a)) here_is

  changed_alone : is_changed (plain e (CreatePool name once)) ≡ true
  changed_alone = ap (λ (a : Reply × EngineState). is_changed (Some a)) alone_is

  no_memory : Some (refused OutOfMemory, s) ≡ beside_made s (Some (refused OutOfMemory, e))
  no_memory = ap (λ (ps : List PoolState). Some (refused OutOfMemory, add_made ps s)) (sym bare.none)

  unread : (a b : Bool) (x y : Reply × EngineState) → where_so (a && false) x ≡ beside_made s (where_so (b && false) y)
  unread a b x y = ap (λ (t : Bool). where_so t x) (and_false a) ∙ ap (λ (t : Bool). beside_made s (where_so t y)) (sym (and_false b))

  fails : outcome s (CreatePool name paths) FaultWrite ≡ beside_made s (outcome e (CreatePool name once) FaultWrite)
  fails =
      ap (λ (t : Bool). where_so t (refused DeviceFault, with_pool s (broken_pool s.next name once))) changed_here
      ∙ ap (λ (t : EngineState). Some (refused DeviceFault, t)) (sym (add_alone (λ n. broken_pool n name once)))
      ∙ ap (λ (list : List Text). Some (refused DeviceFault, add_made (with_pool e (broken_pool e.next name list)).pools s)) (sym once_again)
      ∙ ap (λ (t : Bool). beside_made s (where_so t (refused DeviceFault, with_pool e (broken_pool e.next name (distinct once))))) (sym changed_alone)

  made_so : (env : Env) → outcome s (CreatePool name paths) env ≡ beside_made s (outcome e (CreatePool name once) env)
  made_so Plain = plain_beside
  made_so NoMem = no_memory
  made_so FaultRead = unread (is_ok (plain s (CreatePool name paths))) (is_ok (plain e (CreatePool name once))) (refused DeviceFault, s) (refused DeviceFault, e)
  made_so FaultWrite = fails
  made_so After = refl
  made_so (Before bytes) = refl

pub made_beside : CreateBeside
made_beside s e name paths env none bare = made_so s e name paths none bare env
