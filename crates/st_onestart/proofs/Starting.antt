-- A start of the only pool of an engine.
use Rattle.std.proofs.Common.{◌≡◌, ℕ, ◌+◌, ◌==◌, Bool, true, false, not, ◌&&◌, ◌||◌, cond, nat_eq, nat_lt, bytes_eq, is_some, List, [], ◌∷◌, ◌++◌, length, Option, Some, None, refl, sym, ◌∙◌, ap, arith}
use Rattle.std.proofs.lemmas.Bool.Decides.{nat_tests}
use Rattle.std.proofs.lemmas.Slice.Eq.{bytes_eq-Decides}
use Rattle.st_limits.specs.declared.TheConstants.{MAX_COMMITS}
use Rattle.st_units.specs.declared.rows.DevRow.{DevRow}
use Rattle.st_units.specs.declared.cause.Cause.TheVariants.{DeviceFault, NameInUse, NotEmpty, PoolVanished, Worn}
use Rattle.st_model.specs.declared.call.Call.{Call}
use Rattle.st_model.specs.declared.call.Call.TheVariants.{CreatePool, DestroyPool, RenamePool, StartPool}
use Rattle.st_model.specs.declared.call.PoolId.TheVariants.{ByName}
use Rattle.st_model.specs.declared.entry.Env.TheVariants.{Plain, FaultWrite, After, Before}
use Rattle.st_model.specs.declared.reply.Given.TheVariants.{Changed, Created}
use Rattle.st_model.specs.declared.reply.Identity.TheVariants.{Pool}
use Rattle.st_model.specs.declared.reply.Reply.{Reply}
use Rattle.st_model.specs.declared.state.EngineState.{EngineState}
use Rattle.st_model.specs.declared.state.FsState.{FsState}
use Rattle.st_model.specs.declared.state.PoolMode.{PoolMode}
use Rattle.st_model.specs.declared.state.PoolMode.TheVariants.{Up, Stopped, Unsettled}
use Rattle.st_model.specs.declared.state.PoolState.{PoolState}
use Rattle.st_model.specs.Answer.{accepted, first_answer, refused, refused_where, unless_answered}
use Rattle.st_model.specs.Checks.{cooled, not_up, settled, worn}
use Rattle.st_model.specs.Flight.{all_but, started_as, state_before}
use Rattle.st_model.specs.Found.{found_after, found_after_of, found_before, has_commit, taken_over, unsettled_in, with_own_serial}
use Rattle.st_model.specs.Lifted.{changed}
use Rattle.st_model.specs.Local.{Outcome, where_so}
use Rattle.st_model.specs.Look.{Text, distinct, holder}
use Rattle.st_model.specs.Plain.{plain}
use Rattle.st_model.specs.Step.{can_start, found, on_flight, outcome, reaches}
use Rattle.st_model.specs.steps.CreatePool.{create_answer, create_plain, data_rows, new_pool, with_pool}
use Rattle.st_model.specs.steps.DestroyPool.{destroy_answers, destroy_found, destroy_pool}
use Rattle.st_model.specs.steps.RenamePool.{rename_answers, rename_found, rename_pool, renamed}
use Rattle.st_model.specs.steps.StartPool.{pool_meant, start_found, start_in, start_pool, started_reply, with_serial}
use Rattle.st_onestart.specs.Alone.{StartsAlone, none_in, only, up}

eq_self : (n : ℕ) → (n == n) ≡ true
eq_self n = grind (arith, nat_tests)

called : (name : Text) → bytes_eq name name ≡ true
called name = (bytes_eq-Decides name name).1 refl

one_more : (n : ℕ) → nat_lt n (n + 1) ≡ true
one_more n = grind (arith, nat_tests)

module _ (pool : PoolState) (devices : List DevRow) (next : ℕ) where
  abbrev s : EngineState
  s = only pool devices next

  abbrev call : Call
  call = StartPool (ByName pool.name)

  meant : pool_meant (ByName pool.name) s ≡ Some pool
  meant = ap (λ (t : Bool). cond t (Some pool) None) (called pool.name)

  placed : (q : PoolState) → with_serial pool.serial q s ≡ only q devices next
  placed q = ap (λ (t : Bool). only (cond t q pool) devices next) (eq_self pool.serial)

  left_out : (q : PoolState) → q.serial ≡ pool.serial → all_but pool.serial (q ∷ []) ≡ []
  left_out q e = ap (λ (t : Bool). cond (not t) (q ∷ []) []) (ap (λ (n : ℕ). n == pool.serial) e ∙ eq_self pool.serial)

  own_is : (q : PoolState) (n : ℕ) → q.serial ≡ pool.serial → with_own_serial pool.serial (only q devices n) ≡ Some q
  own_is q n e = ap (λ (t : Bool). cond t (Some q) None) (ap (λ (k : ℕ). k == pool.serial) e ∙ eq_self pool.serial)

  starts : (q : PoolState) → ◌≡◌ {A = Reply × EngineState} (started_reply pool, with_serial pool.serial (settled q) s) (started_reply pool, only (settled q) devices next)
  starts q = λ i. (started_reply pool, placed (settled q) i)

  vanishes : ◌≡◌ {A = Reply × EngineState} (refused PoolVanished, record s { pools = all_but pool.serial s.pools }) (refused PoolVanished, none_in devices next)
  vanishes = λ i. (refused PoolVanished, record s { pools = left_out pool refl i })

  pub stopped : pool.mode ≡ Stopped → outcome s call Plain ≡ Some (started_reply pool, only (cooled Up pool) devices next)
  unfolding start_pool
  stopped is = ap (start_found s) meant ∙ ap (start_in s pool) is ∙ (λ i. Some (started_reply pool, placed (cooled Up pool) i))

  pub fails : can_start pool.mode ≡ true → outcome s call FaultWrite ≡ Some (refused DeviceFault, s)
  fails can = ap (λ (o : Option PoolState). where_so (reaches o) (refused DeviceFault, s)) meant ∙ ap (λ (t : Bool). where_so t (refused DeviceFault, s)) can

  -- what is found of a call in flight
  finds : (f : PoolState → Call → Outcome) (flight : Call) → pool.mode ≡ Unsettled flight → found f (pool_meant (ByName pool.name) s) ≡ f pool flight
  finds f flight is = ap (found f) meant ∙ ap (λ (m : PoolMode). on_flight pool f (unsettled_in m)) is

  pub rename_before : (name new : Text) → pool.mode ≡ Unsettled (RenamePool name new) → outcome s call (Before []) ≡ Some (started_reply pool, only (settled pool) devices next)
  rename_before name new is = finds (λ p flight. found_before s p flight []) (RenamePool name new) is ∙ ap Some (starts pool)

  pub end_before : (name : Text) → pool.mode ≡ Unsettled (DestroyPool name) → outcome s call (Before []) ≡ Some (started_reply pool, only (settled pool) devices next)
  end_before name is = finds (λ p flight. found_before s p flight []) (DestroyPool name) is ∙ ap Some (starts pool)

  pub make_before : (name : Text) (paths : List Text) → pool.mode ≡ Unsettled (CreatePool name paths) → outcome s call (Before []) ≡ Some (refused PoolVanished, none_in devices next)
  make_before name paths is = finds (λ p flight. found_before s p flight []) (CreatePool name paths) is ∙ ap Some vanishes

  -- the pool before the call
  abbrev was : EngineState
  was = only (up pool) devices next

  before_is : (record s { pools = started_as pool.serial pool ∷ [] }) ≡ was
  before_is = ap (λ (t : Bool). only (cond t (up pool) pool) devices next) (eq_self pool.serial)

  -- a call that was answered with a commit more
  taken : (before : EngineState) (reply : Reply) (after : EngineState) (p q : Option PoolState) → (reply.code == 0) ≡ true → with_own_serial pool.serial before ≡ p → with_own_serial pool.serial after ≡ q → has_commit p q ≡ true
      → found_after_of s pool before (Some (reply, after)) ≡ Some (taken_over s pool q)
  taken before reply after p q code was_p is_q more =
      (λ i. where_so (code i && has_commit (was_p i) (is_q i)) (taken_over s pool (is_q i))) ∙ ap (λ (t : Bool). where_so t (taken_over s pool q)) more

  module _ (new : Text) (differ : bytes_eq pool.name new ≡ false) (fresh : (pool.commits == MAX_COMMITS) ≡ false) where
    answers : first_answer (rename_answers was pool.name new (up pool)) ≡ None
    answers =
        ap (λ (t : Bool). first_answer (cond t (Some (accepted (Changed false None))) None ∷ refused_where (is_some (holder new was.pools)) NameInUse ∷ None ∷ worn (up pool) ∷ [])) differ
        ∙ ap (λ (t : Bool). first_answer (refused_where (is_some (cond (t || false) (Some (up pool)) None)) NameInUse ∷ None ∷ worn (up pool) ∷ [])) differ
        ∙ ap (λ (t : Bool). first_answer (refused_where t Worn ∷ [])) fresh

    renames : rename_pool pool.name new was ≡ (accepted (Changed true (Some (Pool pool.serial))), only (renamed new (up pool)) devices next)
    unfolding rename_pool
    renames =
        ap (λ (t : Bool). rename_found was pool.name new (cond t (Some (up pool)) None)) (called pool.name)
        ∙ ap (λ (a : Option Reply). unless_answered a was (accepted (Changed true (Some (Pool pool.serial))), changed pool.name (renamed new) was)) answers
        ∙ ap (λ (t : Bool). (accepted (Changed true (Some (Pool pool.serial))), only (cond t (renamed new (up pool)) (up pool)) devices next)) (called pool.name)

    pub rename_after : pool.mode ≡ Unsettled (RenamePool pool.name new) → outcome s call After ≡ Some (started_reply pool, only (settled (renamed new (up pool))) devices next)
    rename_after is =
        finds (found_after s) (RenamePool pool.name new) is
        ∙ ap (λ (b : EngineState). found_after_of s pool b (Some (rename_pool pool.name new b))) before_is
        ∙ ap (λ (o : Reply × EngineState). found_after_of s pool was (Some o)) renames
        ∙ taken was (accepted (Changed true (Some (Pool pool.serial)))) (only (renamed new (up pool)) devices next) (Some (up pool)) (Some (renamed new (up pool))) refl (own_is (up pool) next refl) (own_is (renamed new (up pool)) next refl) (one_more pool.commits)
        ∙ ap Some (starts (renamed new (up pool)))

  module _ (bare : pool.filesystems ≡ []) (fresh : (pool.commits == MAX_COMMITS) ≡ false) where
    end_answers : first_answer (destroy_answers (up pool)) ≡ None
    end_answers =
        ap (λ (fs : List FsState). first_answer (None ∷ refused_where (not (length fs == 0)) (NotEmpty (length fs)) ∷ worn (up pool) ∷ [])) bare
        ∙ ap (λ (t : Bool). first_answer (refused_where t Worn ∷ [])) fresh

    ends : destroy_pool pool.name was ≡ (accepted (Changed true (Some (Pool pool.serial))), none_in devices next)
    unfolding destroy_pool
    ends =
        ap (λ (t : Bool). destroy_found was (cond t (Some (up pool)) None)) (called pool.name)
        ∙ ap (λ (a : Option Reply). unless_answered a was (accepted (Changed true (Some (Pool pool.serial))), record was { pools = all_but pool.serial was.pools })) end_answers
        ∙ (λ i. (accepted (Changed true (Some (Pool pool.serial))), record was { pools = left_out (up pool) refl i }))

    pub end_after : pool.mode ≡ Unsettled (DestroyPool pool.name) → outcome s call After ≡ Some (refused PoolVanished, none_in devices next)
    end_after is =
        finds (found_after s) (DestroyPool pool.name) is
        ∙ ap (λ (b : EngineState). found_after_of s pool b (Some (destroy_pool pool.name b))) before_is
        ∙ ap (λ (o : Reply × EngineState). found_after_of s pool was (Some o)) ends
        ∙ taken was (accepted (Changed true (Some (Pool pool.serial)))) (none_in devices next) (Some (up pool)) None refl (own_is (up pool) next refl) refl refl
        ∙ ap Some vanishes

  module _ (name : Text) (paths : List Text) (free : create_answer (none_in devices pool.serial) name paths ≡ None) where
    abbrev made : PoolState
    made = new_pool pool.serial name (data_rows devices (distinct paths))

    makes : create_plain (none_in devices pool.serial) name paths ≡ (accepted (Created true (Some (pool.serial, distinct paths))), only made devices (pool.serial + 1))
    unfolding create_plain
    makes = ap (λ (a : Option Reply). unless_answered a (none_in devices pool.serial) (accepted (Created true (Some (pool.serial, distinct paths))), with_pool (none_in devices pool.serial) made)) free

    pub make_after : pool.mode ≡ Unsettled (CreatePool name paths) → outcome s call After ≡ Some (started_reply pool, only (settled made) devices next)
    make_after is =
        finds (found_after s) (CreatePool name paths) is
        ∙ ap (λ (ps : List PoolState). found_after_of s pool (record s { pools = ps; next = pool.serial }) (Some (create_plain (record s { pools = ps; next = pool.serial }) name paths))) (left_out pool refl)
        ∙ ap (λ (o : Reply × EngineState). found_after_of s pool (none_in devices pool.serial) (Some o)) makes
        ∙ taken (none_in devices pool.serial) (accepted (Created true (Some (pool.serial, distinct paths)))) (only made devices (pool.serial + 1)) None (Some made) refl refl (own_is made (pool.serial + 1) refl) refl
        ∙ ap Some (starts made)

pub starts_alone : StartsAlone
starts_alone = record {
  stopped = stopped;
  rename_before = rename_before;
  end_before = end_before;
  make_before = make_before;
  rename_after = λ pool devices next new is differ fresh. rename_after pool devices next new differ fresh is;
  end_after = λ pool devices next is bare fresh. end_after pool devices next bare fresh is;
  make_after = λ pool devices next name paths is free. make_after pool devices next name paths free is;
  fails = fails;
}
