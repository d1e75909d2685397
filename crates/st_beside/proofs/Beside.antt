-- what a call does to one pool alone, it does to it beside others
use Rattle.std.proofs.Common.{◌≡◌, ℕ, List, [], ◌∷◌, Bool, true, false, cond, not, ◌&&◌, ◌||◌, bytes_eq, map, Option, Some, None, is_some, inl, inr, ◌⊎◌, refl, sym, ap, subst, ◌∙◌, arith}
use Rattle.std.specs.Prelude.{find, filter, ◌==◌, length, if◌then◌else◌}
use Rattle.std.specs.List.{AllByRecursion}
use Rattle.st_units.specs.declared.rows.DevRow.{DevRow}
use Rattle.std.proofs.lemmas.Bool.Decides.{nat_tests}
use Rattle.std.proofs.lemmas.Slice.Eq.{bytes_eq-Decides}
use Rattle.st_units.specs.declared.cause.Cause.TheVariants.{DeviceFault, OutOfMemory, NameInUse, NotEmpty}
use Rattle.st_model.specs.declared.call.Call.{Call}
use Rattle.st_model.specs.declared.call.Call.TheVariants.{DestroyPool, RenamePool, StopPool}
use Rattle.st_model.specs.declared.entry.Env.{Env}
use Rattle.st_model.specs.declared.entry.Env.TheVariants.{Plain, NoMem, FaultRead, FaultWrite, After, Before}
use Rattle.st_model.specs.declared.reply.Given.TheVariants.{Changed}
use Rattle.st_model.specs.declared.reply.Identity.TheVariants.{Pool}
use Rattle.st_model.specs.declared.reply.Reply.{Reply}
use Rattle.st_model.specs.declared.state.EngineState.{EngineState}
use Rattle.st_model.specs.declared.state.PoolMode.{PoolMode}
use Rattle.st_model.specs.declared.state.PoolMode.TheVariants.{Up, Down, Stopped, Unsettled, Incomplete}
use Rattle.st_model.specs.declared.state.PoolState.{PoolState}
use Rattle.st_model.specs.Answer.{accepted, refused, refused_where, first_answer, unless_answered}
use Rattle.st_model.specs.Checks.{down, halted, not_up, worn}
use Rattle.st_model.specs.Flight.{all_but}
use Rattle.st_model.specs.Lifted.{changed}
use Rattle.st_model.specs.Local.{Outcome, where_so}
use Rattle.st_model.specs.Look.{Text, holder, holds, is_called, is_started, is_up}
use Rattle.st_model.specs.Parts.{pool_at}
use Rattle.st_model.specs.Plain.{plain}
use Rattle.st_model.specs.Step.{is_changed, is_ok, outcome}
use Rattle.st_model.specs.Valid.{Apart, IsValid}
use Rattle.st_model.specs.ValidPool.{EachPair}
use Rattle.st_model.specs.steps.DestroyPool.{destroy_answers, destroy_found, destroy_pool}
use Rattle.st_model.specs.steps.RenamePool.{rename_answers, rename_found, rename_pool, renamed}
use Rattle.st_model.specs.steps.StopPool.{stop_found, stop_pool}
use Rattle.st_table.specs.Steps.{StepsPut, with_other}
use Rattle.st_beside.specs.Beside.{DestroyBeside, IsAlone, RenameBeside, StopBeside, beside, put_back}

eq_self : (n : ℕ) → (n == n) ≡ true
eq_self n = grind (arith, nat_tests)

called_self : (name : Text) → bytes_eq name name ≡ true
called_self name = (bytes_eq-Decides name name).1 refl

abbrev instead : Text → PoolState → PoolState → PoolState
instead name p q = if is_called name q then p else q

holds_own : (q : PoolState) (name : Text) → is_called name q ≡ true → holds name q ≡ true
holds_own q name e = rw e refl

-- no pool behind has the name
rest_same : (rows : List DevRow) (name : Text) (p q : PoolState) (ps : List PoolState) → is_called name q ≡ true → AllByRecursion (Apart rows q) ps → map (instead name p) ps ≡ ps
rest_same rows name p q [] e all = refl
rest_same rows name p q (r ∷ ps) e all = here (is_called name r) refl (rest_same rows name p q ps e all.1)
  where
    here : (b : Bool) → is_called name r ≡ b → map (instead name p) ps ≡ ps → map (instead name p) (r ∷ ps) ≡ r ∷ ps
    here true k more = absurd (all.0.names name (holds_own q name e) (holds_own r name k))
    here false k more = ap (λ (t : Bool). cond t p r ∷ map (instead name p) ps) k ∙ ap (λ (rest : List PoolState). r ∷ rest) more

-- the pool in its own place changes nothing
own_place : (rows : List DevRow) (name : Text) (p : PoolState) (ps : List PoolState) → EachPair (Apart rows) ps → pool_at name ps ≡ Some p → map (instead name p) ps ≡ ps
own_place rows name p [] apart found = absurd cc
own_place rows name p (q ∷ ps) apart found = here (is_called name q) refl found (own_place rows name p ps apart.1)
  where
    here : (b : Bool) → is_called name q ≡ b → cond b (Some q) (pool_at name ps) ≡ Some p → (pool_at name ps ≡ Some p → map (instead name p) ps ≡ ps) → map (instead name p) (q ∷ ps) ≡ q ∷ ps
    here true k f more =
        let same : q ≡ p = cc in
        ap (λ (t : Bool). cond t p q ∷ map (instead name p) ps) k ∙ ap (λ (x : PoolState). x ∷ map (instead name p) ps) (sym same) ∙ ap (λ (rest : List PoolState). q ∷ rest) (rest_same rows name p q ps k apart.0)
    here false k f more = ap (λ (t : Bool). cond t p q ∷ map (instead name p) ps) k ∙ ap (λ (rest : List PoolState). q ∷ rest) (more f)

-- with a pool of a valid state in its own place the state is the same
pub same_in_place : (s : EngineState) (p : PoolState) → IsValid s → pool_at p.name s.pools ≡ Some p → with_other p.name p s ≡ s
same_in_place s p valid here = ap (λ (ps : List PoolState). record s { pools = ps }) (own_place s.devices p.name p s.pools valid.apart here)

pub not_held : (name : Text) (p : PoolState) (ps : List PoolState) (n : Text) → pool_at n ps ≡ Some p → holder name ps ≡ None → holds name p ≡ false
not_held name p [] n found none = absurd cc
not_held name p (q ∷ ps) n found none = here (is_called n q) refl (holds name q) refl found none (not_held name p ps n)
  where
    here : (b : Bool) → is_called n q ≡ b → (h : Bool) → holds name q ≡ h → cond b (Some q) (pool_at n ps) ≡ Some p → cond h (Some q) (holder name ps) ≡ None
        → (pool_at n ps ≡ Some p → holder name ps ≡ None → holds name p ≡ false) → holds name p ≡ false
    here b k true e f g more = absurd cc
    here true k false e f g more = let same : q ≡ p = cc in subst (λ (x : PoolState). holds name x ≡ false) same e
    here false k false e f g more = more f g

no_change : false ≡ true → ⊥
no_change k = absurd cc

and_false : (b : Bool) → (b && false) ≡ false
and_false true = refl
and_false false = refl

module _ (put : StepsPut) (p : PoolState) (s e : EngineState) (are : IsAlone p s e) where
  found_alone : pool_at p.name e.pools ≡ Some p
  found_alone = ap (pool_at p.name) are.alone ∙ ap (λ (t : Bool). cond t (Some p) None) (called_self p.name)

  -- what changes nothing of the pool alone, changes nothing here
  left : put_back p e.pools s ≡ s
  left = ap (λ (ps : List PoolState). put_back p ps s) are.alone ∙ same_in_place s p are.valid are.here

  abbrev Beside : Reply × EngineState → Reply × EngineState → Type 0
  Beside here alone = here ≡ (alone.0, put_back p alone.1.pools s)

  unless_beside : (answer : Option Reply) (here alone : Reply × EngineState) → (answer ≡ None → Beside here alone) → Beside (unless_answered answer s here) (unless_answered answer e alone)
  unless_beside None here alone h = h refl
  unless_beside (Some reply) here alone h = ap (λ (t : EngineState). (reply, t)) (sym left)

  changed_alone : (g : PoolState → PoolState) → p.mode ≡ Up → (changed p.name g e).pools ≡ g p ∷ []
  changed_alone g is_it =
      ap (λ (ps : List PoolState). map (λ (q : PoolState). if (is_up q.mode && is_called p.name q) then g q else q) ps) are.alone
      ∙ ap (λ (t : Bool). cond t (g p) p ∷ []) (ap (λ (m : PoolMode). is_up m && bytes_eq p.name p.name) is_it ∙ called_self p.name)

  alone_changed : (g : PoolState → PoolState) → p.mode ≡ Up → changed p.name g s ≡ put_back p (changed p.name g e).pools s
  alone_changed g is_it = put.by_name s p.name p g are.valid are.here is_it ∙ ap (λ (ps : List PoolState). put_back p ps s) (sym (changed_alone g is_it))

  -- of a call that fails on the pool: it is up
  module _ (call : Call) (plain_is : plain s call ≡ beside p s (plain e call)) (up : is_changed (plain e call) ≡ true → p.mode ≡ Up) where
    still_changed : (o : Outcome) → is_changed (beside p s o) ≡ is_changed o
    still_changed None = refl
    still_changed (Some a) = refl

    fails : where_so (is_changed (plain s call)) (refused DeviceFault, changed p.name (down call) s) ≡ beside p s (where_so (is_changed (plain e call)) (refused DeviceFault, changed p.name (down call) e))
    fails = ap (λ (o : Outcome). where_so (is_changed o) (refused DeviceFault, changed p.name (down call) s)) plain_is
        ∙ ap (λ (b : Bool). where_so b (refused DeviceFault, changed p.name (down call) s)) (still_changed (plain e call))
        ∙ decide (is_changed (plain e call)) refl
      where
        decide : (b : Bool) → is_changed (plain e call) ≡ b → where_so b (refused DeviceFault, changed p.name (down call) s) ≡ beside p s (where_so b (refused DeviceFault, changed p.name (down call) e))
        decide true k = ap (λ (t : EngineState). Some (refused DeviceFault, t)) (alone_changed (down call) (up k))
        decide false k = refl

  no_memory : Some (refused OutOfMemory, s) ≡ beside p s (Some (refused OutOfMemory, e))
  no_memory = ap (λ (t : EngineState). Some (refused OutOfMemory, t)) (sym left)

  -- a call that reads nothing first
  unread : (a b : Bool) (x : Reply × EngineState) (y : Reply × EngineState) → where_so (a && false) x ≡ beside p s (where_so (b && false) y)
  unread a b x y = ap (λ (t : Bool). where_so t x) (and_false a) ∙ ap (λ (t : Bool). beside p s (where_so t y)) (sym (and_false b))

  -- ---- DestroyPool

  abbrev ended : EngineState → Reply × EngineState
  ended t = (accepted (Changed true (Some (Pool p.serial))), record t { pools = all_but p.serial t.pools })

  ended_alone : (ended e).1.pools ≡ []
  ended_alone = ap (all_but p.serial) are.alone ∙ ap (λ (t : Bool). cond (not t) (p ∷ []) []) (eq_self p.serial)

  destroyed : plain s (DestroyPool p.name) ≡ beside p s (plain e (DestroyPool p.name))
  unfolding destroy_pool
  destroyed =
      ap (λ (o : Option PoolState). Some (destroy_found s o)) are.here
      ∙ ap (λ (a : Reply × EngineState). Some a) (unless_beside (first_answer (destroy_answers p)) (ended s) (ended e) (λ none. ap (λ (ps : List PoolState). ((ended s).0, put_back p ps s)) (sym ended_alone)))
      ∙ ap (λ (o : Option PoolState). beside p s (Some (destroy_found e o))) (sym found_alone)

  abbrev end_answer : PoolMode → Option Reply
  end_answer m = first_answer (not_up p m ∷ refused_where (not (length p.filesystems == 0)) (NotEmpty (length p.filesystems)) ∷ worn p ∷ [])

  end_up : (m : PoolMode) → p.mode ≡ m → is_changed (Some (unless_answered (end_answer m) e (ended e))) ≡ true → p.mode ≡ Up
  end_up Up is k = is
  end_up (Down call) is k = absurd (no_change k)
  end_up Stopped is k = absurd (no_change k)
  end_up (Unsettled call) is k = absurd (no_change k)
  end_up (Incomplete path) is k = absurd (no_change k)

  destroy_up : is_changed (plain e (DestroyPool p.name)) ≡ true → p.mode ≡ Up
  unfolding destroy_pool
  destroy_up k = end_up p.mode refl (subst (λ (o : Option PoolState). is_changed (Some (destroy_found e o)) ≡ true) found_alone k)

  destroyed_so : (env : Env) → outcome s (DestroyPool p.name) env ≡ beside p s (outcome e (DestroyPool p.name) env)
  destroyed_so Plain = destroyed
  destroyed_so NoMem = no_memory
  destroyed_so FaultRead = unread (is_ok (plain s (DestroyPool p.name))) (is_ok (plain e (DestroyPool p.name))) (refused DeviceFault, s) (refused DeviceFault, e)
  destroyed_so FaultWrite = fails (DestroyPool p.name) destroyed destroy_up
  destroyed_so After = refl
  destroyed_so (Before bytes) = refl

  -- ---- RenamePool

  module _ (new : Text) (free : (bytes_eq p.name new ≡ true) ⊎ (holder new s.pools ≡ None)) where
    abbrev moved : EngineState → Reply × EngineState
    moved t = (accepted (Changed true (Some (Pool p.serial))), changed p.name (renamed new) t)

    abbrev rename_answer : Bool → Bool → PoolMode → Option Reply
    rename_answer own held m = first_answer (cond own (Some (accepted (Changed false None))) None ∷ refused_where held NameInUse ∷ not_up p m ∷ worn p ∷ [])

    held_alone : is_some (holder new e.pools) ≡ holds new p
    held_alone = ap (λ (ps : List PoolState). is_some (holder new ps)) are.alone ∙ one (holds new p)
      where
        one : (b : Bool) → is_some (cond b (Some p) None) ≡ b
        one true = refl
        one false = refl

    -- a pool holds the name here just where the pool does alone, or it is asked for its own
    answer_same : rename_answer (bytes_eq p.name new) (is_some (holder new s.pools)) p.mode ≡ rename_answer (bytes_eq p.name new) (is_some (holder new e.pools)) p.mode
    answer_same = elim free [
      | inl own ↦ ap (λ (t : Bool). rename_answer t (is_some (holder new s.pools)) p.mode) own ∙ ap (λ (t : Bool). rename_answer t (is_some (holder new e.pools)) p.mode) (sym own)
      | inr none ↦ ap (λ (o : Option PoolState). rename_answer (bytes_eq p.name new) (is_some o) p.mode) none
          ∙ ap (λ (t : Bool). rename_answer (bytes_eq p.name new) t p.mode) (sym (held_alone ∙ not_held new p s.pools p.name are.here none))
    ]

    rename_up : (own held : Bool) (m : PoolMode) → p.mode ≡ m → (t : EngineState) → is_changed (Some (unless_answered (rename_answer own held m) t (moved t))) ≡ true → p.mode ≡ Up
    rename_up true held m is t k = absurd (no_change k)
    rename_up false true m is t k = absurd (no_change k)
    rename_up false false Up is t k = is
    rename_up false false (Down call) is t k = absurd (no_change k)
    rename_up false false Stopped is t k = absurd (no_change k)
    rename_up false false (Unsettled call) is t k = absurd (no_change k)
    rename_up false false (Incomplete path) is t k = absurd (no_change k)

    renaming_up : is_changed (plain e (RenamePool p.name new)) ≡ true → p.mode ≡ Up
    unfolding rename_pool
    renaming_up k = rename_up (bytes_eq p.name new) (is_some (holder new e.pools)) p.mode refl e (subst (λ (o : Option PoolState). is_changed (Some (rename_found e p.name new o)) ≡ true) found_alone k)

    moved_beside : (own held : Bool) (m : PoolMode) → p.mode ≡ m → rename_answer own held m ≡ None → Beside (moved s) (moved e)
    moved_beside true held m is none = absurd cc
    moved_beside false true m is none = absurd cc
    moved_beside false false Up is none = ap (λ (t : EngineState). ((moved s).0, t)) (alone_changed (renamed new) is)
    moved_beside false false (Down call) is none = absurd cc
    moved_beside false false Stopped is none = absurd cc
    moved_beside false false (Unsettled call) is none = absurd cc
    moved_beside false false (Incomplete path) is none = absurd cc

    renamed_plain : plain s (RenamePool p.name new) ≡ beside p s (plain e (RenamePool p.name new))
    unfolding rename_pool
    renamed_plain =
        ap (λ (o : Option PoolState). Some (rename_found s p.name new o)) are.here
        ∙ ap (λ (a : Option Reply). Some (unless_answered a s (moved s))) answer_same
        ∙ ap (λ (a : Reply × EngineState). Some a) (unless_beside (rename_answer (bytes_eq p.name new) (is_some (holder new e.pools)) p.mode) (moved s) (moved e)
        (λ none. moved_beside (bytes_eq p.name new) (is_some (holder new e.pools)) p.mode refl none))
        ∙ ap (λ (o : Option PoolState). beside p s (Some (rename_found e p.name new o))) (sym found_alone)

    renamed_so : (env : Env) → outcome s (RenamePool p.name new) env ≡ beside p s (outcome e (RenamePool p.name new) env)
    renamed_so Plain = renamed_plain
    renamed_so NoMem = no_memory
    renamed_so FaultRead = unread (is_ok (plain s (RenamePool p.name new))) (is_ok (plain e (RenamePool p.name new))) (refused DeviceFault, s) (refused DeviceFault, e)
    renamed_so FaultWrite = fails (RenamePool p.name new) renamed_plain renaming_up
    renamed_so After = refl
    renamed_so (Before bytes) = refl

  -- ---- StopPool

  abbrev put_halted : EngineState → EngineState
  put_halted t = record t { pools = map (λ (q : PoolState). if is_called p.name q then halted q else q) t.pools }

  halted_alone : (put_halted e).pools ≡ halted p ∷ []
  halted_alone = ap (λ (ps : List PoolState). map (λ (q : PoolState). if is_called p.name q then halted q else q) ps) are.alone ∙ ap (λ (t : Bool). cond t (halted p) p ∷ []) (called_self p.name)

  stopped_plain : plain s (StopPool p.name) ≡ beside p s (plain e (StopPool p.name))
  unfolding stop_pool
  stopped_plain =
      ap (λ (o : Option PoolState). Some (stop_found s p.name o)) are.here
      ∙ by_mode (is_started p.mode)
      ∙ ap (λ (o : Option PoolState). beside p s (Some (stop_found e p.name o))) (sym found_alone)
    where
      by_mode : (b : Bool) → Some (cond b (accepted (Changed true (Some (Pool p.serial))), put_halted s) (accepted (Changed false None), s))
          ≡ beside p s (Some (cond b (accepted (Changed true (Some (Pool p.serial))), put_halted e) (accepted (Changed false None), e)))
      by_mode true = ap (λ (t : EngineState). Some (accepted (Changed true (Some (Pool p.serial))), t)) (put.stopped s p.name p are.valid are.here ∙ ap (λ (ps : List PoolState). put_back p ps s) (sym halted_alone))
      by_mode false = ap (λ (t : EngineState). Some (accepted (Changed false None), t)) (sym left)

  stopped_so : (env : Env) → outcome s (StopPool p.name) env ≡ beside p s (outcome e (StopPool p.name) env)
  stopped_so Plain = stopped_plain
  stopped_so NoMem = no_memory
  stopped_so FaultRead = unread (is_ok (plain s (StopPool p.name))) (is_ok (plain e (StopPool p.name))) (refused DeviceFault, s) (refused DeviceFault, e)
  stopped_so FaultWrite = refl
  stopped_so After = refl
  stopped_so (Before bytes) = refl

pub destroyed_beside : StepsPut → DestroyBeside
destroyed_beside put p s e env are = destroyed_so put p s e are env

pub renamed_beside : StepsPut → RenameBeside
renamed_beside put p s e new env are free = renamed_so put p s e are new free env

pub stopped_beside : StepsPut → StopBeside
stopped_beside put p s e env are = stopped_so put p s e are env
