-- What the model answers of one pool alone, for the calls here.
use Rattle.std.proofs.Common.{◌≡◌, ℕ, Bool, true, false, not, ◌&&◌, ◌||◌, cond, nat_eq, bytes_eq, is_some, [], ◌∷◌, Option, Some, None, refl, ◌∙◌, ap, arith}
use Rattle.std.proofs.lemmas.Bool.Decides.{nat_tests}
use Rattle.std.proofs.lemmas.Slice.Eq.{bytes_eq-Decides}
use Rattle.st_units.specs.declared.cause.Cause.TheVariants.{DeviceFault, NameInUse}
use Rattle.st_model.specs.declared.call.Call.{Call}
use Rattle.st_model.specs.declared.call.Call.TheVariants.{RenamePool, DestroyPool}
use Rattle.st_model.specs.declared.entry.Env.TheVariants.{Plain, FaultWrite}
use Rattle.st_model.specs.declared.reply.Given.TheVariants.{Changed}
use Rattle.st_model.specs.declared.reply.Identity.TheVariants.{Pool}
use Rattle.st_model.specs.declared.reply.Reply.{Reply}
use Rattle.st_model.specs.declared.state.EngineState.{EngineState}
use Rattle.st_model.specs.declared.state.PoolMode.{PoolMode}
use Rattle.st_model.specs.declared.state.PoolMode.TheVariants.{Up}
use Rattle.st_model.specs.declared.state.PoolState.{PoolState}
use Rattle.st_model.specs.Answer.{accepted, refused, refused_where, first_answer, unless_answered}
use Rattle.st_model.specs.Checks.{down, not_up, worn}
use Rattle.st_model.specs.Lifted.{changed}
use Rattle.st_model.specs.Local.{Outcome, where_so}
use Rattle.st_model.specs.Look.{Text, flight_of, gives_name, holder, is_up}
use Rattle.st_model.specs.Parts.{pool_at}
use Rattle.st_model.specs.Step.{is_changed, outcome}
use Rattle.st_model.specs.steps.DestroyPool.{destroy_answers, destroy_found, destroy_pool}
use Rattle.st_model.specs.steps.RenamePool.{rename_answers, rename_found, rename_pool, renamed}
use Rattle.st_rack.specs.Calls.{Devices}
use Rattle.st_pool.specs.View.{engine_of}

eq_self : (n : ℕ) → nat_eq n n ≡ true
eq_self n = grind (arith, nat_tests)

pub called : (name : Text) → bytes_eq name name ≡ true
called name = (bytes_eq-Decides name name).1 refl

module _ (pool : PoolState) (devs : Devices) where
  abbrev s : EngineState
  s = engine_of pool devs

  pub own : pool_at pool.name s.pools ≡ Some pool
  own = ap (λ (t : Bool). cond t (Some pool) None) (called pool.name)

  abbrev name_changed : Reply
  name_changed = accepted (Changed true (Some (Pool pool.serial)))

  -- what is done with the pool, which is up
  pub changed_own : (g : PoolState → PoolState) → pool.mode ≡ Up → (changed pool.name g s).pools ≡ g pool ∷ []
  changed_own g up = ap (λ (t : Bool). cond t (g pool) pool ∷ []) (ap (λ (m : PoolMode). is_up m && bytes_eq pool.name pool.name) up ∙ called pool.name)

  module _ (new : Text) where
    abbrev call : Call
    call = RenamePool pool.name new

    abbrev rename_next : Reply × EngineState
    rename_next = (name_changed, changed pool.name (renamed new) s)

    abbrev pub answers : Option Reply
    answers = first_answer (rename_answers s pool.name new pool)

    pub rename_is : (answer : Option Reply) → answers ≡ answer → rename_pool pool.name new s ≡ unless_answered answer s rename_next
    unfolding rename_pool
    rename_is answer h = ap (λ (o : Option PoolState). rename_found s pool.name new o) own ∙ ap (λ (a : Option Reply). unless_answered a s rename_next) h

    pub rename_plain : (answer : Option Reply) → answers ≡ answer → outcome s call Plain ≡ Some (unless_answered answer s rename_next)
    rename_plain answer h = ap (λ (o : Reply × EngineState). Some o) (rename_is answer h)

    pub rename_fails : answers ≡ None → outcome s call FaultWrite ≡ Some (refused DeviceFault, changed pool.name (down call) s)
    rename_fails h = ap (λ (o : Outcome). where_so (is_changed o) (refused DeviceFault, changed pool.name (down call) s)) (rename_plain None h)

    -- the answer that changes nothing
    pub same_name : bytes_eq pool.name new ≡ true → answers ≡ Some (accepted (Changed false None))
    same_name e = ap (λ (t : Bool). first_answer (cond t (Some (accepted (Changed false None))) None ∷ refused_where (is_some (holder new s.pools)) NameInUse ∷ not_up pool pool.mode ∷ worn pool ∷ [])) e

    pub other_name : bytes_eq pool.name new ≡ false → gives_name new (flight_of pool.mode) ≡ false → answers ≡ first_answer (not_up pool pool.mode ∷ worn pool ∷ [])
    other_name e free =
        ap (λ (t : Bool). first_answer (cond t (Some (accepted (Changed false None))) None ∷ refused_where (is_some (holder new s.pools)) NameInUse ∷ not_up pool pool.mode ∷ worn pool ∷ [])) e
        ∙ ap (λ (t : Bool). first_answer (refused_where (is_some (cond t (Some pool) None)) NameInUse ∷ not_up pool pool.mode ∷ worn pool ∷ [])) ((λ i. e i || free i))

  -- the end of the pool
  abbrev ended : Reply × EngineState
  ended = (name_changed, record s { pools = [] })

  abbrev pub end_answers : Option Reply
  end_answers = first_answer (destroy_answers pool)

  pub destroy_is : (answer : Option Reply) → end_answers ≡ answer → destroy_pool pool.name s ≡ unless_answered answer s ended
  unfolding destroy_pool
  destroy_is answer h =
      ap (λ (o : Option PoolState). destroy_found s o) own
      ∙ ap (λ (t : Bool). unless_answered end_answers s (name_changed, record s { pools = cond (not t) (pool ∷ []) [] })) (eq_self pool.serial)
      ∙ ap (λ (a : Option Reply). unless_answered a s ended) h

  pub destroy_plain : (answer : Option Reply) → end_answers ≡ answer → outcome s (DestroyPool pool.name) Plain ≡ Some (unless_answered answer s ended)
  destroy_plain answer h = ap (λ (o : Reply × EngineState). Some o) (destroy_is answer h)

  pub destroy_fails : end_answers ≡ None → outcome s (DestroyPool pool.name) FaultWrite ≡ Some (refused DeviceFault, changed pool.name (down (DestroyPool pool.name)) s)
  destroy_fails h = ap (λ (o : Outcome). where_so (is_changed o) (refused DeviceFault, changed pool.name (down (DestroyPool pool.name)) s)) (destroy_plain None h)
