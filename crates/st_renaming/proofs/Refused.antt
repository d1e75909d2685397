-- what a rename is answered without its pool is what the model answers
use Rattle.std.proofs.Common.{◌≡◌, List, [], ◌∷◌, Bool, true, false, cond, ◌||◌, bytes_eq, find, Option, Some, None, is_some, is_none, option_map, refl, sym, ap, subst, ◌∙◌}
use Rattle.st_units.specs.declared.cause.Cause.TheVariants.{NameInUse}
use Rattle.st_model.specs.declared.call.Call.{Call}
use Rattle.st_model.specs.declared.call.Call.TheVariants.{RenamePool}
use Rattle.st_model.specs.declared.entry.Env.TheVariants.{Plain}
use Rattle.st_model.specs.declared.reply.Given.TheVariants.{Changed}
use Rattle.st_model.specs.declared.reply.Identity.TheVariants.{Pool}
use Rattle.st_model.specs.declared.reply.Reply.{Reply}
use Rattle.st_model.specs.declared.state.EngineState.{EngineState}
use Rattle.st_model.specs.declared.state.PoolMode.{PoolMode}
use Rattle.st_model.specs.declared.state.PoolMode.TheVariants.{Up, Down, Stopped, Unsettled, Incomplete}
use Rattle.st_model.specs.declared.state.PoolState.{PoolState}
use Rattle.st_model.specs.Answer.{accepted, first_answer, refused_where, unless_answered}
use Rattle.st_model.specs.Checks.{not_up, worn}
use Rattle.st_model.specs.Lifted.{changed}
use Rattle.st_model.specs.Look.{Text, flight_of, gives_name, holder, holds, is_name_of, is_started}
use Rattle.st_model.specs.OnTable.{is_held}
use Rattle.st_model.specs.Parts.{known, new_name, own, pool_at, table_of}
use Rattle.st_model.specs.Step.{outcome}
use Rattle.st_model.specs.Valid.{IsValid}
use Rattle.st_model.specs.steps.RenamePool.{rename_found, rename_pool, renamed}
use Rattle.st_cells.proofs.Lookups.{keep, own_is}
use Rattle.st_order.proofs.Lists.{any_found, find-map}
use Rattle.st_table.specs.Stands.{Alike, info_in}
use Rattle.st_table.specs.Steps.{PoolsTold, StandsFor, kept}
use Rattle.st_table.specs.Table.{TableView, is_named, is_running, is_taken, knows, runs}
use Rattle.st_pool.specs.declared.reply.PoolReply.{PoolReply}
use Rattle.st_pool.specs.Answered.{answered}
use Rattle.st_renaming.specs.inner.Answers.{ChangesNothing, answer_early, answer_unstarted}

new_held : (name : Text) (flight : Option Call) → is_name_of name (new_name flight) ≡ gives_name name flight
new_held name None = refl
new_held name (Some call) = refl

known_holds : (name : Text) (p : PoolState) → is_held name (known p) ≡ holds name p
known_holds name p = ap (λ b. bytes_eq p.name name || b) (new_held name (flight_of p.mode))

find_alike : {X : Type 0} (p q : X → Bool) → ((x : X) → q x ≡ p x) → (xs : List X) → find q xs ≡ find p xs
find_alike p q e [] = refl
find_alike p q e (x ∷ xs) = ap (λ b. cond b (Some x) (find q xs)) (e x) ∙ ap (λ o. cond (p x) (Some x) o) (find_alike p q e xs)

some_map : {X Y : Type 0} (f : X → Y) (o : Option X) → is_some (option_map f o) ≡ is_some o
some_map f None = refl
some_map f (Some x) = refl

-- ---- what the table tells

module _ (view : TableView) (s : EngineState) (valid : IsValid s) (stands : StandsFor view s) where
  pub held_is : Alike → (name : Text) → is_taken name view.pools ≡ is_some (holder name s.pools)
  held_is alike name =
      (alike view (table_of s) stands).held name
      ∙ (ap is_some (find-map known (is_held name) s.pools)
      ∙ (some_map known (find (λ (p : PoolState). is_held name (known p)) s.pools) ∙ ap is_some (find_alike (holds name) (λ (p : PoolState). is_held name (known p)) (known_holds name) s.pools)))

  pub known_is : PoolsTold → (name : Text) → knows name view.pools ≡ is_some (pool_at name s.pools)
  known_is told name = sym (any_found (is_named name) view.pools) ∙ (ap is_some (told view s name valid stands) ∙ some_map kept (pool_at name s.pools))

  none_halted : (p : PoolState) (m : PoolMode) → is_started m ≡ true → is_none (info_in p m) ≡ true
  none_halted p Up e = refl
  none_halted p (Down call) e = refl
  none_halted p Stopped e = absurd cc
  none_halted p (Unsettled call) e = absurd cc
  none_halted p (Incomplete path) e = absurd cc

  pub runs_is : PoolsTold → (name : Text) (p : PoolState) → pool_at name s.pools ≡ Some p → is_started p.mode ≡ true → runs name view.pools ≡ true
  runs_is told name p here up = ap is_running (told view s name valid stands ∙ ap (option_map kept) here) ∙ none_halted p p.mode up

-- ---- what is answered without the pool

abbrev answers_so : EngineState → Text → Text → Reply → Type 0
answers_so s name new reply = outcome s (RenamePool name new) Plain ≡ Some (reply, s)

pub plainly_so : (s : EngineState) (name new : Text) (reply : Reply) (answer : PoolReply) → answer ≡ answered Plain reply → answers_so s name new reply → ChangesNothing s (RenamePool name new) answer
plainly_so s name new reply answer is out = subst (ChangesNothing s (RenamePool name new)) (sym is) (record { out = out; twin = refl; low = refl; calm = refl })

pub not_early : (same held : Bool) → answer_early same held ≡ None → held ≡ false
not_early true held e = absurd cc
not_early false true e = absurd cc
not_early false false e = refl

pub none_there : {X : Type 0} (o : Option X) → is_some o ≡ false → o ≡ None
none_there None e = refl
none_there (Some x) e = absurd cc

-- ---- what the model answers

abbrev answer_with : Bool → Bool → PoolState → Option Reply
answer_with same held p = first_answer (cond same (Some (accepted (Changed false None))) None ∷ refused_where held NameInUse ∷ not_up p p.mode ∷ worn p ∷ [])

module _ (s : EngineState) (name new : Text) where
  abbrev after : PoolState → Reply × EngineState
  after p = (accepted (Changed true (Some (Pool p.serial))), changed name (renamed new) s)

  abbrev asked : PoolState → Reply × EngineState
  asked p = unless_answered (answer_with (bytes_eq name new) (is_some (holder new s.pools)) p) s (after p)

  plain_found : (o : Option PoolState) → pool_at name s.pools ≡ o → outcome s (RenamePool name new) Plain ≡ Some (rename_found s name new o)
  unfolding rename_pool
  plain_found o e = ap (λ (x : Option PoolState). Some (rename_found s name new x)) e

  early : (same held : Bool) (p : PoolState) (r : Reply) → answer_early same held ≡ Some r → unless_answered (answer_with same held p) s (after p) ≡ (r, s)
  early true held p r e = let is : accepted (Changed false None) ≡ r = cc in ap (λ (x : Reply). (x, s)) is
  early false true p r e = let is : Rattle.st_model.specs.Answer.refused NameInUse ≡ r = cc in ap (λ (x : Reply). (x, s)) is
  early false false p r e = absurd cc

  pub early_so : (p : PoolState) → pool_at name s.pools ≡ Some p → (r : Reply) → answer_early (bytes_eq name new) (is_some (holder new s.pools)) ≡ Some r → outcome s (RenamePool name new) Plain ≡ Some (r, s)
  early_so p here r e = plain_found (Some p) here ∙ ap (λ (a : Reply × EngineState). Some a) (early (bytes_eq name new) (is_some (holder new s.pools)) p r e)

  halted_so : (same held : Bool) (p : PoolState) (m : PoolMode) → is_started m ≡ false
      → unless_answered (first_answer (cond same (Some (accepted (Changed false None))) None ∷ refused_where held NameInUse ∷ not_up p m ∷ worn p ∷ [])) s (after p) ≡ (answer_unstarted true same held, s)
  halted_so true held p m e = refl
  halted_so false true p m e = refl
  halted_so false false p Up e = absurd cc
  halted_so false false p (Down call) e = absurd cc
  halted_so false false p Stopped e = refl
  halted_so false false p (Unsettled call) e = refl
  halted_so false false p (Incomplete path) e = refl

  not_started : (p : PoolState) → keep (Some p) ≡ None → is_started p.mode ≡ false
  not_started p = by (is_started p.mode)
    where
      by : (b : Bool) → cond b (Some p) None ≡ None → b ≡ false
      by true k = absurd cc
      by false k = refl

  by_pool : (o : Option PoolState) → keep o ≡ None → rename_found s name new o ≡ (answer_unstarted (is_some o) (bytes_eq name new) (is_some (holder new s.pools)), s)
  by_pool None k = refl
  by_pool (Some p) k = halted_so (bytes_eq name new) (is_some (holder new s.pools)) p p.mode (not_started p k)

  pub unstarted_so : IsValid s → own name s ≡ None → outcome s (RenamePool name new) Plain ≡ Some (answer_unstarted (is_some (pool_at name s.pools)) (bytes_eq name new) (is_some (holder new s.pools)), s)
  unstarted_so valid none = plain_found (pool_at name s.pools) refl ∙ ap (λ (a : Reply × EngineState). Some a) (by_pool (pool_at name s.pools) (sym (own_is s.devices name s.pools valid.apart) ∙ none))

-- as the table tells it
pub told_unstarted : (view : TableView) (s : EngineState) → IsValid s → StandsFor view s → Alike → PoolsTold → (name new : Text) → own name s ≡ None
    → outcome s (RenamePool name new) Plain ≡ Some (answer_unstarted (knows name view.pools) (bytes_eq name new) (is_taken new view.pools), s)
told_unstarted view s valid stands alike told name new none =
    unstarted_so s name new valid none
    ∙ (ap (λ (k : Bool). Some (answer_unstarted k (bytes_eq name new) (is_some (holder new s.pools)), s)) (sym (known_is view s valid stands told name))
    ∙ ap (λ (h : Bool). Some (answer_unstarted (knows name view.pools) (bytes_eq name new) h, s)) (sym (held_is view s valid stands alike new)))
