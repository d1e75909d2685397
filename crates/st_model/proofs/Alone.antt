-- whether a call in flight would have been accepted depends on its pool and on the rack's devices alone
use Rattle.std.proofs.Common.{◌≡◌, List, [], ◌∷◌, Bool, true, false, ◌||◌, cond, map, Option, Some, None, is_some, bytes_eq, refl, sym, ap, ◌∙◌, subst}
use Rattle.std.specs.List.{find}
use Rattle.st_units.specs.declared.rows.DevRow.{DevRow}
use Rattle.st_units.specs.declared.cause.Cause.TheVariants.{NameInUse}
use Rattle.st_model.specs.declared.call.Call.{Call}
use Rattle.st_model.specs.declared.call.Call.TheVariants.{CreatePool, RenamePool, DestroyPool}
use Rattle.st_model.specs.declared.reply.Given.TheVariants.{Changed}
use Rattle.st_model.specs.declared.reply.Reply.{Reply}
use Rattle.st_model.specs.declared.state.EngineState.{EngineState}
use Rattle.st_model.specs.declared.state.PoolState.{PoolState}
use Rattle.st_model.specs.Answer.{accepted, refused_where, first_answer, unless_answered}
use Rattle.st_model.specs.Look.{Text, flight_of, holds, holder, gives_name}
use Rattle.st_model.specs.Valid.{IsAccepted, IsOn}
use Rattle.st_model.specs.Flight.{all_but, state_before}
use Rattle.st_model.specs.Lifted.{Doing, on_pool, answer_of, is_known}
use Rattle.st_model.specs.Local.{Outcome}
use Rattle.st_model.specs.Parts.{own}
use Rattle.st_model.specs.Plain.{plain}
use Rattle.st_model.specs.Checks.{not_up, worn}
use Rattle.st_model.specs.steps.DestroyPool.{destroy_answers, destroy_found, destroy_pool}
use Rattle.st_model.specs.steps.RenamePool.{rename_pool, rename_found, rename_answers}
use Rattle.st_model.proofs.Among.{IsPlaced, up, self, own_before, any_before, unheld_before}

-- the state before the call in flight, were its pool the only one
abbrev pub alone_before : List DevRow → PoolState → Call → EngineState
alone_before rows p (CreatePool name devices) = record { pools = []; devices = rows; next = p.serial }
alone_before rows p _ = record { pools = up p ∷ []; devices = rows; next = 0 }

abbrev pub IsAloneFlight : List DevRow → PoolState → Option Call → Type 0
IsAloneFlight rows p None = Unit {0}
IsAloneFlight rows p (Some call) = IsAccepted (plain (alone_before rows p call) call)

-- both are accepted, or none is
abbrev pub AcceptedAlike : Outcome → Outcome → Type 0
AcceptedAlike a b = (IsAccepted a → IsAccepted b) × (IsAccepted b → IsAccepted a)

-- one lemma a kind of call in flight
abbrev pub IsKind : Call → Type 0
IsKind call = (s : EngineState) (p : PoolState) → IsPlaced s.devices s.pools p → IsOn p.name call → flight_of p.mode ≡ Some call
    → AcceptedAlike (plain (state_before s p call) call) (plain (alone_before s.devices p call) call)

pub same_reply : (a b : Reply × EngineState) → a.0 ≡ b.0 → AcceptedAlike (Some a) (Some b)
same_reply a b h = (λ e. rw (sym h) e, λ e. rw h e)

-- the calls within a pool
doing_reply : (name : Text) (f : Doing) (s : EngineState) (p : PoolState) → own name s ≡ Some (up p) → (on_pool name f s).0 ≡ (f (up p)).0
unfolding on_pool
doing_reply name f s p h = ap (answer_of (λ p. (f p).0) (is_known name s)) h

own_only : (rows : List DevRow) (p : PoolState) → own p.name (record { pools = up p ∷ []; devices = rows; next = 0 }) ≡ Some (up p)
own_only rows p = rw (self p.name) refl

pub doing-kind : (s : EngineState) (p : PoolState) (name : Text) (f : Doing) → IsPlaced s.devices s.pools p → name ≡ p.name
    → AcceptedAlike (Some (on_pool name f (record s { pools = map (Rattle.st_model.specs.Flight.started_as p.serial) s.pools }))) (Some (on_pool name f (record { pools = up p ∷ []; devices = s.devices; next = 0 })))
doing-kind s p name f placed e =
    let before : EngineState = record s { pools = map (Rattle.st_model.specs.Flight.started_as p.serial) s.pools } in
    let only : EngineState = record { pools = up p ∷ []; devices = s.devices; next = 0 } in
    let first : own name before ≡ Some (up p) = rw e (own_before s.devices p s.pools placed.beside placed.among) in
    let second : own name only ≡ Some (up p) = rw e (own_only s.devices p) in
    same_reply (on_pool name f before) (on_pool name f only) (doing_reply name f before p first ∙ sym (doing_reply name f only p second))

-- a rename: nobody else holds the new name
rename_reply : (name new : Text) (s t : EngineState) (p : PoolState) → (bytes_eq name new ≡ false → is_some (holder new s.pools) ≡ is_some (holder new t.pools))
    → (rename_found s name new (Some p)).0 ≡ (rename_found t name new (Some p)).0
rename_reply name new s t p h = here (bytes_eq name new) (is_some (holder new s.pools)) (is_some (holder new t.pools)) h
  where
    same : (a : Option Reply) (r : Reply) (u v : EngineState) → (unless_answered a s (r, u)).0 ≡ (unless_answered a t (r, v)).0
    same None r u v = refl
    same (Some q) r u v = refl

    here : (b c d : Bool) → (b ≡ false → c ≡ d)
        → (unless_answered (first_answer ((cond b (Some (accepted (Changed false None))) None) ∷ refused_where c NameInUse ∷ not_up p p.mode ∷ worn p ∷ [])) s (accepted (Changed true (Some (Rattle.st_model.specs.declared.reply.Identity.TheVariants.Pool p.serial))), Rattle.st_model.specs.Lifted.changed name (Rattle.st_model.specs.steps.RenamePool.renamed new) s)).0
        ≡ (unless_answered (first_answer ((cond b (Some (accepted (Changed false None))) None) ∷ refused_where d NameInUse ∷ not_up p p.mode ∷ worn p ∷ [])) t (accepted (Changed true (Some (Rattle.st_model.specs.declared.reply.Identity.TheVariants.Pool p.serial))), Rattle.st_model.specs.Lifted.changed name (Rattle.st_model.specs.steps.RenamePool.renamed new) t)).0
    here true c d e = refl
    here false c d e = rw (e refl) (same (first_answer (None ∷ refused_where d NameInUse ∷ not_up p p.mode ∷ worn p ∷ [])) _ _ _)

or_right : (a b : Bool) → b ≡ true → (a || b) ≡ true
or_right true b h = refl
or_right false b h = h

or_false : (a : Bool) → a ≡ false → (a || false) ≡ false
or_false a h = rw h refl

pub rename-kind : (name new : Text) → IsKind (RenamePool name new)
unfolding rename_pool
rename-kind name new s p placed on flight =
    let before : EngineState = record s { pools = map (Rattle.st_model.specs.Flight.started_as p.serial) s.pools } in
    let only : EngineState = record { pools = up p ∷ []; devices = s.devices; next = 0 } in
    let first : find (Rattle.st_model.specs.Look.is_called name) before.pools ≡ Some (up p) = rw on (any_before s.devices p s.pools placed.beside placed.among) in
    let second : find (Rattle.st_model.specs.Look.is_called name) only.pools ≡ Some (up p) = rw (on, self p.name) refl in
    let held : holds new p ≡ true = or_right (bytes_eq p.name new) _ (ap (gives_name new) flight ∙ self new) in
    let free : bytes_eq name new ≡ false → holds new (up p) ≡ false = λ ne. or_false (bytes_eq p.name new) (subst (λ (n : Text). bytes_eq n new ≡ false) on ne) in
    let none : bytes_eq name new ≡ false → is_some (holder new before.pools) ≡ is_some (holder new only.pools) = λ ne.
    ap is_some (unheld_before s.devices p new s.pools placed.beside held (free ne)) ∙ sym (ap is_some (ap (λ (b : Bool). cond b (Some (up p)) None) (free ne))) in
    same_reply (rename_pool name new before) (rename_pool name new only) (ap (λ o. (rename_found before name new o).0) first ∙ rename_reply name new before only (up p) none ∙ sym (ap (λ o. (rename_found only name new o).0) second))

-- a destroying
destroy_reply : (s t : EngineState) (p : PoolState) → (destroy_found s (Some p)).0 ≡ (destroy_found t (Some p)).0
destroy_reply s t p = here (first_answer (destroy_answers p))
  where
    here : (a : Option Reply) → (unless_answered a s (accepted (Changed true (Some (Rattle.st_model.specs.declared.reply.Identity.TheVariants.Pool p.serial))), record s { pools = all_but p.serial s.pools })).0
        ≡ (unless_answered a t (accepted (Changed true (Some (Rattle.st_model.specs.declared.reply.Identity.TheVariants.Pool p.serial))), record t { pools = all_but p.serial t.pools })).0
    here None = refl
    here (Some r) = refl

pub destroy-kind : (name : Text) (s : EngineState) (p : PoolState) → IsPlaced s.devices s.pools p → name ≡ p.name → AcceptedAlike (plain (state_before s p (DestroyPool name)) (DestroyPool name)) (plain (alone_before s.devices p (DestroyPool name)) (DestroyPool name))
unfolding destroy_pool
destroy-kind name s p placed on =
    let before : EngineState = record s { pools = map (Rattle.st_model.specs.Flight.started_as p.serial) s.pools } in
    let only : EngineState = record { pools = up p ∷ []; devices = s.devices; next = 0 } in
    let first : find (Rattle.st_model.specs.Look.is_called name) before.pools ≡ Some (up p) = rw on (any_before s.devices p s.pools placed.beside placed.among) in
    let second : find (Rattle.st_model.specs.Look.is_called name) only.pools ≡ Some (up p) = rw (on, self p.name) refl in
    same_reply (destroy_pool name before) (destroy_pool name only) (ap (λ o. (destroy_found before o).0) first ∙ destroy_reply before only (up p) ∙ sym (ap (λ o. (destroy_found only o).0) second))
