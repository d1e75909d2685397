-- a call in flight that adds devices: what it is answered depends on its pool alone
use Rattle.std.proofs.Common.{◌≡◌, ℕ, ◌+◌, ◌==◌, ◌⊎◌, inl, inr, List, [], ◌∷◌, length, Bool, true, false, cond, map, Option, Some, None, is_some, option_map, nat_lt, refl, sym, ap, ◌∙◌, subst}
use Rattle.std.specs.List.{AllByRecursion, find}
use Rattle.st_units.specs.declared.cause.Cause.TheVariants.{DeviceInUse, TooManyDevices}
use Rattle.st_units.specs.declared.rows.DevRow.{DevRow}
use Rattle.st_model.specs.declared.call.Call.{Call}
use Rattle.st_model.specs.declared.reply.Given.TheVariants.{Added}
use Rattle.st_model.specs.declared.reply.Reply.{Reply}
use Rattle.st_model.specs.declared.state.EngineState.{EngineState}
use Rattle.st_model.specs.declared.state.PoolState.{PoolState}
use Rattle.st_model.specs.Answer.{accepted, first_answer, refused_by, refused_where, unless_answered}
use Rattle.st_model.specs.Checks.{absent_device, in_use, no_devices, not_up, small_device, used_device, worn}
use Rattle.st_model.specs.Flight.{new_to, started_as}
use Rattle.st_model.specs.Lifted.{changed}
use Rattle.st_model.specs.Look.{Text, devices_taken, first_used, flight_of, has_path, is_called, pool_using, takes_path, uses}
use Rattle.st_model.specs.Valid.{AreThere, is_there}
use Rattle.st_model.specs.steps.AddDevices.{Adding, add_devices, add_found, add_new, with_devices}
use Rattle.st_model.proofs.Alone.{AcceptedAlike, same_reply}
use Rattle.st_model.proofs.Among.{IsBeside, IsIn, IsPlaced, any_before, other_started, own_started, self, up}
use Rattle.st_model.proofs.CreateKind.{All-and, each_among, taken_there}
use Rattle.st_model.proofs.Flights.{find_same, found-holds}
use Rattle.st_model.proofs.Lists.{All-distinct, All-filter, All-weaker}

or_right : (a b : Bool) → b ≡ true → Rattle.std.specs.Prelude.◌||◌ a b ≡ true
or_right true b h = refl
or_right false b h = h

-- what holds of all devices given holds of those that are new to the tier
pub All-new : (P : Text → Type 0) (tier devices : List Text) → AllByRecursion P devices → AllByRecursion P (new_to tier devices)
All-new P tier devices h = All-filter P _ (Rattle.st_model.specs.Look.distinct devices) (All-distinct P devices h)

-- a device that the call in flight takes is used by its pool alone, or by none before the call
unused_before : (rows : List DevRow) (p : PoolState) (path : Text) (ps : List PoolState) → AllByRecursion (IsBeside rows p) ps → is_there rows path ≡ true → uses path p ≡ true → uses path (up p) ≡ false
    → find (uses path) (map (started_as p.serial) ps) ≡ None
unused_before rows p path [] h t u f = refl
unused_before rows p path (q ∷ ps) h t u f = here h.0 (unused_before rows p path ps h.1 t u f)
  where
    here : IsBeside rows p q → find (uses path) (map (started_as p.serial) ps) ≡ None → find (uses path) (started_as p.serial q ∷ map (started_as p.serial) ps) ≡ None
    here (inl e) rest = rw (own_started p q e, f) rest
    here (inr o) rest = rw (other_started rows p q o, o.devices path t u) rest

used_before : (rows : List DevRow) (p : PoolState) (path : Text) (ps : List PoolState) → AllByRecursion (IsBeside rows p) ps → IsIn p ps → is_there rows path ≡ true → uses path p ≡ true → uses path (up p) ≡ true
    → find (uses path) (map (started_as p.serial) ps) ≡ Some (up p)
used_before rows p path [] h i t u f = absurd i
used_before rows p path (q ∷ ps) h i t u f = here h.0 i (λ j. used_before rows p path ps h.1 j t u f)
  where
    here : IsBeside rows p q → (q ≡ p) ⊎ IsIn p ps → (IsIn p ps → find (uses path) (map (started_as p.serial) ps) ≡ Some (up p)) → find (uses path) (started_as p.serial q ∷ map (started_as p.serial) ps) ≡ Some (up p)
    here (inl e) i rest = rw (own_started p q e, f) refl
    here (inr o) (inl e) rest = rw (own_started p q e, f) refl
    here (inr o) (inr i) rest = rw (other_started rows p q o, o.devices path t u) (rest i)

same_user : (rows : List DevRow) (p : PoolState) (ps : List PoolState) → IsPlaced rows ps p → (path : Text) → is_there rows path ≡ true → uses path p ≡ true
    → pool_using path (map (started_as p.serial) ps) ≡ pool_using path (up p ∷ [])
same_user rows p ps placed path t u = here (uses path (up p)) refl
  where
    here : (b : Bool) → uses path (up p) ≡ b → find (uses path) (map (started_as p.serial) ps) ≡ cond (uses path (up p)) (Some (up p)) None
    here true e = used_before rows p path ps placed.beside placed.among t u e ∙ sym (ap (λ (c : Bool). cond c (Some (up p)) None) e)
    here false e = unused_before rows p path ps placed.beside t u e ∙ sym (ap (λ (c : Bool). cond c (Some (up p)) None) e)

-- so the check of devices in use is answered alike
same_in_use : (ps qs : List PoolState) (o : Option Text) → ((path : Text) → o ≡ Some path → pool_using path ps ≡ pool_using path qs) → in_use ps o ≡ in_use qs o
same_in_use ps qs None h = refl
same_in_use ps qs (Some path) h = ap (option_map (λ (pool : PoolState). DeviceInUse path pool.name)) (h path refl)

same_used : (ps qs : List PoolState) (paths : List Text) → AllByRecursion (λ path. pool_using path ps ≡ pool_using path qs) paths → used_device paths ps ≡ used_device paths qs
same_used ps qs paths h =
    let first : first_used paths ps ≡ first_used paths qs = find_same _ _ paths (All-weaker _ _ paths (λ path e. ap is_some e) h) in
    ap refused_by (ap (in_use ps) first ∙ same_in_use ps qs (first_used paths qs) (λ path e. found-holds (λ x. pool_using x ps ≡ pool_using x qs) _ paths path h e))

-- the answers, by what is said of used devices
abbrev pub answers_with : Adding → List DevRow → List Text → List Text → PoolState → Option Reply → List (Option Reply)
answers_with a rack devices new p used =
    not_up p p.mode
    ∷ no_devices devices
    ∷ absent_device devices rack
    ∷ cond (length new == 0) (Some (accepted (Added false []))) None
    ∷ a.refusal p.cache
    ∷ used
    ∷ small_device new rack
    ∷ refused_where (nat_lt 16 (length p.devices + length new)) TooManyDevices
    ∷ worn p
    ∷ []

same_after : (x : Option Reply) (s t u v : EngineState) (r : Reply) → (unless_answered x s (r, u)).0 ≡ (unless_answered x t (r, v)).0
same_after None s t u v r = refl
same_after (Some q) s t u v r = refl

add_reply : (a : Adding) (rack : List DevRow) (ps qs : List PoolState) (m n : ℕ) (name : Text) (devices new : List Text) (p : PoolState) → used_device new ps ≡ used_device new qs
    → (add_new a (record { pools = ps; devices = rack; next = m }) name devices new p).0 ≡ (add_new a (record { pools = qs; devices = rack; next = n }) name devices new p).0
add_reply a rack ps qs m n name devices new p e =
    let s : EngineState = record { pools = ps; devices = rack; next = m } in
    let t : EngineState = record { pools = qs; devices = rack; next = n } in
    let after : EngineState = changed name (with_devices a rack new) s in
    ap (λ (u : Option Reply). (unless_answered (first_answer (answers_with a rack devices new p u)) s (accepted (Added true new), after)).0) e
    ∙ same_after (first_answer (answers_with a rack devices new p (used_device new qs))) s t after (changed name (with_devices a rack new) t) (accepted (Added true new))

pub add-kind : (a : Adding) (call : Call) (name : Text) (devices : List Text) (s : EngineState) (p : PoolState) → IsPlaced s.devices s.pools p → AreThere s.devices p p.mode → name ≡ p.name → flight_of p.mode ≡ Some call
    → devices_taken call ≡ devices
    → AcceptedAlike (Some (add_devices a name devices (record s { pools = map (started_as p.serial) s.pools }))) (Some (add_devices a name devices (record { pools = up p ∷ []; devices = s.devices; next = 0 })))
unfolding add_devices
add-kind a call name devices s p placed there on flight takes =
    let before : EngineState = record s { pools = map (started_as p.serial) s.pools } in
    let only : EngineState = record { pools = up p ∷ []; devices = s.devices; next = 0 } in
    let new = new_to (a.there p.devices) devices in
    let first : find (is_called name) before.pools ≡ Some (up p) = rw on (any_before s.devices p s.pools placed.beside placed.among) in
    let second : find (is_called name) only.pools ≡ Some (up p) = rw (on, self p.name) refl in
    let taken : AllByRecursion (λ path. is_there s.devices path ≡ true) devices = subst (λ (l : List Text). AllByRecursion (λ path. is_there s.devices path ≡ true) l) takes (taken_there s.devices p call p.mode flight there) in
    let own : AllByRecursion (λ path. uses path p ≡ true) devices =
    All-weaker _ _ devices (λ path h. or_right _ _ (ap (takes_path path) flight ∙ ap (has_path path) takes ∙ h)) (each_among devices) in
    let users : AllByRecursion (λ path. pool_using path before.pools ≡ pool_using path only.pools) new =
    All-new _ (a.there p.devices) devices (All-weaker _ _ devices (λ path h. same_user s.devices p s.pools placed path h.0 h.1) (All-and _ _ devices taken own)) in
    let used : used_device new before.pools ≡ used_device new only.pools = same_used before.pools only.pools new users in
    same_reply (add_devices a name devices before) (add_devices a name devices only)
    (ap (λ o. (add_found a before name devices o).0) first ∙ add_reply a s.devices before.pools only.pools s.next 0 name devices new (up p) used ∙ sym (ap (λ o. (add_found a only name devices o).0) second))
