-- a pool of a valid state, and the state before the call in flight on it
use Rattle.std.proofs.Common.{◌≡◌, ◌⊎◌, inl, inr, List, [], ◌∷◌, ◌++◌, Bool, true, false, cond, not, ◌==◌, map, Some, None, refl, subst}
use Rattle.std.specs.Prelude.{find}
use Rattle.std.specs.List.{AllByRecursion}
use Rattle.st_units.specs.declared.rows.DevRow.{DevRow}
use Rattle.st_model.specs.declared.call.Call.{Call}
use Rattle.st_model.specs.declared.state.EngineState.{EngineState}
use Rattle.st_model.specs.declared.state.PoolMode.{PoolMode}
use Rattle.st_model.specs.declared.state.PoolMode.TheVariants.{Unsettled}
use Rattle.st_model.specs.declared.state.PoolState.{PoolState}
use Rattle.st_model.specs.Flight.{all_but, started_as}
use Rattle.st_model.specs.Look.{flight_of, is_called}
use Rattle.st_model.specs.Parts.{pool_at}
use Rattle.st_model.specs.Valid.{AreThere, IsFlight, IsOnIfAny, IsRow, IsValid}
use Rattle.st_model.specs.ValidPool.{IsBefore, IsValidIn}
use Rattle.st_model.proofs.Among.{IsBeside, IsIn, IsOther, IsPlaced, All-with, all_placed, other_started, own_started, same_number, up}
use Rattle.st_model.proofs.EachKind.{IsGood, valid-good}
use Rattle.st_model.proofs.Flights.{find_none, found-holds}
use Rattle.st_model.proofs.Lists.{All-weaker, filter-passes}

-- what is known of the pool
pub record IsKnownPool (s : EngineState) (p : PoolState) : Type 0 where
  pub placed : IsPlaced s.devices s.pools p
  pub good : IsGood s.next s.devices p
  pub flight : IsFlight s p (flight_of p.mode)

pub known_at : (s : EngineState) (p : PoolState) → IsValid s → pool_at p.name s.pools ≡ Some p → IsKnownPool s p
known_at s p v found =
    found-holds (IsKnownPool s) (is_called p.name) s.pools p
    (All-with _ _ (IsKnownPool s) s.pools (λ q a b. record { placed = a; good = b.0; flight = b.1 }) (all_placed s.devices s.pools v.apart)
    (All-with _ _ (λ q. IsGood s.next s.devices q × IsFlight s q (flight_of q.mode)) s.pools (λ q a b. (a, b)) (valid-good s v) v.flights))
    found

module _ (s : EngineState) (p : PoolState) (call : Call) (known : IsKnownPool s p) (up_to : p.mode ≡ Unsettled call) where
  pub before_call : IsBefore p call
  before_call = subst (λ (m : PoolMode). IsValidIn p m) up_to known.good.valid.state

  pub own_rows : AllByRecursion (IsRow s.devices) p.devices
  own_rows = (subst (λ (m : PoolMode). AreThere s.devices p m) up_to known.good.there).0

  pub on_pool : IsOnIfAny p.name (Some call)
  on_pool = subst (λ (m : PoolMode). IsOnIfAny p.name (flight_of m)) up_to known.good.on

  pub accepted_before : IsFlight s p (Some call)
  accepted_before = subst (λ (m : PoolMode). IsFlight s p (flight_of m)) up_to known.flight

-- ---- by its serial

abbrev pub has_serial : PoolState → PoolState → Bool
has_serial p x = x.serial == p.serial

-- the pool that is started is found by its serial, before the call
pub serial_before : (rows : List DevRow) (p : PoolState) (ps : List PoolState) → AllByRecursion (IsBeside rows p) ps → IsIn p ps → find (has_serial p) (map (started_as p.serial) ps) ≡ Some (up p)
serial_before rows p [] h i = absurd i
serial_before rows p (q ∷ ps) h i = here h.0 i (serial_before rows p ps h.1)
  where
    here : IsBeside rows p q → (q ≡ p) ⊎ IsIn p ps → (IsIn p ps → find (has_serial p) (map (started_as p.serial) ps) ≡ Some (up p)) → find (has_serial p) (started_as p.serial q ∷ map (started_as p.serial) ps) ≡ Some (up p)
    here (inl e) i rest = rw (own_started p q e, same_number p.serial) refl
    here (inr o) (inl e) rest = rw (own_started p q e, same_number p.serial) refl
    here (inr o) (inr i) rest = rw (other_started rows p q o, o.serial) (rest i)

not_self : (b : Bool) → not b ≡ true → b ≡ false
not_self true h = absurd cc
not_self false h = refl

pub none_before : (p : PoolState) (ps : List PoolState) → find (has_serial p) (all_but p.serial ps) ≡ None
none_before p ps = find_none (has_serial p) (all_but p.serial ps) (All-weaker _ _ (all_but p.serial ps) (λ x. not_self (has_serial p x)) (filter-passes (λ (x : PoolState). not (has_serial p x)) ps))

pub found_last : (p : PoolState) (ps : List PoolState) (q : PoolState) → find (has_serial p) ps ≡ None → q.serial ≡ p.serial → find (has_serial p) (ps ++ q ∷ []) ≡ Some q
found_last p [] q h e = rw (e, same_number p.serial) refl
found_last p (x ∷ ps) q h e = here (has_serial p x) h (λ k. found_last p ps q k e)
  where
    here : (b : Bool) → cond b (Some x) (find (has_serial p) ps) ≡ None → (find (has_serial p) ps ≡ None → find (has_serial p) (ps ++ q ∷ []) ≡ Some q) → cond b (Some x) (find (has_serial p) (ps ++ q ∷ [])) ≡ Some q
    here true k f = absurd cc
    here false k f = f k

-- another pool in its place is found so
pub found_instead : (p q x : PoolState) (ps : List PoolState) → q.serial ≡ p.serial → find (has_serial p) ps ≡ Some x → find (has_serial p) (map (λ (y : PoolState). cond (has_serial p y) q y) ps) ≡ Some q
found_instead p q x [] e h = absurd cc
found_instead p q x (y ∷ ps) e h = here (has_serial p y) refl h (found_instead p q x ps e)
  where
    here : (b : Bool) → has_serial p y ≡ b → cond b (Some y) (find (has_serial p) ps) ≡ Some x → (find (has_serial p) ps ≡ Some x → find (has_serial p) (map (λ (z : PoolState). cond (has_serial p z) q z) ps) ≡ Some q)
        → find (has_serial p) (cond b q y ∷ map (λ (z : PoolState). cond (has_serial p z) q z) ps) ≡ Some q
    here true k g rest = rw (e, same_number p.serial) refl
    here false k g rest = rw k (rest g)

-- the other pools
pub others_of : (rows : List DevRow) (p : PoolState) (ps : List PoolState) → AllByRecursion (IsBeside rows p) ps → AllByRecursion (IsOther rows p) (all_but p.serial ps)
others_of rows p [] h = tt
others_of rows p (q ∷ ps) h = here h.0 (others_of rows p ps h.1)
  where
    here : IsBeside rows p q → AllByRecursion (IsOther rows p) (all_but p.serial ps) → AllByRecursion (IsOther rows p) (cond (not (has_serial p q)) (q ∷ all_but p.serial ps) (all_but p.serial ps))
    here (inl e) rest = rw (e, same_number p.serial) rest
    here (inr o) rest = rw o.serial (o, rest)
