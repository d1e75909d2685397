-- a call that adds devices, as the program runs it
use Rattle.std.proofs.Common.{◌≡◌, ℕ, suc, ◌<◌, ◌^◌, ◌+◌, not, List, [], ◌∷◌, ◌++◌, length, Bool, true, false, cond, map, find, nat_lt, arith, Some, None, slice_get, slice_set, refl, sym, ap, ◌∙◌, subst}
use Rattle.std.specs.List.{position, position_or_len}
use Rattle.std.proofs.lemmas.Grind.{common_steps}
use Rattle.std.proofs.lemmas.List.Folds.{find_at}
use Rattle.st_units.specs.declared.cause.Cause.TheVariants.{NoSuchPool}
use Rattle.st_model.specs.declared.reply.Given.TheVariants.{Added}
use Rattle.st_model.specs.declared.reply.Reply.{Reply}
use Rattle.st_model.specs.declared.state.EngineState.{EngineState}
use Rattle.st_model.specs.declared.state.PoolMode.{PoolMode}
use Rattle.st_model.specs.declared.state.PoolMode.TheVariants.{Up, Down, Stopped, Unsettled, Incomplete}
use Rattle.st_model.specs.declared.state.PoolState.{PoolState}
use Rattle.st_model.specs.Answer.{accepted, first_answer, refused, unless_answered}
use Rattle.st_model.specs.Checks.{not_up, rows_on}
use Rattle.st_model.specs.Flight.{new_to}
use Rattle.st_model.specs.Lifted.{changed, runs_as}
use Rattle.st_model.specs.Look.{Text, is_called, is_up}
use Rattle.st_model.specs.Parts.{pool_at}
use Rattle.st_model.specs.Sums.{AreSmall}
use Rattle.st_model.specs.Valid.{IsValid}
use Rattle.st_model.specs.ValidPool.{IsValidIn, IsValidPool, IsWhole}
use Rattle.st_model.specs.steps.AddDevices.{add_answers, add_devices, add_found, with_devices}
use Rattle.st_model.proofs.AddCalls.{data-call, init-call, more-call}
use Rattle.st_model.proofs.Answers0.{none_answers, not_worn}
use Rattle.st_model.proofs.Flights.{found-holds}
use Rattle.st_model.proofs.Lists.{found_passes}
use Rattle.st_model.proofs.ValidAdding.{IsAdding, IsWithout, added-whole, addable, all_without}
use Rattle.st_step.specs.declared.add_devices.Adding.{Adding}
use Rattle.st_step.specs.declared.add_devices.Adding.TheVariants.{ToData, ToNewCache, ToCache}
use Rattle.st_step.specs.Adding.{adding_of}
use Rattle.st_step.proofs.AtPlace.{changed-place}

adding_is : (k : Adding) → IsAdding (adding_of k)
adding_is ToData = data-call.adding
adding_is ToNewCache = init-call.adding
adding_is ToCache = more-call.adding

-- the place of the pool of a name
place_is : (q : PoolState → Bool) (ps : List PoolState) (i : ℕ) → position q ps ≡ Some i → position_or_len q ps ≡ i
place_is q ps i e = by (nat_lt (position_or_len q ps) (length ps)) e
  where
    by : (b : Bool) → cond b (Some (position_or_len q ps)) None ≡ Some i → position_or_len q ps ≡ i
    by true e = cc
    by false e = absurd cc

pub place_found : (name : Text) (ps : List PoolState) (i : ℕ) (p : PoolState) → position (is_called name) ps ≡ Some i → slice_get ps i ≡ Some p → pool_at name ps ≡ Some p
place_found name ps i p e h = find_at (is_called name) ps ∙ ap (slice_get ps) (place_is (is_called name) ps i e) ∙ h

pub place_within : (name : Text) (ps : List PoolState) (i : ℕ) → position (is_called name) ps ≡ Some i → i < length ps
place_within name ps i e = by (nat_lt (position_or_len (is_called name) ps) (length ps)) refl e
  where
    less : (m n : ℕ) → nat_lt m n ≡ true → m < n
    less m n h = grind (arith, common_steps)

    by : (b : Bool) → nat_lt (position_or_len (is_called name) ps) (length ps) ≡ b → cond b (Some (position_or_len (is_called name) ps)) None ≡ Some i → i < length ps
    by true k e = let same : position_or_len (is_called name) ps ≡ i = cc in subst (λ (n : ℕ). n < length ps) same (less _ _ k)
    by false k e = absurd cc

none_there : (q : PoolState → Bool) (ps : List PoolState) → nat_lt (position_or_len q ps) (length ps) ≡ false → find q ps ≡ None
none_there q [] h = refl
none_there q (x ∷ ps) h = here (q x) h (none_there q ps)
  where
    back : (m n : ℕ) → nat_lt (1 + m) (suc n) ≡ false → nat_lt m n ≡ false
    back m n h = grind (arith, common_steps)

    here : (b : Bool) → nat_lt (cond (not b) (1 + position_or_len q ps) 0) (suc (length ps)) ≡ false → (nat_lt (position_or_len q ps) (length ps) ≡ false → find q ps ≡ None) → cond b (Some x) (find q ps) ≡ None
    here true h f = absurd (let bad : nat_lt 0 (suc (length ps)) ≡ true = grind (arith, common_steps) in cc)
    here false h f = f (back (position_or_len q ps) (length ps) h)

pub place_none : (name : Text) (ps : List PoolState) → position (is_called name) ps ≡ None → pool_at name ps ≡ None
place_none name ps e = by (nat_lt (position_or_len (is_called name) ps) (length ps)) refl e
  where
    by : (b : Bool) → nat_lt (position_or_len (is_called name) ps) (length ps) ≡ b → cond b (Some (position_or_len (is_called name) ps)) None ≡ None → pool_at name ps ≡ None
    by true k e = absurd cc
    by false k e = none_there (is_called name) ps k

pub unknown_so : (k : Adding) (s : EngineState) (name : Text) (devices : List Text) → pool_at name s.pools ≡ None → (refused NoSuchPool, s) ≡ add_devices (adding_of k) name devices s
unfolding add_devices
unknown_so k s name devices at = sym (ap (λ o. add_found (adding_of k) s name devices o) at)

abbrev pub new_of : Adding → List Text → PoolState → List Text
new_of k devices p = new_to ((adding_of k).there p.devices) devices

pub answered_so : (k : Adding) (s : EngineState) (name : Text) (devices : List Text) (p : PoolState) (reply : Reply) → pool_at name s.pools ≡ Some p → first_answer (add_answers (adding_of k) s devices (new_of k devices p) p) ≡ Some reply
    → (reply, s) ≡ add_devices (adding_of k) name devices s
unfolding add_devices
answered_so k s name devices p reply at e =
    let a = adding_of k in
    let new = new_of k devices p in
    sym (ap (λ o. add_found a s name devices o) at ∙ ap (λ x. unless_answered x s (accepted (Added true new), changed name (with_devices a s.devices new) s)) e)

up_of : (p : PoolState) (m : PoolMode) → not_up p m ≡ None → is_up m ≡ true
up_of p Up h = refl
up_of p (Down call) h = absurd cc
up_of p Stopped h = absurd cc
up_of p (Unsettled call) h = absurd cc
up_of p (Incomplete path) h = absurd cc

up_mode : (m : PoolMode) → is_up m ≡ true → m ≡ Up
up_mode Up h = refl
up_mode (Down call) h = absurd cc
up_mode Stopped h = absurd cc
up_mode (Unsettled call) h = absurd cc
up_mode (Incomplete path) h = absurd cc

pub added_so : (k : Adding) (s : EngineState) (name : Text) (devices : List Text) (i : ℕ) (p : PoolState) → IsValid s → slice_get s.pools i ≡ Some p → pool_at name s.pools ≡ Some p
    → first_answer (add_answers (adding_of k) s devices (new_of k devices p) p) ≡ None
    → (accepted (Added true (new_of k devices p)), record s { pools = slice_set s.pools i (with_devices (adding_of k) s.devices (new_of k devices p) p) }) ≡ add_devices (adding_of k) name devices s
unfolding add_devices
added_so k s name devices i p v h at none =
    let a = adding_of k in
    let new = new_of k devices p in
    let up : is_up p.mode ≡ true = up_of p p.mode (none_answers (add_answers a s devices new p) none).0 in
    let called : is_called name p ≡ true = found_passes (is_called name) s.pools p at in
    let runs : runs_as name p ≡ true = rw (up, called) refl in
    let after : map (Rattle.st_model.specs.Lifted.one_changed name (with_devices a s.devices new)) s.pools ≡ slice_set s.pools i (with_devices a s.devices new p) = changed-place s.devices name (with_devices a s.devices new) s.pools i p v.apart h runs in
    sym (ap (λ o. add_found a s name devices o) at ∙ ap (λ x. unless_answered x s (accepted (Added true new), changed name (with_devices a s.devices new) s)) none
    ∙ ap (λ (ps : List PoolState). (accepted (Added true new), record s { pools = ps })) after)

-- what the pool's code needs: room for a commit, and devices few and small enough to be summed
pub record Fits (k : Adding) (s : EngineState) (devices : List Text) (p : PoolState) : Type 0 where
  pub commits : p.commits < 2 ^ 48
  pub small : AreSmall (p.devices ++ rows_on (adding_of k).tier s.devices (new_of k devices p))

pub fits_after : (k : Adding) (s : EngineState) (name : Text) (devices : List Text) (p : PoolState) → IsValid s → pool_at name s.pools ≡ Some p → first_answer (add_answers (adding_of k) s devices (new_of k devices p) p) ≡ None → Fits k s devices p
fits_after k s name devices p v at none =
    let a = adding_of k in
    let new = new_of k devices p in
    let ok = addable a s devices p none in
    let up : p.mode ≡ Up = up_mode p.mode (up_of p p.mode (none_answers (add_answers a s devices new p) none).0) in
    let valid : IsValidPool s.next p = found-holds (IsValidPool s.next) (is_called name) s.pools p v.pools at in
    let whole : IsWhole p = subst (λ (m : PoolMode). IsValidIn p m) up valid.state in
    let free : IsWithout new p = found-holds (IsWithout new) (is_called name) s.pools p (all_without s.pools new ok.free) at in
    record {
      commits = not_worn p ok.fresh whole.commits;
      small = (added-whole a (adding_is k) s new p v.rack free ok whole).devices.small;
    }
