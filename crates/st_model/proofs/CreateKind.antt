-- a CreatePool in flight
use Rattle.std.proofs.Common.{◌≡◌, ℕ, suc, ◌<◌, ◌≤◌, ◌^◌, ◌==◌, inl, inr, List, [], ◌∷◌, length, Bool, true, false, ◌||◌, not, cond, Option, Some, None, is_some, nat_le, nat_lt, bytes_eq, refl, sym, ap, ◌∙◌, subst, arith}
use Rattle.std.specs.List.{AllByRecursion}
use Rattle.std.proofs.lemmas.Grind.{common_steps}
use Rattle.std.proofs.lemmas.Slice.Eq.{bytes_eq-Decides}
use Rattle.st_units.specs.declared.rows.DevRow.{DevRow}
use Rattle.st_model.specs.declared.call.Call.{Call}
use Rattle.st_model.specs.declared.call.Call.TheVariants.{CreatePool}
use Rattle.st_model.specs.declared.reply.Reply.{Reply}
use Rattle.st_model.specs.declared.state.EngineState.{EngineState}
use Rattle.st_model.specs.declared.state.PoolMode.{PoolMode}
use Rattle.st_model.specs.declared.state.PoolMode.TheVariants.{Up, Down, Stopped, Unsettled, Incomplete}
use Rattle.st_model.specs.declared.state.PoolState.{PoolState}
use Rattle.st_model.specs.Answer.{first_answer}
use Rattle.st_model.specs.Look.{Text, flight_of, takes_path, holds, holder, uses, first_used, has_path}
use Rattle.st_model.specs.Valid.{AreThere, AreTaken}
use Rattle.st_model.specs.Flight.{all_but, state_before}
use Rattle.st_model.specs.steps.CreatePool.{create_answer}
use Rattle.st_model.proofs.Flights.{find_none, same-accepted}
use Rattle.st_model.proofs.Lists.{All-weaker}
use Rattle.st_model.specs.Plain.{plain}
use Rattle.st_model.proofs.Alone.{alone_before, AcceptedAlike}
use Rattle.st_model.proofs.Among.{IsIn, IsBeside, IsOther, IsPlaced, same_number, holds_own}

none_but : (serial : ℕ) (q : PoolState) → (q.serial == serial) ≡ false → (t : List PoolState) → cond (not (q.serial == serial)) (q ∷ t) t ≡ q ∷ t
none_but serial q h t = rw h refl

leaves_out : (serial : ℕ) (q : PoolState) → (q.serial == serial) ≡ true → (t : List PoolState) → cond (not (q.serial == serial)) (q ∷ t) t ≡ t
leaves_out serial q h t = rw h refl

-- all other pools are other pools
others_of : (rows : List DevRow) (p : PoolState) (ps : List PoolState) → AllByRecursion (IsBeside rows p) ps → AllByRecursion (IsOther rows p) (all_but p.serial ps)
others_of rows p [] h = tt
others_of rows p (q ∷ ps) h = here h.0 (others_of rows p ps h.1)
  where
    here : IsBeside rows p q → AllByRecursion (IsOther rows p) (all_but p.serial ps) → AllByRecursion (IsOther rows p) (all_but p.serial (q ∷ ps))
    here (inl e) rest = subst (λ l. AllByRecursion (IsOther rows p) l) (sym (leaves_out p.serial q (rw e (same_number p.serial)) (all_but p.serial ps))) rest
    here (inr o) rest = subst (λ l. AllByRecursion (IsOther rows p) l) (sym (none_but p.serial q o.serial (all_but p.serial ps))) (o, rest)

kept_length : (b : Bool) (q : PoolState) (t : List PoolState) (n : ℕ) → length t ≤ n → length (cond b (q ∷ t) t) ≤ suc n
kept_length true q t n h = omega (arith, h)
kept_length false q t n h = omega (arith, h)

pub no_longer : (serial : ℕ) (ps : List PoolState) → length (all_but serial ps) ≤ length ps
no_longer serial [] = omega arith
no_longer serial (q ∷ ps) = kept_length (not (q.serial == serial)) q (all_but serial ps) (length ps) (no_longer serial ps)

-- without the pool there is one pool fewer
one_fewer : (p : PoolState) (ps : List PoolState) → IsIn p ps → length (all_but p.serial ps) < length ps
one_fewer p [] i = absurd i
one_fewer p (q ∷ ps) (inl e) =
    let out : all_but p.serial (q ∷ ps) ≡ all_but p.serial ps = leaves_out p.serial q (rw e (same_number p.serial)) (all_but p.serial ps) in
    let less = no_longer p.serial ps in
    rw out (omega (arith, less))
one_fewer p (q ∷ ps) (inr i) =
    let less = one_fewer p ps i in
    here (not (q.serial == p.serial)) (all_but p.serial ps) (length ps) less
  where
    here : (b : Bool) (t : List PoolState) (n : ℕ) → length t < n → length (cond b (q ∷ t) t) < suc n
    here true t n h = omega (arith, h)
    here false t n h = omega (arith, h)

or_right : (a b : Bool) → b ≡ true → (a || b) ≡ true
or_right true b h = refl
or_right false b h = h

-- the devices that the call takes are there
pub taken_there : (rows : List DevRow) (p : PoolState) (call : Call) (mode : PoolMode) → flight_of mode ≡ Some call → AreThere rows p mode → AreTaken rows call
taken_there rows p call Up e h = absurd cc
taken_there rows p call (Down c) e h = let same : c ≡ call = cc in subst (AreTaken rows) same h.1
taken_there rows p call Stopped e h = absurd cc
taken_there rows p call (Unsettled c) e h = let same : c ≡ call = cc in subst (AreTaken rows) same h.1
taken_there rows p call (Incomplete path) e h = absurd cc

first_among : (path : Text) (paths : List Text) → has_path path (path ∷ paths) ≡ true
first_among path paths = rw ((bytes_eq-Decides path path).1 refl) refl

-- each of the paths is one of them
pub each_among : (paths : List Text) → AllByRecursion (λ path. has_path path paths ≡ true) paths
each_among [] = tt
each_among (path ∷ paths) = (
  first_among path paths,
  All-weaker _ _ paths (λ q h. or_right (bytes_eq path q) _ h) (each_among paths),
)

module _ {X : Type 0} where
  pub All-and : (P Q : X → Type 0) (xs : List X) → AllByRecursion P xs → AllByRecursion Q xs → AllByRecursion (λ x. P x × Q x) xs
  All-and P Q [] h g = tt
  All-and P Q (x ∷ xs) h g = ((h.0, g.0), All-and P Q xs h.1 g.1)

not_full : (count next : ℕ) → count < 16 → (nat_le 16 count || nat_lt (2 ^ 48) next) ≡ nat_lt (2 ^ 48) next
not_full count next h = let few : nat_le 16 count ≡ false = grind (arith, common_steps) in rw few refl

same_three : (e a m d h k u v f g : Option Reply) → h ≡ k → u ≡ v → f ≡ g
    → first_answer (e ∷ a ∷ h ∷ u ∷ m ∷ d ∷ f ∷ []) ≡ first_answer (e ∷ a ∷ k ∷ v ∷ m ∷ d ∷ g ∷ [])
same_three e a m d h k u v f g p q r = rw (p, q, r) refl

create_same : (s t : EngineState) (name : Text) (paths : List Text) → s.devices ≡ t.devices → s.next ≡ t.next → holder name s.pools ≡ None → holder name t.pools ≡ None
    → first_used paths s.pools ≡ None → first_used paths t.pools ≡ None → length s.pools < 16 → length t.pools < 16 → create_answer s name paths ≡ create_answer t name paths
unfolding create_answer
create_same s t name paths rows next hs ht us ut ls lt =
    rw (rows, hs, ht, us, ut, not_full (length s.pools) s.next ls, not_full (length t.pools) t.next lt, next) refl

pub create-kind : (name : Text) (devices : List Text) (s : EngineState) (p : PoolState) → IsPlaced s.devices s.pools p → AreThere s.devices p p.mode → length s.pools ≤ 16 → name ≡ p.name
    → flight_of p.mode ≡ Some (CreatePool name devices)
    → AcceptedAlike (plain (state_before s p (CreatePool name devices)) (CreatePool name devices)) (plain (alone_before s.devices p (CreatePool name devices)) (CreatePool name devices))
create-kind name devices s p placed there count on flight =
    let before = state_before s p (CreatePool name devices) in
    let only = alone_before s.devices p (CreatePool name devices) in
    let others = others_of s.devices p s.pools placed.beside in
    let unheld : holder name before.pools ≡ None =
    find_none (holds name) before.pools (All-weaker _ _ before.pools (λ q o. o.names name (subst (λ (n : Text). holds n p ≡ true) (sym on) (holds_own p))) others) in
    let taken = All-and _ _ devices (taken_there s.devices p (CreatePool name devices) p.mode flight there) (each_among devices) in
    let unused : first_used devices before.pools ≡ None =
    find_none _ devices (All-weaker _ _ devices (λ path h. ap is_some (find_none (uses path) before.pools (All-weaker _ _ before.pools (λ q o. o.devices path h.0 (or_right _ _ (ap (takes_path path) flight ∙ h.1))) others))) taken) in
    let free : first_used devices only.pools ≡ None = find_none _ devices (All-weaker _ _ devices (λ path h. refl) taken) in
    let fewer = one_fewer p s.pools placed.among in
    let same = create_same before only name devices refl refl unheld refl unused free (omega (arith, fewer, count)) (omega arith) in
    (same-accepted before only name devices (sym same), same-accepted only before name devices same)
