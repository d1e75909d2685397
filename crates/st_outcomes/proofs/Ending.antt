-- what an end answers
use Rattle.std.proofs.Common.{◌≡◌, Bool, true, false, cond, not, ◌&&◌, List, [], ◌∷◌, map, bytes_eq, unwrap_or, Option, Some, None, is_some, refl, sym, ap, ◌∙◌}
use Rattle.std.specs.Prelude.{◌==◌, length}
use Rattle.std.specs.List.{AllByRecursion}
use Rattle.st_units.specs.declared.rows.DevRow.{DevRow}
use Rattle.st_units.specs.declared.cause.Cause.TheVariants.{DeviceFault, NotEmpty, OutOfMemory, PoolStopped}
use Rattle.st_model.specs.declared.call.Call.TheVariants.{DestroyPool}
use Rattle.st_model.specs.declared.entry.Env.TheVariants.{FaultWrite, Plain}
use Rattle.st_model.specs.declared.reply.Given.TheVariants.{Changed}
use Rattle.st_model.specs.declared.reply.Identity.TheVariants.{Pool}
use Rattle.st_model.specs.declared.reply.Reply.{Reply}
use Rattle.st_model.specs.declared.state.EngineState.{EngineState}
use Rattle.st_model.specs.declared.state.KnownPool.{KnownPool}
use Rattle.st_model.specs.declared.state.PoolMode.{PoolMode}
use Rattle.st_model.specs.declared.state.PoolMode.TheVariants.{Up, Down, Stopped, Unsettled, Incomplete}
use Rattle.st_model.specs.declared.state.PoolState.{PoolState}
use Rattle.st_model.specs.Answer.{accepted, first_answer, refused, refused_where, unless_answered}
use Rattle.st_model.specs.Checks.{down, not_up, worn}
use Rattle.st_model.specs.Flight.{all_but}
use Rattle.st_model.specs.Lifted.{changed}
use Rattle.st_model.specs.Local.{Outcome, where_so}
use Rattle.st_model.specs.Look.{Text, holds, is_called, is_started, is_up}
use Rattle.st_model.specs.Parts.{known, pool_at}
use Rattle.st_model.specs.Shown.{halted_pools}
use Rattle.st_model.specs.Step.{IsLicensed, is_changed, outcome, step, wrote}
use Rattle.st_model.specs.Valid.{Apart}
use Rattle.st_model.specs.ValidPool.{EachPair}
use Rattle.st_model.specs.steps.DestroyPool.{destroy_answers, destroy_found, destroy_pool}
use Rattle.st_cells.proofs.Lookups.{eq_self}
use Rattle.st_beside.specs.Beside.{DestroyBeside, IsAlone}
use Rattle.st_beside.proofs.Beside.{same_in_place}
use Rattle.st_outcomes.specs.Ending.{DestroyOutcomes, EndsAlone, EndsUnseen}

-- ---- where no started pool has the name

unknown : (s : EngineState) (name : Text) → pool_at name s.pools ≡ None → outcome s (DestroyPool name) Plain ≡ Some (accepted (Changed false None), s)
unfolding destroy_pool
unknown s name none = ap (λ (o : Option PoolState). Some (destroy_found s o)) none

idle_answer : (p : PoolState) (m : PoolMode) (rest : List (Option Reply)) → is_started m ≡ false → first_answer (not_up p m ∷ rest) ≡ Some (refused PoolStopped)
idle_answer p Up rest h = absurd cc
idle_answer p (Down call) rest h = absurd cc
idle_answer p Stopped rest h = refl
idle_answer p (Unsettled call) rest h = refl
idle_answer p (Incomplete path) rest h = refl

idle : (s : EngineState) (name : Text) (p : PoolState) → pool_at name s.pools ≡ Some p → is_started p.mode ≡ false → outcome s (DestroyPool name) Plain ≡ Some (refused PoolStopped, s)
unfolding destroy_pool
idle s name p here off =
    ap (λ (o : Option PoolState). Some (destroy_found s o)) here
    ∙ ap (λ (a : Option Reply). Some (unless_answered a s (accepted (Changed true (Some (Pool p.serial))), record s { pools = all_but p.serial s.pools })))
    (idle_answer p p.mode (refused_where (not (length p.filesystems == 0)) (NotEmpty (length p.filesystems)) ∷ worn p ∷ []) off)

-- ---- where the pool is known alone

module _ (law : DestroyBeside) (p : PoolState) (s e : EngineState) (are : IsAlone p s e) where
  abbrev done : EngineState → Reply × EngineState
  done t = (accepted (Changed true (Some (Pool p.serial))), record t { pools = all_but p.serial t.pools })

  here_alone : pool_at p.name e.pools ≡ Some p
  here_alone = ap (pool_at p.name) are.alone ∙ ap (λ (t : Bool). cond t (Some p) None) (eq_self p.name)

  plain_alone : step e (DestroyPool p.name) Plain ≡ unless_answered (first_answer (destroy_answers p)) e (done e)
  unfolding destroy_pool
  plain_alone = ap (λ (o : Option PoolState). destroy_found e o) here_alone

  plain_here : outcome s (DestroyPool p.name) Plain ≡ Some (unless_answered (first_answer (destroy_answers p)) s (done s))
  unfolding destroy_pool
  plain_here = ap (λ (o : Option PoolState). Some (destroy_found s o)) are.here

  -- an answer that keeps the pool leaves it among the pools
  none_left : (a : Option Reply) → unless_answered a e (done e) ≡ (accepted (Changed true (Some (Pool p.serial))), record e { pools = [] }) → a ≡ None
  none_left None k = refl
  none_left (Some reply) k = absurd (let left : e.pools ≡ [] = ap (λ (x : Reply × EngineState). x.1.pools) k in let one = are.alone in cc)

  is_up_then : (m : PoolMode) (rest : List (Option Reply)) → p.mode ≡ m → first_answer (not_up p m ∷ rest) ≡ None → p.mode ≡ Up
  is_up_then Up rest is k = is
  is_up_then (Down call) rest is k = absurd cc
  is_up_then Stopped rest is k = absurd cc
  is_up_then (Unsettled call) rest is k = absurd cc
  is_up_then (Incomplete path) rest is k = absurd cc

  abbrev rest_of : List (Option Reply)
  rest_of = refused_where (not (length p.filesystems == 0)) (NotEmpty (length p.filesystems)) ∷ worn p ∷ []

  ended : step e (DestroyPool p.name) Plain ≡ (accepted (Changed true (Some (Pool p.serial))), record e { pools = [] })
      → (p.mode ≡ Up) × (outcome s (DestroyPool p.name) Plain ≡ Some (accepted (Changed true (Some (Pool p.serial))), record s { pools = all_but p.serial s.pools }))
  ended k =
      let none = none_left (first_answer (destroy_answers p)) (sym plain_alone ∙ k) in
      (is_up_then p.mode rest_of refl none, plain_here ∙ ap (λ (a : Option Reply). Some (unless_answered a s (done s))) none)

  -- a fault on write is met only where the end would have changed something
  abbrev fault : Bool → Outcome
  fault b = where_so b (refused DeviceFault, changed p.name (down (DestroyPool p.name)) e)

  wrote_up : (m : PoolMode) → p.mode ≡ m → is_changed (Some (unless_answered (first_answer (not_up p m ∷ rest_of)) e (done e))) ≡ true → p.mode ≡ Up
  wrote_up Up is k = is
  wrote_up (Down call) is k = absurd (let t : false ≡ true = k in cc)
  wrote_up Stopped is k = absurd (let t : false ≡ true = k in cc)
  wrote_up (Unsettled call) is k = absurd (let t : false ≡ true = k in cc)
  wrote_up (Incomplete path) is k = absurd (let t : false ≡ true = k in cc)

  wrote_is : wrote e (DestroyPool p.name) ≡ is_changed (Some (unless_answered (first_answer (destroy_answers p)) e (done e)))
  unfolding destroy_pool
  wrote_is = ap (λ (o : Option PoolState). is_changed (Some (destroy_found e o))) here_alone

  failed : (q : PoolState) → IsLicensed e (DestroyPool p.name) FaultWrite → (step e (DestroyPool p.name) FaultWrite).1.pools ≡ q ∷ [] → (p.mode ≡ Up) × (q ≡ down (DestroyPool p.name) p)
  failed q licensed became = by (wrote e (DestroyPool p.name)) refl licensed became
    where
      by : (b : Bool) → wrote e (DestroyPool p.name) ≡ b → is_some (fault b) ≡ true → (unwrap_or (fault b) (refused OutOfMemory, e)).1.pools ≡ q ∷ [] → (p.mode ≡ Up) × (q ≡ down (DestroyPool p.name) p)
      by true k l h =
          let is = wrote_up p.mode refl (sym wrote_is ∙ k) in
          let pools : (changed p.name (down (DestroyPool p.name)) e).pools ≡ down (DestroyPool p.name) p ∷ [] =
          ap (λ (ps : List PoolState). (changed p.name (down (DestroyPool p.name)) (record e { pools = ps })).pools) are.alone
          ∙ (ap (λ (m : PoolMode). cond (is_up m && bytes_eq p.name p.name) (down (DestroyPool p.name) p) p ∷ []) is ∙ ap (λ (t : Bool). cond t (down (DestroyPool p.name) p) p ∷ []) (eq_self p.name)) in
          (is, heads (sym h ∙ pools))
        where
          heads : {a b : PoolState} → a ∷ [] ≡ b ∷ [] → a ≡ b
          heads e = cc
      by false k l h = absurd cc

  pub ends_alone : EndsAlone p s e
  ends_alone = record { ended = ended; failed = failed }

pub destroy_outcomes : DestroyBeside → DestroyOutcomes
destroy_outcomes law = record { unknown = unknown; idle = idle; alone = λ p s e are. ends_alone law p s e are }

-- ---- what the table tells

abbrev instead : Text → PoolState → PoolState → PoolState
instead name q x = cond (is_called name x) q x

abbrev Alone : Text → PoolState → List PoolState → Type 0
Alone name p ps = AllByRecursion (λ (x : PoolState). is_called name x ≡ true → x ≡ p) ps

called_holds : (name : Text) (x : PoolState) → is_called name x ≡ true → holds name x ≡ true
called_holds name x e = rw e refl

none_more : (rows : List DevRow) (name : Text) (q p : PoolState) (ps : List PoolState) → is_called name q ≡ true → AllByRecursion (Apart rows q) ps → Alone name p ps
none_more rows name q p [] e h = tt
none_more rows name q p (x ∷ xs) e h = (λ k. absurd (h.0.names name (called_holds name q e) (called_holds name x k)), none_more rows name q p xs e h.1)

-- no other pool has the name
only : (rows : List DevRow) (name : Text) (p : PoolState) (ps : List PoolState) → EachPair (Apart rows) ps → pool_at name ps ≡ Some p → Alone name p ps
only rows name p [] h found = tt
only rows name p (q ∷ qs) h found = here (is_called name q) refl found (only rows name p qs h.1)
  where
    here : (b : Bool) → is_called name q ≡ b → cond b (Some q) (pool_at name qs) ≡ Some p → (pool_at name qs ≡ Some p → Alone name p qs) → Alone name p (q ∷ qs)
    here true k g more = (λ u. cc, none_more rows name q p qs k h.0)
    here false k g more = (λ u. absurd cc, more g)

module _ (name : Text) (p q : PoolState) where
  known_same : known q ≡ known p → (ps : List PoolState) → Alone name p ps → map known (map (instead name q) ps) ≡ map known ps
  known_same e [] h = refl
  known_same e (x ∷ xs) h = here (is_called name x) refl (known_same e xs h.1)
    where
      here : (b : Bool) → is_called name x ≡ b → map known (map (instead name q) xs) ≡ map known xs → known (cond b q x) ∷ map known (map (instead name q) xs) ≡ known x ∷ map known xs
      here true k rest = ap (λ (y : KnownPool). y ∷ map known (map (instead name q) xs)) (e ∙ ap known (sym (h.0 k))) ∙ ap (λ (ys : List KnownPool). known x ∷ ys) rest
      here false k rest = ap (λ (ys : List KnownPool). known x ∷ ys) rest

  stopped_same : is_started q.mode ≡ true → is_started p.mode ≡ true → (ps : List PoolState) → Alone name p ps → halted_pools (map (instead name q) ps) ≡ halted_pools ps
  stopped_same up was [] h = refl
  stopped_same up was (x ∷ xs) h = here (is_called name x) refl (stopped_same up was xs h.1)
    where
      here : (b : Bool) → is_called name x ≡ b → halted_pools (map (instead name q) xs) ≡ halted_pools xs
          → cond (not (is_started (cond b q x).mode)) (cond b q x ∷ halted_pools (map (instead name q) xs)) (halted_pools (map (instead name q) xs)) ≡ cond (not (is_started x.mode)) (x ∷ halted_pools xs) (halted_pools xs)
      here true k rest =
          ap (λ (t : Bool). cond (not t) (q ∷ halted_pools (map (instead name q) xs)) (halted_pools (map (instead name q) xs))) up
          ∙ (rest ∙ sym (ap (λ (t : Bool). cond (not t) (x ∷ halted_pools xs) (halted_pools xs)) (ap (λ (y : PoolState). is_started y.mode) (h.0 k) ∙ was)))
      here false k rest = ap (λ (ys : List PoolState). cond (not (is_started x.mode)) (x ∷ ys) ys) rest

down_known : (p : PoolState) (m : PoolMode) → p.mode ≡ m → m ≡ Up → known (down (DestroyPool p.name) p) ≡ known p
down_known p m e u = sym (ap (λ (n : PoolMode). known (record p { mode = n })) (e ∙ u))

pub ends_unseen : EndsUnseen
ends_unseen s p valid here = record {
  same = same_in_place s p valid here;
  failed = λ up.
      let q : PoolState = down (DestroyPool p.name) p in
      let alone = only s.devices p.name p s.pools valid.apart here in
      let was : is_started p.mode ≡ true = ap is_started up in
      ap (λ (ks : List KnownPool). record { names = ks; stopped = halted_pools (map (instead p.name q) s.pools); devices = s.devices; next = s.next }) (known_same p.name p q (down_known p p.mode refl up) s.pools alone)
      ∙ ap (λ (ps : List PoolState). record { names = map known s.pools; stopped = ps; devices = s.devices; next = s.next }) (stopped_same p.name p q refl was s.pools alone);
}
