-- a call within a pool, as the program runs it
use Rattle.std.proofs.Common.{◌≡◌, ◌&&◌, ◌||◌, ◌⊎◌, ℕ, inl, inr, List, [], ◌∷◌, Bool, true, false, cond, map, filter, find, Some, None, slice_get, slice_set, refl, sym, ap, subst, ◌∙◌}
use Rattle.std.specs.List.{AllByRecursion, list_any}
use Rattle.std.proofs.lemmas.Slice.Eq.{bytes_eq-Decides}
use Rattle.st_units.specs.declared.cause.Cause.TheVariants.{Maintenance, NoSuchPool, PoolStopped}
use Rattle.st_units.specs.declared.rows.DevRow.{DevRow}
use Rattle.st_model.specs.declared.reply.Reply.{Reply}
use Rattle.st_model.specs.declared.state.EngineState.{EngineState}
use Rattle.st_model.specs.declared.state.PoolMode.{PoolMode}
use Rattle.st_model.specs.declared.state.PoolMode.TheVariants.{Up, Down, Stopped, Unsettled, Incomplete}
use Rattle.st_model.specs.declared.state.PoolState.{PoolState}
use Rattle.st_model.specs.Answer.{refused}
use Rattle.st_model.specs.Checks.{not_up}
use Rattle.st_model.specs.Lifted.{Doing, answer_in, answer_of, changed, is_known, on_pool, one_changed, runs_as}
use Rattle.st_model.specs.Look.{Text, is_called, is_started, is_up}
use Rattle.st_model.specs.Parts.{own, pool_at}
use Rattle.st_model.specs.Valid.{Apart, IsValid}
use Rattle.st_model.specs.ValidPool.{IsValidIn, IsValidPool, IsWhole}
use Rattle.st_model.proofs.Among.{IsBeside, IsPlaced, all_placed, holds_own, own_now}
use Rattle.st_model.proofs.Flights.{find_none, found-holds}
use Rattle.st_model.proofs.Kept.{own_of, up_mode}
use Rattle.st_model.proofs.Lists.{All-filter, found_passes, none_found}
use Rattle.st_within.proofs.Singly.{put_at}

no_any : (name : Text) (ps : List PoolState) → AllByRecursion (λ (p : PoolState). is_called name p ≡ false) ps → list_any (is_called name) ps ≡ false
no_any name [] h = refl
no_any name (p ∷ ps) h = rw h.0 (no_any name ps h.1)

any_found : (name : Text) (ps : List PoolState) (p : PoolState) → find (is_called name) ps ≡ Some p → list_any (is_called name) ps ≡ true
any_found name [] p h = absurd cc
any_found name (q ∷ ps) p h = here (is_called name q) h (any_found name ps p)
  where
    here : (b : Bool) → cond b (Some q) (find (is_called name) ps) ≡ Some p → (find (is_called name) ps ≡ Some p → list_any (is_called name) ps ≡ true) → (b || list_any (is_called name) ps) ≡ true
    here true h f = refl
    here false h f = f h

stays : (name : Text) (g : PoolState → PoolState) (p : PoolState) → (is_up p.mode ≡ false) ⊎ (is_called name p ≡ false) → one_changed name g p ≡ p
stays name g p (inl h) = rw h refl
stays name g p (inr h) = here (is_up p.mode)
  where
    here : (a : Bool) → cond (a && is_called name p) (g p) p ≡ p
    here true = rw h refl
    here false = refl

all_stay : (name : Text) (g : PoolState → PoolState) (ps : List PoolState) → AllByRecursion (λ (p : PoolState). is_called name p ≡ false) ps → map (one_changed name g) ps ≡ ps
all_stay name g [] h = refl
all_stay name g (p ∷ ps) h = rw (stays name g p (inr h.0), all_stay name g ps h.1) refl

none_left : (a b : Bool) → (a || b) ≡ false → a ≡ false
none_left true b h = absurd cc
none_left false b h = refl

off : (rows : List DevRow) (p q : PoolState) → IsBeside rows p q → (q ≡ p) ⊎ (is_called p.name q ≡ false)
off rows p q (inl e) = inl e
off rows p q (inr o) = inr (none_left (is_called p.name q) _ (o.names p.name (holds_own p)))

-- a pool that isn't up stays, and so does each other pool
pub idle_stay : (rows : List DevRow) (p : PoolState) (g : PoolState → PoolState) (ps : List PoolState) → AllByRecursion (IsBeside rows p) ps → is_up p.mode ≡ false → map (one_changed p.name g) ps ≡ ps
idle_stay rows p g [] h e = refl
idle_stay rows p g (q ∷ ps) h e = rw (stays p.name g q (here (off rows p q h.0)), idle_stay rows p g ps h.1 e) refl
  where
    here : (q ≡ p) ⊎ (is_called p.name q ≡ false) → (is_up q.mode ≡ false) ⊎ (is_called p.name q ≡ false)
    here (inl s) = inl (rw s e)
    here (inr h) = inr h

skip : (rows : List DevRow) (p : PoolState) (b : Bool) (q : PoolState) (ps : List PoolState) → is_called p.name q ≡ false → find (is_called p.name) (cond b (q ∷ ps) ps) ≡ find (is_called p.name) ps
skip rows p true q ps h = rw h refl
skip rows p false q ps h = refl

-- a pool that isn't started is no started pool of its name, nor is another
own_none : (rows : List DevRow) (p : PoolState) (ps : List PoolState) → AllByRecursion (IsBeside rows p) ps → is_started p.mode ≡ false → find (is_called p.name) (filter (λ (x : PoolState). is_started x.mode) ps) ≡ None
own_none rows p [] h e = refl
own_none rows p (q ∷ ps) h e = here (off rows p q h.0) (own_none rows p ps h.1 e)
  where
    here : (q ≡ p) ⊎ (is_called p.name q ≡ false) → find (is_called p.name) (filter (λ (x : PoolState). is_started x.mode) ps) ≡ None → find (is_called p.name) (filter (λ (x : PoolState). is_started x.mode) (q ∷ ps)) ≡ None
    here (inl s) rest = let dropped : is_started q.mode ≡ false = rw s e in rw dropped rest
    here (inr h) rest = skip rows p (is_started q.mode) q (filter (λ (x : PoolState). is_started x.mode) ps) h ∙ rest

or_left : (a b : Bool) → a ≡ true → (a || b) ≡ true
or_left true b h = refl
or_left false b h = absurd cc

both : (a b : Bool) → (a && b) ≡ true → b ≡ true
both true true h = refl
both true false h = absurd cc
both false b h = absurd cc

-- no two pools are up and of one name
one_runs : (rows : List DevRow) (name : Text) (a b : PoolState) → Apart rows a b → runs_as name a ≡ true → runs_as name b ≡ true → ⊥
one_runs rows name a b h x y =
    h.names name (or_left (is_called name a) _ (both (is_up a.mode) (is_called name a) x)) (or_left (is_called name b) _ (both (is_up b.mode) (is_called name b) y))

module _ (s : EngineState) (name : Text) where
  pub unknown_stay : (g : PoolState → PoolState) → pool_at name s.pools ≡ None → changed name g s ≡ s
  unknown_stay g h = ap (λ (l : List PoolState). record s { pools = l }) (all_stay name g s.pools (none_found (is_called name) s.pools h))

  pub unknown_on : (f : Doing) → pool_at name s.pools ≡ None → (refused NoSuchPool, s) ≡ on_pool name f s
  unfolding on_pool
  unknown_on f h =
      let off = none_found (is_called name) s.pools h in
      let no_one : is_known name s ≡ false = no_any name s.pools off in
      let nothing : own name s ≡ None = find_none (is_called name) _ (All-filter _ (λ (x : PoolState). is_started x.mode) s.pools off) in
      sym (rw (no_one, nothing, all_stay name (λ p. (f p).1) s.pools off) refl)

module _ (s : EngineState) (name : Text) (p : PoolState) (v : IsValid s) (at : pool_at name s.pools ≡ Some p) where
  placed : IsPlaced s.devices s.pools p
  placed = found-holds (IsPlaced s.devices s.pools) (is_called name) s.pools p (all_placed s.devices s.pools v.apart) at

  named : p.name ≡ name
  named = (bytes_eq-Decides p.name name).0 (found_passes (is_called name) s.pools p at)

  up_now : (m : PoolMode) → not_up p m ≡ None → is_up m ≡ true
  up_now Up h = refl
  up_now (Down call) h = absurd cc
  up_now Stopped h = absurd cc
  up_now (Unsettled call) h = absurd cc
  up_now (Incomplete path) h = absurd cc

  runs : not_up p p.mode ≡ None → runs_as name p ≡ true
  runs h = rw (up_now p.mode h, found_passes (is_called name) s.pools p at) refl

  pub whole_now : not_up p p.mode ≡ None → IsWhole p
  whole_now none =
      subst (λ (m : PoolMode). IsValidIn p m) (up_mode p.mode (up_now p.mode none)) (found-holds (IsValidPool s.next) (is_called name) s.pools p v.pools at).state

  pub put_changed : (g : PoolState → PoolState) (i : ℕ) → slice_get s.pools i ≡ Some p → not_up p p.mode ≡ None → record s { pools = slice_set s.pools i (g p) } ≡ changed name g s
  put_changed g i h none = ap (λ (l : List PoolState). record s { pools = l }) (sym (put_at (Apart s.devices) (runs_as name) (one_runs s.devices name) g s.pools i p v.apart h (runs none)))

  idle : (g : PoolState → PoolState) → is_up p.mode ≡ false → map (one_changed name g) s.pools ≡ s.pools
  idle g e = subst (λ (n : Text). map (one_changed n g) s.pools ≡ s.pools) named (idle_stay s.devices p g s.pools placed.beside e)

  pub idle_changed : (g : PoolState → PoolState) → is_up p.mode ≡ false → s ≡ changed name g s
  idle_changed g off = sym (ap (λ (l : List PoolState). record s { pools = l }) (idle g off))

  mine : is_started p.mode ≡ true → own name s ≡ Some p
  mine e = subst (λ (n : Text). own n s ≡ Some p) named (own_now s.devices p s.pools placed.beside placed.among e)

  nobody : is_started p.mode ≡ false → own name s ≡ None
  nobody e = subst (λ (n : Text). own n s ≡ None) named (own_none s.devices p s.pools placed.beside e)

  module _ (f : Doing) where
    pub idle_on : (reply : Reply) → not_up p p.mode ≡ Some reply → (reply, s) ≡ on_pool name f s
    unfolding on_pool
    idle_on reply h = here p.mode refl h
      where
        halts : is_started p.mode ≡ false → is_up p.mode ≡ false → Some (refused PoolStopped) ≡ Some reply → ◌≡◌ {A = Reply × EngineState} (reply, s) (answer_of (λ q. (f q).0) (is_known name s) (own name s), changed name (λ q. (f q).1) s)
        halts e u r =
            let said : refused PoolStopped ≡ reply = cc in
            ap (λ (x : Reply). (x, s)) (sym said) ∙ sym (rw (any_found name s.pools p at, nobody e, idle (λ q. (f q).1) u) refl)

        here : (m : PoolMode) → p.mode ≡ m → not_up p m ≡ Some reply → ◌≡◌ {A = Reply × EngineState} (reply, s) (answer_of (λ q. (f q).0) (is_known name s) (own name s), changed name (λ q. (f q).1) s)
        here Up e r = absurd cc
        here (Down call) e r =
            let said : refused (Maintenance p.name) ≡ reply = cc in
            let on : is_started p.mode ≡ true = rw e refl in
            let off : is_up p.mode ≡ false = rw e refl in
            ap (λ (x : Reply). (x, s)) (sym said ∙ sym (ap (answer_of (λ q. (f q).0) (is_known name s)) (mine on) ∙ ap (answer_in (λ q. (f q).0) p) e))
            ∙ ap (λ (t : EngineState). (answer_of (λ q. (f q).0) (is_known name s) (own name s), t)) (idle_changed (λ q. (f q).1) off)
        here Stopped e r = halts (rw e refl) (rw e refl) r
        here (Unsettled call) e r = halts (rw e refl) (rw e refl) r
        here (Incomplete path) e r = halts (rw e refl) (rw e refl) r

    pub run_on : (i : ℕ) → slice_get s.pools i ≡ Some p → not_up p p.mode ≡ None → ((f p).0, record s { pools = slice_set s.pools i (f p).1 }) ≡ on_pool name f s
    unfolding on_pool
    run_on i h none =
        let o = own_of s name p placed (runs none) in
        ap (λ (x : Reply). (x, record s { pools = slice_set s.pools i (f p).1 })) (sym (ap (answer_of (λ q. (f q).0) (is_known name s)) o.own ∙ ap (answer_in (λ q. (f q).0) p) o.is_up))
        ∙ ap (λ (t : EngineState). (answer_of (λ q. (f q).0) (is_known name s) (own name s), t)) (put_changed (λ q. (f q).1) i h none)

up_is : (p : PoolState) (m : PoolMode) → is_up m ≡ true → not_up p m ≡ None
up_is p Up h = refl
up_is p (Down call) h = absurd cc
up_is p Stopped h = absurd cc
up_is p (Unsettled call) h = absurd cc
up_is p (Incomplete path) h = absurd cc

-- a pool that is up is changed in its place
pub up_changed : (s : EngineState) (name : Text) (p : PoolState) → IsValid s → pool_at name s.pools ≡ Some p → (g : PoolState → PoolState) (i : ℕ) → slice_get s.pools i ≡ Some p → is_up p.mode ≡ true
    → record s { pools = slice_set s.pools i (g p) } ≡ changed name g s
up_changed s name p v at g i h up = put_changed s name p v at g i h (up_is p p.mode up)
