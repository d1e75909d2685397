-- what a pool becomes in a rename, alone and beside others
use Rattle.std.proofs.Common.{◌≡◌, ◌&&◌, ◌⊎◌, inl, inr, List, [], ◌∷◌, Bool, true, false, cond, bytes_eq, map, Option, Some, None, is_some, unwrap_or, refl, sym, ap, subst, ◌∙◌}
use Rattle.std.specs.Prelude.{◌==◌}
use Rattle.std.proofs.lemmas.Slice.Eq.{bytes_eq-Decides}
use Rattle.st_limits.specs.declared.TheConstants.{MAX_COMMITS}
use Rattle.st_units.specs.declared.cause.Cause.TheVariants.{DeviceFault, NameInUse, OutOfMemory, Worn}
use Rattle.st_model.specs.declared.call.Call.TheVariants.{RenamePool}
use Rattle.st_model.specs.declared.entry.Env.{Env}
use Rattle.st_model.specs.declared.entry.Env.TheVariants.{Plain, NoMem, FaultRead, FaultWrite, After, Before}
use Rattle.st_model.specs.declared.reply.Given.TheVariants.{Changed}
use Rattle.st_model.specs.declared.reply.Identity.TheVariants.{Pool}
use Rattle.st_model.specs.declared.reply.Reply.{Reply}
use Rattle.st_model.specs.declared.state.EngineState.{EngineState}
use Rattle.st_model.specs.declared.state.PoolMode.{PoolMode}
use Rattle.st_model.specs.declared.state.PoolMode.TheVariants.{Up, Down, Stopped, Unsettled, Incomplete}
use Rattle.st_model.specs.declared.state.PoolState.{PoolState}
use Rattle.st_model.specs.Answer.{accepted, first_answer, refused, refused_where, unless_answered}
use Rattle.st_model.specs.Checks.{down, not_up}
use Rattle.st_model.specs.Lifted.{changed}
use Rattle.st_model.specs.Local.{Outcome, where_so}
use Rattle.st_model.specs.Look.{Text, flight_of, gives_name, holder, holds, is_called, is_started, is_up, uses}
use Rattle.st_model.specs.Parts.{pool_at}
use Rattle.st_model.specs.Plain.{plain}
use Rattle.st_model.specs.Step.{IsLicensed, is_changed, is_ok, outcome, step}
use Rattle.st_model.specs.Valid.{IsValid}
use Rattle.st_model.specs.steps.RenamePool.{rename_found, rename_pool, renamed}
use Rattle.st_model.proofs.Validity.{step-keeps}
use Rattle.st_beside.specs.Beside.{IsAlone, RenameBeside, beside}
use Rattle.st_beside.proofs.Beside.{not_held}
use Rattle.st_table.specs.Steps.{with_other}

-- nothing, or the renamed pool; after a fault the pool with the call in flight
pub data Becomes (p : PoolState) (new : Text) (env : Env) (q : PoolState) : Type 0 where
  Still : (env ≡ FaultWrite → ⊥) → q ≡ p → Becomes p new env q
  Renamed : env ≡ Plain → p.mode ≡ Up → q ≡ renamed new p → Becomes p new env q
  Failed : env ≡ FaultWrite → p.mode ≡ Up → q ≡ down (RenamePool p.name new) p → Becomes p new env q

only : (p q : PoolState) → p ∷ [] ≡ q ∷ [] → q ≡ p
only p q e = cc

called_self : (name : Text) → bytes_eq name name ≡ true
called_self name = (bytes_eq-Decides name name).1 refl

and_false : (b : Bool) → (b && false) ≡ false
and_false true = refl
and_false false = refl

module _ (p : PoolState) (new : Text) (e : EngineState) (alone : e.pools ≡ p ∷ []) where
  found : pool_at p.name e.pools ≡ Some p
  found = ap (pool_at p.name) alone ∙ ap (λ (t : Bool). cond t (Some p) None) (called_self p.name)

  abbrev answers : Bool → Bool → Bool → PoolMode → Option Reply
  answers same held spent m = first_answer (cond same (Some (accepted (Changed false None))) None ∷ refused_where held NameInUse ∷ not_up p m ∷ refused_where spent Worn ∷ [])

  abbrev moved : Reply × EngineState
  moved = (accepted (Changed true (Some (Pool p.serial))), changed p.name (renamed new) e)

  abbrev held_here : Bool
  held_here = is_some (holder new e.pools)

  abbrev is_spent : Bool
  is_spent = p.commits == MAX_COMMITS

  plain_is : plain e (RenamePool p.name new) ≡ Some (unless_answered (answers (bytes_eq p.name new) held_here is_spent p.mode) e moved)
  unfolding rename_pool
  plain_is = ap (λ (o : Option PoolState). Some (rename_found e p.name new o)) found

  -- the pool alone, changed where it is up
  changed_is : (g : PoolState → PoolState) → p.mode ≡ Up → (changed p.name g e).pools ≡ g p ∷ []
  changed_is g up =
      ap (λ (ps : List PoolState). map (λ (q : PoolState). cond (is_up q.mode && is_called p.name q) (g q) q) ps) alone
      ∙ ap (λ (t : Bool). cond t (g p) p ∷ []) (ap (λ (m : PoolMode). is_up m && bytes_eq p.name p.name) up ∙ called_self p.name)

  module _ (q : PoolState) where
    after_plain : (same held spent : Bool) (m : PoolMode) → p.mode ≡ m → (unless_answered (answers same held spent m) e moved).1.pools ≡ q ∷ [] → Becomes p new Plain q
    after_plain true held spent m is k = Still (λ (x : Plain ≡ FaultWrite). cc) (only p q (sym alone ∙ k))
    after_plain false true spent m is k = Still (λ (x : Plain ≡ FaultWrite). cc) (only p q (sym alone ∙ k))
    after_plain false false true Up is k = Still (λ (x : Plain ≡ FaultWrite). cc) (only p q (sym alone ∙ k))
    after_plain false false false Up is k = Renamed refl is (only (renamed new p) q (sym (changed_is (renamed new) is) ∙ k))
    after_plain false false spent (Down call) is k = Still (λ (x : Plain ≡ FaultWrite). cc) (only p q (sym alone ∙ k))
    after_plain false false spent Stopped is k = Still (λ (x : Plain ≡ FaultWrite). cc) (only p q (sym alone ∙ k))
    after_plain false false spent (Unsettled call) is k = Still (λ (x : Plain ≡ FaultWrite). cc) (only p q (sym alone ∙ k))
    after_plain false false spent (Incomplete path) is k = Still (λ (x : Plain ≡ FaultWrite). cc) (only p q (sym alone ∙ k))

    no_change : false ≡ true → ⊥
    no_change k = absurd cc

    changed_up : (same held spent : Bool) (m : PoolMode) → p.mode ≡ m → is_changed (Some (unless_answered (answers same held spent m) e moved)) ≡ true → p.mode ≡ Up
    changed_up true held spent m is k = absurd (no_change k)
    changed_up false true spent m is k = absurd (no_change k)
    changed_up false false spent Up is k = is
    changed_up false false spent (Down call) is k = absurd (no_change k)
    changed_up false false spent Stopped is k = absurd (no_change k)
    changed_up false false spent (Unsettled call) is k = absurd (no_change k)
    changed_up false false spent (Incomplete path) is k = absurd (no_change k)

    abbrev failed_here : Reply × EngineState
    failed_here = (refused DeviceFault, changed p.name (down (RenamePool p.name new)) e)

    after_fault : (b : Bool) → is_changed (plain e (RenamePool p.name new)) ≡ b → is_some (where_so b failed_here) ≡ true → (unwrap_or (where_so b failed_here) (refused OutOfMemory, e)).1.pools ≡ q ∷ [] → Becomes p new FaultWrite q
    after_fault true c lic k =
        let up : p.mode ≡ Up = changed_up (bytes_eq p.name new) held_here is_spent p.mode refl (ap is_changed (sym plain_is) ∙ c) in
        Failed refl up (only (down (RenamePool p.name new) p) q (sym (changed_is (down (RenamePool p.name new)) up) ∙ k))
    after_fault false c lic k = absurd (no_change lic)

    not_read : (b : Bool) → b ≡ false → is_some (where_so b (refused DeviceFault, e)) ≡ true → ⊥
    not_read b none lic = no_change (ap (λ (t : Bool). is_some (where_so t (refused DeviceFault, e))) (sym none) ∙ lic)

    pub becomes : (env : Env) → IsLicensed e (RenamePool p.name new) env → (step e (RenamePool p.name new) env).1.pools ≡ q ∷ [] → Becomes p new env q
    becomes Plain lic k = after_plain (bytes_eq p.name new) held_here is_spent p.mode refl (ap (λ (o : Outcome). (unwrap_or o (refused OutOfMemory, e)).1.pools) (sym plain_is) ∙ k)
    becomes NoMem lic k = Still (λ (x : NoMem ≡ FaultWrite). cc) (only p q (sym alone ∙ k))
    becomes FaultRead lic k = absurd (not_read (is_ok (plain e (RenamePool p.name new)) && false) (and_false (is_ok (plain e (RenamePool p.name new)))) lic)
    becomes FaultWrite lic k = after_fault (is_changed (plain e (RenamePool p.name new))) refl lic k
    becomes After lic k = absurd (no_change lic)
    becomes (Before bytes) lic k = absurd (no_change lic)

-- ---- beside the others

none_called : (name : Text) (ps : List PoolState) → holder name ps ≡ None → pool_at name ps ≡ None
none_called name [] h = refl
none_called name (p ∷ ps) h = here (is_called name p) refl h (none_called name ps)
  where
    here : (b : Bool) → is_called name p ≡ b → cond (Rattle.std.specs.Prelude.◌||◌ b (gives_name name (flight_of p.mode))) (Some p) (holder name ps) ≡ None → (holder name ps ≡ None → pool_at name ps ≡ None) → cond b (Some p) (pool_at name ps) ≡ None
    here true e k rest = absurd cc
    here false e k rest = rest (behind (gives_name name (flight_of p.mode)) k)
      where
        behind : (c : Bool) → cond c (Some p) (holder name ps) ≡ None → holder name ps ≡ None
        behind true k = absurd cc
        behind false k = k

-- it isn't the pool's own name, nor one that a rename in flight gives it
or_second : (a b : Bool) → Rattle.std.specs.Prelude.◌||◌ a b ≡ false → b ≡ false
or_second true b h = absurd cc
or_second false b h = h

module _ (s : EngineState) (p : PoolState) (new : Text) (valid : IsValid s) (here : pool_at p.name s.pools ≡ Some p) (free : holder new s.pools ≡ None) where
  -- the pool may be asked for the name
  pub not_given : gives_name new (flight_of p.mode) ≡ false
  not_given = or_second (is_called new p) (gives_name new (flight_of p.mode)) (not_held new p s.pools p.name here free)

  module _ (law : RenameBeside) (e : EngineState) (alone : e.pools ≡ p ∷ []) (env : Env) (reply : Reply) (q : PoolState) (licensed : IsLicensed e (RenamePool p.name new) env)
      (replied : reply ≡ (step e (RenamePool p.name new) env).0) (becomes_q : (step e (RenamePool p.name new) env).1.pools ≡ q ∷ []) where
    pub besides : outcome s (RenamePool p.name new) env ≡ beside p s (outcome e (RenamePool p.name new) env)
    besides = law p s e new env (record { valid = valid; here = here; alone = alone }) (inr free)

    comes : (o : Outcome) → is_some o ≡ true → reply ≡ (unwrap_or o (refused OutOfMemory, e)).0 → (unwrap_or o (refused OutOfMemory, e)).1.pools ≡ q ∷ [] → beside p s o ≡ Some (reply, with_other p.name q s)
    comes None k r b = absurd cc
    comes (Some a) k r b = ap (λ (x : Reply). Some (x, Rattle.st_beside.specs.Beside.put_back p a.1.pools s)) (sym r) ∙ ap (λ (ps : List PoolState). Some (reply, Rattle.st_beside.specs.Beside.put_back p ps s)) b

    out_is : outcome s (RenamePool p.name new) env ≡ Some (reply, with_other p.name q s)
    out_is = besides ∙ comes (outcome e (RenamePool p.name new) env) licensed replied becomes_q

    pub state_is : (step s (RenamePool p.name new) env).1 ≡ with_other p.name q s
    state_is = ap (λ (o : Outcome). (unwrap_or o (refused OutOfMemory, s)).1) out_is

    pub valid_after : IsValid (with_other p.name q s)
    valid_after = subst IsValid state_is (step-keeps s (RenamePool p.name new) env valid)

    pub becomes_so : Becomes p new env q
    becomes_so = becomes p new e alone q env licensed becomes_q

  pub name_free : (env : Env) (q : PoolState) → Becomes p new env q → (q.name ≡ p.name) ⊎ (pool_at q.name s.pools ≡ None)
  name_free env q (Still calm is) = inl (ap (λ (x : PoolState). x.name) is)
  name_free env q (Renamed plain up is) = inr (ap (λ (x : PoolState). pool_at x.name s.pools) is ∙ none_called new s.pools free)
  name_free env q (Failed fault up is) = inl (ap (λ (x : PoolState). x.name) is)

pub still_started : (p : PoolState) (new : Text) (env : Env) (q : PoolState) → is_started p.mode ≡ true → Becomes p new env q → is_started q.mode ≡ true
still_started p new env q up (Still calm is) = ap (λ (x : PoolState). is_started x.mode) is ∙ up
still_started p new env q up (Renamed plain mode is) = ap (λ (x : PoolState). is_started x.mode) is ∙ up
still_started p new env q up (Failed fault mode is) = ap (λ (x : PoolState). is_started x.mode) is

pub same_serial : (p : PoolState) (new : Text) (env : Env) (q : PoolState) → Becomes p new env q → q.serial ≡ p.serial
same_serial p new env q (Still calm is) = ap (λ (x : PoolState). x.serial) is
same_serial p new env q (Renamed plain mode is) = ap (λ (x : PoolState). x.serial) is
same_serial p new env q (Failed fault mode is) = ap (λ (x : PoolState). x.serial) is

pub same_uses : (p : PoolState) (new : Text) (env : Env) (q : PoolState) → Becomes p new env q → (path : Text) → uses path q ≡ uses path p
same_uses p new env q (Still calm is) path = ap (uses path) is
same_uses p new env q (Renamed plain mode is) path = ap (uses path) is
same_uses p new env q (Failed fault mode is) path =
    ap (uses path) is ∙ sym (ap (λ (m : PoolMode). Rattle.std.specs.Prelude.◌||◌ (is_some (Rattle.st_model.specs.Look.row_of path p.devices)) (Rattle.st_model.specs.Look.takes_path path (flight_of m))) mode)
