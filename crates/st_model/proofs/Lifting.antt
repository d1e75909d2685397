-- what is done within one pool is local
use Rattle.std.proofs.Common.{◌≡◌, [], ◌∷◌, Bool, true, false, ◌&&◌, ◌||◌, not, cond, map, option_map, bytes_eq, refl, sym, ap, ◌∙◌, subst}
use Rattle.std.specs.List.{list_any}
use Rattle.std.proofs.lemmas.Slice.Eq.{bytes_eq-Decides}
use Rattle.st_wants.specs.Names.{is_named}
use Rattle.st_model.specs.declared.state.EngineState.{EngineState}
use Rattle.st_model.specs.declared.state.KnownPool.{KnownPool}
use Rattle.st_model.specs.declared.state.PoolMode.{PoolMode}
use Rattle.st_model.specs.declared.state.PoolMode.TheVariants.{Up, Down, Stopped, Unsettled, Incomplete}
use Rattle.st_model.specs.declared.state.PoolState.{PoolState}
use Rattle.st_model.specs.declared.state.TableState.{TableState}
use Rattle.st_model.specs.Look.{Text, is_called, is_up, is_started}
use Rattle.st_model.specs.Parts.{known, pool_at, started, table_of, AgreeOn, own}
use Rattle.st_model.specs.Local.{Leaves}
use Rattle.st_model.specs.Lifted.{Doing, IsWithin, Keeps, runs_as, one_changed, changed, is_known, answer_of, on_pool, LiftedIsLocal}
use Rattle.st_model.proofs.Mapped.{filter_map, filter_same, find_map, find_unchanged, map_same, any_map}

up_mode : (m : PoolMode) → is_up m ≡ true → m ≡ Up
up_mode Up h = refl
up_mode (Down call) h = absurd cc
up_mode Stopped h = absurd cc
up_mode (Unsettled call) h = absurd cc
up_mode (Incomplete path) h = absurd cc

both : (a b : Bool) → (a && b) ≡ true → (a ≡ true) × (b ≡ true)
both true true h = (refl, refl)
both true false h = absurd cc
both false b h = absurd cc

up_started : (m : PoolMode) → m ≡ Up → is_started m ≡ true
up_started m h = rw h refl

-- what each pool keeps
pub one_known : (name : Text) (g : PoolState → PoolState) → Keeps g → (p : PoolState) → known (one_changed name g p) ≡ known p
one_known name g keeps p = here (runs_as name p) refl
  where
    here : (b : Bool) → runs_as name p ≡ b → known (cond b (g p) p) ≡ known p
    here true e = (keeps p (up_mode p.mode (both (is_up p.mode) (is_called name p) e).0)).known
    here false e = refl

pub one_started : (name : Text) (g : PoolState → PoolState) → Keeps g → (p : PoolState) → is_started (one_changed name g p).mode ≡ is_started p.mode
one_started name g keeps p = here (runs_as name p) refl
  where
    here : (b : Bool) → runs_as name p ≡ b → is_started (cond b (g p) p).mode ≡ is_started p.mode
    here true e = let up = up_mode p.mode (both (is_up p.mode) (is_called name p) e).0 in (keeps p up).started ∙ sym (up_started p.mode up)
    here false e = refl

one_called : (name : Text) (g : PoolState → PoolState) → Keeps g → (n : Text) (p : PoolState) → is_called n (one_changed name g p) ≡ is_called n p
one_called name g keeps n p = ap (λ (k : KnownPool). bytes_eq k.name n) (one_known name g keeps p)

halted_stays : (name : Text) (g : PoolState → PoolState) (p : PoolState) → not (is_started p.mode) ≡ true → one_changed name g p ≡ p
halted_stays name g p h = here p.mode refl h
  where
    here : (m : PoolMode) → p.mode ≡ m → not (is_started m) ≡ true → cond (is_up m && is_called name p) (g p) p ≡ p
    here Up e h = absurd cc
    here (Down call) e h = absurd cc
    here Stopped e h = refl
    here (Unsettled call) e h = refl
    here (Incomplete path) e h = refl

-- a pool of another name stays
other_stays : (name : Text) (g : PoolState → PoolState) (n : Text) → bytes_eq n name ≡ false → (p : PoolState) → is_called n p ≡ true → one_changed name g p ≡ p
other_stays name g n ne p h =
    let same : p.name ≡ n = (bytes_eq-Decides p.name n).0 h in
    let off : is_called name p ≡ false = rw same ne in
    here (is_up p.mode) (is_called name p) off
  where
    here : (a b : Bool) → b ≡ false → cond (a && b) (g p) p ≡ p
    here true b h = rw h refl
    here false b h = refl

pub table_stays : (name : Text) (g : PoolState → PoolState) → Keeps g → (s : EngineState) → table_of (changed name g s) ≡ table_of s
table_stays name g keeps s =
    let names : map known (map (one_changed name g) s.pools) ≡ map known s.pools = map_same known (one_changed name g) s.pools (one_known name g keeps) in
    let stopped = filter_same (λ (p : PoolState). not (is_started p.mode)) (one_changed name g) s.pools (λ p. ap not (one_started name g keeps p)) (halted_stays name g) in
    rw (names, stopped) refl

started_map : (name : Text) (g : PoolState → PoolState) → Keeps g → (s : EngineState) → started (changed name g s) ≡ map (one_changed name g) (started s)
started_map name g keeps s = filter_map (λ (p : PoolState). is_started p.mode) (one_changed name g) s.pools (one_started name g keeps)

pub own_changed : (name : Text) (g : PoolState → PoolState) → Keeps g → (n : Text) (s : EngineState) → own n (changed name g s) ≡ option_map (one_changed name g) (own n s)
own_changed name g keeps n s = ap (pool_at n) (started_map name g keeps s) ∙ find_map (is_called n) (one_changed name g) (started s) (one_called name g keeps n)

self : (name : Text) → bytes_eq name name ≡ true
self name = (bytes_eq-Decides name name).1 refl

or_false : (b : Bool) → b ≡ true → (b || false) ≡ true
or_false true h = refl
or_false false h = absurd cc

neither : (b : Bool) → (b || false) ≡ false → b ≡ false
neither true h = absurd cc
neither false h = refl

-- a name is one of itself
pub named_self : (name : Text) → is_named (name ∷ []) name ≡ true
named_self name = or_false (bytes_eq name name) (self name)

same_differ : (p q : Text) → bytes_eq p q ≡ false → bytes_eq q p ≡ false
same_differ p q h = here (bytes_eq q p) refl
  where
    clash : (b : Bool) → b ≡ false → b ≡ true → true ≡ false
    clash b h g = sym g ∙ h

    here : (b : Bool) → bytes_eq q p ≡ b → b ≡ false
    here false e = refl
    here true e = let same : q ≡ p = (bytes_eq-Decides q p).0 e in clash (bytes_eq p q) h (subst (λ (m : Text). bytes_eq p m ≡ true) (sym same) (self p))

pub not_named : (name n : Text) → is_named (name ∷ []) n ≡ false → bytes_eq n name ≡ false
not_named name n h = same_differ name n (neither (bytes_eq name n) h)

pub unnamed : (name n : Text) → bytes_eq n name ≡ false → is_named (name ∷ []) n ≡ false
unnamed name n h = rw (same_differ n name h) refl

pub changed_leaves : (name : Text) (g : PoolState → PoolState) → Keeps g → (s : EngineState) → Leaves (is_named (name ∷ [])) s (changed name g s)
changed_leaves name g keeps s = record {
  pools = λ n ne. find_unchanged (is_called n) (one_changed name g) s.pools (one_called name g keeps n) (other_stays name g n (not_named name n ne));
  cells = λ n ne. ap (pool_at n) (started_map name g keeps s) ∙ find_unchanged (is_called n) (one_changed name g) (started s) (one_called name g keeps n) (other_stays name g n (not_named name n ne));
  table = table_stays name g keeps s;
}

pub changed_agree : (name : Text) (g : PoolState → PoolState) → Keeps g → (is_in : Text → Bool) (s t : EngineState) → AgreeOn is_in s t → AgreeOn is_in (changed name g s) (changed name g t)
changed_agree name g keeps is_in s t h = record {
  pools = λ n e. own_changed name g keeps n s ∙ ap (option_map (one_changed name g)) (h.pools n e) ∙ sym (own_changed name g keeps n t);
  table = table_stays name g keeps s ∙ h.table ∙ sym (table_stays name g keeps t);
}

-- the table tells whether some pool has the name
known_by_table : (name : Text) (s : EngineState) → is_known name s ≡ list_any (λ (k : KnownPool). bytes_eq k.name name) (table_of s).names
known_by_table name s = sym (any_map (λ (k : KnownPool). bytes_eq k.name name) known s.pools)

pub same_known : (name : Text) (s t : EngineState) → table_of s ≡ table_of t → is_known name s ≡ is_known name t
same_known name s t h = known_by_table name s ∙ ap (λ (w : TableState). list_any (λ (k : KnownPool). bytes_eq k.name name) w.names) h ∙ sym (known_by_table name t)

pub within_keeps : (f : Doing) → IsWithin f → Keeps (λ p. (f p).1)
within_keeps f h p up =
    let w = h p in
    record {
      known = rw (w.serial, w.name, w.mode, w.devices) refl;
      started = up_started (f p).1.mode (w.mode ∙ up);
    }

pub lifted-local : LiftedIsLocal
unfolding on_pool
lifted-local name f h =
    let keeps = within_keeps f h in
    record {
      alike = λ s t h. (
        ap (λ o. answer_of (λ p. (f p).0) (is_known name s) o) (h.pools name (named_self name)) ∙ ap (λ b. answer_of (λ p. (f p).0) b (own name t)) (same_known name s t h.table),
        changed_agree name (λ p. (f p).1) keeps (is_named (name ∷ [])) s t h,
      );
      others = λ s. changed_leaves name (λ p. (f p).1) keeps s;
    }
