-- a call within one pool is local, whatever it met
use Rattle.std.proofs.Common.{◌≡◌, [], ◌∷◌, Bool, true, false, ◌&&◌, Option, Some, None, bytes_eq, refl, sym, ap, ◌∙◌, subst}
use Rattle.std.proofs.lemmas.Slice.Eq.{bytes_eq-Decides}
use Rattle.st_units.specs.declared.cause.Cause.TheVariants.{DeviceFault}
use Rattle.st_model.specs.declared.call.Call.{Call}
use Rattle.st_model.specs.declared.entry.Env.{Env}
use Rattle.st_model.specs.declared.entry.Env.TheVariants.{Plain, NoMem, FaultRead, FaultWrite, After, Before}
use Rattle.st_wants.specs.Names.{is_named}
use Rattle.st_model.specs.declared.reply.Reply.{Reply}
use Rattle.st_model.specs.declared.state.EngineState.{EngineState}
use Rattle.st_model.specs.declared.state.FsState.{FsState}
use Rattle.st_model.specs.declared.state.PoolState.{PoolState}
use Rattle.st_model.specs.Answer.{refused, unless_answered}
use Rattle.st_model.specs.Look.{Text, devices_taken, name_given}
use Rattle.st_model.specs.Checks.{on_fs, in_fs, fs_at, down}
use Rattle.st_model.specs.Flight.{in_flight}
use Rattle.st_model.specs.Local.{Outcome, IsLocal, AreAlike, Leaves, LeavesIfAny, where_so}
use Rattle.st_model.specs.Parts.{AgreeOn}
use Rattle.st_model.specs.Lifted.{Doing, IsWithin, SameOutside, Keeps, on_pool}
use Rattle.st_model.specs.Step.{is_ok, is_changed, touches, wrote, fault_on, usual}
use Rattle.st_model.specs.Plain.{plain}
use Rattle.st_model.proofs.Lifting.{lifted-local, changed_agree, changed_leaves, unnamed}

-- the names of one pool
abbrev pub only : Text → Text → Bool
only name = is_named (name ∷ [])

pub unless_within : (a : Option Reply) (p : PoolState) (next : Reply × PoolState) → SameOutside p next.1 → SameOutside p (unless_answered a p next).1
unless_within None p next h = h
unless_within (Some r) p next h = record { serial = refl; name = refl; mode = refl; devices = refl }

pub fs_within : (f : FsState → PoolState → Reply × PoolState) → ((fs : FsState) (p : PoolState) → SameOutside p (f fs p).1) → (name : Text) → IsWithin (on_fs name f)
fs_within f h name p = here (fs_at name p.filesystems)
  where
    here : (o : Option FsState) → SameOutside p (in_fs f p o).1
    here None = record { serial = refl; name = refl; mode = refl; devices = refl }
    here (Some fs) = h fs p

-- a call in flight that takes no device and gives no name, on a pool of these names
abbrev pub IsQuiet : (Text → Bool) → Option (Text × Call) → Type 0
IsQuiet is_in None = Unit {0}
IsQuiet is_in (Some flight) = (is_in flight.0 ≡ true) × ((devices_taken flight.1 ≡ []) × (name_given flight.1 ≡ None))

-- what one says of a call on pools of these names
pub record IsInner (is_in : Text → Bool) (call : Call) : Type 0 where
  pub plain : IsLocal is_in (λ s. plain s call)
  pub touches : (s t : EngineState) → AgreeOn is_in s t → touches s call ≡ touches t call
  pub wrote : (s t : EngineState) → AgreeOn is_in s t → wrote s call ≡ wrote t call
  pub flight : Option (Text × Call)
  pub in_flight : (s : EngineState) → in_flight s call ≡ flight
  pub quiet : IsQuiet is_in flight

stays : (s : EngineState) (is_in : Text → Bool) → Leaves is_in s s
stays s is_in = record { pools = λ n ne. refl; cells = λ n ne. refl; table = refl }

some-alike : (is_in : Text → Bool) (a b : Bool) (r : Reply) (u v : EngineState) → a ≡ b → AgreeOn is_in u v → AreAlike is_in (where_so a (r, u)) (where_so b (r, v))
some-alike is_in true true r u v h g = (refl, g)
some-alike is_in false false r u v h g = tt
some-alike is_in true false r u v h g = absurd cc
some-alike is_in false true r u v h g = absurd cc

some-leaves : (is_in : Text → Bool) (a : Bool) (r : Reply) (s u : EngineState) → Leaves is_in s u → LeavesIfAny is_in s (where_so a (r, u))
some-leaves is_in true r s u h = h
some-leaves is_in false r s u h = tt

pub same_ok : (is_in : Text → Bool) (a b : Outcome) → AreAlike is_in a b → is_ok a ≡ is_ok b
same_ok is_in None None h = refl
same_ok is_in None (Some b) h = absurd h
same_ok is_in (Some a) None h = absurd h
same_ok is_in (Some a) (Some b) h = rw (h.0) refl

pub same_changed : (is_in : Text → Bool) (a b : Outcome) → AreAlike is_in a b → is_changed a ≡ is_changed b
same_changed is_in None None h = refl
same_changed is_in None (Some b) h = absurd h
same_changed is_in (Some a) None h = absurd h
same_changed is_in (Some a) (Some b) h = rw (h.0) refl

pub down_keeps : (call : Call) → devices_taken call ≡ [] → name_given call ≡ None → Keeps (down call)
down_keeps call none new p up = record { known = rw (up, none, new) refl; started = refl }

not_only : (is_in : Text → Bool) (name n : Text) → is_in name ≡ true → is_in n ≡ false → bytes_eq n name ≡ false
not_only is_in name n h g = here (bytes_eq n name) refl
  where
    here : (b : Bool) → bytes_eq n name ≡ b → b ≡ false
    here false e = refl
    here true e = let same : n ≡ name = (bytes_eq-Decides n name).0 e in clash (is_in name) h (subst (λ (m : Text). is_in m ≡ false) same g)
      where
        clash : (b : Bool) → b ≡ true → b ≡ false → true ≡ false
        clash true h g = g
        clash false h g = sym h

-- who leaves all but one of the names leaves all but the names
wider : (is_in : Text → Bool) (name : Text) → is_in name ≡ true → (s t : EngineState) → Leaves (only name) s t → Leaves is_in s t
wider is_in name h s t l = record {
  pools = λ n ne. l.pools n (unnamed name n (not_only is_in name n h ne));
  cells = λ n ne. l.cells n (unnamed name n (not_only is_in name n h ne));
  table = l.table;
}

quiet-local : (is_in : Text → Bool) (flight : Option (Text × Call)) (b : EngineState → Bool) → IsQuiet is_in flight → ((s t : EngineState) → AgreeOn is_in s t → b s ≡ b t)
    → IsLocal is_in (λ s. fault_on s flight (b s))
quiet-local is_in None b q h = record { alike = λ s t a. tt; others = λ s. tt }
quiet-local is_in (Some flight) b q h =
    let keeps = down_keeps flight.1 q.1.0 q.1.1 in
    record {
      alike = λ s t a. some-alike is_in (b s) (b t) (refused DeviceFault) _ _ (h s t a) (changed_agree flight.0 (down flight.1) keeps is_in s t a);
      others = λ s. some-leaves is_in (b s) (refused DeviceFault) s _ (wider is_in flight.0 q.0 s _ (changed_leaves flight.0 (down flight.1) keeps s));
    }

pub usual-local : (is_in : Text → Bool) (call : Call) (env : Env) → IsInner is_in call → IsLocal is_in (λ s. usual s call env)
usual-local is_in call Plain h = h.plain
usual-local is_in call NoMem h = record { alike = λ s t a. (refl, a); others = λ s. stays s is_in }
usual-local is_in call FaultRead h = record {
  alike = λ s t a.
      some-alike is_in _ _ (refused DeviceFault) s t (ap (λ b. b && touches s call) (same_ok is_in _ _ (h.plain.alike s t a)) ∙ ap (λ b. is_ok (plain t call) && b) (h.touches s t a)) a;
  others = λ s. some-leaves is_in _ (refused DeviceFault) s s (stays s is_in);
}
usual-local is_in call FaultWrite h =
    let base = quiet-local is_in h.flight (λ s. wrote s call) h.quiet h.wrote in
    record {
      alike = λ s t a. rw (h.in_flight s, h.in_flight t) (base.alike s t a);
      others = λ s. rw (h.in_flight s) (base.others s);
    }
usual-local is_in call After h = record { alike = λ s t a. tt; others = λ s. tt }
usual-local is_in call (Before bytes) h = record { alike = λ s t a. tt; others = λ s. tt }

-- a call that is done within its pool, and reads no block
pub by_doing : (name : Text) (call : Call) (f : Doing) (flight : Option (Text × Call)) → ((s : EngineState) → plain s call ≡ Some (on_pool name f s)) → IsWithin f
    → ((s : EngineState) → in_flight s call ≡ flight) → IsQuiet (only name) flight → ((s t : EngineState) → AgreeOn (only name) s t → touches s call ≡ touches t call)
    → ((s : EngineState) → wrote s call ≡ is_changed (plain s call)) → IsInner (only name) call
by_doing name call f flight is within in_flight quiet touches wrote =
    let base = lifted-local name f within in
    let local : IsLocal (only name) (λ s. plain s call) = record {
      alike = λ s t a. rw (is s, is t) (base.alike s t a);
      others = λ s. rw (is s) (base.others s);
    } in
    record {
      plain = local;
      touches = touches;
      wrote = λ s t a. wrote s ∙ same_changed (only name) _ _ (local.alike s t a) ∙ sym (wrote t);
      flight = flight;
      in_flight = in_flight;
      quiet = quiet;
    }
