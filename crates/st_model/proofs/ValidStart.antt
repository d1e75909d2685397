-- starts and stops keep validity: what a start finds of a call within a pool, before it and after it
use Rattle.std.proofs.Common.{◌≡◌, ℕ, ◌==◌, ◌&&◌, ◌⊎◌, inl, inr, List, [], ◌∷◌, Bool, true, false, ◌||◌, cond, map, find, Option, Some, None, refl, sym, subst}
use Rattle.std.specs.List.{AllByRecursion}
use Rattle.std.proofs.lemmas.List.{length-map}
use Rattle.st_units.specs.declared.rows.DevRow.{DevRow}
use Rattle.st_model.specs.declared.call.Call.{Call}
use Rattle.st_model.specs.declared.call.Call.TheVariants.{CreatePool}
use Rattle.st_model.specs.declared.reply.Reply.{Reply}
use Rattle.st_model.specs.declared.state.EngineState.{EngineState}
use Rattle.st_model.specs.declared.state.PoolMode.{PoolMode}
use Rattle.st_model.specs.declared.state.PoolMode.TheVariants.{Up, Down, Stopped, Unsettled, Incomplete}
use Rattle.st_model.specs.declared.state.PoolState.{PoolState}
use Rattle.st_model.specs.Look.{Text, holds, uses, is_called, is_up, is_started, flight_of}
use Rattle.st_model.specs.Parts.{pool_at}
use Rattle.st_model.specs.Valid.{Apart, AreThere, IsRow, IsValid}
use Rattle.st_model.specs.Flight.{started_as}
use Rattle.st_model.specs.ValidPool.{IsValidIn, IsWhole, IsHalted, IsBefore}
use Rattle.st_model.proofs.Lists.{All-map, EachPair-map, All-weaker}
use Rattle.st_model.specs.Checks.{cooled, halted, halted_from}
use Rattle.st_model.specs.Found.{started_so, taken_over, found_after_of}
use Rattle.st_model.specs.Lifted.{Doing, IsWithin, on_pool, changed, one_changed, runs_as}
use Rattle.st_model.specs.Local.{Outcome, where_so}
use Rattle.st_model.specs.steps.PowerCycle.{power_cycle}
use Rattle.st_model.specs.steps.StartPool.{with_serial}
use Rattle.st_model.specs.steps.StopPool.{stop_pool, stop_found}
use Rattle.st_model.proofs.Among.{IsIn, IsPlaced, IsBeside, IsOther, same_number, self, holds_own, up}
use Rattle.st_model.proofs.EachKind.{IsGood, valid-good, good-valid}
use Rattle.st_model.proofs.Kept.{up_good}
use Rattle.st_model.proofs.Replaced.{SharesLess, apart_less, less_self, cooled-good, replaced-valid, started_so-valid, up-good, up-less}
use Rattle.st_model.proofs.ValidRename.{EachPair-with}
use Rattle.st_model.specs.Merged.{merged}
use Rattle.st_model.proofs.Merging.{merged-whole}
use Rattle.st_model.proofs.Whole.{cooled-halted, moved-whole}

abbrev pub IsValidAfter : Outcome → Type 0
IsValidAfter None = Unit {0}
IsValidAfter (Some after) = IsValid after.1

pub where-valid : (b : Bool) (after : _ × EngineState) → IsValid after.1 → IsValidAfter (where_so b after)
where-valid true after h = h
where-valid false after h = tt

-- each pool changed by itself, none taking more
pub each-valid : (s : EngineState) (c : PoolState → PoolState) → IsValid s → ((p : PoolState) → SharesLess p (c p)) → ((p : PoolState) → IsGood s.next s.devices p → IsGood s.next s.devices (c p)) → IsValid (record s { pools = map c s.pools })
each-valid s c v less good =
    good-valid (record s { pools = map c s.pools })
    (record { from_one = v.from_one; bounded = v.bounded; rack = v.rack; count = rw (length-map s.pools c) v.count })
    (EachPair-map (Apart s.devices) c s.pools (EachPair-with _ _ _ s.pools (apart_less s.devices c) (all s.pools) v.apart))
    (All-map _ c s.pools (All-weaker _ _ s.pools good (valid-good s v)))
  where
    all : (ps : List PoolState) → AllByRecursion (λ p. SharesLess p (c p)) ps
    all [] = tt
    all (p ∷ ps) = (less p, all ps)

moved_before : (p : PoolState) (mode : PoolMode) (call : Call) → IsBefore p call → IsBefore (record p { mode = mode }) call
moved_before p mode (CreatePool name devices) h =
    let b = h.blank in
    record { named = h.named; devices = h.devices; distinct = h.distinct; blank = record { filesystems = b.filesystems; cells = b.cells; next_cell = b.next_cell; next_filesystem = b.next_filesystem; allocated = b.allocated; limit = b.limit; overprovisioning = b.overprovisioning; commits = b.commits; cache = b.cache } }
moved_before p mode _ h = record { whole = moved-whole p mode h.whole; cold = h.cold }

halted_parts : (next : ℕ) (rows : List DevRow) (p : PoolState) (m : PoolMode) → p.mode ≡ m → SharesLess p (halted_from p m) × (IsGood next rows p → IsGood next rows (halted_from p m))
halted_parts next rows p Up e = (
  record { serial = refl; names = λ n h. rw e h; devices = λ path h. rw e h },
  λ good.
      let whole : IsWhole p = subst (λ (m : PoolMode). IsValidIn p m) e good.valid.state in
      record {
        valid = record { serial = good.valid.serial; from_one = good.valid.from_one; devices = good.valid.devices; state = cooled-halted (merged p) Stopped (merged-whole p whole) };
        there = subst (λ (m : PoolMode). AreThere rows p m) e good.there;
        on = tt;
        flight = tt;
      },
)
halted_parts next rows p (Down call) e = (
  record { serial = refl; names = λ n h. rw e h; devices = λ path h. rw e h },
  λ good.
      record {
        valid = record { serial = good.valid.serial; from_one = good.valid.from_one; devices = good.valid.devices; state = moved_before p (Unsettled call) call (subst (λ (m : PoolMode). IsValidIn p m) e good.valid.state) };
        there = subst (λ (m : PoolMode). AreThere rows p m) e good.there;
        on = subst (λ (m : PoolMode). Rattle.st_model.specs.Valid.IsOnIfAny p.name (flight_of m)) e good.on;
        flight = alone_moved rows p call (subst (λ (m : PoolMode). Rattle.st_model.proofs.Alone.IsAloneFlight rows p (flight_of m)) e good.flight);
      },
)
  where
    alone_moved : (rows : List DevRow) (p : PoolState) (call : Call) → Rattle.st_model.proofs.Alone.IsAloneFlight rows p (Some call) → Rattle.st_model.proofs.Alone.IsAloneFlight rows (record p { mode = Unsettled call }) (Some call)
    alone_moved rows p (CreatePool name devices) h = h
    alone_moved rows p _ h = h
halted_parts next rows p Stopped e = (less_self p, λ good. good)
halted_parts next rows p (Unsettled call) e = (less_self p, λ good. good)
halted_parts next rows p (Incomplete path) e = (less_self p, λ good. good)

one_halted : (name : Text) (next : ℕ) (rows : List DevRow) (p : PoolState) → SharesLess p (cond (is_called name p) (halted p) p) × (IsGood next rows p → IsGood next rows (cond (is_called name p) (halted p) p))
one_halted name next rows p = here (is_called name p)
  where
    here : (b : Bool) → SharesLess p (cond b (halted p) p) × (IsGood next rows p → IsGood next rows (cond b (halted p) p))
    here true = halted_parts next rows p p.mode refl
    here false = (less_self p, λ good. good)

pub stop-valid : (s : EngineState) (name : Text) → IsValid s → IsValid (stop_pool name s).1
unfolding stop_pool
stop-valid s name v = here (pool_at name s.pools)
  where
    stopped : IsValid (record s { pools = map (λ p. cond (is_called name p) (halted p) p) s.pools })
    stopped = each-valid s (λ p. cond (is_called name p) (halted p) p) v (λ p. (one_halted name s.next s.devices p).0) (λ p. (one_halted name s.next s.devices p).1)

    so : (b : Bool) (r t : Reply) → IsValid (cond {A = Reply × EngineState} b (r, record s { pools = map (λ p. cond (is_called name p) (halted p) p) s.pools }) (t, s)).1
    so true r t = stopped
    so false r t = v

    here : (o : Option PoolState) → IsValid (stop_found s name o).1
    here None = v
    here (Some p) = so (is_started p.mode) _ _

-- a power cut halts each pool
pub cycle-valid : (s : EngineState) → IsValid s → IsValid (power_cycle s).1
unfolding power_cycle
cycle-valid s v = each-valid s halted v (λ p. (halted_parts s.next s.devices p p.mode refl).0) (λ p. (halted_parts s.next s.devices p p.mode refl).1)

-- a stopped pool is started as it is
pub cooled_start-valid : (s : EngineState) (p : PoolState) → IsValid s → IsPlaced s.devices s.pools p → IsHalted p → AllByRecursion (IsRow s.devices) p.devices → IsGood s.next s.devices p → IsValid (with_serial p.serial (cooled Up p) s)
cooled_start-valid s p v placed halted there good =
    replaced-valid s p (cooled Up p) v placed (cooled-good s.next s.devices (up p) refl (up-good s.next s.devices p halted there good)) (record { serial = refl; names = (up-less p).names; devices = (up-less p).devices })

-- a halted pool is started as its merge
pub start-valid : (s : EngineState) (p : PoolState) → IsValid s → IsPlaced s.devices s.pools p → IsHalted p → AllByRecursion (IsRow s.devices) p.devices → IsGood s.next s.devices p → IsValid (started_so s p p).1
start-valid s p v placed halted there good = started_so-valid s p (up p) v placed refl (up-good s.next s.devices p halted there good) (up-less p)

-- and so is another that differs from it within alone
pub changed_start-valid : (s : EngineState) (p q : PoolState) → IsValid s → IsPlaced s.devices s.pools p → IsHalted p → AllByRecursion (IsRow s.devices) p.devices → IsGood s.next s.devices p
    → q.serial ≡ p.serial → q.name ≡ p.name → q.devices ≡ p.devices → (IsWhole p → IsWhole q) → IsValid (started_so s p q).1
changed_start-valid s p q v placed halted there good serial name devices whole =
    let first = up-good s.next s.devices p halted there good in
    let second : IsGood s.next s.devices (up q) =
    up_good s.next s.devices (up p) (up q) refl first (record { serial = serial; name = name; mode = refl; devices = devices }) (λ w. moved-whole q Up (whole halted.whole)) in
    let less = up-less p in
    started_so-valid s p (up q) v placed refl second (record {
      serial = serial;
      names = λ n h. less.names n (subst (λ (m : Text). holds n (record (up p) { name = m }) ≡ true) name h);
      devices = λ path h. less.devices path (subst (λ (l : List DevRow). uses path (record (up p) { devices = l }) ≡ true) devices h);
    })

-- the pool after a call within it, in the state after it
other_named : (name : Text) (rows : List DevRow) (p x : PoolState) → name ≡ p.name → IsOther rows p x → is_called name x ≡ false
other_named name rows p x e o = rw e (first (is_called p.name x) _ (o.names p.name (holds_own p)))
  where
    first : (a b : Bool) → (a || b) ≡ false → a ≡ false
    first true b h = absurd cc
    first false b h = refl

no_change : (name : Text) (g : PoolState → PoolState) (x : PoolState) → is_called name x ≡ false → one_changed name g x ≡ x
no_change name g x h = here (is_up x.mode) (is_called name x) h
  where
    here : (a b : Bool) → b ≡ false → cond (a && b) (g x) x ≡ x
    here true b h = rw h refl
    here false b h = refl

pub own_after : (name : Text) (g : PoolState → PoolState) (rows : List DevRow) (p : PoolState) (ps : List PoolState) → name ≡ p.name → (g (up p)).serial ≡ p.serial → AllByRecursion (IsBeside rows p) ps → IsIn p ps
    → find (λ (x : PoolState). x.serial == p.serial) (map (one_changed name g) (map (started_as p.serial) ps)) ≡ Some (g (up p))
own_after name g rows p [] e k h i = absurd i
own_after name g rows p (x ∷ ps) e k h i = here h.0 i (own_after name g rows p ps e k h.1)
  where
    mine : x ≡ p → one_changed name g (started_as p.serial x) ≡ g (up p)
    mine same = rw (same, same_number p.serial, e, self p.name) refl

    theirs : IsOther rows p x → one_changed name g (started_as p.serial x) ≡ x
    theirs o = rw o.serial (no_change name g x (other_named name rows p x e o))

    found : x ≡ p → find (λ (y : PoolState). y.serial == p.serial) (one_changed name g (started_as p.serial x) ∷ map (one_changed name g) (map (started_as p.serial) ps)) ≡ Some (g (up p))
    found same = rw (mine same, k, same_number p.serial) refl

    here : IsBeside rows p x → (x ≡ p) ⊎ IsIn p ps → (IsIn p ps → find (λ (y : PoolState). y.serial == p.serial) (map (one_changed name g) (map (started_as p.serial) ps)) ≡ Some (g (up p)))
        → find (λ (y : PoolState). y.serial == p.serial) (one_changed name g (started_as p.serial x) ∷ map (one_changed name g) (map (started_as p.serial) ps)) ≡ Some (g (up p))
    here (inl same) i rest = found same
    here (inr o) (inl same) rest = found same
    here (inr o) (inr i) rest = rw (theirs o, o.serial) (rest i)

-- found done, of any call within a pool
pub found_doing-valid : (s : EngineState) (p : PoolState) (name : Text) (f : Doing) → IsValid s → IsPlaced s.devices s.pools p → IsGood s.next s.devices p → IsHalted p → AllByRecursion (IsRow s.devices) p.devices → name ≡ p.name
    → IsWithin f → ((q : PoolState) → IsWhole q → IsWhole (f q).1)
    → IsValidAfter (found_after_of s p (record s { pools = map (started_as p.serial) s.pools }) (Some (on_pool name f (record s { pools = map (started_as p.serial) s.pools }))))
unfolding on_pool
found_doing-valid s p name f v placed good halted there e within whole =
    let w = within (up p) in
    let q = (f (up p)).1 in
    let at = own_after name (λ x. (f x).1) s.devices p s.pools e w.serial placed.beside placed.among in
    let first = up-good s.next s.devices p halted there good in
    let second : IsGood s.next s.devices q = up_good s.next s.devices (up p) q refl first w (whole (up p)) in
    let less = up-less p in
    where-valid _ _ (subst (λ (o : Option PoolState). IsValid (taken_over s p o).1) (sym at)
    (started_so-valid s p q v placed w.mode second (record {
      serial = w.serial;
      names = λ n h. less.names n (subst (λ b. b ≡ true) (here_names q w n) h);
      devices = λ path h. less.devices path (subst (λ b. b ≡ true) (here_uses q w path) h);
    })))
  where
    here_names : (q : PoolState) → Rattle.st_model.specs.Lifted.SameOutside (up p) q → (n : Text) → holds n q ≡ holds n (up p)
    here_names q w n = rw (w.name, w.mode) refl

    here_uses : (q : PoolState) → Rattle.st_model.specs.Lifted.SameOutside (up p) q → (path : Text) → uses path q ≡ uses path (up p)
    here_uses q w path = rw (w.devices, w.mode) refl
