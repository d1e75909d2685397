-- CreatePool: as a call, as a call whose write failed, and as a call in flight that a start found done
use Rattle.std.proofs.Common.{◌≡◌, ℕ, ◌+◌, ◌<◌, ◌≤◌, ◌^◌, List, [], ◌∷◌, ◌++◌, length, Bool, true, false, ◌||◌, cond, Option, Some, None, is_some, bytes_eq, refl, sym, ap, ◌∙◌, subst, length-append, arith}
use Rattle.std.specs.List.{AllByRecursion}
use Rattle.std.proofs.lemmas.Slice.Eq.{bytes_eq-Decides}
use Rattle.st_units.specs.declared.rows.DevRow.{DevRow}
use Rattle.st_units.specs.declared.rows.Tier.{Tier}
use Rattle.st_units.specs.declared.rows.Tier.TheVariants.{DataTier}
use Rattle.st_model.specs.Checks.{rows_on}
use Rattle.st_model.specs.declared.call.Call.TheVariants.{CreatePool}
use Rattle.st_model.specs.declared.reply.Reply.{Reply}
use Rattle.st_model.specs.declared.state.EngineState.{EngineState}
use Rattle.st_model.specs.declared.state.PoolState.{PoolState}
use Rattle.st_model.specs.Answer.{unless_answered}
use Rattle.st_model.specs.Look.{Text, has_path, distinct, holds, uses, row_of, flight_of, takes_path}
use Rattle.st_model.specs.Valid.{Apart, is_there, IsValid}
use Rattle.st_model.specs.steps.CreatePool.{create_answer, create_plain, data_rows, new_pool, broken_pool, with_pool}
use Rattle.st_model.proofs.Fresh.{FreeOf, IsFresh, create_fresh}
use Rattle.st_model.proofs.Lists.{All-end, All-weaker, EachPair-end, All-distinct, at_path}
use Rattle.st_model.proofs.Flights.{fresh-unanswered, unanswered-accepted}
use Rattle.st_model.proofs.NewPool.{new-there, new-small, new-whole, broken-begun}
use Rattle.st_model.specs.Flight.{state_before}
use Rattle.st_model.specs.Found.{started_so}
use Rattle.st_model.proofs.Among.{IsPlaced, holds_own}
use Rattle.st_model.proofs.CreateKind.{each_among}
use Rattle.st_model.proofs.EachKind.{IsGood, valid-good, good-valid}
use Rattle.st_model.proofs.Replaced.{started_so-valid}

or_false : (b : Bool) → (b || false) ≡ b
or_false true = refl
or_false false = refl

or_right : (a b : Bool) → b ≡ true → (a || b) ≡ true
or_right true b h = refl
or_right false b h = h

clash : (b : Bool) → b ≡ false → b ≡ true → ⊥
clash b f t = absurd cc

pub has_row : (path : Text) (tier : Tier) (rows : List DevRow) (paths : List Text) → is_some (row_of path (rows_on tier rows paths)) ≡ true → has_path path paths ≡ true
has_row path tier rows [] h = h
has_row path tier rows (p ∷ paths) h = here (bytes_eq p path) _ _ h (has_row path tier rows paths)
  where
    here : (b : Bool) (row : DevRow) (rest : Option DevRow) → is_some (cond b (Some row) rest) ≡ true → (is_some rest ≡ true → has_path path paths ≡ true) → (b || has_path path paths) ≡ true
    here true row rest h f = refl
    here false row rest h f = f h

-- a path that was taken once was given
was_given : (path : Text) (paths : List Text) → has_path path (distinct paths) ≡ true → has_path path paths ≡ true
was_given path paths h = at_path (λ p. has_path p paths ≡ true) path (distinct paths) (All-distinct (λ p. has_path p paths ≡ true) paths (each_among paths)) h

abbrev made : EngineState → Text → List Text → PoolState
made s name paths = new_pool s.next name (data_rows s.devices (distinct paths))

-- the pool that is made is good by itself
pub made-good : (s : EngineState) (name : Text) (paths : List Text) (next : ℕ) → 1 ≤ s.next → s.next < next → Rattle.st_model.specs.Valid.AreRackRows s.devices → IsFresh s name paths → IsGood next s.devices (made s name paths)
made-good s name paths next one below rack fresh = record {
  valid = record { serial = below; from_one = one; devices = new-small s name paths rack fresh; state = new-whole s name paths rack fresh };
  there = new-there s name paths fresh;
  on = tt;
  flight = tt;
}

-- found done: the state before it needn't be valid, and its next serial is the pool's own
pub found_made-valid : (s : EngineState) (p : PoolState) (name : Text) (paths : List Text) → IsValid s → IsPlaced s.devices s.pools p → IsGood s.next s.devices p → flight_of p.mode ≡ Some (CreatePool name paths) → name ≡ p.name
    → create_answer (state_before s p (CreatePool name paths)) name paths ≡ None → IsValid (started_so s p (made (state_before s p (CreatePool name paths)) name paths)).1
found_made-valid s p name paths v placed good flight on none =
    let before = state_before s p (CreatePool name paths) in
    let fresh = create_fresh before name paths none in
    started_so-valid s p (made before name paths) v placed refl (made-good before name paths s.next good.valid.from_one good.valid.serial v.rack fresh)
    (record {
      serial = refl;
      names = λ n h. let same : name ≡ n = (bytes_eq-Decides name n).0 (sym (or_false _) ∙ h) in subst (λ (m : Text). holds m p ≡ true) (sym on ∙ same) (holds_own p);
      devices = λ path h. or_right _ _ (ap (takes_path path) flight ∙ was_given path paths (has_row path DataTier s.devices (distinct paths) (sym (or_false _) ∙ h)));
    })

later_good : (next : ℕ) (rows : List DevRow) (p : PoolState) → IsGood next rows p → IsGood (next + 1) rows p
later_good next rows p g =
    let below = g.valid.serial in
    record { valid = record { serial = omega (arith, below); from_one = g.valid.from_one; devices = g.valid.devices; state = g.valid.state }; there = g.there; on = g.on; flight = g.flight }

-- a pool more, which is good and apart: no call in flight of another pool is looked at
pub joined-valid : (s : EngineState) (q : PoolState) → IsValid s → length s.pools < 16 → s.next ≤ 2 ^ 48 → AllByRecursion (λ p. Apart s.devices p q) s.pools → IsGood (s.next + 1) s.devices q → IsValid (with_pool s q)
joined-valid s q v few room apart good =
    let more : length (s.pools ++ q ∷ []) ≡ length s.pools + 1 = length-append s.pools (q ∷ []) in
    good-valid (with_pool s q) (record { from_one = omega arith; bounded = omega (arith, room); rack = v.rack; count = omega (arith, more, few) })
    (EachPair-end (Apart s.devices) s.pools q v.apart apart)
    (All-end _ s.pools q (All-weaker _ _ s.pools (later_good s.next s.devices) (valid-good s v)) good)

-- a pool that has just this name and these devices, made or in the making
record IsMade (s : EngineState) (name : Text) (paths : List Text) (q : PoolState) : Type 0 where
  serial : q.serial ≡ s.next
  names : (n : Text) → holds n q ≡ true → name ≡ n
  devices : (path : Text) → uses path q ≡ true → has_path path paths ≡ true

apart_from : (s : EngineState) (name : Text) (paths : List Text) (p q : PoolState) → IsMade s name paths q → p.serial < s.next → holds name p ≡ false → AllByRecursion (λ path. uses path p ≡ false) paths → Apart s.devices p q
apart_from s name paths p q made below other free = record {
  names = λ n x y. clash (holds name p) other (subst (λ (m : Text). holds m p ≡ true) (sym (made.names n y)) x);
  serials = rw made.serial below;
  devices = λ path t x y. clash (uses path p) (at_path (λ z. uses z p ≡ false) path paths free (made.devices path y)) x;
}

all_apart : (s : EngineState) (name : Text) (paths : List Text) (q : PoolState) → IsMade s name paths q → (ps : List PoolState) → AllByRecursion (λ p. IsGood s.next s.devices p) ps → AllByRecursion (λ p. holds name p ≡ false) ps → AllByRecursion (FreeOf ps) paths
    → AllByRecursion (λ p. Apart s.devices p q) ps
all_apart s name paths q m [] g h f = tt
all_apart s name paths q m (p ∷ ps) g h f = (apart_from s name paths p q m g.0.valid.serial h.0 (All-weaker _ _ paths (λ x a. a.0) f), all_apart s name paths q m ps g.1 h.1 (All-weaker _ _ paths (λ x a. a.1) f))

made_is : (s : EngineState) (name : Text) (paths : List Text) → IsMade s name paths (made s name paths)
made_is s name paths = record {
  serial = refl;
  names = λ n h. (bytes_eq-Decides name n).0 (sym (or_false _) ∙ h);
  devices = λ path h. was_given path paths (has_row path DataTier s.devices (distinct paths) (sym (or_false _) ∙ h));
}

broken_is : (s : EngineState) (name : Text) (paths : List Text) → IsMade s name paths (broken_pool s.next name (distinct paths))
broken_is s name paths = record {
  serial = refl;
  names = λ n h. (bytes_eq-Decides name n).0 (sym (or_false _) ∙ h);
  devices = λ path h. was_given path paths h;
}

pub create-valid : (s : EngineState) (name : Text) (paths : List Text) → IsValid s → IsValid (create_plain s name paths).1
unfolding create_plain
create-valid s name paths v = here (create_answer s name paths) refl
  where
    done : create_answer s name paths ≡ None → IsValid (with_pool s (made s name paths))
    done none =
        let fresh = create_fresh s name paths none in
        joined-valid s (made s name paths) v fresh.count fresh.room (all_apart s name paths (made s name paths) (made_is s name paths) s.pools (valid-good s v) fresh.names fresh.paths_free)
        (made-good s name paths (s.next + 1) v.from_one (omega arith) v.rack fresh)

    here : (a : Option Reply) → create_answer s name paths ≡ a → IsValid (unless_answered a s (Rattle.st_model.specs.Answer.accepted (Rattle.st_model.specs.declared.reply.Given.TheVariants.Created true (Some (s.next, distinct paths))), with_pool s (made s name paths))).1
    here None e = done e
    here (Some r) e = v

each_free : (paths : List Text) → AllByRecursion (FreeOf []) paths
each_free [] = tt
each_free (path ∷ paths) = (tt, each_free paths)

-- the pool whose making failed is good by itself: its call would be accepted were there no other pool
pub broken-good : (s : EngineState) (name : Text) (paths : List Text) → 1 ≤ s.next → IsFresh s name paths → IsGood (s.next + 1) s.devices (broken_pool s.next name (distinct paths))
broken-good s name paths one fresh =
    let alone : EngineState = record { pools = []; devices = s.devices; next = s.next } in
    let by_itself : IsFresh alone name paths = record { names = tt; paths_free = each_free paths; some = fresh.some; there = fresh.there; large = fresh.large; count = omega arith; few = fresh.few; room = fresh.room } in
    record {
      valid = record { serial = omega arith; from_one = one; devices = record { few = omega arith; small = tt }; state = broken-begun s.next name paths };
      there = (tt, All-distinct (λ path. is_there s.devices path ≡ true) paths fresh.there);
      on = refl;
      flight = unanswered-accepted alone name (distinct paths) (fresh-unanswered alone name paths by_itself);
    }

pub broken-valid : (s : EngineState) (name : Text) (paths : List Text) → create_answer s name paths ≡ None → IsValid s → IsValid (with_pool s (broken_pool s.next name (distinct paths)))
broken-valid s name paths none v =
    let fresh = create_fresh s name paths none in
    joined-valid s (broken_pool s.next name (distinct paths)) v fresh.count fresh.room (all_apart s name paths (broken_pool s.next name (distinct paths)) (broken_is s name paths) s.pools (valid-good s v) fresh.names fresh.paths_free)
    (broken-good s name paths v.from_one fresh)
