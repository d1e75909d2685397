-- what a start finds done, from the law at the state before the call in flight
use Rattle.std.proofs.Common.{◌≡◌, ℕ, ◌==◌, ◌||◌, inl, inr, List, [], ◌∷◌, Bool, true, false, cond, map, find, Option, Some, None, bytes_eq, refl, sym, ap, ◌∙◌, subst}
use Rattle.std.specs.List.{AllByRecursion}
use Rattle.std.proofs.lemmas.Slice.Eq.{bytes_eq-Decides}
use Rattle.st_model.specs.declared.call.Call.TheVariants.{RenamePool}
use Rattle.st_model.specs.declared.reply.Reply.{Reply}
use Rattle.st_model.specs.declared.state.EngineState.{EngineState}
use Rattle.st_model.specs.declared.state.PoolMode.TheVariants.{Up}
use Rattle.st_model.specs.declared.state.PoolState.{PoolState}
use Rattle.st_model.specs.Answer.{first_answer, unless_answered}
use Rattle.st_model.specs.Look.{Text, holds, flight_of, gives_name}
use Rattle.st_model.specs.Parts.{pool_at}
use Rattle.st_model.specs.Valid.{IsRow, IsValid}
use Rattle.st_model.specs.Flight.{started_as}
use Rattle.st_model.specs.ValidPool.{IsHalted}
use Rattle.st_model.proofs.Flights.{found-holds}
use Rattle.st_model.proofs.Lists.{All-weaker}
use Rattle.st_model.specs.Found.{with_own_serial, taken_over, found_after_of}
use Rattle.st_model.specs.Lifted.{changed, one_changed, runs_as}
use Rattle.st_model.specs.steps.RenamePool.{rename_pool, rename_found, rename_answers, renamed}
use Rattle.st_model.specs.steps.StartPool.{with_serial}
use Rattle.st_model.proofs.Among.{IsPlaced, IsBeside, IsOther, same_number, up, self}
use Rattle.st_model.proofs.EachKind.{IsGood, valid-good}
use Rattle.st_model.proofs.Replaced.{SharesLess, one_replaced, replaced-valid, vanished-valid, started_so-valid, up-good, up-less}
use Rattle.st_model.proofs.ValidRename.{rename-valid}
use Rattle.st_model.proofs.ValidStart.{IsValidAfter, where-valid, own_after}

abbrev pub before_of : EngineState → PoolState → EngineState
before_of s p = record s { pools = map (started_as p.serial) s.pools }

module _ {X Y : Type 0} where
  map_alike : (f g : X → Y) (xs : List X) → AllByRecursion (λ x. f x ≡ g x) xs → map f xs ≡ map g xs
  map_alike f g [] h = refl
  map_alike f g (x ∷ xs) h = rw h.0 (ap (λ t. g x ∷ t) (map_alike f g xs h.1))

same_start : (p x : PoolState) → x ≡ p → started_as p.serial x ≡ one_replaced p.serial (up p) x
same_start p x e = rw (e, same_number p.serial) refl

other_start : (rows : _) (p x : PoolState) → IsOther rows p x → started_as p.serial x ≡ one_replaced p.serial (up p) x
other_start rows p x o = rw o.serial refl

each_start : (rows : _) (p x : PoolState) → IsBeside rows p x → started_as p.serial x ≡ one_replaced p.serial (up p) x
each_start rows p x (inl e) = same_start p x e
each_start rows p x (inr o) = other_start rows p x o

-- the state before a call in flight is valid, but where the call makes its pool
pub before-valid : (s : EngineState) (p : PoolState) → IsValid s → IsPlaced s.devices s.pools p → IsHalted p → AllByRecursion (IsRow s.devices) p.devices → IsGood s.next s.devices p → IsValid (before_of s p)
before-valid s p v placed halted there good =
    let same : map (started_as p.serial) s.pools ≡ map (one_replaced p.serial (up p)) s.pools = map_alike _ _ s.pools (All-weaker _ _ s.pools (each_start s.devices p) placed.beside) in
    let replaced : IsValid (with_serial p.serial (up p) s) = replaced-valid s p (up p) v placed (up-good s.next s.devices p halted there good) (up-less p) in
    subst (λ (l : List PoolState). IsValid (record s { pools = l })) (sym same) replaced

-- The pool that the call leaves is good since the state after it is valid; so it is enough that it is up and takes no
-- more than the pool and its call in flight had.
pub found_by-law : (s : EngineState) (p : PoolState) (after : EngineState) → IsValid s → IsPlaced s.devices s.pools p → IsValid after → after.next ≡ s.next → after.devices ≡ s.devices
    → ((q : PoolState) → with_own_serial p.serial after ≡ Some q → (q.mode ≡ Up) × SharesLess p q) → IsValid (taken_over s p (with_own_serial p.serial after)).1
found_by-law s p after v placed w next rows h = here (with_own_serial p.serial after) refl
  where
    good : AllByRecursion (IsGood s.next s.devices) after.pools
    good = subst (λ (n : ℕ). AllByRecursion (IsGood n s.devices) after.pools) next (subst (λ r. AllByRecursion (IsGood after.next r) after.pools) rows (valid-good after w))

    here : (o : Option PoolState) → with_own_serial p.serial after ≡ o → IsValid (taken_over s p o).1
    here None e = vanished-valid s p v
    here (Some q) e =
        let own = h q e in
        started_so-valid s p q v placed own.0 (found-holds (IsGood s.next s.devices) (λ (x : PoolState). x.serial == p.serial) after.pools q good e) own.1

-- a rename
pub unchanged : (name : Text) (ps : List PoolState) → map (one_changed name (λ x. x)) ps ≡ ps
unchanged name [] = refl
unchanged name (x ∷ ps) = rw (unchanged name ps) (here (runs_as name x))
  where
    here : (b : Bool) → (cond b x x ∷ ps) ≡ x ∷ ps
    here true = refl
    here false = refl

or_right : (a b : Bool) → b ≡ true → (a || b) ≡ true
or_right true b h = refl
or_right false b h = h

only_left : (a : Bool) → (a || false) ≡ true → a ≡ true
only_left true h = refl
only_left false h = absurd cc

renamed_less : (p : PoolState) (name new : Text) → flight_of p.mode ≡ Some (RenamePool name new) → SharesLess p (renamed new (up p))
renamed_less p name new flight = record {
  serial = refl;
  names = λ n h. let same : new ≡ n = (bytes_eq-Decides new n).0 (only_left _ h) in subst (λ (m : Text). holds m p ≡ true) same (or_right (bytes_eq p.name new) _ (ap (gives_name new) flight ∙ self new));
  devices = (up-less p).devices;
}

pub found_renamed-valid : (s : EngineState) (p : PoolState) (name new : Text) → IsValid s → IsPlaced s.devices s.pools p → IsHalted p → AllByRecursion (IsRow s.devices) p.devices → IsGood s.next s.devices p
    → name ≡ p.name → flight_of p.mode ≡ Some (RenamePool name new) → IsValidAfter (found_after_of s p (before_of s p) (Some (rename_pool name new (before_of s p))))
unfolding rename_pool
found_renamed-valid s p name new v placed halted there good e flight =
    where-valid _ _ (found_by-law s p (rename_found before name new (pool_at name before.pools)).1 v placed (rename-valid before name new (before-valid s p v placed halted there good)) (stays (pool_at name before.pools)).0 (stays (pool_at name before.pools)).1 (parts (pool_at name before.pools)))
  where
    before : EngineState
    before = before_of s p

    unless_stays : (a : Option Reply) (r : Reply) → ((unless_answered a before (r, changed name (renamed new) before)).1.next ≡ s.next) × ((unless_answered a before (r, changed name (renamed new) before)).1.devices ≡ s.devices)
    unless_stays None r = (refl, refl)
    unless_stays (Some q) r = (refl, refl)

    stays : (o : Option PoolState) → ((rename_found before name new o).1.next ≡ s.next) × ((rename_found before name new o).1.devices ≡ s.devices)
    stays None = (refl, refl)
    stays (Some q) = unless_stays (first_answer (rename_answers before name new q)) _

    at_before : with_own_serial p.serial before ≡ Some (up p)
    at_before = ap (λ l. find (λ (x : PoolState). x.serial == p.serial) l) (sym (unchanged name before.pools)) ∙ own_after name (λ x. x) s.devices p s.pools e refl placed.beside placed.among

    own_part : (x : PoolState) (q : PoolState) → (x.mode ≡ Up) × SharesLess p x → Some x ≡ Some q → (q.mode ≡ Up) × SharesLess p q
    own_part x q h e = let same : x ≡ q = cc in subst (λ (y : PoolState). (y.mode ≡ Up) × SharesLess p y) same h

    of_before : (q : PoolState) → with_own_serial p.serial before ≡ Some q → (q.mode ≡ Up) × SharesLess p q
    of_before q h = own_part (up p) q (refl, up-less p) (sym at_before ∙ h)

    of_renamed : (q : PoolState) → with_own_serial p.serial (changed name (renamed new) before) ≡ Some q → (q.mode ≡ Up) × SharesLess p q
    of_renamed q h = own_part (renamed new (up p)) q (refl, renamed_less p name new flight) (sym (own_after name (renamed new) s.devices p s.pools e refl placed.beside placed.among) ∙ h)

    unless_parts : (a : Option Reply) (r : Reply) (q : PoolState) → with_own_serial p.serial (unless_answered a before (r, changed name (renamed new) before)).1 ≡ Some q → (q.mode ≡ Up) × SharesLess p q
    unless_parts None r q h = of_renamed q h
    unless_parts (Some x) r q h = of_before q h

    parts : (o : Option PoolState) (q : PoolState) → with_own_serial p.serial (rename_found before name new o).1 ≡ Some q → (q.mode ≡ Up) × SharesLess p q
    parts None q h = of_before q h
    parts (Some x) q h = unless_parts (first_answer (rename_answers before name new x)) _ q h
