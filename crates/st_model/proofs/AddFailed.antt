-- a call that adds devices and whose write failed, and one that a start found done
use Rattle.std.proofs.Common.{◌≡◌, ℕ, suc, ◌+◌, ◌≤◌, ◌==◌, ◌||◌, ◌⊎◌, inl, inr, not, List, [], ◌∷◌, ◌++◌, length, Bool, true, false, cond, filter, find, Option, Some, None, is_some, option_map, refl, sym, ap, ◌∙◌, subst, arith}
use Rattle.std.specs.List.{AllByRecursion}
use Rattle.std.proofs.lemmas.Grind.{common_steps}
use Rattle.st_units.specs.declared.cause.Cause.TheVariants.{DeviceTooSmall, EmptyDevices, NoSuchDevice, TooManyDevices, Worn}
use Rattle.st_units.specs.declared.rows.DevRow.{DevRow}
use Rattle.st_model.specs.declared.call.Call.{Call}
use Rattle.st_model.specs.declared.entry.Env.{Env}
use Rattle.st_model.specs.declared.reply.Given.TheVariants.{Added}
use Rattle.st_model.specs.declared.reply.Reply.{Reply}
use Rattle.st_model.specs.declared.state.EngineState.{EngineState}
use Rattle.st_model.specs.declared.state.PoolMode.{PoolMode}
use Rattle.st_model.specs.declared.state.PoolMode.TheVariants.{Up, Down}
use Rattle.st_model.specs.declared.state.PoolState.{PoolState}
use Rattle.st_model.specs.Answer.{accepted, first_answer, refused_by, refused_where, unless_answered}
use Rattle.st_model.specs.Checks.{down, first_small, in_use, rows_on, sectors_of}
use Rattle.st_model.specs.Flight.{in_flight, new_to, paths_in}
use Rattle.st_model.specs.Found.{found_after_of, with_own_serial}
use Rattle.st_model.specs.Lifted.{changed}
use Rattle.st_model.specs.Local.{Outcome}
use Rattle.st_model.specs.Look.{Text, devices_taken, distinct, first_absent, first_used, flight_of, has_path, is_called, name_given, row_of, takes_path, uses}
use Rattle.st_model.specs.Parts.{pool_at}
use Rattle.st_model.specs.Plain.{plain}
use Rattle.st_model.specs.Step.{is_changed, outcome, usual, wrote}
use Rattle.st_model.specs.Valid.{AreTaken, AreThere, IsAccepted, IsOn, IsRow, IsValid, is_there}
use Rattle.st_model.specs.ValidPool.{IsBefore, IsHalted, IsValidIn, IsWhole}
use Rattle.st_model.specs.steps.AddDevices.{Adding, add_answers, add_devices, add_found, with_devices}
use Rattle.st_model.proofs.AddKind.{All-new}
use Rattle.st_model.proofs.Alone.{alone_before}
use Rattle.st_model.proofs.Among.{IsPlaced, self, up}
use Rattle.st_model.proofs.Answers0.{IsNoChange, changed-unanswered, no_change_by, no_change_where}
use Rattle.st_model.proofs.CreateKind.{each_among}
use Rattle.st_model.proofs.EachKind.{IsGood}
use Rattle.st_model.proofs.Flights as flights
use Rattle.st_model.proofs.Flights.{find_none, found-holds, none_first}
use Rattle.st_model.proofs.FoundByLaw.{before_of, before-valid, found_by-law, unchanged}
use Rattle.st_model.proofs.Fresh.{FreeOf}
use Rattle.st_model.proofs.Kept.{alone_of, changed-good}
use Rattle.st_model.proofs.Lists.{All-weaker, at_path, filter-passes}
use Rattle.st_model.proofs.Replaced.{SharesLess, up-less}
use Rattle.st_model.proofs.Totals.{fewer}
use Rattle.st_model.proofs.ValidAdding.{IsAddable, IsAdding, IsWithout, Takes, add-valid, addable, all_without, row_either, takes-apart}
use Rattle.st_model.proofs.ValidMaking.{has_row}
use Rattle.st_model.proofs.ValidRenameFailed.{up_no_change}
use Rattle.st_model.proofs.ValidStart.{IsValidAfter, own_after, where-valid}
use Rattle.st_model.proofs.Whole.{cooled-halted}

either : (a b : Bool) → (a || b) ≡ true → (a ≡ true) ⊎ (b ≡ true)
either true b h = inl refl
either false b h = inr h

or_left : (a b : Bool) → a ≡ true → (a || b) ≡ true
or_left true b h = refl
or_left false b h = absurd cc

or_right : (a b : Bool) → b ≡ true → (a || b) ≡ true
or_right true b h = refl
or_right false b h = h

no_more : (a b : Bool) → (a || b) ≡ false → (a || false) ≡ false
no_more true b h = absurd cc
no_more false b h = refl

not_zero : (n : ℕ) → (suc n == 0) ≡ false
not_zero n = grind (arith, common_steps)

-- what each of the three calls is
pub record IsAddCall (a : Adding) (make : Text → List Text → Call) : Type 0 where
  pub adding : IsAdding a
  pub of_plain : (s : EngineState) (name : Text) (devices : List Text) → plain s (make name devices) ≡ Some (add_devices a name devices s)
  pub of_outcome : (s : EngineState) (name : Text) (devices : List Text) (env : Env) → outcome s (make name devices) env ≡ usual s (make name devices) env
  pub of_flight : (s : EngineState) (name : Text) (devices : List Text) → in_flight s (make name devices) ≡ Some (name, make name (new_to (paths_in a.there (pool_at name s.pools)) devices))
  pub of_wrote : (s : EngineState) (name : Text) (devices : List Text) → wrote s (make name devices) ≡ is_changed (plain s (make name devices))
  pub takes : (name : Text) (devices : List Text) → devices_taken (make name devices) ≡ devices
  pub gives : (name : Text) (devices : List Text) → name_given (make name devices) ≡ None
  pub on : (n name : Text) (devices : List Text) → name ≡ n → IsOn n (make name devices)
  pub before : (name : Text) (devices : List Text) (p : PoolState) → IsHalted p → IsBefore p (make name devices)
  pub alone : (rows : List DevRow) (p : PoolState) (name : Text) (devices : List Text) → alone_before rows p (make name devices) ≡ alone_of rows p

down_takes : (call : Call) (new : List Text) → devices_taken call ≡ new → name_given call ≡ None → (p : PoolState) → p.mode ≡ Up → Takes new p (down call p)
down_takes call new takes gives p up = record {
  serial = refl;
  names = λ n. rw (gives, up) refl;
  devices = λ path h. here path (either (is_some (row_of path p.devices)) (has_path path (devices_taken call)) h);
}
  where
    here : (path : Text) → (is_some (row_of path p.devices) ≡ true) ⊎ (has_path path (devices_taken call) ≡ true) → (uses path p ≡ true) ⊎ (has_path path new ≡ true)
    here path (inl e) = inl (or_left (is_some (row_of path p.devices)) _ e)
    here path (inr e) = inr (subst (λ (l : List Text). has_path path l ≡ true) takes e)

-- what was new to the tier is new to it still
still_new : (tier new : List Text) → (length new == 0) ≡ false → AllByRecursion (λ path. not (has_path path tier) ≡ true) new → (length (new_to tier new) == 0) ≡ false
still_new tier [] h g = absurd cc
still_new tier (x ∷ xs) h g =
    let rest = filter (λ path. not (has_path path tier)) (Rattle.st_model.specs.Look.without x (distinct xs)) in
    ap (λ (b : Bool). length (cond b (x ∷ rest) rest) == 0) g.0 ∙ not_zero (length rest)

-- the pool alone, once its write failed, would be answered Ok again
alone-added : (a : Adding) → IsAdding a → (s : EngineState) (call : Call) (name : Text) (new : List Text) (p : PoolState) → p.name ≡ name → IsWithout new p → IsAddable a s p new
    → AllByRecursion (λ path. not (has_path path (a.there p.devices)) ≡ true) new → (add_devices a name new (alone_of s.devices (down call p))).0.code ≡ 0
unfolding add_devices
alone-added a adding s call name new p named free ok outside =
    let r : PoolState = up (down call p) in
    let alone : EngineState = alone_of s.devices (down call p) in
    let again = new_to (a.there p.devices) new in
    let at : pool_at name (r ∷ []) ≡ Some r = rw (named, self name) refl in
    let absent : first_absent new s.devices ≡ None = find_none _ new (All-weaker _ _ new (λ path. flights.there_is (row_of path s.devices)) ok.there) in
    let unused : first_used again (r ∷ []) ≡ None =
    find_none _ again (All-weaker _ _ again (flights.no_user (r ∷ [])) (All-new (FreeOf (r ∷ [])) (a.there p.devices) new (All-weaker _ _ new (λ path h. (no_more (is_some (row_of path p.devices)) _ h, tt)) free))) in
    let large : first_small again s.devices ≡ None =
    find_none _ again (All-weaker _ _ again (λ path. flights.no_less (sectors_of path s.devices)) (All-new (λ path. 8192 ≤ sectors_of path s.devices) (a.there p.devices) new ok.large)) in
    let first = fewer (λ path. not (has_path path (a.there p.devices))) (distinct new) in
    let second = flights.distinct_shorter new in
    let few = ok.few in
    let none : first_answer (add_answers a alone new again r) ≡ None =
    none_first (add_answers a alone new again r) (
      refl,
      (
        ap (λ b. refused_where b EmptyDevices) ok.some,
        (
          ap (λ o. refused_by (option_map NoSuchDevice o)) absent,
          (
            ap (λ b. cond b (Some (accepted (Added false []))) None) (still_new (a.there p.devices) new ok.some outside),
            (
              adding.cold p.cache ok.refusal,
              (
                ap (λ o. refused_by (in_use (r ∷ []) o)) unused,
                (
                  ap (λ o. refused_by (option_map DeviceTooSmall o)) large,
                  (ap (λ b. refused_where b TooManyDevices) (flights.not_many (length p.devices + length again) (omega (arith, first, second, few))), (ok.fresh, tt)),
                ),
              ),
            ),
          ),
        ),
      ),
    ) in
    ap (λ o. (add_found a alone name new o).0.code) at
    ∙ ap (λ x. (unless_answered x alone (accepted (Added true again), changed name (with_devices a s.devices again) alone)).0.code) none

none_new : (b : Bool) → IsNoChange (cond b (Some (accepted (Added false []))) None)
none_new true = refl
none_new false = tt

no_change : (a : Adding) → IsAdding a → (s : EngineState) (devices new : List Text) (p : PoolState) → AllByRecursion IsNoChange (add_answers a s devices new p)
no_change a adding s devices new p =
    (up_no_change p p.mode, (no_change_where _ EmptyDevices, (no_change_by _, (none_new _, (adding.no_change p.cache, (no_change_by _, (no_change_by _, (no_change_where _ TooManyDevices, (no_change_where _ Worn, tt)))))))))

down-good : (a : Adding) (make : Text → List Text → Call) → IsAddCall a make → (s : EngineState) (name : Text) (new : List Text) (p : PoolState) → p.mode ≡ Up → p.name ≡ name → IsWithout new p → IsAddable a s p new
    → AllByRecursion (λ path. not (has_path path (a.there p.devices)) ≡ true) new → IsGood s.next s.devices p → IsGood s.next s.devices (down (make name new) p)
down-good a make c s name new p is_up named free ok outside good =
    let call = make name new in
    let old : IsWhole p = subst (λ (m : PoolMode). IsValidIn p m) is_up good.valid.state in
    let there : AllByRecursion (IsRow s.devices) p.devices = subst (λ (m : PoolMode). AreThere s.devices p m) is_up good.there in
    let taken : AreTaken s.devices call = subst (λ (l : List Text). AllByRecursion (λ path. is_there s.devices path ≡ true) l) (sym (c.takes name new)) ok.there in
    let alone : plain (alone_before s.devices (down call p) call) call ≡ Some (add_devices a name new (alone_of s.devices (down call p))) =
    c.of_plain (alone_before s.devices (down call p) call) name new ∙ ap (λ (t : EngineState). Some (add_devices a name new t)) (c.alone s.devices (down call p) name new) in
    record {
      valid = record { serial = good.valid.serial; from_one = good.valid.from_one; devices = good.valid.devices; state = c.before name new (down call p) (cooled-halted p (Down call) old) };
      there = (there, taken);
      on = c.on p.name name new (sym named);
      flight = subst IsAccepted (sym alone) (alone-added a c.adding s call name new p named free ok outside);
    }

pub add_failed-valid : (a : Adding) (make : Text → List Text → Call) → IsAddCall a make → (s : EngineState) (name : Text) (devices : List Text) → is_changed (plain s (make name devices)) ≡ true → IsValid s
    → IsValid (changed name (down (make name (new_to (paths_in a.there (pool_at name s.pools)) devices))) s)
unfolding add_devices
add_failed-valid a make c s name devices h v = here (pool_at name s.pools) refl (subst (λ (o : Outcome). is_changed o ≡ true) (c.of_plain s name devices) h)
  where
    done : (p : PoolState) → pool_at name s.pools ≡ Some p → first_answer (add_answers a s devices (new_to (a.there p.devices) devices) p) ≡ None → IsValid (changed name (down (make name (new_to (a.there p.devices) devices))) s)
    done p at none =
        let new = new_to (a.there p.devices) devices in
        let call = make name new in
        let ok = addable a s devices p none in
        let outside : AllByRecursion (λ path. not (has_path path (a.there p.devices)) ≡ true) new = filter-passes (λ path. not (has_path path (a.there p.devices))) (distinct devices) in
        changed-good s name (down call) v (takes-apart s name new (down call) ok.free (down_takes call new (c.takes name new) (c.gives name new)) v.apart)
        (λ q o good.
        let same : q ≡ p = (let e : Some q ≡ Some p = sym o.found ∙ at in cc) in
        down-good a make c s name new q o.is_up o.named (found-holds (IsWithout new) (is_called name) s.pools q (all_without s.pools new ok.free) o.found)
        (subst (λ (x : PoolState). IsAddable a s x new) (sym same) ok)
        (subst (λ (x : PoolState). AllByRecursion (λ path. not (has_path path (a.there x.devices)) ≡ true) new) (sym same) outside) good)

    here : (o : Option PoolState) → pool_at name s.pools ≡ o → is_changed (Some (add_found a s name devices o)) ≡ true → IsValid (changed name (down (make name (new_to (paths_in a.there o) devices))) s)
    here None at h = absurd cc
    here (Some p) at h =
        done p at (changed-unanswered (add_answers a s devices (new_to (a.there p.devices) devices) p) s _ (no_change a c.adding s devices (new_to (a.there p.devices) devices) p) h)

-- found done
was_given : (tier devices : List Text) (path : Text) → has_path path (new_to tier devices) ≡ true → has_path path devices ≡ true
was_given tier devices path h = at_path (λ x. has_path x devices ≡ true) path (new_to tier devices) (All-new (λ x. has_path x devices ≡ true) tier devices (each_among devices)) h

added_less : (a : Adding) (make : Text → List Text → Call) → IsAddCall a make → (rack : List DevRow) (p : PoolState) (name : Text) (tier devices : List Text) → flight_of p.mode ≡ Some (make name devices) → SharesLess p (with_devices a rack (new_to tier devices) (up p))
added_less a make c rack p name tier devices flight = record {
  serial = refl;
  names = (up-less p).names;
  devices = λ path h. here path (either (is_some (row_of path (p.devices ++ rows_on a.tier rack (new_to tier devices)))) false h);
}
  where
    of_row : (path : Text) → (is_some (row_of path p.devices) ≡ true) ⊎ (is_some (row_of path (rows_on a.tier rack (new_to tier devices))) ≡ true) → uses path p ≡ true
    of_row path (inl e) = or_left (is_some (row_of path p.devices)) _ e
    of_row path (inr e) =
        or_right (is_some (row_of path p.devices)) _ (ap (takes_path path) flight ∙ ap (has_path path) (c.takes name devices) ∙ was_given tier devices path (has_row path a.tier rack (new_to tier devices) e))

    here : (path : Text) → (is_some (row_of path (p.devices ++ rows_on a.tier rack (new_to tier devices))) ≡ true) ⊎ (false ≡ true) → uses path p ≡ true
    here path (inl e) = of_row path (row_either path p.devices (rows_on a.tier rack (new_to tier devices)) e)
    here path (inr e) = absurd cc

pub found_added-valid : (a : Adding) (make : Text → List Text → Call) → IsAddCall a make → (s : EngineState) (p : PoolState) (name : Text) (devices : List Text) → IsValid s → IsPlaced s.devices s.pools p → IsHalted p → AllByRecursion (IsRow s.devices) p.devices
    → IsGood s.next s.devices p → name ≡ p.name → flight_of p.mode ≡ Some (make name devices) → IsValidAfter (found_after_of s p (before_of s p) (Some (add_devices a name devices (before_of s p))))
unfolding add_devices
found_added-valid a make c s p name devices v placed halted there good e flight =
    where-valid _ _ (found_by-law s p (add_found a before name devices (pool_at name before.pools)).1 v placed (add-valid a c.adding before name devices (before-valid s p v placed halted there good)) (stays (pool_at name before.pools)).0 (stays (pool_at name before.pools)).1 (parts (pool_at name before.pools)))
  where
    before : EngineState
    before = before_of s p

    new_of : PoolState → List Text
    new_of x = new_to (a.there x.devices) devices

    after_of : PoolState → EngineState
    after_of x = changed name (with_devices a s.devices (new_of x)) before

    unless_stays : (x : PoolState) (q : Option Reply) (r : Reply) → ((unless_answered q before (r, after_of x)).1.next ≡ s.next) × ((unless_answered q before (r, after_of x)).1.devices ≡ s.devices)
    unless_stays x None r = (refl, refl)
    unless_stays x (Some q) r = (refl, refl)

    stays : (o : Option PoolState) → ((add_found a before name devices o).1.next ≡ s.next) × ((add_found a before name devices o).1.devices ≡ s.devices)
    stays None = (refl, refl)
    stays (Some x) = unless_stays x (first_answer (add_answers a before devices (new_of x) x)) _

    at_before : with_own_serial p.serial before ≡ Some (up p)
    at_before = ap (λ l. find (λ (x : PoolState). x.serial == p.serial) l) (sym (unchanged name before.pools)) ∙ own_after name (λ x. x) s.devices p s.pools e refl placed.beside placed.among

    own_part : (x : PoolState) (q : PoolState) → (x.mode ≡ Up) × SharesLess p x → Some x ≡ Some q → (q.mode ≡ Up) × SharesLess p q
    own_part x q h e = let same : x ≡ q = cc in subst (λ (y : PoolState). (y.mode ≡ Up) × SharesLess p y) same h

    of_before : (q : PoolState) → with_own_serial p.serial before ≡ Some q → (q.mode ≡ Up) × SharesLess p q
    of_before q h = own_part (up p) q (refl, up-less p) (sym at_before ∙ h)

    of_added : (x q : PoolState) → with_own_serial p.serial (after_of x) ≡ Some q → (q.mode ≡ Up) × SharesLess p q
    of_added x q h =
        own_part (with_devices a s.devices (new_of x) (up p)) q (refl, added_less a make c s.devices p name (a.there x.devices) devices flight)
        (sym (own_after name (with_devices a s.devices (new_of x)) s.devices p s.pools e refl placed.beside placed.among) ∙ h)

    unless_parts : (x : PoolState) (y : Option Reply) (r : Reply) (q : PoolState) → with_own_serial p.serial (unless_answered y before (r, after_of x)).1 ≡ Some q → (q.mode ≡ Up) × SharesLess p q
    unless_parts x None r q h = of_added x q h
    unless_parts x (Some y) r q h = of_before q h

    parts : (o : Option PoolState) (q : PoolState) → with_own_serial p.serial (add_found a before name devices o).1 ≡ Some q → (q.mode ≡ Up) × SharesLess p q
    parts None q h = of_before q h
    parts (Some x) q h = unless_parts x (first_answer (add_answers a before devices (new_of x) x)) _ q h
