-- validity is kept where one pool is changed, and stays good
use Rattle.std.proofs.Common.{◌≡◌, ℕ, ◌==◌, ◌&&◌, List, [], ◌∷◌, Bool, true, false, cond, map, Some, None, refl, sym, ap, ◌∙◌, subst, arith}
use Rattle.std.specs.List.{AllByRecursion, find}
use Rattle.std.proofs.lemmas.Grind.{common_steps}
use Rattle.std.proofs.lemmas.List.{length-map}
use Rattle.std.proofs.lemmas.Slice.Eq.{bytes_eq-Decides}
use Rattle.st_units.specs.declared.rows.DevRow.{DevRow}
use Rattle.st_model.specs.declared.call.Call.{Call}
use Rattle.st_model.specs.declared.state.EngineState.{EngineState}
use Rattle.st_model.specs.declared.state.PoolMode.{PoolMode}
use Rattle.st_model.specs.declared.state.PoolMode.TheVariants.{Up, Down, Stopped, Unsettled, Incomplete}
use Rattle.st_model.specs.declared.state.PoolState.{PoolState}
use Rattle.st_model.specs.Look.{Text, holds, uses, is_called, is_up, devices_taken, name_given}
use Rattle.st_model.specs.Valid.{Apart, AreThere, AreTaken, IsAccepted, is_there, IsOn, IsOnIfAny, IsValid}
use Rattle.st_model.specs.ValidPool.{EachPair, IsValidIn, IsBefore, IsWhole, IsHalted}
use Rattle.st_model.proofs.Lists.{All-map, EachPair-map, All-weaker}
use Rattle.st_model.specs.Checks.{down}
use Rattle.st_model.specs.Step.{changes, is_changed, is_ok}
use Rattle.st_model.specs.Lifted.{answer_of, answer_in, is_known, Doing, IsWithin, SameOutside, on_pool, changed, one_changed, runs_as}
use Rattle.st_model.specs.Parts.{own}
use Rattle.st_model.specs.Plain.{plain}
use Rattle.st_model.proofs.Alone.{alone_before}
use Rattle.st_model.proofs.Among.{IsPlaced, all_placed, All-with, own_now, any_now, up, self}
use Rattle.st_model.proofs.EachKind.{IsGood, valid-good, good-valid}
use Rattle.st_model.proofs.Whole.{cooled-halted}
use Rattle.st_model.specs.declared.reply.Reply.{Reply}

-- what others see of the pool is the same
pub record SharesAs (p q : PoolState) : Type 0 where
  pub serial : q.serial ≡ p.serial
  pub names : (n : Text) → holds n q ≡ holds n p
  pub devices : (path : Text) → uses path q ≡ uses path p

shares_self : (p : PoolState) → SharesAs p p
shares_self p = record { serial = refl; names = λ n. refl; devices = λ path. refl }

apart_too : (rows : List DevRow) (p q u v : PoolState) → SharesAs p u → SharesAs q v → Apart rows p q → Apart rows u v
apart_too rows p q u v a b h = record {
  names = λ n x y. h.names n (sym (a.names n) ∙ x) (sym (b.names n) ∙ y);
  serials = rw (a.serial, b.serial) h.serials;
  devices = λ path t x y. h.devices path t (sym (a.devices path) ∙ x) (sym (b.devices path) ∙ y);
}

-- the pool is one of the state, up, and found by its name
pub record IsOwn (s : EngineState) (name : Text) (p : PoolState) : Type 0 where
  pub is_up : p.mode ≡ Up
  pub named : p.name ≡ name
  pub own : own name s ≡ Some p
  pub found : find (is_called name) s.pools ≡ Some p
  pub placed : IsPlaced s.devices s.pools p

pub up_mode : (m : PoolMode) → is_up m ≡ true → m ≡ Up
up_mode Up h = refl
up_mode (Down call) h = absurd cc
up_mode Stopped h = absurd cc
up_mode (Unsettled call) h = absurd cc
up_mode (Incomplete path) h = absurd cc

both : (a b : Bool) → (a && b) ≡ true → (a ≡ true) × (b ≡ true)
both true true h = (refl, refl)
both true false h = absurd cc
both false b h = absurd cc

pub own_of : (s : EngineState) (name : Text) (p : PoolState) → IsPlaced s.devices s.pools p → runs_as name p ≡ true → IsOwn s name p
own_of s name p placed h =
    let runs = both (is_up p.mode) (is_called name p) h in
    let up = up_mode p.mode runs.0 in
    let named : p.name ≡ name = (bytes_eq-Decides p.name name).0 runs.1 in
    record {
      is_up = up;
      named = named;
      own = subst (λ (n : Text). own n s ≡ Some p) named (own_now s.devices p s.pools placed.beside placed.among (rw up refl));
      found = subst (λ (n : Text). find (is_called n) s.pools ≡ Some p) named (any_now s.devices p s.pools placed.beside placed.among);
      placed = placed;
    }

one_good : (s : EngineState) (name : Text) (g : PoolState → PoolState) → ((p : PoolState) → IsOwn s name p → IsGood s.next s.devices p → IsGood s.next s.devices (g p))
    → (p : PoolState) → IsPlaced s.devices s.pools p → IsGood s.next s.devices p → IsGood s.next s.devices (one_changed name g p)
one_good s name g h p placed good = here (runs_as name p) refl
  where
    here : (b : Bool) → runs_as name p ≡ b → IsGood s.next s.devices (cond b (g p) p)
    here true e = h p (own_of s name p placed e) good
    here false e = good

one_shares : (name : Text) (g : PoolState → PoolState) → ((p : PoolState) → p.mode ≡ Up → SharesAs p (g p)) → (p : PoolState) → SharesAs p (one_changed name g p)
one_shares name g h p = here (runs_as name p) refl
  where
    here : (b : Bool) → runs_as name p ≡ b → SharesAs p (cond b (g p) p)
    here true e = h p (up_mode p.mode (both (is_up p.mode) (is_called name p) e).0)
    here false e = shares_self p

module _ {X : Type 0} where
  pub EachPair-weaker : (R Q : X → X → Type 0) (xs : List X) → ((x y : X) → R x y → Q x y) → EachPair R xs → EachPair Q xs
  EachPair-weaker R Q [] f h = tt
  EachPair-weaker R Q (x ∷ xs) f h = (All-weaker _ _ xs (f x) h.0, EachPair-weaker R Q xs f h.1)

-- the pools are apart still, and the changed one is good
pub changed-good : (s : EngineState) (name : Text) (g : PoolState → PoolState) → IsValid s → EachPair (Apart s.devices) (map (one_changed name g) s.pools)
    → ((p : PoolState) → IsOwn s name p → IsGood s.next s.devices p → IsGood s.next s.devices (g p)) → IsValid (changed name g s)
changed-good s name g v apart h =
    good-valid (changed name g s) (record { from_one = v.from_one; bounded = v.bounded; rack = v.rack; count = rw (length-map s.pools (one_changed name g)) v.count }) apart
    (All-map _ (one_changed name g) s.pools (All-with _ _ _ s.pools (one_good s name g h) (all_placed s.devices s.pools v.apart) (valid-good s v)))

-- a change that others don't see
pub changed-valid : (s : EngineState) (name : Text) (g : PoolState → PoolState) → IsValid s → ((p : PoolState) → p.mode ≡ Up → SharesAs p (g p))
    → ((p : PoolState) → IsOwn s name p → IsGood s.next s.devices p → IsGood s.next s.devices (g p)) → IsValid (changed name g s)
changed-valid s name g v shares h =
    let each = one_shares name g shares in
    changed-good s name g v (EachPair-map (Apart s.devices) (one_changed name g) s.pools (EachPair-weaker _ _ s.pools (λ p q. apart_too s.devices p q _ _ (each p) (each q)) v.apart)) h

-- within a pool: all that is left to show of a call is that its pool stays whole
within_shares : (f : Doing) → IsWithin f → (p : PoolState) → p.mode ≡ Up → SharesAs p (f p).1
within_shares f within p up =
    let w = within p in
    record { serial = w.serial; names = λ n. rw (w.name, w.mode) refl; devices = λ path. rw (w.devices, w.mode) refl }

pub up_good : (next : ℕ) (rows : List DevRow) (p q : PoolState) → p.mode ≡ Up → IsGood next rows p → SameOutside p q → (IsWhole p → IsWhole q) → IsGood next rows q
up_good next rows p q up good w whole =
    let mode : q.mode ≡ Up = w.mode ∙ up in
    let old : IsWhole p = subst (λ (m : PoolMode). IsValidIn p m) up good.valid.state in
    let there : AllByRecursion (Rattle.st_model.specs.Valid.IsRow rows) p.devices = subst (λ (m : PoolMode). AreThere rows p m) up good.there in
    record {
      valid = record {
        serial = rw w.serial good.valid.serial;
        from_one = rw w.serial good.valid.from_one;
        devices = rw w.devices good.valid.devices;
        state = subst (λ (m : PoolMode). IsValidIn q m) (sym mode) (whole old);
      };
      there = subst (λ (m : PoolMode). AreThere rows q m) (sym mode) (rw w.devices there);
      on = rw mode tt;
      flight = rw mode tt;
    }

pub doing-valid : (s : EngineState) (name : Text) (f : Doing) → IsWithin f → ((p : PoolState) → IsWhole p → IsWhole (f p).1) → IsValid s → IsValid (on_pool name f s).1
unfolding on_pool
doing-valid s name f within whole v =
    changed-valid s name (λ p. (f p).1) v (within_shares f within) (λ p o good. up_good s.next s.devices p (f p).1 o.is_up good (within p) (whole p))

-- a write that failed in a call that takes no device and gives no name
pub down_shares : (call : Call) → devices_taken call ≡ [] → name_given call ≡ None → (p : PoolState) → p.mode ≡ Up → SharesAs p (down call p)
down_shares call none new p up = record { serial = refl; names = λ n. rw (new, up) refl; devices = λ path. rw (none, up) refl }

pub down_good : (next : ℕ) (rows : List DevRow) (p : PoolState) (call : Call) → p.mode ≡ Up → IsGood next rows p → IsOn p.name call → devices_taken call ≡ [] → (IsHalted (down call p) → IsBefore (down call p) call)
    → IsAccepted (plain (alone_before rows (down call p) call) call) → IsGood next rows (down call p)
down_good next rows p call up good on none before accepted =
    let old : IsWhole p = subst (λ (m : PoolMode). IsValidIn p m) up good.valid.state in
    let there : AllByRecursion (Rattle.st_model.specs.Valid.IsRow rows) p.devices = subst (λ (m : PoolMode). AreThere rows p m) up good.there in
    record {
      valid = record { serial = good.valid.serial; from_one = good.valid.from_one; devices = good.valid.devices; state = before (cooled-halted p (Down call) old) };
      there = (there, rw none tt);
      on = on;
      flight = accepted;
    }

-- the state with the pool alone, started
abbrev pub alone_of : List DevRow → PoolState → EngineState
alone_of rows p = record { pools = up p ∷ []; devices = rows; next = 0 }

alone-accepted : (name : Text) (f : Doing) (rows : List DevRow) (p : PoolState) → name ≡ p.name → (f (up p)).0.code ≡ 0 → (on_pool name f (alone_of rows p)).0.code ≡ 0
unfolding on_pool
alone-accepted name f rows p e h =
    let own : own name (alone_of rows p) ≡ Some (up p) = rw (e, self p.name) refl in
    ap (λ o. (answer_of (λ q. (f q).0) (is_known name (alone_of rows p)) o).code) own ∙ h

-- what a write that failed leaves of a call within a pool that changed something: valid, if the pool alone, once its
-- cache is cold, would be answered Ok again
pub failed-valid : (s : EngineState) (name : Text) (call : Call) (f : Doing) → plain s call ≡ Some (on_pool name f s) → devices_taken call ≡ [] → name_given call ≡ None
    → ((p : PoolState) → IsHalted (down call p) → IsBefore (down call p) call)
    → ((n : Text) → name ≡ n → IsOn n call)
    → ((rows : List DevRow) (p : PoolState) → plain (alone_before rows (down call p) call) call ≡ Some (on_pool name f (alone_of rows (down call p))))
    → ((p : PoolState) → (((f p).0.code == 0) && changes (f p).0.result) ≡ true → (f (up (down call p))).0.code ≡ 0)
    → is_changed (plain s call) ≡ true → IsValid s → IsValid (changed name (down call) s)
unfolding on_pool
failed-valid s name call f is none new before on alone again h v =
    let answered : is_changed (Some (on_pool name f s)) ≡ true = subst (λ (o : Rattle.st_model.specs.Local.Outcome). is_changed o ≡ true) is h in
    changed-valid s name (down call) v (down_shares call none new)
    (λ p o good.
    let same : (on_pool name f s).0 ≡ (f p).0 = ap (answer_of (λ q. (f q).0) (is_known name s)) o.own ∙ ap (answer_in (λ q. (f q).0) p) o.is_up in
    down_good s.next s.devices p call o.is_up good (on p.name (sym o.named)) none (before p)
    (subst IsAccepted (sym (alone s.devices p)) (alone-accepted name f s.devices (down call p) (sym o.named) (again p (subst (λ (r : Reply). ((r.code == 0) && changes r.result) ≡ true) same answered)))))

-- the same of a call that may write without a change of its pool's records
pub failed_ok-valid : (s : EngineState) (name : Text) (call : Call) (f : Doing) → plain s call ≡ Some (on_pool name f s) → devices_taken call ≡ [] → name_given call ≡ None
    → ((p : PoolState) → IsHalted (down call p) → IsBefore (down call p) call)
    → ((n : Text) → name ≡ n → IsOn n call)
    → ((rows : List DevRow) (p : PoolState) → plain (alone_before rows (down call p) call) call ≡ Some (on_pool name f (alone_of rows (down call p))))
    → ((p : PoolState) → (f (up (down call p))).0.code ≡ (f p).0.code)
    → is_ok (plain s call) ≡ true → IsValid s → IsValid (changed name (down call) s)
unfolding on_pool
failed_ok-valid s name call f is none new before on alone again h v =
    let answered : is_ok (Some (on_pool name f s)) ≡ true = subst (λ (o : Rattle.st_model.specs.Local.Outcome). is_ok o ≡ true) is h in
    changed-valid s name (down call) v (down_shares call none new)
    (λ p o good.
    let same : (on_pool name f s).0 ≡ (f p).0 = ap (answer_of (λ q. (f q).0) (is_known name s)) o.own ∙ ap (answer_in (λ q. (f q).0) p) o.is_up in
    let zero : (f p).0.code ≡ 0 = is_zero (f p).0.code (subst (λ (r : Reply). (r.code == 0) ≡ true) same answered) in
    down_good s.next s.devices p call o.is_up good (on p.name (sym o.named)) none (before p)
    (subst IsAccepted (sym (alone s.devices p)) (alone-accepted name f s.devices (down call p) (sym o.named) (again p ∙ zero))))
  where
    is_zero : (n : ℕ) → (n == 0) ≡ true → n ≡ 0
    is_zero n h = grind (arith, common_steps)
