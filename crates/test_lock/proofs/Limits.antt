-- what SetFsLimit on a ticket's cell gives back is what release asks
use Rattle.std.proofs.Common.{ℕ, ◌≡◌, ◌≤◌, ◌==◌, ◌||◌, inl, inr, length, arith, Bool, true, false, cond, List, [], ◌∷◌, Option, Some, None, Result, Ok, Err, slice_get, slice_set, refl, ap, sym, ◌∙◌, subst}
use Rattle.std.specs.Prelude.{IfOk, IfSome, OnErr, bytes_eq, option_map}
use Rattle.std.specs.List.{AllByRecursion, IsDistinct}
use Rattle.std.specs.Cmp.Lexicographic.{nat_list_eq_equiv}
use Rattle.std.proofs.lemmas.Slice.Eq.{bytes_eq-Decides}
use Rattle.st_units.specs.declared.cause.Cause.{Cause}
use Rattle.st_units.specs.declared.cause.Cause.TheVariants.{BadSize, LimitLower, OutOfMemory, Worn}
use Rattle.st_units.specs.declared.memory.NoMemory.{NoMemory}
use Rattle.st_wants.specs.Names.{is_named}
use Rattle.st_wants.specs.Wants.{writes}
use Rattle.st_model.specs.declared.call.Call.{Call}
use Rattle.st_model.specs.declared.call.Call.TheVariants.{SetFsLimit}
use Rattle.st_model.specs.declared.entry.Entry.{Entry}
use Rattle.st_model.specs.declared.entry.Env.TheVariants.{Plain, NoMem}
use Rattle.st_model.specs.declared.entry.Origin.TheVariants.{Line}
use Rattle.st_model.specs.declared.reply.Given.TheVariants.{Done}
use Rattle.st_model.specs.declared.reply.Reply.{Reply}
use Rattle.st_model.specs.declared.state.EngineState.{EngineState}
use Rattle.st_model.specs.declared.state.PoolMode.{PoolMode}
use Rattle.st_model.specs.declared.state.PoolMode.TheVariants.{Up, Down, Stopped, Unsettled, Incomplete}
use Rattle.st_model.specs.declared.state.PoolState.{PoolState}
use Rattle.st_model.specs.declared.state.TableState.{TableState}
use Rattle.st_model.specs.Answer.{accepted, code_of, first_answer, refused, refused_where, unless_answered}
use Rattle.st_model.specs.Checks.{not_up}
use Rattle.st_model.specs.Lifted.{Keeps, SameOutside, answer_in, answer_of, changed, is_known, on_pool, one_changed}
use Rattle.st_model.specs.Look.{Text, is_called, is_started}
use Rattle.st_model.specs.Parts.{own, pool_at, started, table_of}
use Rattle.st_model.specs.Pieces.{AreNamedApart, ArePools}
use Rattle.st_model.specs.Step.{IsLicensed, step}
use Rattle.st_model.specs.Sums.{AreSmall}
use Rattle.st_model.specs.Valid.{IsValid}
use Rattle.st_model.specs.ValidPool.{IsValidIn, IsValidPool, IsWhole}
use Rattle.st_model.specs.Wanted.{want_of}
use Rattle.st_model.specs.steps.SetFsLimit.{limit_answers, set_fs_limit}
use Rattle.st_model.proofs.Flights.{found-holds}
use Rattle.st_model.proofs.Inner.{unless_within}
use Rattle.st_model.proofs.Lifting.{own_changed, within_keeps}
use Rattle.st_model.proofs.Lists.{All-filter}
use Rattle.st_model.proofs.LocalCalls.{limit-within}
use Rattle.st_history.specs.Failures.{is_failure}
use Rattle.st_history.specs.History.{IsNotPrepare, IsShort}
use Rattle.st_book.specs.Effects.{table_given}
use Rattle.st_book.specs.Stands.{ComesBack, PartStands}
use Rattle.st_book.specs.View as book
use Rattle.st_plain.specs.Views.{CellView, TableView, pools_of}
use Rattle.test_lock.specs.Creating.{IsModels}
use Rattle.test_lock.specs.Setting.{AreOf, HasSet, IsSet, is_setting, limit_in, limited, pool_in}
use Rattle.test_lock.proofs.Created.{shown-still, viewed}
use Rattle.test_lock.proofs.Refusals.{in_state, refused-outcome, refused-step}

-- ---- the call

setting_is : (call : Call) → is_setting call ≡ true → call ≡ SetFsLimit (pool_in call) (limit_in call)
setting_is (SetFsLimit pool limit) h = refl
setting_is _ h = absurd cc

not_short : (s : EngineState) (call : Call) → is_setting call ≡ true → IsShort s call → ⊥
not_short s (SetFsLimit pool limit) h short = short
not_short s _ h short = absurd cc

licensed_plain : (s : EngineState) (call : Call) → is_setting call ≡ true → IsLicensed s call Plain
licensed_plain s (SetFsLimit pool limit) h = refl
licensed_plain s _ h = absurd cc

-- its ticket takes no table, whatever that is
no_table : (call : Call) (a b : TableState) → is_setting call ≡ true → table_given (want_of call) (Some a) ≡ table_given (want_of call) (Some b)
no_table (SetFsLimit pool limit) a b h = refl
no_table _ a b h = absurd cc

-- ---- the one cell

or_false : (b : Bool) → (b || false) ≡ true → b ≡ true
or_false true h = refl
or_false false h = absurd cc

in_names : (b : Bool) (o : Option PoolState) (p : PoolState) → Some p ≡ cond b o None → b ≡ true
in_names true o p h = refl
in_names false o p h = absurd cc

-- the pool is the started one of this name
record IsIt (s : EngineState) (name : Text) (p : PoolState) : Type 0 where
  named : p.name ≡ name
  own : own name s ≡ Some p

it : (s : EngineState) (name : Text) (p : PoolState) → ArePools (is_named (name ∷ [])) s (p ∷ []) → IsIt s name p
it s name p are =
    let mine : pool_at p.name (p ∷ []) ≡ Some p = ap (λ b. cond b (Some p) None) (nat_list_eq_equiv.refl p.name) in
    let given : Some p ≡ cond (is_named (name ∷ []) p.name) (own p.name s) None = sym mine ∙ are.found p.name in
    let there : is_named (name ∷ []) p.name ≡ true = in_names (is_named (name ∷ []) p.name) (own p.name s) p given in
    let same : name ≡ p.name = (bytes_eq-Decides name p.name).0 (or_false (bytes_eq name p.name) there) in
    let found : own p.name s ≡ Some p = in_state (is_named (name ∷ []) p.name) (own p.name s) p given in
    record { named = sym same; own = subst (λ (n : Text). own n s ≡ Some p) (sym same) found }

valid_own : (s : EngineState) (name : Text) (p : PoolState) → IsValid s → own name s ≡ Some p → IsValidPool s.next p
valid_own s name p v at = found-holds (IsValidPool s.next) (is_called name) (started s) p (All-filter (IsValidPool s.next) (λ (x : PoolState). is_started x.mode) s.pools v.pools) at

whole_up : (p : PoolState) (m : PoolMode) → IsValidIn p m → not_up p m ≡ None → IsWhole p
whole_up p Up h none = h
whole_up p (Down call) h none = absurd cc
whole_up p Stopped h none = absurd cc
whole_up p (Unsettled call) h none = absurd cc
whole_up p (Incomplete path) h none = absurd cc

pub single : (xs : List CellView) (c : CellView) → length xs ≡ 1 → slice_get xs 0 ≡ Some c → xs ≡ c ∷ []
single [] c h e = absurd cc
single (x ∷ []) c h e = let same : x ≡ c = cc in ap (λ (z : CellView). z ∷ []) same
single (x ∷ y ∷ ys) c h e = absurd (omega (arith, h))

-- the pools of the call's ticket, where it has one cell
one_of : (s : EngineState) (call : Call) (xs : List CellView) (c : CellView) → is_setting call ≡ true → xs ≡ c ∷ [] → AreOf s call xs → ArePools (is_named (pool_in call ∷ [])) s (c.pool ∷ [])
one_of s (SetFsLimit pool limit) xs c h one are = subst (λ (l : List CellView). ArePools (is_named (pool ∷ [])) s (pools_of l)) one are
one_of s _ xs c h one are = absurd cc

pub cell_small : (call : Call) (xs : List CellView) (c : CellView) → is_setting call ≡ true → xs ≡ c ∷ [] → (s : EngineState) × IsValid s × AreOf s call xs → AreSmall c.pool.devices
cell_small call xs c h one stands = (valid_own stands.0 (pool_in call) c.pool stands.1 (it stands.0 (pool_in call) c.pool (one_of stands.0 call xs c h one stands.2)).own).devices

pub cell_whole : (call : Call) (xs : List CellView) (c : CellView) → is_setting call ≡ true → xs ≡ c ∷ [] → (s : EngineState) × IsValid s × AreOf s call xs → not_up c.pool c.pool.mode ≡ None → IsWhole c.pool
cell_whole call xs c h one stands none = whole_up c.pool c.pool.mode (valid_own stands.0 (pool_in call) c.pool stands.1 (it stands.0 (pool_in call) c.pool (one_of stands.0 call xs c h one stands.2)).own).state none

-- ---- what the call makes of it

within : (limit : ℕ) (p : PoolState) → SameOutside p (limited limit p).1
within limit p = unless_within (not_up p p.mode) p (set_fs_limit limit p) (limit-within limit p)

pub same_devices : (limit : ℕ) (p copy q : PoolState) (reply : Reply) → copy ≡ p → (reply, q) ≡ limited limit copy → AreSmall p.devices → AreSmall q.devices
same_devices limit p copy q reply copied is small =
    let same : q ≡ (limited limit copy).1 = ap (λ (a : Reply × PoolState). a.1) is in
    let devices : q.devices ≡ p.devices = ap (λ (x : PoolState). x.devices) same ∙ (within limit copy).devices ∙ ap (λ (x : PoolState). x.devices) copied in
    subst AreSmall (sym devices) small

module _ (limit : ℕ) where
  one_limited : (name : Text) (p : PoolState) → p.name ≡ name → (limited limit p).1 ≡ one_changed name (λ q. (set_fs_limit limit q).1) p
  one_limited name p named = here p.mode refl
    where
      called : is_called name p ≡ true
      called = (bytes_eq-Decides p.name name).1 named

      here : (m : PoolMode) → p.mode ≡ m → (limited limit p).1 ≡ one_changed name (λ q. (set_fs_limit limit q).1) p
      here Up e = rw (e, called) refl
      here (Down call) e = rw e refl
      here Stopped e = rw e refl
      here (Unsettled call) e = rw e refl
      here (Incomplete path) e = rw e refl

  answer_limited : (b : Bool) (p : PoolState) → (limited limit p).0 ≡ answer_of (λ q. (set_fs_limit limit q).0) b (Some p)
  answer_limited b p = here p.mode refl
    where
      here : (m : PoolMode) → p.mode ≡ m → (limited limit p).0 ≡ answer_of (λ q. (set_fs_limit limit q).0) b (Some p)
      here Up e = rw e refl
      here (Down call) e = rw e refl
      here Stopped e = rw e refl
      here (Unsettled call) e = rw e refl
      here (Incomplete path) e = rw e refl

one_apart : (p : PoolState) → AreNamedApart (p ∷ [])
unfolding IsDistinct
one_apart p = (tt, tt)

given_map : (h : PoolState → PoolState) (b : Bool) (o : Option PoolState) → option_map h (cond b o None) ≡ cond b (option_map h o) None
given_map h true o = refl
given_map h false o = refl

at_map : (h : PoolState → PoolState) (n : Text) (p q : PoolState) → q.name ≡ p.name → q ≡ h p → option_map h (pool_at n (p ∷ [])) ≡ pool_at n (q ∷ [])
at_map h n p q named is = here (bytes_eq p.name n) ∙ ap (λ (m : Text). cond (bytes_eq m n) (Some q) None) (sym named)
  where
    here : (b : Bool) → option_map h (cond b (Some p) None) ≡ cond b (Some q) None
    here true = ap Some (sym is)
    here false = refl

pools_set : (s : EngineState) (name : Text) (limit : ℕ) (p q : PoolState) → p.name ≡ name → q ≡ (limited limit p).1 → ArePools (is_named (name ∷ [])) s (p ∷ [])
    → ArePools (is_named (name ∷ [])) (changed name (λ x. (set_fs_limit limit x).1) s) (q ∷ [])
pools_set s name limit p q named is are =
    let h : PoolState → PoolState = one_changed name (λ x. (set_fs_limit limit x).1) in
    let keeps : Keeps (λ x. (set_fs_limit limit x).1) = within_keeps (set_fs_limit limit) (limit-within limit) in
    let same : q.name ≡ p.name = ap (λ (x : PoolState). x.name) is ∙ (within limit p).name in
    record {
      apart = one_apart q;
      found = λ n.
          sym (at_map h n p q same (is ∙ one_limited limit name p named)) ∙ ap (option_map h) (are.found n)
          ∙ given_map h (is_named (name ∷ []) n) (own n s)
          ∙ ap (λ (o : Option PoolState). cond (is_named (name ∷ []) n) o None) (sym (own_changed name (λ x. (set_fs_limit limit x).1) keeps n s));
    }

is_set : (s : EngineState) (name : Text) (limit : ℕ) (c after : CellView) (reply : Reply) → ArePools (is_named (name ∷ [])) s (c.pool ∷ []) → (reply, after.pool) ≡ limited limit c.pool → after.spare ≡ true
    → IsSet s (SetFsLimit name limit) reply (after ∷ [])
unfolding on_pool
is_set s name limit c after reply are is spare =
    let i = it s name c.pool are in
    record {
      answer = ap (λ (a : Reply × PoolState). a.0) is ∙ answer_limited limit (is_known name s) c.pool ∙ ap (answer_of (λ q. (set_fs_limit limit q).0) (is_known name s)) (sym i.own);
      pools = pools_set s name limit c.pool after.pool i.named (ap (λ (a : Reply × PoolState). a.1) is) are;
      infos = (inl spare, tt);
    }

pub set_after : (s : EngineState) (call : Call) (xs after : List CellView) (c cell : CellView) (reply : Reply) → is_setting call ≡ true → xs ≡ c ∷ [] → after ≡ slice_set xs 0 cell → AreOf s call xs
    → (reply, cell.pool) ≡ limited (limit_in call) c.pool → cell.spare ≡ true → IsSet s call reply after
set_after s (SetFsLimit name limit) xs after c cell reply h one is are made spare =
    let left : after ≡ cell ∷ [] = is ∙ ap (λ (l : List CellView). slice_set l 0 cell) one in
    subst (λ (l : List CellView). IsSet s (SetFsLimit name limit) reply l) (sym left) (is_set s name limit c cell reply (subst (λ (l : List CellView). ArePools (is_named (name ∷ [])) s (pools_of l)) one are) made spare)
set_after s _ xs after c cell reply h one is are made spare = absurd cc

-- ---- it isn't answered with a fault of a device

abbrev IsCalm : Reply → Type 0
IsCalm r = (r.code == 27) ≡ false

abbrev IsCalmOr : Option Reply → Type 0
IsCalmOr None = Unit {0}
IsCalmOr (Some r) = IsCalm r

where_calm : (b : Bool) (cause : Cause) → (code_of cause == 27) ≡ false → IsCalmOr (refused_where b cause)
where_calm true cause h = h
where_calm false cause h = tt

first_calm : (answers : List (Option Reply)) → AllByRecursion IsCalmOr answers → IsCalmOr (first_answer answers)
first_calm [] h = tt
first_calm (None ∷ answers) h = first_calm answers h.1
first_calm (Some r ∷ answers) h = h.0

unless_calm : (o : Option Reply) (p : PoolState) (next : Reply × PoolState) → IsCalmOr o → IsCalm next.0 → IsCalm (unless_answered o p next).0
unless_calm None p next h g = g
unless_calm (Some r) p next h g = h

equal_calm : (b : Bool) → IsCalmOr (cond b (Some (accepted (Done false))) None)
equal_calm true = refl
equal_calm false = tt

up_calm : (limit : ℕ) (p : PoolState) → IsCalm (set_fs_limit limit p).0
unfolding set_fs_limit
up_calm limit p = unless_calm (first_answer (limit_answers limit p)) p _ (first_calm (limit_answers limit p) (where_calm _ (BadSize p.name) refl, (equal_calm (limit == p.filesystem_limit), (where_calm _ LimitLower refl, (where_calm _ Worn refl, tt))))) refl

mode_calm : (limit : ℕ) (p : PoolState) (m : PoolMode) → IsCalm (answer_in (λ q. (set_fs_limit limit q).0) p m)
mode_calm limit p Up = up_calm limit p
mode_calm limit p (Down call) = refl
mode_calm limit p Stopped = refl
mode_calm limit p (Unsettled call) = refl
mode_calm limit p (Incomplete path) = refl

answer_calm : (limit : ℕ) (b : Bool) (o : Option PoolState) → IsCalm (answer_of (λ q. (set_fs_limit limit q).0) b o)
answer_calm limit true None = refl
answer_calm limit false None = refl
answer_calm limit b (Some p) = mode_calm limit p p.mode

plain_calm : (s : EngineState) (call : Call) → is_setting call ≡ true → IsCalm (step s call Plain).0
unfolding on_pool
plain_calm s (SetFsLimit pool limit) h = answer_calm limit (is_known pool s) (own pool s)
plain_calm s _ h = absurd cc

-- ---- what release asks

pub set_entry : (s : EngineState) (call : Call) (line : ℕ) (e : Entry) (answer : Result Reply NoMemory) (before cells : List CellView) → e.call ≡ call → e.from ≡ Line line
    → IfOk answer (λ reply. (e.reply ≡ reply) × (e.env ≡ Plain)) → OnErr answer ((e.reply ≡ refused OutOfMemory) × (e.env ≡ NoMem))
    → IfOk answer (λ reply. IsSet s call reply cells) → OnErr answer (cells ≡ before) → AreOf s call before → HasSet s call line e cells
set_entry s call line e (Ok reply) before cells is from plain none set same are = record {
  models = record { call_is = is; from = from; env = inl plain.1; replied = plain.0 ∙ (set.answer ∙ ap (λ z. (step s call z).0) (sym plain.1)) };
  pools = subst (λ z. AreOf (step s call z).1 call cells) (sym plain.1) set.pools;
  infos = set.infos;
}
set_entry s call line e (Err x) before cells is from plain none set same are =
    let now : AreOf s call cells = rw same are in
    let after : s ≡ (step s call NoMem).1 = ap (λ (a : Reply × EngineState). a.1) (sym (refused-step s call)) in
    record {
      models = record { call_is = is; from = from; env = inr none.1; replied = none.0 ∙ (ap (λ (a : Reply × EngineState). a.0) (sym (refused-step s call)) ∙ ap (λ z. (step s call z).0) (sym none.1)) };
      pools = subst (λ z. AreOf (step s call z).1 call cells) (sym none.1) (subst (λ z. AreOf z call cells) after now);
      infos = shown-still (writes (want_of call)) s cells now;
    }

pub set_calm : (s : EngineState) (call : Call) (line : ℕ) (e : Entry) → is_setting call ≡ true → IsModels s call line e → is_failure e ≡ false
set_calm s call line e h m = elim m.env [
  | inl k ↦
      let reply : e.reply ≡ (step s call Plain).0 = m.replied ∙ ap (λ z. (step s call z).0) k in
      rw reply (plain_calm s call h)
  | inr k ↦
      let reply : e.reply ≡ refused OutOfMemory = m.replied ∙ (ap (λ z. (step s call z).0) k ∙ ap (λ (a : Reply × EngineState). a.0) (refused-step s call)) in
      rw reply refl
]

licensed : (s : EngineState) (call : Call) (line : ℕ) (e : Entry) → is_setting call ≡ true → IsModels s call line e → IsLicensed s e.call e.env
licensed s call line e h m = elim m.env [
  | inl k ↦ rw (m.call_is, k) (licensed_plain s call h)
  | inr k ↦ rw (m.call_is, k, refused-outcome s call) refl
]

part_after : (s : EngineState) (call : Call) (line : ℕ) (e : Entry) (before : List PoolState) (cells : List CellView) (table : Option TableView) → is_setting call ≡ true → PartStands (want_of call) s before (option_map viewed table) → HasSet s call line e cells
    → PartStands (want_of call) (step s e.call e.env).1 (pools_of cells) (option_map viewed table)
part_after s call line e before cells table h held m = subst (λ k. PartStands (want_of call) (step s k e.env).1 (pools_of cells) (option_map viewed table)) (sym m.models.call_is) (record {
  pools = m.pools;
  board = held.board ∙ no_table call (table_of s) (table_of (step s call e.env).1) h;
})

pub set_back : (s : EngineState) (base : ℕ) (call : Call) (line : ℕ) (e : Entry) (es : List Entry) (before : List PoolState) (cells : List CellView) (table : Option TableView) → is_setting call ≡ true → es ≡ e ∷ []
    → PartStands (want_of call) s before (option_map viewed table) → IfSome (option_map viewed table) (λ (w : book.TableView). base ≤ w.slack) → HasSet s call line e cells
    → ComesBack (want_of call) s base es (pools_of cells) (option_map viewed table)
set_back s base call line e es before cells table h alone held low m =
    let back : ComesBack (want_of call) s base (e ∷ []) (pools_of cells) (option_map viewed table) = record {
      steps = (licensed s call line e h m.models, subst (λ k. e.reply ≡ (step s k e.env).0) (sym m.models.call_is) m.models.replied, tt);
      one = (subst IsNotPrepare (sym m.models.from) tt, λ short. absurd (not_short s e.call (subst (λ k. is_setting k ≡ true) (sym m.models.call_is) h) short));
      of = ap want_of m.models.call_is;
      part = part_after s call line e before cells table h held m;
      slack = low;
    } in
    subst (λ z. ComesBack (want_of call) s base z (pools_of cells) (option_map viewed table)) (sym alone) back

-- the pools of a part
pub held_of : (s : EngineState) (call : Call) (cells : List CellView) (table : Option TableView) → PartStands (want_of call) s (pools_of cells) (option_map viewed table) → AreOf s call cells
held_of s call cells table h = h.pools
