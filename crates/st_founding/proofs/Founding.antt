-- A pool that was made of free devices is one of the engine's.
use Rattle.std.proofs.Common.{◌≡◌, ℕ, ◌+◌, Bool, true, false, ◌||◌, List, [], ◌∷◌, ◌++◌, append-nil, map, unwrap_or, Option, Some, None, is_some, refl, sym, ap, subst, ◌∙◌}
use Rattle.std.specs.Prelude.{option_map}
use Rattle.st_units.specs.declared.rows.DevRow.{DevRow}
use Rattle.st_units.specs.declared.rows.Tier.TheVariants.{DataTier}
use Rattle.st_units.specs.declared.cause.Cause.TheVariants.{DeviceFault, OutOfMemory}
use Rattle.st_model.specs.declared.call.Call.TheVariants.{CreatePool}
use Rattle.st_model.specs.declared.entry.Env.{Env}
use Rattle.st_model.specs.declared.entry.Env.TheVariants.{FaultWrite, Plain}
use Rattle.st_model.specs.declared.reply.Given.TheVariants.{Created}
use Rattle.st_model.specs.declared.reply.Reply.{Reply}
use Rattle.st_model.specs.declared.state.EngineState.{EngineState}
use Rattle.st_model.specs.declared.state.KnownPool.{KnownPool}
use Rattle.st_model.specs.declared.state.PoolState.{PoolState}
use Rattle.st_model.specs.declared.state.TableState.{TableState}
use Rattle.st_model.specs.Answer.{accepted, refused, unless_answered}
use Rattle.st_model.specs.Checks as checks
use Rattle.st_model.specs.Local.{Outcome, where_so}
use Rattle.st_model.specs.Look.{Text, distinct, has_path, is_started, row_of, uses}
use Rattle.st_model.specs.Parts.{known, table_of}
use Rattle.st_model.specs.Step.{outcome, step, wrote}
use Rattle.st_model.specs.Valid.{IsValid}
use Rattle.st_model.specs.steps.CreatePool.{broken_pool, create_plain, data_rows, new_pool, with_pool}
use Rattle.st_model.proofs.Validity.{step-keeps}
use Rattle.st_beside.specs.Beside.{IsBare, beside_made}
use Rattle.st_beside.proofs.Making.{made_beside}
use Rattle.st_cells.specs.Tables.{TableWith}
use Rattle.st_rack.specs.Device.{State}
use Rattle.st_rack.specs.Calls.{Devices, names}
use Rattle.st_rack.specs.Moments.{Always}
use Rattle.st_rack.specs.Parts.{Splits}
use Rattle.st_image.specs.Kept.{Kept}
use Rattle.st_pool.specs.Answered.{is_device_fault}
use Rattle.st_pool.specs.Halts.{HaltedView}
use Rattle.st_pool.specs.Makes.{Makes, engine_before}
use Rattle.st_pool.specs.View.{PoolView, engine_of}
use Rattle.st_board.specs.Changes.{HasAdded}
use Rattle.st_board.specs.Holds.{KeepsTable}
use Rattle.st_board.specs.Ran.{more}
use Rattle.st_board.specs.View.{BoardView}
use Rattle.st_founding.specs.Founding.{HasFounded, MayFound, new_table}
use Rattle.st_founding.proofs.Once.{on_paths, once_has, rack_row, row_on}
use Rattle.st_founding.proofs.Planned.{part_has}

last_same : (xs : List PoolState) (a b : PoolState) → xs ++ a ∷ [] ≡ xs ++ b ∷ [] → a ≡ b
last_same [] a b e = cc
last_same (x ∷ xs) a b e = last_same xs a b (tails x (xs ++ a ∷ []) (xs ++ b ∷ []) e)
  where
    tails : (y : PoolState) (ps qs : List PoolState) → y ∷ ps ≡ y ∷ qs → ps ≡ qs
    tails y ps qs e = cc

pools_same : (s : EngineState) (p q : PoolState) (r t : Reply) → ◌≡◌ {A = Outcome} (Some (r, with_pool s p)) (Some (t, with_pool s q)) → p ≡ q
pools_same s p q r t e = last_same s.pools p q (ap pools_in e)
  where
    pools_in : Outcome → List PoolState
    pools_in None = []
    pools_in (Some a) = a.1.pools

is_it : (o : Outcome) (d a : Reply × EngineState) → is_some o ≡ true → unwrap_or o d ≡ a → o ≡ Some a
is_it None d a e k = absurd cc
is_it (Some x) d a e k = ap Some k

-- what is known of a new pool
pub record IsNew (s : EngineState) (name : Text) (once : List Text) (q : PoolState) : Type 0 where
  pub serial : q.serial ≡ s.next
  pub uses_these : (path : Text) → uses path q ≡ names once path
  pub started : is_started q.mode ≡ true
  pub known_is : known q ≡ record { name = name; serial = s.next; new = None; devices = once }

pub ready_new : (s : EngineState) (name : Text) (once : List Text) → IsNew s name once (new_pool s.next name (data_rows s.devices once))
ready_new s name once = record {
  serial = refl;
  uses_these = λ path. off (is_some (row_of path (data_rows s.devices once))) ∙ row_on path DataTier s.devices once;
  started = refl;
  known_is = ap (λ (ds : List Text). record { name = name; serial = s.next; new = None; devices = ds }) (append-nil (map (λ (row : DevRow). row.path) (data_rows s.devices once)) ∙ on_paths DataTier s.devices once);
}
  where
    off : (b : Bool) → (b || false) ≡ b
    off true = refl
    off false = refl

broken_new : (s : EngineState) (name : Text) (once : List Text) → IsNew s name once (broken_pool s.next name once)
broken_new s name once = record { serial = refl; uses_these = λ path. refl; started = refl; known_is = refl }

module _ (s : EngineState) (t : TableState) (name : Text) (paths once : List Text) (may : MayFound s t name paths once) {D : Type 0} (devs : D → Devices) (moment : D → ℕ) (state_at : D → ℕ → State) (faults : D → ℕ)
    (free : D) (halted : List (HaltedView D)) (keeps : KeepsTable devs moment state_at t free halted) (rest part : D) (splits : Splits devs moment state_at once free rest part)
    (serial : ℕ) (own : serial ≡ s.next) (env : Env) (reply : Reply) (pool : PoolView D) (makes : Makes devs moment state_at faults serial name once env reply part pool) where
  abbrev e : EngineState
  e = engine_before serial (devs part)

  abbrev q : PoolState
  q = pool.pool

  part_row : (path : Text) → has_path path paths ≡ true → option_map (λ (row : DevRow). row.sectors) (row_of path e.devices) ≡ Some (checks.sectors_of path s.devices)
  part_row path on =
      rack_row (devs part) path (checks.sectors_of path s.devices)
      (part_has s t name paths once may devs moment state_at free halted keeps rest part splits path (subst (λ (ps : List Text). has_path path ps ≡ true) (sym may.each_once) (once_has path paths on)))

  there_is : (o : Option DevRow) (n : ℕ) → option_map (λ (row : DevRow). row.sectors) o ≡ Some n → is_some o ≡ true
  there_is None n k = absurd cc
  there_is (Some row) n k = refl

  bare : IsBare paths s e
  bare = record {
    none = refl;
    next = own;
    there = λ path on. there_is (row_of path e.devices) (checks.sectors_of path s.devices) (part_row path on);
    sectors = λ path on. ap (λ (o : Option ℕ). unwrap_or o 0) (part_row path on);
  }

  alone : outcome e (CreatePool name (distinct paths)) env ≡ Some (reply, engine_of q (devs part))
  alone = subst (λ (ps : List Text). outcome e (CreatePool name ps) env ≡ Some (reply, engine_of q (devs part))) may.each_once (is_it (outcome e (CreatePool name once) env) _ (reply, engine_of q (devs part)) makes.licensed makes.answers)

  pub here_is : outcome s (CreatePool name paths) env ≡ Some (reply, with_pool s q)
  here_is = made_beside s e name paths env may.unanswered bare ∙ ap (beside_made s) alone

  pub answers : step s (CreatePool name paths) env ≡ (reply, with_pool s q)
  answers = ap (λ (o : Outcome). unwrap_or o (refused OutOfMemory, s)) here_is

  valid_after : IsValid (with_pool s q)
  valid_after = subst IsValid (ap (λ (a : Reply × EngineState). a.1) answers) (step-keeps s (CreatePool name paths) env may.valid)

  module _ (new : IsNew s name once q) (law : TableWith) where
    table_is : table_of (with_pool s q) ≡ new_table name once t
    table_is =
        law s q new.started
        ∙ (ap (λ (k : KnownPool). record (table_of s) { names = (table_of s).names ++ k ∷ []; next = s.next + 1 }) new.known_is ∙ ap (new_table name once) may.table)

    pub has_added : HasAdded t (new_table name once t) once q
    has_added = record {
      state = s;
      valid = may.valid;
      after = valid_after;
      was = may.table;
      is = table_is;
      serial = new.serial;
      uses_these = new.uses_these;
      started = new.started;
    }

    pub has_founded : (old b : BoardView D) (spare : Bool) → b.state ≡ new_table name once t → b ≡ record old { state = b.state; spare = spare; free = b.free } → faults b.free ≡ faults old.free
        → pool.faults ≡ more (is_device_fault env) → Splits devs moment state_at once old.free b.free part → faults part ≡ 0 → HasFounded devs moment state_at faults s name paths once env reply old spare pool b
    has_founded old b spare state_is same counts number parted fresh = record {
      licensed = ap is_some here_is;
      answers = answers;
      started = new.started;
      stands = state_is ∙ sym table_is;
      kept = record { kept = makes.kept; own = makes.own };
      counts = number;
      shown = makes.spare;
      same = same;
      free_counts = counts;
      part = part;
      parted = parted;
      fresh = fresh;
      cause = makes.cause;
      crash = subst (λ (n : ℕ). Always moment state_at (Kept (broken_pool n name once) (devs pool.rack)) part pool.rack) own makes.crash;
    }

-- the pool, by what was met
module _ (s : EngineState) (t : TableState) (name : Text) (paths once : List Text) (may : MayFound s t name paths once) where
  plain_is : outcome s (CreatePool name paths) Plain ≡ Some (accepted (Created true (Some (s.next, distinct paths))), with_pool s (new_pool s.next name (data_rows s.devices (distinct paths))))
  unfolding create_plain
  plain_is = ap (λ (a : Option Reply). Some (unless_answered a s (accepted (Created true (Some (s.next, distinct paths))), with_pool s (new_pool s.next name (data_rows s.devices (distinct paths)))))) may.unanswered

  pub ready_is : (q : PoolState) (reply : Reply) → outcome s (CreatePool name paths) Plain ≡ Some (reply, with_pool s q) → IsNew s name once q
  ready_is q reply e =
      subst (IsNew s name once) (pools_same s _ q _ reply (sym plain_is ∙ e)) (subst (λ (ps : List Text). IsNew s name once (new_pool s.next name (data_rows s.devices ps))) may.each_once (ready_new s name once))

  pub broken_is : (q : PoolState) (reply : Reply) → outcome s (CreatePool name paths) FaultWrite ≡ Some (reply, with_pool s q) → IsNew s name once q
  broken_is q reply e = by (wrote s (CreatePool name paths)) e
    where
      by : (b : Bool) → where_so b (refused DeviceFault, with_pool s (broken_pool s.next name (distinct paths))) ≡ Some (reply, with_pool s q) → IsNew s name once q
      by true k = subst (IsNew s name once) (pools_same s _ q _ reply k) (subst (λ (ps : List Text). IsNew s name once (broken_pool s.next name ps)) may.each_once (broken_new s name once))
      by false k = absurd cc
