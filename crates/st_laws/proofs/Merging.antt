-- a snapshot that is marked is merged at the next stop and start
use Rattle.std.proofs.Common.{◌≡◌, ℕ, ◌==◌, List, [], ◌∷◌, filter, map, Bool, true, false, cond, Option, Some, None, option_map, bytes_eq, unwrap_or, refl, sym, ap, ◌∙◌, subst, arith}
use Rattle.std.specs.List.{AllByRecursion}
use Rattle.std.proofs.lemmas.Grind.{common_steps}
use Rattle.std.proofs.lemmas.Slice.Eq.{bytes_eq-Decides}
use Rattle.st_units.specs.declared.cause.Cause.TheVariants.{NoOrigin, NoSuchPool, OutOfMemory, PoolStopped, Worn}
use Rattle.st_model.specs.declared.call.PoolId.TheVariants.{ByName}
use Rattle.st_model.specs.declared.reply.Given.TheVariants.{Done}
use Rattle.st_model.specs.declared.reply.Reply.{Reply}
use Rattle.st_model.specs.declared.state.EngineState.{EngineState}
use Rattle.st_model.specs.declared.state.FsState.{FsState}
use Rattle.st_model.specs.declared.state.KnownPool.{KnownPool}
use Rattle.st_model.specs.declared.state.PoolMode.{PoolMode}
use Rattle.st_model.specs.declared.state.PoolMode.TheVariants as modes
use Rattle.st_model.specs.declared.state.PoolState.{PoolState}
use Rattle.st_model.specs.Answer.{accepted, first_answer, refused, unless_answered}
use Rattle.st_model.specs.Checks.{cooled, fs_at, halted, halted_from, in_fs, rows_changed, with_row}
use Rattle.st_model.specs.Lifted.{Keeps, answer_in, answer_of, changed, is_known, on_pool, one_changed, runs_as}
use Rattle.st_model.specs.Look.{Text, is_called, is_started}
use Rattle.st_model.specs.Merged.{is_origin, merged}
use Rattle.st_model.specs.Parts.{own, pool_at}
use Rattle.st_model.specs.Step.{changes}
use Rattle.st_model.specs.Valid.{IsValid}
use Rattle.st_model.specs.ValidPool.{IsWhole}
use Rattle.st_model.specs.steps.SetMerge.{mark_fs, merge_answers, set_merge, with_mark}
use Rattle.st_model.specs.steps.StartPool.{start_found, start_in, start_pool}
use Rattle.st_model.specs.steps.StopPool.{stop_found, stop_pool}
use Rattle.st_model.proofs.Among.{IsPlaced, all_placed}
use Rattle.st_model.proofs.Flights.{found-holds}
use Rattle.st_model.proofs.Kept.{own_of}
use Rattle.st_model.proofs.Lifting.{one_known, within_keeps}
use Rattle.st_model.proofs.Lists.{All-filter}
use Rattle.st_model.proofs.LocalCalls.{set_merge-within}
use Rattle.st_model.proofs.Mapped.{find_map}
use Rattle.st_model.proofs.ValidMerge.{set_merge-whole}
use Rattle.st_laws.specs.Reads.{MergesAreRead, are_kin, comes_from, reads_in, reads_of}
use Rattle.st_laws.proofs.Engine.{IsFound, found}
use Rattle.st_laws.proofs.Merged.{first_kept, merged-reads}
use Rattle.st_laws.proofs.Settings.{merge-keeps}
use Rattle.st_laws.proofs.Snapshot.{IsStill, still_first, still_where}

clash : (b : Bool) → b ≡ false → b ≡ true → ⊥
clash b f t = absurd cc

same_number : (n : ℕ) → (n == n) ≡ true
same_number n = grind (arith, common_steps)

equal_numbers : (a b : ℕ) → (a == b) ≡ true → a ≡ b
equal_numbers a b h = grind (arith, common_steps)

-- what is known of a pool in which a filesystem was marked
record IsMarked (p : PoolState) (name : Text) : Type 0 where
  fs : FsState
  at : fs_at name p.filesystems ≡ Some fs
  is : (set_merge name true p).1 ≡ rows_changed (with_mark true) fs.row.serial p

still_done : (b : Bool) → IsStill (cond b (Some (accepted (Done false))) None)
still_done true = refl
still_done false = tt

still_by : (o : Option FsState) → IsStill (Rattle.st_model.specs.Answer.refused_by (option_map (λ (other : FsState). Rattle.st_units.specs.declared.cause.Cause.TheVariants.MergeConflict other.row.name) o))
still_by None = tt
still_by (Some x) = refl

still_answers : (fs : FsState) (p : PoolState) → AllByRecursion IsStill (merge_answers true fs p)
still_answers fs p = (still_done _, (still_where _ NoOrigin, (still_by _, (still_where _ Worn, tt))))

marked : (name : Text) (p : PoolState) → changes (set_merge name true p).0.result ≡ true → IsMarked p name
unfolding set_merge
marked name p ok = here (fs_at name p.filesystems) refl ok
  where
    in_one : (fs : FsState) → fs_at name p.filesystems ≡ Some fs → (a : Option Reply) → first_answer (merge_answers true fs p) ≡ a → IsStill a
        → changes (unless_answered a p (accepted (Done true), rows_changed (with_mark true) fs.row.serial p)).0.result ≡ true → IsMarked p name
    in_one fs e (Some r) is still ok = absurd (clash (changes r.result) still ok)
    in_one fs e None is still ok = record { fs = fs; at = e; is = rw (e, is) refl }

    here : (o : Option FsState) → fs_at name p.filesystems ≡ o → changes (in_fs (mark_fs true) p o).0.result ≡ true → IsMarked p name
    here None e ok = absurd cc
    here (Some fs) e ok = in_one fs e (first_answer (merge_answers true fs p)) refl (still_first (merge_answers true fs p) (still_answers fs p)) ok

row_name : (serial : ℕ) (file : Text) (x : FsState) → bytes_eq (with_row (with_mark true) serial x).row.name file ≡ bytes_eq x.row.name file
row_name serial file x = here (x.row.serial == serial)
  where
    here : (b : Bool) → bytes_eq (cond b (record x { row = with_mark true x.row }) x).row.name file ≡ bytes_eq x.row.name file
    here true = refl
    here false = refl

row_serial : (serial : ℕ) (x : FsState) → (with_row (with_mark true) serial x).row.serial ≡ x.row.serial
row_serial serial x = here (x.row.serial == serial)
  where
    here : (b : Bool) → (cond b (record x { row = with_mark true x.row }) x).row.serial ≡ x.row.serial
    here true = refl
    here false = refl

origin_of : (o : ℕ) (z : Option ℕ) → is_origin o z ≡ true → z ≡ Some o
origin_of o None h = absurd cc
origin_of o (Some n) h = ap (λ (q : ℕ). Some q) (equal_numbers n o h)

-- the merge of the pool in which the snapshot was marked
pool-merges : (name origin : Text) (p : PoolState) → IsWhole p → changes (set_merge name true p).0.result ≡ true → are_kin (fs_at name p.filesystems) (fs_at origin p.filesystems) ≡ true
    → (k : ℕ) → reads_in origin k (merged (set_merge name true p).1) ≡ reads_in name k p
pool-merges name origin p h ok kin k = here (fs_at origin p.filesystems) refl (subst (λ (z : Option FsState). are_kin z (fs_at origin p.filesystems) ≡ true) m.at kin)
  where
    m : IsMarked p name
    m = marked name p ok

    q : PoolState
    q = rows_changed (with_mark true) m.fs.row.serial p

    at : (file : Text) → fs_at file q.filesystems ≡ option_map (with_row (with_mark true) m.fs.row.serial) (fs_at file p.filesystems)
    at file = find_map (λ (x : FsState). bytes_eq x.row.name file) (with_row (with_mark true) m.fs.row.serial) p.filesystems (row_name m.fs.row.serial file)

    new : FsState
    new = record m.fs { row = with_mark true m.fs.row }

    is_new : with_row (with_mark true) m.fs.row.serial m.fs ≡ new
    is_new = rw (same_number m.fs.row.serial) refl

    here : (z : Option FsState) → fs_at origin p.filesystems ≡ z → are_kin (Some m.fs) z ≡ true → reads_in origin k (merged (set_merge name true p).1) ≡ reads_in name k p
    here None e kin = absurd cc
    here (Some o) e kin =
        ap (λ (x : PoolState). reads_in origin k (merged x)) m.is
        ∙ merged-reads q (subst IsWhole m.is (set_merge-whole name true p h)) name origin new (with_row (with_mark true) m.fs.row.serial o)
        (at name ∙ ap (option_map (with_row (with_mark true) m.fs.row.serial)) m.at ∙ ap (λ (x : FsState). Some x) is_new)
        (at origin ∙ ap (option_map (with_row (with_mark true) m.fs.row.serial)) e)
        refl
        (origin_of o.row.serial m.fs.row.origin kin ∙ ap (λ (n : ℕ). Some n) (sym (row_serial m.fs.row.serial o)))
        k
        ∙ sym (ap (reads_in name k) m.is)
        ∙ merge-keeps name true p name k

-- the pool of the name, step by step
replaced_found : (pool : Text) (ps : List PoolState) (z y : PoolState) → pool_at pool ps ≡ Some z → is_called pool y ≡ true → pool_at pool (map (λ (x : PoolState). cond (x.serial == z.serial) y x) ps) ≡ Some y
replaced_found pool [] z y h c = absurd cc
replaced_found pool (x ∷ ps) z y h c = here (x.serial == z.serial) refl (is_called pool x) refl h (replaced_found pool ps z y)
  where
    here : (a : Bool) → (x.serial == z.serial) ≡ a → (b : Bool) → is_called pool x ≡ b → cond b (Some x) (pool_at pool ps) ≡ Some z
        → (pool_at pool ps ≡ Some z → is_called pool y ≡ true → pool_at pool (map (λ (w : PoolState). cond (w.serial == z.serial) y w) ps) ≡ Some y)
        → pool_at pool (cond a y x ∷ map (λ (w : PoolState). cond (w.serial == z.serial) y w) ps) ≡ Some y
    here true e b f h rest = rw c refl
    here false e true f h rest = absurd (let same : x ≡ z = cc in clash (z.serial == z.serial) (subst (λ (w : PoolState). (w.serial == z.serial) ≡ false) same e) (same_number z.serial))
    here false e false f h rest = rw f (rest h c)

halted_name : (pool n : Text) (x : PoolState) → is_called n (cond (is_called pool x) (halted x) x) ≡ is_called n x
halted_name pool n x = here (is_called pool x)
  where
    in_mode : (m : PoolMode) → is_called n (halted_from x m) ≡ is_called n x
    in_mode modes.Up = refl
    in_mode (modes.Down call) = refl
    in_mode modes.Stopped = refl
    in_mode (modes.Unsettled call) = refl
    in_mode (modes.Incomplete path) = refl

    here : (b : Bool) → is_called n (cond b (halted x) x) ≡ is_called n x
    here true = in_mode x.mode
    here false = refl

stopped_at : (t : EngineState) (pool : Text) (q : PoolState) → pool_at pool t.pools ≡ Some q → q.mode ≡ modes.Up → is_called pool q ≡ true → pool_at pool (stop_pool pool t).1.pools ≡ Some (cooled modes.Stopped (merged q))
unfolding stop_pool
stopped_at t pool q e up called =
    ap (λ o. pool_at pool (stop_found t pool o).1.pools) e
    ∙ so (is_started q.mode) _ _ (rw up refl)
    ∙ find_map (is_called pool) (λ (x : PoolState). cond (is_called pool x) (halted x) x) t.pools (halted_name pool pool)
    ∙ ap (option_map (λ (x : PoolState). cond (is_called pool x) (halted x) x)) e
    ∙ ap (λ b. Some (cond b (halted q) q)) called
    ∙ ap (λ m. Some (halted_from q m)) up
  where
    so : (b : Bool) (r n : Reply) → b ≡ true → pool_at pool (cond {A = Reply × EngineState} b (r, record t { pools = map (λ (x : PoolState). cond (is_called pool x) (halted x) x) t.pools }) (n, t)).1.pools ≡ pool_at pool (map (λ (x : PoolState). cond (is_called pool x) (halted x) x) t.pools)
    so true r n h = refl
    so false r n h = absurd cc

started_at : (t : EngineState) (pool : Text) (z : PoolState) → pool_at pool t.pools ≡ Some z → z.mode ≡ modes.Stopped → is_called pool z ≡ true → own pool (unwrap_or (start_pool (ByName pool) t) (refused OutOfMemory, t)).1 ≡ Some (cooled modes.Up z)
unfolding start_pool
started_at t pool z e stopped called =
    ap (λ (o : Option PoolState). own pool (unwrap_or (start_found t o) (refused OutOfMemory, t)).1) e
    ∙ ap (λ (m : PoolMode). own pool (unwrap_or (start_in t z m) (refused OutOfMemory, t)).1) stopped
    ∙ first_kept (is_called pool) (λ (x : PoolState). is_started x.mode) (map (λ (x : PoolState). cond (x.serial == z.serial) (cooled modes.Up z) x) t.pools) (cooled modes.Up z) (replaced_found pool t.pools z (cooled modes.Up z) e called) refl

-- the pool of the name after a change of it
changed_at : (s : EngineState) (pool : Text) (g : PoolState → PoolState) → Keeps g → (p : PoolState) → pool_at pool s.pools ≡ Some p → p.mode ≡ modes.Up → is_called pool p ≡ true → pool_at pool (changed pool g s).pools ≡ Some (g p)
changed_at s pool g keeps p e up called =
    find_map (is_called pool) (one_changed pool g) s.pools (λ (x : PoolState). ap (λ (k : KnownPool). bytes_eq k.name pool) (one_known pool g keeps x))
    ∙ ap (option_map (one_changed pool g)) e
    ∙ ap (λ (x : PoolState). Some x) (rw (up, called) refl)

placed_of : (s : EngineState) (pool : Text) (p : PoolState) → IsValid s → own pool s ≡ Some p → IsPlaced s.devices s.pools p
placed_of s pool p v e =
    found-holds (IsPlaced s.devices s.pools) (is_called pool) (filter (λ (x : PoolState). is_started x.mode) s.pools) p
    (All-filter (IsPlaced s.devices s.pools) (λ (x : PoolState). is_started x.mode) s.pools (all_placed s.devices s.pools v.apart)) e

not_changed : (b : Bool) → changes (refused (cond b PoolStopped NoSuchPool)).result ≡ true → ⊥
not_changed true h = absurd cc
not_changed false h = absurd cc

merge-read : (s : EngineState) (pool name origin : Text) → IsValid s → comes_from name origin (own pool s) ≡ true → changes (on_pool pool (set_merge name true) s).0.result ≡ true
    → (k : ℕ) → reads_of origin k (own pool (unwrap_or (start_pool (ByName pool) (stop_pool pool (on_pool pool (set_merge name true) s).1).1) (refused OutOfMemory, (stop_pool pool (on_pool pool (set_merge name true) s).1).1)).1) ≡ reads_of name k (own pool s)
unfolding on_pool
merge-read s pool name origin v kin ok k = here (own pool s) refl kin ok
  where
    g : PoolState → PoolState
    g x = (set_merge name true x).1

    t : EngineState
    t = changed pool (λ x. (set_merge name true x).1) s

    in_mode : (p : PoolState) → own pool s ≡ Some p → IsFound pool p → (m : PoolMode) → p.mode ≡ m → are_kin (fs_at name p.filesystems) (fs_at origin p.filesystems) ≡ true → changes (answer_in (λ x. (set_merge name true x).0) p m).result ≡ true
        → reads_of origin k (own pool (unwrap_or (start_pool (ByName pool) (stop_pool pool t).1) (refused OutOfMemory, (stop_pool pool t).1)).1) ≡ reads_in name k p
    in_mode p e known modes.Up up kin ok =
        let w = set_merge-within name true p in
        let called : is_called pool p ≡ true = (bytes_eq-Decides p.name pool).1 known.named in
        let runs : runs_as pool p ≡ true = rw (up, called) refl in
        let at = (own_of s pool p (placed_of s pool p v e) runs).found in
        let q = (set_merge name true p).1 in
        let q_up : q.mode ≡ modes.Up = w.mode ∙ up in
        let q_called : is_called pool q ≡ true = ap (λ (n : Text). bytes_eq n pool) w.name ∙ called in
        let first = changed_at s pool (λ x. (set_merge name true x).1) (within_keeps (set_merge name true) (set_merge-within name true)) p at up called in
        let second = stopped_at t pool q first q_up q_called in
        ap (reads_of origin k) (started_at (stop_pool pool t).1 pool (cooled modes.Stopped (merged q)) second refl q_called)
        ∙ pool-merges name origin p (known.whole up) ok kin k
    in_mode p e known (modes.Down call) up kin ok = absurd cc
    in_mode p e known modes.Stopped up kin ok = absurd cc
    in_mode p e known (modes.Unsettled call) up kin ok = absurd cc
    in_mode p e known (modes.Incomplete path) up kin ok = absurd cc

    here : (o : Option PoolState) → own pool s ≡ o → comes_from name origin o ≡ true → changes (answer_of (λ x. (set_merge name true x).0) (is_known pool s) o).result ≡ true
        → reads_of origin k (own pool (unwrap_or (start_pool (ByName pool) (stop_pool pool t).1) (refused OutOfMemory, (stop_pool pool t).1)).1) ≡ reads_of name k o
    here None e kin ok = absurd cc
    here (Some p) e kin ok = in_mode p e (found s pool p v e) p.mode refl kin ok

pub merges-are-read : MergesAreRead
merges-are-read s pool name origin v kin ok k = merge-read s pool name origin v kin ok k
