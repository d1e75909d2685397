-- What a book stands for after a release, and why what comes back fits.
use Rattle.std.proofs.Common.{ℕ, ◌≡◌, ◌≢◌, ◌+◌, ◌<◌, ◌≤◌, ◌^◌, ◌==◌, Bool, true, false, cond, List, [], ◌∷◌, ◌++◌, map, length, Option, refl, ap, sym, ◌∙◌, subst, arith, length-append}
use Rattle.std.specs.Prelude.{Some, None, IsSomeAnd, IfSome}
use Rattle.std.proofs.lemmas.Bool.Decides.{nat_tests}
use Rattle.st_units.specs.Roomy.{Roomy}
use Rattle.st_wants.specs.declared.row.LockRow.{LockRow}
use Rattle.st_wants.specs.Lock.{Lock, row_at, start, released}
use Rattle.st_wants.specs.Rules.{LiveApart, lock_run}
use Rattle.st_grants.proofs.Sound.{IsSound, row_stays}
use Rattle.st_model.specs.declared.entry.Entry.{Entry}
use Rattle.st_model.specs.declared.state.EngineState.{EngineState}
use Rattle.st_model.specs.declared.state.PoolState.{PoolState}
use Rattle.st_model.specs.Parts.{started, table_of, shown_table}
use Rattle.st_model.specs.Shown.{pool_info}
use Rattle.st_history.specs.declared.log.Event.TheVariants.{Grant, Release}
use Rattle.st_history.specs.Failures.{failures, failures_of}
use Rattle.st_history.specs.History.{moves_of, replay, state_after, IsOf}
use Rattle.st_history.proofs.Snoc.{history-sound}
use Rattle.st_book.specs.Callers.{PartFits}
use Rattle.st_book.specs.Effects.{all_renewed}
use Rattle.st_wants.specs.Wants.{takes_table}
use Rattle.st_book.specs.Stands.{Stands, AreAtHome, ComesBack}
use Rattle.st_model.specs.Pieces.{ShowPools, every}
use Rattle.st_book.specs.View.{BookView, TableView, lent_at, lent_sum}
use Rattle.st_book.proofs.Lending.{left_of, lent_left, lent_gone, lent_fewer}
use Rattle.st_book.specs.declared.noted.Noted.{Noted}
use Rattle.st_book.specs.Noted.{noted_log}
use Rattle.st_book.proofs.Numbers.{noted-snoc, lent-released}
use Rattle.st_book.proofs.Named.{no_longer}
use Rattle.st_book.proofs.Pools.{name_of, table_writes}
use Rattle.st_book.proofs.Renewing.{infos_all, infos_back}
use Rattle.st_history.proofs.Agreement.{entries_of_want}
use Rattle.st_book.proofs.Returned.{AreBeside, Keeps, others_stay, part_back, rows_without, table_back}
use Rattle.st_book.proofs.Standing.{IsIdle, stands_after}

-- live tickets are compatible with a live one
beside_of : (s : EngineState) (base : ℕ) (b : BookView) (t : ℕ) (r : LockRow) → Stands s base b → row_at t b.lock.rows ≡ Some r → r.live ≡ true → AreBeside b.lock.rows t r.want
beside_of s base b t r h at live u q qat ql ne =
    let sound : IsSound (lock_run start (moves_of b.log)) = history-sound s b.log h.history in
    let apart : LiveApart b.lock = subst LiveApart (sym h.lock) sound.apart in
    apart u t q r qat at ql live (λ e. ne (sym e))

-- what its entries leave
kept_back : (s : EngineState) (base : ℕ) (b : BookView) (t : ℕ) (r : LockRow) (entries : List Entry) (cells : List PoolState) (held : Option TableView) → ComesBack r.want (replay s b.log) base entries cells held → Keeps r.want (replay s b.log) (state_after (replay s b.log) entries)
kept_back s base b t r entries cells held back = others_stay r.want (replay s b.log) entries (entries_of_want (replay s b.log) r.want entries back.one back.of)

-- what is at home once what comes back is
home_back : (s : EngineState) (base : ℕ) (b : BookView) (t : ℕ) (r : LockRow) (entries : List Entry) (cells : List PoolState) (held : Option TableView) → Stands s base b → row_at t b.lock.rows ≡ Some r → r.live ≡ true → ComesBack r.want (replay s b.log) base entries cells held
    → AreAtHome (rows_without t b.lock.rows) (state_after (replay s b.log) entries) (b.cells ++ cells) (table_back r.want held b.table)
home_back s base b t r entries cells held h at live back =
    part_back b.lock.rows t r (replay s b.log) (state_after (replay s b.log) entries) b.cells cells b.table held at live (beside_of s base b t r h at live) (kept_back s base b t r entries cells held back) back.part h.home

-- what comes back and what is at home are no more than the started pools
pub part_fits : PartFits
part_fits s base b t r entries cells table h at live back =
    let home = home_back s base b t r entries cells table h at live back in
    let now : List PoolState = started (state_after (replay s b.log) entries) in
    let few : length (b.cells ++ cells) ≤ length now = no_longer name_of (b.cells ++ cells) now home.apart (λ n p k. (home.cells n p k).0) in
    let both = length-append b.cells cells in
    omega arith

-- a book that got a part back, and shows what is after it
stands_released : (s : EngineState) (base : ℕ) (b n : BookView) (t : ℕ) (r : LockRow) (entries : Roomy Entry) (cells : List PoolState) (held : Option TableView) (number : ℕ) → Stands s base b → row_at t b.lock.rows ≡ Some r → r.live ≡ true
    → n.lock ≡ released t b.lock → n.log ≡ b.log ++ Release r.seat t entries ∷ [] → n.lent ≡ left_of t b.lent → n.notes ≡ b.notes → ComesBack r.want (replay s b.log) base entries.items cells held
    → (length b.log < 2 ^ 62 → number ≡ lent_at t b.lent + failures_of entries.items) → n.cells ≡ b.cells ++ cells → n.table ≡ table_back r.want held b.table → n.faults ≡ b.faults + number
    → ShowPools every (state_after (replay s b.log) entries.items) n.infos → n.table_info ≡ shown_table (table_of (state_after (replay s b.log) entries.items)) → IfSome n.table (λ (v : TableView). base ≤ v.slack) → Stands s base n
stands_released s base b n t r entries cells held number h at live lock log lent notes back number_is cells_are table faults infos table_info slack =
    let rows : n.lock.rows ≡ rows_without t b.lock.rows = ap (λ (l : Lock). l.rows) lock in
    let alive : IsSomeAnd (row_at t b.lock.rows) (λ (q : LockRow). (q.live ≡ true) × (q.seat ≡ r.seat)) = rw at (live, refl) in
    let asked : IsSomeAnd (row_at t b.lock.rows) (λ (q : LockRow). IsOf q.want entries.items) = rw at back.of in
    let home = home_back s base b t r entries.items cells held h at live back in
    let idle : IsIdle (rows_without t b.lock.rows) (left_of t b.lent) = λ u k.
    let cases : (y : Bool) → (t == u) ≡ y → lent_at u (left_of t b.lent) ≡ 0 = elim [
      | true ↦ (λ e. let same : t ≡ u = grind (arith, nat_tests) in subst (λ z. lent_at z (left_of t b.lent) ≡ 0) same (lent_gone t b.lent))
      | false ↦ (λ e.
          let ne : t ≢ u = λ same. let yes : (t == u) ≡ true = grind (arith, nat_tests) in cc in
          let old : lent_at u b.lent ≡ 0 = h.idle u (λ q qat. k q (row_stays t u b.lock.rows q ne qat)) in
          let few = lent_fewer t u b.lent in
          omega arith)
    ] in
    cases (t == u) refl in
    let counted : length b.log < 2 ^ 62 → failures b.log + failures_of entries.items ≡ n.faults + lent_sum (left_of t b.lent) = λ k.
    let f : failures b.log ≡ b.faults + lent_sum b.lent = h.faults k in
    let m = number_is k in
    let parts = lent_left t b.lent in
    omega arith in
    stands_after s base b n (Release r.seat t entries) h (record {
      may = alive;
      due = (back.steps, back.one, asked);
      lock = lock;
      log = log;
      home = rw (rows, cells_are, table) home;
      infos = infos;
      table_info = table_info;
      slack = slack;
      faults = λ k. rw lent (counted k);
      idle = rw (rows, lent) idle;
      grants = let g = h.grants in rw notes (omega arith);
      noted = rw (lock, log, notes, lent, noted-snoc b.log b.notes (Release r.seat t entries)) (lent-released b.lock t (noted_log b.log b.notes) _ b.lent (λ q u k e. let no : Release r.seat t entries ≡ Grant q u = ap (λ (z : Noted). z.event) e in cc) h.noted);
    })

-- a release that brings no table back
pub stands_back : (s : EngineState) (base : ℕ) (b n : BookView) (t : ℕ) (r : LockRow) (entries : Roomy Entry) (cells : List PoolState) (held : Option TableView) (number : ℕ) → Stands s base b → row_at t b.lock.rows ≡ Some r → r.live ≡ true
    → n.lock ≡ released t b.lock → n.log ≡ b.log ++ Release r.seat t entries ∷ [] → n.lent ≡ left_of t b.lent → n.notes ≡ b.notes → ComesBack r.want (replay s b.log) base entries.items cells held
    → (length b.log < 2 ^ 62 → number ≡ lent_at t b.lent + failures_of entries.items) → n.cells ≡ b.cells ++ cells
    → takes_table r.want ≡ false → n.table ≡ b.table → n.table_info ≡ b.table_info → n.infos ≡ all_renewed (map pool_info cells) b.infos → n.faults ≡ b.faults + number → Stands s base n
stands_back s base b n t r entries cells held number h at live lock log lent notes back number_is cells_are no_table table table_info infos faults =
    let now : EngineState = replay s b.log in
    let keeps = kept_back s base b t r entries.items cells held back in
    let home : table_back r.want held b.table ≡ b.table = ap (λ z. cond z held b.table) no_table in
    let shown : ShowPools every (state_after now entries.items) (all_renewed (map pool_info cells) b.infos) = infos_back r.want now (state_after now entries.items) cells b.infos no_table keeps back.part.pools h.infos in
    let same : table_of now ≡ table_of (state_after now entries.items) = sym (keeps.table no_table) in
    stands_released s base b n t r entries cells held number h at live lock log lent notes back number_is cells_are (table ∙ sym home) faults
    (subst (λ z. ShowPools every (state_after now entries.items) z) (sym infos) shown)
    (table_info ∙ (h.table_info ∙ ap shown_table same))
    (subst (λ z. IfSome z (λ (v : TableView). base ≤ v.slack)) (sym table) h.slack)

-- a release that brings the table back
pub stands_back_all : (s : EngineState) (base : ℕ) (b n : BookView) (t : ℕ) (r : LockRow) (entries : Roomy Entry) (cells : List PoolState) (v : TableView) (number : ℕ) → Stands s base b → row_at t b.lock.rows ≡ Some r → r.live ≡ true
    → n.lock ≡ released t b.lock → n.log ≡ b.log ++ Release r.seat t entries ∷ [] → n.lent ≡ left_of t b.lent → n.notes ≡ b.notes → ComesBack r.want (replay s b.log) base entries.items cells (Some v)
    → (length b.log < 2 ^ 62 → number ≡ lent_at t b.lent + failures_of entries.items) → n.cells ≡ b.cells ++ cells
    → takes_table r.want ≡ true → n.table ≡ Some v → n.table_info ≡ shown_table v.state → n.infos ≡ map pool_info cells → n.faults ≡ b.faults + number → Stands s base n
stands_back_all s base b n t r entries cells v number h at live lock log lent notes back number_is cells_are takes table table_info infos faults =
    let now : EngineState = state_after (replay s b.log) entries.items in
    let home : table_back r.want (Some v) b.table ≡ Some v = ap (λ z. cond z (Some v) b.table) takes in
    let is_table : Some v.state ≡ Some (table_of now) = back.part.board ∙ ap (λ c. cond c (Some (table_of now)) None) takes in
    let same : v.state ≡ table_of now = cc in
    stands_released s base b n t r entries cells (Some v) number h at live lock log lent notes back number_is cells_are (table ∙ sym home) faults
    (subst (λ z. ShowPools every now z) (sym infos) (infos_all r.want now cells (λ n. table_writes r.want n takes) back.part.pools))
    (table_info ∙ ap shown_table same)
    (subst (λ z. IfSome z (λ (w : TableView). base ≤ w.slack)) (sym table) back.slack)
