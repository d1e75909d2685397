-- What a book stands for, from its making on: after an arrival, after a grant, and at its close.
use Rattle.std.proofs.Common.{ℕ, ◌≡◌, ◌+◌, ◌-◌, ◌*◌, ◌<◌, ◌≤◌, ◌^◌, ◌==◌, inl, inr, Bool, true, false, ◌||◌, cond, List, [], ◌∷◌, ◌++◌, map, length, Option, refl, ap, sym, ◌∙◌, subst, arith, length-append}
use Rattle.std.specs.Prelude.{Some, None, IsSomeAnd, IfSome, min, option_map}
use Rattle.std.specs.List.{IsDistinct}
use Rattle.std.proofs.lemmas.Bool.Decides.{nat_tests}
use Rattle.st_wants.specs.declared.row.LockRow.{LockRow}
use Rattle.st_wants.specs.declared.want.Want.{Want}
use Rattle.st_wants.specs.declared.want.Want.TheVariants.{All}
use Rattle.st_wants.specs.declared.want.Mode.TheVariants.{Write}
use Rattle.st_wants.specs.Wants.{reads, takes_table}
use Rattle.st_wants.specs.Lock.{Lock, row_at, new_row, marked, start, arrived, granted, IsFree}
use Rattle.st_wants.specs.Rules.{May, lock_after, lock_run}
use Rattle.st_grants.proofs.Sound.{row_keep, row_marks}
use Rattle.st_model.specs.declared.state.EngineState.{EngineState}
use Rattle.st_model.specs.declared.state.PoolState.{PoolState}
use Rattle.st_model.specs.declared.state.TableState.{TableState}
use Rattle.st_model.specs.Look.{Text}
use Rattle.st_model.specs.Parts.{pool_at, started, table_of, shown_table}
use Rattle.st_model.specs.Shown.{pool_info}
use Rattle.st_history.specs.declared.log.Event.{Event}
use Rattle.st_history.specs.declared.log.Event.TheVariants.{Arrive, Grant}
use Rattle.st_history.specs.Failures.{failures, failures_in}
use Rattle.st_history.specs.History.{History, IsDue, move_of, moves_of, replay, state_past}
use Rattle.st_history.proofs.Snoc.{history-snoc, lock_run-snoc, replay-snoc}
use Rattle.st_history.proofs.Failures.{failures-snoc, failures-few}
use Rattle.st_book.specs.declared.lent.Lent.{Lent}
use Rattle.st_book.specs.Effects.{cells_left, cells_given, table_left, table_given, infos_given, table_info_given}
use Rattle.st_book.specs.Stands.{Stands, AreAtHome, PartStands, PartShows}
use Rattle.st_model.specs.Pieces.{ShowPools, every}
use Rattle.st_book.specs.View.{BookView, TableView, is_lent_to, lent_at, lent_sum}
use Rattle.st_book.proofs.Named.{none_and_some, not_found, found_filter, apart_filter}
use Rattle.st_book.proofs.Renewing.{info_name_of}
use Rattle.st_model.specs.Pieces.{info_at}
use Rattle.st_book.proofs.AtHome.{home_arrived, home_granted, part_home, table_there, lives}
use Rattle.st_history.proofs.Told.{waits-not_granted}
use Rattle.st_book.specs.declared.noted.Noted.{Noted}
use Rattle.st_book.specs.Noted.{noted_log, grants_in, grant_count, LentAsNoted}
use Rattle.st_book.proofs.Numbers.{noted-snoc, count-snoc, noted-granted, noted-in_log, lent-arrived, lent-granted}
use Rattle.st_book.proofs.Lending.{lent_push_other, lent_push_own, lent_sum_push, none_lent}

-- a ticket that isn't live has no number
abbrev pub IsIdle : List LockRow → List Lent → Type 0
IsIdle rows lent = (t : ℕ) → ((r : LockRow) → row_at t rows ≡ Some r → r.live ≡ false) → lent_at t lent ≡ 0

-- What a book has to show after one more event, to stand for its log again.
pub record Follows (s : EngineState) (base : ℕ) (b n : BookView) (e : Event) : Type 0 where
  pub may : May b.lock (move_of e)
  pub due : IsDue b.lock (replay s b.log) e
  pub lock : n.lock ≡ lock_after b.lock (move_of e)
  pub log : n.log ≡ b.log ++ e ∷ []
  pub home : AreAtHome n.lock.rows (state_past (replay s b.log) e) n.cells n.table
  pub infos : ShowPools every (state_past (replay s b.log) e) n.infos
  pub table_info : n.table_info ≡ shown_table (table_of (state_past (replay s b.log) e))
  pub slack : IfSome n.table (λ (v : TableView). base ≤ v.slack)
  pub faults : length b.log < 2 ^ 62 → failures b.log + failures_in e ≡ n.faults + lent_sum n.lent
  pub idle : IsIdle n.lock.rows n.lent
  pub grants : length n.notes ≡ grant_count b.log + grants_in e
  pub noted : LentAsNoted n.lock (noted_log n.log n.notes) n.lent

pub stands_after : (s : EngineState) (base : ℕ) (b n : BookView) (e : Event) → Stands s base b → Follows s base b n e → Stands s base n
stands_after s base b n e h f =
    let state : replay s n.log ≡ state_past (replay s b.log) e = ap (replay s) f.log ∙ replay-snoc s b.log e in
    let long : length n.log ≡ length b.log + 1 = ap length f.log ∙ length-append b.log (e ∷ []) in
    let counted : failures n.log ≡ failures b.log + failures_in e = ap failures f.log ∙ failures-snoc b.log e in
    record {
      history = subst (λ z. History s z) (sym f.log) (history-snoc start s b.log e h.history (subst (λ l. May l (move_of e)) h.lock f.may) (subst (λ l. IsDue l (replay s b.log) e) h.lock f.due));
      lock = f.lock ∙ (ap (λ l. lock_after l (move_of e)) h.lock ∙ (sym (lock_run-snoc start b.log e) ∙ ap (λ z. lock_run start (moves_of z)) (sym f.log)));
      home = subst (λ z. AreAtHome n.lock.rows z n.cells n.table) (sym state) f.home;
      infos = subst (λ z. ShowPools every z n.infos) (sym state) f.infos;
      table_info = f.table_info ∙ ap (λ z. shown_table (table_of z)) (sym state);
      slack = f.slack;
      faults = λ k. counted ∙ f.faults (omega arith);
      idle = f.idle;
      grants = let c : grant_count n.log ≡ grant_count b.log + grants_in e = ap grant_count f.log ∙ count-snoc b.log e in f.grants ∙ sym c;
      noted = f.noted;
    }

-- a book that is made, of a state with no started pool
pub stands_made : (s : EngineState) (b : BookView) (st : TableState) (slack : ℕ) → table_of s ≡ st → started s ≡ [] → b.lock ≡ start → b.log ≡ [] → b.cells ≡ [] → b.infos ≡ [] → b.table ≡ Some (record { state = st; slack = slack }) → b.table_info ≡ shown_table st → b.faults ≡ 0 → b.lent ≡ [] → b.notes ≡ [] → Stands s slack b
unfolding IsDistinct
stands_made s b st slack is none lock log cells infos table table_info faults lent notes =
    let rows : b.lock.rows ≡ [] = ap (λ (l : Lock). l.rows) lock in
    let home : AreAtHome [] s [] (Some (record { state = st; slack = slack })) = record {
      apart = tt;
      cells = λ n p k. absurd cc;
      all = λ n p k. absurd (let e : pool_at n (started s) ≡ None = ap (pool_at n) none in none_and_some (pool_at n (started s)) p e k);
      board = inl (sym is, λ t r k live. absurd cc);
    } in
    let shown : ShowPools every s [] = record { apart = tt; shown = λ n. ap (λ ps. option_map pool_info (pool_at n ps)) (sym none) } in
    let same : replay s b.log ≡ s = ap (replay s) log in
    record {
      history = subst (λ z. History s z) (sym log) tt;
      lock = lock ∙ ap (λ z. lock_run start (moves_of z)) (sym log);
      home = rw (rows, same, cells, table) home;
      infos = rw (same, infos) shown;
      table_info = table_info ∙ ap shown_table (sym is ∙ ap table_of (sym same));
      slack = subst (λ z. IfSome z (λ (v : TableView). slack ≤ v.slack)) (sym table) (omega arith);
      faults = λ k. rw (log, faults, lent) refl;
      idle = λ t k. ap (lent_at t) lent;
      grants = rw (log, notes) refl;
      noted = λ seat t n is live. absurd (rw log at is);
    }

-- a book in which a ticket arrived
pub stands_arrived : (s : EngineState) (base : ℕ) (b n : BookView) (seat : ℕ) (want : Want) → Stands s base b
    → n.lock ≡ arrived seat want b.lock → n.log ≡ b.log ++ Arrive seat b.lock.next want ∷ [] → n.cells ≡ b.cells → n.infos ≡ b.infos → n.table ≡ b.table → n.table_info ≡ b.table_info → n.faults ≡ b.faults → n.lent ≡ b.lent → n.notes ≡ b.notes → Stands s base n
stands_arrived s base b n seat want h lock log cells infos table table_info faults lent notes =
    let x : LockRow = new_row b.lock.next seat want in
    let rows : n.lock.rows ≡ b.lock.rows ++ x ∷ [] = ap (λ (l : Lock). l.rows) lock in
    let idle : IsIdle (b.lock.rows ++ x ∷ []) b.lent = λ t k. h.idle t (λ r at. k r (row_keep t b.lock.rows x r at)) in
    let counted : length b.log < 2 ^ 62 → failures b.log + 0 ≡ b.faults + lent_sum b.lent = λ k. let f = h.faults k in omega arith in
    stands_after s base b n (Arrive seat b.lock.next want) h (record {
      may = refl;
      due = tt;
      lock = lock;
      log = log;
      home = rw (rows, cells, table) (home_arrived b.lock.rows x (replay s b.log) b.cells b.table refl h.home);
      infos = subst (λ z. ShowPools every (replay s b.log) z) (sym infos) h.infos;
      table_info = table_info ∙ h.table_info;
      slack = subst (λ z. IfSome z (λ (v : TableView). base ≤ v.slack)) (sym table) h.slack;
      faults = λ k. rw (faults, lent) (counted k);
      idle = rw (rows, lent) idle;
      grants = let g = h.grants in rw notes (omega arith);
      noted = rw (lock, log, notes, lent, noted-snoc b.log b.notes (Arrive seat b.lock.next want)) (lent-arrived b.lock seat want (noted_log b.log b.notes) _ b.lent (λ q t k e. let no : Arrive seat b.lock.next want ≡ Grant q t = ap (λ (z : Noted). z.event) e in cc) h.noted);
    })

-- the part that a grant gives stands for the state
pub part_given : (s : EngineState) (base : ℕ) (b : BookView) (t : ℕ) (r : LockRow) → Stands s base b → row_at t b.lock.rows ≡ Some r → IsFree b.lock t → PartStands r.want (replay s b.log) (cells_given r.want b.cells) (table_given r.want b.table)
part_given s base b t r h at free = part_home b.lock t r (replay s b.log) b.cells b.table at free h.home

-- and shows it
pub part_shown : (s : EngineState) (base : ℕ) (b : BookView) (want : Want) → Stands s base b → PartShows want (replay s b.log) (infos_given want b.infos) (table_info_given want b.table_info)
part_shown s base b want h = record {
  pools = record {
    apart = apart_filter info_name_of (reads want) b.infos h.infos.apart;
    shown = λ n. found_filter info_name_of (reads want) n b.infos ∙ here n (reads want n);
  };
  board = ap (table_info_given want) h.table_info;
}
  where
    here : (n : Text) (c : Bool) → cond c (info_at n b.infos) None ≡ option_map pool_info (cond c (pool_at n (started (replay s b.log))) None)
    here n true = h.infos.shown n
    here n false = refl

-- the table that goes out has the slack too
pub slack_left : (want : Want) (base : ℕ) (table : Option TableView) → IfSome table (λ (v : TableView). base ≤ v.slack) → IfSome (table_left want table) (λ (v : TableView). base ≤ v.slack)
slack_left want base table h = here (takes_table want)
  where
    here : (c : Bool) → IfSome (cond c None table) (λ (v : TableView). base ≤ v.slack)
    here true = tt
    here false = h

pub slack_given : (want : Want) (base : ℕ) (table : Option TableView) → IfSome table (λ (v : TableView). base ≤ v.slack) → IfSome (table_given want table) (λ (v : TableView). base ≤ v.slack)
slack_given want base table h = here (takes_table want)
  where
    here : (c : Bool) → IfSome (cond c table None) (λ (v : TableView). base ≤ v.slack)
    here true = h
    here false = tt

-- what is out counts less than 2^64 faults, so its number isn't cut
out_small : (s : EngineState) (base : ℕ) (b : BookView) (rest out : ℕ) → Stands s base b → rest + out ≡ b.faults → length b.log < 2 ^ 62 → min out (2 ^ 64 - 1) ≡ out
out_small s base b rest out h is k =
    let counted : failures b.log ≡ b.faults + lent_sum b.lent = h.faults k in
    let few : failures b.log ≤ 2 * length b.log = failures-few s b.log h.history in
    omega arith

-- a book in which a ticket was granted
pub stands_granted : (s : EngineState) (base : ℕ) (b n : BookView) (t : ℕ) (r : LockRow) (x : Lent) (out : ℕ) → Stands s base b → row_at t b.lock.rows ≡ Some r → r.live ≡ false → IsFree b.lock t
    → n.lock ≡ granted t b.lock → n.log ≡ b.log ++ Grant r.seat t ∷ [] → n.cells ≡ cells_left r.want b.cells → n.infos ≡ b.infos → n.table ≡ table_left r.want b.table → n.table_info ≡ b.table_info
    → n.lent ≡ b.lent ++ x ∷ [] → x.ticket ≡ t → x.faults ≡ min out (2 ^ 64 - 1) → n.faults + out ≡ b.faults → n.notes ≡ b.notes ++ x.faults ∷ [] → Stands s base n
stands_granted s base b n t r x out h at waits free lock log cells infos table table_info lent ticket number faults notes =
    let rows : n.lock.rows ≡ map (marked t) b.lock.rows = ap (λ (l : Lock). l.rows) lock in
    let waiting : IsSomeAnd (row_at t b.lock.rows) (λ (q : LockRow). (q.live ≡ false) × (q.seat ≡ r.seat)) = rw at (waits, refl) in
    let mine : row_at t (map (marked t) b.lock.rows) ≡ Some (marked t r) = row_marks t t b.lock.rows r at in
    let idle : IsIdle (map (marked t) b.lock.rows) (b.lent ++ x ∷ []) = λ u k.
    let old : lent_at u b.lent ≡ 0 = h.idle u (λ q qat. or_none q.live (q.ticket == t) (k (marked t q) (row_marks t u b.lock.rows q qat))) in
    let cases : (y : Bool) → is_lent_to u x ≡ y → lent_at u (b.lent ++ x ∷ []) ≡ 0 = elim [
      | true ↦ (λ e.
          let same : t ≡ u = grind (arith, nat_tests) in
          let dead : (marked t r).live ≡ false = k (marked t r) (subst (λ z. row_at z (map (marked t) b.lock.rows) ≡ Some (marked t r)) same mine) in
          let live : (marked t r).live ≡ true = lives t b.lock.rows r at in
          absurd (let no : true ≡ false = sym live ∙ dead in cc))
      | false ↦ (λ e. lent_push_other u b.lent x e ∙ old)
    ] in
    cases (is_lent_to u x) refl in
    let counted : length b.log < 2 ^ 62 → failures b.log + 0 ≡ n.faults + lent_sum (b.lent ++ x ∷ []) = λ k.
    let f : failures b.log ≡ b.faults + lent_sum b.lent = h.faults k in
    let whole : x.faults ≡ out = number ∙ out_small s base b n.faults out h faults k in
    let sum = lent_sum_push b.lent x in
    omega arith in
    stands_after s base b n (Grant r.seat t) h (record {
      may = (waiting, free);
      due = tt;
      lock = lock;
      log = log;
      home = rw (rows, cells, table) (home_granted b.lock.rows t r at (replay s b.log) b.cells b.table h.home);
      infos = subst (λ z. ShowPools every (replay s b.log) z) (sym infos) h.infos;
      table_info = table_info ∙ h.table_info;
      slack = subst (λ z. IfSome z (λ (v : TableView). base ≤ v.slack)) (sym table) (slack_left r.want base b.table h.slack);
      faults = λ k. rw lent (counted k);
      idle = rw (rows, lent) idle;
      grants = let g = h.grants in let more = length-append b.notes (x.faults ∷ []) in rw notes (omega arith);
      noted = rw (lock, log, notes, lent, noted-granted b.log b.notes r.seat t x.faults h.grants) (lent-granted b.lock t r.seat (noted_log b.log b.notes) x b.lent
          (λ q k is. waits-not_granted s b.log t q r h.history (subst (λ (l : Lock). row_at t l.rows ≡ Some r) h.lock at) waits (noted-in_log b.log b.notes q t k is))
          (h.idle t (λ q qat. let same : q ≡ r = cc in ap (λ (z : LockRow). z.live) same ∙ waits)) ticket h.noted);
    })
  where
    or_none : (a c : Bool) → (a || c) ≡ false → a ≡ false
    or_none true c e = absurd cc
    or_none false c e = refl

-- the number that the book keeps of a ticket that was granted
pub lent_number : (s : EngineState) (base : ℕ) (b : BookView) (t : ℕ) (r : LockRow) (x : Lent) (rest out : ℕ) → Stands s base b → row_at t b.lock.rows ≡ Some r → r.live ≡ false
    → x.ticket ≡ t → x.faults ≡ min out (2 ^ 64 - 1) → rest + out ≡ b.faults → length b.log < 2 ^ 62 → lent_at t (b.lent ++ x ∷ []) ≡ out
lent_number s base b t r x rest out h at waits ticket number faults k =
    let none : lent_at t b.lent ≡ 0 = h.idle t (λ q qat. let same : q ≡ r = cc in ap (λ (z : LockRow). z.live) same ∙ waits) in
    let own : is_lent_to t x ≡ true = grind (arith, nat_tests) in
    let sum = lent_push_own t b.lent x own in
    let whole : x.faults ≡ out = number ∙ out_small s base b rest out h faults k in
    omega arith

-- with no ticket out, all that the state has is at home
pub part_at_close : (s : EngineState) (base : ℕ) (b : BookView) → Stands s base b → b.lock.rows ≡ [] → PartStands (All Write) (replay s b.log) b.cells b.table
part_at_close s base b h quiet =
    let nobody : (t : ℕ) (r : LockRow) → row_at t b.lock.rows ≡ Some r → ⊥ = λ t r at. none_and_some (row_at t b.lock.rows) r (ap (row_at t) quiet) at in
    let now : EngineState = replay s b.log in
    let found : (n : Text) → pool_at n b.cells ≡ pool_at n (started now) = λ n.
    let cases : (o : Option PoolState) → pool_at n (started now) ≡ o → pool_at n b.cells ≡ o = elim [
      | Some p ↦ (λ e. elim (h.home.all n p e) [ inl i ↦ i | inr o ↦ absurd (nobody o.ticket o.row o.at) ])
      | None ↦ (λ e. not_found (pool_at n b.cells) (λ p k. none_and_some (pool_at n (started now)) p e (h.home.cells n p k).0))
    ] in
    cases (pool_at n (started now)) refl in
    let table : IsSomeAnd b.table (λ (v : TableView). v.state ≡ table_of now) = elim h.home.board [ inl i ↦ i.0 | inr o ↦ absurd (nobody o.1.ticket o.1.row o.1.at) ] in
    record { pools = record { apart = h.home.apart; found = found }; board = table_there now b.table table }

pub faults_at_close : (s : EngineState) (base : ℕ) (b : BookView) → Stands s base b → b.lock.rows ≡ [] → length b.log < 2 ^ 62 → failures b.log ≡ b.faults
faults_at_close s base b h quiet k =
    let none : lent_sum b.lent ≡ 0 = none_lent b.lent (λ t. h.idle t (λ r at. absurd (none_and_some (row_at t b.lock.rows) r (ap (row_at t) quiet) at))) in
    let counted = h.faults k in
    omega arith
