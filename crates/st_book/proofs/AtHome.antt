-- What is at home after an arrival and after a grant, and what a grant gives.
use Rattle.std.proofs.Common.{ℕ, ◌≡◌, ◌==◌, ◌⊎◌, inl, inr, Bool, true, false, not, ◌||◌, cond, List, [], ◌∷◌, ◌++◌, map, Option, Some, None, refl, ap, sym, ◌∙◌, subst, arith}
use Rattle.std.specs.Prelude.{IsSomeAnd, option_map}
use Rattle.std.proofs.lemmas.Bool.Decides.{nat_tests}
use Rattle.st_wants.specs.declared.row.LockRow.{LockRow}
use Rattle.st_wants.specs.declared.want.Want.{Want}
use Rattle.st_wants.specs.Lock.{Lock, row_at, marked, IsFree}
use Rattle.st_wants.specs.Wants.{compatible, writes, takes_table}
use Rattle.st_wants.proofs.Sharing.{compatible_writes, compatible_table}
use Rattle.st_grants.proofs.Lookups.{ticket_of, not_back}
use Rattle.st_grants.proofs.Sound.{row_push, row_keep, row_marked, row_marks, beside, or_true}
use Rattle.st_model.specs.declared.state.EngineState.{EngineState}
use Rattle.st_model.specs.declared.state.PoolState.{PoolState}
use Rattle.st_model.specs.Look.{Text}
use Rattle.st_model.specs.Parts.{pool_at, started, table_of}
use Rattle.st_book.specs.Effects.{cells_left, cells_given, table_left, table_given}
use Rattle.st_book.specs.Stands.{AreAtHome, IsOut, IsHome, TableIsOut, TableIsHome, PartStands}
use Rattle.st_book.specs.View.{TableView}
use Rattle.st_book.proofs.Named.{none_and_some, not_found, found_filter, apart_filter}
use Rattle.st_book.proofs.Pools.{name_of}

-- where the table is, and what it stands for
abbrev pub Board : List LockRow → EngineState → Option TableView → Type 0
Board rows s table = (IsSomeAnd table (λ v. v.state ≡ table_of s) × TableIsHome rows) ⊎ ((table ≡ None) × TableIsOut rows)

-- a ticket that only arrives has nothing
pub home_arrived : (rows : List LockRow) (x : LockRow) (s : EngineState) (home : List PoolState) (table : Option TableView) → x.live ≡ false → AreAtHome rows s home table → AreAtHome (rows ++ x ∷ []) s home table
home_arrived rows x s home table idle h =
    let back : (t : ℕ) (r : LockRow) → row_at t (rows ++ x ∷ []) ≡ Some r → r.live ≡ true → row_at t rows ≡ Some r = λ t r at live. elim (row_push t rows x r at) [ inl i ↦ i | inr e ↦ absurd (let no : false ≡ true = sym idle ∙ (ap (λ (z : LockRow). z.live) e ∙ live) in cc) ] in
    record {
      apart = h.apart;
      cells = λ n p at. ((h.cells n p at).0, λ t r k live. (h.cells n p at).1 t r (back t r k live) live);
      all = λ n p at. elim (h.all n p at) [ inl i ↦ inl i | inr o ↦ inr (record { ticket = o.ticket; row = o.row; at = row_keep o.ticket rows x o.row o.at; live = o.live; writes_it = o.writes_it }) ];
      board = elim h.board [
        | inl i ↦ inl (i.0, λ t r k live. i.1 t r (back t r k live) live)
        | inr o ↦ inr (o.0, record { ticket = o.1.ticket; row = o.1.row; at = row_keep o.1.ticket rows x o.1.row o.1.at; live = o.1.live; takes = o.1.takes })
      ];
    }

-- what is out stays out while others are granted
out_marked : (t : ℕ) (n : Text) (rows : List LockRow) → IsOut n rows → IsOut n (map (marked t) rows)
out_marked t n rows o = record { ticket = o.ticket; row = marked t o.row; at = row_marks t o.ticket rows o.row o.at; live = ap (λ b. b || (o.row.ticket == t)) o.live; writes_it = o.writes_it }

table_out_marked : (t : ℕ) (rows : List LockRow) → TableIsOut rows → TableIsOut (map (marked t) rows)
table_out_marked t rows o = record { ticket = o.ticket; row = marked t o.row; at = row_marks t o.ticket rows o.row o.at; live = ap (λ b. b || (o.row.ticket == t)) o.live; takes = o.takes }

-- a live ticket after a grant was live, or is the one that was granted
live_marked : (t u : ℕ) (rows : List LockRow) (own r : LockRow) → row_at t rows ≡ Some own → row_at u (map (marked t) rows) ≡ Some r → r.live ≡ true → ((q : LockRow) × (row_at u rows ≡ Some q) × (q.live ≡ true) × (q.want ≡ r.want)) ⊎ (own.want ≡ r.want)
live_marked t u rows own r at k live =
    let i = row_marked t u rows r k in
    let w : i.0.want ≡ r.want = ap (λ (z : LockRow). z.want) i.2 in
    let l : (i.0.live || (i.0.ticket == t)) ≡ true = ap (λ (z : LockRow). z.live) i.2 ∙ live in
    let Goal : Type 0 = ((q : LockRow) × (row_at u rows ≡ Some q) × (q.live ≡ true) × (q.want ≡ r.want)) ⊎ (own.want ≡ r.want) in
    let cases : (x : Bool) → i.0.live ≡ x → (x || (i.0.ticket == t)) ≡ true → Goal = elim [
      | true ↦ (λ e f. inl (i.0, i.1, e, w))
      | false ↦ (λ e f.
          let ut : u ≡ t = let g : i.0.ticket ≡ u = ticket_of u rows i.0 i.1 in grind (arith, nat_tests) in
          let at' : row_at t rows ≡ Some i.0 = subst (λ z. row_at z rows ≡ Some i.0) ut i.1 in
          let same : own ≡ i.0 = cc in
          inr (ap (λ (z : LockRow). z.want) same ∙ w))
    ] in
    cases i.0.live refl l

-- the ticket that was granted is live
pub lives : (t : ℕ) (rows : List LockRow) (own : LockRow) → row_at t rows ≡ Some own → (marked t own).live ≡ true
lives t rows own at =
    let e : own.ticket ≡ t = ticket_of t rows own at in
    let b : (own.ticket == t) ≡ true = grind (arith, nat_tests) in
    rw b (or_true own.live)

-- what a live ticket after a grant writes, another wrote, or the one that was granted
module _ (rows : List LockRow) (t : ℕ) (own : LockRow) (at : row_at t rows ≡ Some own) where
  mine : row_at t (map (marked t) rows) ≡ Some (marked t own)
  mine = row_marks t t rows own at

  still_home : (n : Text) → writes own.want n ≡ false → IsHome n rows → IsHome n (map (marked t) rows)
  still_home n not_own h u r m live = elim (live_marked t u rows own r at m live) [
    | inl i ↦ subst (λ (w : Want). writes w n ≡ false) i.3 (h u i.0 i.1 i.2)
    | inr e ↦ subst (λ (w : Want). writes w n ≡ false) e not_own
  ]

  now_out : (n : Text) → writes own.want n ≡ true → IsOut n (map (marked t) rows)
  now_out n owns = record { ticket = t; row = marked t own; at = mine; live = lives t rows own at; writes_it = owns }

  -- the table after the grant
  board_granted : (s : EngineState) (table : Option TableView) → Board rows s table → Board (map (marked t) rows) s (table_left own.want table)
  board_granted s table b = here (takes_table own.want) refl
    where
      here : (b : Bool) → takes_table own.want ≡ b → Board (map (marked t) rows) s (cond b None table)
      here true e = inr (refl, record { ticket = t; row = marked t own; at = mine; live = lives t rows own at; takes = e })
      here false e = elim b [
        | inl i ↦ inl (
          i.0,
          λ u r m live. elim (live_marked t u rows own r at m live) [
            | inl j ↦ subst (λ (w : Want). takes_table w ≡ false) j.3 (i.1 u j.0 j.1 j.2)
            | inr k ↦ subst (λ (w : Want). takes_table w ≡ false) k e
          ],
        )
        | inr o ↦ inr (o.0, table_out_marked t rows o.1)
      ]

  -- a grant takes out what the want writes
  pub home_granted : (s : EngineState) (home : List PoolState) (table : Option TableView) → AreAtHome rows s home table → AreAtHome (map (marked t) rows) s (cells_left own.want home) (table_left own.want table)
  home_granted s home table h = record {
    apart = apart_filter name_of (λ n. not (writes own.want n)) home h.apart;
    cells = λ n p k. cell n p (writes own.want n) refl (sym (found_filter name_of (λ m. not (writes own.want m)) n home) ∙ k);
    all = λ n p k. elim (h.all n p k) [ inl i ↦ left n p (writes own.want n) refl i | inr o ↦ inr (out_marked t n rows o) ];
    board = board_granted s table h.board;
  }
    where
      cell : (n : Text) (p : PoolState) (b : Bool) → writes own.want n ≡ b → cond (not (writes own.want n)) (pool_at n home) None ≡ Some p → (pool_at n (started s) ≡ Some p) × IsHome n (map (marked t) rows)
      cell n p true e k = absurd (let k' = rw e at k in cc)
      cell n p false e k =
          let k' : pool_at n home ≡ Some p = rw e at k in
          ((h.cells n p k').0, still_home n e (h.cells n p k').1)

      left : (n : Text) (p : PoolState) (b : Bool) → writes own.want n ≡ b → pool_at n home ≡ Some p → (pool_at n (cells_left own.want home) ≡ Some p) ⊎ IsOut n (map (marked t) rows)
      left n p true e k = inr (now_out n e)
      left n p false e k =
          let there : cond (not (writes own.want n)) (pool_at n home) None ≡ Some p = rw e k in
          inl (found_filter name_of (λ m. not (writes own.want m)) n home ∙ there)

-- what a want writes is at home where nothing keeps it back
free_home : (l : Lock) (t : ℕ) (own : LockRow) (n : Text) (s : EngineState) (home : List PoolState) (table : Option TableView) → row_at t l.rows ≡ Some own → IsFree l t → writes own.want n ≡ true → AreAtHome l.rows s home table → pool_at n home ≡ pool_at n (started s)
free_home l t own n s home table at free mine h =
    let cases : (o : Option PoolState) → pool_at n (started s) ≡ o → pool_at n home ≡ o = elim [
      | Some p ↦ (λ e. elim (h.all n p e) [
        | inl i ↦ i
        | inr o ↦ absurd (
            let ok : compatible o.row.want own.want ≡ true = beside own o.row o.live (not_back l t o.ticket own o.row free at o.at) in
            let no : writes o.row.want n ≡ false = compatible_writes n o.row.want own.want ok mine in
            let yes = o.writes_it in cc)
      ])
      | None ↦ (λ e. not_found (pool_at n home) (λ p k. none_and_some (pool_at n (started s)) p e (h.cells n p k).0))
    ] in
    cases (pool_at n (started s)) refl

free_table : (l : Lock) (t : ℕ) (own : LockRow) (s : EngineState) (home : List PoolState) (table : Option TableView) → row_at t l.rows ≡ Some own → IsFree l t → takes_table own.want ≡ true → AreAtHome l.rows s home table → IsSomeAnd table (λ v. v.state ≡ table_of s)
free_table l t own s home table at free mine h = elim h.board [
  | inl i ↦ i.0
  | inr o ↦ absurd (
      let ok : compatible o.1.row.want own.want ≡ true = beside own o.1.row o.1.live (not_back l t o.1.ticket own o.1.row free at o.1.at) in
      let no : takes_table o.1.row.want ≡ false = compatible_table o.1.row.want own.want ok mine in
      let yes = o.1.takes in cc)
]

-- a table that is there, of this state
pub table_there : (s : EngineState) (table : Option TableView) → IsSomeAnd table (λ v. v.state ≡ table_of s) → option_map (λ (v : TableView). v.state) table ≡ Some (table_of s)
table_there s (Some v) h = ap (λ z. Some z) h
table_there s None h = absurd h

-- so a part stands for the state at its grant
pub part_home : (l : Lock) (t : ℕ) (own : LockRow) (s : EngineState) (home : List PoolState) (table : Option TableView) → row_at t l.rows ≡ Some own → IsFree l t → AreAtHome l.rows s home table → PartStands own.want s (cells_given own.want home) (table_given own.want table)
part_home l t own s home table at free h = record {
  pools = record { apart = apart_filter name_of (writes own.want) home h.apart; found = λ n. found_filter name_of (writes own.want) n home ∙ given n (writes own.want n) refl };
  board = board (takes_table own.want) refl;
}
  where
    given : (n : Text) (b : Bool) → writes own.want n ≡ b → cond b (pool_at n home) None ≡ cond b (pool_at n (started s)) None
    given n true e = free_home l t own n s home table at free e h
    given n false e = refl

    board : (b : Bool) → takes_table own.want ≡ b → option_map (λ (v : TableView). v.state) (cond b table None) ≡ cond b (Some (table_of s)) None
    board true e = table_there s table (free_table l t own s home table at free e h)
    board false e = refl
