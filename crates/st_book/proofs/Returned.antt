-- What is at home once a part is back.
use Rattle.std.proofs.Common.{ℕ, ◌≡◌, ◌≢◌, ◌⊎◌, inl, inr, Bool, true, false, not, cond, List, [], ◌∷◌, ◌++◌, filter, Option, Some, None, refl, ap, sym, ◌∙◌, subst}
use Rattle.std.specs.Prelude.{IsSomeAnd, option_map}
use Rattle.std.specs.Cmp.Lexicographic.{nat_list_eq_equiv}
use Rattle.st_wants.specs.declared.row.LockRow.{LockRow}
use Rattle.st_wants.specs.declared.want.Want.{Want}
use Rattle.st_wants.specs.declared.want.Want.TheVariants as wants
use Rattle.st_wants.specs.declared.want.Mode.TheVariants.{Read}
use Rattle.st_wants.specs.Lock.{row_at, has_ticket}
use Rattle.st_wants.specs.Wants.{compatible, writes, takes_table}
use Rattle.st_wants.proofs.Sharing.{compatible_writes, compatible_table, reader_beside, table_beside}
use Rattle.st_grants.proofs.Sound.{row_left, row_gone, row_stays}
use Rattle.st_model.specs.declared.entry.Entry.{Entry}
use Rattle.st_model.specs.declared.state.EngineState.{EngineState}
use Rattle.st_model.specs.declared.state.PoolState.{PoolState}
use Rattle.st_model.specs.Look.{Text}
use Rattle.st_model.specs.Parts.{AgreeOn, pool_at, started, table_of}
use Rattle.st_history.specs.History.{state_after}
use Rattle.st_history.proofs.Agreement.{AllWant, entries_agree}
use Rattle.st_book.specs.Stands.{AreAtHome, IsOut, IsHome, TableIsOut, PartStands}
use Rattle.st_book.specs.View.{TableView}
use Rattle.st_book.proofs.AtHome.{Board}
use Rattle.st_book.proofs.Named.{none_and_some, not_found, found_left, found_right, apart_both}
use Rattle.st_book.proofs.Pools.{name_of}

-- the rows without a ticket's
abbrev pub rows_without : ℕ → List LockRow → List LockRow
rows_without t rows = filter (λ (x : LockRow). not (has_ticket t x)) rows

-- live tickets, but for this one, are compatible with a want
abbrev pub AreBeside : List LockRow → ℕ → Want → Type 0
AreBeside rows t want = (u : ℕ) (r : LockRow) → row_at u rows ≡ Some r → r.live ≡ true → t ≢ u → compatible r.want want ≡ true

-- what a want doesn't let its holder change is as it was after its entries
pub record Keeps (w : Want) (s t : EngineState) : Type 0 where
  pub pools : (n : Text) → writes w n ≡ false → pool_at n (started t) ≡ pool_at n (started s)
  pub table : takes_table w ≡ false → table_of t ≡ table_of s

pub others_stay : (w : Want) (s : EngineState) (es : List Entry) → AllWant w es → Keeps w s (state_after s es)
others_stay w s es all = record {
  pools = λ n other.
      let agree : AgreeOn _ s (state_after s es) = entries_agree (wants.Some (n ∷ []) Read) w s es all (reader_beside n w other) in
      sym (agree.pools n (rw (nat_list_eq_equiv.refl n) refl));
  table = λ other. let agree : AgreeOn _ s (state_after s es) = entries_agree (wants.Some [] Read) w s es all (table_beside w other) in sym agree.table;
}

other_ticket : (rows : List LockRow) (t u : ℕ) (r : LockRow) → row_at u (rows_without t rows) ≡ Some r → t ≢ u
other_ticket rows t u r k e = none_and_some (row_at u (rows_without t rows)) r (subst (λ z. row_at z (rows_without t rows) ≡ None) e (row_gone t rows)) k

same_row : (rows : List LockRow) (t u : ℕ) (own r : LockRow) → row_at t rows ≡ Some own → row_at u rows ≡ Some r → t ≡ u → own ≡ r
same_row rows t u own r at au e = let at' : row_at u rows ≡ Some own = subst (λ z. row_at z rows ≡ Some own) e at in cc

-- what another ticket has stays out
still_out : (rows : List LockRow) (t : ℕ) (own : LockRow) (n : Text) → row_at t rows ≡ Some own → writes own.want n ≡ false → IsOut n rows → IsOut n (rows_without t rows)
still_out rows t own n at no_write o = record {
  ticket = o.ticket;
  row = o.row;
  at = row_stays t o.ticket rows o.row (λ e.
      let same : own ≡ o.row = same_row rows t o.ticket own o.row at o.at e in
      let yes : writes own.want n ≡ true = subst (λ (z : LockRow). writes z.want n ≡ true) (sym same) o.writes_it in
      cc) o.at;
  live = o.live;
  writes_it = o.writes_it;
}

table_still_out : (rows : List LockRow) (t : ℕ) (own : LockRow) → row_at t rows ≡ Some own → takes_table own.want ≡ false → TableIsOut rows → TableIsOut (rows_without t rows)
table_still_out rows t own at no_table o = record {
  ticket = o.ticket;
  row = o.row;
  at = row_stays t o.ticket rows o.row (λ e.
      let same : own ≡ o.row = same_row rows t o.ticket own o.row at o.at e in
      let yes : takes_table own.want ≡ true = subst (λ (z : LockRow). takes_table z.want ≡ true) (sym same) o.takes in
      cc) o.at;
  live = o.live;
  takes = o.takes;
}

-- a ticket that didn't have the table goes, and the table is as it was
board_stays : (rows : List LockRow) (t : ℕ) (own : LockRow) (s s' : EngineState) (table : Option TableView) → row_at t rows ≡ Some own → takes_table own.want ≡ false → table_of s' ≡ table_of s → Board rows s table → Board (rows_without t rows) s' table
board_stays rows t own s s' table at no_table same b = elim b [
  | inl i ↦ inl (subst (λ z. IsSomeAnd table (λ v. v.state ≡ z)) (sym same) i.0, λ u r a l. i.1 u r (row_left t u rows r a) l)
  | inr o ↦ inr (o.0, table_still_out rows t own at no_table o.1)
]

-- the table once a part is back
abbrev pub table_back : Want → Option TableView → Option TableView → Option TableView
table_back want held table = cond (takes_table want) held table

given_back : (s : EngineState) (held : Option TableView) → option_map (λ (v : TableView). v.state) held ≡ Some (table_of s) → IsSomeAnd held (λ v. v.state ≡ table_of s)
given_back s (Some v) h = cc
given_back s None h = absurd cc

-- any part that comes back
module _ (rows : List LockRow) (t : ℕ) (own : LockRow) (s s' : EngineState) (home part : List PoolState) (table held : Option TableView)
    (at : row_at t rows ≡ Some own) (live : own.live ≡ true) (beside : AreBeside rows t own.want) (keeps : Keeps own.want s s') (stands : PartStands own.want s' part held) (h : AreAtHome rows s home table) where
  found : (n : Text) (b : Bool) → writes own.want n ≡ b → pool_at n part ≡ cond b (pool_at n (started s')) None
  found n b e = stands.pools.found n ∙ ap (λ c. cond c (pool_at n (started s')) None) e

  -- nothing that is at home is the part's
  not_own : (n : Text) (p : PoolState) → pool_at n home ≡ Some p → writes own.want n ≡ false
  not_own n p k = (h.cells n p k).1 t own at live

  gone : (n : Text) → writes own.want n ≡ true → pool_at n home ≡ None
  gone n owns = not_found (pool_at n home) (λ p k. let other = not_own n p k in cc)

  not_in : (n : Text) (p : PoolState) → pool_at n home ≡ Some p → pool_at n part ≡ None
  not_in n p k = found n false (not_own n p k)

  home_now : (n : Text) → writes own.want n ≡ true → IsHome n (rows_without t rows)
  home_now n owns u r k l = compatible_writes n r.want own.want (beside u r (row_left t u rows r k) l (other_ticket rows t u r k)) owns

  cell : (n : Text) (p : PoolState) (o : Option PoolState) → pool_at n home ≡ o → pool_at n (home ++ part) ≡ Some p → (pool_at n (started s') ≡ Some p) × IsHome n (rows_without t rows)
  cell n p (Some q) e k =
      let same : Some q ≡ Some p = sym (found_left name_of n home part q e) ∙ k in
      let old = h.cells n q e in
      (keeps.pools n (not_own n q e) ∙ (old.0 ∙ same), λ u r a l. old.1 u r (row_left t u rows r a) l)
  cell n p None e k =
      let there : pool_at n part ≡ Some p = sym (found_right name_of n home part e) ∙ k in
      here (writes own.want n) refl there
    where
      here : (b : Bool) → writes own.want n ≡ b → pool_at n part ≡ Some p → (pool_at n (started s') ≡ Some p) × IsHome n (rows_without t rows)
      here true f m = (sym (found n true f) ∙ m, home_now n f)
      here false f m = absurd (none_and_some (pool_at n part) p (found n false f) m)

  each : (n : Text) (p : PoolState) (b : Bool) → writes own.want n ≡ b → pool_at n (started s') ≡ Some p → (pool_at n (home ++ part) ≡ Some p) ⊎ IsOut n (rows_without t rows)
  each n p true e k = inl (found_right name_of n home part (gone n e) ∙ (found n true e ∙ k))
  each n p false e k = elim (h.all n p (sym (keeps.pools n e) ∙ k)) [
    | inl i ↦ inl (found_left name_of n home part p i)
    | inr o ↦ inr (still_out rows t own n at e o)
  ]

  board : (b : Bool) → takes_table own.want ≡ b → Board (rows_without t rows) s' (cond b held table)
  board true e = inl (given_back s' held (stands.board ∙ ap (λ c. cond c (Some (table_of s')) None) e), λ u r k l. compatible_table r.want own.want (beside u r (row_left t u rows r k) l (other_ticket rows t u r k)) e)
  board false e = board_stays rows t own s s' table at e (keeps.table e) h.board

  pub part_back : AreAtHome (rows_without t rows) s' (home ++ part) (table_back own.want held table)
  part_back = record {
    apart = apart_both name_of home part h.apart stands.pools.apart not_in;
    cells = λ n p k. cell n p (pool_at n home) refl k;
    all = λ n p k. each n p (writes own.want n) refl k;
    board = board (takes_table own.want) refl;
  }
