-- a call gives back what it has
use Rattle.std.proofs.Common.{ℕ, ◌≡◌, ◌+◌, ◌<◌, ◌≤◌, ◌^◌, ◌==◌, ◌||◌, List, [], ◌∷◌, ◌++◌, map, length, filter, Bool, true, false, cond, Option, Some, None, option_map, refl, sym, ap, ◌∙◌, subst, arith, lit≤}
use Rattle.std.proofs.lemmas.List.{length-map}
use Rattle.std.specs.Prelude.{IfSome, is_some}
use Rattle.std.specs.List.{AllByRecursion}
use Rattle.st_units.specs.Roomy.{Roomy}
use Rattle.st_wants.specs.declared.want.Want.{Want}
use Rattle.st_wants.specs.declared.row.LockRow.{LockRow}
use Rattle.st_wants.specs.Lock.{Lock, row_at, new_row, marked, arrived, granted, released, IsLive}
use Rattle.st_wants.specs.Wants.{takes_table}
use Rattle.st_model.specs.declared.entry.Entry.{Entry}
use Rattle.st_model.specs.declared.info.TableInfo.{TableInfo}
use Rattle.st_model.specs.declared.state.EngineState.{EngineState}
use Rattle.st_model.specs.declared.state.PoolState.{PoolState}
use Rattle.st_model.specs.declared.state.TableState.{TableState}
use Rattle.st_model.specs.Look.{Text, is_started}
use Rattle.st_model.specs.Parts.{pool_at, started, table_of, shown_table}
use Rattle.st_model.specs.Pieces.{info_at}
use Rattle.st_model.specs.Shown.{pool_info}
use Rattle.st_model.specs.Step.{step}
use Rattle.st_model.specs.Valid.{IsValid}
use Rattle.st_model.proofs.Validity.{step-keeps}
use Rattle.st_history.specs.declared.log.Event.{Event}
use Rattle.st_history.specs.declared.log.Event.TheVariants.{Release}
use Rattle.st_history.specs.History.{replay, state_after, idle}
use Rattle.st_history.proofs.Snoc.{replay-snoc}
use Rattle.st_book.specs.Stands.{Stands, PartStands, ComesBack}
use Rattle.st_book.specs.View.{BookView, TableView, lent_at}
use Rattle.st_book.proofs.Released.{part_fits}
use Rattle.st_alone.specs.Alone.{IsAfter, IsHome, IsOut}
use Rattle.st_alone.proofs.Taking.{own_ticket, row_granted, lock_idle}

fewer : (pools : List PoolState) → length (filter (λ (p : PoolState). is_started p.mode) pools) ≤ length pools
fewer [] = lit≤ tt
fewer (p ∷ pools) = here (is_started p.mode) (fewer pools)
  where
    here : (b : Bool) → length (filter (λ (q : PoolState). is_started q.mode) pools) ≤ length pools → length (cond b (p ∷ filter (λ (q : PoolState). is_started q.mode) pools) (filter (λ (q : PoolState). is_started q.mode) pools)) ≤ length (p ∷ pools)
    here true h = omega (arith, h)
    here false h = omega (arith, h)

-- one entry put into an empty list
pub alone_in : (xs ys : List Entry) (e : Entry) → xs ≡ [] → ys ≡ xs ++ e ∷ [] → ys ≡ e ∷ []
alone_in xs ys e none is = is ∙ ap (λ (es : List Entry). es ++ e ∷ []) none

module _ {T : Type 0} (stands : T → TableState) (slack : T → ℕ) where
  pub fits_want : (w : Want) (s : EngineState) (pools : List PoolState) (table : Option T) → PartStands w s pools (option_map (λ (x : T). let v : TableView = record { state = stands x; slack = slack x } in v) table) → is_some table ≡ takes_table w
  fits_want w s pools table h = same_there table ∙ (ap is_some h.board ∙ given_there (takes_table w))
    where
      same_there : (o : Option T) → is_some o ≡ is_some (option_map (λ (v : TableView). v.state) (option_map (λ (x : T). let v : TableView = record { state = stands x; slack = slack x } in v) o))
      same_there None = refl
      same_there (Some x) = refl

      given_there : (b : Bool) → is_some (cond b (Some (table_of s)) None) ≡ b
      given_there true = refl
      given_there false = refl

  pub slack_too : (base : ℕ) (table : Option T) → IfSome table (λ (x : T). base ≤ slack x) → IfSome (option_map (λ (x : T). let v : TableView = record { state = stands x; slack = slack x } in v) table) (λ (v : TableView). base ≤ v.slack)
  slack_too base None h = tt
  slack_too base (Some x) h = h

module _ (s0 : EngineState) (base seat t : ℕ) (want : Want) (b : BookView) (out : IsOut s0 base seat t want b) where
  row : row_at t b.lock.rows ≡ Some (marked t (new_row t seat want))
  row = ap (λ (l : Lock). row_at t l.rows) out.lock ∙ row_granted seat t want

  is_live : (marked t (new_row t seat want)).live ≡ true
  is_live = rw (own_ticket t) refl

  pub out_live : IsLive b.lock t
  out_live = rw row is_live

  -- what is said of the ticket's want
  pub on_row : (P : LockRow → Type 0) → P (marked t (new_row t seat want)) → IfSome (row_at t b.lock.rows) P
  on_row P h = rw row h

  pub of_row : (P : LockRow → Type 0) → IfSome (row_at t b.lock.rows) P → P (marked t (new_row t seat want))
  of_row P h = let told = rw row at h in told

  module _ (e : Entry) (cells : List PoolState) (table : Option TableView) (h : IsAfter (replay s0 b.log) want e cells table) (slack : IfSome table (λ (v : TableView). base ≤ v.slack)) where
    pub comes : ComesBack want (replay s0 b.log) base (e ∷ []) cells table
    comes = record {
      steps = (h.licensed, h.replied, tt);
      one = (h.from, λ short. absurd (h.long short));
      of = h.wanted;
      part = h.part;
      slack = slack;
    }

    pub comes_back : (es : List Entry) → es ≡ e ∷ [] → IfSome (row_at t b.lock.rows) (λ r. ComesBack r.want (replay s0 b.log) base es cells table)
    comes_back es alone = subst (λ (xs : List Entry). IfSome (row_at t b.lock.rows) (λ r. ComesBack r.want (replay s0 b.log) base xs cells table)) (sym alone) (on_row (λ (r : LockRow). ComesBack r.want (replay s0 b.log) base (e ∷ []) cells table) comes)

    valid_after : IsValid (step (replay s0 b.log) e.call e.env).1
    valid_after = step-keeps (replay s0 b.log) e.call e.env out.valid

    pub few : length b.cells + length cells ≤ 16
    few =
        let fits = part_fits s0 base b t (marked t (new_row t seat want)) (e ∷ []) cells table out.stands row is_live comes in
        let count = valid_after.count in
        let less = fewer (step (replay s0 b.log) e.call e.env).1.pools in
        omega (arith, fits, count, less)

    pub few_of : {C : Type 0} (pool : C → PoolState) (xs : List C) → cells ≡ map pool xs → length b.cells + length xs ≤ 16
    few_of pool xs is = let all = few in let len : length cells ≡ length xs = ap length is ∙ length-map xs pool in omega (arith, all, len)

    module _ (b3 : BookView) (entries : Roomy Entry) (alone : entries.items ≡ e ∷ []) (locked : b3.lock ≡ released t b.lock) (logged : IfSome (row_at t b.lock.rows) (λ r. b3.log ≡ b.log ++ Release r.seat t entries ∷ [])) where
      pub back_log : b3.log ≡ b.log ++ Release seat t entries ∷ []
      back_log = of_row (λ (r : LockRow). b3.log ≡ b.log ++ Release r.seat t entries ∷ []) logged

      pub back_state : replay s0 b3.log ≡ (step (replay s0 b.log) e.call e.env).1
      back_state = ap (replay s0) back_log ∙ replay-snoc s0 b.log (Release seat t entries) ∙ ap (λ (es : List Entry). state_after (replay s0 b.log) es) alone

      back_lock : b3.lock ≡ idle (t + 1)
      back_lock = locked ∙ ap (released t) out.lock ∙ lock_idle seat t want

      pub back_tickets : b3.lock.next ≡ t + 1
      back_tickets = ap (λ (l : Lock). l.next) back_lock

      pub back_home : Stands s0 base b3 → IsHome s0 base b3
      back_home stands = record {
        stands = stands;
        valid = subst IsValid (sym back_state) valid_after;
        quiet = back_lock ∙ ap idle (sym back_tickets);
      }

  -- infos that the book keeps still serve
  module _ {C : Type 0} (name : C → Text) (pool : C → PoolState) (spare : C → Bool) where
    pub infos_serve : (cells : List C) → AllByRecursion (λ (c : C). spare c ≡ false → option_map pool_info (pool_at (name c) (started (replay s0 b.log))) ≡ Some (pool_info (pool c))) cells
        → AllByRecursion (λ (c : C). spare c ≡ false → info_at (name c) b.infos ≡ Some (pool_info (pool c))) cells
    infos_serve [] h = tt
    infos_serve (c ∷ cells) h = ((λ none. out.stands.infos.shown (name c) ∙ h.0 none), infos_serve cells h.1)

  pub info_serves : {T : Type 0} (shown : T → TableState) (spare : T → Bool) (table : Option T) → IfSome table (λ (x : T). spare x ≡ false → shown_table (table_of (replay s0 b.log)) ≡ shown_table (shown x))
      → IfSome table (λ (x : T). spare x ≡ false → b.table_info ≡ shown_table (shown x))
  info_serves shown spare None h = tt
  info_serves shown spare (Some x) h = λ none. out.stands.table_info ∙ h none
