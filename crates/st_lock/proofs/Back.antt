-- What comes back after the log that its seat saw comes back after the log of the book.
use Rattle.std.proofs.Common.{ℕ, ◌≡◌, ◌+◌, ◌<◌, ◌≤◌, ◌^◌, ◌==◌, inl, inr, Bool, true, false, cond, List, [], ◌∷◌, ◌++◌, map, filter, length, refl, ap, sym, ◌∙◌, subst, arith, length-append}
use Rattle.std.specs.Prelude.{Option, IfSome, IsSomeAnd, is_some, option_map, bytes_eq}
use Rattle.std.specs.List.{AllByRecursion}
use Rattle.std.specs.Prelude.{Some, None}
use Rattle.std.specs.Cmp.Lexicographic.{nat_list_eq_equiv}
use Rattle.std.proofs.lemmas.List.{map-append}
use Rattle.std.proofs.lemmas.List.Elements.{filter-append}
use mathlib.Core.List.{IsPrefix}
use Rattle.st_turn.specs.Lists.{told_by}
use Rattle.st_wants.specs.declared.row.LockRow.{LockRow}
use Rattle.st_wants.specs.declared.want.Want.{Want}
use Rattle.st_wants.specs.declared.want.Want.TheVariants as wants
use Rattle.st_wants.specs.declared.want.Mode.TheVariants.{Read, Write}
use Rattle.st_wants.specs.Lock.{Lock, row_at, start, IsLive}
use Rattle.st_wants.specs.Rules.{lock_run}
use Rattle.st_wants.specs.Wants.{writes, takes_table}
use Rattle.st_model.specs.declared.entry.Entry.{Entry}
use Rattle.st_model.specs.declared.state.EngineState.{EngineState}
use Rattle.st_model.specs.declared.state.PoolState.{PoolState}
use Rattle.st_model.specs.Look.{is_started}
use Rattle.st_model.specs.declared.info.TableInfo.{TableInfo}
use Rattle.st_model.specs.declared.state.TableState.{TableState}
use Rattle.st_model.specs.Parts.{Agree, own, pool_at, started, table_of, shown_table}
use Rattle.st_model.specs.Valid.{IsValid}
use Rattle.st_history.specs.declared.log.Event.{Event}
use Rattle.st_history.specs.Failures.{failures_of}
use Rattle.st_history.specs.History.{History, moves_of, replay, state_after}
use Rattle.st_history.specs.Own.{seat_of, own_of, row_told}
use Rattle.st_history.proofs.Held.{logs-agree}
use Rattle.st_history.proofs.Over.{entries-go_over}
use Rattle.st_history.proofs.Own.{own-told, none-released}
use Rattle.st_history.proofs.Snoc.{history-split}
use Rattle.st_history.proofs.ValidReplay.{valid_replay, valid_entries}
use Rattle.st_book.specs.declared.noted.Noted.{Noted}
use Rattle.st_grants.proofs.Sound.{some_and}
use Rattle.st_model.specs.declared.info.PoolInfo.{PoolInfo}
use Rattle.st_model.specs.Look.{Text}
use Rattle.st_model.specs.Shown.{pool_info}
use Rattle.st_model.specs.Pieces.{ShowPools, every, info_at}
use Rattle.st_book.specs.Noted.{noted_log, grant_with, IsNoted}
use Rattle.st_book.specs.Stands.{PartStands, ComesBack}
use Rattle.st_book.specs.View.{BookView, TableView, lent_at}
use Rattle.st_book.proofs.Released.{part_fits}
use Rattle.st_lock.specs.Held.{Rose}
use Rattle.st_lock.specs.Opening.{noted_by, events_of, Fits}
use Rattle.st_lock.specs.Seats.{LockSeat, state_at, own_row, IsHeard}
use Rattle.st_lock.proofs.Turns.{events-noted, own-events}

-- states that agree on a want have the same pools that it writes, and the same table
agree_writes : (w : Want) (s t : EngineState) (n : Text) → Agree w s t → writes w n ≡ true → own n s ≡ own n t
agree_writes (wants.Some names Read) s t n h e = absurd cc
agree_writes (wants.Some names Write) s t n h e = h.pools n e
agree_writes (wants.All mode) s t n h e = ap (own n) h

agree_table : (w : Want) (s t : EngineState) → Agree w s t → table_of s ≡ table_of t
agree_table (wants.Some names mode) s t h = h.table
agree_table (wants.All mode) s t h = ap table_of h

-- the part stands for each state that agrees
pub part-over : (w : Want) (s t : EngineState) (cells : List PoolState) (table : Option TableView) → Agree w s t → PartStands w s cells table → PartStands w t cells table
part-over w s t cells table h p = record {
  pools = record { apart = p.pools.apart; found = λ n. p.pools.found n ∙ here n (writes w n) refl };
  board = p.board ∙ ap (λ z. cond (takes_table w) (Some z) None) (agree_table w s t h);
}
  where
    here : (n : Text) (b : Bool) → writes w n ≡ b → cond b (own n s) None ≡ cond b (own n t) None
    here n true e = agree_writes w s t n h e
    here n false e = refl

-- so what comes back after one state comes back after the other
pub back-over : (w : Want) (s t : EngineState) (base : ℕ) (es : List Entry) (cells : List PoolState) (table : Option TableView) → IsValid s → IsValid t → Agree w s t → ComesBack w s base es cells table → ComesBack w t base es cells table
back-over w s t base es cells table v u h back =
    let over = entries-go_over w s t es v u h back.steps back.one back.of in
    record {
      steps = over.0;
      one = over.1;
      of = back.of;
      part = part-over w (state_after s es) (state_after t es) cells table over.2 back.part;
      slack = back.slack;
    }

viewed_some : {A B : Type 0} (f : A → B) (o : Option A) → is_some (option_map f o) ≡ is_some o
viewed_some f None = refl
viewed_some f (Some a) = refl

-- a table comes back just of a want that takes it
fitting-of : (w : Want) (s : EngineState) (cells : List PoolState) (table : Option TableView) → PartStands w s cells table → is_some table ≡ takes_table w
fitting-of w s cells table p = sym (viewed_some (λ (v : TableView). v.state) table) ∙ (ap is_some p.board ∙ here (takes_table w))
  where
    here : (b : Bool) → is_some (cond b (Some (table_of s)) None) ≡ b
    here true = refl
    here false = refl

nothing_more : {A : Type 0} (xs zs : List A) → xs ++ zs ≡ xs → zs ≡ []
nothing_more {A} xs [] h = refl
nothing_more {A} xs (z ∷ zs) h =
    let long = length-append xs (z ∷ zs) in
    let same : length (xs ++ z ∷ zs) ≡ length xs = ap length h in
    absurd (omega arith)

events_len : (xs : List Noted) → length (events_of xs) ≡ length xs
events_len [] = refl
events_len (x ∷ xs) = let rest = events_len xs in omega arith

filter_short : (p : PoolState → Bool) (xs : List PoolState) → length (filter p xs) ≤ length xs
filter_short p [] = omega arith
filter_short p (x ∷ xs) =
    let rest = filter_short p xs in
    let cases : (b : Bool) → length (cond b (x ∷ filter p xs) (filter p xs)) ≤ length (x ∷ xs) = elim [ true ↦ omega arith | false ↦ omega arith ] in
    cases (p x)

pub noted_own : (n : ℕ) (x : Noted) (xs : List Noted) → IsNoted x (told_by noted_by n xs) → IsNoted x xs
noted_own n x [] h = h
noted_own n x (y ∷ ys) h =
    let cases : (b : Bool) → IsNoted x (cond b (y ∷ told_by noted_by n ys) (told_by noted_by n ys)) → IsNoted x (y ∷ ys) = elim [
      | true ↦ (λ k. elim k [ inl e ↦ inl e | inr r ↦ inr (noted_own n x ys r) ])
      | false ↦ (λ k. inr (noted_own n x ys k))
    ] in
    cases (noted_by y == n) h

-- what is known, in the turn of a release, of the book taken and of a ticket that the seat's own events show live
module _ (v : LockSeat) (b : BookView) (t : ℕ) (r : LockRow) (p : IsPrefix v.seen (noted_log b.log b.notes)) (own : told_by noted_by v.number (noted_log b.log b.notes) ≡ v.own) (fits : Fits v.opening b) where
  log_own : own_of v.number b.log ≡ events_of v.own
  log_own = ap (own_of v.number) (sym (events-noted b.log b.notes)) ∙ (own-events v.number (noted_log b.log b.notes) ∙ ap events_of own)

  -- the ticket's row is what the own events tell
  pub own_at : own_row t v ≡ Some r → row_at t b.lock.rows ≡ Some r
  own_at told =
      let there = own-told v.opening.state b.log v.number t r fits.stands.history (subst (λ z. row_told t z ≡ Some r) (sym log_own) told) in
      subst (λ (l : Lock). row_at t l.rows ≡ Some r) (sym fits.stands.lock) there.0

  pub own_seat : own_row t v ≡ Some r → r.seat ≡ v.number
  own_seat told = (own-told v.opening.state b.log v.number t r fits.stands.history (subst (λ z. row_told t z ≡ Some r) (sym log_own) told)).1

  -- the log that was seen, and the rest
  cut : events_of v.seen ++ events_of p.0 ≡ b.log
  cut = sym (map-append (λ (x : Noted). x.event) v.seen p.0) ∙ (ap events_of p.1 ∙ events-noted b.log b.notes)

  pub agrees : IsHeard v → own_row t v ≡ Some r → r.live ≡ true → Agree r.want (state_at v) (replay v.opening.state b.log)
  agrees heard told live =
      let xs = events_of v.seen in
      let ys = events_of p.0 in
      let s = v.opening.state in
      let seen_own : own_of v.number xs ≡ events_of v.own = own-events v.number v.seen ∙ ap events_of heard in
      let both : own_of v.number (xs ++ ys) ≡ own_of v.number xs ++ own_of v.number ys = filter-append (λ (e : Event). seat_of e == v.number) xs ys in
      let whole : own_of v.number (xs ++ ys) ≡ events_of v.own = ap (own_of v.number) cut ∙ log_own in
      let none : own_of v.number ys ≡ [] = nothing_more (events_of v.own) (own_of v.number ys) (ap (λ z. z ++ own_of v.number ys) (sym seen_own) ∙ (sym both ∙ whole)) in
      let hist : History s (xs ++ ys) = subst (λ z. History s z) (sym cut) fits.stands.history in
      let parts = history-split start s xs ys hist in
      let there = own-told s xs v.number t r parts.0 (subst (λ z. row_told t z ≡ Some r) (sym seen_own) told) in
      let kept = none-released v.number t (lock_run start (moves_of xs)) (replay s xs) r ys parts.1 there.0 there.1 none in
      subst (λ z. Agree r.want (replay s xs) (replay s z)) cut (logs-agree s xs ys t r hist there.0 live kept)

  pub valid_seen : IsValid (state_at v)
  valid_seen = valid_replay v.opening.state (events_of v.seen) fits.valid

  pub valid_now : IsValid (replay v.opening.state b.log)
  valid_now = valid_replay v.opening.state b.log fits.valid

  pub comes_back : (es : List Entry) (cells : List PoolState) (table : Option TableView) → IsHeard v → own_row t v ≡ Some r → r.live ≡ true
      → ComesBack r.want (state_at v) v.opening.base es cells table → ComesBack r.want (replay v.opening.state b.log) v.opening.base es cells table
  comes_back es cells table heard told live back = back-over r.want (state_at v) (replay v.opening.state b.log) v.opening.base es cells table valid_seen valid_now (agrees heard told live) back

  pub few_back : (es : List Entry) (cells : List PoolState) (table : Option TableView) → IsHeard v → own_row t v ≡ Some r → r.live ≡ true
      → ComesBack r.want (state_at v) v.opening.base es cells table → length b.cells + length cells ≤ 16
  few_back es cells table heard told live back =
      let s = v.opening.state in
      let fit = part_fits s v.opening.base b t r es cells table fits.stands (own_at told) live (comes_back es cells table heard told live back) in
      let after : EngineState = state_after (replay s b.log) es in
      let valid : IsValid after = valid_entries (replay s b.log) es valid_now in
      let less : length (started after) ≤ length after.pools = filter_short (λ (q : PoolState). is_started q.mode) after.pools in
      let count = valid.count in
      omega arith

  short_seen : length b.log < 2 ^ 62 → length v.seen < 2 ^ 62
  short_seen k =
      let long : length (events_of v.seen ++ events_of p.0) ≡ length b.log = ap length cut in
      let both = length-append (events_of v.seen) (events_of p.0) in
      let one : length (events_of v.seen) ≡ length v.seen = events_len v.seen in
      omega arith

  pub lent_rose : (faults more : ℕ) → own_row t v ≡ Some r → r.live ≡ true → Rose v t faults more → length b.log < 2 ^ 62 → faults ≡ lent_at t b.lent + more
  lent_rose faults more told live rose k =
      let there : IsNoted (grant_with v.number t rose.number) (noted_log b.log b.notes) = noted_own v.number (grant_with v.number t rose.number) (noted_log b.log b.notes) (subst (λ z. IsNoted (grant_with v.number t rose.number) z) (sym own) rose.noted) in
      let alive : IsLive b.lock t = rw (own_at told) live in
      let is : lent_at t b.lent ≡ rose.number = fits.stands.noted v.number t rose.number there alive in
      let f = rose.rose (short_seen k) in
      omega arith

-- what holds of each name that is found holds of all names
all_found : (P : Text → Type 0) (cells : List PoolState) → ((n : Text) → is_some (pool_at n cells) ≡ true → P n) → AllByRecursion (λ (x : PoolState). P x.name) cells
all_found P [] h = tt
all_found P (x ∷ xs) h = (
  h x.name (ap (λ b. is_some (cond b (Some x) (pool_at x.name xs))) (nat_list_eq_equiv.refl x.name)),
  all_found P xs (λ n k. h n (more n (bytes_eq x.name n) k)),
)
  where
    more : (n : Text) (b : Bool) → is_some (pool_at n xs) ≡ true → is_some (cond b (Some x) (pool_at n xs)) ≡ true
    more n true k = refl
    more n false k = k

-- Of each pool that comes back the two states have the same.
same_for : (w : Want) (s t z : EngineState) (cells : List PoolState) (table : Option TableView) → Agree w s t → PartStands w z cells table → AllByRecursion (λ (x : PoolState). pool_at x.name (started s) ≡ pool_at x.name (started t)) cells
same_for w s t z cells table h p = all_found (λ n. own n s ≡ own n t) cells (λ n k. here n (writes w n) refl (sym (ap is_some (p.pools.found n)) ∙ k))
  where
    here : (n : Text) (b : Bool) → writes w n ≡ b → is_some (cond (writes w n) (own n z) None) ≡ true → own n s ≡ own n t
    here n true e k = agree_writes w s t n h e
    here n false e k = absurd (let k' = rw e at k in cc)

-- what the lock's release has to show of the book that it took
pub record Meets (v : LockSeat) (b : BookView) (t : ℕ) (es : List Entry) (cells : List PoolState) (table : Option TableView) (faults : ℕ) : Type 0 where
  pub row : LockRow
  pub at : row_at t b.lock.rows ≡ Some row
  pub live : row.live ≡ true
  pub seat : row.seat ≡ v.number
  pub fitting : is_some table ≡ takes_table row.want
  pub few : length b.cells + length cells ≤ 16
  pub back : ComesBack row.want (replay v.opening.state b.log) v.opening.base es cells table
  pub same : AllByRecursion (λ (x : PoolState). pool_at x.name (started (state_at v)) ≡ pool_at x.name (started (replay v.opening.state b.log))) cells
  pub board : table_of (state_at v) ≡ table_of (replay v.opening.state b.log)
  pub counts : length b.log < 2 ^ 62 → faults ≡ lent_at t b.lent + failures_of es

pub meets : (v : LockSeat) (b : BookView) (t : ℕ) (es : List Entry) (cells : List PoolState) (table : Option TableView) (faults : ℕ) → IsPrefix v.seen (noted_log b.log b.notes) → told_by noted_by v.number (noted_log b.log b.notes) ≡ v.own → Fits v.opening b
    → IsSomeAnd (own_row t v) (λ r. r.live ≡ true) → IsHeard v → IfSome (own_row t v) (λ r. ComesBack r.want (state_at v) v.opening.base es cells table) → Rose v t faults (failures_of es) → Meets v b t es cells table faults
meets v b t es cells table faults p own fits alive heard back rose =
    let told = some_and (λ (r : LockRow). r.live ≡ true) (own_row t v) alive in
    let r = told.0 in
    let is = told.1 in
    let live = told.2 in
    let back' : ComesBack r.want (state_at v) v.opening.base es cells table = rw is at back in
    let agree = agrees v b t r p own fits heard is live in
    record {
      row = r;
      at = own_at v b t r p own fits is;
      live = live;
      seat = own_seat v b t r p own fits is;
      fitting = fitting-of r.want (state_after (state_at v) es) cells table back'.part;
      few = few_back v b t r p own fits es cells table heard is live back';
      back = comes_back v b t r p own fits es cells table heard is live back';
      same = same_for r.want (state_at v) (replay v.opening.state b.log) (state_after (state_at v) es) cells table agree back'.part;
      board = agree_table r.want (state_at v) (replay v.opening.state b.log) agree;
      counts = lent_rose v b t r p own fits faults (failures_of es) is live rose;
    }

-- spares, said of the book's infos
pub spares-over : {A : Type 0} (state : A → PoolState) (named : A → Text) (name_is : (a : A) → named a ≡ (state a).name) (has_spare : A → Bool) (s t : EngineState) (infos : List PoolInfo) (items : List A) → ShowPools every t infos
    → AllByRecursion (λ (x : PoolState). pool_at x.name (started s) ≡ pool_at x.name (started t)) (map state items)
    → AllByRecursion (λ (a : A). has_spare a ≡ false → option_map pool_info (pool_at (named a) (started s)) ≡ Some (pool_info (state a))) items
    → AllByRecursion (λ (a : A). has_spare a ≡ false → info_at (named a) infos ≡ Some (pool_info (state a))) items
spares-over state named name_is has_spare s t infos [] shows same h = tt
spares-over state named name_is has_spare s t infos (a ∷ as') shows same h = (
  λ k.
      let here : pool_at (named a) (started s) ≡ pool_at (named a) (started t) = subst (λ n. pool_at n (started s) ≡ pool_at n (started t)) (sym (name_is a)) same.0 in
      shows.shown (named a) ∙ (ap (λ o. option_map pool_info o) (sym here) ∙ h.0 k),
  spares-over state named name_is has_spare s t infos as' shows same.1 h.1,
)

pub table_over : {A : Type 0} (stands : A → TableState) (has_spare : A → Bool) (s t : EngineState) (info : TableInfo) (table : Option A) → table_of s ≡ table_of t → info ≡ shown_table (table_of t)
    → IfSome table (λ (a : A). has_spare a ≡ false → shown_table (table_of s) ≡ shown_table (stands a)) → IfSome table (λ (a : A). has_spare a ≡ false → info ≡ shown_table (stands a))
table_over stands has_spare s t info None same is h = tt
table_over stands has_spare s t info (Some a) same is h = λ k. is ∙ (ap shown_table (sym same) ∙ h k)

mapped : {A B : Type 0} (f : A → B) (xs : List A) → length (map f xs) ≡ length xs
mapped f [] = refl
mapped f (x ∷ xs) = let rest = mapped f xs in omega arith

pub fitting_here : {B : Type 0} (view : B → TableView) (w : Want) (table : Option B) → is_some (option_map view table) ≡ takes_table w → is_some table ≡ takes_table w
fitting_here view w table h = sym (viewed_some view table) ∙ h

pub few_here : {A : Type 0} (f : A → PoolState) (n : ℕ) (items : List A) → n + length (map f items) ≤ 16 → n + length items ≤ 16
few_here f n items h = let same = mapped f items in omega arith
