-- The memory that is kept ready, and the place of the table, after an arrival, a grant and a release.
use Rattle.std.proofs.Common.{ℕ, ◌≡◌, ◌≢◌, ◌+◌, ◌*◌, ◌<◌, ◌≤◌, ◌==◌, inl, inr, Bool, true, false, not, ◌||◌, cond, List, [], ◌∷◌, ◌++◌, map, filter, length, Option, refl, ap, sym, ◌∙◌, subst, arith, length-append}
use Rattle.std.proofs.lemmas.List.{length-map}
use Rattle.std.specs.Prelude.{Some, None, is_some, option_map, IfSome}
use Rattle.std.proofs.lemmas.Bool.Decides.{nat_tests}
use Rattle.st_wants.specs.declared.row.LockRow.{LockRow}
use Rattle.st_wants.specs.declared.want.Want.{Want}
use Rattle.st_wants.specs.Lock.{Lock, row_at, has_ticket, new_row, marked, arrived, granted, released, IsFree}
use Rattle.st_wants.specs.Rules.{Arrive, Grant, Release}
use Rattle.st_grants.proofs.Lookups.{ticket_of}
use Rattle.st_grants.proofs.Sound.{IsSound, sound_step, row_push, row_keep, row_marked, row_marks, row_gone, row_stays, row_left}
use Rattle.st_wants.specs.Wants.{takes_table}
use Rattle.st_wants.proofs.Sharing.{compatible_table}
use Rattle.st_book.specs.Effects.{table_left, table_given}
use Rattle.st_book.specs.Rooms.{HasRoom, TableIsPlaced, waiting}
use Rattle.st_book.specs.Stands.{TableIsHome, TableIsOut}
use Rattle.st_book.specs.View.{or_zero}
use Rattle.st_book.proofs.Named.{none_and_some}
use Rattle.st_book.proofs.AtHome.{lives}

-- the rows but a ticket's
abbrev pub rows_left : ℕ → List LockRow → List LockRow
rows_left t rows = filter (λ (r : LockRow). not (has_ticket t r)) rows

-- how many wait

waiting_push : (rs : List LockRow) (x : LockRow) → x.live ≡ false → waiting (rs ++ x ∷ []) ≡ waiting rs + 1
waiting_push [] x idle = rw idle refl
waiting_push (r ∷ rs) x idle =
    let rest = waiting_push rs x idle in
    let cases : (b : Bool) → length (cond (not b) (r ∷ filter (λ (q : LockRow). not q.live) (rs ++ x ∷ [])) (filter (λ (q : LockRow). not q.live) (rs ++ x ∷ []))) ≡ length (cond (not b) (r ∷ filter (λ (q : LockRow). not q.live) rs) (filter (λ (q : LockRow). not q.live) rs)) + 1 = elim [ true ↦ rest | false ↦ omega (arith, rest) ] in
    cases r.live

pub waiting_few : (rs : List LockRow) → waiting rs ≤ length rs
waiting_few [] = omega arith
waiting_few (r ∷ rs) =
    let rest = waiting_few rs in
    let cases : (b : Bool) → length (cond (not b) (r ∷ filter (λ (q : LockRow). not q.live) rs) (filter (λ (q : LockRow). not q.live) rs)) ≤ length (r ∷ rs) = elim [ true ↦ omega (arith, rest) | false ↦ omega (arith, rest) ] in
    cases r.live

pub waiting_some : (t : ℕ) (rs : List LockRow) (own : LockRow) → row_at t rs ≡ Some own → own.live ≡ false → 0 < waiting rs
waiting_some t [] own at idle = absurd cc
waiting_some t (r ∷ rs) own at idle =
    let cases : (a b : Bool) → r.live ≡ b → cond a (Some r) (row_at t rs) ≡ Some own → 0 < length (cond (not b) (r ∷ filter (λ (q : LockRow). not q.live) rs) (filter (λ (q : LockRow). not q.live) rs)) = elim [
      | true ↦ elim [
        | true ↦ (λ e k. absurd (let same : r ≡ own = cc in let no : true ≡ false = sym e ∙ (ap (λ (z : LockRow). z.live) same ∙ idle) in cc))
        | false ↦ (λ e k. omega arith)
      ]
      | false ↦ elim [ true ↦ (λ e k. waiting_some t rs own k idle) | false ↦ (λ e k. omega arith) ]
    ] in
    cases (has_ticket t r) r.live refl at

pub waiting_marked : (t : ℕ) (rs : List LockRow) → waiting (map (marked t) rs) ≤ waiting rs
waiting_marked t [] = omega arith
waiting_marked t (r ∷ rs) =
    let rest = waiting_marked t rs in
    let cases : (a b : Bool) → length (cond (not (b || a)) (marked t r ∷ filter (λ (q : LockRow). not q.live) (map (marked t) rs)) (filter (λ (q : LockRow). not q.live) (map (marked t) rs))) ≤ length (cond (not b) (r ∷ filter (λ (q : LockRow). not q.live) rs) (filter (λ (q : LockRow). not q.live) rs)) = elim [
      | true ↦ elim [ true ↦ rest | false ↦ omega (arith, rest) ]
      | false ↦ elim [ true ↦ rest | false ↦ omega (arith, rest) ]
    ] in
    cases (has_ticket t r) r.live

-- a grant leaves fewer
pub waiting_granted : (t : ℕ) (rs : List LockRow) (own : LockRow) → row_at t rs ≡ Some own → own.live ≡ false → waiting (map (marked t) rs) + 1 ≤ waiting rs
waiting_granted t [] own at idle = absurd cc
waiting_granted t (r ∷ rs) own at idle =
    let fewer = waiting_marked t rs in
    let cases : (a b : Bool) → r.live ≡ b → cond a (Some r) (row_at t rs) ≡ Some own → length (cond (not (b || a)) (marked t r ∷ filter (λ (q : LockRow). not q.live) (map (marked t) rs)) (filter (λ (q : LockRow). not q.live) (map (marked t) rs))) + 1 ≤ length (cond (not b) (r ∷ filter (λ (q : LockRow). not q.live) rs) (filter (λ (q : LockRow). not q.live) rs)) = elim [
      | true ↦ elim [
        | true ↦ (λ e k. absurd (let same : r ≡ own = cc in let no : true ≡ false = sym e ∙ (ap (λ (z : LockRow). z.live) same ∙ idle) in cc))
        | false ↦ (λ e k. omega (arith, fewer))
      ]
      | false ↦ elim [ true ↦ (λ e k. waiting_granted t rs own k idle) | false ↦ (λ e k. omega (arith, waiting_granted t rs own k idle)) ]
    ] in
    cases (has_ticket t r) r.live refl at

pub waiting_left : (t : ℕ) (rs : List LockRow) → waiting (rows_left t rs) ≤ waiting rs
waiting_left t [] = omega arith
waiting_left t (r ∷ rs) =
    let rest = waiting_left t rs in
    let idle : List LockRow → List LockRow = filter (λ (q : LockRow). not q.live) in
    let cases : (a b : Bool) → r.live ≡ b → length (idle (cond (not a) (r ∷ rows_left t rs) (rows_left t rs))) ≤ length (cond (not b) (r ∷ idle rs) (idle rs)) = elim [
      | true ↦ elim [ true ↦ (λ e. rest) | false ↦ (λ e. omega (arith, rest)) ]
      | false ↦ elim [ true ↦ (λ e. rw e rest) | false ↦ (λ e. rw e (omega (arith, rest))) ]
    ] in
    cases (has_ticket t r) r.live refl

left_few : (t : ℕ) (rs : List LockRow) → length (rows_left t rs) ≤ length rs
left_few t [] = omega arith
left_few t (r ∷ rs) =
    let rest = left_few t rs in
    let cases : (a : Bool) → length (cond (not a) (r ∷ rows_left t rs) (rows_left t rs)) ≤ length (r ∷ rs) = elim [ true ↦ omega (arith, rest) | false ↦ omega (arith, rest) ] in
    cases (has_ticket t r)

-- a release leaves fewer tickets
pub left_fewer : (t : ℕ) (rs : List LockRow) (own : LockRow) → row_at t rs ≡ Some own → length (rows_left t rs) + 1 ≤ length rs
left_fewer t [] own at = absurd cc
left_fewer t (r ∷ rs) own at =
    let cases : (a : Bool) → cond a (Some r) (row_at t rs) ≡ Some own → length (cond (not a) (r ∷ rows_left t rs) (rows_left t rs)) + 1 ≤ length (r ∷ rs) = elim [ true ↦ (λ k. omega (arith, left_few t rs)) | false ↦ (λ k. omega (arith, left_fewer t rs own k)) ] in
    cases (has_ticket t r) at

-- where the table is

placed_arrived : (rows : List LockRow) (x : LockRow) (there : Bool) → x.live ≡ false → TableIsPlaced there rows → TableIsPlaced there (rows ++ x ∷ [])
placed_arrived rows x there idle h = elim h [
  | inl i ↦ inl (i.0, λ t r at live. elim (row_push t rows x r at) [ inl j ↦ i.1 t r j live | inr e ↦ absurd (let no : false ≡ true = sym idle ∙ (ap (λ (z : LockRow). z.live) e ∙ live) in cc) ])
  | inr o ↦ inr (o.0, record { ticket = o.1.ticket; row = o.1.row; at = row_keep o.1.ticket rows x o.1.row o.1.at; live = o.1.live; takes = o.1.takes })
]

out_still : (t : ℕ) (rows : List LockRow) → TableIsOut rows → TableIsOut (map (marked t) rows)
out_still t rows o = record { ticket = o.ticket; row = marked t o.row; at = row_marks t o.ticket rows o.row o.at; live = ap (λ b. b || (o.row.ticket == t)) o.live; takes = o.takes }

home_still : (t : ℕ) (rows : List LockRow) (own : LockRow) → row_at t rows ≡ Some own → takes_table own.want ≡ false → TableIsHome rows → TableIsHome (map (marked t) rows)
home_still t rows own at leaves h u r k live =
    let i = row_marked t u rows r k in
    let want : i.0.want ≡ r.want = ap (λ (z : LockRow). z.want) i.2 in
    let l : (i.0.live || (i.0.ticket == t)) ≡ true = ap (λ (z : LockRow). z.live) i.2 ∙ live in
    let cases : (x : Bool) → i.0.live ≡ x → (x || (i.0.ticket == t)) ≡ true → takes_table r.want ≡ false = elim [
      | true ↦ (λ e f. subst (λ w. takes_table w ≡ false) want (h u i.0 i.1 e))
      | false ↦ (λ e f.
          let ut : u ≡ t = let g : i.0.ticket ≡ u = ticket_of u rows i.0 i.1 in grind (arith, nat_tests) in
          let at' : row_at t rows ≡ Some i.0 = subst (λ z. row_at z rows ≡ Some i.0) ut i.1 in
          let same : own ≡ i.0 = cc in
          subst (λ w. takes_table w ≡ false) (ap (λ (z : LockRow). z.want) same ∙ want) leaves)
    ] in
    cases i.0.live refl l

placed_granted : (t : ℕ) (rows : List LockRow) (own : LockRow) (there : Bool) → row_at t rows ≡ Some own → TableIsPlaced there rows → TableIsPlaced (cond (takes_table own.want) false there) (map (marked t) rows)
placed_granted t rows own there at h =
    let out : takes_table own.want ≡ true → TableIsOut (map (marked t) rows) = λ takes. record { ticket = t; row = marked t own; at = row_marks t t rows own at; live = lives t rows own at; takes = takes } in
    let cases : (b : Bool) → takes_table own.want ≡ b → TableIsPlaced (cond b false there) (map (marked t) rows) = elim [
      | true ↦ (λ e. inr (refl, out e))
      | false ↦ (λ e. elim h [ inl i ↦ inl (i.0, home_still t rows own at e i.1) | inr o ↦ inr (o.0, out_still t rows o.1) ])
    ] in
    cases (takes_table own.want) refl

placed_one : (t : ℕ) (rows : List LockRow) (own : LockRow) (there : Bool) → row_at t rows ≡ Some own → takes_table own.want ≡ false → TableIsPlaced there rows → TableIsPlaced there (rows_left t rows)
placed_one t rows own there at leaves h = elim h [
  | inl i ↦ inl (i.0, λ u r k live. i.1 u r (row_left t u rows r k) live)
  | inr o ↦ inr (
    o.0,
    let ne : t ≢ o.1.ticket = λ e.
        let at' : row_at t rows ≡ Some o.1.row = subst (λ z. row_at z rows ≡ Some o.1.row) (sym e) o.1.at in
        let same : own ≡ o.1.row = cc in
        let no : false ≡ true = sym leaves ∙ (ap (λ (z : LockRow). takes_table z.want) same ∙ o.1.takes) in
        cc in
        record { ticket = o.1.ticket; row = o.1.row; at = row_stays t o.1.ticket rows o.1.row ne o.1.at; live = o.1.live; takes = o.1.takes },
  )
]

-- no other live ticket has the table
home_again : (l : Lock) (t : ℕ) (own : LockRow) → IsSound l → row_at t l.rows ≡ Some own → own.live ≡ true → takes_table own.want ≡ true → TableIsHome (rows_left t l.rows)
home_again l t own sound at live takes u r k lives =
    let was = row_left t u l.rows r k in
    let ne : u ≢ t = λ e. none_and_some (row_at t (rows_left t l.rows)) r (row_gone t l.rows) (subst (λ z. row_at z (rows_left t l.rows) ≡ Some r) e k) in
    compatible_table r.want own.want (sound.apart u t r own was at lives live ne) takes

-- what is kept ready

pub kept_sound : (l : Lock) (log spares lent cells infos few fresh : ℕ) (there : Bool) → HasRoom l log spares lent cells infos few fresh there → IsSound l
kept_sound l log spares lent cells infos few fresh there h = record { ordered = h.ordered; apart = h.apart }

pub kept_arrived : (l : Lock) (seat : ℕ) (want : Want) (log0 spares0 lent0 log spares lent cells infos few fresh : ℕ) (there : Bool) → HasRoom l log0 spares0 lent0 cells infos few fresh there
    → 2 * length l.rows + 2 ≤ log → spares ≡ spares0 + 1 → spares ≤ lent → HasRoom (arrived seat want l) log spares lent cells infos few fresh there
kept_arrived l seat want log0 spares0 lent0 log spares lent cells infos few fresh there h enough more beside =
    let sound = sound_step l (Arrive seat l.next want) refl (record { ordered = h.ordered; apart = h.apart }) in
    let count = waiting_push l.rows (new_row l.next seat want) refl in
    let bound = waiting_few l.rows in
    let spared = h.spares in
    let len = length-append l.rows (new_row l.next seat want ∷ []) in
    record {
      ordered = sound.ordered;
      apart = sound.apart;
      log = omega arith;
      spares = omega arith;
      lent = omega arith;
      cells = h.cells;
      infos = h.infos;
      few = h.few;
      fresh = h.fresh;
      table = placed_arrived l.rows (new_row l.next seat want) there refl h.table;
    }

-- more room, as after an arrival that was refused
pub kept_more : (l : Lock) (log0 spares0 lent0 log spares lent cells infos few fresh : ℕ) (there : Bool) → HasRoom l log0 spares0 lent0 cells infos few fresh there
    → 2 * length l.rows ≤ log → spares0 ≤ spares → spares0 ≤ lent → HasRoom l log spares lent cells infos few fresh there
kept_more l log0 spares0 lent0 log spares lent cells infos few fresh there h enough more beside =
    let bound = waiting_few l.rows in
    let spared = h.spares in
    record {
      ordered = h.ordered;
      apart = h.apart;
      log = omega arith;
      spares = omega arith;
      lent = omega arith;
      cells = h.cells;
      infos = h.infos;
      few = h.few;
      fresh = h.fresh;
      table = h.table;
    }

pub kept_granted : (l : Lock) (t : ℕ) (own : LockRow) (log0 spares0 lent0 cells0 log spares lent cells infos few fresh : ℕ) (there0 there : Bool) → HasRoom l log0 spares0 lent0 cells0 infos few fresh there0
    → row_at t l.rows ≡ Some own → own.live ≡ false → IsFree l t → log0 ≤ log + 1 → spares0 ≤ spares + 1 → lent0 ≤ lent + 1 → 16 ≤ cells → there ≡ cond (takes_table own.want) false there0 → HasRoom (granted t l) log spares lent cells infos few fresh there
kept_granted l t own log0 spares0 lent0 cells0 log spares lent cells infos few fresh there0 there h at idle free one_event one_spare one_lent places now =
    let sound = sound_step l (Grant own.seat t) (rw at (idle, refl), free) (record { ordered = h.ordered; apart = h.apart }) in
    let count = waiting_granted t l.rows own at idle in
    let len : length (map (marked t) l.rows) ≡ length l.rows = length-map l.rows (marked t) in
    let a = h.log in
    let b = h.spares in
    let d = h.lent in
    record {
      ordered = sound.ordered;
      apart = sound.apart;
      log = omega arith;
      spares = omega arith;
      lent = omega arith;
      cells = places;
      infos = h.infos;
      few = h.few;
      fresh = h.fresh;
      table = subst (λ z. TableIsPlaced z (map (marked t) l.rows)) (sym now) (placed_granted t l.rows own there0 at h.table);
    }

pub kept_released : (l : Lock) (t : ℕ) (own : LockRow) (log0 lent0 cells0 infos0 few0 fresh0 log spares lent cells infos few fresh : ℕ) (there0 there : Bool) → HasRoom l log0 spares lent0 cells0 infos0 few0 fresh0 there0
    → row_at t l.rows ≡ Some own → own.live ≡ true → log0 ≤ log + 1 → lent0 ≤ lent → 16 ≤ cells → 16 ≤ infos → few ≤ 16 → 16 ≤ fresh → TableIsPlaced there (rows_left t l.rows) → HasRoom (released t l) log spares lent cells infos few fresh there
kept_released l t own log0 lent0 cells0 infos0 few0 fresh0 log spares lent cells infos few fresh there0 there h at live one_event no_lent places info_places short fresh_places placed =
    let sound = sound_step l (Release own.seat t) (rw at (live, refl)) (record { ordered = h.ordered; apart = h.apart }) in
    let count = waiting_left t l.rows in
    let fewer = left_fewer t l.rows own at in
    let a = h.log in
    let b = h.spares in
    let d = h.lent in
    record {
      ordered = sound.ordered;
      apart = sound.apart;
      log = omega arith;
      spares = omega arith;
      lent = omega arith;
      cells = places;
      infos = info_places;
      few = short;
      fresh = fresh_places;
      table = placed;
    }

-- the table stays where it is as a ticket is released that doesn't have it
pub placed_released : (l : Lock) (t : ℕ) (own : LockRow) (log spares lent cells infos few fresh : ℕ) (there : Bool) → HasRoom l log spares lent cells infos few fresh there → row_at t l.rows ≡ Some own → takes_table own.want ≡ false → TableIsPlaced there (rows_left t l.rows)
placed_released l t own log spares lent cells infos few fresh there h at leaves = placed_one t l.rows own there at leaves h.table

-- and comes home by the release of the one that has it
pub placed_back : (l : Lock) (t : ℕ) (own : LockRow) (log spares lent cells infos few fresh : ℕ) (there : Bool) → HasRoom l log spares lent cells infos few fresh there → row_at t l.rows ≡ Some own → own.live ≡ true → takes_table own.want ≡ true → TableIsPlaced true (rows_left t l.rows)
placed_back l t own log spares lent cells infos few fresh there h at live takes = inl (refl, home_again l t own (record { ordered = h.ordered; apart = h.apart }) at live takes)

-- while it was out
pub was_out : (rows : List LockRow) (t : ℕ) (own : LockRow) (there : Bool) → TableIsPlaced there rows → row_at t rows ≡ Some own → own.live ≡ true → takes_table own.want ≡ true → there ≡ false
was_out rows t own there h at live takes = elim h [ inl i ↦ absurd (let no : true ≡ false = sym takes ∙ i.1 t own at live in cc) | inr o ↦ o.0 ]

-- with no ticket, it is at home
pub quiet_home : (rows : List LockRow) (there : Bool) → TableIsPlaced there rows → rows ≡ [] → there ≡ true
quiet_home rows there h quiet = elim h [ inl i ↦ i.0 | inr o ↦ absurd (none_and_some (row_at o.1.ticket rows) o.1.row (ap (row_at o.1.ticket) quiet) o.1.at) ]

pub none_there : {A : Type 0} (o : Option A) → is_some o ≡ false → o ≡ None
none_there (Some x) h = absurd cc
none_there None h = refl

-- what a want takes of the table, and what it leaves

pub left_there : {A : Type 0} (want : Want) (table : Option A) → is_some (table_left want table) ≡ cond (takes_table want) false (is_some table)
left_there want table = let cases : (b : Bool) → is_some (cond b None table) ≡ cond b false (is_some table) = elim [ true ↦ refl | false ↦ refl ] in cases (takes_table want)

pub left_viewed : {A B : Type 0} (f : A → B) (want : Want) (table : Option A) → option_map f (table_left want table) ≡ table_left want (option_map f table)
left_viewed f want table = let cases : (b : Bool) → option_map f (cond b None table) ≡ cond b None (option_map f table) = elim [ true ↦ refl | false ↦ refl ] in cases (takes_table want)

pub given_viewed : {A B : Type 0} (f : A → B) (want : Want) (table : Option A) → option_map f (table_given want table) ≡ table_given want (option_map f table)
given_viewed f want table = let cases : (b : Bool) → option_map f (cond b table None) ≡ cond b (option_map f table) None = elim [ true ↦ refl | false ↦ refl ] in cases (takes_table want)

pub left_and_given : {A : Type 0} (f : A → ℕ) (want : Want) (table : Option A) → or_zero (option_map f (table_left want table)) + or_zero (option_map f (table_given want table)) ≡ or_zero (option_map f table)
left_and_given f want table =
    let cases : (b : Bool) → or_zero (option_map f (cond b None table)) + or_zero (option_map f (cond b table None)) ≡ or_zero (option_map f table) = elim [ true ↦ omega arith | false ↦ omega arith ] in
    cases (takes_table want)

pub left_kept : {A : Type 0} (P : A → Type 0) (want : Want) (table : Option A) → IfSome table P → IfSome (table_left want table) P
left_kept P want table h = let cases : (b : Bool) → IfSome (cond b None table) P = elim [ true ↦ tt | false ↦ h ] in cases (takes_table want)
