use Rattle.std.proofs.Common.{◌≡◌, inl, ℕ, ◌+◌, ◌*◌, ◌<◌, ◌≤◌, List, length, Some, None, refl, sym, ◌∙◌, ap, subst, arith}
use Rattle.std.specs.List.{slice_get}
use Rattle.std.proofs.lemmas.Result.{err_from_is_err_and}
use Rattle.st_fields.specs.Slot.{padded}
use Rattle.st_units.specs.Causes.{Rose}
use Rattle.st_poolrec.specs.Record.{record_text}
use Rattle.st_flexrec.specs.Record as flex
use Rattle.st_rack.specs.Device.{Path}
use Rattle.st_rack.specs.Calls.{Devices}
use Rattle.st_rack.specs.Moments.{Goes, Keeps}
use Rattle.st_rack.proofs.Moments.{keeps_on}
use Rattle.st_slots.specs.Places.{Lies}
use Rattle.st_slots.specs.declared.spot.Area.{Area}
use Rattle.st_deltalog.specs.declared.area.FlexArea.{FlexArea}
use Rattle.st_deltalog.specs.Log.{serial_in, begun}
use Rattle.st_commit.specs.Standing.{OneOf, standing_of}
use Rattle.st_commit.specs.Ready.{AreApart, AreDistinct, BearsRecord, IsOf, Moves, NoOther, Ready, next}
use Rattle.st_image.specs.Looks.{pool_area, flex_area}
use Rattle.st_image.specs.Bears.{first_of, paths}
use Rattle.st_image.proofs.Committing.{first_at}
use Rattle.st_books.specs.Ready.{rows_of}
use Rattle.st_books.specs.Survived.{Survived}
use Rattle.st_books.proofs.Lying.{some_path, own_paths, records_lie, log_lies}
use Rattle.st_books.proofs.Texts.{record_serial, record_short, flex_serial, bare_short}
use Rattle.st_making.specs.First.{first_flex, flex_record}
use Rattle.st_making.specs.Made.{IsMade, Stays, made}
use Rattle.st_making.proofs.Made.{large, may_commit}
use Rattle.st_making.proofs.Phases.{heads_keep, heads_stay, both_stay, commit_keeps, ready_at_end, bear_at_end}
use Rattle.st_making.proofs.making.make.Goals as goal

-- what the commit is given: the areas, the devices, the checkpoint and the record
abbrev Args : Type 0
Args = Area × FlexArea × List Path × List ℕ × List ℕ

abbrev args : Area → FlexArea → List Path → List ℕ → List ℕ → Args
args a f ds body rec = (a, f, ds, body, rec)

same_args : (a a' : Area) (f f' : FlexArea) (ds ds' : List Path) (body body' rec rec' : List ℕ) → a ≡ a' → f ≡ f' → ds ≡ ds' → body ≡ body' → rec ≡ rec' → args a f ds body rec ≡ args a' f' ds' body' rec'
same_args a a' f f' ds ds' body body' rec rec' o p q r s = λ i. args (o i) (p i) (q i) (r i) (s i)

short : (n : ℕ) → 64 + n ≤ 851968 → 64 + n ≤ 512 * 1664
short n le = omega (arith, le)

record_fits : (n : ℕ) → 64 + n ≤ 32768 → 64 + n ≤ 512 * 64
record_fits n le = omega (arith, le)

rose_after : (a b n : ℕ) → a ≤ b → Rose b n → Rose a n
rose_after a b n le rose = omega (arith, le, rose)

pub write_headers-requires-clause-from : goal.write_headers-requires-clause-from
write_headers-requires-clause-from g c = c.requires.new.from

pub write_headers-requires-clause-until : goal.write_headers-requires-clause-until
write_headers-requires-clause-until g c = c.requires.new.until

pub write_headers-requires-clause-distinct : goal.write_headers-requires-clause-distinct
write_headers-requires-clause-distinct g c = own_paths c.args.books.now.rec c.requires.first.is (g.R.Rack.devs c.args.rack.now) c.requires.there

pub write_headers-requires-clause-there : goal.write_headers-requires-clause-there
write_headers-requires-clause-there g c = c.requires.there

pub write_headers-requires-clause-large : goal.write_headers-requires-clause-large
write_headers-requires-clause-large g c = large c.args.books.now c.requires.new

pub returns-in_err-write_headers-clause-devs : goal.returns-in_err-write_headers-clause-devs
returns-in_err-write_headers-clause-devs g c = c.write_headers.ensures.devs

pub returns-in_err-write_headers-clause-reads : goal.returns-in_err-write_headers-clause-reads
returns-in_err-write_headers-clause-reads g c = c.write_headers.ensures.reads

pub returns-in_err-write_headers-clause-spare : goal.returns-in_err-write_headers-clause-spare
returns-in_err-write_headers-clause-spare g c = c.write_headers.ensures.spare

pub returns-in_err-write_headers-clause-cause : goal.returns-in_err-write_headers-clause-cause
returns-in_err-write_headers-clause-cause g c =
    let p = err_from_is_err_and c.from_residual.result c.from_residual.ensures.1 in rw p.1 (record { later = c.write_headers.ensures.cause.later; failed = c.in_err-write_headers.ensures.cause.failed })

pub returns-in_err-write_headers-clause-during : goal.returns-in_err-write_headers-clause-during
returns-in_err-write_headers-clause-during g c =
    heads_keep g.R.Rack.moment g.R.Rack.state_at c.args.books.now c.requires.new c.args.rack.now c.write_headers.new.rack c.requires.free c.write_headers.ensures.time

pub returns-in_err-write_headers-clause-others : goal.returns-in_err-write_headers-clause-others
returns-in_err-write_headers-clause-others g c =
    subst (λ (ds : List Path). Goes g.R.Rack.moment g.R.Rack.state_at (Stays ds) c.args.rack.now c.write_headers.new.rack) c.requires.on
    (heads_stay g.R.Rack.moment g.R.Rack.state_at c.args.books.now c.requires.new c.args.rack.now c.write_headers.new.rack c.write_headers.ensures.time)

pub returns-in_err-write_headers-clause-done : goal.returns-in_err-write_headers-clause-done
returns-in_err-write_headers-clause-done g c =
    let p = err_from_is_err_and c.from_residual.result c.from_residual.ensures.1 in rw p.1 tt

pub returns-in_err-write_headers-clause-headers : goal.returns-in_err-write_headers-clause-headers
returns-in_err-write_headers-clause-headers g c =
    let p = err_from_is_err_and c.from_residual.result c.from_residual.ensures.1 in rw p.1 tt

pub returns-in_err-write_headers-clause-settled : goal.returns-in_err-write_headers-clause-settled
returns-in_err-write_headers-clause-settled g c =
    let p = err_from_is_err_and c.from_residual.result c.from_residual.ensures.1 in rw p.1 tt

pub commit_first-requires-clause-some : goal.commit_first-requires-clause-some
commit_first-requires-clause-some g c = subst (λ (ds : List Path). 0 < length ds) c.requires.on (some_path c.args.books.now.rec c.requires.first.is (g.R.Rack.devs c.args.rack.now) c.requires.there)

pub commit_first-requires-clause-distinct : goal.commit_first-requires-clause-distinct
commit_first-requires-clause-distinct g c = subst (λ (ds : List Path). AreDistinct ds) c.requires.on (own_paths c.args.books.now.rec c.requires.first.is (g.R.Rack.devs c.args.rack.now) c.requires.there)

pub commit_first-requires-clause-lie : goal.commit_first-requires-clause-lie
commit_first-requires-clause-lie g c = λ d of.
    subst (λ (x : Devices × Area). Lies x.0 d x.1) (λ i. (sym c.write_headers.ensures.devs i, sym c.pool_area.ensures i))
    (records_lie c.args.books.now.rec c.requires.first.is (g.R.Rack.devs c.args.rack.now) c.requires.there d (subst (λ (ds : List Path). IsOf ds d) (sym c.requires.on) of))

pub commit_first-requires-clause-flex_lies : goal.commit_first-requires-clause-flex_lies
commit_first-requires-clause-flex_lies g c = λ d at.
    subst (λ (x : Devices × FlexArea). Lies x.0 d x.1.area) (λ i. (sym c.write_headers.ensures.devs i, sym c.flex_area.ensures i))
    (log_lies c.args.books.now.rec c.requires.first.is (g.R.Rack.devs c.args.rack.now) c.requires.there d (subst (λ (ds : List Path). slice_get ds 0 ≡ Some d) (sym c.requires.on) at))

pub commit_first-requires-clause-apart : goal.commit_first-requires-clause-apart
commit_first-requires-clause-apart g c = subst (λ (x : Area × FlexArea). AreApart x.0 x.1.area) (λ i. (sym c.pool_area.ensures i, sym c.flex_area.ensures i)) (inl (omega arith))

pub commit_first-requires-clause-flex_fits : goal.commit_first-requires-clause-flex_fits
commit_first-requires-clause-flex_fits g c =
    let b = c.args.books.now in
    subst (λ (x : List ℕ × FlexArea). 64 + length x.0 ≤ 512 * x.1.area.slot) (λ i. (sym (c.items.ensures ∙ c.requires.first.body.spelled) i, sym c.flex_area.ensures i)) (short (length (flex.record_text (flex_record b.rec.serial))) (bare_short (first_flex b.rec.serial)))

pub commit_first-requires-clause-flex_room : goal.commit_first-requires-clause-flex_room
commit_first-requires-clause-flex_room g c = ap length c.deref_mut.ensures.value ∙ c.requires.first.body_work ∙ ap (λ (t : List ℕ). padded (64 + length t)) (sym c.items.ensures)

pub commit_first-requires-clause-fits : goal.commit_first-requires-clause-fits
commit_first-requires-clause-fits g c =
    let b = c.args.books.now in
    subst (λ (x : List ℕ × Area). 64 + length x.0 ≤ 512 * x.1.slot) (λ i. (sym (c.items-2.ensures ∙ c.requires.first.text) i, sym c.pool_area.ensures i)) (record_fits (length (record_text b.rec)) (record_short b.rec c.requires.first.is))

pub commit_first-requires-clause-room : goal.commit_first-requires-clause-room
commit_first-requires-clause-room g c = ap length c.deref_mut-2.ensures.value ∙ c.requires.first.text_work ∙ ap (λ (t : List ℕ). padded (64 + length t)) (sym c.items-2.ensures)

pub returns-in_err-commit_first-clause-devs : goal.returns-in_err-commit_first-clause-devs
returns-in_err-commit_first-clause-devs g c =
    c.commit_first.ensures.devs ∙ c.write_headers.ensures.devs

pub returns-in_err-commit_first-clause-reads : goal.returns-in_err-commit_first-clause-reads
returns-in_err-commit_first-clause-reads g c =
    c.commit_first.ensures.reads ∙ c.write_headers.ensures.reads

pub returns-in_err-commit_first-clause-spare : goal.returns-in_err-commit_first-clause-spare
returns-in_err-commit_first-clause-spare g c =
    c.commit_first.ensures.spare ∙ c.write_headers.ensures.spare

pub returns-in_err-commit_first-clause-cause : goal.returns-in_err-commit_first-clause-cause
returns-in_err-commit_first-clause-cause g c =
    let p = err_from_is_err_and c.from_residual-in_err-commit_first.result c.from_residual-in_err-commit_first.ensures.1 in rw p.1 (record { later = omega (arith, c.write_headers.ensures.cause.later, c.commit_first.ensures.cause.later); failed = rose_after _ _ _ c.write_headers.ensures.cause.later c.in_err-commit_first.ensures.cause.failed })

pub returns-in_err-commit_first-clause-during : goal.returns-in_err-commit_first-clause-during
returns-in_err-commit_first-clause-during g c =
    let M = g.R.Rack.moment in
    let S = g.R.Rack.state_at in
    let b = c.args.books.now in
    let n = c.args.first in
    let p = b.rec.serial in
    let ds = paths (rows_of b.rec) in
    let r0 = c.args.rack.now in
    let r1 = c.write_headers.new.rack in
    let r2 = c.commit_first.new.rack in
    let is = c.requires.first.is in
    let headed = c.in_ok-write_headers.ensures.done in
    let text = record_text b.rec in
    let env = same_args c.pool_area.result pool_area c.flex_area.result flex_area c.args.devs.now ds c.items.result.now n.body c.items-2.result.now text
    c.pool_area.ensures c.flex_area.ensures (sym c.requires.on) c.items.ensures (c.items-2.ensures ∙ c.requires.first.text) in
    let moves = subst (λ (x : Args). Goes M S (Moves x.0 x.1 1 x.2) r1 r2) env c.commit_first.ensures.moves in
    let first = first_of b.rec in
    let head = subst (λ (x : Args). slice_get x.2 0 ≡ Some first) (sym env) (first_at (rows_of b.rec) b.rec is refl) in
    let before = subst (λ (x : Args). Ready x.0 x.1 p 0 (λ k. text) x.2 first 0 None (S r1 (M r1))) (sym env) (may_commit b c.requires.new (S r0 (M r0)) c.requires.free (S r1 (M r1)) headed (λ k. text) first) in
    let text_serial = ap serial_in (c.items-2.ensures ∙ c.requires.first.text) ∙ record_serial b.rec is in
    let body_serial = ap serial_in (c.items.ensures ∙ c.requires.first.body.spelled) ∙ flex_serial (flex_record p) 1 c.requires.first.body.fit in
    let one = subst (λ (x : Args). Keeps M S (OneOf x.0 x.1 p x.2 first None (standing_of 1 x.4 (Some (begun 1 (1, x.3))))) r1 r2) env (c.commit_first.ensures.during p 0 (λ k. text) first head text_serial body_serial before) in
    let known = subst (λ (x : Args). Keeps M S (NoOther x.0 x.2 1 x.4 (S r1 (M r1))) r1 r2) env c.commit_first.ensures.others in
    keeps_on M S (Survived p (rows_of b.rec) (IsMade (made b.rec))) r0 r1 r2 (heads_keep M S b c.requires.new r0 r1 c.requires.free c.write_headers.ensures.time)
    (commit_keeps M S b c.requires.new r0 r1 r2 c.requires.free headed moves is n.body c.requires.first.body one known)

pub returns-in_err-commit_first-clause-others : goal.returns-in_err-commit_first-clause-others
returns-in_err-commit_first-clause-others g c =
    let M = g.R.Rack.moment in
    let S = g.R.Rack.state_at in
    let b = c.args.books.now in
    let n = c.args.first in
    let p = b.rec.serial in
    let ds = paths (rows_of b.rec) in
    let r0 = c.args.rack.now in
    let r1 = c.write_headers.new.rack in
    let r2 = c.commit_first.new.rack in
    let is = c.requires.first.is in
    let headed = c.in_ok-write_headers.ensures.done in
    let text = record_text b.rec in
    let env = same_args c.pool_area.result pool_area c.flex_area.result flex_area c.args.devs.now ds c.items.result.now n.body c.items-2.result.now text
    c.pool_area.ensures c.flex_area.ensures (sym c.requires.on) c.items.ensures (c.items-2.ensures ∙ c.requires.first.text) in
    let moves = subst (λ (x : Args). Goes M S (Moves x.0 x.1 1 x.2) r1 r2) env c.commit_first.ensures.moves in
    subst (λ (x : List Path). Goes M S (Stays x) r0 r2) c.requires.on (both_stay M S b c.requires.new r0 r1 r2 c.write_headers.ensures.time moves)

pub returns-in_err-commit_first-clause-done : goal.returns-in_err-commit_first-clause-done
returns-in_err-commit_first-clause-done g c =
    let p = err_from_is_err_and c.from_residual-in_err-commit_first.result c.from_residual-in_err-commit_first.ensures.1 in rw p.1 tt

pub returns-in_err-commit_first-clause-headers : goal.returns-in_err-commit_first-clause-headers
returns-in_err-commit_first-clause-headers g c =
    let p = err_from_is_err_and c.from_residual-in_err-commit_first.result c.from_residual-in_err-commit_first.ensures.1 in rw p.1 tt

pub returns-in_err-commit_first-clause-settled : goal.returns-in_err-commit_first-clause-settled
returns-in_err-commit_first-clause-settled g c =
    let p = err_from_is_err_and c.from_residual-in_err-commit_first.result c.from_residual-in_err-commit_first.ensures.1 in rw p.1 tt

pub returns-clause-devs : goal.returns-clause-devs
returns-clause-devs g c =
    c.commit_first.ensures.devs ∙ c.write_headers.ensures.devs

pub returns-clause-reads : goal.returns-clause-reads
returns-clause-reads g c =
    c.commit_first.ensures.reads ∙ c.write_headers.ensures.reads

pub returns-clause-spare : goal.returns-clause-spare
returns-clause-spare g c =
    c.commit_first.ensures.spare ∙ c.write_headers.ensures.spare

pub returns-clause-cause : goal.returns-clause-cause
returns-clause-cause g c =
    record { later = omega (arith, c.write_headers.ensures.cause.later, c.commit_first.ensures.cause.later); failed = tt }

pub returns-clause-during : goal.returns-clause-during
returns-clause-during g c =
    let M = g.R.Rack.moment in
    let S = g.R.Rack.state_at in
    let b = c.args.books.now in
    let n = c.args.first in
    let p = b.rec.serial in
    let ds = paths (rows_of b.rec) in
    let r0 = c.args.rack.now in
    let r1 = c.write_headers.new.rack in
    let r2 = c.commit_first.new.rack in
    let is = c.requires.first.is in
    let headed = c.in_ok-write_headers.ensures.done in
    let text = record_text b.rec in
    let env = same_args c.pool_area.result pool_area c.flex_area.result flex_area c.args.devs.now ds c.items.result.now n.body c.items-2.result.now text
    c.pool_area.ensures c.flex_area.ensures (sym c.requires.on) c.items.ensures (c.items-2.ensures ∙ c.requires.first.text) in
    let moves = subst (λ (x : Args). Goes M S (Moves x.0 x.1 1 x.2) r1 r2) env c.commit_first.ensures.moves in
    let first = first_of b.rec in
    let head = subst (λ (x : Args). slice_get x.2 0 ≡ Some first) (sym env) (first_at (rows_of b.rec) b.rec is refl) in
    let before = subst (λ (x : Args). Ready x.0 x.1 p 0 (λ k. text) x.2 first 0 None (S r1 (M r1))) (sym env) (may_commit b c.requires.new (S r0 (M r0)) c.requires.free (S r1 (M r1)) headed (λ k. text) first) in
    let text_serial = ap serial_in (c.items-2.ensures ∙ c.requires.first.text) ∙ record_serial b.rec is in
    let body_serial = ap serial_in (c.items.ensures ∙ c.requires.first.body.spelled) ∙ flex_serial (flex_record p) 1 c.requires.first.body.fit in
    let one = subst (λ (x : Args). Keeps M S (OneOf x.0 x.1 p x.2 first None (standing_of 1 x.4 (Some (begun 1 (1, x.3))))) r1 r2) env (c.commit_first.ensures.during p 0 (λ k. text) first head text_serial body_serial before) in
    let known = subst (λ (x : Args). Keeps M S (NoOther x.0 x.2 1 x.4 (S r1 (M r1))) r1 r2) env c.commit_first.ensures.others in
    keeps_on M S (Survived p (rows_of b.rec) (IsMade (made b.rec))) r0 r1 r2 (heads_keep M S b c.requires.new r0 r1 c.requires.free c.write_headers.ensures.time)
    (commit_keeps M S b c.requires.new r0 r1 r2 c.requires.free headed moves is n.body c.requires.first.body one known)

pub returns-clause-others : goal.returns-clause-others
returns-clause-others g c =
    let M = g.R.Rack.moment in
    let S = g.R.Rack.state_at in
    let b = c.args.books.now in
    let n = c.args.first in
    let p = b.rec.serial in
    let ds = paths (rows_of b.rec) in
    let r0 = c.args.rack.now in
    let r1 = c.write_headers.new.rack in
    let r2 = c.commit_first.new.rack in
    let is = c.requires.first.is in
    let headed = c.in_ok-write_headers.ensures.done in
    let text = record_text b.rec in
    let env = same_args c.pool_area.result pool_area c.flex_area.result flex_area c.args.devs.now ds c.items.result.now n.body c.items-2.result.now text
    c.pool_area.ensures c.flex_area.ensures (sym c.requires.on) c.items.ensures (c.items-2.ensures ∙ c.requires.first.text) in
    let moves = subst (λ (x : Args). Goes M S (Moves x.0 x.1 1 x.2) r1 r2) env c.commit_first.ensures.moves in
    subst (λ (x : List Path). Goes M S (Stays x) r0 r2) c.requires.on (both_stay M S b c.requires.new r0 r1 r2 c.write_headers.ensures.time moves)

pub returns-clause-done : goal.returns-clause-done
returns-clause-done g c =
    let M = g.R.Rack.moment in
    let S = g.R.Rack.state_at in
    let b = c.args.books.now in
    let n = c.args.first in
    let p = b.rec.serial in
    let ds = paths (rows_of b.rec) in
    let r0 = c.args.rack.now in
    let r1 = c.write_headers.new.rack in
    let r2 = c.commit_first.new.rack in
    let is = c.requires.first.is in
    let headed = c.in_ok-write_headers.ensures.done in
    let text = record_text b.rec in
    let env = same_args c.pool_area.result pool_area c.flex_area.result flex_area c.args.devs.now ds c.items.result.now n.body c.items-2.result.now text
    c.pool_area.ensures c.flex_area.ensures (sym c.requires.on) c.items.ensures (c.items-2.ensures ∙ c.requires.first.text) in
    let moves = subst (λ (x : Args). Goes M S (Moves x.0 x.1 1 x.2) r1 r2) env c.commit_first.ensures.moves in
    let first = first_of b.rec in
    let head = subst (λ (x : Args). slice_get x.2 0 ≡ Some first) (sym env) (first_at (rows_of b.rec) b.rec is refl) in
    let before = subst (λ (x : Args). Ready x.0 x.1 p 0 (λ k. text) x.2 first 0 None (S r1 (M r1))) (sym env) (may_commit b c.requires.new (S r0 (M r0)) c.requires.free (S r1 (M r1)) headed (λ k. text) first) in
    let text_serial = ap serial_in (c.items-2.ensures ∙ c.requires.first.text) ∙ record_serial b.rec is in
    let body_serial = ap serial_in (c.items.ensures ∙ c.requires.first.body.spelled) ∙ flex_serial (flex_record p) 1 c.requires.first.body.fit in
    let all = c.in_ok-commit_first.ensures.done p 0 (λ k. text) first head text_serial body_serial before in
    let ready = subst (λ (x : Args). Ready x.0 x.1 p 1 (next 1 x.4 (λ k. text)) x.2 first 1 (Some (begun 1 (1, x.3))) (S r2 (M r2))) env all.0 in
    let borne = subst (λ (x : Args). (d : Path) → IsOf x.2 d → BearsRecord x.0 1 x.4 (S r2 (M r2) d)) env all.1 in
    ready_at_end M S b c.requires.new r0 r1 r2 c.requires.free headed moves is n.body c.requires.first.body ready borne

pub returns-clause-headers : goal.returns-clause-headers
returns-clause-headers g c =
    let M = g.R.Rack.moment in
    let S = g.R.Rack.state_at in
    let b = c.args.books.now in
    let n = c.args.first in
    let p = b.rec.serial in
    let ds = paths (rows_of b.rec) in
    let r0 = c.args.rack.now in
    let r1 = c.write_headers.new.rack in
    let r2 = c.commit_first.new.rack in
    let is = c.requires.first.is in
    let headed = c.in_ok-write_headers.ensures.done in
    let text = record_text b.rec in
    let env = same_args c.pool_area.result pool_area c.flex_area.result flex_area c.args.devs.now ds c.items.result.now n.body c.items-2.result.now text
    c.pool_area.ensures c.flex_area.ensures (sym c.requires.on) c.items.ensures (c.items-2.ensures ∙ c.requires.first.text) in
    let moves = subst (λ (x : Args). Goes M S (Moves x.0 x.1 1 x.2) r1 r2) env c.commit_first.ensures.moves in
    bear_at_end M S b c.requires.new r0 r1 r2 c.requires.free headed moves

pub returns-clause-settled : goal.returns-clause-settled
returns-clause-settled g c = c.in_ok-commit_first.ensures.settled
