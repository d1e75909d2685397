use Rattle.std.proofs.Common.{◌≡◌, inl, ℕ, ◌+◌, ◌*◌, ◌<◌, ◌≤◌, ◌^◌, true, List, length, Some, Fits, w64, refl, sym, ◌∙◌, ap, subst, arith}
use Rattle.std.specs.List.{slice_get}
use Rattle.std.proofs.lemmas.Result.{err_from_is_err_and}
use Rattle.st_fields.specs.Slot.{padded}
use Rattle.st_poolrec.specs.Record.{record_text}
use Rattle.st_rack.specs.Device.{Path}
use Rattle.st_rack.specs.Moments.{Goes, Keeps}
use Rattle.st_slots.specs.Places.{Lies}
use Rattle.st_slots.specs.declared.spot.Area.{Area}
use Rattle.st_deltalog.specs.declared.area.FlexArea.{FlexArea}
use Rattle.st_deltalog.specs.Bearing.{IsTail}
use Rattle.st_deltalog.specs.Choice.{chosen, chosen_up}
use Rattle.st_deltalog.specs.Log.{serial_in}
use Rattle.st_commit.specs.Standing.{OneOf, standing_of}
use Rattle.st_commit.specs.Ready.{AreApart, AreDistinct, BearsRecord, IsOf, Moves, NoOther, Ready, next}
use Rattle.st_image.specs.Looks.{pool_area, flex_area}
use Rattle.st_image.specs.Bears.{first_of, paths}
use Rattle.st_image.proofs.Committing.{first_at}
use Rattle.st_books.specs.Ready.{rows_of}
use Rattle.st_books.proofs.Lying.{some_path, own_paths, records_lie, log_lies}
use Rattle.st_books.proofs.Steps.{during, ready_after, held_after, borne_before}
use Rattle.st_books.proofs.committing.commit_next.Goals as goal

-- what a commit is given: the areas, the devices, the delta, the checkpoint and the record
abbrev Args : Type 0
Args = Area × FlexArea × List Path × List ℕ × List ℕ × List ℕ

abbrev args : Area → FlexArea → List Path → List ℕ → List ℕ → List ℕ → Args
args a f ds delta body rec = (a, f, ds, delta, body, rec)

same_args : (a a' : Area) (f f' : FlexArea) (ds ds' : List Path) (delta delta' body body' rec rec' : List ℕ) → a ≡ a' → f ≡ f' → ds ≡ ds' → delta ≡ delta' → body ≡ body' → rec ≡ rec' → args a f ds delta body rec ≡ args a' f' ds' delta' body' rec'
same_args a a' f f' ds ds' delta delta' body body' rec rec' o p q r s t = λ i. args (o i) (p i) (q i) (r i) (s i) (t i)

up_to : (g up : ℕ) → g < 2 ^ 48 → up ≡ 2 ^ 48 → g + 1 ≤ up
up_to g up lt is = omega (arith, lt, is)

fits_one : (g : ℕ) → g < 2 ^ 48 → Fits w64 (g + 1)
fits_one g lt = omega arith

one_from : (g : ℕ) → 1 ≤ g + 1
one_from g = omega arith

one_until : (g : ℕ) → g < 2 ^ 48 → g + 1 ≤ 2 ^ 48
one_until g lt = omega (arith, lt)

pub overflow_add-books : goal.overflow_add-books
overflow_add-books g c =
    fits_one c.args.books.now.generation c.requires.last

pub commit_by_rule-requires-clause-some : goal.commit_by_rule-requires-clause-some
commit_by_rule-requires-clause-some g c =
    subst (λ (ds : List Path). 0 < length ds) c.requires.on (some_path c.args.books.now.rec c.requires.ready.records.is (g.R.Rack.devs c.args.rack.now) c.requires.there)

pub commit_by_rule-requires-clause-distinct : goal.commit_by_rule-requires-clause-distinct
commit_by_rule-requires-clause-distinct g c =
    subst (λ (ds : List Path). AreDistinct ds) c.requires.on (own_paths c.args.books.now.rec c.requires.ready.records.is (g.R.Rack.devs c.args.rack.now) c.requires.there)

pub commit_by_rule-requires-clause-lie : goal.commit_by_rule-requires-clause-lie
commit_by_rule-requires-clause-lie g c =
    λ d of. subst (λ (a : Area). Lies (g.R.Rack.devs c.args.rack.now) d a) (sym c.pool_area.ensures) (records_lie c.args.books.now.rec c.requires.ready.records.is (g.R.Rack.devs c.args.rack.now) c.requires.there d (subst (λ (ds : List Path). IsOf ds d) (sym c.requires.on) of))

pub commit_by_rule-requires-clause-flex_lies : goal.commit_by_rule-requires-clause-flex_lies
commit_by_rule-requires-clause-flex_lies g c =
    λ d at. subst (λ (a : FlexArea). Lies (g.R.Rack.devs c.args.rack.now) d a.area) (sym c.flex_area.ensures) (log_lies c.args.books.now.rec c.requires.ready.records.is (g.R.Rack.devs c.args.rack.now) c.requires.there d (subst (λ (ds : List Path). slice_get ds 0 ≡ Some d) (sym c.requires.on) at))

pub commit_by_rule-requires-clause-apart : goal.commit_by_rule-requires-clause-apart
commit_by_rule-requires-clause-apart g c =
    subst (λ (x : Area × FlexArea). AreApart x.0 x.1.area) (λ i. (sym c.pool_area.ensures i, sym c.flex_area.ensures i)) (inl (omega arith))

pub commit_by_rule-requires-clause-place : goal.commit_by_rule-requires-clause-place
commit_by_rule-requires-clause-place g c =
    subst (λ (k : ℕ). k < 2) c.requires.ready.tail.in_slot c.requires.ready.records.ready.base.1.bears.holds.of_two

pub commit_by_rule-requires-clause-from : goal.commit_by_rule-requires-clause-from
commit_by_rule-requires-clause-from g c =
    one_from c.args.books.now.generation

pub commit_by_rule-requires-clause-until : goal.commit_by_rule-requires-clause-until
commit_by_rule-requires-clause-until g c =
    one_until c.args.books.now.generation c.requires.last

pub commit_by_rule-requires-clause-delta_fits : goal.commit_by_rule-requires-clause-delta_fits
commit_by_rule-requires-clause-delta_fits g c =
    subst (λ (t : List ℕ). 64 + length t ≤ 512) (sym c.bytes.ensures) c.requires.next.delta_fits

pub commit_by_rule-requires-clause-delta_room : goal.commit_by_rule-requires-clause-delta_room
commit_by_rule-requires-clause-delta_room g c =
    ap length c.deref_mut.ensures.value ∙ c.requires.next.delta_work

pub commit_by_rule-requires-clause-body_fits : goal.commit_by_rule-requires-clause-body_fits
commit_by_rule-requires-clause-body_fits g c =
    subst (λ (x : List ℕ × FlexArea). 64 + length x.0 ≤ 512 * x.1.area.slot) (λ i. (sym c.items.ensures i, sym c.flex_area.ensures i)) c.requires.next.body_fits

pub commit_by_rule-requires-clause-body_room : goal.commit_by_rule-requires-clause-body_room
commit_by_rule-requires-clause-body_room g c =
    ap length c.deref_mut-2.ensures.value ∙ c.requires.next.body_work ∙ ap (λ (t : List ℕ). padded (64 + length t)) (sym c.items.ensures)

pub commit_by_rule-requires-clause-fits : goal.commit_by_rule-requires-clause-fits
commit_by_rule-requires-clause-fits g c =
    subst (λ (x : List ℕ × Area). 64 + length x.0 ≤ 512 * x.1.slot) (λ i. (sym c.items-2.ensures i, sym c.pool_area.ensures i)) c.requires.next.text_fits

pub commit_by_rule-requires-clause-room : goal.commit_by_rule-requires-clause-room
commit_by_rule-requires-clause-room g c =
    ap length c.deref_mut-3.ensures.value ∙ c.requires.next.text_work ∙ ap (λ (t : List ℕ). padded (64 + length t)) (sym c.items-2.ensures)

pub returns-in_err-commit_by_rule-clause-devs : goal.returns-in_err-commit_by_rule-clause-devs
returns-in_err-commit_by_rule-clause-devs g c =
    c.commit_by_rule.ensures.devs

pub returns-in_err-commit_by_rule-clause-reads : goal.returns-in_err-commit_by_rule-clause-reads
returns-in_err-commit_by_rule-clause-reads g c =
    c.commit_by_rule.ensures.reads

pub returns-in_err-commit_by_rule-clause-spare : goal.returns-in_err-commit_by_rule-clause-spare
returns-in_err-commit_by_rule-clause-spare g c =
    c.commit_by_rule.ensures.spare

pub returns-in_err-commit_by_rule-clause-cause : goal.returns-in_err-commit_by_rule-clause-cause
returns-in_err-commit_by_rule-clause-cause g c =
    let p = err_from_is_err_and c.from_residual.result c.from_residual.ensures.1 in rw p.1 (record { later = c.commit_by_rule.ensures.cause.later; failed = c.in_err-commit_by_rule.ensures.cause.failed })

pub returns-in_err-commit_by_rule-clause-during : goal.returns-in_err-commit_by_rule-clause-during
returns-in_err-commit_by_rule-clause-during g c =
    let M = g.R.Rack.moment in
    let S = g.R.Rack.state_at in
    let b = c.args.books.now in
    let n = c.args.next in
    let r0 = c.args.rack.now in
    let r1 = c.commit_by_rule.new.rack in
    let ready = c.requires.ready in
    let text = record_text n.rec in
    let env = same_args c.pool_area.result pool_area c.flex_area.result flex_area c.args.devs.now (paths (rows_of b.rec)) c.bytes.result.now n.delta c.items.result.now n.body c.items-2.result.now text
    c.pool_area.ensures c.flex_area.ensures (sym c.requires.on) c.bytes.ensures c.items.ensures (c.items-2.ensures ∙ c.requires.next.text) in
    let moves = subst (λ (x : Args). Goes M S (Moves x.0 x.1 (b.generation + 1) x.2) r0 r1) env c.commit_by_rule.ensures.moves in
    let before = subst (λ (x : Args). Ready x.0 x.1 b.rec.serial ready.records.up ready.records.h x.2 (first_of b.rec) b.generation (Some ready.records.log) (S r0 (M r0))) (sym env) ready.records.ready in
    let head = subst (λ (x : Args). slice_get x.2 0 ≡ Some (first_of b.rec)) (sym env) (first_at (rows_of b.rec) b.rec ready.records.is refl) in
    let below : b.has_committed ≡ true → b.generation + 1 ≤ ready.records.up = (λ e. up_to b.generation ready.records.up c.requires.last (ready.upto e).0) in
    let text_serial = ap serial_in c.items-2.ensures ∙ c.requires.next.text_serial in
    let body_serial = ap serial_in c.items.ensures ∙ c.requires.next.body_serial in
    let one = subst (λ (x : Args). Keeps M S (OneOf x.0 x.1 b.rec.serial x.2 (first_of b.rec) (standing_of b.generation (ready.records.h b.generation) (Some ready.records.log)) (standing_of (b.generation + 1) x.5 (Some (chosen x.1 true b.has_committed ready.records.log (b.generation + 1) x.3 x.4)))) r0 r1) env
    (c.commit_by_rule.ensures.during b.rec.serial ready.records.up b.generation ready.records.h (first_of b.rec) ready.records.log head ready.tail refl below text_serial body_serial before) in
    let others = subst (λ (x : Args). Keeps M S (NoOther x.0 x.2 (b.generation + 1) x.5 (S r0 (M r0))) r0 r1) env c.commit_by_rule.ensures.others in
    during M S b n r0 r1 ready c.requires.next moves c.requires.alive one others

pub returns-in_err-commit_by_rule-clause-done : goal.returns-in_err-commit_by_rule-clause-done
returns-in_err-commit_by_rule-clause-done g c =
    let p = err_from_is_err_and c.from_residual.result c.from_residual.ensures.1 in rw p.1 tt

pub returns-in_err-commit_by_rule-clause-borne_before : goal.returns-in_err-commit_by_rule-clause-borne_before
returns-in_err-commit_by_rule-clause-borne_before g c =
    let p = err_from_is_err_and c.from_residual.result c.from_residual.ensures.1 in rw p.1 tt

pub returns-in_err-commit_by_rule-clause-rec : goal.returns-in_err-commit_by_rule-clause-rec
returns-in_err-commit_by_rule-clause-rec g c =
    let p = err_from_is_err_and c.from_residual.result c.from_residual.ensures.1 in rw p.1 tt

pub returns-in_err-commit_by_rule-clause-flex : goal.returns-in_err-commit_by_rule-clause-flex
returns-in_err-commit_by_rule-clause-flex g c =
    let p = err_from_is_err_and c.from_residual.result c.from_residual.ensures.1 in rw p.1 tt

pub returns-in_err-commit_by_rule-clause-generation : goal.returns-in_err-commit_by_rule-clause-generation
returns-in_err-commit_by_rule-clause-generation g c =
    let p = err_from_is_err_and c.from_residual.result c.from_residual.ensures.1 in rw p.1 tt

pub returns-in_err-commit_by_rule-clause-committed : goal.returns-in_err-commit_by_rule-clause-committed
returns-in_err-commit_by_rule-clause-committed g c =
    let p = err_from_is_err_and c.from_residual.result c.from_residual.ensures.1 in rw p.1 tt

pub returns-in_err-commit_by_rule-clause-settled : goal.returns-in_err-commit_by_rule-clause-settled
returns-in_err-commit_by_rule-clause-settled g c =
    let p = err_from_is_err_and c.from_residual.result c.from_residual.ensures.1 in rw p.1 tt

pub returns-in_err-commit_by_rule-clause-rec_before : goal.returns-in_err-commit_by_rule-clause-rec_before
returns-in_err-commit_by_rule-clause-rec_before g c =
    let p = err_from_is_err_and c.from_residual.result c.from_residual.ensures.1 in rw p.1 refl

pub returns-in_err-commit_by_rule-clause-flex_before : goal.returns-in_err-commit_by_rule-clause-flex_before
returns-in_err-commit_by_rule-clause-flex_before g c =
    let p = err_from_is_err_and c.from_residual.result c.from_residual.ensures.1 in rw p.1 refl

pub returns-in_err-commit_by_rule-clause-generation_before : goal.returns-in_err-commit_by_rule-clause-generation_before
returns-in_err-commit_by_rule-clause-generation_before g c =
    let p = err_from_is_err_and c.from_residual.result c.from_residual.ensures.1 in rw p.1 refl

pub returns-in_err-commit_by_rule-clause-committed_before : goal.returns-in_err-commit_by_rule-clause-committed_before
returns-in_err-commit_by_rule-clause-committed_before g c =
    let p = err_from_is_err_and c.from_residual.result c.from_residual.ensures.1 in rw p.1 refl

pub overflow_add-books-2 : goal.overflow_add-books-2
overflow_add-books-2 g c =
    fits_one c.args.books.now.generation c.requires.last

pub returns-clause-devs : goal.returns-clause-devs
returns-clause-devs g c =
    c.commit_by_rule.ensures.devs

pub returns-clause-reads : goal.returns-clause-reads
returns-clause-reads g c =
    c.commit_by_rule.ensures.reads

pub returns-clause-spare : goal.returns-clause-spare
returns-clause-spare g c =
    c.commit_by_rule.ensures.spare

pub returns-clause-cause : goal.returns-clause-cause
returns-clause-cause g c =
    record { later = c.commit_by_rule.ensures.cause.later; failed = tt }

pub returns-clause-during : goal.returns-clause-during
returns-clause-during g c =
    let M = g.R.Rack.moment in
    let S = g.R.Rack.state_at in
    let b = c.args.books.now in
    let n = c.args.next in
    let r0 = c.args.rack.now in
    let r1 = c.commit_by_rule.new.rack in
    let ready = c.requires.ready in
    let text = record_text n.rec in
    let env = same_args c.pool_area.result pool_area c.flex_area.result flex_area c.args.devs.now (paths (rows_of b.rec)) c.bytes.result.now n.delta c.items.result.now n.body c.items-2.result.now text
    c.pool_area.ensures c.flex_area.ensures (sym c.requires.on) c.bytes.ensures c.items.ensures (c.items-2.ensures ∙ c.requires.next.text) in
    let moves = subst (λ (x : Args). Goes M S (Moves x.0 x.1 (b.generation + 1) x.2) r0 r1) env c.commit_by_rule.ensures.moves in
    let before = subst (λ (x : Args). Ready x.0 x.1 b.rec.serial ready.records.up ready.records.h x.2 (first_of b.rec) b.generation (Some ready.records.log) (S r0 (M r0))) (sym env) ready.records.ready in
    let head = subst (λ (x : Args). slice_get x.2 0 ≡ Some (first_of b.rec)) (sym env) (first_at (rows_of b.rec) b.rec ready.records.is refl) in
    let below : b.has_committed ≡ true → b.generation + 1 ≤ ready.records.up = (λ e. up_to b.generation ready.records.up c.requires.last (ready.upto e).0) in
    let text_serial = ap serial_in c.items-2.ensures ∙ c.requires.next.text_serial in
    let body_serial = ap serial_in c.items.ensures ∙ c.requires.next.body_serial in
    let one = subst (λ (x : Args). Keeps M S (OneOf x.0 x.1 b.rec.serial x.2 (first_of b.rec) (standing_of b.generation (ready.records.h b.generation) (Some ready.records.log)) (standing_of (b.generation + 1) x.5 (Some (chosen x.1 true b.has_committed ready.records.log (b.generation + 1) x.3 x.4)))) r0 r1) env
    (c.commit_by_rule.ensures.during b.rec.serial ready.records.up b.generation ready.records.h (first_of b.rec) ready.records.log head ready.tail refl below text_serial body_serial before) in
    let others = subst (λ (x : Args). Keeps M S (NoOther x.0 x.2 (b.generation + 1) x.5 (S r0 (M r0))) r0 r1) env c.commit_by_rule.ensures.others in
    during M S b n r0 r1 ready c.requires.next moves c.requires.alive one others

pub returns-clause-done : goal.returns-clause-done
returns-clause-done g c =
    let M = g.R.Rack.moment in
    let S = g.R.Rack.state_at in
    let b = c.args.books.now in
    let n = c.args.next in
    let r0 = c.args.rack.now in
    let r1 = c.commit_by_rule.new.rack in
    let ready = c.requires.ready in
    let text = record_text n.rec in
    let env = same_args c.pool_area.result pool_area c.flex_area.result flex_area c.args.devs.now (paths (rows_of b.rec)) c.bytes.result.now n.delta c.items.result.now n.body c.items-2.result.now text
    c.pool_area.ensures c.flex_area.ensures (sym c.requires.on) c.bytes.ensures c.items.ensures (c.items-2.ensures ∙ c.requires.next.text) in
    let moves = subst (λ (x : Args). Goes M S (Moves x.0 x.1 (b.generation + 1) x.2) r0 r1) env c.commit_by_rule.ensures.moves in
    let before = subst (λ (x : Args). Ready x.0 x.1 b.rec.serial ready.records.up ready.records.h x.2 (first_of b.rec) b.generation (Some ready.records.log) (S r0 (M r0))) (sym env) ready.records.ready in
    let head = subst (λ (x : Args). slice_get x.2 0 ≡ Some (first_of b.rec)) (sym env) (first_at (rows_of b.rec) b.rec ready.records.is refl) in
    let below : b.has_committed ≡ true → b.generation + 1 ≤ ready.records.up = (λ e. up_to b.generation ready.records.up c.requires.last (ready.upto e).0) in
    let text_serial = ap serial_in c.items-2.ensures ∙ c.requires.next.text_serial in
    let body_serial = ap serial_in c.items.ensures ∙ c.requires.next.body_serial in
    let all = c.in_ok-commit_by_rule.ensures.done b.rec.serial ready.records.up b.generation ready.records.h (first_of b.rec) ready.records.log head ready.tail refl below text_serial body_serial before in
    let stands = subst (λ (x : Args). Ready x.0 x.1 b.rec.serial (chosen_up x.1 true b.has_committed ready.records.log ready.records.up) (next (b.generation + 1) x.5 ready.records.h) x.2 (first_of b.rec) (b.generation + 1) (Some (chosen x.1 true b.has_committed ready.records.log (b.generation + 1) x.3 x.4)) (S r1 (M r1))) env all.0 in
    let borne = subst (λ (x : Args). (d : Path) → IsOf x.2 d → BearsRecord x.0 (b.generation + 1) x.5 (S r1 (M r1) d)) env all.1.0 in
    let tail = subst (λ (x : Args). IsTail c.commit_by_rule.new.tail.slot c.commit_by_rule.new.tail.next (chosen x.1 true b.has_committed ready.records.log (b.generation + 1) x.3 x.4)) env (c.in_ok-commit_by_rule.ensures.tail ready.records.log ready.tail) in
    (ready_after M S b n r0 r1 ready c.requires.next moves c.commit_by_rule.new.tail c.requires.last tail stands borne, held_after M S b n r0 r1 ready c.requires.next moves)

pub returns-clause-borne_before : goal.returns-clause-borne_before
returns-clause-borne_before g c =
    let M = g.R.Rack.moment in
    let S = g.R.Rack.state_at in
    let b = c.args.books.now in
    let n = c.args.next in
    let r0 = c.args.rack.now in
    let r1 = c.commit_by_rule.new.rack in
    let ready = c.requires.ready in
    let text = record_text n.rec in
    let env = same_args c.pool_area.result pool_area c.flex_area.result flex_area c.args.devs.now (paths (rows_of b.rec)) c.bytes.result.now n.delta c.items.result.now n.body c.items-2.result.now text
    c.pool_area.ensures c.flex_area.ensures (sym c.requires.on) c.bytes.ensures c.items.ensures (c.items-2.ensures ∙ c.requires.next.text) in
    let moves = subst (λ (x : Args). Goes M S (Moves x.0 x.1 (b.generation + 1) x.2) r0 r1) env c.commit_by_rule.ensures.moves in
    borne_before M S b n r0 r1 ready c.requires.next moves

pub returns-clause-rec : goal.returns-clause-rec
returns-clause-rec g c =
    refl

pub returns-clause-flex : goal.returns-clause-flex
returns-clause-flex g c =
    refl

pub returns-clause-generation : goal.returns-clause-generation
returns-clause-generation g c =
    refl

pub returns-clause-committed : goal.returns-clause-committed
returns-clause-committed g c =
    refl

pub returns-clause-settled : goal.returns-clause-settled
returns-clause-settled g c = c.in_ok-commit_by_rule.ensures.settled
