use Rattle.std.proofs.Common.{◌≡◌, ℕ, ◌+◌, ◌<◌, ◌≤◌, ◌^◌, true, List, length, refl, sym, ◌∙◌, ap, subst, arith}
use Rattle.std.proofs.lemmas.Result.{err_from_is_err_and}
use Rattle.st_fields.specs.Slot.{padded}
use Rattle.st_recrows.specs.Rows.{Spells}
use Rattle.st_flexrec.specs.Conditions.{IsFlexRec, KeepsConditions, is_within}
use Rattle.st_flexrec.specs.Record.{record_text}
use Rattle.st_flexrec.specs.declared.record.FlexRec.{FlexRec}
use Rattle.st_flexlog.specs.declared.delta.Delta.{Delta}
use Rattle.st_flexlog.specs.declared.state.FlexState.{FlexState}
use Rattle.st_flexlog.specs.Delta.{DeltaFits, IsInOrder, delta_text}
use Rattle.st_deltalog.specs.Log.{serial_in}
use Rattle.st_books.specs.Spelled.{bare_record, no_rows}
use Rattle.st_books.proofs.Texts.{bare_kept, bare_within, bare_short, record_serial, flex_serial, record_short}
use Rattle.st_books.proofs.spelling.spell_next.Goals as goal

small : (n : ℕ) → 64 + n ≤ 851968 → n < 2 ^ 40
small n le = omega (arith, le)

short : (n : ℕ) → 64 + n ≤ 32768 → 64 + n ≤ 851968
short n le = omega (arith, le)

delta_short : (st : FlexState) → 64 + length (delta_text (no_rows st)) ≤ 512
delta_short st = omega arith

delta_padded : (st : FlexState) → padded (64 + length (delta_text (no_rows st))) ≡ 512
delta_padded st = refl

pub encode-requires : goal.encode-requires
encode-requires c =
    c.requires.valid

pub returns-in_err-rec_text : goal.returns-in_err-rec_text
returns-in_err-rec_text c =
    let p = err_from_is_err_and c.from_residual.result c.from_residual.ensures.1 in rw p.1 tt

pub encode-requires-2 : goal.encode-requires-2
encode-requires-2 c =
    subst (λ (r : FlexRec). KeepsConditions r) (sym c.bare_record.ensures) (bare_kept c.args.books.now.flex c.requires.bare.serial_from c.requires.bare.cell_from)

pub returns-in_err-body : goal.returns-in_err-body
returns-in_err-body c =
    let p = err_from_is_err_and c.from_residual-in_err-body.result c.from_residual-in_err-body.ensures.1 in rw p.1 tt

pub encode-delta-requires : goal.encode-delta-requires
encode-delta-requires c =
    subst (λ (d : Delta). IsInOrder d) (sym c.no_rows.ensures) (λ e. e)

pub work_for-requires : goal.work_for-requires
work_for-requires c =
    subst (λ (t : List ℕ). length t < 2 ^ 40) (sym (c.items.ensures ∙ c.in_ok-rec_text.ensures.spelled)) (small _ (short _ (record_short c.args.rec c.in_ok-rec_text.ensures.fit)))

pub returns-in_err-rec_work : goal.returns-in_err-rec_work
returns-in_err-rec_work c =
    let p = err_from_is_err_and c.from_residual-in_err-rec_work.result c.from_residual-in_err-rec_work.ensures.1 in rw p.1 tt

pub work_for-requires-2 : goal.work_for-requires-2
work_for-requires-2 c =
    let delta = subst (λ (d : Delta). Spells DeltaFits delta_text c.encode-delta.result d) c.no_rows.ensures c.encode-delta.ensures in
    subst (λ (t : List ℕ). length t < 2 ^ 40) (sym (c.bytes.ensures ∙ delta.spelled)) (omega arith)

pub returns-in_err-delta_work : goal.returns-in_err-delta_work
returns-in_err-delta_work c =
    let p = err_from_is_err_and c.from_residual-in_err-delta_work.result c.from_residual-in_err-delta_work.ensures.1 in rw p.1 tt

pub work_for-requires-3 : goal.work_for-requires-3
work_for-requires-3 c =
    let G = c.args.books.now.generation + 1 in
    let flex = c.args.books.now.flex in
    let body = subst (λ (r : FlexRec). Spells (IsFlexRec G) record_text c.in_ok-body.body r) c.bare_record.ensures (c.in_ok-body.ensures G (subst (λ (r : FlexRec). is_within G r ≡ true) (sym c.bare_record.ensures) (bare_within c.args.books.now.rec.serial c.args.books.now.generation flex c.requires.bare))) in
    subst (λ (t : List ℕ). length t < 2 ^ 40) (sym (c.items-2.ensures ∙ body.spelled)) (small _ (bare_short flex))

pub returns-in_err-body_work : goal.returns-in_err-body_work
returns-in_err-body_work c =
    let p = err_from_is_err_and c.from_residual-in_err-body_work.result c.from_residual-in_err-body_work.ensures.1 in rw p.1 tt

pub same-rec_text : goal.same-rec_text
same-rec_text c =
    refl

pub same-body : goal.same-body
same-body c =
    refl

pub returns : goal.returns
returns c =
    let delta = subst (λ (d : Delta). Spells DeltaFits delta_text c.encode-delta.result d) c.no_rows.ensures c.encode-delta.ensures in
    let G = c.args.books.now.generation + 1 in
    let flex = c.args.books.now.flex in
    let body = subst (λ (r : FlexRec). Spells (IsFlexRec G) record_text c.in_ok-body.body r) c.bare_record.ensures (c.in_ok-body.ensures G (subst (λ (r : FlexRec). is_within G r ≡ true) (sym c.bare_record.ensures) (bare_within c.args.books.now.rec.serial c.args.books.now.generation flex c.requires.bare))) in
    let rec_is = c.in_ok-rec_text.ensures in (
      record {
        is = rec_is.fit;
        later = c.requires.later;
        text = rec_is.spelled;
        delta = delta;
        body = body;
        text_serial = ap serial_in rec_is.spelled ∙ record_serial c.args.rec rec_is.fit ∙ c.requires.later.serial;
        body_serial = ap serial_in body.spelled ∙ flex_serial (bare_record flex) G body.fit ∙ c.requires.bare.own;
        text_fits = subst (λ (t : List ℕ). 64 + length t ≤ 32768) (sym rec_is.spelled) (record_short c.args.rec rec_is.fit);
        delta_fits = subst (λ (t : List ℕ). 64 + length t ≤ 512) (sym delta.spelled) (delta_short flex);
        body_fits = subst (λ (t : List ℕ). 64 + length t ≤ 851968) (sym body.spelled) (bare_short flex);
        text_work = c.in_ok-rec_work.ensures ∙ ap (λ (t : List ℕ). padded (64 + length t)) c.items.ensures;
        delta_work = c.in_ok-delta_work.ensures ∙ ap (λ (t : List ℕ). padded (64 + length t)) (c.bytes.ensures ∙ delta.spelled) ∙ delta_padded flex;
        body_work = c.in_ok-body_work.ensures ∙ ap (λ (t : List ℕ). padded (64 + length t)) c.items-2.ensures;
      },
      refl,
    )
