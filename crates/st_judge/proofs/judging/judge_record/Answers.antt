use Rattle.std.proofs.Common.{◌≡◌, ℕ, Bool, true, false, List, Option, Some, None, sym, ◌∙◌, ap, subst}
use Rattle.st_units.specs.declared.rows.DevRow.{DevRow}
use Rattle.st_judge.specs.Placing.{on_rows_alone, rows_fit, missing_of}
use Rattle.st_judge.specs.declared.rows.FoundRow.{FoundRow}
use Rattle.st_judge.specs.declared.judging.Verdict.TheVariants as verdicts
use Rattle.st_judge.specs.Verdicts.{IsSaid, row_of}
use Rattle.st_judge.proofs.Said.{elsewhere, wrong_device, lacking_said, here_said, own_serial}
use Rattle.st_judge.proofs.judging.judge_record.Goals as goal

pub returns-then-not-on_rows_alone : goal.returns-then-not-on_rows_alone
returns-then-not-on_rows_alone c =
    let p = c.args.serial in
    let looks = c.args.looks.now in
    let rec = c.args.rec in
    let tested : on_rows_alone p rec.devs looks ≡ c.on_rows_alone.result = ap (λ (rs : List DevRow). on_rows_alone p rs looks) (sym c.items.ensures) ∙ sym c.on_rows_alone.ensures in
    elsewhere p looks c.args.newest.now rec c.requires (tested ∙ c.if-not-on_rows_alone.true)

pub gone_row-requires-clause-sound : goal.gone_row-requires-clause-sound
gone_row-requires-clause-sound c = c.requires

pub gone_row-requires-clause-alone : goal.gone_row-requires-clause-alone
gone_row-requires-clause-alone c =
    let tested : on_rows_alone c.args.serial c.args.rec.devs c.args.looks.now ≡ c.on_rows_alone.result = ap (λ (rs : List DevRow). on_rows_alone c.args.serial rs c.args.looks.now) (sym c.items.ensures) ∙ sym c.on_rows_alone.ensures in
    tested ∙ c.if-not-on_rows_alone.false

pub gone_row-requires-clause-gone : goal.gone_row-requires-clause-gone
gone_row-requires-clause-gone c = c.if-rec.true

pub returns-then-rec : goal.returns-then-rec
returns-then-rec c = c.gone_row.ensures

pub returns-then-not-rows_fit : goal.returns-then-not-rows_fit
returns-then-not-rows_fit c =
    let p = c.args.serial in
    let looks = c.args.looks.now in
    let rec = c.args.rec in
    let tested : rows_fit p looks rec.devs ≡ c.rows_fit.result = ap (λ (rs : List DevRow). rows_fit p looks rs) (sym c.items-2.ensures) ∙ sym c.rows_fit.ensures in
    wrong_device p looks c.args.newest.now rec c.requires c.if-rec.false (tested ∙ c.if-not-rows_fit.true)

pub lacking_row-requires : goal.lacking_row-requires
lacking_row-requires c = own_serial c.args.serial c.args.looks.now c.args.newest.now c.args.rec c.requires

pub returns-in-None : goal.returns-in-None
returns-in-None c =
    let p = c.args.serial in
    let looks = c.args.looks.now in
    let rec = c.args.rec in
    let alone : on_rows_alone p rec.devs looks ≡ c.on_rows_alone.result = ap (λ (rs : List DevRow). on_rows_alone p rs looks) (sym c.items.ensures) ∙ sym c.on_rows_alone.ensures in
    let fit : rows_fit p looks rec.devs ≡ c.rows_fit.result = ap (λ (rs : List DevRow). rows_fit p looks rs) (sym c.items-2.ensures) ∙ sym c.rows_fit.ensures in
    let none : missing_of looks rec.devs ≡ None = ap (missing_of looks) (sym c.items-3.ensures) ∙ sym c.in-None.ensures in
    here_said p looks c.args.newest.now rec c.requires (alone ∙ c.if-not-on_rows_alone.false) c.if-rec.false (fit ∙ c.if-not-rows_fit.false) none

pub returns-in_ok-lacking_row-in-Some : goal.returns-in_ok-lacking_row-in-Some
returns-in_ok-lacking_row-in-Some c =
    let p = c.args.serial in
    let looks = c.args.looks.now in
    let rec = c.args.rec in
    let alone : on_rows_alone p rec.devs looks ≡ c.on_rows_alone.result = ap (λ (rs : List DevRow). on_rows_alone p rs looks) (sym c.items.ensures) ∙ sym c.on_rows_alone.ensures in
    let fit : rows_fit p looks rec.devs ≡ c.rows_fit.result = ap (λ (rs : List DevRow). rows_fit p looks rs) (sym c.items-2.ensures) ∙ sym c.rows_fit.ensures in
    let row = c.in-Some.row.now in
    let some : missing_of looks rec.devs ≡ Some row = ap (missing_of looks) (sym c.items-3.ensures) ∙ sym c.in-Some.ensures in
    let told = c.in_ok-lacking_row-in-Some.ensures ∙ ap (λ (q : List ℕ). row_of rec (Some q)) c.in_ok-path-in-Some.ensures in
    subst (λ (r : FoundRow). IsSaid p looks (verdicts.Lacking r)) (sym told) (lacking_said p looks c.args.newest.now rec c.requires (alone ∙ c.if-not-on_rows_alone.false) c.if-rec.false (fit ∙ c.if-not-rows_fit.false) row some)
