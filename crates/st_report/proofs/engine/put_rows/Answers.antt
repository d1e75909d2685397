use Rattle.std.proofs.Common.{◌≡◌, ◌∙◌, take, drop, rules}
use Rattle.st_model.specs.Shown.{place_among_stopped}
use Rattle.st_report.proofs.Rows.{rows_more}
use Rattle.st_report.proofs.engine.put_rows.Goals as goal

pub loop-info-preserved : goal.loop-info-preserved
loop-info-preserved c =
    let rest = c.loop-info.rest.now in
    let info = c.value-info.result.now in
    let low = c.in_ok-put_stopped.ensures.adds in
    let row = c.in_ok-put_row.ensures.adds in
    let inv = c.loop-info.invariant in
    let front : c.split_at.result.0.now ≡ take (place_among_stopped rest info.name) rest = search rules in
    let back : c.split_at.result.1.now ≡ drop (place_among_stopped rest info.name) rest = search rules in
    (row.kept ∙ low.kept ∙ inv.0, rows_more info c.info-item.result c.args.infos.now c.loop-info.info-index rest c.split_at.result.0.now c.split_at.result.1.now c.loop-info-test.true (c.value-info.ensures ∙ c.info-item.is) front back low row ∙ inv.1)
