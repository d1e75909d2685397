use Rattle.std.proofs.Common.{◌≡◌, ◌+◌, [], ◌∷◌, List, drop, map, sym, ◌∙◌, ap, subst}
use Rattle.std.proofs.lemmas.List.{at_drop_more, drop_all}
use Rattle.st_model.specs.Look.{Text}
use Rattle.st_table.specs.declared.device.Device.{Device}
use Rattle.st_table.specs.inner.Sound.{marked}
use Rattle.st_order.specs.Sorted.{IsRising}
use Rattle.st_table.proofs.Marks.{marked_next, marked_none, paths_kept}
use Rattle.st_table.proofs.device.mark.Goals as goal

pub loop-path-preserved : goal.loop-path-preserved
loop-path-preserved c =
    let ds = c.loop-path.devices in
    let whole : List Text → List Device = λ rest. map (marked rest c.args.user) ds in
    let more = at_drop_more whole c.args.paths.now c.loop-path.path-index c.path-item.result c.loop-path-test.true in
    let more' : whole (drop c.loop-path.path-index c.args.paths.now) ≡ whole (c.path-item.result ∷ drop (c.loop-path.path-index + 1) c.args.paths.now)
    = subst (λ (p : Text). whole (drop c.loop-path.path-index c.args.paths.now) ≡ whole (p ∷ drop (c.loop-path.path-index + 1) c.args.paths.now)) (sym c.path-item.is) more in
    rw c.mark_one.ensures (record {
      rising = subst IsRising (sym (paths_kept (c.path-item.result ∷ []) c.args.user ds)) c.loop-path.invariant.rising;
      rest = marked_next _ _ c.args.user ds ∙ (sym more' ∙ c.loop-path.invariant.rest);
    })

pub returns : goal.returns
returns c =
    let done : drop c.loop-path.path-index c.args.paths.now ≡ [] = drop_all c.loop-path.path-index c.args.paths.now c.loop-path-test.false in
    sym (marked_none c.args.user c.loop-path.devices) ∙ (ap (λ ps. map (marked ps c.args.user) c.loop-path.devices) (sym done) ∙ c.loop-path.invariant.rest)
