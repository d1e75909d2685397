use Rattle.std.proofs.Common.{◌+◌, ◌-◌, ◌/◌, ◌<◌, inl, inr, length, get_or, ap, sym, ◌∙◌, arith}
use Rattle.std.proofs.lemmas.Bool.{cases_Bool}
use Rattle.st_shelf.specs.Shelf.{comes_before}
use Rattle.st_shelf.proofs.Order.{partitioned}
use Rattle.st_shelf.proofs.Leave.{same_at}
use Rattle.st_shelf.proofs.shelf.place_of.Goals as goal

pub loop-low-preserved-then-is_before : goal.loop-low-preserved-then-is_before
loop-low-preserved-then-is_before g c =
    let path = g.D.Device.path_of in
    let all = c.args.devices.now in
    let middle = c.loop-low.low + (c.loop-low.high - c.loop-low.low) / 2 in
    let lt : middle < length all = omega (arith, c.loop-low-test.true, c.loop-low.invariant.within) in
    record {
      order = omega (arith, c.loop-low-test.true);
      within = c.loop-low.invariant.within;
      before = λ k d less. partitioned path g.D.Device.size all c.args.dev.now c.requires k middle d (omega (arith, less)) lt
          (ap (λ (e : _). comes_before (path e) c.args.dev.now) (same_at all middle d c.index-devices-middle.result lt ∙ sym c.index-devices-middle.is)
          ∙ ap (λ (p : _). comes_before p c.args.dev.now) (sym c.path.ensures) ∙ sym c.is_before.ensures ∙ c.if-is_before.true);
      after = c.loop-low.invariant.after;
    }

pub loop-low-preserved : goal.loop-low-preserved
loop-low-preserved g c =
    let path = g.D.Device.path_of in
    let all = c.args.devices.now in
    let middle = c.loop-low.low + (c.loop-low.high - c.loop-low.low) / 2 in
    let lt : middle < length all = omega (arith, c.loop-low-test.true, c.loop-low.invariant.within) in
    record {
      order = omega (arith, c.loop-low-test.true);
      within = omega (arith, lt);
      before = c.loop-low.invariant.before;
      after = λ k d le less. elim (cases_Bool (comes_before (path (get_or all k d)) c.args.dev.now)) [
        | inr not ↦ not
        | inl is ↦ absurd (
            let here = partitioned path g.D.Device.size all c.args.dev.now c.requires middle k d le less is in
            let there =
            ap (λ (e : _). comes_before (path e) c.args.dev.now) (same_at all middle d c.index-devices-middle.result lt ∙ sym c.index-devices-middle.is)
            ∙ ap (λ (p : _). comes_before p c.args.dev.now) (sym c.path.ensures) ∙ sym c.is_before.ensures ∙ c.if-is_before.false in
            cc)
      ];
    }
