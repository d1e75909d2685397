use Rattle.std.proofs.Common.{Option, Some, ap, ◌∙◌, ◌++◌}
use Rattle.std.specs.Option.{option_to_list}
use Rattle.std.proofs.lemmas.List.Elements.{All-pop}
use Rattle.test_lock.specs.declared.ending.Side.{Side}
use Rattle.test_lock.specs.Ending.{IsEnded}
use Rattle.test_lock.proofs.ending.join_sides.Goals as goal

pub join_side-requires-clause-ended : goal.join_side-requires-clause-ended
join_side-requires-clause-ended g c κs within =
    let popped = c.pop.ensures.items ∙ ap (λ (o : Option (Side _ _ _ _)). c.pop.new.self.items ++ option_to_list o) c.in-Some.is in
    (All-pop (λ (x : Side g.row.C.Denot g.row.T.Denot g.row.C-Info.Denot g.row.T-Info.Denot). IsEnded c.args.lock.now x.seat x.work) c.loop-side.sides.items c.pop.new.self.items (Some c.in-Some.side) popped c.loop-side.invariant.1).1

pub loop-side-preserved : goal.loop-side-preserved
loop-side-preserved g c =
    let popped = c.pop.ensures.items ∙ ap (λ (o : Option (Side _ _ _ _)). c.pop.new.self.items ++ option_to_list o) c.in-Some.is in (
      c.join_side.ensures.here,
      (All-pop (λ (x : Side g.row.C.Denot g.row.T.Denot g.row.C-Info.Denot g.row.T-Info.Denot). IsEnded c.args.lock.now x.seat x.work) c.loop-side.sides.items c.pop.new.self.items (Some c.in-Some.side) popped c.loop-side.invariant.1).0,
    )
