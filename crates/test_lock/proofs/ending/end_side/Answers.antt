use Rattle.test_lock.proofs.ending.end_side.Goals as goal

pub end_work-requires-clause-here : goal.end_work-requires-clause-here
end_work-requires-clause-here g c κs within = c.requires.here

pub end_work-requires-clause-may : goal.end_work-requires-clause-may
end_work-requires-clause-may g c κs within = c.requires.may

pub returns : goal.returns
returns g c = record { here = c.end_work.ensures.here; done = c.end_work.ensures.done }
