use Rattle.std.proofs.Common.{◌∙◌, ap}
use Rattle.st_slots.specs.Reading.{of_place}
use Rattle.st_slots.proofs.read.read_place.Goals as goal

pub returns-clause-found : goal.returns-clause-found
returns-clause-found g c = c.if_in_place.ensures ∙ ap (of_place c.args.place) c.in_ok-found.ensures.found
