use Rattle.st_cachemap.proofs.Keeps.{used_linked}
use Rattle.st_cachemap.proofs.Calls.{at_cell, front_done}
use Rattle.st_cachemap.proofs.cache_map.CacheMap.move_front.Goals as goal

pub move_front-requires : goal.move_front-requires
move_front-requires c = record { linked = (used_linked c.self.invariant c.args.place (at_cell c.self.invariant c.self.view_is c.args.cell c.args.place c.requires).1).0 }

pub invariant_of-self : goal.invariant_of-self
invariant_of-self c = (front_done c.self.invariant c.self.view_is c.args.place c.args.cell c.requires _ c.move_front.ensures.lists c.move_front.ensures.valid).0

pub returns : goal.returns
returns c = (front_done c.self.invariant c.self.view_is c.args.place c.args.cell c.requires _ c.move_front.ensures.lists c.move_front.ensures.valid).1
