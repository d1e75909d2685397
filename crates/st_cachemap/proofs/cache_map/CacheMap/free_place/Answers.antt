use Rattle.std.proofs.Common.{◌∙◌, sym}
use Rattle.st_cachemap.proofs.Touches.{has_room, free_within, free_unused}
use Rattle.st_cachemap.proofs.cache_map.CacheMap.free_place.Goals as goal

pub unreachable-requires : goal.unreachable-requires
unreachable-requires c = has_room c.self.invariant c.self.view_is (sym c.first.ensures ∙ c.in-None.is) c.requires

pub returns-clause-place : goal.returns-clause-place
returns-clause-place c = free_within c.self.invariant c.self.view_is c.in-Some.place (sym c.first.ensures ∙ c.in-Some.is)

pub returns-clause-free : goal.returns-clause-free
returns-clause-free c = free_unused c.self.invariant c.self.view_is c.in-Some.place (sym c.first.ensures ∙ c.in-Some.is)
