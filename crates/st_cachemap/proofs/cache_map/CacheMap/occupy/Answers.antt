use Rattle.std.proofs.Common.{◌≡◌, ◌<◌, ℕ, length, false, ap, subst, ◌∙◌, arith}
use Rattle.st_links.specs.Arena.{Arena, is_linked}
use Rattle.st_cachemap.specs.Sound.{bucket_of}
use Rattle.st_cachemap.proofs.Keeps.{unfiled, free_after, len_fits}
use Rattle.st_cachemap.proofs.Calls.{in_use, occupy_done}
use Rattle.st_cachemap.proofs.cache_map.CacheMap.occupy.Goals as goal

pub push_front-requires-clause-free : goal.push_front-requires-clause-free
push_front-requires-clause-free c =
    ap (λ (a : Arena). is_linked a.lists c.args.place) c.unlink.ensures.lists ∙ free_after c.self.inside.order.lists c.args.place

pub push_front-requires-2-clause-free : goal.push_front-requires-2-clause-free
push_front-requires-2-clause-free c = unfiled c.self.invariant c.args.place (in_use c.self.invariant c.self.view_is c.args.place false c.requires.free)

pub overflow_add-self : goal.overflow_add-self
overflow_add-self c = omega (arith, len_fits c.self.invariant, c.self.inside.cells.ok.0)

bucket_is : (c : goal.After-self-2-1) → c.bucket_of-bucket.result ≡ bucket_of c.args.cell (length c.self.inside.cells.items)
bucket_is c = c.bucket_of-bucket.ensures.bucket ∙ ap (bucket_of c.args.cell) (c.len.ensures ∙ c.self.inside.cells.ok.0)

bucket_below : (c : goal.After-self-2-1) → c.bucket_of-bucket.result < length c.self.inside.cells.items
bucket_below c = subst (λ (k : ℕ). c.bucket_of-bucket.result < k) (c.len.ensures ∙ c.self.inside.cells.ok.0) c.bucket_of-bucket.ensures.below

pub invariant_of-self : goal.invariant_of-self
invariant_of-self c = (occupy_done c.self.invariant c.self.view_is c.args.place c.args.cell c.requires.place c.requires.free c.requires.absent _ _ _ c.unlink.ensures.lists c.push_front.ensures.lists c.push_front.ensures.valid _ (bucket_is c) (bucket_below c) c.push_front-2.ensures.lists c.push_front-2.ensures.valid).0

pub returns : goal.returns
returns c = (occupy_done c.self.invariant c.self.view_is c.args.place c.args.cell c.requires.place c.requires.free c.requires.absent _ _ _ c.unlink.ensures.lists c.push_front.ensures.lists c.push_front.ensures.valid _ (bucket_is c) (bucket_below c) c.push_front-2.ensures.lists c.push_front-2.ensures.valid).1
