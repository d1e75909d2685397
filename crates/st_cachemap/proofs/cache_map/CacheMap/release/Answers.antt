use Rattle.std.proofs.Common.{◌≡◌, ◌+◌, ◌-◌, ◌<◌, ℕ, true, ap, sym, subst, ◌∙◌, arith}
use Rattle.st_limits.specs.Cache.{has}
use Rattle.st_links.specs.Arena.{Arena, is_linked}
use Rattle.st_cachemap.specs.Sound.{used}
use Rattle.st_cachemap.proofs.Keeps.{used_linked, free_after, length-without}
use Rattle.st_cachemap.proofs.Calls.{in_use, release_done}
use Rattle.st_cachemap.proofs.cache_map.CacheMap.release.Goals as goal

pub unlink-requires : goal.unlink-requires
unlink-requires c = record { linked = (used_linked c.self.invariant c.args.place (in_use c.self.invariant c.self.view_is c.args.place true c.requires)).1 }

pub unlink-requires-2 : goal.unlink-requires-2
unlink-requires-2 c = record { linked = (used_linked c.self.invariant c.args.place (in_use c.self.invariant c.self.view_is c.args.place true c.requires)).0 }

pub push_back-requires-clause-place : goal.push_back-requires-clause-place
push_back-requires-clause-place c =
    subst (λ (k : ℕ). c.args.place < k) (sym (ap (λ (a : Arena). a.places) c.unlink-2.ensures.lists))
    (c.self.invariant.order_arena.within 0 c.args.place (in_use c.self.invariant c.self.view_is c.args.place true c.requires))

pub push_back-requires-clause-free : goal.push_back-requires-clause-free
push_back-requires-clause-free c =
    ap (λ (a : Arena). is_linked a.lists c.args.place) c.unlink-2.ensures.lists ∙ free_after c.self.inside.order.lists c.args.place

fewer : (c : goal.After-self-1) → (c.self.inside.len - 1) + 1 ≡ c.self.inside.len
fewer c =
    let t : has c.args.place (used c.self.inside.order) ≡ true = in_use c.self.invariant c.self.view_is c.args.place true c.requires in
    omega (arith, length-without c.args.place (used c.self.inside.order) (c.self.invariant.order_arena.once 0) t, c.self.invariant.counted)

pub invariant_of-self : goal.invariant_of-self
invariant_of-self c = (release_done c.self.invariant c.self.view_is c.args.place c.requires _ _ _ _ c.unlink-2.ensures.lists c.push_back.ensures.lists c.push_back.ensures.valid c.unlink.ensures.lists c.unlink.ensures.valid (fewer c)).0

pub returns : goal.returns
returns c = (release_done c.self.invariant c.self.view_is c.args.place c.requires _ _ _ _ c.unlink-2.ensures.lists c.push_back.ensures.lists c.push_back.ensures.valid c.unlink.ensures.lists c.unlink.ensures.valid (fewer c)).1
