use Rattle.std.proofs.Common.{◌<◌, ℕ, ◌∙◌, sym, ap, subst, refl}
use Rattle.st_links.proofs.Calls.{read_at}
use Rattle.st_cachemap.specs.Cached.{Cached}
use Rattle.st_cachemap.specs.Sound.{entries_at, used}
use Rattle.st_cachemap.proofs.Keeps.{used_within}
use Rattle.st_cachemap.proofs.Touches.{last_none, last_some, listed, popped}
use Rattle.st_cachemap.proofs.cache_map.CacheMap.pop_last.Goals as goal

pub index-cell-requires : goal.index-cell-requires
index-cell-requires c =
    subst (λ (k : ℕ). c.in-Some.place < k) (sym c.self.inside.cells.ok.0)
    (used_within c.self.invariant c.in-Some.place (last_some c.in-Some.place (used c.self.inside.order) (c.self.invariant.order_arena.once 0) (sym c.last.ensures ∙ c.in-Some.is)).0)

pub release-requires : goal.release-requires
release-requires c =
    listed c.self.invariant c.self.view_is c.in-Some.place
    (last_some c.in-Some.place (used c.self.inside.order) (c.self.invariant.order_arena.once 0) (sym c.last.ensures ∙ c.in-Some.is)).0

pub returns-in-None : goal.returns-in-None
returns-in-None c = (
  sym (ap (λ (v : Cached). v.entries) c.self.view_is) ∙ ap (entries_at c.self.inside.cells.items) (last_none (used c.self.inside.order) (sym c.last.ensures ∙ c.in-None.is)),
  refl,
)

pub returns-in-Some : goal.returns-in-Some
returns-in-Some c =
    let last = sym c.last.ensures ∙ c.in-Some.is in
    let within = used_within c.self.invariant c.in-Some.place (last_some c.in-Some.place (used c.self.inside.order) (c.self.invariant.order_arena.once 0) last).0 in
    popped c.self.invariant c.self.view_is c.in-Some.place c.index-cell.result.now last (read_at _ _ _ c.index-cell.ensures within) c.release.new.self c.release.ensures
