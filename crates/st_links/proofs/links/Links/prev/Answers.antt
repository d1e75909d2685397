use Rattle.std.proofs.Common.{◌∙◌, ◌<◌, ℕ, ap, sym, subst}
use Rattle.st_links.specs.Ring.{as_place}
use Rattle.st_links.proofs.Neighbours.{prev_read, prev_of_none}
use Rattle.st_links.proofs.Calls.{seen_tied, read_at, within_place}
use Rattle.st_links.proofs.links.Links.prev.Goals as goal

pub returns-then-not-is_linked : goal.returns-then-not-is_linked
returns-then-not-is_linked c = sym (prev_of_none c.args.self.now.lists c.args.place (sym c.is_linked.ensures ∙ c.if-not-is_linked.true))

pub index-requires : goal.index-requires
index-requires c =
    subst (λ (k : ℕ). c.args.place < k) (sym c.self.inside.prev.ok.0)
    (within_place (seen_tied c.self.invariant c.self.view_is) _ (sym c.is_linked.ensures ∙ c.if-not-is_linked.false)).prev_in

pub returns : goal.returns
returns c =
    let tied = seen_tied c.self.invariant c.self.view_is in
    let h = sym c.is_linked.ensures ∙ c.if-not-is_linked.false in
    let read = read_at _ _ _ c.index.ensures (within_place tied _ h).prev_in in
    c.place_of.ensures ∙ ap (as_place c.self.inside.places) read ∙ prev_read tied c.args.place h
