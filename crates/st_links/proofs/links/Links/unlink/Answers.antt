use Rattle.std.proofs.Common.{◌<◌, ℕ, sym, subst}
use Rattle.st_links.proofs.Ties.{IsArena-from}
use Rattle.st_links.proofs.Calls.{within_place, seen_tied, unlink_done}
use Rattle.st_links.proofs.links.Links.unlink.Goals as goal

pub take_out-requires-clause-next_in : goal.take_out-requires-clause-next_in
take_out-requires-clause-next_in c = (within_place (seen_tied c.self.invariant c.self.view_is) _ c.requires.linked).next_in

pub take_out-requires-clause-prev_in : goal.take_out-requires-clause-prev_in
take_out-requires-clause-prev_in c = (within_place (seen_tied c.self.invariant c.self.view_is) _ c.requires.linked).prev_in

pub take_out-requires-clause-before_in : goal.take_out-requires-clause-before_in
take_out-requires-clause-before_in c = (within_place (seen_tied c.self.invariant c.self.view_is) _ c.requires.linked).before_in

pub take_out-requires-clause-behind_in : goal.take_out-requires-clause-behind_in
take_out-requires-clause-behind_in c = (within_place (seen_tied c.self.invariant c.self.view_is) _ c.requires.linked).behind_in

pub index_mut-requires : goal.index_mut-requires
index_mut-requires c =
    subst (λ (k : ℕ). c.args.place < k) (sym c.self.inside.home.ok.0)
    (within_place (seen_tied c.self.invariant c.self.view_is) _ c.requires.linked).home_in

pub invariant_of-self : goal.invariant_of-self
invariant_of-self c = (unlink_done c.self.invariant c.self.view_is _ c.requires.linked _ _ c.take_out.ensures.next c.take_out.ensures.prev).closed

pub returns : goal.returns
returns c = record {
  lists = (unlink_done c.self.invariant c.self.view_is _ c.requires.linked _ _ c.take_out.ensures.next c.take_out.ensures.prev).seen;
  valid = IsArena-from (unlink_done c.self.invariant c.self.view_is _ c.requires.linked _ _ c.take_out.ensures.next c.take_out.ensures.prev).closed;
}
