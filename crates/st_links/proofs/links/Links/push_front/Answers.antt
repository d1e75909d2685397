use Rattle.std.proofs.Common.{◌<◌, ℕ, subst}
use Rattle.st_links.proofs.Ties.{IsArena-from}
use Rattle.st_links.proofs.Calls.{within_sentinel, front_done, seen_tied}
use Rattle.st_links.proofs.links.Links.push_front.Goals as goal

pub put_behind-requires-clause-behind_in : goal.put_behind-requires-clause-behind_in
put_behind-requires-clause-behind_in c =
    let tied = seen_tied c.self.invariant c.self.view_is in
    (within_sentinel tied.linked c.args.list (subst (λ (k : ℕ). c.args.list < k) tied.linked.counted c.requires.list)).behind_in

pub invariant_of-self : goal.invariant_of-self
invariant_of-self c =
    (front_done c.self.invariant c.self.view_is c.args.place c.args.list c.requires.list c.requires.place c.requires.free _ _ c.put_behind.ensures.next c.put_behind.ensures.prev).closed

pub returns : goal.returns
returns c = record {
  lists =
      (front_done c.self.invariant c.self.view_is c.args.place c.args.list c.requires.list c.requires.place c.requires.free _ _ c.put_behind.ensures.next c.put_behind.ensures.prev).seen;
  valid = IsArena-from (front_done c.self.invariant c.self.view_is c.args.place c.args.list c.requires.list c.requires.place c.requires.free _ _ c.put_behind.ensures.next c.put_behind.ensures.prev).closed;
}
