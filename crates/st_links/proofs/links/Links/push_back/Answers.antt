use Rattle.std.proofs.Common.{◌<◌, ℕ, ◌+◌, get_or, length, ◌≡◌, sym, subst}
use Rattle.st_links.proofs.Ties.{IsArena-from}
use Rattle.st_links.proofs.Calls.{within_sentinel, behind_last, back_done, seen_tied, read_at}
use Rattle.st_links.proofs.links.Links.push_back.Goals as goal

pub put_behind-requires-clause-before_in : goal.put_behind-requires-clause-before_in
put_behind-requires-clause-before_in c =
    let tied = seen_tied c.self.invariant c.self.view_is in
    let within = within_sentinel tied.linked c.args.list (subst (λ (k : ℕ). c.args.list < k) tied.linked.counted c.requires.list) in
    subst (λ (k : ℕ). k < length c.self.inside.next.items) (sym (read_at _ _ _ c.index-last.ensures within.prev_in)) within.before_in

pub put_behind-requires-clause-behind_in : goal.put_behind-requires-clause-behind_in
put_behind-requires-clause-behind_in c =
    let tied = seen_tied c.self.invariant c.self.view_is in
    let below : c.args.list < c.self.inside.lists = subst (λ (k : ℕ). c.args.list < k) tied.linked.counted c.requires.list in
    subst (λ (k : ℕ). get_or c.self.inside.next.items k 0 < length c.self.inside.prev.items) (sym (read_at _ _ _ c.index-last.ensures (within_sentinel tied.linked c.args.list below).prev_in))
    (behind_last tied.linked c.args.list below)

last_at : (c : goal.After-put_behind) → c.index-last.result.now ≡ get_or c.self.inside.prev.items (c.self.inside.places + c.args.list) 0
last_at c =
    let tied = seen_tied c.self.invariant c.self.view_is in
    let below : c.args.list < c.self.inside.lists = subst (λ (k : ℕ). c.args.list < k) tied.linked.counted c.requires.list in
    read_at _ _ _ c.index-last.ensures (within_sentinel tied.linked c.args.list below).prev_in

pub invariant_of-self : goal.invariant_of-self
invariant_of-self c =
    (back_done c.self.invariant c.self.view_is c.args.place c.args.list c.requires.list c.requires.place c.requires.free _ (last_at c) _ _ c.put_behind.ensures.next c.put_behind.ensures.prev).closed

pub returns : goal.returns
returns c = record {
  lists =
      (back_done c.self.invariant c.self.view_is c.args.place c.args.list c.requires.list c.requires.place c.requires.free _ (last_at c) _ _ c.put_behind.ensures.next c.put_behind.ensures.prev).seen;
  valid = IsArena-from (back_done c.self.invariant c.self.view_is c.args.place c.args.list c.requires.list c.requires.place c.requires.free _ (last_at c) _ _ c.put_behind.ensures.next c.put_behind.ensures.prev).closed;
}
