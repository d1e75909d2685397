use Rattle.std.proofs.Common.{◌<◌, ℕ, ◌+◌, get_or, length, ◌≡◌, sym, subst, ap, arith}
use Rattle.st_links.proofs.Ties.{IsArena-from}
use Rattle.st_links.proofs.Calls.{within_place, half_done, fronted_done, seen_tied, read_at}
use Rattle.st_links.proofs.links.Links.move_front.Goals as goal

pub take_out-requires-clause-next_in : goal.take_out-requires-clause-next_in
take_out-requires-clause-next_in c = (within_place (seen_tied c.self.invariant c.self.view_is) _ c.requires.linked).next_in

pub take_out-requires-clause-prev_in : goal.take_out-requires-clause-prev_in
take_out-requires-clause-prev_in c = (within_place (seen_tied c.self.invariant c.self.view_is) _ c.requires.linked).prev_in

pub take_out-requires-clause-before_in : goal.take_out-requires-clause-before_in
take_out-requires-clause-before_in c = (within_place (seen_tied c.self.invariant c.self.view_is) _ c.requires.linked).before_in

pub take_out-requires-clause-behind_in : goal.take_out-requires-clause-behind_in
take_out-requires-clause-behind_in c = (within_place (seen_tied c.self.invariant c.self.view_is) _ c.requires.linked).behind_in

pub index-requires : goal.index-requires
index-requires c =
    subst (λ (k : ℕ). c.args.place < k) (sym c.self.inside.home.ok.0)
    (within_place (seen_tied c.self.invariant c.self.view_is) _ c.requires.linked).home_in

pub overflow_add-sentinel : goal.overflow_add-sentinel
overflow_add-sentinel c =
    let half = half_done c.self.invariant c.self.view_is _ c.requires.linked _ _ c.take_out.ensures.next c.take_out.ensures.prev in
    let home = read_at _ _ _ c.index.ensures (within_place (seen_tied c.self.invariant c.self.view_is) _ c.requires.linked).home_in in
    let tied = seen_tied c.self.invariant c.self.view_is in
    let long : c.self.inside.places + c.self.inside.lists ≡ length c.self.inside.home.items = tied.linked.long_home in
    let below : c.index.result.now < c.self.inside.lists = subst (λ (k : ℕ). k < c.self.inside.lists) (sym home) half.0 in
    omega (arith, c.self.inside.home.ok.0)

pub put_behind-requires-clause-next_in : goal.put_behind-requires-clause-next_in
put_behind-requires-clause-next_in c = (half_done c.self.invariant c.self.view_is _ c.requires.linked _ _ c.take_out.ensures.next c.take_out.ensures.prev).2

pub put_behind-requires-clause-prev_in : goal.put_behind-requires-clause-prev_in
put_behind-requires-clause-prev_in c = (half_done c.self.invariant c.self.view_is _ c.requires.linked _ _ c.take_out.ensures.next c.take_out.ensures.prev).3

pub put_behind-requires-clause-before_in : goal.put_behind-requires-clause-before_in
put_behind-requires-clause-before_in c =
    let home = read_at _ _ _ c.index.ensures (within_place (seen_tied c.self.invariant c.self.view_is) _ c.requires.linked).home_in in
    subst (λ (k : ℕ). c.self.inside.places + k < length c.take_out.new.next.items) (sym home)
    (half_done c.self.invariant c.self.view_is _ c.requires.linked _ _ c.take_out.ensures.next c.take_out.ensures.prev).1.next_in

pub put_behind-requires-clause-behind_in : goal.put_behind-requires-clause-behind_in
put_behind-requires-clause-behind_in c =
    let home = read_at _ _ _ c.index.ensures (within_place (seen_tied c.self.invariant c.self.view_is) _ c.requires.linked).home_in in
    subst (λ (k : ℕ). get_or c.take_out.new.next.items (c.self.inside.places + k) 0 < length c.take_out.new.prev.items) (sym home)
    (half_done c.self.invariant c.self.view_is _ c.requires.linked _ _ c.take_out.ensures.next c.take_out.ensures.prev).1.behind_in

pub invariant_of-self : goal.invariant_of-self
invariant_of-self c =
    (fronted_done c.self.invariant c.self.view_is _ c.requires.linked _ _ _ _ c.take_out.ensures.next c.take_out.ensures.prev _ (ap (λ (k : ℕ). c.self.inside.places + k) (read_at _ _ _ c.index.ensures (within_place (seen_tied c.self.invariant c.self.view_is) _ c.requires.linked).home_in)) c.put_behind.ensures.next c.put_behind.ensures.prev).closed

pub returns : goal.returns
returns c = record {
  lists =
      (fronted_done c.self.invariant c.self.view_is _ c.requires.linked _ _ _ _ c.take_out.ensures.next c.take_out.ensures.prev _ (ap (λ (k : ℕ). c.self.inside.places + k) (read_at _ _ _ c.index.ensures (within_place (seen_tied c.self.invariant c.self.view_is) _ c.requires.linked).home_in)) c.put_behind.ensures.next c.put_behind.ensures.prev).seen;
  valid = IsArena-from (fronted_done c.self.invariant c.self.view_is _ c.requires.linked _ _ _ _ c.take_out.ensures.next c.take_out.ensures.prev _ (ap (λ (k : ℕ). c.self.inside.places + k) (read_at _ _ _ c.index.ensures (within_place (seen_tied c.self.invariant c.self.view_is) _ c.requires.linked).home_in)) c.put_behind.ensures.next c.put_behind.ensures.prev).closed;
}
