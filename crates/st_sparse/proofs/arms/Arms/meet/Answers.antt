use Rattle.std.proofs.Common.{◌≡◌, ◌<◌, ◌&&◌, ◌||◌, List, length, get_or, slice_set, sym, ap, ◌∙◌, add-one, arith}
use Rattle.st_sparse.specs.Arms.{after_call, is_due, stops}
use Rattle.st_sparse.specs.declared.arms.Arm.{Arm}
use Rattle.st_sparse.proofs.Prefix.{any_more, map_next, map_more}
use Rattle.st_sparse.proofs.arms.Arms.meet.Goals as goal

pub loop-i-preserved : goal.loop-i-preserved
loop-i-preserved c =
    let l = c.args.self.now.list.items in
    let k = c.loop-i.i in
    let d = c.index_mut.result.now in
    let due = is_due c.args.kind c.args.sector c.args.sectors in
    let after = after_call c.args.kind c.args.sector c.args.sectors in
    let lt : k < length l = omega (arith, c.loop-i-test.true, c.len-i-end.ensures) in
    let was : d ≡ get_or l k d = c.index_mut.ensures.value ∙ ap (λ (x : List Arm). get_or x k d) c.loop-i.invariant.each ∙ map_next after l k d lt in
    rw add-one (record {
      each = ap (λ (x : List Arm). slice_set x k c.meet.new.self) c.loop-i.invariant.each ∙ map_more after l k c.meet.new.self d lt (c.meet.ensures.after ∙ ap after was);
      fires = c.meet.ensures.fires ∙ (λ i. c.loop-i.invariant.fires i || due (was i)) ∙ sym (any_more due c.args.self.now.stopped l k d lt);
      stops = c.meet.ensures.stops ∙ (λ i. c.loop-i.invariant.stops i || (due (was i) && stops (was i))) ∙ sym (any_more (λ a. due a && stops a) c.args.self.now.stopped l k d lt);
    })
