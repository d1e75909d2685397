use Rattle.std.proofs.Common.{◌≡◌, Some, sym, ◌∙◌, ap, subst, arith}
use Rattle.std.specs.List.{slice_get}
use Rattle.st_model.specs.declared.state.PoolState.{PoolState}
use Rattle.st_model.specs.Parts.{table_of}
use Rattle.st_tabling.proofs.First.{first, may_place, pool_of_row, stands_more}
use Rattle.st_tabling.proofs.placing.table_for.Goals as goal

pub put_row-requires : goal.put_row-requires
put_row-requires c =
    let e = c.requires.0 in let tells = c.requires.1 in let rows = c.args.rows.now in let pools = c.args.pools.now in
    let q = pool_of_row e rows pools c.args.next tells c.loop-i.i c.at.result.now c.at.ensures in
    (first c.loop-i.i e, q.0, may_place e rows pools c.args.next tells c.loop-i.i c.at.result.now c.loop-i.table q.0 q.1 q.2 (c.loop-i.invariant.stands e tells))

pub loop-i-preserved : goal.loop-i-preserved
loop-i-preserved c = record {
  stands = λ e tells. (
      let rows = c.args.rows.now in let pools = c.args.pools.now in
      let q = pool_of_row e rows pools c.args.next tells c.loop-i.i c.at.result.now c.at.ensures in
      stands_more e rows pools c.args.next tells c.loop-i.i c.put_row.new.table q.0 q.1
      (c.in_ok-put_row.ensures (first c.loop-i.i e) q.0 (may_place e rows pools c.args.next tells c.loop-i.i c.at.result.now c.loop-i.table q.0 q.1 q.2 (c.loop-i.invariant.stands e tells))));
}
