use Rattle.std.proofs.Common.{ℕ, ◌<◌, length, sym, subst}
use Rattle.st_lock.proofs.Sent.{lock_sync}
use Rattle.test_lock.specs.declared.ending.Side.{Side}
use Rattle.test_lock.specs.Ending.{IsEnded, IsReady}
use Rattle.test_lock.proofs.Sides.{side_send}
use Rattle.test_lock.proofs.ending.end_apart.Goals as goal
use denote.Param.Send.{sendable}

pub for_each_mut-requires-send-T : goal.for_each_mut-requires-send-T
for_each_mut-requires-send-T g c κs within = search (sendable, side_send)

-- what the closure holds: references to the handle and the lock
pub for_each_mut-requires-sync-F : goal.for_each_mut-requires-sync-F
for_each_mut-requires-sync-F g c κs within =
    let b = c.type_bounds in
    let l = lock_sync _ _ _ _ g.C.Cell g.C.Named g.C.Info.Named g.T.Board b.send-C b.send-T b.send-C-Info b.sync-C-Info b.send-T-Info b.sync-T-Info in
    record {
      shared = λ x m o κ. (
        (
          ((λ q. tt), b.sync-R.shared x.0.now x.0.ref_ptr.0 x.0.ref_ptr.1 _),
          (((λ q. tt), l.shared x.1.now x.1.ref_ptr.0 x.1.ref_ptr.1 _), tt),
        ),
        λ q. tt,
      );
    }

pub for_each_mut-requires-clause-accepts : goal.for_each_mut-requires-clause-accepts
for_each_mut-requires-clause-accepts g c = λ κs within i p lt e.
    let ready = λ (x : Side g.row.C.Denot g.row.T.Denot g.row.C-Info.Denot g.row.T-Info.Denot).
    IsReady g.C.Cell.state g.T.Board.stands g.T.Board.slack g.C.Cell.fault_count g.T.Board.fault_count g.C.Cell.is_kept g.T.Board.is_kept c.args.lock.now x.seat x.work in
    (subst ready (sym e) (c.requires.ready i p.now lt), (search sendable, search sendable, search sendable, search sendable, search sendable, search sendable, search sendable))

pub returns : goal.returns
returns g c = record {
  ended = λ k d lt.
      let small : k < length c.args.sides.now = subst (λ (n : ℕ). k < n) c.for_each_mut.auto.s lt in
      let one = (c.for_each_mut.ensures k d small).1 in
      subst (λ (x : Side g.row.C.Denot g.row.T.Denot g.row.C-Info.Denot g.row.T-Info.Denot). IsEnded c.args.lock.now x.seat x.work) one.left one.call;
}
