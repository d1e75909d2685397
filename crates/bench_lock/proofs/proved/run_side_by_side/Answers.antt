use Rattle.std.proofs.alloc.Global.TheSendSync as heap
use Rattle.st_lock.proofs.Sent.{seat_send, lock_sync}
use Rattle.bench_lock.proofs.pace.Shape.TheSendSync as shape
use Rattle.bench_lock.proofs.proved.run_side_by_side.Goals as goal
use denote.Param.Send.{sendable}

pub for_each_mut-requires-send-T : goal.for_each_mut-requires-send-T
for_each_mut-requires-send-T g c κs within = search (sendable, seat_send)

-- what the closure holds: references to the handle, the allocator, the lock and the shape
pub for_each_mut-requires-sync-F : goal.for_each_mut-requires-sync-F
for_each_mut-requires-sync-F g c κs within =
    let b = c.type_bounds in
    let l = lock_sync _ _ _ _ g.C.Cell g.C.Named g.C.Info.Named g.T.Board b.send-C b.send-T b.send-C-Info b.sync-C-Info b.send-T-Info b.sync-T-Info in
    record {
      shared = λ x m o κ. (
        (
          ((λ q. tt), b.sync-R.shared x.0.now x.0.ref_ptr.0 x.0.ref_ptr.1 _),
          (
            ((λ q. tt), heap.the_sync.shared x.1.now x.1.ref_ptr.0 x.1.ref_ptr.1 κ),
            (
              ((λ q. tt), l.shared x.2.now x.2.ref_ptr.0 x.2.ref_ptr.1 _),
              (((λ q. tt), shape.the_sync.shared x.3.now x.3.ref_ptr.0 x.3.ref_ptr.1 κ), tt),
            ),
          ),
        ),
        λ q. tt,
      );
    }
