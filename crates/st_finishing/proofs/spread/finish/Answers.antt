use Rattle.std.proofs.Common.{refl, sym, ◌∙◌, subst, arith}
use Rattle.std.proofs.lemmas.Option.{slice_get_within}
use Rattle.st_rack.specs.Calls.{Devices}
use Rattle.st_rack.proofs.Moments.{keeps_weak}
use Rattle.st_slots.specs.Places.{Lies}
use Rattle.st_image.specs.Looks.{pool_area}
use Rattle.st_finishing.specs.Finishing.{LeavesStill, StoriesGrow}
use Rattle.st_finishing.specs.inner.Writing.{WritesRows}
use Rattle.st_finishing.proofs.Finished.{found_still, leaves_still, rows_done, rows_grow, rows_more, rows_none, rows_untouched}
use Rattle.st_finishing.proofs.Told.{distinct, first, fits, is_gone, last, lies, named_once}
use Rattle.st_finishing.proofs.spread.finish.Goals as goal

pub loop-i-init : goal.loop-i-init
loop-i-init g c = record {
  devs = refl;
  reads = refl;
  spare = refl;
  faults = omega arith;
  during = rows_none g.R.Rack.moment g.R.Rack.state_at c.args.gone.now c.args.rack.now;
  done = λ j row lt at d of. absurd (omega arith);
  untouched = λ j row le at d of. refl;
}

pub finish_pool-requires-clause-distinct : goal.finish_pool-requires-clause-distinct
finish_pool-requires-clause-distinct g c = distinct _ _ c.devices.ensures.rises c.at.result.now (is_gone _ _ c.devices.ensures.rises c.args.gone.now c.requires c.loop-i.i c.at.result.now c.at.ensures)

pub finish_pool-requires-clause-lie : goal.finish_pool-requires-clause-lie
finish_pool-requires-clause-lie g c d of =
    subst (λ (ds : Devices). Lies ds d pool_area) (sym c.loop-i.invariant.devs) (lies _ _ c.devices.ensures.rises c.at.result.now (is_gone _ _ c.devices.ensures.rises c.args.gone.now c.requires c.loop-i.i c.at.result.now c.at.ensures) d of)

pub finish_pool-requires-clause-first : goal.finish_pool-requires-clause-first
finish_pool-requires-clause-first g c = first _ _ c.devices.ensures.rises c.at.result.now (is_gone _ _ c.devices.ensures.rises c.args.gone.now c.requires c.loop-i.i c.at.result.now c.at.ensures)

pub finish_pool-requires-clause-last : goal.finish_pool-requires-clause-last
finish_pool-requires-clause-last g c = last _ _ c.devices.ensures.rises c.at.result.now (is_gone _ _ c.devices.ensures.rises c.args.gone.now c.requires c.loop-i.i c.at.result.now c.at.ensures)

pub finish_pool-requires-clause-fits : goal.finish_pool-requires-clause-fits
finish_pool-requires-clause-fits g c = fits _ _ c.devices.ensures.rises c.at.result.now (is_gone _ _ c.devices.ensures.rises c.args.gone.now c.requires c.loop-i.i c.at.result.now c.at.ensures)

pub returns-in_err-finish_pool-clause-during : goal.returns-in_err-finish_pool-clause-during
returns-in_err-finish_pool-clause-during g c e found =
    let M = g.R.Rack.moment in
    let S = g.R.Rack.state_at in
    let r0 = c.args.rack.now in
    let rows = c.args.gone.now in
    keeps_weak M S (WritesRows rows (S r0 (M r0))) (LeavesStill e (g.R.Rack.devs r0)) r0 c.finish_pool.new.rack (λ s writes. leaves_still (g.R.Rack.devs r0) (S r0 (M r0)) rows c.requires e found s writes)
    (rows_more M S rows r0 c.loop-i.rack c.finish_pool.new.rack c.loop-i.i c.at.result.now c.at.ensures c.loop-i.invariant.during c.loop-i.invariant.untouched c.finish_pool.ensures.during)

pub returns-in_err-finish_pool-clause-grows : goal.returns-in_err-finish_pool-clause-grows
returns-in_err-finish_pool-clause-grows g c =
    let M = g.R.Rack.moment in
    let S = g.R.Rack.state_at in
    let r0 = c.args.rack.now in
    let rows = c.args.gone.now in
    keeps_weak M S (WritesRows rows (S r0 (M r0))) (StoriesGrow (S r0 (M r0))) r0 c.finish_pool.new.rack (rows_grow rows (S r0 (M r0)))
    (rows_more M S rows r0 c.loop-i.rack c.finish_pool.new.rack c.loop-i.i c.at.result.now c.at.ensures c.loop-i.invariant.during c.loop-i.invariant.untouched c.finish_pool.ensures.during)

pub loop-i-preserved : goal.loop-i-preserved
loop-i-preserved g c =
    let M = g.R.Rack.moment in
    let S = g.R.Rack.state_at in
    let r0 = c.args.rack.now in
    let r1 = c.loop-i.rack in
    let r2 = c.finish_pool.new.rack in
    let rows = c.args.gone.now in
    let inv = c.loop-i.invariant in
    let once = named_once _ _ c.devices.ensures.rises rows c.requires in
    record {
      devs = c.finish_pool.ensures.devs ∙ inv.devs;
      reads = c.finish_pool.ensures.reads ∙ inv.reads;
      spare = c.finish_pool.ensures.spare ∙ inv.spare;
      faults = omega (arith, inv.faults, c.finish_pool.ensures.faults);
      during = rows_more M S rows r0 r1 r2 c.loop-i.i c.at.result.now c.at.ensures inv.during inv.untouched c.finish_pool.ensures.during;
      done = rows_done M S rows r0 r1 r2 c.loop-i.i c.at.result.now c.at.ensures inv.during inv.untouched c.finish_pool.ensures.during once c.in_ok-finish_pool.ensures.done inv.done;
      untouched = rows_untouched M S rows r0 r1 r2 c.loop-i.i c.at.result.now c.at.ensures inv.during inv.untouched c.finish_pool.ensures.during once;
    }

pub returns-clause-during : goal.returns-clause-during
returns-clause-during g c e found =
    let M = g.R.Rack.moment in
    let S = g.R.Rack.state_at in
    let r0 = c.args.rack.now in
    let rows = c.args.gone.now in
    keeps_weak M S (WritesRows rows (S r0 (M r0))) (LeavesStill e (g.R.Rack.devs r0)) r0 c.loop-i.rack (λ s writes. leaves_still (g.R.Rack.devs r0) (S r0 (M r0)) rows c.requires e found s writes) c.loop-i.invariant.during

pub returns-clause-grows : goal.returns-clause-grows
returns-clause-grows g c =
    let M = g.R.Rack.moment in
    let S = g.R.Rack.state_at in
    let r0 = c.args.rack.now in
    let rows = c.args.gone.now in
    keeps_weak M S (WritesRows rows (S r0 (M r0))) (StoriesGrow (S r0 (M r0))) r0 c.loop-i.rack (rows_grow rows (S r0 (M r0))) c.loop-i.invariant.during

pub returns-clause-done : goal.returns-clause-done
returns-clause-done g c e found =
    let M = g.R.Rack.moment in
    let S = g.R.Rack.state_at in
    let r0 = c.args.rack.now in
    let r1 = c.loop-i.rack in
    let rows = c.args.gone.now in
    let inv = c.loop-i.invariant in
    found_still (g.R.Rack.devs r0) (S r0 (M r0)) rows c.requires e found (S r1 (M r1)) (inv.during.all (M r1) inv.during.later (omega arith))
    (λ j row at. (let lt = slice_get_within rows j row at in inv.done j row (omega arith) at))
