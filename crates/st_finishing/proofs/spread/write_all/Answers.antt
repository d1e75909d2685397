use Rattle.std.proofs.Common.{ℕ, List, refl, ◌∙◌, subst, arith}
use Rattle.std.proofs.lemmas.Option.{slice_get_within}
use Rattle.st_rack.specs.Moments.{Keeps, OnDevice}
use Rattle.st_finishing.specs.inner.Writing.{IsWritten, LeavesWrite}
use Rattle.st_finishing.proofs.Rounds.{still_untouched, writes_more, writes_none, written_more}
use Rattle.st_finishing.proofs.spread.write_all.Goals as goal

pub loop-i-init : goal.loop-i-init
loop-i-init g c = record {
  devs = refl;
  reads = refl;
  spare = refl;
  faults = omega arith;
  room = c.requires.room;
  during = writes_none g.R.Rack.moment g.R.Rack.state_at c.args.row.now.generation c.args.row.now.rec c.args.row.now.devs c.args.rack.now;
  done = λ j d lt there. absurd (omega arith);
  untouched = λ j d le there. refl;
}

pub returns-in_err-write_on-clause-during : goal.returns-in_err-write_on-clause-during
returns-in_err-write_on-clause-during g c =
    let M = g.R.Rack.moment in
    let S = g.R.Rack.state_at in
    let row = c.args.row.now in
    let r1 = c.loop-i.rack in
    let r2 = c.write_on.new.rack in
    let dev = c.at.result.now in
    let step : Keeps M S (OnDevice dev (LeavesWrite row.generation row.rec) (S r1 (M r1))) r1 r2 =
    subst (λ (b : List ℕ). Keeps M S (OnDevice dev (LeavesWrite row.generation b) (S r1 (M r1))) r1 r2) c.items-rec.ensures c.write_on.ensures.during in
    writes_more M S row.generation row.rec row.devs c.args.rack.now r1 r2 c.loop-i.i dev c.at.ensures c.loop-i.invariant.during c.loop-i.invariant.untouched step

pub loop-i-preserved : goal.loop-i-preserved
loop-i-preserved g c =
    let M = g.R.Rack.moment in
    let S = g.R.Rack.state_at in
    let row = c.args.row.now in
    let r0 = c.args.rack.now in
    let r1 = c.loop-i.rack in
    let r2 = c.write_on.new.rack in
    let inv = c.loop-i.invariant in
    let dev = c.at.result.now in
    let step : Keeps M S (OnDevice dev (LeavesWrite row.generation row.rec) (S r1 (M r1))) r1 r2 =
    subst (λ (b : List ℕ). Keeps M S (OnDevice dev (LeavesWrite row.generation b) (S r1 (M r1))) r1 r2) c.items-rec.ensures c.write_on.ensures.during in
    let one : IsWritten row.generation row.rec (S r1 (M r1) dev) (S r2 (M r2) dev) =
    subst (λ (b : List ℕ). IsWritten row.generation b (S r1 (M r1) dev) (S r2 (M r2) dev)) c.items-rec.ensures c.in_ok-write_on.ensures.done in
    record {
      devs = c.write_on.ensures.devs ∙ inv.devs;
      reads = c.write_on.ensures.reads ∙ inv.reads;
      spare = c.write_on.ensures.spare ∙ inv.spare;
      faults = omega (arith, inv.faults, c.write_on.ensures.cause.later);
      room = c.write_on.ensures.work ∙ inv.room;
      during = writes_more M S row.generation row.rec row.devs r0 r1 r2 c.loop-i.i dev c.at.ensures inv.during inv.untouched step;
      done = written_more M S row.generation row.rec row.devs r0 r1 r2 c.loop-i.i dev c.at.ensures inv.during inv.untouched step c.requires.distinct one inv.done;
      untouched = still_untouched M S row.generation row.rec row.devs r0 r1 r2 c.loop-i.i dev c.at.ensures inv.during inv.untouched step c.requires.distinct;
    }

pub returns-clause-done : goal.returns-clause-done
returns-clause-done g c = (λ d of. (let lt = slice_get_within c.args.row.now.devs of.index d of.is in c.loop-i.invariant.done of.index d (omega arith) of.is))
