use Rattle.std.proofs.Common.{◌≡◌, ◌≢◌, ℕ, inl, inr, Some, refl, sym, ◌∙◌, ap, subst, arith}
use Rattle.std.specs.List.{slice_get}
use Rattle.std.proofs.lemmas.Bool.{cases_lt}
use Rattle.std.proofs.lemmas.Option.{slice_get_within}
use Rattle.st_rack.specs.Device.{Path}
use Rattle.st_rack.specs.Calls.{Devices, Has}
use Rattle.st_rack.proofs.Moments.{at_end}
use Rattle.st_deltalog.specs.Bearing.{IsSettled}
use Rattle.st_commit.specs.Ready.{Settles}
use Rattle.st_commit.proofs.Onward.{onward, last, settles, stays_settled, settles_self, settles_still}
use Rattle.st_commit.proofs.settle.sync_all.Goals as goal

some_inj : (a b : Path) → Some a ≡ Some b → a ≡ b
some_inj a b e = cc

pub loop-i-init : goal.loop-i-init
loop-i-init g c = record {
  devs = refl;
  reads = refl;
  spare = refl;
  faults = omega arith;
  time = settles_still g.R.Rack.moment g.R.Rack.state_at (c.args.rack.now);
  settled = λ j d lt there. absurd (omega arith);
  untouched = λ j d le there. refl;
}

pub sync-requires : goal.sync-requires
sync-requires g c = subst (λ (x : Devices). (n : ℕ) × Has x c.at.result.now n) (sym c.loop-i.invariant.devs) (c.requires.there c.at.result.now (record { index = c.loop-i.i; is = c.at.ensures }))

pub returns-in_err-sync-clause-time : goal.returns-in_err-sync-clause-time
returns-in_err-sync-clause-time g c =
    onward g.R.Rack.moment g.R.Rack.state_at c.at.result.now c.args.rack.now c.loop-i.rack c.sync.new.self c.loop-i.invariant.time (c.loop-i.invariant.untouched c.loop-i.i c.at.result.now (omega arith) c.at.ensures) c.sync.ensures.time

pub returns-in_err-sync-clause-holds : goal.returns-in_err-sync-clause-holds
returns-in_err-sync-clause-holds g c =
    let M = g.R.Rack.moment in
    let S = g.R.Rack.state_at in
    let old = c.args.rack.now in
    let time = onward M S c.at.result.now old c.loop-i.rack c.sync.new.self c.loop-i.invariant.time (c.loop-i.invariant.untouched c.loop-i.i c.at.result.now (omega arith) c.at.ensures) c.sync.ensures.time in
    λ d. (at_end M S Settles old c.sync.new.self (settles_self (S old (M old))) time d).same

pub loop-i-preserved : goal.loop-i-preserved
loop-i-preserved g c =
    let M = g.R.Rack.moment in
    let S = g.R.Rack.state_at in
    let dev = c.at.result.now in
    let old = c.args.rack.now in
    let r1 = c.loop-i.rack in
    let r2 = c.sync.new.self in
    let step = last M S dev r1 r2 c.sync.ensures.time in
    let synced = c.in_ok-sync.ensures.synced in
    record {
      devs = c.sync.ensures.devs ∙ c.loop-i.invariant.devs;
      reads = c.sync.ensures.reads ∙ c.loop-i.invariant.reads;
      spare = c.sync.ensures.spare ∙ c.loop-i.invariant.spare;
      faults = omega (arith, c.loop-i.invariant.faults, c.sync.ensures.cause.later);
      time = onward M S dev old r1 r2 c.loop-i.invariant.time (c.loop-i.invariant.untouched c.loop-i.i dev (omega arith) c.at.ensures) c.sync.ensures.time;
      settled = λ j d lt there. elim (cases_lt j c.loop-i.i) [
        | inl below ↦ stays_settled M S dev r1 r2 step synced d (c.loop-i.invariant.settled j d below there)
        | inr from ↦
            let here : c.loop-i.i ≡ j = omega (arith, lt, from) in
            let e : dev ≡ d = some_inj dev d (sym c.at.ensures ∙ ap (slice_get c.args.devs.now) here ∙ there) in
            subst (λ (q : Path). IsSettled (S r2 (M r2) q)) e (settles M S dev r1 r2 synced)
      ];
      untouched = λ j d le there.
          let ne : d ≢ dev = (λ e. (let same : j ≡ c.loop-i.i = c.requires.distinct j c.loop-i.i d there (c.at.ensures ∙ ap (λ (q : Path). Some q) (sym e)) in absurd (omega (arith, le, same)))) in
          step.others d ne ∙ c.loop-i.invariant.untouched j d (omega (arith, le)) there;
    }

pub returns-clause-done : goal.returns-clause-done
returns-clause-done g c = (λ d of. (let lt = slice_get_within c.args.devs.now of.index d of.is in c.loop-i.invariant.settled of.index d (omega arith) of.is))

pub returns-clause-holds : goal.returns-clause-holds
returns-clause-holds g c =
    let M = g.R.Rack.moment in
    let S = g.R.Rack.state_at in
    let old = c.args.rack.now in
    λ d. (at_end M S Settles old c.loop-i.rack (settles_self (S old (M old))) c.loop-i.invariant.time d).same
