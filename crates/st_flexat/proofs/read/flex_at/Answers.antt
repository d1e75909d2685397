use Rattle.std.proofs.Common.{◌≡◌, Some, Result, Ok, Err, IfOk, sym, ◌∙◌, ap, subst}
use Rattle.st_rack.specs.Story.{Content}
use Rattle.st_deltalog.specs.Log.{begun_in}
use Rattle.st_deltalog.specs.Finding.{begun_of, log_of}
use Rattle.st_flexat.specs.FlexAt.{IsFlexAt}
use Rattle.st_flexat.specs.inner.Following.{IsFollowed}
use Rattle.st_flexat.proofs.Followed.{nothing_at, found_at}
use Rattle.st_flexat.proofs.read.flex_at.Goals as goal

if_ok : {A E : Type 0} (r : Result A E) (P Q : A → Type 0) → ((x : A) → P x → Q x) → IfOk r P → IfOk r Q
if_ok (Ok x) P Q f h = f x h
if_ok (Err e) P Q f h = h

pub returns-in-None-clause-found : goal.returns-in-None-clause-found
returns-in-None-clause-found g c =
    let f = (g.R.Rack.state_at c.args.rack.now (g.R.Rack.moment c.args.rack.now) c.args.dev.now).holds in
    nothing_at c.args.flex.now c.args.serial c.args.generation f (ap begun_of (sym c.in-None.is) ∙ c.in_ok-begun_at.ensures.found)

pub returns-in-Some-clause-found : goal.returns-in-Some-clause-found
returns-in-Some-clause-found g c =
    let M = g.R.Rack.moment in
    let S = g.R.Rack.state_at in
    let flex = c.args.flex.now in
    let dev = c.args.dev.now in
    let r1 = c.begun_at.new.rack in
    let f = (S c.args.rack.now (M c.args.rack.now) dev).holds in
    let begun = c.in-Some.begun in
    let still : (S r1 (M r1) dev).holds ≡ f = (λ i. (c.begun_at.ensures.same.states i (c.begun_at.ensures.same.clock i) dev).holds) in
    let begins : Some (log_of begun) ≡ begun_in flex c.args.serial c.args.generation f = ap begun_of (sym c.in-Some.is) ∙ c.in_ok-begun_at.ensures.found in
    if_ok c.follow_log.result (IsFollowed flex begun c.args.generation (S r1 (M r1) dev).holds) (IsFlexAt flex c.args.serial c.args.generation f)
    (λ found is. found_at flex c.args.serial c.args.generation f begun found begins (subst (λ (k : Content). IsFollowed flex begun c.args.generation k found) still is)) c.follow_log.ensures.found
