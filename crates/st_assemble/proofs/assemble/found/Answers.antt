use Rattle.std.proofs.Common.{◌≡◌, ℕ, ◌+◌, ◌≤◌, map, Some, Result, Err, refl, sym, ◌∙◌, ap, subst, arith}
use Rattle.st_rack.specs.Device.{Image, held}
use Rattle.st_rack.specs.Calls.{Devices}
use Rattle.st_image.specs.Rack.{IsSerial, IsForeign}
use Rattle.st_looks.specs.Serials.{IsNextOf}
use Rattle.st_assemble.specs.declared.fault.FoundFault.{FoundFault}
use Rattle.st_assemble.specs.declared.fault.FoundFault.TheVariants.{Foreign}
use Rattle.st_assemble.specs.inner.SoFar.{PoolsUpTo, GoneUpTo}
use Rattle.st_assemble.proofs.Foreign.{fault_same}
use Rattle.st_looks.specs.Looked.{looked}
use Rattle.st_assemble.proofs.Unnamed.{all_found}
use Rattle.st_assemble.proofs.assemble.found.Goals as goal

pub returns-in-None-clause-found : goal.returns-in-None-clause-found
returns-in-None-clause-found g c =
    let devs = g.R.Rack.devs c.args.rack.now in
    let image = held (g.R.Rack.state_at c.args.rack.now (g.R.Rack.moment c.args.rack.now)) in
    let looks = c.items-shown.result.now in
    let are : looks ≡ map (looked image) devs = c.items-shown.ensures ∙ c.in-Ok.ensures.found in
    all_found devs image looks are c.loop.last c.loop.found c.in-None.ensures c.loop.invariant.pools c.loop.invariant.gone c.loop.invariant.next

pub returns-in-Err-clause-foreign : goal.returns-in-Err-clause-foreign
returns-in-Err-clause-foreign g c n e =
    let M = g.R.Rack.moment in
    let S = g.R.Rack.state_at in
    let inv = c.loop.invariant in
    let devs = g.R.Rack.devs c.args.rack.now in
    let here = g.R.Rack.devs c.loop.rack in
    let image = held (S c.args.rack.now (M c.args.rack.now)) in
    let there = held (S c.loop.rack (M c.loop.rack)) in
    let same : there ≡ image = (λ j. held (inv.states j (inv.clock j))) in
    let p = c.in-Some.serial in
    let serial : IsSerial p = record { from = c.number-number.ensures.first; until = c.number-number.ensures.last } in
    let next : IsNextOf c.loop.last c.items-shown.result.now (Some p) = c.in-Some.ensures in
    let known : PoolsUpTo here there c.loop.last c.loop.found.pools = subst (λ (ds : Devices). PoolsUpTo ds there c.loop.last c.loop.found.pools) (sym inv.devs) (subst (λ (m : Image). PoolsUpTo devs m c.loop.last c.loop.found.pools) (sym same) inv.pools) in
    let foreign : IsForeign here there n = c.in-Err.ensures.foreign n (ap (λ (f : FoundFault). Err f) (fault_same c.in-Err.fault (Foreign n) _ refl e)) c.loop.last serial next known in
    subst (λ (ds : Devices). IsForeign ds image n) inv.devs (subst (λ (m : Image). IsForeign here m n) same foreign)

pub loop-preserved : goal.loop-preserved
loop-preserved g c =
    let M = g.R.Rack.moment in
    let S = g.R.Rack.state_at in
    let inv = c.loop.invariant in
    let devs = g.R.Rack.devs c.args.rack.now in
    let here = g.R.Rack.devs c.loop.rack in
    let image = held (S c.args.rack.now (M c.args.rack.now)) in
    let there = held (S c.loop.rack (M c.loop.rack)) in
    let same : there ≡ image = (λ j. held (inv.states j (inv.clock j))) in
    let p = c.in-Some.serial in
    let serial : IsSerial p = record { from = c.number-number.ensures.first; until = c.number-number.ensures.last } in
    let next : IsNextOf c.loop.last c.items-shown.result.now (Some p) = c.in-Some.ensures in
    let known : PoolsUpTo here there c.loop.last c.loop.found.pools = subst (λ (ds : Devices). PoolsUpTo ds there c.loop.last c.loop.found.pools) (sym inv.devs) (subst (λ (m : Image). PoolsUpTo devs m c.loop.last c.loop.found.pools) (sym same) inv.pools) in
    let ended : GoneUpTo here there c.loop.last c.loop.found.gone = subst (λ (ds : Devices). GoneUpTo ds there c.loop.last c.loop.found.gone) (sym inv.devs) (subst (λ (m : Image). GoneUpTo devs m c.loop.last c.loop.found.gone) (sym same) inv.gone) in
    let after = c.in-Ok-take_in.ensures in
    let both : PoolsUpTo here there p c.take_in.new.found.pools × GoneUpTo here there p c.take_in.new.found.gone = after.taken c.loop.last serial next known ended in
    let number : p ≡ c.number-number.result = sym c.number-number.ensures.value in
    let pools : PoolsUpTo devs image p c.take_in.new.found.pools = subst (λ (ds : Devices). PoolsUpTo ds image p c.take_in.new.found.pools) inv.devs (subst (λ (m : Image). PoolsUpTo here m p c.take_in.new.found.pools) same both.0) in
    let gone : GoneUpTo devs image p c.take_in.new.found.gone = subst (λ (ds : Devices). GoneUpTo ds image p c.take_in.new.found.gone) inv.devs (subst (λ (m : Image). GoneUpTo here m p c.take_in.new.found.gone) same both.1) in
    record {
      devs = after.devs ∙ inv.devs;
      clock = after.clock ∙ inv.clock;
      states = after.states ∙ inv.states;
      spare = after.spare ∙ inv.spare;
      faults = omega (arith, inv.faults, after.faults);
      pools = subst (λ (q : ℕ). PoolsUpTo devs image q c.take_in.new.found.pools) number pools;
      gone = subst (λ (q : ℕ). GoneUpTo devs image q c.take_in.new.found.gone) number gone;
      next = after.next ∙ inv.next;
      small = omega (arith, number, c.number-number.ensures.last);
      rose = omega (arith, number, inv.rose, next.0);
    }

pub returns-clause-found : goal.returns-clause-found
returns-clause-found g c = absurd (let small = c.loop.invariant.small in let rose = c.loop.invariant.rose in omega (arith, small, rose, c.loop-test.false))
