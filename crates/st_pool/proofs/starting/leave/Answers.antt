use Rattle.std.proofs.Common.{◌≡◌, ℕ, ◌≤◌, true, sym, ◌∙◌, ap, subst}
use Rattle.st_slots.specs.declared.spot.SlotFault.{SlotFault}
use Rattle.st_pool.specs.declared.started.Started.TheVariants as did
use Rattle.st_pool.specs.Answered.{counted}
use Rattle.st_pool.specs.Halts.{HaltedView}
use Rattle.st_pool.specs.inner.Wakings.{left}
use Rattle.st_pool.proofs.starting.leave.Goals as goal

pub invariant_of-result : goal.invariant_of-result
invariant_of-result g c =
    let x = c.halted.inside in
    subst (λ (n : ℕ). n ≤ g.R.Rack.faults x.rack) (sym c.saturating_add.ensures)
    (subst (λ (v : HaltedView _). counted true v.faults ≤ g.R.Rack.faults v.rack) (sym c.halted.view_is) (c.requires c.in-Fault.is))

pub returns-in-OutOfMemory : goal.returns-in-OutOfMemory
returns-in-OutOfMemory g c =
    sym (ap (λ (f : SlotFault). left f c.args.halted) c.in-OutOfMemory.is)

pub returns-in-Fault : goal.returns-in-Fault
returns-in-Fault g c =
    let x = c.halted.inside in
    ap (λ (n : ℕ). did.Fault (record { serial = x.serial; devs = x.devs; rack = x.rack; flight = x.flight; faults = n })) c.saturating_add.ensures
    ∙ ap (λ (v : HaltedView _). did.Fault (record v { faults = counted true v.faults })) c.halted.view_is
    ∙ sym (ap (λ (f : SlotFault). left f c.args.halted) c.in-Fault.is)
