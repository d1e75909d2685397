use Rattle.std.proofs.Common.{[], ◌∷◌}
use Rattle.st_slots.proofs.Running.{on_ok}
use Rattle.st_clearing.proofs.Clearings.{both_cleared, first_clearing, then_clearing}
use Rattle.st_clearing.proofs.devices.clear_device.Goals as goal

pub returns-in_err-clear_two-clause-time : goal.returns-in_err-clear_two-clause-time
returns-in_err-clear_two-clause-time g c =
    first_clearing g.R.Rack.moment g.R.Rack.state_at c.args.dev.now (4608 ∷ 512 ∷ []) (8192 ∷ 40960 ∷ []) c.args.rack.now c.clear_two.new.rack c.clear_two.ensures.time

pub returns-clause-time : goal.returns-clause-time
returns-clause-time g c =
    then_clearing g.R.Rack.moment g.R.Rack.state_at c.args.dev.now (4608 ∷ 512 ∷ []) (8192 ∷ 40960 ∷ []) c.args.rack.now c.clear_two.new.rack c.clear_two-2.new.rack
    c.in_ok-clear_two.ensures.done c.clear_two.ensures.time c.clear_two-2.ensures.time

pub returns-clause-done : goal.returns-clause-done
returns-clause-done g c =
    on_ok c.clear_two-2.result _ _ (both_cleared g.R.Rack.moment g.R.Rack.state_at c.args.dev.now (4608 ∷ 512 ∷ []) (8192 ∷ 40960 ∷ []) c.args.rack.now c.clear_two.new.rack c.clear_two-2.new.rack c.in_ok-clear_two.ensures.done)
    c.clear_two-2.ensures.done
