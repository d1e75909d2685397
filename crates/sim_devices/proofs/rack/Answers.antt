use Rattle.std.proofs.Common.{◌≡◌, ◌≤◌, ◌∙◌, length, take, subst, sym}
use Rattle.sim_devices.specs.Devices.{AreOurs, the_devices}
use Rattle.sim_devices.proofs.Order.{blank_devices, ours_few}
use Rattle.sim_devices.proofs.Ours.{blank-IsFit, if_ok_then}
use Rattle.sim_devices.proofs.rack.Goals as goal

pub returns-clause-fit : goal.returns-clause-fit
returns-clause-fit c =
    let ours : AreOurs c.as_slice.result.now = rw c.as_slice.ensures.value c.in_ok-devs.ensures.ours in
    let is : c.as_slice.result.now ≡ take c.args.count the_devices = c.as_slice.ensures.value ∙ c.in_ok-devs.ensures.all in
    let few : length c.as_slice.result.now ≤ 64 = subst (λ ds. length ds ≤ 64) (sym is) (ours_few c.args.count) in
    if_ok_then c.blank.result _ _ (λ rack blank. blank-IsFit _ _ _ _ c.as_slice.result.now rack ours few blank) c.blank.ensures

pub returns-clause-devices : goal.returns-clause-devices
returns-clause-devices c =
    let is : c.as_slice.result.now ≡ take c.args.count the_devices = c.as_slice.ensures.value ∙ c.in_ok-devs.ensures.all in
    if_ok_then c.blank.result _ _ (λ rack blank. blank_devices _ _ _ _ c.args.count c.as_slice.result.now rack is blank rack.rises) c.blank.ensures
