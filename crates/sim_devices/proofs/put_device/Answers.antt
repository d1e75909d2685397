use Rattle.std.proofs.Common.{◌≡◌, false, ◌∙◌, sym, refl}
use Rattle.sim_devices.specs.Devices.{has_device}
use Rattle.sim_devices.proofs.Ours.{ours_with}
use Rattle.sim_devices.proofs.put_device.Goals as goal

pub returns-clause-ours : goal.returns-clause-ours
returns-clause-ours c =
    let tested = sym c.has_device.ensures ∙ c.if-has_device.false in
    let none : has_device c.in-Ok.path c.args.devs.now.items ≡ false = rw c.as_slice.ensures.value at tested in
    rw c.in_ok-push.ensures.items (ours_with c.args.devs.now.items (c.in-Ok.path, 65536) c.requires none refl)
