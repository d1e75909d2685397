use Rattle.std.proofs.Common.{◌≡◌, false, ◌∙◌, sym}
use Rattle.sim_devices.specs.Devices.{has_device}
use Rattle.sim_devices.proofs.Ours.{distinct_with}
use Rattle.bench_assemble.proofs.site.put_device.Goals as goal

pub returns : goal.returns
returns c =
    let tested = sym c.has_device.ensures ∙ c.if-has_device.false in
    let none : has_device c.args.path c.args.list.now.items ≡ false = rw c.as_slice.ensures.value at tested in
    rw c.in_ok-push.ensures.items (distinct_with c.args.list.now.items (c.args.path, 8192) c.requires none)
