use Rattle.std.proofs.Common.{◌++◌, List, Option, ap, sym, ◌∙◌, arith}
use Rattle.std.specs.Option.{option_to_list}
use Rattle.st_shelf.specs.Shelf.{join_in}
use Rattle.st_shelf.proofs.Come.{join-last}
use Rattle.st_shelf.proofs.shelf.take_in.Goals as goal

pub loop-device-preserved : goal.loop-device-preserved
loop-device-preserved g c =
    let path = g.D.Device.path_of in
    let popped = c.pop.ensures.items ∙ ap (λ (o : Option _). c.pop.new.self.items ++ option_to_list o) c.in-Some.is in
    record {
      items =
          ap (λ (l : List _). join_in path l c.pop.new.self.items) c.insert.ensures.items
          ∙ sym (join-last path c.loop-device.devices.items c.pop.new.self.items c.in-Some.device)
          ∙ ap (λ (l : List _). join_in path c.loop-device.devices.items l) (sym popped) ∙ c.loop-device.invariant.items;
      len = omega (arith, c.insert.ensures.len, c.in-Some.ensures.cases, c.loop-device.invariant.len);
      room = omega (arith, c.insert.ensures.len, c.insert.ensures.capacity, c.in-Some.ensures.cases, c.loop-device.invariant.room);
      capacity = omega (arith, c.insert.ensures.capacity, c.loop-device.invariant.capacity);
    }
