use Rattle.std.proofs.Common.{◌≡◌, ◌<◌, suc, true, false, List, [], ◌∷◌, ◌++◌, length, get_or, take, drop, sym, ◌∙◌, ap, arith, add-one, append_assoc}
use Rattle.st_rack.specs.Calls.{names}
use Rattle.st_shelf.proofs.Leave.{keep, out, stay_more, stay_out, gone_keep, gone_out, same_at}
use Rattle.st_shelf.proofs.shelf.take_out.Goals as goal

pub loop-i-preserved : goal.loop-i-preserved
loop-i-preserved g c =
    let path = g.D.Device.path_of in
    let q = names c.args.list.now in
    let items = c.loop-i.devices.items in
    let lt : c.loop-i.i < length items = omega arith in
    let stays : names c.args.list.now (path (get_or items c.loop-i.i c.index.result.now)) ≡ false = ap (λ (d : _). names c.args.list.now (path d)) (sym c.index.ensures) ∙ sym c.is_named.ensures ∙ c.if-is_named.false in
    record {
      stay = rw add-one (stay_more path q c.loop-i.i items c.index.result.now lt stays ∙ c.loop-i.invariant.stay);
      go = rw add-one (ap (λ (l : List _). c.loop-i.part.items ++ l) (stay_out path q c.loop-i.i items c.index.result.now lt stays) ∙ c.loop-i.invariant.go);
      capacity = c.loop-i.invariant.capacity;
      room = c.loop-i.invariant.room;
      count = c.loop-i.invariant.count;
      within = omega arith;
    }

pub loop-i-preserved-in-Ok : goal.loop-i-preserved-in-Ok
loop-i-preserved-in-Ok g c =
    let path = g.D.Device.path_of in
    let q = names c.args.list.now in
    let items = c.loop-i.devices.items in
    let i = c.loop-i.i in
    let d = c.index.result.now in
    let lt : i < length items = omega arith in
    let goes : names c.args.list.now (path (get_or items i d)) ≡ true = ap (λ (e : _). names c.args.list.now (path e)) (sym c.index.ensures) ∙ sym c.is_named.ensures ∙ c.if-is_named.true in
    let device : c.remove-device.result ≡ get_or items i d = c.remove-device.ensures.value ∙ same_at items i c.remove-device.result d lt in
    let pushed : c.push.new.self.items ≡ c.loop-i.part.items ++ c.remove-device.result ∷ [] = c.in-Ok.ensures.items in
    record {
      stay = ap (λ (l : List _). take i l ++ keep path q (drop i l)) c.remove-device.ensures.items ∙ gone_keep path q i items d lt goes ∙ c.loop-i.invariant.stay;
      go =
          (λ k. pushed k ++ out path q (drop i (c.remove-device.ensures.items k)))
          ∙ append_assoc c.loop-i.part.items (c.remove-device.result ∷ []) (out path q (drop i (take i items ++ drop (suc i) items)))
          ∙ (λ k. c.loop-i.part.items ++ (device k ∷ out path q (drop i (take i items ++ drop (suc i) items))))
          ∙ ap (λ (l : List _). c.loop-i.part.items ++ l) (gone_out path q i items d lt goes) ∙ c.loop-i.invariant.go;
      capacity = omega arith;
      room = omega (arith, c.in-Ok.ensures.len);
      count = omega (arith, c.in-Ok.ensures.len);
      within = omega arith;
    }
