use Rattle.std.proofs.Common.{◌≡◌, ◌+◌, ◌∷◌, length, sym, ◌∙◌, ap, arith}
use Rattle.st_begin.proofs.Rejoining.{apart_now, at_first, empty, more_now, none_left, room_now, taken_first}
use Rattle.st_begin.proofs.rejoin.join_back.Goals as goal

pub absorb-requires-clause-apart : goal.absorb-requires-clause-apart
absorb-requires-clause-apart g c =
    let R = g.R.Rack in let h = c.take_at-part.result in let xs = c.loop.parts.items in let ys = c.take_at-part.new.self.items in
    apart_now R.devs R.moment R.state_at R.faults R.spare c.requires.0 c.loop.rack xs ys h (taken_first xs ys h c.take_at-part.ensures.taken c.take_at-part.ensures.items) c.part.result c.part.ensures (c.loop.invariant.joined c.requires.0 c.requires.1)

pub absorb-requires-clause-room : goal.absorb-requires-clause-room
absorb-requires-clause-room g c =
    let R = g.R.Rack in let h = c.take_at-part.result in let xs = c.loop.parts.items in let ys = c.take_at-part.new.self.items in
    room_now R.devs R.moment R.state_at R.faults R.spare c.requires.0 c.loop.rack xs ys h (taken_first xs ys h c.take_at-part.ensures.taken c.take_at-part.ensures.items) c.part.result c.part.ensures (c.loop.invariant.joined c.requires.0 c.requires.1)

pub loop-preserved : goal.loop-preserved
loop-preserved g c =
    let R = g.R.Rack in let h = c.take_at-part.result in let xs = c.loop.parts.items in let ys = c.take_at-part.new.self.items in
    let is = taken_first xs ys h c.take_at-part.ensures.taken c.take_at-part.ensures.items in
    record {
      joined = λ whole divides. more_now R.devs R.moment R.state_at R.faults R.spare whole c.loop.rack xs ys h is c.part.result c.part.ensures (c.loop.invariant.joined whole divides) c.absorb.new.self c.absorb.ensures.joined c.absorb.ensures.places c.absorb.ensures.faults;
      count =
          let count = c.loop.invariant.count in
          let size : length xs ≡ length (h ∷ ys) = ap length is in
          omega (arith, count, size);
    }
