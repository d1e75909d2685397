use Rattle.std.proofs.Common.{◌≡◌, ◌+◌, ◌∷◌, length, sym, ◌∙◌, ap, arith}
use Rattle.st_closing.specs.inner.Gathering.{rack_in}
use Rattle.st_closing.proofs.Gathering.{apart_now, begun, empty, gathered, more_now, room_now, taken_first}
use Rattle.st_closing.proofs.gather.join_started.Goals as goal

pub absorb-requires-clause-apart : goal.absorb-requires-clause-apart
absorb-requires-clause-apart g c =
    let R = g.R.Rack in let h = c.take_at-pool.result in let xs = c.loop.cells.items in let ys = c.take_at-pool.new.self.items in
    apart_now R.devs R.moment R.state_at R.faults R.spare rack_in (λ x. x.faults) c.args.rack.now c.args.cells.now.items c.loop.rack xs ys h (taken_first xs ys h c.take_at-pool.ensures.taken c.take_at-pool.ensures.items) c.part-own.result (c.part-own.ensures ∙ c.stop.ensures.rack) c.loop.invariant.going
    c.requires.0 c.requires.1 c.requires.2

pub absorb-requires-clause-room : goal.absorb-requires-clause-room
absorb-requires-clause-room g c =
    let R = g.R.Rack in let h = c.take_at-pool.result in let xs = c.loop.cells.items in let ys = c.take_at-pool.new.self.items in
    room_now R.devs R.moment R.state_at R.faults R.spare rack_in (λ x. x.faults) c.args.rack.now c.args.cells.now.items c.loop.rack xs ys h (taken_first xs ys h c.take_at-pool.ensures.taken c.take_at-pool.ensures.items) c.part-own.result (c.part-own.ensures ∙ c.stop.ensures.rack) c.loop.invariant.going
    c.requires.0 c.requires.1 c.requires.2 c.devices.ensures.rises c.devices-in-loop.ensures.rises

pub loop-preserved : goal.loop-preserved
loop-preserved g c =
    let R = g.R.Rack in let h = c.take_at-pool.result in let xs = c.loop.cells.items in let ys = c.take_at-pool.new.self.items in
    let is = taken_first xs ys h c.take_at-pool.ensures.taken c.take_at-pool.ensures.items in
    let most = c.faults.ensures.most in let count_is = c.faults.ensures.count in
    record {
      going = more_now R.devs R.moment R.state_at R.faults R.spare rack_in (λ x. x.faults) c.args.rack.now c.args.cells.now.items c.loop.rack xs ys h is c.part-own.result (c.part-own.ensures ∙ c.stop.ensures.rack) c.loop.invariant.going c.absorb.new.self c.absorb.ensures.joined c.absorb.ensures.places c.absorb.ensures.faults
          (omega (arith, most, count_is));
      count =
          let count = c.loop.invariant.count in
          let size : length xs ≡ length (h ∷ ys) = ap length is in
          omega (arith, count, size);
    }

pub returns-clause-gathered : goal.returns-clause-gathered
returns-clause-gathered g c =
    let R = g.R.Rack in let count = c.loop.invariant.count in let off = c.loop-test.false in
    gathered R.devs R.moment R.state_at R.faults R.spare rack_in (λ x. x.faults) c.args.rack.now c.args.cells.now.items c.loop.rack c.loop.cells.items (empty c.loop.cells.items c.loop.counter c.len-end.result count (omega (arith, off))) c.loop.invariant.going
