use Rattle.std.proofs.Common.{◌+◌, ◌*◌, arith}
use Rattle.st_deltalog.proofs.Runs.{append_stays, append_old_read, append_outside, append_done, append_new, append_new_read}
use Rattle.st_deltalog.proofs.write.append.Goals as goal

pub returns-in_err-write_sealed-clause-stays : goal.returns-in_err-write_sealed-clause-stays
returns-in_err-write_sealed-clause-stays g c =
    λ p up before log tail rests. append_stays g.R.Rack.moment g.R.Rack.state_at c.args.dev.now c.args.flex.now c.args.tail.now.slot c.args.tail.now.next (512 * (c.args.flex.now.area.at + c.args.tail.now.slot * c.args.flex.now.area.slot + c.args.tail.now.next)) c.args.generation c.args.body.now c.args.rack.now c.write_sealed.new.rack c.is_eight.ensures c.write_sealed.ensures.eight (omega (arith, c.requires.lies.small)) c.requires.left c.requires.fits (omega arith) p up before log tail rests c.write_sealed.ensures.time

pub returns-in_err-write_sealed-clause-old_read : goal.returns-in_err-write_sealed-clause-old_read
returns-in_err-write_sealed-clause-old_read g c =
    λ p up before log tail rests. append_old_read g.R.Rack.moment g.R.Rack.state_at c.args.dev.now c.args.flex.now c.args.tail.now.slot c.args.tail.now.next (512 * (c.args.flex.now.area.at + c.args.tail.now.slot * c.args.flex.now.area.slot + c.args.tail.now.next)) c.args.generation c.args.body.now c.args.rack.now c.write_sealed.new.rack c.is_eight.ensures c.write_sealed.ensures.eight (omega (arith, c.requires.lies.small)) c.requires.left c.requires.fits (omega arith) p up before log tail rests c.write_sealed.ensures.time

pub returns-in_err-write_sealed-clause-outside : goal.returns-in_err-write_sealed-clause-outside
returns-in_err-write_sealed-clause-outside g c =
    append_outside g.R.Rack.moment g.R.Rack.state_at c.args.dev.now c.args.flex.now c.args.tail.now.slot c.args.tail.now.next (512 * (c.args.flex.now.area.at + c.args.tail.now.slot * c.args.flex.now.area.slot + c.args.tail.now.next)) c.args.generation c.args.body.now c.args.rack.now c.write_sealed.new.rack c.is_eight.ensures c.write_sealed.ensures.eight (omega (arith, c.requires.lies.small)) c.requires.left c.requires.fits (omega arith) c.write_sealed.ensures.time

pub returns-clause-stays : goal.returns-clause-stays
returns-clause-stays g c =
    λ p up before log tail rests. append_stays g.R.Rack.moment g.R.Rack.state_at c.args.dev.now c.args.flex.now c.args.tail.now.slot c.args.tail.now.next (512 * (c.args.flex.now.area.at + c.args.tail.now.slot * c.args.flex.now.area.slot + c.args.tail.now.next)) c.args.generation c.args.body.now c.args.rack.now c.write_sealed.new.rack c.is_eight.ensures c.write_sealed.ensures.eight (omega (arith, c.requires.lies.small)) c.requires.left c.requires.fits (omega arith) p up before log tail rests c.write_sealed.ensures.time

pub returns-clause-old_read : goal.returns-clause-old_read
returns-clause-old_read g c =
    λ p up before log tail rests. append_old_read g.R.Rack.moment g.R.Rack.state_at c.args.dev.now c.args.flex.now c.args.tail.now.slot c.args.tail.now.next (512 * (c.args.flex.now.area.at + c.args.tail.now.slot * c.args.flex.now.area.slot + c.args.tail.now.next)) c.args.generation c.args.body.now c.args.rack.now c.write_sealed.new.rack c.is_eight.ensures c.write_sealed.ensures.eight (omega (arith, c.requires.lies.small)) c.requires.left c.requires.fits (omega arith) p up before log tail rests c.write_sealed.ensures.time

pub returns-clause-outside : goal.returns-clause-outside
returns-clause-outside g c =
    append_outside g.R.Rack.moment g.R.Rack.state_at c.args.dev.now c.args.flex.now c.args.tail.now.slot c.args.tail.now.next (512 * (c.args.flex.now.area.at + c.args.tail.now.slot * c.args.flex.now.area.slot + c.args.tail.now.next)) c.args.generation c.args.body.now c.args.rack.now c.write_sealed.new.rack c.is_eight.ensures c.write_sealed.ensures.eight (omega (arith, c.requires.lies.small)) c.requires.left c.requires.fits (omega arith) c.write_sealed.ensures.time

pub returns-clause-new : goal.returns-clause-new
returns-clause-new g c =
    λ p up before log tail rests next below. append_new g.R.Rack.moment g.R.Rack.state_at c.args.dev.now c.args.flex.now c.args.tail.now.slot c.args.tail.now.next (512 * (c.args.flex.now.area.at + c.args.tail.now.slot * c.args.flex.now.area.slot + c.args.tail.now.next)) c.args.generation c.args.body.now c.args.rack.now c.write_sealed.new.rack c.is_eight.ensures c.write_sealed.ensures.eight (omega (arith, c.requires.lies.small)) c.requires.left c.requires.fits (omega arith) p up before log tail rests c.requires.first c.requires.last (append_done g.R.Rack.moment g.R.Rack.state_at c.args.dev.now c.args.flex.now c.args.tail.now.slot c.args.tail.now.next (512 * (c.args.flex.now.area.at + c.args.tail.now.slot * c.args.flex.now.area.slot + c.args.tail.now.next)) c.args.generation c.args.body.now c.args.rack.now c.write_sealed.new.rack c.is_eight.ensures c.write_sealed.ensures.eight (omega (arith, c.requires.lies.small)) c.requires.left c.requires.fits (omega arith) c.in_ok-write_sealed.ensures.done).here next below

pub returns-clause-new_read : goal.returns-clause-new_read
returns-clause-new_read g c =
    λ p up before log tail rests next below. append_new_read g.R.Rack.moment g.R.Rack.state_at c.args.dev.now c.args.flex.now c.args.tail.now.slot c.args.tail.now.next (512 * (c.args.flex.now.area.at + c.args.tail.now.slot * c.args.flex.now.area.slot + c.args.tail.now.next)) c.args.generation c.args.body.now c.args.rack.now c.write_sealed.new.rack c.is_eight.ensures c.write_sealed.ensures.eight (omega (arith, c.requires.lies.small)) c.requires.left c.requires.fits (omega arith) p up before log tail rests c.requires.first c.requires.last (append_done g.R.Rack.moment g.R.Rack.state_at c.args.dev.now c.args.flex.now c.args.tail.now.slot c.args.tail.now.next (512 * (c.args.flex.now.area.at + c.args.tail.now.slot * c.args.flex.now.area.slot + c.args.tail.now.next)) c.args.generation c.args.body.now c.args.rack.now c.write_sealed.new.rack c.is_eight.ensures c.write_sealed.ensures.eight (omega (arith, c.requires.lies.small)) c.requires.left c.requires.fits (omega arith) c.in_ok-write_sealed.ensures.done).here next below
