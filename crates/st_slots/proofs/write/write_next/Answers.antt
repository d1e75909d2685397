use Rattle.std.proofs.Common.{◌≡◌, ◌⊎◌, ℕ, ◌+◌, ◌*◌, ◌%◌, ◌^◌, ◌≤◌, List, length, Some, sym, subst, arith}
use Rattle.st_fields.specs.Slot.{slot_bytes}
use Rattle.st_rack.specs.Story.{Content}
use Rattle.st_rack.specs.Device.{State}
use Rattle.st_rack.specs.Moments.{OnDevice}
use Rattle.st_rack.specs.Steps.{Rewriting}
use Rattle.st_rack.proofs.Moments.{goes_keeps}
use Rattle.st_slots.specs.Places.{slot_at}
use Rattle.st_slots.specs.Reading.{read_slot, newest_in}
use Rattle.st_slots.specs.Writing.{LeavesFor}
use Rattle.st_slots.proofs.Running.{on_ok, padded_fits, same}
use Rattle.st_slots.proofs.Texts.{length-slot_bytes}
use Rattle.st_slots.proofs.Crashes.{slot_there, torn_each, now_there, newest_during, newest_after}
use Rattle.st_slots.proofs.write.write_next.Goals as goal

pub returns-clause-torn : goal.returns-clause-torn
returns-clause-torn g c =
    let area = c.args.area.now in
    let generation = c.args.generation in
    let body = c.args.body.now in
    let bytes : List ℕ = slot_bytes area.magic generation body in
    let dev = c.args.dev.now in
    let small : area.slot ≤ 2 ^ 32 = omega (arith, c.requires.lies.small) in
    let size : length bytes ≤ 512 * area.slot = subst (λ (m : ℕ). m ≤ 512 * area.slot) (sym (length-slot_bytes area.magic body generation c.write_at.ensures.eight)) (padded_fits (64 + length body) area.slot c.requires.fits) in
    let there = slot_there dev area generation body (g.R.Rack.state_at c.args.rack.now (g.R.Rack.moment c.args.rack.now) dev) c.write_at.ensures.eight c.requires.first c.requires.last small c.requires.fits size in
    λ meant. torn_each (read_slot area (generation % 2)) (slot_at area generation) bytes generation body there g.R.Rack.moment g.R.Rack.state_at dev c.args.rack.now c.write_at.new.rack meant c.write_at.ensures.time

pub returns-clause-written : goal.returns-clause-written
returns-clause-written g c =
    let area = c.args.area.now in
    let generation = c.args.generation in
    let body = c.args.body.now in
    let bytes : List ℕ = slot_bytes area.magic generation body in
    let dev = c.args.dev.now in
    let moment = g.R.Rack.moment in
    let before = g.R.Rack.state_at c.args.rack.now (moment c.args.rack.now) dev in
    let after = g.R.Rack.state_at c.write_at.new.rack (moment c.write_at.new.rack) dev in
    let small : area.slot ≤ 2 ^ 32 = omega (arith, c.requires.lies.small) in
    let size : length bytes ≤ 512 * area.slot = subst (λ (m : ℕ). m ≤ 512 * area.slot) (sym (length-slot_bytes area.magic body generation c.write_at.ensures.eight)) (padded_fits (64 + length body) area.slot c.requires.fits) in
    let there = slot_there dev area generation body before c.write_at.ensures.eight c.requires.first c.requires.last small c.requires.fits size in
    on_ok c.write_at.result _ _ (λ done. now_there (read_slot area (generation % 2)) (slot_at area generation) bytes generation body there before after done.here) c.write_at.ensures.done

pub returns-clause-old_or_new : goal.returns-clause-old_or_new
returns-clause-old_or_new g c =
    let area = c.args.area.now in
    let generation = c.args.generation in
    let body = c.args.body.now in
    let bytes : List ℕ = slot_bytes area.magic generation body in
    let dev = c.args.dev.now in
    let moment = g.R.Rack.moment in
    let state_at = g.R.Rack.state_at in
    let before : State = state_at c.args.rack.now (moment c.args.rack.now) in
    let small : area.slot ≤ 2 ^ 32 = omega (arith, c.requires.lies.small) in
    let size : length bytes ≤ 512 * area.slot = subst (λ (m : ℕ). m ≤ 512 * area.slot) (sym (length-slot_bytes area.magic body generation c.write_at.ensures.eight)) (padded_fits (64 + length body) area.slot c.requires.fits) in
    λ first second next.
    goes_keeps moment state_at (OnDevice dev (Rewriting (slot_at area generation) bytes))
    (λ s. (f : Content) → LeavesFor (read_slot area (generation % 2)) (s dev) f → (newest_in area f ≡ newest_in area (before dev).holds) ⊎ (newest_in area f ≡ Some (generation, body)))
    c.args.rack.now c.write_at.new.rack (same moment state_at dev (slot_at area generation) bytes before)
    (λ s step. newest_during dev area generation body (before dev) c.write_at.ensures.eight c.requires.first c.requires.last small c.requires.fits size first second next (s dev) step.here) c.write_at.ensures.time

pub returns-clause-new : goal.returns-clause-new
returns-clause-new g c =
    let area = c.args.area.now in
    let generation = c.args.generation in
    let body = c.args.body.now in
    let bytes : List ℕ = slot_bytes area.magic generation body in
    let dev = c.args.dev.now in
    let moment = g.R.Rack.moment in
    let before = g.R.Rack.state_at c.args.rack.now (moment c.args.rack.now) dev in
    let after = g.R.Rack.state_at c.write_at.new.rack (moment c.write_at.new.rack) dev in
    let small : area.slot ≤ 2 ^ 32 = omega (arith, c.requires.lies.small) in
    let size : length bytes ≤ 512 * area.slot = subst (λ (m : ℕ). m ≤ 512 * area.slot) (sym (length-slot_bytes area.magic body generation c.write_at.ensures.eight)) (padded_fits (64 + length body) area.slot c.requires.fits) in
    on_ok c.write_at.result _ _ (λ done first second next. newest_after dev area generation body before c.write_at.ensures.eight c.requires.first c.requires.last small c.requires.fits size first second next after done.here) c.write_at.ensures.done
