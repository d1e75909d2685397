use Rattle.std.proofs.Common.{◌≡◌, ℕ, ◌+◌, ◌^◌, ◌≤◌, List, length, Some, arith}
use Rattle.st_fields.specs.Slot.{slot_bytes, padded}
use Rattle.st_rack.specs.Story.{Content}
use Rattle.st_rack.specs.Device.{cells}
use Rattle.st_slots.specs.Places.{place_at}
use Rattle.st_slots.specs.Reading.{read_any}
use Rattle.st_slots.proofs.Running.{outside, sector_within, on_ok}
use Rattle.st_slots.proofs.Texts.{length-slot_bytes, reads_text}
use Rattle.st_slots.proofs.Crashes.{torn_each, now_there}
use Rattle.st_slots.proofs.write.write_at.Goals as goal

pub write_sealed-requires-clause-within : goal.write_sealed-requires-clause-within
write_sealed-requires-clause-within g c =
    sector_within (g.R.Rack.devs c.args.rack.now) c.args.dev.now c.args.area.now c.args.slot (64 + length c.args.body.now) (length c.args.work.now) c.requires.lies c.requires.place c.requires.fits (omega arith) c.requires.room

pub returns-clause-outside : goal.returns-clause-outside
returns-clause-outside g c =
    let area = c.args.area.now in
    let bytes : List ℕ = slot_bytes area.magic c.args.generation c.args.body.now in
    outside g.R.Rack.moment g.R.Rack.state_at c.args.dev.now (place_at area c.args.slot) bytes (padded (64 + length c.args.body.now)) c.args.rack.now c.write_sealed.new.rack
    (length-slot_bytes area.magic c.args.body.now c.args.generation c.write_sealed.ensures.eight) c.write_sealed.ensures.time

pub returns-clause-torn : goal.returns-clause-torn
returns-clause-torn g c =
    let area = c.args.area.now in
    let slot = c.args.slot in
    let generation = c.args.generation in
    let body = c.args.body.now in
    let small : area.slot ≤ 2 ^ 32 = omega (arith, c.requires.lies.small) in
    let there : (f : Content) → cells f (place_at area slot) (length (slot_bytes area.magic generation body)) ≡ slot_bytes area.magic generation body → read_any area slot f ≡ Some (generation, body) =
    λ f is. reads_text area slot generation body f c.write_sealed.ensures.eight c.requires.first c.requires.last small c.requires.fits is in
    λ meant. torn_each (read_any area slot) (place_at area slot) (slot_bytes area.magic generation body) generation body there g.R.Rack.moment g.R.Rack.state_at c.args.dev.now c.args.rack.now c.write_sealed.new.rack meant c.write_sealed.ensures.time

pub returns-clause-written : goal.returns-clause-written
returns-clause-written g c =
    let area = c.args.area.now in
    let slot = c.args.slot in
    let generation = c.args.generation in
    let body = c.args.body.now in
    let moment = g.R.Rack.moment in
    let dev = c.args.dev.now in
    let small : area.slot ≤ 2 ^ 32 = omega (arith, c.requires.lies.small) in
    let there : (f : Content) → cells f (place_at area slot) (length (slot_bytes area.magic generation body)) ≡ slot_bytes area.magic generation body → read_any area slot f ≡ Some (generation, body) =
    λ f is. reads_text area slot generation body f c.write_sealed.ensures.eight c.requires.first c.requires.last small c.requires.fits is in
    on_ok c.write_sealed.result _ _
    (λ done. now_there (read_any area slot) (place_at area slot) (slot_bytes area.magic generation body) generation body there
    (g.R.Rack.state_at c.args.rack.now (moment c.args.rack.now) dev) (g.R.Rack.state_at c.write_sealed.new.rack (moment c.write_sealed.new.rack) dev) done.here) c.write_sealed.ensures.done
