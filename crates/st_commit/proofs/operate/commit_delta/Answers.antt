use Rattle.std.proofs.Common.{◌≡◌, ◌+◌, ◌*◌, ◌<◌, ◌≤◌, ℕ, List, length, Some, sym, ◌∙◌, arith, refl}
use Rattle.st_fields.specs.Slot.{slot_bytes}
use Rattle.st_rack.proofs.Moments.{keeps_on, keeps_weak}
use Rattle.st_slots.specs.Places.{place_at}
use Rattle.st_slots.proofs.Running.{on_ok}
use Rattle.st_deltalog.specs.Log.{sector_at, grown}
use Rattle.st_deltalog.specs.Bearing.{Bears, Rests}
use Rattle.st_deltalog.proofs.Bearing.{Off, rests_down}
use Rattle.st_deltalog.proofs.Growing.{one_sector}
use Rattle.st_commit.specs.Standing.{OneOf, standing_of}
use Rattle.st_commit.specs.Ready.{IsSound}
use Rattle.st_commit.proofs.Flexing.{off_within, sector_within}
use Rattle.st_commit.proofs.Moving.{moves_run, moves_on}
use Rattle.st_commit.proofs.Elsewhere.{no_other_run, no_other_on}
use Rattle.st_commit.proofs.Parts.{part_rests, part_during, part_before}
use Rattle.st_commit.proofs.operate.commit_delta.Goals as goal

pub returns-in_err-append-clause-moves : goal.returns-in_err-append-clause-moves
returns-in_err-append-clause-moves g c =
    let M = g.R.Rack.moment in
    let S = g.R.Rack.state_at in
    let pool = c.args.pool.now in
    let flex = c.args.flex.now in
    let devs = c.args.devs.now in
    let dev = c.at.result.now in
    let G = c.args.generation in
    let rec = c.args.rec.now in
    let r0 = c.args.rack.now in
    let r1 = c.append.new.rack in
    let at = sector_at flex c.args.tail.now.slot c.args.tail.now.next in
    let bytes : List ℕ = slot_bytes flex.delta G c.args.delta.now in
    let size : length bytes ≡ 512 = one_sector flex.delta c.args.delta.now G c.append.ensures.eight c.requires.delta_fits in
    let within = sector_within flex c.args.tail.now.slot c.args.tail.now.next c.requires.place c.requires.left in
    let high : at + length bytes ≤ 512 * (flex.area.at + 2 * flex.area.slot) = omega (arith, within.1, size) in
    let off : ((r : ℕ) → r < 2 → Off (place_at pool r) (512 * pool.slot) at (length bytes)) = (λ r lt. off_within pool flex.area r at (length bytes) c.requires.apart lt within.0 high) in
    let sound : IsSound flex = record { eight = c.append.ensures.eight_area; small = (let lies = c.requires.flex_lies dev c.at.ensures in omega (arith, lies.small)) } in
    moves_run pool flex G devs M S dev at bytes c.at.ensures within.0 high r0 r1 c.append.ensures.time

pub returns-clause-moves : goal.returns-clause-moves
returns-clause-moves g c =
    let M = g.R.Rack.moment in
    let S = g.R.Rack.state_at in
    let pool = c.args.pool.now in
    let flex = c.args.flex.now in
    let devs = c.args.devs.now in
    let dev = c.at.result.now in
    let G = c.args.generation in
    let rec = c.args.rec.now in
    let r0 = c.args.rack.now in
    let r1 = c.append.new.rack in
    let at = sector_at flex c.args.tail.now.slot c.args.tail.now.next in
    let bytes : List ℕ = slot_bytes flex.delta G c.args.delta.now in
    let size : length bytes ≡ 512 = one_sector flex.delta c.args.delta.now G c.append.ensures.eight c.requires.delta_fits in
    let within = sector_within flex c.args.tail.now.slot c.args.tail.now.next c.requires.place c.requires.left in
    let high : at + length bytes ≤ 512 * (flex.area.at + 2 * flex.area.slot) = omega (arith, within.1, size) in
    let off : ((r : ℕ) → r < 2 → Off (place_at pool r) (512 * pool.slot) at (length bytes)) = (λ r lt. off_within pool flex.area r at (length bytes) c.requires.apart lt within.0 high) in
    let sound : IsSound flex = record { eight = c.append.ensures.eight_area; small = (let lies = c.requires.flex_lies dev c.at.ensures in omega (arith, lies.small)) } in
    moves_on pool flex G devs M S r0 r1 c.commit.new.rack (moves_run pool flex G devs M S dev at bytes c.at.ensures within.0 high r0 r1 c.append.ensures.time) c.commit.ensures.spares

pub returns-in_err-append-clause-others : goal.returns-in_err-append-clause-others
returns-in_err-append-clause-others g c =
    let M = g.R.Rack.moment in
    let S = g.R.Rack.state_at in
    let pool = c.args.pool.now in
    let flex = c.args.flex.now in
    let devs = c.args.devs.now in
    let dev = c.at.result.now in
    let G = c.args.generation in
    let rec = c.args.rec.now in
    let r0 = c.args.rack.now in
    let r1 = c.append.new.rack in
    let at = sector_at flex c.args.tail.now.slot c.args.tail.now.next in
    let bytes : List ℕ = slot_bytes flex.delta G c.args.delta.now in
    let size : length bytes ≡ 512 = one_sector flex.delta c.args.delta.now G c.append.ensures.eight c.requires.delta_fits in
    let within = sector_within flex c.args.tail.now.slot c.args.tail.now.next c.requires.place c.requires.left in
    let high : at + length bytes ≤ 512 * (flex.area.at + 2 * flex.area.slot) = omega (arith, within.1, size) in
    let off : ((r : ℕ) → r < 2 → Off (place_at pool r) (512 * pool.slot) at (length bytes)) = (λ r lt. off_within pool flex.area r at (length bytes) c.requires.apart lt within.0 high) in
    let sound : IsSound flex = record { eight = c.append.ensures.eight_area; small = (let lies = c.requires.flex_lies dev c.at.ensures in omega (arith, lies.small)) } in
    no_other_run pool devs G rec dev at bytes off (S r0 (M r0)) M S r0 r1 r1 refl c.append.ensures.time

pub returns-clause-others : goal.returns-clause-others
returns-clause-others g c =
    let M = g.R.Rack.moment in
    let S = g.R.Rack.state_at in
    let pool = c.args.pool.now in
    let flex = c.args.flex.now in
    let devs = c.args.devs.now in
    let dev = c.at.result.now in
    let G = c.args.generation in
    let rec = c.args.rec.now in
    let r0 = c.args.rack.now in
    let r1 = c.append.new.rack in
    let at = sector_at flex c.args.tail.now.slot c.args.tail.now.next in
    let bytes : List ℕ = slot_bytes flex.delta G c.args.delta.now in
    let size : length bytes ≡ 512 = one_sector flex.delta c.args.delta.now G c.append.ensures.eight c.requires.delta_fits in
    let within = sector_within flex c.args.tail.now.slot c.args.tail.now.next c.requires.place c.requires.left in
    let high : at + length bytes ≤ 512 * (flex.area.at + 2 * flex.area.slot) = omega (arith, within.1, size) in
    let off : ((r : ℕ) → r < 2 → Off (place_at pool r) (512 * pool.slot) at (length bytes)) = (λ r lt. off_within pool flex.area r at (length bytes) c.requires.apart lt within.0 high) in
    let sound : IsSound flex = record { eight = c.append.ensures.eight_area; small = (let lies = c.requires.flex_lies dev c.at.ensures in omega (arith, lies.small)) } in
    no_other_on pool devs G rec dev at bytes off (S r0 (M r0)) M S r0 r1 c.commit.new.rack refl c.append.ensures.time c.commit.ensures.others

pub returns-in_err-append-clause-during : goal.returns-in_err-append-clause-during
returns-in_err-append-clause-during g c =
    let M = g.R.Rack.moment in
    let S = g.R.Rack.state_at in
    let pool = c.args.pool.now in
    let flex = c.args.flex.now in
    let devs = c.args.devs.now in
    let dev = c.at.result.now in
    let G = c.args.generation in
    let rec = c.args.rec.now in
    let r0 = c.args.rack.now in
    let r1 = c.append.new.rack in
    let at = sector_at flex c.args.tail.now.slot c.args.tail.now.next in
    let bytes : List ℕ = slot_bytes flex.delta G c.args.delta.now in
    let size : length bytes ≡ 512 = one_sector flex.delta c.args.delta.now G c.append.ensures.eight c.requires.delta_fits in
    let within = sector_within flex c.args.tail.now.slot c.args.tail.now.next c.requires.place c.requires.left in
    let high : at + length bytes ≤ 512 * (flex.area.at + 2 * flex.area.slot) = omega (arith, within.1, size) in
    let off : ((r : ℕ) → r < 2 → Off (place_at pool r) (512 * pool.slot) at (length bytes)) = (λ r lt. off_within pool flex.area r at (length bytes) c.requires.apart lt within.0 high) in
    let sound : IsSound flex = record { eight = c.append.ensures.eight_area; small = (let lies = c.requires.flex_lies dev c.at.ensures in omega (arith, lies.small)) } in
    λ p up old h first log head tail step below serial ready.
    let rests = part_rests M S pool flex devs dev at bytes r0 r1 sound c.at.ensures off p up old h first log head ready in
    part_during M S pool flex devs dev at bytes r0 r1 sound c.at.ensures off p up old h first log head ready (standing_of G rec (Some (grown log c.args.delta.now))) c.append.ensures.time
    (keeps_weak M S (λ s. Rests flex p up old log (s dev)) (λ s. Bears flex p old old log (s dev)) r0 r1 (λ s is. (rests_down flex p old up old log (s dev) (omega arith) rests.bears.upto is).bears) (c.append.ensures.stays p up old log tail rests))

pub returns-clause-during : goal.returns-clause-during
returns-clause-during g c =
    let M = g.R.Rack.moment in
    let S = g.R.Rack.state_at in
    let pool = c.args.pool.now in
    let flex = c.args.flex.now in
    let devs = c.args.devs.now in
    let dev = c.at.result.now in
    let G = c.args.generation in
    let rec = c.args.rec.now in
    let r0 = c.args.rack.now in
    let r1 = c.append.new.rack in
    let at = sector_at flex c.args.tail.now.slot c.args.tail.now.next in
    let bytes : List ℕ = slot_bytes flex.delta G c.args.delta.now in
    let size : length bytes ≡ 512 = one_sector flex.delta c.args.delta.now G c.append.ensures.eight c.requires.delta_fits in
    let within = sector_within flex c.args.tail.now.slot c.args.tail.now.next c.requires.place c.requires.left in
    let high : at + length bytes ≤ 512 * (flex.area.at + 2 * flex.area.slot) = omega (arith, within.1, size) in
    let off : ((r : ℕ) → r < 2 → Off (place_at pool r) (512 * pool.slot) at (length bytes)) = (λ r lt. off_within pool flex.area r at (length bytes) c.requires.apart lt within.0 high) in
    let sound : IsSound flex = record { eight = c.append.ensures.eight_area; small = (let lies = c.requires.flex_lies dev c.at.ensures in omega (arith, lies.small)) } in
    λ p up old h first log head tail step below serial ready.
    let rests = part_rests M S pool flex devs dev at bytes r0 r1 sound c.at.ensures off p up old h first log head ready in
    let stays = c.append.ensures.stays p up old log tail rests in
    let that = standing_of G rec (Some (grown log c.args.delta.now)) in
    let one = part_during M S pool flex devs dev at bytes r0 r1 sound c.at.ensures off p up old h first log head ready that c.append.ensures.time
    (keeps_weak M S (λ s. Rests flex p up old log (s dev)) (λ s. Bears flex p old old log (s dev)) r0 r1 (λ s is. (rests_down flex p old up old log (s dev) (omega arith) rests.bears.upto is).bears) stays) in
    let before = part_before M S pool flex devs dev at bytes r0 r1 sound c.at.ensures off p up old h first log head ready G up rec (grown log c.args.delta.now) c.in_ok-append.ensures.done
    (rests_down flex p old up old log (S r1 (M r1) dev) (omega arith) rests.bears.upto (stays.all (M r1) stays.later (omega arith))) step serial (c.in_ok-append.ensures.new p up old log tail rests step below) in
    keeps_on M S (OneOf pool flex p devs first (standing_of old (h old) (Some log)) that) r0 r1 c.commit.new.rack one (c.commit.ensures.during flex p up old h first (Some log) (grown log c.args.delta.now) sound c.requires.apart before)

pub returns-clause-done : goal.returns-clause-done
returns-clause-done g c =
    let M = g.R.Rack.moment in
    let S = g.R.Rack.state_at in
    let pool = c.args.pool.now in
    let flex = c.args.flex.now in
    let devs = c.args.devs.now in
    let dev = c.at.result.now in
    let G = c.args.generation in
    let rec = c.args.rec.now in
    let r0 = c.args.rack.now in
    let r1 = c.append.new.rack in
    let at = sector_at flex c.args.tail.now.slot c.args.tail.now.next in
    let bytes : List ℕ = slot_bytes flex.delta G c.args.delta.now in
    let size : length bytes ≡ 512 = one_sector flex.delta c.args.delta.now G c.append.ensures.eight c.requires.delta_fits in
    let within = sector_within flex c.args.tail.now.slot c.args.tail.now.next c.requires.place c.requires.left in
    let high : at + length bytes ≤ 512 * (flex.area.at + 2 * flex.area.slot) = omega (arith, within.1, size) in
    let off : ((r : ℕ) → r < 2 → Off (place_at pool r) (512 * pool.slot) at (length bytes)) = (λ r lt. off_within pool flex.area r at (length bytes) c.requires.apart lt within.0 high) in
    let sound : IsSound flex = record { eight = c.append.ensures.eight_area; small = (let lies = c.requires.flex_lies dev c.at.ensures in omega (arith, lies.small)) } in
    on_ok c.commit.result _ _ (λ done p up old h first log head tail step below serial ready.
    let rests = part_rests M S pool flex devs dev at bytes r0 r1 sound c.at.ensures off p up old h first log head ready in
    let stays = c.append.ensures.stays p up old log tail rests in
    let before = part_before M S pool flex devs dev at bytes r0 r1 sound c.at.ensures off p up old h first log head ready G up rec (grown log c.args.delta.now) c.in_ok-append.ensures.done
    (rests_down flex p old up old log (S r1 (M r1) dev) (omega arith) rests.bears.upto (stays.all (M r1) stays.later (omega arith))) step serial (c.in_ok-append.ensures.new p up old log tail rests step below) in
    done flex p up old h first (Some log) (grown log c.args.delta.now) sound c.requires.apart before) c.commit.ensures.done

pub returns-clause-tail : goal.returns-clause-tail
returns-clause-tail g c =
    on_ok c.commit.result _ _ (λ done log tail. record { in_slot = tail.in_slot ∙ sym c.append.ensures.slot; behind = omega (arith, tail.behind, c.in_ok-append.ensures.raised) }) c.commit.ensures.done
