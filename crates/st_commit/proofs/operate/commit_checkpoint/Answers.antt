use Rattle.std.proofs.Common.{◌*◌, ◌<◌, ◌≤◌, ◌^◌, ℕ, List, length, Some, arith, refl}
use Rattle.st_fields.specs.Slot.{slot_bytes}
use Rattle.st_rack.proofs.Moments.{keeps_on}
use Rattle.st_slots.specs.Places.{place_at}
use Rattle.st_deltalog.specs.Log.{begun}
use Rattle.st_deltalog.proofs.Bearing.{Off}
use Rattle.st_deltalog.proofs.Growing.{checkpoint_after}
use Rattle.st_commit.specs.Standing.{OneOf, standing_of}
use Rattle.st_commit.specs.Ready.{IsSound}
use Rattle.st_commit.proofs.Whole.{bytes_fit}
use Rattle.st_commit.proofs.Flexing.{off_within, slot_within}
use Rattle.st_commit.proofs.Moving.{moves_run, moves_on}
use Rattle.st_commit.proofs.Elsewhere.{no_other_run, no_other_on}
use Rattle.st_commit.proofs.Parts.{part_rests, part_during, part_before}
use Rattle.st_commit.proofs.operate.commit_checkpoint.Goals as goal

pub returns-in_err-tail-clause-moves : goal.returns-in_err-tail-clause-moves
returns-in_err-tail-clause-moves g c =
    let M = g.R.Rack.moment in
    let S = g.R.Rack.state_at in
    let pool = c.args.pool.now in
    let flex = c.args.flex.now in
    let devs = c.args.devs.now in
    let dev = c.at.result.now in
    let G = c.args.generation in
    let rec = c.args.rec.now in
    let body = c.args.body.now in
    let slot = c.args.slot in
    let r0 = c.args.rack.now in
    let r1 = c.checkpoint.new.rack in
    let at = place_at flex.area slot in
    let bytes : List ℕ = slot_bytes flex.area.magic G body in
    let eight = c.checkpoint.ensures.eight in
    let small : flex.area.slot ≤ 2 ^ 32 = (let lies = c.requires.flex_lies dev c.at.ensures in omega (arith, lies.small)) in
    let within = slot_within flex.area slot (length bytes) c.requires.place (bytes_fit flex.area G body eight c.requires.flex_fits) in
    let off : ((r : ℕ) → r < 2 → Off (place_at pool r) (512 * pool.slot) at (length bytes)) = (λ r lt. off_within pool flex.area r at (length bytes) c.requires.apart lt within.0 within.1) in
    let sound : IsSound flex = record { eight = eight; small = small } in
    moves_run pool flex G devs M S dev at bytes c.at.ensures within.0 within.1 r0 r1 c.checkpoint.ensures.time

pub returns-in_err-tail-clause-others : goal.returns-in_err-tail-clause-others
returns-in_err-tail-clause-others g c =
    let M = g.R.Rack.moment in
    let S = g.R.Rack.state_at in
    let pool = c.args.pool.now in
    let flex = c.args.flex.now in
    let devs = c.args.devs.now in
    let dev = c.at.result.now in
    let G = c.args.generation in
    let rec = c.args.rec.now in
    let body = c.args.body.now in
    let slot = c.args.slot in
    let r0 = c.args.rack.now in
    let r1 = c.checkpoint.new.rack in
    let at = place_at flex.area slot in
    let bytes : List ℕ = slot_bytes flex.area.magic G body in
    let eight = c.checkpoint.ensures.eight in
    let small : flex.area.slot ≤ 2 ^ 32 = (let lies = c.requires.flex_lies dev c.at.ensures in omega (arith, lies.small)) in
    let within = slot_within flex.area slot (length bytes) c.requires.place (bytes_fit flex.area G body eight c.requires.flex_fits) in
    let off : ((r : ℕ) → r < 2 → Off (place_at pool r) (512 * pool.slot) at (length bytes)) = (λ r lt. off_within pool flex.area r at (length bytes) c.requires.apart lt within.0 within.1) in
    let sound : IsSound flex = record { eight = eight; small = small } in
    no_other_run pool devs G rec dev at bytes off (S r0 (M r0)) M S r0 r1 r1 refl c.checkpoint.ensures.time

pub returns-in_err-commit-clause-moves : goal.returns-in_err-commit-clause-moves
returns-in_err-commit-clause-moves g c =
    let M = g.R.Rack.moment in
    let S = g.R.Rack.state_at in
    let pool = c.args.pool.now in
    let flex = c.args.flex.now in
    let devs = c.args.devs.now in
    let dev = c.at.result.now in
    let G = c.args.generation in
    let rec = c.args.rec.now in
    let body = c.args.body.now in
    let slot = c.args.slot in
    let r0 = c.args.rack.now in
    let r1 = c.checkpoint.new.rack in
    let at = place_at flex.area slot in
    let bytes : List ℕ = slot_bytes flex.area.magic G body in
    let eight = c.checkpoint.ensures.eight in
    let small : flex.area.slot ≤ 2 ^ 32 = (let lies = c.requires.flex_lies dev c.at.ensures in omega (arith, lies.small)) in
    let within = slot_within flex.area slot (length bytes) c.requires.place (bytes_fit flex.area G body eight c.requires.flex_fits) in
    let off : ((r : ℕ) → r < 2 → Off (place_at pool r) (512 * pool.slot) at (length bytes)) = (λ r lt. off_within pool flex.area r at (length bytes) c.requires.apart lt within.0 within.1) in
    let sound : IsSound flex = record { eight = eight; small = small } in
    moves_on pool flex G devs M S r0 r1 c.commit.new.rack (moves_run pool flex G devs M S dev at bytes c.at.ensures within.0 within.1 r0 r1 c.checkpoint.ensures.time) c.commit.ensures.spares

pub returns-in_err-commit-clause-others : goal.returns-in_err-commit-clause-others
returns-in_err-commit-clause-others g c =
    let M = g.R.Rack.moment in
    let S = g.R.Rack.state_at in
    let pool = c.args.pool.now in
    let flex = c.args.flex.now in
    let devs = c.args.devs.now in
    let dev = c.at.result.now in
    let G = c.args.generation in
    let rec = c.args.rec.now in
    let body = c.args.body.now in
    let slot = c.args.slot in
    let r0 = c.args.rack.now in
    let r1 = c.checkpoint.new.rack in
    let at = place_at flex.area slot in
    let bytes : List ℕ = slot_bytes flex.area.magic G body in
    let eight = c.checkpoint.ensures.eight in
    let small : flex.area.slot ≤ 2 ^ 32 = (let lies = c.requires.flex_lies dev c.at.ensures in omega (arith, lies.small)) in
    let within = slot_within flex.area slot (length bytes) c.requires.place (bytes_fit flex.area G body eight c.requires.flex_fits) in
    let off : ((r : ℕ) → r < 2 → Off (place_at pool r) (512 * pool.slot) at (length bytes)) = (λ r lt. off_within pool flex.area r at (length bytes) c.requires.apart lt within.0 within.1) in
    let sound : IsSound flex = record { eight = eight; small = small } in
    no_other_on pool devs G rec dev at bytes off (S r0 (M r0)) M S r0 r1 c.commit.new.rack refl c.checkpoint.ensures.time c.commit.ensures.others

pub returns-clause-moves : goal.returns-clause-moves
returns-clause-moves g c =
    let M = g.R.Rack.moment in
    let S = g.R.Rack.state_at in
    let pool = c.args.pool.now in
    let flex = c.args.flex.now in
    let devs = c.args.devs.now in
    let dev = c.at.result.now in
    let G = c.args.generation in
    let rec = c.args.rec.now in
    let body = c.args.body.now in
    let slot = c.args.slot in
    let r0 = c.args.rack.now in
    let r1 = c.checkpoint.new.rack in
    let at = place_at flex.area slot in
    let bytes : List ℕ = slot_bytes flex.area.magic G body in
    let eight = c.checkpoint.ensures.eight in
    let small : flex.area.slot ≤ 2 ^ 32 = (let lies = c.requires.flex_lies dev c.at.ensures in omega (arith, lies.small)) in
    let within = slot_within flex.area slot (length bytes) c.requires.place (bytes_fit flex.area G body eight c.requires.flex_fits) in
    let off : ((r : ℕ) → r < 2 → Off (place_at pool r) (512 * pool.slot) at (length bytes)) = (λ r lt. off_within pool flex.area r at (length bytes) c.requires.apart lt within.0 within.1) in
    let sound : IsSound flex = record { eight = eight; small = small } in
    moves_on pool flex G devs M S r0 r1 c.commit.new.rack (moves_run pool flex G devs M S dev at bytes c.at.ensures within.0 within.1 r0 r1 c.checkpoint.ensures.time) c.commit.ensures.spares

pub returns-clause-others : goal.returns-clause-others
returns-clause-others g c =
    let M = g.R.Rack.moment in
    let S = g.R.Rack.state_at in
    let pool = c.args.pool.now in
    let flex = c.args.flex.now in
    let devs = c.args.devs.now in
    let dev = c.at.result.now in
    let G = c.args.generation in
    let rec = c.args.rec.now in
    let body = c.args.body.now in
    let slot = c.args.slot in
    let r0 = c.args.rack.now in
    let r1 = c.checkpoint.new.rack in
    let at = place_at flex.area slot in
    let bytes : List ℕ = slot_bytes flex.area.magic G body in
    let eight = c.checkpoint.ensures.eight in
    let small : flex.area.slot ≤ 2 ^ 32 = (let lies = c.requires.flex_lies dev c.at.ensures in omega (arith, lies.small)) in
    let within = slot_within flex.area slot (length bytes) c.requires.place (bytes_fit flex.area G body eight c.requires.flex_fits) in
    let off : ((r : ℕ) → r < 2 → Off (place_at pool r) (512 * pool.slot) at (length bytes)) = (λ r lt. off_within pool flex.area r at (length bytes) c.requires.apart lt within.0 within.1) in
    let sound : IsSound flex = record { eight = eight; small = small } in
    no_other_on pool devs G rec dev at bytes off (S r0 (M r0)) M S r0 r1 c.commit.new.rack refl c.checkpoint.ensures.time c.commit.ensures.others

pub returns-in_err-tail-clause-during : goal.returns-in_err-tail-clause-during
returns-in_err-tail-clause-during g c =
    let M = g.R.Rack.moment in
    let S = g.R.Rack.state_at in
    let pool = c.args.pool.now in
    let flex = c.args.flex.now in
    let devs = c.args.devs.now in
    let dev = c.at.result.now in
    let G = c.args.generation in
    let rec = c.args.rec.now in
    let body = c.args.body.now in
    let slot = c.args.slot in
    let r0 = c.args.rack.now in
    let r1 = c.checkpoint.new.rack in
    let at = place_at flex.area slot in
    let bytes : List ℕ = slot_bytes flex.area.magic G body in
    let eight = c.checkpoint.ensures.eight in
    let small : flex.area.slot ≤ 2 ^ 32 = (let lies = c.requires.flex_lies dev c.at.ensures in omega (arith, lies.small)) in
    let within = slot_within flex.area slot (length bytes) c.requires.place (bytes_fit flex.area G body eight c.requires.flex_fits) in
    let off : ((r : ℕ) → r < 2 → Off (place_at pool r) (512 * pool.slot) at (length bytes)) = (λ r lt. off_within pool flex.area r at (length bytes) c.requires.apart lt within.0 within.1) in
    let sound : IsSound flex = record { eight = eight; small = small } in
    λ p up old h first log head is_other step serial serial_body ready.
    let rests = part_rests M S pool flex devs dev at bytes r0 r1 sound c.at.ensures off p up old h first log head ready in
    let less : old < G = omega arith in
    part_during M S pool flex devs dev at bytes r0 r1 sound c.at.ensures off p up old h first log head ready (standing_of G rec (Some (begun slot (G, body)))) c.checkpoint.ensures.time (c.checkpoint.ensures.stays p up old log rests is_other less)

pub returns-in_err-commit-clause-during : goal.returns-in_err-commit-clause-during
returns-in_err-commit-clause-during g c =
    let M = g.R.Rack.moment in
    let S = g.R.Rack.state_at in
    let pool = c.args.pool.now in
    let flex = c.args.flex.now in
    let devs = c.args.devs.now in
    let dev = c.at.result.now in
    let G = c.args.generation in
    let rec = c.args.rec.now in
    let body = c.args.body.now in
    let slot = c.args.slot in
    let r0 = c.args.rack.now in
    let r1 = c.checkpoint.new.rack in
    let at = place_at flex.area slot in
    let bytes : List ℕ = slot_bytes flex.area.magic G body in
    let eight = c.checkpoint.ensures.eight in
    let small : flex.area.slot ≤ 2 ^ 32 = (let lies = c.requires.flex_lies dev c.at.ensures in omega (arith, lies.small)) in
    let within = slot_within flex.area slot (length bytes) c.requires.place (bytes_fit flex.area G body eight c.requires.flex_fits) in
    let off : ((r : ℕ) → r < 2 → Off (place_at pool r) (512 * pool.slot) at (length bytes)) = (λ r lt. off_within pool flex.area r at (length bytes) c.requires.apart lt within.0 within.1) in
    let sound : IsSound flex = record { eight = eight; small = small } in
    λ p up old h first log head is_other step serial serial_body ready.
    let rests = part_rests M S pool flex devs dev at bytes r0 r1 sound c.at.ensures off p up old h first log head ready in
    let less : old < G = omega arith in
    let before = part_before M S pool flex devs dev at bytes r0 r1 sound c.at.ensures off p up old h first log head ready G (2 ^ 48) rec (begun slot (G, body)) c.in_ok-tail.ensures.done
    (checkpoint_after flex p slot G body eight small c.requires.place c.requires.flex_fits old log is_other less c.requires.from c.requires.until up (S r0 (M r0) dev) (S r1 (M r1) dev) c.in_ok-tail.ensures.done.here rests)
    step serial (c.in_ok-tail.ensures.over p up old log rests is_other less serial_body) in
    keeps_on M S (OneOf pool flex p devs first (standing_of old (h old) (Some log)) (standing_of G rec (Some (begun slot (G, body))))) r0 r1 c.commit.new.rack
    (part_during M S pool flex devs dev at bytes r0 r1 sound c.at.ensures off p up old h first log head ready (standing_of G rec (Some (begun slot (G, body)))) c.checkpoint.ensures.time (c.checkpoint.ensures.stays p up old log rests is_other less))
    (c.commit.ensures.during flex p (2 ^ 48) old h first (Some log) (begun slot (G, body)) sound c.requires.apart before)

pub returns-clause-during : goal.returns-clause-during
returns-clause-during g c =
    let M = g.R.Rack.moment in
    let S = g.R.Rack.state_at in
    let pool = c.args.pool.now in
    let flex = c.args.flex.now in
    let devs = c.args.devs.now in
    let dev = c.at.result.now in
    let G = c.args.generation in
    let rec = c.args.rec.now in
    let body = c.args.body.now in
    let slot = c.args.slot in
    let r0 = c.args.rack.now in
    let r1 = c.checkpoint.new.rack in
    let at = place_at flex.area slot in
    let bytes : List ℕ = slot_bytes flex.area.magic G body in
    let eight = c.checkpoint.ensures.eight in
    let small : flex.area.slot ≤ 2 ^ 32 = (let lies = c.requires.flex_lies dev c.at.ensures in omega (arith, lies.small)) in
    let within = slot_within flex.area slot (length bytes) c.requires.place (bytes_fit flex.area G body eight c.requires.flex_fits) in
    let off : ((r : ℕ) → r < 2 → Off (place_at pool r) (512 * pool.slot) at (length bytes)) = (λ r lt. off_within pool flex.area r at (length bytes) c.requires.apart lt within.0 within.1) in
    let sound : IsSound flex = record { eight = eight; small = small } in
    λ p up old h first log head is_other step serial serial_body ready.
    let rests = part_rests M S pool flex devs dev at bytes r0 r1 sound c.at.ensures off p up old h first log head ready in
    let less : old < G = omega arith in
    let before = part_before M S pool flex devs dev at bytes r0 r1 sound c.at.ensures off p up old h first log head ready G (2 ^ 48) rec (begun slot (G, body)) c.in_ok-tail.ensures.done
    (checkpoint_after flex p slot G body eight small c.requires.place c.requires.flex_fits old log is_other less c.requires.from c.requires.until up (S r0 (M r0) dev) (S r1 (M r1) dev) c.in_ok-tail.ensures.done.here rests)
    step serial (c.in_ok-tail.ensures.over p up old log rests is_other less serial_body) in
    keeps_on M S (OneOf pool flex p devs first (standing_of old (h old) (Some log)) (standing_of G rec (Some (begun slot (G, body))))) r0 r1 c.commit.new.rack
    (part_during M S pool flex devs dev at bytes r0 r1 sound c.at.ensures off p up old h first log head ready (standing_of G rec (Some (begun slot (G, body)))) c.checkpoint.ensures.time (c.checkpoint.ensures.stays p up old log rests is_other less))
    (c.commit.ensures.during flex p (2 ^ 48) old h first (Some log) (begun slot (G, body)) sound c.requires.apart before)

pub returns-clause-done : goal.returns-clause-done
returns-clause-done g c =
    let M = g.R.Rack.moment in
    let S = g.R.Rack.state_at in
    let pool = c.args.pool.now in
    let flex = c.args.flex.now in
    let devs = c.args.devs.now in
    let dev = c.at.result.now in
    let G = c.args.generation in
    let rec = c.args.rec.now in
    let body = c.args.body.now in
    let slot = c.args.slot in
    let r0 = c.args.rack.now in
    let r1 = c.checkpoint.new.rack in
    let at = place_at flex.area slot in
    let bytes : List ℕ = slot_bytes flex.area.magic G body in
    let eight = c.checkpoint.ensures.eight in
    let small : flex.area.slot ≤ 2 ^ 32 = (let lies = c.requires.flex_lies dev c.at.ensures in omega (arith, lies.small)) in
    let within = slot_within flex.area slot (length bytes) c.requires.place (bytes_fit flex.area G body eight c.requires.flex_fits) in
    let off : ((r : ℕ) → r < 2 → Off (place_at pool r) (512 * pool.slot) at (length bytes)) = (λ r lt. off_within pool flex.area r at (length bytes) c.requires.apart lt within.0 within.1) in
    let sound : IsSound flex = record { eight = eight; small = small } in
    λ p up old h first log head is_other step serial serial_body ready.
    let rests = part_rests M S pool flex devs dev at bytes r0 r1 sound c.at.ensures off p up old h first log head ready in
    let less : old < G = omega arith in
    let before = part_before M S pool flex devs dev at bytes r0 r1 sound c.at.ensures off p up old h first log head ready G (2 ^ 48) rec (begun slot (G, body)) c.in_ok-tail.ensures.done
    (checkpoint_after flex p slot G body eight small c.requires.place c.requires.flex_fits old log is_other less c.requires.from c.requires.until up (S r0 (M r0) dev) (S r1 (M r1) dev) c.in_ok-tail.ensures.done.here rests)
    step serial (c.in_ok-tail.ensures.over p up old log rests is_other less serial_body) in
    c.in_ok-commit.ensures.done flex p (2 ^ 48) old h first (Some log) (begun slot (G, body)) sound c.requires.apart before
