use Rattle.std.proofs.Common.{◌*◌, ◌<◌, ◌≤◌, ◌^◌, ℕ, List, length, Some, None, arith, refl}
use Rattle.st_fields.specs.Slot.{slot_bytes}
use Rattle.st_rack.proofs.Moments.{keeps_on}
use Rattle.st_slots.specs.Places.{place_at}
use Rattle.st_deltalog.specs.Log.{begun}
use Rattle.st_deltalog.proofs.Bearing.{Off}
use Rattle.st_deltalog.proofs.Growing.{first_loses}
use Rattle.st_commit.specs.Standing.{OneOf, standing_of}
use Rattle.st_commit.specs.Ready.{IsSound}
use Rattle.st_commit.proofs.Whole.{bytes_fit}
use Rattle.st_commit.proofs.Flexing.{off_within, slot_within}
use Rattle.st_commit.proofs.Moving.{moves_run, moves_on}
use Rattle.st_commit.proofs.Elsewhere.{no_other_run, no_other_on}
use Rattle.st_commit.proofs.Parts.{first_part_during, first_part_before}
use Rattle.st_commit.proofs.operate.commit_first.Goals as goal

pub returns-in_err-tail-clause-moves : goal.returns-in_err-tail-clause-moves
returns-in_err-tail-clause-moves g c =
    let M = g.R.Rack.moment in
    let S = g.R.Rack.state_at in
    let pool = c.args.pool.now in
    let flex = c.args.flex.now in
    let devs = c.args.devs.now in
    let dev = c.at.result.now in
    let G : ℕ = 1 in
    let rec = c.args.rec.now in
    let body = c.args.body.now in
    let slot : ℕ = 1 in
    let r0 = c.args.rack.now in
    let r1 = c.checkpoint.new.rack in
    let at = place_at flex.area slot in
    let bytes : List ℕ = slot_bytes flex.area.magic G body in
    let eight = c.checkpoint.ensures.eight in
    let small : flex.area.slot ≤ 2 ^ 32 = (let lies = c.requires.flex_lies dev c.at.ensures in omega (arith, lies.small)) in
    let within = slot_within flex.area slot (length bytes) (omega arith) (bytes_fit flex.area G body eight c.requires.flex_fits) in
    let off : ((r : ℕ) → r < 2 → Off (place_at pool r) (512 * pool.slot) at (length bytes)) = (λ r lt. off_within pool flex.area r at (length bytes) c.requires.apart lt within.0 within.1) in
    let sound : IsSound flex = record { eight = eight; small = small } in
    moves_run pool flex G devs M S dev at bytes c.at.ensures within.0 within.1 r0 r1 c.checkpoint.ensures.time

pub returns-in_err-tail-clause-others : goal.returns-in_err-tail-clause-others
returns-in_err-tail-clause-others g c =
    let M = g.R.Rack.moment in
    let S = g.R.Rack.state_at in
    let pool = c.args.pool.now in
    let flex = c.args.flex.now in
    let devs = c.args.devs.now in
    let dev = c.at.result.now in
    let G : ℕ = 1 in
    let rec = c.args.rec.now in
    let body = c.args.body.now in
    let slot : ℕ = 1 in
    let r0 = c.args.rack.now in
    let r1 = c.checkpoint.new.rack in
    let at = place_at flex.area slot in
    let bytes : List ℕ = slot_bytes flex.area.magic G body in
    let eight = c.checkpoint.ensures.eight in
    let small : flex.area.slot ≤ 2 ^ 32 = (let lies = c.requires.flex_lies dev c.at.ensures in omega (arith, lies.small)) in
    let within = slot_within flex.area slot (length bytes) (omega arith) (bytes_fit flex.area G body eight c.requires.flex_fits) in
    let off : ((r : ℕ) → r < 2 → Off (place_at pool r) (512 * pool.slot) at (length bytes)) = (λ r lt. off_within pool flex.area r at (length bytes) c.requires.apart lt within.0 within.1) in
    let sound : IsSound flex = record { eight = eight; small = small } in
    no_other_run pool devs G rec dev at bytes off (S r0 (M r0)) M S r0 r1 r1 refl c.checkpoint.ensures.time

pub returns-in_err-commit-clause-moves : goal.returns-in_err-commit-clause-moves
returns-in_err-commit-clause-moves g c =
    let M = g.R.Rack.moment in
    let S = g.R.Rack.state_at in
    let pool = c.args.pool.now in
    let flex = c.args.flex.now in
    let devs = c.args.devs.now in
    let dev = c.at.result.now in
    let G : ℕ = 1 in
    let rec = c.args.rec.now in
    let body = c.args.body.now in
    let slot : ℕ = 1 in
    let r0 = c.args.rack.now in
    let r1 = c.checkpoint.new.rack in
    let at = place_at flex.area slot in
    let bytes : List ℕ = slot_bytes flex.area.magic G body in
    let eight = c.checkpoint.ensures.eight in
    let small : flex.area.slot ≤ 2 ^ 32 = (let lies = c.requires.flex_lies dev c.at.ensures in omega (arith, lies.small)) in
    let within = slot_within flex.area slot (length bytes) (omega arith) (bytes_fit flex.area G body eight c.requires.flex_fits) in
    let off : ((r : ℕ) → r < 2 → Off (place_at pool r) (512 * pool.slot) at (length bytes)) = (λ r lt. off_within pool flex.area r at (length bytes) c.requires.apart lt within.0 within.1) in
    let sound : IsSound flex = record { eight = eight; small = small } in
    moves_on pool flex G devs M S r0 r1 c.commit.new.rack (moves_run pool flex G devs M S dev at bytes c.at.ensures within.0 within.1 r0 r1 c.checkpoint.ensures.time) c.commit.ensures.spares

pub returns-in_err-commit-clause-others : goal.returns-in_err-commit-clause-others
returns-in_err-commit-clause-others g c =
    let M = g.R.Rack.moment in
    let S = g.R.Rack.state_at in
    let pool = c.args.pool.now in
    let flex = c.args.flex.now in
    let devs = c.args.devs.now in
    let dev = c.at.result.now in
    let G : ℕ = 1 in
    let rec = c.args.rec.now in
    let body = c.args.body.now in
    let slot : ℕ = 1 in
    let r0 = c.args.rack.now in
    let r1 = c.checkpoint.new.rack in
    let at = place_at flex.area slot in
    let bytes : List ℕ = slot_bytes flex.area.magic G body in
    let eight = c.checkpoint.ensures.eight in
    let small : flex.area.slot ≤ 2 ^ 32 = (let lies = c.requires.flex_lies dev c.at.ensures in omega (arith, lies.small)) in
    let within = slot_within flex.area slot (length bytes) (omega arith) (bytes_fit flex.area G body eight c.requires.flex_fits) in
    let off : ((r : ℕ) → r < 2 → Off (place_at pool r) (512 * pool.slot) at (length bytes)) = (λ r lt. off_within pool flex.area r at (length bytes) c.requires.apart lt within.0 within.1) in
    let sound : IsSound flex = record { eight = eight; small = small } in
    no_other_on pool devs G rec dev at bytes off (S r0 (M r0)) M S r0 r1 c.commit.new.rack refl c.checkpoint.ensures.time c.commit.ensures.others

pub returns-clause-moves : goal.returns-clause-moves
returns-clause-moves g c =
    let M = g.R.Rack.moment in
    let S = g.R.Rack.state_at in
    let pool = c.args.pool.now in
    let flex = c.args.flex.now in
    let devs = c.args.devs.now in
    let dev = c.at.result.now in
    let G : ℕ = 1 in
    let rec = c.args.rec.now in
    let body = c.args.body.now in
    let slot : ℕ = 1 in
    let r0 = c.args.rack.now in
    let r1 = c.checkpoint.new.rack in
    let at = place_at flex.area slot in
    let bytes : List ℕ = slot_bytes flex.area.magic G body in
    let eight = c.checkpoint.ensures.eight in
    let small : flex.area.slot ≤ 2 ^ 32 = (let lies = c.requires.flex_lies dev c.at.ensures in omega (arith, lies.small)) in
    let within = slot_within flex.area slot (length bytes) (omega arith) (bytes_fit flex.area G body eight c.requires.flex_fits) in
    let off : ((r : ℕ) → r < 2 → Off (place_at pool r) (512 * pool.slot) at (length bytes)) = (λ r lt. off_within pool flex.area r at (length bytes) c.requires.apart lt within.0 within.1) in
    let sound : IsSound flex = record { eight = eight; small = small } in
    moves_on pool flex G devs M S r0 r1 c.commit.new.rack (moves_run pool flex G devs M S dev at bytes c.at.ensures within.0 within.1 r0 r1 c.checkpoint.ensures.time) c.commit.ensures.spares

pub returns-clause-others : goal.returns-clause-others
returns-clause-others g c =
    let M = g.R.Rack.moment in
    let S = g.R.Rack.state_at in
    let pool = c.args.pool.now in
    let flex = c.args.flex.now in
    let devs = c.args.devs.now in
    let dev = c.at.result.now in
    let G : ℕ = 1 in
    let rec = c.args.rec.now in
    let body = c.args.body.now in
    let slot : ℕ = 1 in
    let r0 = c.args.rack.now in
    let r1 = c.checkpoint.new.rack in
    let at = place_at flex.area slot in
    let bytes : List ℕ = slot_bytes flex.area.magic G body in
    let eight = c.checkpoint.ensures.eight in
    let small : flex.area.slot ≤ 2 ^ 32 = (let lies = c.requires.flex_lies dev c.at.ensures in omega (arith, lies.small)) in
    let within = slot_within flex.area slot (length bytes) (omega arith) (bytes_fit flex.area G body eight c.requires.flex_fits) in
    let off : ((r : ℕ) → r < 2 → Off (place_at pool r) (512 * pool.slot) at (length bytes)) = (λ r lt. off_within pool flex.area r at (length bytes) c.requires.apart lt within.0 within.1) in
    let sound : IsSound flex = record { eight = eight; small = small } in
    no_other_on pool devs G rec dev at bytes off (S r0 (M r0)) M S r0 r1 c.commit.new.rack refl c.checkpoint.ensures.time c.commit.ensures.others

pub returns-in_err-tail-clause-during : goal.returns-in_err-tail-clause-during
returns-in_err-tail-clause-during g c =
    let M = g.R.Rack.moment in
    let S = g.R.Rack.state_at in
    let pool = c.args.pool.now in
    let flex = c.args.flex.now in
    let devs = c.args.devs.now in
    let dev = c.at.result.now in
    let G : ℕ = 1 in
    let rec = c.args.rec.now in
    let body = c.args.body.now in
    let slot : ℕ = 1 in
    let r0 = c.args.rack.now in
    let r1 = c.checkpoint.new.rack in
    let at = place_at flex.area slot in
    let bytes : List ℕ = slot_bytes flex.area.magic G body in
    let eight = c.checkpoint.ensures.eight in
    let small : flex.area.slot ≤ 2 ^ 32 = (let lies = c.requires.flex_lies dev c.at.ensures in omega (arith, lies.small)) in
    let within = slot_within flex.area slot (length bytes) (omega arith) (bytes_fit flex.area G body eight c.requires.flex_fits) in
    let off : ((r : ℕ) → r < 2 → Off (place_at pool r) (512 * pool.slot) at (length bytes)) = (λ r lt. off_within pool flex.area r at (length bytes) c.requires.apart lt within.0 within.1) in
    let sound : IsSound flex = record { eight = eight; small = small } in
    λ p up h first head serial serial_body ready.
    first_part_during M S pool flex devs dev at bytes r0 r1 sound c.at.ensures off p up h first head ready (standing_of G rec (Some (begun slot (G, body)))) c.checkpoint.ensures.time

pub returns-in_err-commit-clause-during : goal.returns-in_err-commit-clause-during
returns-in_err-commit-clause-during g c =
    let M = g.R.Rack.moment in
    let S = g.R.Rack.state_at in
    let pool = c.args.pool.now in
    let flex = c.args.flex.now in
    let devs = c.args.devs.now in
    let dev = c.at.result.now in
    let G : ℕ = 1 in
    let rec = c.args.rec.now in
    let body = c.args.body.now in
    let slot : ℕ = 1 in
    let r0 = c.args.rack.now in
    let r1 = c.checkpoint.new.rack in
    let at = place_at flex.area slot in
    let bytes : List ℕ = slot_bytes flex.area.magic G body in
    let eight = c.checkpoint.ensures.eight in
    let small : flex.area.slot ≤ 2 ^ 32 = (let lies = c.requires.flex_lies dev c.at.ensures in omega (arith, lies.small)) in
    let within = slot_within flex.area slot (length bytes) (omega arith) (bytes_fit flex.area G body eight c.requires.flex_fits) in
    let off : ((r : ℕ) → r < 2 → Off (place_at pool r) (512 * pool.slot) at (length bytes)) = (λ r lt. off_within pool flex.area r at (length bytes) c.requires.apart lt within.0 within.1) in
    let sound : IsSound flex = record { eight = eight; small = small } in
    λ p up h first head serial serial_body ready.
    let before = first_part_before M S pool flex devs dev at bytes r0 r1 sound c.at.ensures off p up h first head ready 1 rec (begun 1 (1, body)) c.in_ok-tail.ensures.done serial
    (c.in_ok-tail.ensures.new p 1 serial_body (omega arith) (first_loses p _)) in
    keeps_on M S (OneOf pool flex p devs first None (standing_of G rec (Some (begun slot (G, body))))) r0 r1 c.commit.new.rack
    (first_part_during M S pool flex devs dev at bytes r0 r1 sound c.at.ensures off p up h first head ready (standing_of G rec (Some (begun slot (G, body)))) c.checkpoint.ensures.time)
    (c.commit.ensures.during flex p 1 0 h first None (begun 1 (1, body)) sound c.requires.apart before)

pub returns-clause-during : goal.returns-clause-during
returns-clause-during g c =
    let M = g.R.Rack.moment in
    let S = g.R.Rack.state_at in
    let pool = c.args.pool.now in
    let flex = c.args.flex.now in
    let devs = c.args.devs.now in
    let dev = c.at.result.now in
    let G : ℕ = 1 in
    let rec = c.args.rec.now in
    let body = c.args.body.now in
    let slot : ℕ = 1 in
    let r0 = c.args.rack.now in
    let r1 = c.checkpoint.new.rack in
    let at = place_at flex.area slot in
    let bytes : List ℕ = slot_bytes flex.area.magic G body in
    let eight = c.checkpoint.ensures.eight in
    let small : flex.area.slot ≤ 2 ^ 32 = (let lies = c.requires.flex_lies dev c.at.ensures in omega (arith, lies.small)) in
    let within = slot_within flex.area slot (length bytes) (omega arith) (bytes_fit flex.area G body eight c.requires.flex_fits) in
    let off : ((r : ℕ) → r < 2 → Off (place_at pool r) (512 * pool.slot) at (length bytes)) = (λ r lt. off_within pool flex.area r at (length bytes) c.requires.apart lt within.0 within.1) in
    let sound : IsSound flex = record { eight = eight; small = small } in
    λ p up h first head serial serial_body ready.
    let before = first_part_before M S pool flex devs dev at bytes r0 r1 sound c.at.ensures off p up h first head ready 1 rec (begun 1 (1, body)) c.in_ok-tail.ensures.done serial
    (c.in_ok-tail.ensures.new p 1 serial_body (omega arith) (first_loses p _)) in
    keeps_on M S (OneOf pool flex p devs first None (standing_of G rec (Some (begun slot (G, body))))) r0 r1 c.commit.new.rack
    (first_part_during M S pool flex devs dev at bytes r0 r1 sound c.at.ensures off p up h first head ready (standing_of G rec (Some (begun slot (G, body)))) c.checkpoint.ensures.time)
    (c.commit.ensures.during flex p 1 0 h first None (begun 1 (1, body)) sound c.requires.apart before)

pub returns-clause-done : goal.returns-clause-done
returns-clause-done g c =
    let M = g.R.Rack.moment in
    let S = g.R.Rack.state_at in
    let pool = c.args.pool.now in
    let flex = c.args.flex.now in
    let devs = c.args.devs.now in
    let dev = c.at.result.now in
    let G : ℕ = 1 in
    let rec = c.args.rec.now in
    let body = c.args.body.now in
    let slot : ℕ = 1 in
    let r0 = c.args.rack.now in
    let r1 = c.checkpoint.new.rack in
    let at = place_at flex.area slot in
    let bytes : List ℕ = slot_bytes flex.area.magic G body in
    let eight = c.checkpoint.ensures.eight in
    let small : flex.area.slot ≤ 2 ^ 32 = (let lies = c.requires.flex_lies dev c.at.ensures in omega (arith, lies.small)) in
    let within = slot_within flex.area slot (length bytes) (omega arith) (bytes_fit flex.area G body eight c.requires.flex_fits) in
    let off : ((r : ℕ) → r < 2 → Off (place_at pool r) (512 * pool.slot) at (length bytes)) = (λ r lt. off_within pool flex.area r at (length bytes) c.requires.apart lt within.0 within.1) in
    let sound : IsSound flex = record { eight = eight; small = small } in
    λ p up h first head serial serial_body ready.
    let before = first_part_before M S pool flex devs dev at bytes r0 r1 sound c.at.ensures off p up h first head ready 1 rec (begun 1 (1, body)) c.in_ok-tail.ensures.done serial
    (c.in_ok-tail.ensures.new p 1 serial_body (omega arith) (first_loses p _)) in
    c.in_ok-commit.ensures.done flex p 1 0 h first None (begun 1 (1, body)) sound c.requires.apart before
