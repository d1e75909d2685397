use Rattle.std.proofs.Common.{ℕ, List, refl, sym, ◌∙◌, ap, subst, arith}
use Rattle.std.proofs.lemmas.Option.{slice_get_within}
use Rattle.st_header.specs.Header.{header_text}
use Rattle.st_rack.specs.Calls.{Devices, Has}
use Rattle.st_rack.specs.Moments.{Goes, OnDevice}
use Rattle.st_image.specs.Kept.{as_pair}
use Rattle.st_image.proofs.Committing.{pair_at, row_at}
use Rattle.st_books.specs.Ready.{rows_of}
use Rattle.st_making.specs.inner.Heading.{Heading, Headed}
use Rattle.st_making.proofs.Heading.{heading_still, not_begun, heading_on, step_begun, all_begun}
use Rattle.st_making.proofs.headers.write_headers.Goals as goal

pub loop-i-init : goal.loop-i-init
loop-i-init g c =
    record {
      devs = refl;
      reads = refl;
      spare = refl;
      faults = omega arith;
      time = heading_still c.args.rec.now.serial (rows_of c.args.rec.now) g.R.Rack.moment g.R.Rack.state_at c.args.rack.now;
      begun = not_begun c.args.rec.now.serial (rows_of c.args.rec.now) (g.R.Rack.state_at c.args.rack.now (g.R.Rack.moment c.args.rack.now));
    }

pub write_header-requires : goal.write_header-requires
write_header-requires g c =
    let row = c.at-row.result.now in
    let pair = pair_at c.args.rec.now.devs c.loop-i.i row c.at-row.ensures in
    record { large = (row.sectors, subst (λ (ds : Devices). Has ds row.path row.sectors) (sym c.loop-i.invariant.devs) (c.requires.there c.loop-i.i (as_pair row) pair), c.requires.large c.loop-i.i (as_pair row) pair) }

pub returns-in_err-write_header-clause-time : goal.returns-in_err-write_header-clause-time
returns-in_err-write_header-clause-time g c =
    let M = g.R.Rack.moment in
    let S = g.R.Rack.state_at in
    let row = c.at-row.result.now in
    let p = c.args.rec.now.serial in
    let devs = rows_of c.args.rec.now in
    let pair = pair_at c.args.rec.now.devs c.loop-i.i row c.at-row.ensures in
    let text = c.header_bytes.ensures ∙ ap (λ (n : ℕ). header_text n row.sectors) c.of-serial.ensures in
    let time = subst (λ (t : List ℕ). Goes M S (OnDevice row.path (Heading t)) c.loop-i.rack c.write_header.new.rack) text c.write_header.ensures.time in
    heading_on p devs c.requires.distinct c.loop-i.i (as_pair row) pair M S c.args.rack.now c.loop-i.rack c.write_header.new.rack c.loop-i.invariant.begun c.loop-i.invariant.time time

pub loop-i-preserved : goal.loop-i-preserved
loop-i-preserved g c =
    let M = g.R.Rack.moment in
    let S = g.R.Rack.state_at in
    let row = c.at-row.result.now in
    let p = c.args.rec.now.serial in
    let devs = rows_of c.args.rec.now in
    let r0 = c.args.rack.now in
    let r1 = c.loop-i.rack in
    let r2 = c.write_header.new.rack in
    let pair = pair_at c.args.rec.now.devs c.loop-i.i row c.at-row.ensures in
    let text = c.header_bytes.ensures ∙ ap (λ (n : ℕ). header_text n row.sectors) c.of-serial.ensures in
    let time = subst (λ (t : List ℕ). Goes M S (OnDevice row.path (Heading t)) r1 r2) text c.write_header.ensures.time in
    let done = subst (λ (t : List ℕ). OnDevice row.path (Headed t) (S r1 (M r1)) (S r2 (M r2))) text c.in_ok-write_header.ensures.done in
    record {
      devs = c.write_header.ensures.devs ∙ c.loop-i.invariant.devs;
      reads = c.write_header.ensures.reads ∙ c.loop-i.invariant.reads;
      spare = c.write_header.ensures.spare ∙ c.loop-i.invariant.spare;
      faults = omega (arith, c.loop-i.invariant.faults, c.write_header.ensures.cause.later);
      time = heading_on p devs c.requires.distinct c.loop-i.i (as_pair row) pair M S r0 r1 r2 c.loop-i.invariant.begun c.loop-i.invariant.time time;
      begun = step_begun p devs c.requires.distinct c.loop-i.i (as_pair row) pair (S r0 (M r0)) (S r1 (M r1)) (S r2 (M r2)) c.loop-i.invariant.begun done;
    }

pub returns-clause-done : goal.returns-clause-done
returns-clause-done g c =
    let M = g.R.Rack.moment in
    let S = g.R.Rack.state_at in
    all_begun c.args.rec.now.serial (rows_of c.args.rec.now) c.loop-i.i (S c.args.rack.now (M c.args.rack.now)) (S c.loop-i.rack (M c.loop-i.rack)) (λ k d at.
    (let row = row_at c.args.rec.now.devs k d at in let lt = slice_get_within c.args.rec.now.devs k row.0 row.1 in omega (arith, lt))) c.loop-i.invariant.begun
