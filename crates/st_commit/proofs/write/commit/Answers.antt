use Rattle.std.proofs.Common.{◌≡◌, inr, ◌≤◌, ◌^◌, Some, sym, ◌∙◌, subst, arith}
use Rattle.std.proofs.lemmas.Option.{slice_get_within}
use Rattle.st_rack.specs.Device.{Path, State}
use Rattle.st_rack.specs.Calls.{Devices}
use Rattle.st_rack.proofs.Moments.{keeps_on, keeps_weak}
use Rattle.st_slots.specs.Places.{Lies}
use Rattle.st_slots.specs.declared.spot.Area.{Area}
use Rattle.st_slots.proofs.Running.{on_ok}
use Rattle.st_deltalog.specs.Bearing.{IsSettled}
use Rattle.st_commit.specs.Standing.{OneOf, Only, standing_of}
use Rattle.st_commit.specs.Ready.{next, NoOther}
use Rattle.st_commit.proofs.Frame.{spares_on}
use Rattle.st_commit.proofs.Known.{known_start}
use Rattle.st_commit.proofs.Settled.{rewritten_settled}
use Rattle.st_commit.proofs.Writes.{next_top, write_spares, write_known, write_known_done, write_first, write_first_done}
use Rattle.st_commit.proofs.write.commit.Goals as goal

small_of : {devs : Devices} {d : Path} {pool : Area} → Lies devs d pool → pool.slot ≤ 2 ^ 32
small_of lies = omega (arith, lies.small)

some_inj : (a b : Path) → Some a ≡ Some b → a ≡ b
some_inj a b e = cc

first_settled : (s : State) (a b : Path) → a ≡ b → IsSettled (s a) → IsSettled (s b)
first_settled s a b e settled = subst (λ (q : Path). IsSettled (s q)) e settled

pub returns-in_err-write_next-clause-spares : goal.returns-in_err-write_next-clause-spares
returns-in_err-write_next-clause-spares g c = write_spares g.R.Rack.moment g.R.Rack.state_at c.args.pool.now c.args.devs.now c.args.generation c.args.rec.now c.at.result.now c.args.rack.now c.write_next.new.rack c.write_next.ensures.eight c.requires.from c.requires.until (small_of (c.requires.lie c.at.result.now (record { index = 0; is = c.at.ensures }))) c.requires.fits (record { index = 0; is = c.at.ensures }) c.write_next.ensures.time

pub spread-requires-clause-small : goal.spread-requires-clause-small
spread-requires-clause-small g c = (c.requires.lie c.at.result.now (record { index = 0; is = c.at.ensures })).small

pub returns-clause-spares : goal.returns-clause-spares
returns-clause-spares g c =
    spares_on c.args.pool.now c.args.generation c.args.devs.now g.R.Rack.moment g.R.Rack.state_at c.args.rack.now c.write_next.new.rack c.spread.new.rack
    (write_spares g.R.Rack.moment g.R.Rack.state_at c.args.pool.now c.args.devs.now c.args.generation c.args.rec.now c.at.result.now c.args.rack.now c.write_next.new.rack c.write_next.ensures.eight c.requires.from c.requires.until (small_of (c.requires.lie c.at.result.now (record { index = 0; is = c.at.ensures }))) c.requires.fits (record { index = 0; is = c.at.ensures }) c.write_next.ensures.time) c.spread.ensures.spares

pub returns-in_err-write_next-clause-others : goal.returns-in_err-write_next-clause-others
returns-in_err-write_next-clause-others g c =
    let start = g.R.Rack.state_at c.args.rack.now (g.R.Rack.moment c.args.rack.now) in
    write_known g.R.Rack.moment g.R.Rack.state_at c.args.pool.now c.args.devs.now c.args.generation c.args.rec.now c.at.result.now c.args.rack.now c.write_next.new.rack c.write_next.ensures.eight c.requires.from c.requires.until (small_of (c.requires.lie c.at.result.now (record { index = 0; is = c.at.ensures }))) c.requires.fits c.write_next.ensures.time start (known_start c.args.pool.now c.args.devs.now c.args.generation c.args.rec.now start)

pub returns-clause-others : goal.returns-clause-others
returns-clause-others g c =
    let start = g.R.Rack.state_at c.args.rack.now (g.R.Rack.moment c.args.rack.now) in
    let known = known_start c.args.pool.now c.args.devs.now c.args.generation c.args.rec.now start in
    keeps_on g.R.Rack.moment g.R.Rack.state_at (NoOther c.args.pool.now c.args.devs.now c.args.generation c.args.rec.now start) c.args.rack.now c.write_next.new.rack c.spread.new.rack
    (write_known g.R.Rack.moment g.R.Rack.state_at c.args.pool.now c.args.devs.now c.args.generation c.args.rec.now c.at.result.now c.args.rack.now c.write_next.new.rack c.write_next.ensures.eight c.requires.from c.requires.until (small_of (c.requires.lie c.at.result.now (record { index = 0; is = c.at.ensures }))) c.requires.fits c.write_next.ensures.time start known) (c.spread.ensures.others start (write_known_done g.R.Rack.moment g.R.Rack.state_at c.args.pool.now c.args.devs.now c.args.generation c.args.rec.now c.at.result.now c.args.rack.now c.write_next.new.rack c.write_next.ensures.eight c.requires.from c.requires.until (small_of (c.requires.lie c.at.result.now (record { index = 0; is = c.at.ensures }))) c.requires.fits c.in_ok-write_next.ensures.done start known))

pub returns-in_err-write_next-clause-during : goal.returns-in_err-write_next-clause-during
returns-in_err-write_next-clause-during g c =
    λ flex p up was_g h first was log sound apart before. write_first g.R.Rack.moment g.R.Rack.state_at c.args.pool.now c.args.devs.now c.args.generation c.args.rec.now c.at.result.now c.args.rack.now c.write_next.new.rack c.write_next.ensures.eight c.requires.from c.requires.until (small_of (c.requires.lie c.at.result.now (record { index = 0; is = c.at.ensures }))) c.requires.fits c.at.ensures flex p up was_g h first was log sound apart before c.write_next.ensures.time

pub returns-clause-during : goal.returns-clause-during
returns-clause-during g c =
    let M = g.R.Rack.moment in
    let S = g.R.Rack.state_at in
    let pool = c.args.pool.now in
    let devs = c.args.devs.now in
    let G = c.args.generation in
    let rec = c.args.rec.now in
    let r1 = c.write_next.new.rack in
    let r2 = c.spread.new.rack in
    λ flex p up was_g h first was log sound apart before.
    let Q : State → Type 0 = OneOf pool flex p devs first (standing_of was_g (h was_g) was) (standing_of G rec (Some log)) in
    keeps_on M S Q c.args.rack.now r1 r2 (write_first g.R.Rack.moment g.R.Rack.state_at c.args.pool.now c.args.devs.now c.args.generation c.args.rec.now c.at.result.now c.args.rack.now c.write_next.new.rack c.write_next.ensures.eight c.requires.from c.requires.until (small_of (c.requires.lie c.at.result.now (record { index = 0; is = c.at.ensures }))) c.requires.fits c.at.ensures flex p up was_g h first was log sound apart before c.write_next.ensures.time)
    (keeps_weak M S (Only pool flex p devs first (standing_of G rec (Some log))) Q r1 r2 (λ s all image leaves. ((all image leaves).0, inr (all image leaves).1))
    (c.spread.ensures.during flex p up (next G rec h) first log sound before.head (next_top G rec h)
    (write_first_done g.R.Rack.moment g.R.Rack.state_at c.args.pool.now c.args.devs.now c.args.generation c.args.rec.now c.at.result.now c.args.rack.now c.write_next.new.rack c.write_next.ensures.eight c.requires.from c.requires.until (small_of (c.requires.lie c.at.result.now (record { index = 0; is = c.at.ensures }))) c.requires.fits c.at.ensures flex p up was_g h first was log sound apart before c.in_ok-write_next.ensures.done)))

pub returns-clause-done : goal.returns-clause-done
returns-clause-done g c =
    on_ok c.spread.result _ _ (λ done flex p up was_g h first was log sound apart before.
    let all = done flex p up (next c.args.generation c.args.rec.now h) first log sound before.head (next_top c.args.generation c.args.rec.now h)
    (write_first_done g.R.Rack.moment g.R.Rack.state_at c.args.pool.now c.args.devs.now c.args.generation c.args.rec.now c.at.result.now c.args.rack.now c.write_next.new.rack c.write_next.ensures.eight c.requires.from c.requires.until (small_of (c.requires.lie c.at.result.now (record { index = 0; is = c.at.ensures }))) c.requires.fits c.at.ensures flex p up was_g h first was log sound apart before c.in_ok-write_next.ensures.done) in
    (all.0, λ d of. all.1 of.index d (slice_get_within c.args.devs.now of.index d of.is) of.is)) c.spread.ensures.done

pub returns-clause-settled : goal.returns-clause-settled
returns-clause-settled g c =
    let S = g.R.Rack.state_at c.write_next.new.rack (g.R.Rack.moment c.write_next.new.rack) in
    on_ok c.spread.result _ _ (λ done d of.
    done (λ first head. first_settled S c.at.result.now first (some_inj c.at.result.now first (sym c.at.ensures ∙ head)) (rewritten_settled _ _ _ _ c.in_ok-write_next.ensures.done.here))
    of.index d (slice_get_within c.args.devs.now of.index d of.is) of.is) c.spread.ensures.settled
