use Rattle.std.proofs.Common.{◌≡◌, ℕ, map, IfOk, sym, ◌∙◌, subst, arith}
use Rattle.std.proofs.lemmas.Result.{err_from_is_err_and}
use Rattle.st_rack.specs.Device.{Path, Image, held}
use Rattle.st_rack.specs.Calls.{Devices, Has, Rises}
use Rattle.st_commit.specs.Ready.{IsOf}
use Rattle.st_looks.specs.Looked.{looked}
use Rattle.st_starting.specs.inner.Finding.{IsFinding}
use Rattle.st_starting.proofs.Synced.{moved_looks, rose_after}
use Rattle.st_starting.proofs.finding.find.Goals as goal

pub returns-in_err-looks-clause-found : goal.returns-in_err-looks-clause-found
returns-in_err-looks-clause-found g c =
    let q = err_from_is_err_and c.from_residual.result c.from_residual.ensures.1 in rw q.1 tt

pub returns-in_err-looks-clause-cause : goal.returns-in_err-looks-clause-cause
returns-in_err-looks-clause-cause g c =
    let q = err_from_is_err_and c.from_residual.result c.from_residual.ensures.1 in rw (q.1, q.2) (λ e. c.in_err-looks.ensures.cause (moved_looks _ e))

pub returns-in_err-looks-clause-faults : goal.returns-in_err-looks-clause-faults
returns-in_err-looks-clause-faults g c =
    c.look_at_all.ensures.faults

pub returns-in_err-looks-clause-devs : goal.returns-in_err-looks-clause-devs
returns-in_err-looks-clause-devs g c =
    c.look_at_all.ensures.devs

pub returns-in_err-looks-clause-clock : goal.returns-in_err-looks-clause-clock
returns-in_err-looks-clause-clock g c =
    c.look_at_all.ensures.clock

pub returns-in_err-looks-clause-states : goal.returns-in_err-looks-clause-states
returns-in_err-looks-clause-states g c =
    c.look_at_all.ensures.states

pub returns-in_err-looks-clause-spare : goal.returns-in_err-looks-clause-spare
returns-in_err-looks-clause-spare g c =
    c.look_at_all.ensures.spare

pub find_among-requires-clause-there : goal.find_among-requires-clause-there
find_among-requires-clause-there g c =
    let M = g.R.Rack.moment in
    let S = g.R.Rack.state_at in
    let r0 = c.args.rack.now in
    let r1 = c.look_at_all.new.rack in
    let same_devs : g.R.Rack.devs r1 ≡ g.R.Rack.devs r0 = c.look_at_all.ensures.devs in
    let same : held (S r1 (M r1)) ≡ held (S r0 (M r0)) = (λ j. held (c.look_at_all.ensures.states j (c.look_at_all.ensures.clock j))) in
    subst (λ (ds : Devices). (d : Path) → IsOf c.args.devs.now d → (n : ℕ) × Has ds d n) (sym same_devs) c.requires.there

pub find_among-requires-clause-rises : goal.find_among-requires-clause-rises
find_among-requires-clause-rises g c =
    let M = g.R.Rack.moment in
    let S = g.R.Rack.state_at in
    let r0 = c.args.rack.now in
    let r1 = c.look_at_all.new.rack in
    let same_devs : g.R.Rack.devs r1 ≡ g.R.Rack.devs r0 = c.look_at_all.ensures.devs in
    let same : held (S r1 (M r1)) ≡ held (S r0 (M r0)) = (λ j. held (c.look_at_all.ensures.states j (c.look_at_all.ensures.clock j))) in
    subst (λ (ds : Devices). Rises ds) (sym same_devs) c.paths_rise.ensures

pub find_among-requires-clause-looks : goal.find_among-requires-clause-looks
find_among-requires-clause-looks g c =
    let M = g.R.Rack.moment in
    let S = g.R.Rack.state_at in
    let r0 = c.args.rack.now in
    let r1 = c.look_at_all.new.rack in
    let same_devs : g.R.Rack.devs r1 ≡ g.R.Rack.devs r0 = c.look_at_all.ensures.devs in
    let same : held (S r1 (M r1)) ≡ held (S r0 (M r0)) = (λ j. held (c.look_at_all.ensures.states j (c.look_at_all.ensures.clock j))) in
    c.items.ensures ∙ c.in_ok-looks.ensures.found ∙ (λ j. map (looked (sym same j)) (sym same_devs j))

pub returns-clause-found : goal.returns-clause-found
returns-clause-found g c =
    let M = g.R.Rack.moment in
    let S = g.R.Rack.state_at in
    let r0 = c.args.rack.now in
    let r1 = c.look_at_all.new.rack in
    let same_devs : g.R.Rack.devs r1 ≡ g.R.Rack.devs r0 = c.look_at_all.ensures.devs in
    let same : held (S r1 (M r1)) ≡ held (S r0 (M r0)) = (λ j. held (c.look_at_all.ensures.states j (c.look_at_all.ensures.clock j))) in
    subst (λ (x : Devices × Image). IfOk c.find_among.result (IsFinding c.args.serial x.0 c.args.devs.now x.1)) (λ j. (same_devs j, same j)) c.find_among.ensures.found

pub returns-clause-cause : goal.returns-clause-cause
returns-clause-cause g c =
    λ e. rose_after _ _ _ c.look_at_all.ensures.faults (c.find_among.ensures.cause e)

pub returns-clause-faults : goal.returns-clause-faults
returns-clause-faults g c =
    omega (arith, c.look_at_all.ensures.faults, c.find_among.ensures.faults)

pub returns-clause-devs : goal.returns-clause-devs
returns-clause-devs g c =
    c.find_among.ensures.devs ∙ c.look_at_all.ensures.devs

pub returns-clause-clock : goal.returns-clause-clock
returns-clause-clock g c =
    c.find_among.ensures.clock ∙ c.look_at_all.ensures.clock

pub returns-clause-states : goal.returns-clause-states
returns-clause-states g c =
    c.find_among.ensures.states ∙ c.look_at_all.ensures.states

pub returns-clause-spare : goal.returns-clause-spare
returns-clause-spare g c =
    c.find_among.ensures.spare ∙ c.look_at_all.ensures.spare
