use Rattle.std.proofs.Common.{◌≡◌, ℕ, sym, ◌∙◌, subst, arith}
use Rattle.std.proofs.lemmas.Result.{err_from_is_err_and}
use Rattle.st_rack.specs.Device.{Path, State, Image, held}
use Rattle.st_rack.specs.Calls.{Devices, Has, Rises}
use Rattle.st_deltalog.specs.Bearing.{IsSettled}
use Rattle.st_commit.specs.Ready.{IsOf}
use Rattle.st_starting.specs.inner.Finding.{IsFinding}
use Rattle.st_starting.proofs.Synced.{found_now, if_ok, read_on, rose_after, settled_now}
use Rattle.st_starting.proofs.starting.search.Goals as goal

pub sync_all-requires-clause-distinct : goal.sync_all-requires-clause-distinct
sync_all-requires-clause-distinct g c = c.requires.distinct

pub sync_all-requires-clause-there : goal.sync_all-requires-clause-there
sync_all-requires-clause-there g c = c.requires.there

pub returns-in_err-sync_all-clause-devs : goal.returns-in_err-sync_all-clause-devs
returns-in_err-sync_all-clause-devs g c = c.sync_all.ensures.devs

pub returns-in_err-sync_all-clause-spare : goal.returns-in_err-sync_all-clause-spare
returns-in_err-sync_all-clause-spare g c = c.sync_all.ensures.spare

pub returns-in_err-sync_all-clause-cause : goal.returns-in_err-sync_all-clause-cause
returns-in_err-sync_all-clause-cause g c = λ e. c.in_err-sync_all.ensures.cause.failed

pub returns-in_err-sync_all-clause-faults : goal.returns-in_err-sync_all-clause-faults
returns-in_err-sync_all-clause-faults g c = c.sync_all.ensures.cause.later

pub returns-in_err-sync_all-clause-time : goal.returns-in_err-sync_all-clause-time
returns-in_err-sync_all-clause-time g c = c.sync_all.ensures.time

pub returns-in_err-sync_all-clause-holds : goal.returns-in_err-sync_all-clause-holds
returns-in_err-sync_all-clause-holds g c = c.sync_all.ensures.holds

pub returns-in_err-sync_all-clause-found : goal.returns-in_err-sync_all-clause-found
returns-in_err-sync_all-clause-found g c =
    let q = err_from_is_err_and c.from_residual.result c.from_residual.ensures.1 in rw q.1 tt

pub returns-in_err-sync_all-clause-settled : goal.returns-in_err-sync_all-clause-settled
returns-in_err-sync_all-clause-settled g c =
    let q = err_from_is_err_and c.from_residual.result c.from_residual.ensures.1 in rw q.1 tt

pub find-requires : goal.find-requires
find-requires g c = record { there = subst (λ (ds : Devices). (d : Path) → IsOf c.args.devs.now d → (n : ℕ) × Has ds d n) (sym c.sync_all.ensures.devs) c.requires.there }

pub returns-clause-devs : goal.returns-clause-devs
returns-clause-devs g c = c.find.ensures.devs ∙ c.sync_all.ensures.devs

pub returns-clause-spare : goal.returns-clause-spare
returns-clause-spare g c = c.find.ensures.spare ∙ c.sync_all.ensures.spare

pub returns-clause-cause : goal.returns-clause-cause
returns-clause-cause g c = λ e. rose_after _ _ _ c.sync_all.ensures.cause.later (c.find.ensures.cause e)

pub returns-clause-faults : goal.returns-clause-faults
returns-clause-faults g c = omega (arith, c.sync_all.ensures.cause.later, c.find.ensures.faults)

pub returns-clause-time : goal.returns-clause-time
returns-clause-time g c = read_on g.R.Rack.moment g.R.Rack.state_at c.args.rack.now c.sync_all.new.rack c.find.new.rack c.find.ensures.clock c.find.ensures.states c.sync_all.ensures.time

pub returns-clause-holds : goal.returns-clause-holds
returns-clause-holds g c = λ d. subst (λ (s : State). (s d).holds ≡ (g.R.Rack.state_at c.args.rack.now (g.R.Rack.moment c.args.rack.now) d).holds) (sym (λ j. c.find.ensures.states j (c.find.ensures.clock j))) (c.sync_all.ensures.holds d)

pub returns-clause-found : goal.returns-clause-found
returns-clause-found g c =
    if_ok _ _ c.find.result (λ f found. found_now f found (sym c.find.ensures.devs) (sym (λ j. c.find.ensures.states j (c.find.ensures.clock j)))) c.find.ensures.found

pub returns-clause-settled : goal.returns-clause-settled
returns-clause-settled g c =
    settled_now _ c.find.result (λ d of. subst (λ (s : State). IsSettled (s d)) (sym (λ j. c.find.ensures.states j (c.find.ensures.clock j))) (c.in_ok-sync_all.ensures.done d of))

pub returns-in_err-sync_all-clause-rises : goal.returns-in_err-sync_all-clause-rises
returns-in_err-sync_all-clause-rises g c = subst (λ (ds : Devices). Rises ds) (sym c.sync_all.ensures.devs) c.paths_rise.ensures

pub returns-clause-rises : goal.returns-clause-rises
returns-clause-rises g c = subst (λ (ds : Devices). Rises ds) (sym (c.find.ensures.devs ∙ c.sync_all.ensures.devs)) c.paths_rise.ensures
