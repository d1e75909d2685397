use Rattle.std.proofs.Common.{refl, sym, subst, arith}
use Rattle.st_rack.specs.Device.{held}
use Rattle.st_judge.specs.declared.judging.Verdict.{Verdict}
use Rattle.st_judge.specs.Verdicts.{IsVerdict}
use Rattle.st_starting.specs.declared.finding.Finding.{Finding}
use Rattle.st_starting.specs.inner.Finding.{IsFinding}
use Rattle.st_starting.proofs.Taken.{ok_fault, memory_fault, found_nothing, found_lacking, found_breaks}
use Rattle.st_starting.proofs.finding.find_said.Goals as goal

pub returns-in-Nothing-clause-found : goal.returns-in-Nothing-clause-found
returns-in-Nothing-clause-found g c =
    let p = c.args.serial in
    let devs = g.R.Rack.devs c.args.rack.now in
    let image = held (g.R.Rack.state_at c.args.rack.now (g.R.Rack.moment c.args.rack.now)) in
    let said = subst (λ (v : Verdict). IsVerdict p devs image v) c.in-Nothing.is c.requires.said in
    subst (λ (f : Finding). IsFinding p devs c.args.devs.now image f) (sym c.only.ensures) (found_nothing p devs c.args.devs.now image said)

pub returns-in-Nothing-clause-cause : goal.returns-in-Nothing-clause-cause
returns-in-Nothing-clause-cause g c =
    λ e. absurd (ok_fault c.only.result e)

pub returns-in-Nothing-clause-faults : goal.returns-in-Nothing-clause-faults
returns-in-Nothing-clause-faults g c =
    omega arith

pub returns-in-Nothing-clause-devs : goal.returns-in-Nothing-clause-devs
returns-in-Nothing-clause-devs g c =
    refl

pub returns-in-Nothing-clause-clock : goal.returns-in-Nothing-clause-clock
returns-in-Nothing-clause-clock g c =
    refl

pub returns-in-Nothing-clause-states : goal.returns-in-Nothing-clause-states
returns-in-Nothing-clause-states g c =
    refl

pub returns-in-Nothing-clause-spare : goal.returns-in-Nothing-clause-spare
returns-in-Nothing-clause-spare g c =
    refl

pub find_gone-requires-clause-there : goal.find_gone-requires-clause-there
find_gone-requires-clause-there g c =
    c.requires.there

pub find_gone-requires-clause-rises : goal.find_gone-requires-clause-rises
find_gone-requires-clause-rises g c =
    c.requires.rises

pub returns-in-Err-clause-cause : goal.returns-in-Err-clause-cause
returns-in-Err-clause-cause g c =
    λ e. absurd (memory_fault e)

pub returns-in-Err-clause-faults : goal.returns-in-Err-clause-faults
returns-in-Err-clause-faults g c =
    omega arith

pub returns-in-Err-clause-devs : goal.returns-in-Err-clause-devs
returns-in-Err-clause-devs g c =
    refl

pub returns-in-Err-clause-clock : goal.returns-in-Err-clause-clock
returns-in-Err-clause-clock g c =
    refl

pub returns-in-Err-clause-states : goal.returns-in-Err-clause-states
returns-in-Err-clause-states g c =
    refl

pub returns-in-Err-clause-spare : goal.returns-in-Err-clause-spare
returns-in-Err-clause-spare g c =
    refl

pub returns-in-Gone-clause-found : goal.returns-in-Gone-clause-found
returns-in-Gone-clause-found g c =
    let p = c.args.serial in
    let devs = g.R.Rack.devs c.args.rack.now in
    let image = held (g.R.Rack.state_at c.args.rack.now (g.R.Rack.moment c.args.rack.now)) in
    let said = subst (λ (v : Verdict). IsVerdict p devs image v) c.in-Gone.is c.requires.said in
    c.in-Ok.ensures image c.requires.looks said

pub returns-in-Gone-clause-cause : goal.returns-in-Gone-clause-cause
returns-in-Gone-clause-cause g c =
    λ e. absurd (ok_fault c.in-Ok.finding e)

pub returns-in-Gone-clause-faults : goal.returns-in-Gone-clause-faults
returns-in-Gone-clause-faults g c =
    omega arith

pub returns-in-Gone-clause-devs : goal.returns-in-Gone-clause-devs
returns-in-Gone-clause-devs g c =
    refl

pub returns-in-Gone-clause-clock : goal.returns-in-Gone-clause-clock
returns-in-Gone-clause-clock g c =
    refl

pub returns-in-Gone-clause-states : goal.returns-in-Gone-clause-states
returns-in-Gone-clause-states g c =
    refl

pub returns-in-Gone-clause-spare : goal.returns-in-Gone-clause-spare
returns-in-Gone-clause-spare g c =
    refl

pub returns-in-Lacking-clause-found : goal.returns-in-Lacking-clause-found
returns-in-Lacking-clause-found g c =
    let p = c.args.serial in
    let devs = g.R.Rack.devs c.args.rack.now in
    let image = held (g.R.Rack.state_at c.args.rack.now (g.R.Rack.moment c.args.rack.now)) in
    let said = subst (λ (v : Verdict). IsVerdict p devs image v) c.in-Lacking.is c.requires.said in
    subst (λ (f : Finding). IsFinding p devs c.args.devs.now image f) (sym c.only-in-Lacking.ensures) (found_lacking p devs c.args.devs.now image c.in-Lacking.field-0 said)

pub returns-in-Lacking-clause-cause : goal.returns-in-Lacking-clause-cause
returns-in-Lacking-clause-cause g c =
    λ e. absurd (ok_fault c.only-in-Lacking.result e)

pub returns-in-Lacking-clause-faults : goal.returns-in-Lacking-clause-faults
returns-in-Lacking-clause-faults g c =
    omega arith

pub returns-in-Lacking-clause-devs : goal.returns-in-Lacking-clause-devs
returns-in-Lacking-clause-devs g c =
    refl

pub returns-in-Lacking-clause-clock : goal.returns-in-Lacking-clause-clock
returns-in-Lacking-clause-clock g c =
    refl

pub returns-in-Lacking-clause-states : goal.returns-in-Lacking-clause-states
returns-in-Lacking-clause-states g c =
    refl

pub returns-in-Lacking-clause-spare : goal.returns-in-Lacking-clause-spare
returns-in-Lacking-clause-spare g c =
    refl

pub find_here-requires-clause-there : goal.find_here-requires-clause-there
find_here-requires-clause-there g c =
    c.requires.there

pub find_here-requires-clause-rises : goal.find_here-requires-clause-rises
find_here-requires-clause-rises g c =
    c.requires.rises

pub find_here-requires-clause-here : goal.find_here-requires-clause-here
find_here-requires-clause-here g c =
    let p = c.args.serial in
    let devs = g.R.Rack.devs c.args.rack.now in
    let image = held (g.R.Rack.state_at c.args.rack.now (g.R.Rack.moment c.args.rack.now)) in
    let said = subst (λ (v : Verdict). IsVerdict p devs image v) c.in-Here.is c.requires.said in
    said

pub returns-in-Here-clause-found : goal.returns-in-Here-clause-found
returns-in-Here-clause-found g c =
    c.find_here.ensures.found

pub returns-in-Here-clause-cause : goal.returns-in-Here-clause-cause
returns-in-Here-clause-cause g c =
    c.find_here.ensures.cause

pub returns-in-Here-clause-faults : goal.returns-in-Here-clause-faults
returns-in-Here-clause-faults g c =
    c.find_here.ensures.faults

pub returns-in-Here-clause-devs : goal.returns-in-Here-clause-devs
returns-in-Here-clause-devs g c =
    c.find_here.ensures.devs

pub returns-in-Here-clause-clock : goal.returns-in-Here-clause-clock
returns-in-Here-clause-clock g c =
    c.find_here.ensures.clock

pub returns-in-Here-clause-states : goal.returns-in-Here-clause-states
returns-in-Here-clause-states g c =
    c.find_here.ensures.states

pub returns-in-Here-clause-spare : goal.returns-in-Here-clause-spare
returns-in-Here-clause-spare g c =
    c.find_here.ensures.spare

pub returns-clause-found : goal.returns-clause-found
returns-clause-found g c =
    let p = c.args.serial in
    let devs = g.R.Rack.devs c.args.rack.now in
    let image = held (g.R.Rack.state_at c.args.rack.now (g.R.Rack.moment c.args.rack.now)) in
    let said = subst (λ (v : Verdict). IsVerdict p devs image v) c.in-Breaks.is c.requires.said in
    subst (λ (f : Finding). IsFinding p devs c.args.devs.now image f) (sym c.only-in-Breaks.ensures) (found_breaks p devs c.args.devs.now image said)

pub returns-clause-cause : goal.returns-clause-cause
returns-clause-cause g c =
    λ e. absurd (ok_fault c.only-in-Breaks.result e)

pub returns-clause-faults : goal.returns-clause-faults
returns-clause-faults g c =
    omega arith

pub returns-clause-devs : goal.returns-clause-devs
returns-clause-devs g c =
    refl

pub returns-clause-clock : goal.returns-clause-clock
returns-clause-clock g c =
    refl

pub returns-clause-states : goal.returns-clause-states
returns-clause-states g c =
    refl

pub returns-clause-spare : goal.returns-clause-spare
returns-clause-spare g c =
    refl
