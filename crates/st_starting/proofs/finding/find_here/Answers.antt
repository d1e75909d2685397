use Rattle.std.proofs.Common.{◌≡◌, true, false, Option, refl, sym, ap, subst, arith}
use Rattle.std.proofs.lemmas.Result.{err_from_is_err_and}
use Rattle.st_flexlog.specs.declared.state.FlexState.{FlexState}
use Rattle.st_deltalog.specs.declared.area.FlexArea.{FlexArea}
use Rattle.st_deltalog.specs.declared.area.Tail.{Tail}
use Rattle.st_flexat.specs.FlexAt.{FlexFound, IsFlexAt}
use Rattle.st_rack.specs.Device.{held}
use Rattle.st_slots.specs.Places.{Lies}
use Rattle.st_image.specs.Looks.{flex_area}
use Rattle.st_image.specs.Bears.{first_of, path_in}
use Rattle.st_image.proofs.Committing.{some_device}
use Rattle.st_starting.specs.declared.finding.Finding.{Finding}
use Rattle.st_starting.specs.inner.Finding.{IsFinding}
use Rattle.st_starting.proofs.Taken.{moved_fault, ok_fault, first_lies, here_elsewhere, here_silent, here_other, here_found, here_until, log_said, text_short}
use Rattle.st_starting.proofs.finding.find_here.Goals as goal

pub returns-then-not-are_rows-clause-found : goal.returns-then-not-are_rows-clause-found
returns-then-not-are_rows-clause-found g c =
    let p = c.args.serial in
    let G = c.args.generation in
    let rec = c.args.rec in
    let devs = g.R.Rack.devs c.args.rack.now in
    let image = held (g.R.Rack.state_at c.args.rack.now (g.R.Rack.moment c.args.rack.now)) in
    subst (λ (f : Finding). IsFinding p devs c.args.devs.now image f) (sym c.only.ensures)
    (here_elsewhere p devs c.args.devs.now image G rec c.requires.here (λ on. (let yes : c.are_rows.result ≡ true = c.are_rows.ensures.1 on in absurd (cc))))

pub returns-then-not-are_rows-clause-cause : goal.returns-then-not-are_rows-clause-cause
returns-then-not-are_rows-clause-cause g c =
    λ e. absurd (ok_fault c.only.result e)

pub returns-then-not-are_rows-clause-faults : goal.returns-then-not-are_rows-clause-faults
returns-then-not-are_rows-clause-faults g c =
    omega arith

pub returns-then-not-are_rows-clause-devs : goal.returns-then-not-are_rows-clause-devs
returns-then-not-are_rows-clause-devs g c =
    refl

pub returns-then-not-are_rows-clause-clock : goal.returns-then-not-are_rows-clause-clock
returns-then-not-are_rows-clause-clock g c =
    refl

pub returns-then-not-are_rows-clause-states : goal.returns-then-not-are_rows-clause-states
returns-then-not-are_rows-clause-states g c =
    refl

pub returns-then-not-are_rows-clause-spare : goal.returns-then-not-are_rows-clause-spare
returns-then-not-are_rows-clause-spare g c =
    refl

pub at-requires : goal.at-requires
at-requires g c =
    some_device c.args.rec c.requires.here.bears.is.valid

pub flex_at-requires : goal.flex_at-requires
flex_at-requires g c =
    let p = c.args.serial in
    let G = c.args.generation in
    let rec = c.args.rec in
    let devs = g.R.Rack.devs c.args.rack.now in
    let image = held (g.R.Rack.state_at c.args.rack.now (g.R.Rack.moment c.args.rack.now)) in
    subst (λ (fa : FlexArea). Lies devs c.at.result.now.path fa.area) (sym c.flex_area.ensures) (first_lies p devs image c.requires.rises G rec c.requires.here c.at.result.now c.at.ensures)

pub returns-in_err-read-clause-found : goal.returns-in_err-read-clause-found
returns-in_err-read-clause-found g c =
    let q = err_from_is_err_and c.from_residual.result c.from_residual.ensures.1 in rw q.1 tt

pub returns-in_err-read-clause-cause : goal.returns-in_err-read-clause-cause
returns-in_err-read-clause-cause g c =
    let q = err_from_is_err_and c.from_residual.result c.from_residual.ensures.1 in rw (q.1, q.2) (λ e. c.in_err-read.ensures.cause (moved_fault _ e))

pub returns-in_err-read-clause-faults : goal.returns-in_err-read-clause-faults
returns-in_err-read-clause-faults g c =
    c.flex_at.ensures.faults

pub returns-in_err-read-clause-devs : goal.returns-in_err-read-clause-devs
returns-in_err-read-clause-devs g c =
    c.flex_at.ensures.same.devices

pub returns-in_err-read-clause-clock : goal.returns-in_err-read-clause-clock
returns-in_err-read-clause-clock g c =
    c.flex_at.ensures.same.clock

pub returns-in_err-read-clause-states : goal.returns-in_err-read-clause-states
returns-in_err-read-clause-states g c =
    c.flex_at.ensures.same.states

pub returns-in_err-read-clause-spare : goal.returns-in_err-read-clause-spare
returns-in_err-read-clause-spare g c =
    c.flex_at.ensures.same.spares

pub may_go_on-requires : goal.may_go_on-requires
may_go_on-requires g c =
    here_until c.args.serial (g.R.Rack.devs c.args.rack.now) (held (g.R.Rack.state_at c.args.rack.now (g.R.Rack.moment c.args.rack.now))) c.args.generation c.args.rec c.requires.here

pub returns-then-not-may_go_on-clause-found : goal.returns-then-not-may_go_on-clause-found
returns-then-not-may_go_on-clause-found g c =
    let p = c.args.serial in
    let G = c.args.generation in
    let rec = c.args.rec in
    let devs = g.R.Rack.devs c.args.rack.now in
    let image = held (g.R.Rack.state_at c.args.rack.now (g.R.Rack.moment c.args.rack.now)) in
    let first : c.at.result.now.path ≡ first_of rec = sym (ap path_in c.at.ensures) in
    let said : IsFlexAt flex_area p G (image (first_of rec)) c.in_ok-read.read = log_said image c.flex_area.result c.number.result p G c.at.result.now.path (first_of rec) c.in_ok-read.read c.flex_area.ensures c.number.ensures.value first c.in_ok-read.ensures.found in
    let one : FlexFound flex_area p G (image (first_of rec)) (c.in-Some.flex, c.in-Some.tail) = subst (λ (o : Option (FlexState × Tail)). IsFlexAt flex_area p G (image (first_of rec)) o) c.in-Some.is said in
    subst (λ (f : Finding). IsFinding p devs c.args.devs.now image f) (sym c.only-then-not-may_go_on.ensures)
    (here_other p devs c.args.devs.now image G rec c.requires.here c.in-Some.flex one.at (λ version bare. (let yes : c.may_go_on.result ≡ true = c.may_go_on.ensures.1 (version, bare) in absurd (cc))))

pub returns-then-not-may_go_on-clause-cause : goal.returns-then-not-may_go_on-clause-cause
returns-then-not-may_go_on-clause-cause g c =
    λ e. absurd (ok_fault c.only-then-not-may_go_on.result e)

pub returns-then-not-may_go_on-clause-faults : goal.returns-then-not-may_go_on-clause-faults
returns-then-not-may_go_on-clause-faults g c =
    c.flex_at.ensures.faults

pub returns-then-not-may_go_on-clause-devs : goal.returns-then-not-may_go_on-clause-devs
returns-then-not-may_go_on-clause-devs g c =
    c.flex_at.ensures.same.devices

pub returns-then-not-may_go_on-clause-clock : goal.returns-then-not-may_go_on-clause-clock
returns-then-not-may_go_on-clause-clock g c =
    c.flex_at.ensures.same.clock

pub returns-then-not-may_go_on-clause-states : goal.returns-then-not-may_go_on-clause-states
returns-then-not-may_go_on-clause-states g c =
    c.flex_at.ensures.same.states

pub returns-then-not-may_go_on-clause-spare : goal.returns-then-not-may_go_on-clause-spare
returns-then-not-may_go_on-clause-spare g c =
    c.flex_at.ensures.same.spares

pub encode-requires : goal.encode-requires
encode-requires g c =
    c.requires.here.bears.is.valid

pub returns-in_err-text-in-Some-clause-found : goal.returns-in_err-text-in-Some-clause-found
returns-in_err-text-in-Some-clause-found g c =
    let q = err_from_is_err_and c.from_residual-in_err-text-in-Some.result c.from_residual-in_err-text-in-Some.ensures.1 in rw q.1 tt

pub returns-in_err-text-in-Some-clause-cause : goal.returns-in_err-text-in-Some-clause-cause
returns-in_err-text-in-Some-clause-cause g c =
    let q = err_from_is_err_and c.from_residual-in_err-text-in-Some.result c.from_residual-in_err-text-in-Some.ensures.1 in rw (q.1, q.2) (λ e. absurd (cc))

pub returns-in_err-text-in-Some-clause-faults : goal.returns-in_err-text-in-Some-clause-faults
returns-in_err-text-in-Some-clause-faults g c =
    c.flex_at.ensures.faults

pub returns-in_err-text-in-Some-clause-devs : goal.returns-in_err-text-in-Some-clause-devs
returns-in_err-text-in-Some-clause-devs g c =
    c.flex_at.ensures.same.devices

pub returns-in_err-text-in-Some-clause-clock : goal.returns-in_err-text-in-Some-clause-clock
returns-in_err-text-in-Some-clause-clock g c =
    c.flex_at.ensures.same.clock

pub returns-in_err-text-in-Some-clause-states : goal.returns-in_err-text-in-Some-clause-states
returns-in_err-text-in-Some-clause-states g c =
    c.flex_at.ensures.same.states

pub returns-in_err-text-in-Some-clause-spare : goal.returns-in_err-text-in-Some-clause-spare
returns-in_err-text-in-Some-clause-spare g c =
    c.flex_at.ensures.same.spares

pub returns-in_err-newest-in-Some-clause-found : goal.returns-in_err-newest-in-Some-clause-found
returns-in_err-newest-in-Some-clause-found g c =
    let q = err_from_is_err_and c.from_residual-in_err-newest-in-Some.result c.from_residual-in_err-newest-in-Some.ensures.1 in rw q.1 tt

pub returns-in_err-newest-in-Some-clause-cause : goal.returns-in_err-newest-in-Some-clause-cause
returns-in_err-newest-in-Some-clause-cause g c =
    let q = err_from_is_err_and c.from_residual-in_err-newest-in-Some.result c.from_residual-in_err-newest-in-Some.ensures.1 in rw (q.1, q.2) (λ e. absurd (cc))

pub returns-in_err-newest-in-Some-clause-faults : goal.returns-in_err-newest-in-Some-clause-faults
returns-in_err-newest-in-Some-clause-faults g c =
    c.flex_at.ensures.faults

pub returns-in_err-newest-in-Some-clause-devs : goal.returns-in_err-newest-in-Some-clause-devs
returns-in_err-newest-in-Some-clause-devs g c =
    c.flex_at.ensures.same.devices

pub returns-in_err-newest-in-Some-clause-clock : goal.returns-in_err-newest-in-Some-clause-clock
returns-in_err-newest-in-Some-clause-clock g c =
    c.flex_at.ensures.same.clock

pub returns-in_err-newest-in-Some-clause-states : goal.returns-in_err-newest-in-Some-clause-states
returns-in_err-newest-in-Some-clause-states g c =
    c.flex_at.ensures.same.states

pub returns-in_err-newest-in-Some-clause-spare : goal.returns-in_err-newest-in-Some-clause-spare
returns-in_err-newest-in-Some-clause-spare g c =
    c.flex_at.ensures.same.spares

pub newest_of-requires : goal.newest_of-requires
newest_of-requires g c =
    text_short c.args.rec c.in_ok-text-in-Some.text c.in_ok-text-in-Some.ensures

pub returns-in-None-clause-found : goal.returns-in-None-clause-found
returns-in-None-clause-found g c =
    let p = c.args.serial in
    let G = c.args.generation in
    let rec = c.args.rec in
    let devs = g.R.Rack.devs c.args.rack.now in
    let image = held (g.R.Rack.state_at c.args.rack.now (g.R.Rack.moment c.args.rack.now)) in
    let first : c.at.result.now.path ≡ first_of rec = sym (ap path_in c.at.ensures) in
    let said : IsFlexAt flex_area p G (image (first_of rec)) c.in_ok-read.read = log_said image c.flex_area.result c.number.result p G c.at.result.now.path (first_of rec) c.in_ok-read.read c.flex_area.ensures c.number.ensures.value first c.in_ok-read.ensures.found in
    subst (λ (f : Finding). IsFinding p devs c.args.devs.now image f) (sym c.only-in-None.ensures)
    (here_silent p devs c.args.devs.now image G rec c.requires.here (subst (λ (o : Option (FlexState × Tail)). IsFlexAt flex_area p G (image (first_of rec)) o) c.in-None.is said))

pub returns-in-None-clause-cause : goal.returns-in-None-clause-cause
returns-in-None-clause-cause g c =
    λ e. absurd (ok_fault c.only-in-None.result e)

pub returns-in-None-clause-faults : goal.returns-in-None-clause-faults
returns-in-None-clause-faults g c =
    c.flex_at.ensures.faults

pub returns-in-None-clause-devs : goal.returns-in-None-clause-devs
returns-in-None-clause-devs g c =
    c.flex_at.ensures.same.devices

pub returns-in-None-clause-clock : goal.returns-in-None-clause-clock
returns-in-None-clause-clock g c =
    c.flex_at.ensures.same.clock

pub returns-in-None-clause-states : goal.returns-in-None-clause-states
returns-in-None-clause-states g c =
    c.flex_at.ensures.same.states

pub returns-in-None-clause-spare : goal.returns-in-None-clause-spare
returns-in-None-clause-spare g c =
    c.flex_at.ensures.same.spares

pub returns-in_ok-newest-in-Some-clause-found : goal.returns-in_ok-newest-in-Some-clause-found
returns-in_ok-newest-in-Some-clause-found g c =
    let p = c.args.serial in
    let G = c.args.generation in
    let rec = c.args.rec in
    let devs = g.R.Rack.devs c.args.rack.now in
    let image = held (g.R.Rack.state_at c.args.rack.now (g.R.Rack.moment c.args.rack.now)) in
    let first : c.at.result.now.path ≡ first_of rec = sym (ap path_in c.at.ensures) in
    let said : IsFlexAt flex_area p G (image (first_of rec)) c.in_ok-read.read = log_said image c.flex_area.result c.number.result p G c.at.result.now.path (first_of rec) c.in_ok-read.read c.flex_area.ensures c.number.ensures.value first c.in_ok-read.ensures.found in
    let one : FlexFound flex_area p G (image (first_of rec)) (c.in-Some.flex, c.in-Some.tail) = subst (λ (o : Option (FlexState × Tail)). IsFlexAt flex_area p G (image (first_of rec)) o) c.in-Some.is said in
    let fits = c.may_go_on.ensures.0 c.if-not-may_go_on.false in
    let made = c.in_ok-newest-in-Some.ensures in
    here_found p devs c.args.devs.now image G rec c.requires.here c.requires.rises (c.are_rows.ensures.0 c.if-not-are_rows.false) (record { rec = rec; flex = c.in-Some.flex; generation = G; tail = c.in-Some.tail; has_committed = false })
    refl refl refl one fits.0 fits.1 c.in_ok-text-in-Some.text c.in_ok-text-in-Some.ensures.spelled c.in_ok-newest-in-Some.newest made.0 made.1 made.2

pub returns-in_ok-newest-in-Some-clause-cause : goal.returns-in_ok-newest-in-Some-clause-cause
returns-in_ok-newest-in-Some-clause-cause g c =
    λ e. absurd (ok_fault _ e)

pub returns-in_ok-newest-in-Some-clause-faults : goal.returns-in_ok-newest-in-Some-clause-faults
returns-in_ok-newest-in-Some-clause-faults g c =
    c.flex_at.ensures.faults

pub returns-in_ok-newest-in-Some-clause-devs : goal.returns-in_ok-newest-in-Some-clause-devs
returns-in_ok-newest-in-Some-clause-devs g c =
    c.flex_at.ensures.same.devices

pub returns-in_ok-newest-in-Some-clause-clock : goal.returns-in_ok-newest-in-Some-clause-clock
returns-in_ok-newest-in-Some-clause-clock g c =
    c.flex_at.ensures.same.clock

pub returns-in_ok-newest-in-Some-clause-states : goal.returns-in_ok-newest-in-Some-clause-states
returns-in_ok-newest-in-Some-clause-states g c =
    c.flex_at.ensures.same.states

pub returns-in_ok-newest-in-Some-clause-spare : goal.returns-in_ok-newest-in-Some-clause-spare
returns-in_ok-newest-in-Some-clause-spare g c =
    c.flex_at.ensures.same.spares
