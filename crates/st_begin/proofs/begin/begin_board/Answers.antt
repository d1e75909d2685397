use Rattle.std.proofs.Common.{◌≡◌, refl, sym, ◌∙◌, ap, subst}
use Rattle.st_begin.specs.Begun.{HasBegun, IsBack}
use Rattle.st_begin.proofs.Beginning.{at_rest, back, back_itself, begun}
use Rattle.st_begin.proofs.begin.begin_board.Goals as goal

pub board_on-requires : goal.board_on-requires
board_on-requires g c =
    let R = g.R.Rack in let old = c.args.rack in let is = c.in-Ok.ensures.opened in
    let valid = c.found_is_valid.ensures (R.devs old) _ is.state is.stood c.devices.ensures.rises c.requires in
    (is.state, at_rest R.devs R.moment R.state_at R.faults R.spare old c.open.new.rack c.open.ensures.devs c.open.ensures.during c.open.ensures.faults c.in-Ok.found is valid)

pub returns-in-Ready-clause-ready : goal.returns-in-Ready-clause-ready
returns-in-Ready-clause-ready g c = λ v eq.
    let R = g.R.Rack in let old = c.args.rack in let is = c.in-Ok.ensures.opened in
    let valid = c.found_is_valid.ensures (R.devs old) _ is.state is.stood c.devices.ensures.rises c.requires in
    let same : c.in-Ready.board ≡ v = cc in
    subst (λ w. HasBegun R.devs R.moment R.state_at R.faults R.spare old w) same
    (begun R.devs R.moment R.state_at R.faults R.spare old c.open.new.rack c.open.ensures.devs c.open.ensures.during c.open.ensures.faults c.in-Ok.found is valid c.in-Ready.board
    (c.in-Ready.ensures.ready c.in-Ready.board refl is.state (at_rest R.devs R.moment R.state_at R.faults R.spare old c.open.new.rack c.open.ensures.devs c.open.ensures.during c.open.ensures.faults c.in-Ok.found is valid)))

pub returns-in-Ok-clause-refused : goal.returns-in-Ok-clause-refused
returns-in-Ok-clause-refused g c = λ v eq.
    let R = g.R.Rack in
    let same : c.in-NoMemory.rack ≡ v = cc in
    subst (λ x. IsBack R.devs R.moment R.state_at R.faults c.args.rack x) same
    (back R.devs R.moment R.state_at R.faults R.spare c.args.rack c.open.new.rack c.open.ensures.devs c.open.ensures.during c.open.ensures.faults c.in-NoMemory.rack (c.in-NoMemory.ensures.refused c.in-NoMemory.rack refl))

pub returns-in-Err-Fault-clause-fault_back : goal.returns-in-Err-Fault-clause-fault_back
returns-in-Err-Fault-clause-fault_back g c = λ v eq.
    let R = g.R.Rack in
    let same : c.open.new.rack ≡ v = cc in
    subst (λ x. IsBack R.devs R.moment R.state_at R.faults c.args.rack x) same (back_itself R.devs R.moment R.state_at R.faults R.spare c.args.rack c.open.new.rack c.open.ensures.devs c.open.ensures.during c.open.ensures.faults)

pub returns-in-Err-Foreign-clause-foreign_back : goal.returns-in-Err-Foreign-clause-foreign_back
returns-in-Err-Foreign-clause-foreign_back g c = λ n v eq.
    let R = g.R.Rack in
    let same : c.open.new.rack ≡ v = cc in
    subst (λ x. IsBack R.devs R.moment R.state_at R.faults c.args.rack x) same (back_itself R.devs R.moment R.state_at R.faults R.spare c.args.rack c.open.new.rack c.open.ensures.devs c.open.ensures.during c.open.ensures.faults)

pub returns-clause-refused : goal.returns-clause-refused
returns-clause-refused g c = λ v eq.
    let R = g.R.Rack in
    let same : c.open.new.rack ≡ v = cc in
    subst (λ x. IsBack R.devs R.moment R.state_at R.faults c.args.rack x) same (back_itself R.devs R.moment R.state_at R.faults R.spare c.args.rack c.open.new.rack c.open.ensures.devs c.open.ensures.during c.open.ensures.faults)
