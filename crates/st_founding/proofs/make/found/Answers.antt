use Rattle.std.proofs.Common.{◌≡◌, ◌≤◌, ◌+◌, ◌∙◌, length, min, true, Some, refl, sym, ap, subst, arith}
use Rattle.st_units.specs.declared.cause.Cause.TheVariants.{DeviceFault}
use Rattle.st_model.specs.declared.entry.Env.TheVariants.{FaultWrite, Plain}
use Rattle.st_model.specs.declared.reply.Given.TheVariants.{Created}
use Rattle.st_model.specs.Answer.{accepted, refused}
use Rattle.st_model.specs.declared.state.TableState.{TableState}
use Rattle.st_rack.specs.Parts.{AreApart, Joins}
use Rattle.st_table.specs.Stands.{Stands}
use Rattle.st_board.specs.Holds.{Holds}
use Rattle.st_board.specs.View.{BoardView, last}
use Rattle.st_board.proofs.Lending.{holds_added, holds_back, holds_same, parts_apart}
use Rattle.st_founding.specs.Founding.{HasFounded, IsLeft, MayFound, new_table}
use Rattle.st_founding.proofs.Planned.{is_distinct, may_take, there}
use Rattle.st_founding.proofs.Founding.{broken_is, has_added, has_founded, here_is, ready_is}
use Rattle.st_founding.proofs.Slack.{slack_cut}
use Rattle.st_founding.proofs.make.found.Goals as goal

pub split_off-requires-clause-distinct : goal.split_off-requires-clause-distinct
split_off-requires-clause-distinct g c =
    let may = c.requires.may in is_distinct may.0 c.args.board.state c.args.name may.1 c.args.devs may.2

pub split_off-requires-clause-there : goal.split_off-requires-clause-there
split_off-requires-clause-there g c =
    let R = g.R.Rack in let b = c.board.inside in let may = c.requires.may in
    let here = subst (λ (v : BoardView _). MayFound may.0 v.state c.args.name may.1 c.args.devs) (sym c.board.view_is) may.2 in
    there may.0 b.state.value c.args.name may.1 c.args.devs here R.devs R.moment R.state_at b.free b.halted.items c.board.invariant.keeps

pub invariant_of-result : goal.invariant_of-result
invariant_of-result g c =
    let R = g.R.Rack in let b = c.board.inside in
    holds_same R.devs R.moment R.state_at R.faults R.spare b.table b.free b.halted b.past b.state.value c.board.invariant R.reads c.split_off.new.self c.in-Err.ensures.refused c.in-Err.ensures.no_fewer c.in-Err.ensures.faults

pub make-requires : goal.make-requires
make-requires g c =
    let R = g.R.Rack in let b = c.board.inside in let may = c.requires.may in
    let here = subst (λ (v : BoardView _). MayFound may.0 v.state c.args.name may.1 c.args.devs) (sym c.board.view_is) may.2 in
    record {
      may = may_take may.0 b.state.value c.args.name may.1 c.args.devs here R.devs R.moment R.state_at b.free b.halted.items c.board.invariant.keeps c.split_off.new.self c.in-Ok.part c.in-Ok.ensures.parts
          c.args.serial (c.requires.serial ∙ ap (λ (x : TableState). x.next) (sym may.2.table));
    }

pub invariant_of-result-in-Ready : goal.invariant_of-result-in-Ready
invariant_of-result-in-Ready g c =
    let R = g.R.Rack in let b = c.board.inside in let may = c.requires.may in let name = c.args.name in let once = c.args.devs in
    let t = b.state.value in let rest = c.split_off.new.self in let part = c.in-Ok.part in let pool = c.in-Ready.pool in
    let here = subst (λ (v : BoardView _). MayFound may.0 v.state name may.1 once) (sym c.board.view_is) may.2 in
    let own = c.requires.serial ∙ ap (λ (x : TableState). x.next) (sym may.2.table) in
    let makes = c.in-Ready.ensures.ready pool refl in
    let stands = subst (λ (v : BoardView _). Stands c.args.table (new_table name once v.state)) (sym c.board.view_is) c.requires.table in
    let is = here_is may.0 t name may.1 once here R.devs R.moment R.state_at R.faults b.free b.halted.items c.board.invariant.keeps rest part c.in-Ok.ensures.parts c.args.serial own Plain _ pool makes in
    let new = ready_is may.0 t name may.1 once here pool.pool _ is in
    subst (λ (x : TableState). Holds R.devs R.moment R.state_at R.faults R.spare c.args.table rest b.halted b.past x) (sym c.state_after-state.ensures)
    (holds_added R.devs R.moment R.state_at R.faults R.spare b.table b.free b.halted b.past t c.board.invariant once rest part c.in-Ok.ensures.parts c.in-Ok.ensures.places c.args.table (new_table name once t) pool.pool
    (has_added may.0 t name may.1 once here R.devs R.moment R.state_at R.faults b.free b.halted.items c.board.invariant.keeps rest part c.in-Ok.ensures.parts c.args.serial own Plain _ pool makes new c.the_table.ensures.added) stands c.in-Ok.ensures.faults)

pub invariant_of-result-in-Broken : goal.invariant_of-result-in-Broken
invariant_of-result-in-Broken g c =
    let R = g.R.Rack in let b = c.board.inside in let may = c.requires.may in let name = c.args.name in let once = c.args.devs in
    let t = b.state.value in let rest = c.split_off.new.self in let part = c.in-Ok.part in let pool = c.in-Broken.pool in
    let here = subst (λ (v : BoardView _). MayFound may.0 v.state name may.1 once) (sym c.board.view_is) may.2 in
    let own = c.requires.serial ∙ ap (λ (x : TableState). x.next) (sym may.2.table) in
    let makes = c.in-Broken.ensures.broken pool refl in
    let stands = subst (λ (v : BoardView _). Stands c.args.table (new_table name once v.state)) (sym c.board.view_is) c.requires.table in
    let is = here_is may.0 t name may.1 once here R.devs R.moment R.state_at R.faults b.free b.halted.items c.board.invariant.keeps rest part c.in-Ok.ensures.parts c.args.serial own FaultWrite _ pool makes in
    let new = broken_is may.0 t name may.1 once here pool.pool _ is in
    subst (λ (x : TableState). Holds R.devs R.moment R.state_at R.faults R.spare c.args.table rest b.halted b.past x) (sym c.state_after-state.ensures)
    (holds_added R.devs R.moment R.state_at R.faults R.spare b.table b.free b.halted b.past t c.board.invariant once rest part c.in-Ok.ensures.parts c.in-Ok.ensures.places c.args.table (new_table name once t) pool.pool
    (has_added may.0 t name may.1 once here R.devs R.moment R.state_at R.faults b.free b.halted.items c.board.invariant.keeps rest part c.in-Ok.ensures.parts c.args.serial own FaultWrite _ pool makes new c.the_table.ensures.added) stands c.in-Ok.ensures.faults)

pub absorb-requires-clause-apart : goal.absorb-requires-clause-apart
absorb-requires-clause-apart g c =
    let R = g.R.Rack in let b = c.board.inside in
    let same : c.in-NoMemory.part ≡ c.in-Ok.part = c.in-NoMemory.ensures.refused c.in-NoMemory.part refl in
    subst (λ r. AreApart R.devs c.split_off.new.self r) (sym same)
    (parts_apart R.devs R.moment R.state_at R.faults R.spare b.table b.free b.halted b.past b.state.value c.board.invariant c.args.devs c.split_off.new.self c.in-Ok.part c.in-Ok.ensures.parts c.in-Ok.ensures.places)

pub invariant_of-result-in-NoMemory : goal.invariant_of-result-in-NoMemory
invariant_of-result-in-NoMemory g c =
    let R = g.R.Rack in let b = c.board.inside in let rest = c.split_off.new.self in let part = c.in-Ok.part in
    let same : c.in-NoMemory.part ≡ part = c.in-NoMemory.ensures.refused c.in-NoMemory.part refl in
    holds_back R.devs R.moment R.state_at R.faults R.spare b.table b.free b.halted b.past b.state.value c.board.invariant c.args.devs rest part c.in-Ok.ensures.parts c.in-Ok.ensures.places c.absorb.new.self
    (subst (λ r. Joins R.devs R.moment R.state_at rest r c.absorb.new.self) same c.absorb.ensures.joined)
    (subst (λ r. R.spare rest ≤ R.spare c.absorb.new.self + length (R.devs r)) same c.absorb.ensures.places)
    c.in-Ok.ensures.faults c.in-Ok.ensures.faults_gone
    (c.absorb.ensures.faults ∙ ap (λ r. min (R.faults rest + R.faults r) last) same) c.is_counted.ensures

pub returns-in-Ready-clause-ready : goal.returns-in-Ready-clause-ready
returns-in-Ready-clause-ready g c =
    let R = g.R.Rack in let b = c.board.inside in let name = c.args.name in let once = c.args.devs in
    let t = b.state.value in let rest = c.split_off.new.self in let part = c.in-Ok.part in let pool = c.in-Ready.pool in
    let makes = c.in-Ready.ensures.ready pool refl in
    λ v p e s paths m.
    let here = subst (λ (w : BoardView _). MayFound s w.state name paths once) (sym c.board.view_is) m in
    let own = c.requires.serial ∙ ap (λ (x : TableState). x.next) (sym m.table) in
    let is = here_is s t name paths once here R.devs R.moment R.state_at R.faults b.free b.halted.items c.board.invariant.keeps rest part c.in-Ok.ensures.parts c.args.serial own Plain _ pool makes in
    let new = ready_is s t name paths once here pool.pool _ is in
    let view : BoardView _ = record { state = c.state_after-state.result.value; spare = c.args.table.spare; free = rest; halted = b.halted.items; past = b.past } in
    let old_is : record { state = t; spare = b.table.spare; free = b.free; halted = b.halted.items; past = b.past } ≡ c.args.board = c.board.view_is in
    let boards : view ≡ v = cc in let pools : pool ≡ p = cc in
    subst (λ w. HasFounded R.devs R.moment R.state_at R.faults s name paths once Plain (accepted (Created true (Some (c.args.serial, once)))) c.args.board c.args.table.spare p w) boards
    (subst (λ w. HasFounded R.devs R.moment R.state_at R.faults s name paths once Plain (accepted (Created true (Some (c.args.serial, once)))) c.args.board c.args.table.spare w view) pools
    (subst (λ w. HasFounded R.devs R.moment R.state_at R.faults s name paths once Plain (accepted (Created true (Some (c.args.serial, once)))) w c.args.table.spare pool view) old_is
    (has_founded s t name paths once here R.devs R.moment R.state_at R.faults b.free b.halted.items c.board.invariant.keeps rest part c.in-Ok.ensures.parts c.args.serial own Plain _ pool makes new c.the_table.ensures.added
    (record { state = t; spare = b.table.spare; free = b.free; halted = b.halted.items; past = b.past }) view c.args.table.spare c.state_after-state.ensures refl c.in-Ok.ensures.faults makes.counts c.in-Ok.ensures.parts c.in-Ok.ensures.faults_gone)))

pub returns-in-Broken-clause-broken : goal.returns-in-Broken-clause-broken
returns-in-Broken-clause-broken g c =
    let R = g.R.Rack in let b = c.board.inside in let name = c.args.name in let once = c.args.devs in
    let t = b.state.value in let rest = c.split_off.new.self in let part = c.in-Ok.part in let pool = c.in-Broken.pool in
    let makes = c.in-Broken.ensures.broken pool refl in
    λ v p e s paths m.
    let here = subst (λ (w : BoardView _). MayFound s w.state name paths once) (sym c.board.view_is) m in
    let own = c.requires.serial ∙ ap (λ (x : TableState). x.next) (sym m.table) in
    let is = here_is s t name paths once here R.devs R.moment R.state_at R.faults b.free b.halted.items c.board.invariant.keeps rest part c.in-Ok.ensures.parts c.args.serial own FaultWrite _ pool makes in
    let new = broken_is s t name paths once here pool.pool _ is in
    let view : BoardView _ = record { state = c.state_after-state.result.value; spare = c.args.table.spare; free = rest; halted = b.halted.items; past = b.past } in
    let old_is : record { state = t; spare = b.table.spare; free = b.free; halted = b.halted.items; past = b.past } ≡ c.args.board = c.board.view_is in
    let boards : view ≡ v = cc in let pools : pool ≡ p = cc in
    subst (λ w. HasFounded R.devs R.moment R.state_at R.faults s name paths once FaultWrite (refused DeviceFault) c.args.board c.args.table.spare p w) boards
    (subst (λ w. HasFounded R.devs R.moment R.state_at R.faults s name paths once FaultWrite (refused DeviceFault) c.args.board c.args.table.spare w view) pools
    (subst (λ w. HasFounded R.devs R.moment R.state_at R.faults s name paths once FaultWrite (refused DeviceFault) w c.args.table.spare pool view) old_is
    (has_founded s t name paths once here R.devs R.moment R.state_at R.faults b.free b.halted.items c.board.invariant.keeps rest part c.in-Ok.ensures.parts c.args.serial own FaultWrite _ pool makes new c.the_table.ensures.added
    (record { state = t; spare = b.table.spare; free = b.free; halted = b.halted.items; past = b.past }) view c.args.table.spare c.state_after-state.ensures refl c.in-Ok.ensures.faults makes.counts c.in-Ok.ensures.parts c.in-Ok.ensures.faults_gone)))

pub returns-in-NoMemory-clause-refused : goal.returns-in-NoMemory-clause-refused
returns-in-NoMemory-clause-refused g c =
    let R = g.R.Rack in let b = c.board.inside in let joined = c.absorb.new.self in let rest = c.split_off.new.self in
    λ v e.
    let same : c.in-NoMemory.part ≡ c.in-Ok.part = c.in-NoMemory.ensures.refused c.in-NoMemory.part refl in
    let view : BoardView _ = record { state = b.state.value; spare = b.table.spare; free = joined; halted = b.halted.items; past = b.past } in
    let boards : view ≡ v = cc in
    let counted = c.absorb.ensures.faults in
    let kept = c.in-Ok.ensures.faults in
    let none : R.faults c.in-NoMemory.part ≡ 0 = ap R.faults same ∙ c.in-Ok.ensures.faults_gone in
    subst (λ w. IsLeft R.faults c.args.board w) boards (subst (λ w. IsLeft R.faults w view) c.board.view_is (record { same = refl; counts = λ small. omega (arith, counted, kept, none, small); slack = slack_cut (R.faults b.free) (R.faults joined) b.past (omega (arith, counted, kept, none)) }))
