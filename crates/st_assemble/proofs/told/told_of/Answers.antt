use Rattle.std.proofs.Common.{◌≡◌, ℕ, refl, sym, ◌∙◌, ap, subst}
use Rattle.st_rack.specs.Device.{held}
use Rattle.st_judge.specs.declared.rows.GoneRow.{GoneRow}
use Rattle.st_judge.specs.declared.judging.Verdict.{Verdict}
use Rattle.st_judge.specs.Verdicts.{IsVerdict}
use Rattle.st_assemble.proofs.Foreign.{foreign_same}
use Rattle.st_assemble.proofs.Logs.{lacking_known}
use Rattle.st_assemble.proofs.told.told_of.Goals as goal

pub read_whole-requires-clause-here : goal.read_whole-requires-clause-here
read_whole-requires-clause-here g c =
    let p = c.args.serial in
    let devs = g.R.Rack.devs c.args.rack.now in
    let image = held (g.R.Rack.state_at c.args.rack.now (g.R.Rack.moment c.args.rack.now)) in
    let said = c.in_ok-said.ensures devs image c.requires.rises c.requires.looks in
    subst (λ (v : Verdict). IsVerdict p devs image v) c.in-Here.is said

pub returns-in-Nothing-clause-told : goal.returns-in-Nothing-clause-told
returns-in-Nothing-clause-told g c =
    let p = c.args.serial in
    let devs = g.R.Rack.devs c.args.rack.now in
    let image = held (g.R.Rack.state_at c.args.rack.now (g.R.Rack.moment c.args.rack.now)) in
    let said = c.in_ok-said.ensures devs image c.requires.rises c.requires.looks in
    subst (λ (v : Verdict). IsVerdict p devs image v) c.in-Nothing.is said

pub returns-in-Gone-clause-told : goal.returns-in-Gone-clause-told
returns-in-Gone-clause-told g c =
    let p = c.args.serial in
    let devs = g.R.Rack.devs c.args.rack.now in
    let image = held (g.R.Rack.state_at c.args.rack.now (g.R.Rack.moment c.args.rack.now)) in
    let said = c.in_ok-said.ensures devs image c.requires.rises c.requires.looks in
    let gone = subst (λ (v : Verdict). IsVerdict p devs image v) c.in-Gone.is said in
    (ap (λ (r : GoneRow). r.serial) gone.told, gone)

pub returns-in-Lacking-clause-told : goal.returns-in-Lacking-clause-told
returns-in-Lacking-clause-told g c =
    let p = c.args.serial in
    let devs = g.R.Rack.devs c.args.rack.now in
    let image = held (g.R.Rack.state_at c.args.rack.now (g.R.Rack.moment c.args.rack.now)) in
    let said = c.in_ok-said.ensures devs image c.requires.rises c.requires.looks in
    lacking_known p devs image c.in-Lacking.row (subst (λ (v : Verdict). IsVerdict p devs image v) c.in-Lacking.is said)

pub returns-in-Breaks-clause-foreign : goal.returns-in-Breaks-clause-foreign
returns-in-Breaks-clause-foreign g c n e =
    let p = c.args.serial in
    let devs = g.R.Rack.devs c.args.rack.now in
    let image = held (g.R.Rack.state_at c.args.rack.now (g.R.Rack.moment c.args.rack.now)) in
    let said = c.in_ok-said.ensures devs image c.requires.rises c.requires.looks in
    (sym (foreign_same c.number-in-Breaks.result n _ refl e) ∙ c.number-in-Breaks.ensures.value, subst (λ (v : Verdict). IsVerdict p devs image v) c.in-Breaks.is said)
