use Rattle.std.proofs.Common.{◌≡◌, ℕ, List, ◌∙◌, ap}
use Rattle.st_units.specs.declared.rows.DevRow.{DevRow}
use Rattle.st_judge.specs.Placing.{lacking}
use Rattle.st_judge.proofs.Said.{gone_said}
use Rattle.st_judge.proofs.judging.gone_row.Goals as goal

pub returns : goal.returns
returns c =
    let p = c.args.serial in
    let looks = c.args.looks.now in
    let x = c.args.newest.now in
    let devs = c.in_ok-devs.ensures ∙ ap (λ (rs : List DevRow). lacking p rs x looks) c.items.ensures in
    let bytes = c.in_ok-copy_of.ensures ∙ c.items-2.ensures in
    gone_said p looks x c.args.rec.now c.requires.sound c.requires.alone c.requires.gone (record { serial = p; generation = x.0; rec = c.in_ok-copy_of.field-0; devs = c.in_ok-devs.devs })
    (λ i. record { serial = p; generation = x.0; rec = bytes i; devs = devs i })
