use Rattle.std.proofs.Common.{Some, sym, ◌∙◌}
use Rattle.st_header.proofs.Headers.{none_if_small, first_copy, second_copy, grammar}
use Rattle.st_header.proofs.header.read_header.Goals as goal

pub returns-then-sectors-lt-MIN_DEVICE_SECTORS-clause-value : goal.returns-then-sectors-lt-MIN_DEVICE_SECTORS-clause-value
returns-then-sectors-lt-MIN_DEVICE_SECTORS-clause-value c = none_if_small c.args.sectors c.args.area.now c.if-sectors-lt-MIN_DEVICE_SECTORS.true

pub returns-in-Some-clause-value : goal.returns-in-Some-clause-value
returns-in-Some-clause-value c = sym (first_copy c.args.sectors c.in-Some.serial c.args.area.now c.if-sectors-lt-MIN_DEVICE_SECTORS.false (sym c.in-Some.ensures))

pub returns-in-Some-clause-grammar : goal.returns-in-Some-clause-grammar
returns-in-Some-clause-grammar c =
    grammar c.args.sectors c.args.area.now (Some c.in-Some.serial) (sym (first_copy c.args.sectors c.in-Some.serial c.args.area.now c.if-sectors-lt-MIN_DEVICE_SECTORS.false (sym c.in-Some.ensures)))

pub returns-in-None-clause-value : goal.returns-in-None-clause-value
returns-in-None-clause-value c = c.read_copy-in-None.ensures ∙ sym (second_copy c.args.sectors c.args.area.now c.if-sectors-lt-MIN_DEVICE_SECTORS.false (sym c.in-None.ensures))

pub returns-in-None-clause-grammar : goal.returns-in-None-clause-grammar
returns-in-None-clause-grammar c =
    grammar c.args.sectors c.args.area.now c.read_copy-in-None.result
    (c.read_copy-in-None.ensures ∙ sym (second_copy c.args.sectors c.args.area.now c.if-sectors-lt-MIN_DEVICE_SECTORS.false (sym c.in-None.ensures)))
