use Rattle.std.proofs.Common.{sym, ap}
use Rattle.st_units.specs.declared.cause.Member.TheVariants.{Line}
use Rattle.st_calls.specs.Members.{or_bad}
use Rattle.st_calls.proofs.Whole.{read-more, read-unfit, read-value}
use Rattle.st_calls.proofs.read.whole.Goals as goal

pub returns-then-is_some : goal.returns-then-is_some
returns-then-is_some c =
    ap (or_bad Line) (read-more c.args.text.now c.in-Ok.reader c.read.new.reader c.next.new.self c.in-Ok-read.value c.next.result c.in-Ok.ensures.ok c.in-Ok-read.ensures.ok c.next.ensures.value (sym c.if-is_some.ensures))

pub returns : goal.returns
returns c =
    ap (or_bad Line) (read-unfit c.args.text.now c.in-Ok.reader c.read.new.reader c.next.new.self c.in-Ok-read.value c.next.result c.in-Ok.ensures.ok c.in-Ok-read.ensures.ok c.next.ensures.value (sym c.if-is_some.ensures) (sym c.if-fits.ensures))

pub returns-then-fits : goal.returns-then-fits
returns-then-fits c =
    ap (or_bad Line) (read-value c.args.text.now c.in-Ok.reader c.read.new.reader c.next.new.self c.in-Ok-read.value c.next.result c.in-Ok.ensures.ok c.in-Ok-read.ensures.ok c.next.ensures.value (sym c.if-is_some.ensures) (sym c.if-fits.ensures))
