use Rattle.test_lock.specs.Setting.{IsSet}
use Rattle.test_lock.proofs.Created.{answered-in}
use Rattle.test_lock.proofs.Limits.{set_entry}
use Rattle.test_lock.proofs.setting.set_on.Goals as goal

pub returns : goal.returns
returns c = λ s are.
    set_entry s c.args.call c.args.line c.entry_of.result c.set_with-answer.result c.args.cells.now.items c.set_with-answer.new.cells.items
    c.entry_of.ensures.call c.entry_of.ensures.from c.entry_of.ensures.plain c.entry_of.ensures.refused
    (answered-in (λ reply. IsSet s c.args.call reply c.set_with-answer.new.cells.items) c.set_with-answer.result (λ reply h. h s are) c.set_with-answer.ensures.set)
    c.set_with-answer.ensures.err are
