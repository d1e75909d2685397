use Rattle.st_plain.specs.Parts.{IsAnswered}
use Rattle.test_lock.proofs.Created.{answered-in, made}
use Rattle.test_lock.proofs.creating.create_on.Goals as goal

pub returns : goal.returns
returns c = record {
  made = λ s valid part.
      made s c.args.call c.args.line c.entry_of.result c.create_with-answer.result c.args.cells.now.items c.create_with-answer.new.cells.items c.args.table.now c.create_with-answer.new.table
      c.entry_of.ensures.call c.entry_of.ensures.from c.entry_of.ensures.plain c.entry_of.ensures.refused
      (answered-in (λ reply. IsAnswered s c.args.call reply c.create_with-answer.new.cells.items c.create_with-answer.new.table) c.create_with-answer.result (λ reply h. h s valid part) c.create_with-answer.ensures.answered)
      c.create_with-answer.ensures.cells c.create_with-answer.ensures.table part;
}
