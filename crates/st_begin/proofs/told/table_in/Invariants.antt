use Rattle.st_model.specs.Parts.{table_of}
use Rattle.st_begin.proofs.told.table_in.Given as goal

abbrev pub ghost-new : goal.ghost-new
ghost-new g a = record (table_of a.first.now.is.0) { next = a.second.now }
