use Rattle.st_header.proofs.Copies.{copy_is, is_copy}
use Rattle.st_header.proofs.laws.reading_is_the_grammar.Goals as goal

pub returns : goal.returns
returns c = λ sectors n bytes. (copy_is sectors n bytes, is_copy sectors n bytes)
