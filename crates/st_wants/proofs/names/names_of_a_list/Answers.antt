use Rattle.st_wants.proofs.Rising.{are_names_of}
use Rattle.st_wants.proofs.names.names_of_a_list.Goals as goal

pub returns : goal.returns
returns c = are_names_of
