use Rattle.st_sound.proofs.Engine.{valid}
use Rattle.st_sound.proofs.found_is_valid.Goals as goal

pub returns : goal.returns
returns c = valid c.a_log_is_sound.ensures
