use Rattle.st_flexsound.proofs.Sound.{says_sound}
use Rattle.st_flexsound.proofs.a_log_is_sound.Goals as goal

pub returns : goal.returns
returns c = says_sound
