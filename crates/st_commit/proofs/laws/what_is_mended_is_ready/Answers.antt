use Rattle.st_commit.proofs.Repairing.{ready_mended}
use Rattle.st_commit.proofs.laws.what_is_mended_is_ready.Goals as goal

pub returns : goal.returns
returns x = λ pool flex p up g h devs bearer first rec log s new bears rests. ready_mended pool flex p up h devs bearer first g rec log s new bears rests
