use Rattle.std.proofs.Common.{◌≡◌, sym}
use Rattle.st_judge.proofs.Said.{nothing_said}
use Rattle.st_judge.proofs.judging.judge.Goals as goal

pub judge_newest-requires : goal.judge_newest-requires
judge_newest-requires c = sym c.in-Some.ensures

pub returns-in-None : goal.returns-in-None
returns-in-None c = nothing_said c.args.serial c.args.looks.now (sym c.in-None.ensures)

pub returns-in-Some : goal.returns-in-Some
returns-in-Some c = c.judge_newest.ensures
