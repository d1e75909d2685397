use Rattle.std.proofs.Common.{sym, subst}
use Rattle.st_status.specs.declared.status.Status.{Status}
use Rattle.st_status.specs.Statuses.{Wrote}
use Rattle.st_status.proofs.Nothing.{wrote_nothing}
use Rattle.st_check.proofs.Verdicts.{nothing_checked}
use Rattle.st_check.proofs.check.check_lines.Goals as goal

pub returns-in-Err-clause-checked : goal.returns-in-Err-clause-checked
returns-in-Err-clause-checked g c =
    let held = g.K.Sink.held c.args.sink.now in
    nothing_checked _ _ _ _ (λ output. subst (λ (s : Status). Wrote s held held output) (sym c.from.ensures) (wrote_nothing c.in-Err.stop held output))
