use Rattle.st_plain.proofs.Reported.{report-is}
use Rattle.st_plain.proofs.state_report.report.Goals as goal

pub returns : goal.returns
returns c = λ s valid shown infos. let right = report-is s c.args.infos.items valid infos in cc (c.in_ok-list.ensures, shown, right)
