use Rattle.st_lines.proofs.Prefix.{Prefix-front, Prefix-more, Prefix-all}
use Rattle.st_lines.proofs.outlet.Outlet.take.Goals as goal

pub returns-in_err-flush-clause-err : goal.returns-in_err-flush-clause-err
returns-in_err-flush-clause-err g c = Prefix-front _ _ _ _ _ c.in_err-flush.ensures.err

pub returns-clause-ok : goal.returns-clause-ok
returns-clause-ok g c = Prefix-all _ _ _ _ _ _ _ c.in_ok-flush.ensures.ok.1 c.in_ok-flush.ensures.ok.0 c.put_all.ensures.ok

pub returns-clause-err : goal.returns-clause-err
returns-clause-err g c = Prefix-more _ _ _ _ _ _ c.in_ok-flush.ensures.ok.0 c.put_all.ensures.err
