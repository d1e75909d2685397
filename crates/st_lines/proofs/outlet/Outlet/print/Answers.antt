use Rattle.st_lines.proofs.Printed.{ok_then, err_then, printing_more, printing_cut}
use Rattle.st_lines.proofs.outlet.Outlet.print.Goals as goal

pub returns-clause-prints : goal.returns-clause-prints
returns-clause-prints g c =
    ok_then c.take.result _ _ (λ h. λ before rest whole p. printing_more before _ _ _ _ _ rest whole h.0 p h.1 h.2) c.take.ensures.ok

pub returns-clause-stops : goal.returns-clause-stops
returns-clause-stops g c = err_then c.take.result _ _ (λ h. λ before rest whole p. printing_cut before _ _ _ _ rest whole h.0 p h.1) c.take.ensures.err
