use Rattle.std.proofs.Common.{ℕ, ◌≤◌, List, length, sym, subst}
use Rattle.st_limits.specs.declared.TheConstants.{MAX_LINES}
use Rattle.st_lines.proofs.Few.{few_lines}
use Rattle.st_lines.proofs.lines.Lines.cut.Goals as goal

pub returns-clause-few : goal.returns-clause-few
returns-clause-few c =
    let here = subst (λ (l : List (List ℕ)). length l ≤ MAX_LINES) (sym c.in_ok-spans.ensures.lines) (few_lines _ c.in_ok-spans.ensures.kept) in
    rw c.as_slice.ensures.value at here
