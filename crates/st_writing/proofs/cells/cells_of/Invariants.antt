use Rattle.std.proofs.Common.{◌≡◌, ◌++◌, ℕ, map}
use Rattle.st_writing.proofs.cells.cells_of.Given as goal

abbrev pub invariant-loop-cell : goal.invariant-loop-cell
invariant-loop-cell l = l.cells ++ map (λ (e : ℕ × ℕ). e.1) l.cell-iterator ≡ map (λ (e : ℕ × ℕ). e.1) l.mapped
