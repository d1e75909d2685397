-- where nothing was written
use Rattle.std.proofs.Common.{◌≡◌, ◌⊎◌, inl, inr, ℕ, List, Option, refl, sym, subst}
use Rattle.st_lines.proofs.Printed.{started_nothing}
use Rattle.st_lines.specs.declared.read.ReadStop.{ReadStop}
use Rattle.st_lines.specs.declared.read.ReadStop.TheVariants.{Fault, Limit, OutOfMemory}
use Rattle.st_status.specs.Statuses.{Wrote, after_read}
use Rattle.st_status.specs.declared.status.Status.{Status}
use Rattle.st_status.specs.declared.status.Status.TheVariants as statuses

pub wrote_nothing : (stop : ReadStop) (held : Option (List ℕ)) (output : List ℕ) → Wrote (after_read stop) held held output
wrote_nothing Fault held output = refl
wrote_nothing (Limit limit) held output = refl
wrote_nothing OutOfMemory held output = started_nothing held output

pub nothing_due : (status : Status) (held : Option (List ℕ)) (output : List ℕ) → (status ≡ statuses.Usage) ⊎ (status ≡ statuses.OutOfMemory) → Wrote status held held output
nothing_due status held output (inl usage) = subst (λ (s : Status). Wrote s held held output) (sym usage) refl
nothing_due status held output (inr memory) = subst (λ (s : Status). Wrote s held held output) (sym memory) (started_nothing held output)
