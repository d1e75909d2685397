use Rattle.std.proofs.Common.{◌≡◌, ◌⊎◌, inl, ℕ, List, Option, refl, sym, subst}
use Rattle.st_history.specs.History.{History}
use Rattle.st_status.proofs.Nothing.{nothing_due}
use Rattle.st_status.specs.Statuses.{Wrote}
use Rattle.st_status.specs.declared.status.Status.{Status}
use Rattle.st_status.specs.declared.status.Status.TheVariants.{Usage, OutOfMemory}
use Rattle.st_check.proofs.Verdicts.{nothing_checked}
use Rattle.st_session.proofs.Ends.{untouched_counted}
use Rattle.st_session.proofs.top.run_words.Goals as goal

-- words that aren't served: nothing is written
unserved : (status told : Status) (held : Option (List ℕ)) (output : List ℕ) → status ≡ told → (told ≡ Usage) ⊎ (told ≡ OutOfMemory) → Wrote status held held output
unserved status told held output same other = subst (λ (s : Status). Wrote s held held output) (sym same) (nothing_due told held output other)

pub returns-in-Err-clause-out_of_memory : goal.returns-in-Err-clause-out_of_memory
returns-in-Err-clause-out_of_memory g c = λ mode memory. inl (record { none = c.early.ensures.log; unwritten = refl; rack = inl c.early.ensures.rack })

pub returns-in-Err-clause-checked : goal.returns-in-Err-clause-checked
returns-in-Err-clause-checked g c = λ mode. nothing_checked _ _ _ _ (λ output. unserved _ _ _ output c.early.ensures.status c.in-Err.ensures.other)

pub returns-in-Err-clause-generated : goal.returns-in-Err-clause-generated
returns-in-Err-clause-generated g c = λ mode. unserved _ _ _ _ c.early.ensures.status c.in-Err.ensures.other

pub returns-in-Err-clause-history : goal.returns-in-Err-clause-history
returns-in-Err-clause-history g c = λ s0 stood. subst (λ (l : List _). History s0 l) (sym c.early.ensures.log) tt

pub returns-in-Err-clause-counts : goal.returns-in-Err-clause-counts
returns-in-Err-clause-counts g c = untouched_counted g.R.Rack.devs g.R.Rack.moment g.R.Rack.state_at g.R.Rack.faults c.args.rack c.early.result.log.items c.early.result.rack c.early.ensures.rack c.early.ensures.log
