use Rattle.std.proofs.Common.{◌≡◌, ◌++◌, drop, map}
use Rattle.st_json.specs.Adds.{listed}
use Rattle.st_trace.specs.Traced.{entry_data}
use Rattle.st_trace.proofs.event.put_each_entry.Given as goal

abbrev pub invariant-loop-entry : goal.invariant-loop-entry
invariant-loop-entry l = (l.out.before ≡ l.fn.out.before) × (l.out.tokens ++ listed (map entry_data (drop l.entry-index l.entries)) ≡ l.fn.out.tokens ++ listed (map entry_data l.entries))
