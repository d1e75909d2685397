-- what the program tells of how a run ended: its exit status, and a line to standard error
use Rattle.std.specs.Prelude.{ℕ, List, ◌++◌, Option, Some, None, codes, decimal}
use Rattle.st_lines.specs.declared.limit.Limit.{Limit}
use Rattle.st_lines.specs.declared.limit.Limit.TheVariants.{Bytes, Lines, Line}
use Rattle.st_status.specs.declared.status.Status.{Status}
use Rattle.st_status.specs.declared.status.Status.TheVariants.{Done, Usage, ReadFault, WriteFault, OutOfMemory, InputLimit, OpenFault, Foreign}

abbrev pub exit_of : Status → ℕ
exit_of Done = 0
exit_of Usage = 2
exit_of ReadFault = 3
exit_of WriteFault = 4
exit_of OutOfMemory = 5
exit_of (InputLimit limit) = 6
exit_of OpenFault = 7
exit_of (Foreign serial) = 8

abbrev pub limit_text : Limit → List ℕ
limit_text Bytes = codes "input limit: bytes"
limit_text Lines = codes "input limit: lines"
limit_text (Line number) = codes "input limit: line " ++ decimal number

abbrev pub line_of : Status → Option (List ℕ)
line_of Done = None
line_of Usage = Some (codes "usage: stratis_sim MODE [--lanes N] [--trace] [--recover] [--number N]")
line_of ReadFault = Some (codes "read fault")
line_of WriteFault = Some (codes "write fault")
line_of OutOfMemory = Some (codes "out of memory")
line_of (InputLimit limit) = Some (limit_text limit)
line_of OpenFault = Some (codes "open fault")
line_of (Foreign serial) = Some (codes "foreign pool " ++ decimal serial)
