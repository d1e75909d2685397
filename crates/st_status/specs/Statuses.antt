-- how a run may end, and what its sink took then
use Rattle.std.specs.Prelude.{ℕ, ◌≡◌, List, Option}
use Rattle.std.specs.Io.KnownBytes.{Appends}
use Rattle.st_lines.specs.declared.read.ReadStop.{ReadStop}
use Rattle.st_lines.specs.declared.read.ReadStop.TheVariants as read
use Rattle.st_lines.specs.declared.outlet.WriteStop.{WriteStop}
use Rattle.st_lines.specs.declared.outlet.WriteStop.TheVariants as write
use Rattle.st_lines.specs.Printing.{Started}
use Rattle.st_status.specs.declared.status.Status.{Status}
use Rattle.st_status.specs.declared.status.Status.TheVariants.{Done, Usage, ReadFault, WriteFault, OutOfMemory, InputLimit, OpenFault, Foreign}

abbrev pub after_read : ReadStop → Status
after_read read.Fault = ReadFault
after_read (read.Limit limit) = InputLimit limit
after_read read.OutOfMemory = OutOfMemory

abbrev pub after_write : WriteStop → Status
after_write write.Fault = WriteFault
after_write write.OutOfMemory = OutOfMemory

-- all output was written, or the sink failed, or memory was refused
abbrev pub IsAfterInput : Status → Type 0
IsAfterInput Done = Unit {0}
IsAfterInput WriteFault = Unit {0}
IsAfterInput OutOfMemory = Unit {0}
IsAfterInput Usage = ⊥
IsAfterInput ReadFault = ⊥
IsAfterInput (InputLimit limit) = ⊥
IsAfterInput OpenFault = ⊥
IsAfterInput (Foreign serial) = ⊥

-- the run came to its output, if memory was there
abbrev pub IsWritten : Status → Type 0
IsWritten Done = Unit {0}
IsWritten WriteFault = Unit {0}
IsWritten OutOfMemory = ⊥
IsWritten Usage = ⊥
IsWritten ReadFault = ⊥
IsWritten (InputLimit limit) = ⊥
IsWritten OpenFault = ⊥
IsWritten (Foreign serial) = ⊥

-- the run ended before any line
abbrev pub IsEarly : Status → Type 0
IsEarly Done = ⊥
IsEarly WriteFault = ⊥
IsEarly OutOfMemory = ⊥
IsEarly Usage = Unit {0}
IsEarly ReadFault = Unit {0}
IsEarly (InputLimit limit) = Unit {0}
IsEarly OpenFault = Unit {0}
IsEarly (Foreign serial) = Unit {0}

-- the run ended because of its input
abbrev pub IsOfInput : Status → Type 0
IsOfInput Done = ⊥
IsOfInput WriteFault = ⊥
IsOfInput OutOfMemory = ⊥
IsOfInput Usage = ⊥
IsOfInput ReadFault = Unit {0}
IsOfInput (InputLimit limit) = Unit {0}
IsOfInput OpenFault = ⊥
IsOfInput (Foreign serial) = ⊥

-- the run ended because of its devices
abbrev pub IsOfDevices : Status → Type 0
IsOfDevices Done = ⊥
IsOfDevices WriteFault = ⊥
IsOfDevices OutOfMemory = ⊥
IsOfDevices Usage = ⊥
IsOfDevices ReadFault = ⊥
IsOfDevices (InputLimit limit) = ⊥
IsOfDevices OpenFault = Unit {0}
IsOfDevices (Foreign serial) = Unit {0}

-- what the sink took of an output: all of it, a prefix, or nothing where the run ended before
abbrev pub Wrote : Status → Option (List ℕ) → Option (List ℕ) → List ℕ → Type 0
Wrote Done before now output = Appends before now output
Wrote WriteFault before now output = Started before now output
Wrote OutOfMemory before now output = Started before now output
Wrote Usage before now output = now ≡ before
Wrote ReadFault before now output = now ≡ before
Wrote (InputLimit limit) before now output = now ≡ before
Wrote OpenFault before now output = now ≡ before
Wrote (Foreign serial) before now output = now ≡ before
