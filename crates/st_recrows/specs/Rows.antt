-- Rows of bytes, and what it is to read exactly.
use Rattle.std.specs.Prelude.{◌≡◌, ℕ, List, Result, Ok, Err}
use Rattle.std.specs.List.{flat_map, AllByRecursion}
use Rattle.st_recrows.specs.declared.fault.RecFault.{RecFault}
use Rattle.st_recrows.specs.declared.fault.RecFault.TheVariants.{NotARecord, OutOfMemory}

-- Reading gave a value of which the fact holds, or found that it holds of none. Only want of memory is free.
abbrev pub Reads : {T : Type 0} → (T → Type 0) → Result T RecFault → Type 0
Reads P (Ok value) = P value
Reads {T} P (Err NotARecord) = (value : T) → P value → ⊥
Reads P (Err OutOfMemory) = Unit {0}

-- Reading gave this value, or found no memory.
abbrev pub Gives : {T : Type 0} → T → Result T RecFault → Type 0
Gives value (Ok found) = found ≡ value
Gives value (Err NotARecord) = ⊥
Gives value (Err OutOfMemory) = Unit {0}

-- Reading gave this value, which fits, or found that it doesn't fit.
abbrev pub ReadsFields : {T : Type 0} → (T → Type 0) → T → Result T RecFault → Type 0
ReadsFields fits value (Ok found) = (found ≡ value) × fits found
ReadsFields fits value (Err NotARecord) = fits value → ⊥
ReadsFields fits value (Err OutOfMemory) = Unit {0}

-- the bytes are the spelling of a value that fits
pub record Spells {T : Type 0} (fits : T → Type 0) (text : T → List ℕ) (bytes : List ℕ) (value : T) : Type 0 where
  pub fit : fits value
  pub spelled : bytes ≡ text value

-- each row fits
abbrev pub AllFit : {T : Type 0} → (T → Type 0) → List T → Type 0
AllFit fits rows = AllByRecursion fits rows

-- the type of such a value tells that it fits
abbrev pub NeedsNothing : {T : Type 0} → T → Type 0
NeedsNothing row = Unit {0}

-- rows one after the other
abbrev pub rows_text : {T : Type 0} → (T → List ℕ) → List T → List ℕ
rows_text text rows = flat_map text rows
