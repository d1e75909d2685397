-- reading that may fail, and what a reader returned
use Rattle.std.specs.Prelude.{◌≡◌, Result, Ok, Err}
use Rattle.st_calls.specs.declared.fault.LineFault.{LineFault}
use Rattle.st_calls.specs.declared.fault.LineFault.TheVariants.{BadCall, BadName, OutOfMemory}

infixl 10 ◌>>=◌
abbrev pub ◌>>=◌ : {A B : Type 0} → Result A LineFault → (A → Result B LineFault) → Result B LineFault
(Ok x) >>= f = f x
(Err e) >>= f = Err e

abbrev pub FailsBy : {B : Type 0} → LineFault → Result B LineFault → Type 0
FailsBy (BadCall m) read = read ≡ Err (BadCall m)
FailsBy (BadName m) read = read ≡ Err (BadName m)
FailsBy OutOfMemory read = Unit {0}

-- what a reader returned, seen by view, is what reading gives, unless memory ran out
abbrev pub Gives : {A B : Type 0} → (A → B) → Result A LineFault → Result B LineFault → Type 0
Gives view (Ok x) read = read ≡ Ok (view x)
Gives view (Err e) read = FailsBy e read
