-- how far a loop over a source or a sink has come
use Rattle.std.proofs.Common.{ℕ, ◌<◌, ◌≤◌, List, Option, length, take}
use Rattle.std.specs.Io.KnownBytes.{Appends, Consumes}

pub record PutSoFar {K : Type 0} (held : K → Option (List ℕ)) (faults : K → ℕ) (old new : K) (bytes : List ℕ) (done : ℕ) : Type 0 where
  pub within : done ≤ length bytes
  pub put : Appends (held old) (held new) (take done bytes)
  pub later : faults old ≤ faults new

-- each turn took a byte at least
pub record ReadSoFar {S : Type 0} (left : S → Option (List ℕ)) (faults : S → ℕ) (old new : S) (input piece : List ℕ) (turns : ℕ) : Type 0 where
  pub taken : Consumes (left old) (left new) input
  pub later : faults old ≤ faults new
  pub each_took : turns ≤ length input
  pub short : length input ≤ 67108864
  pub room : 0 < length piece
