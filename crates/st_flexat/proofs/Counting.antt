-- The count of a device's reads.
use Rattle.std.proofs.Common.{ℕ, arith}
use Rattle.st_units.specs.Causes.{Rose}

-- a count that rose stays risen where it rises again
pub rose_on : (n a b : ℕ) → Rose n a → Rose a b → Rose n b
rose_on n a b one two = omega (arith, one, two)
