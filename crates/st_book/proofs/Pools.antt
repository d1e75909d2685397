-- The names of pools, and what wants have to do with them.
use Rattle.std.proofs.Common.{◌≡◌, true, false, refl, ap}
use Rattle.std.specs.Str.{bytes_eq}
use Rattle.std.proofs.lemmas.Slice.Eq.{bytes_eq-Decides}
use Rattle.st_wants.specs.declared.want.Want.{Want}
use Rattle.st_wants.specs.declared.want.Want.TheVariants.{Some, All}
use Rattle.st_wants.specs.declared.want.Mode.TheVariants.{Read, Write}
use Rattle.st_wants.specs.Wants.{writes, reads, takes_table}
use Rattle.st_model.specs.declared.state.PoolState.{PoolState}
use Rattle.st_model.specs.Look.{Text}

abbrev pub name_of : PoolState → Text
name_of p = p.name

-- one name writes what another does, where the two are one
pub writes_same : (n m : Text) (w : Want) → bytes_eq n m ≡ true → writes w n ≡ writes w m
writes_same n m w e = ap (writes w) ((bytes_eq-Decides n m).0 e)

-- a want that takes the table reads no pool, and writes each
pub table_reads : (w : Want) (n : Text) → reads w n ≡ true → takes_table w ≡ false
table_reads (Some names m) n h = refl
table_reads (All Read) n h = refl
table_reads (All Write) n h = absurd cc

pub table_writes : (w : Want) (n : Text) → takes_table w ≡ true → writes w n ≡ true
table_writes (Some names m) n h = absurd cc
table_writes (All Read) n h = absurd cc
table_writes (All Write) n h = refl
