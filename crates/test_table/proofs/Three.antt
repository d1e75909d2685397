-- rows whose serials are below a number
use Rattle.std.proofs.Common.{◌≡◌, ℕ, ◌<◌, arith, List, [], ◌∷◌, ◌++◌, sym, subst}
use Rattle.std.specs.List.{AllByRecursion}
use Rattle.st_units.specs.declared.rows.FsRow.{FsRow}

pub raised : (rows : List FsRow) (row : FsRow) (next : ℕ) → AllByRecursion (λ (o : FsRow). o.serial < row.serial) rows → row.serial < next → AllByRecursion (λ (o : FsRow). o.serial < next) (rows ++ row ∷ [])
raised [] row next h less = (less, tt)
raised (x ∷ xs) row next h less = (omega (arith, h.0, less), raised xs row next h.1 less)

pub now_raised : (rows new : List FsRow) (row : FsRow) → new ≡ rows ++ row ∷ [] → AllByRecursion (λ (o : FsRow). o.serial < row.serial) rows → (next : ℕ) → row.serial < next → AllByRecursion (λ (o : FsRow). o.serial < next) new
now_raised rows new row is h next less = subst (AllByRecursion (λ (o : FsRow). o.serial < next)) (sym is) (raised rows row next h less)

pub none_below : (rows : List FsRow) (n : ℕ) → rows ≡ [] → AllByRecursion (λ (o : FsRow). o.serial < n) rows
none_below rows n is = rw is tt
