use Rattle.std.proofs.Common.{◌≡◌, ℕ, Bool, true, false, ◌||◌, List, [], ◌∷◌, refl, sym, subst}
use Rattle.std.specs.List.{IsDistinct}
use Rattle.std.specs.Str.{bytes_eq}
use Rattle.std.proofs.lemmas.Slice.Eq.{bytes_eq-Decides}
use Rattle.st_rack.specs.Device.{Path}
use Rattle.st_rack.specs.Calls.{Devices, Has, names}
use Rattle.test_disk.proofs.racks.write_apart.Goals as goal

one_distinct : (dev : Path) → IsDistinct bytes_eq (dev ∷ [])
unfolding IsDistinct
one_distinct dev = (tt, tt)

or_none : (a : Bool) → (a || false) ≡ true → a ≡ true
or_none true h = refl
or_none false h = absurd cc

one_there : (devs : Devices) (dev : Path) (n : ℕ) → Has devs dev n → (p : Path) → names (dev ∷ []) p ≡ true → (m : ℕ) × Has devs p m
one_there devs dev n has p named = (n, subst (λ (q : Path). Has devs q n) ((bytes_eq-Decides dev p).0 (or_none (bytes_eq dev p) named)) has)

pub split_off-requires-clause-distinct : goal.split_off-requires-clause-distinct
split_off-requires-clause-distinct g c = subst (λ (l : List Path). IsDistinct bytes_eq l) (sym c.in_ok-list.ensures) (one_distinct c.args.dev.now)

pub split_off-requires-clause-there : goal.split_off-requires-clause-there
split_off-requires-clause-there g c =
    subst (λ (l : List Path). (p : Path) → names l p ≡ true → (m : ℕ) × Has (g.R.Rack.devs c.args.rack.now) p m) (sym c.in_ok-list.ensures)
    (one_there (g.R.Rack.devs c.args.rack.now) c.args.dev.now c.in-Some.field-0 (sym c.in-Some.ensures))
