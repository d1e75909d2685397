-- What a write through leaves sure.
use Rattle.std.proofs.Common.{◌≡◌, ◌≢◌, inl, inr, ℕ, false, ◌&&◌, ◌||◌, List, [], ◌∷◌, sym, subst}
use Rattle.std.specs.Str.{bytes_eq}
use Rattle.st_units.specs.declared.rows.DevRow.{DevRow}
use Rattle.st_rack.specs.Story.{within}
use Rattle.st_rack.specs.Device.{Path, State, IsSure, pending}
use Rattle.st_rack.proofs.Look.{same_or_other, off_path}
use Rattle.st_ranges.specs.Ranges.{SettledOutside, Works, covers}
use Rattle.st_cachetier.specs.Tier.{IsElsewhere, cache_ranges}
use Rattle.st_cachetier.proofs.Places.{covers_elsewhere}

module _ (rows : List DevRow) (dev : Path) (at n : ℕ) (a m b : State) (away : IsElsewhere rows dev)
    (one : Works ((dev, at, n) ∷ []) a m) (two : Works (cache_ranges rows) m b) (sure : IsSure (m dev)) where
  pub stays_sure : IsSure (b dev)
  stays_sure i = (two dev).sure i (covers_elsewhere rows dev away i) (sure i)

  pub settles : SettledOutside (cache_ranges rows) a b
  settles p i off before = elim (same_or_other p dev) [
    | inl e ↦ subst (λ (q : Path). pending (b q) i ≡ false) (sym e) (stays_sure i)
    | inr ne ↦ (two p).sure i off ((one p).sure i (other p ne i) before)
  ]
    where
      other : (p : Path) → p ≢ dev → (i : ℕ) → covers ((dev, at, n) ∷ []) p i ≡ false
      other p ne i = (let off : bytes_eq dev p ≡ false = off_path dev p (λ e. ne (sym e)) in λ j. off j && within at n i || false)
