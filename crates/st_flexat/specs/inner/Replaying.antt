-- Deltas that are applied sector by sector.
use Rattle.std.specs.Prelude.{◌≡◌, ℕ, zero, suc, ◌+◌, ◌*◌, List, [], Option, Some, None, take, drop}
use Rattle.st_fields.specs.Slot.{Found, sector_of}
use Rattle.st_deltalog.specs.Log.{body_at}
use Rattle.st_flexlog.specs.declared.state.FlexState.{FlexState}
use Rattle.st_flexlog.specs.Said.{IsSaid, then_applied}

-- what the body of a delta makes of a state, where there are both
abbrev pub after_body : ℕ → Option (List ℕ) → Option FlexState → Option FlexState
after_body generation None state = None
after_body generation (Some body) state = then_applied generation body state

-- so it is of what was found in a sector, if it is of this generation
abbrev pub after_sector : ℕ → Found → Option FlexState → Option FlexState
after_sector generation found state = after_body generation (body_at generation found) state

abbrev pub sector_in : List ℕ → ℕ → List ℕ
sector_in bytes k = take 512 (drop (512 * k) bytes)

-- the state after the first n sectors, of which the first is of the generation after c
abbrev pub after_sectors : List ℕ → ℕ → List ℕ → ℕ → Option FlexState → Option FlexState
after_sectors magic c bytes zero state = state
after_sectors magic c bytes (suc n) state = after_sector (c + suc n) (sector_of magic (sector_in bytes n)) (after_sectors magic c bytes n state)

-- that of the checkpoint with this body, of generation c
pub record ReplayedTo (magic : List ℕ) (c : ℕ) (body bytes : List ℕ) (n : ℕ) (state : Option FlexState) : Type 0 where
  pub first : Option FlexState
  pub said : IsSaid c body [] first
  pub is : state ≡ after_sectors magic c bytes n first
