-- The record of the calls of a rack.
use Rattle.std.specs.Prelude.{◌≡◌, ◌⊎◌, ℕ, ◌+◌, ◌-◌, ◌^◌, min, Bool, true, false, List, [], ◌∷◌, ◌++◌}
use Rattle.st_rack.specs.Device.{Path}
use Rattle.st_sparse.specs.declared.kinds.Kind.{Kind}
use Rattle.st_memrack.specs.declared.record.DeviceCall.{DeviceCall}
use Rattle.st_memrack.specs.declared.record.Record.{Record}

-- one more call
pub record Takes (path : Path) (call_kind : Kind) (first count : ℕ) (fault : Bool) (old new : List DeviceCall) : Type 0 where
  pub call : DeviceCall
  pub last : new ≡ old ++ call ∷ []
  pub on_device : call.dev ≡ path
  pub of_kind : call.kind ≡ call_kind
  pub place : call.sector ≡ first
  pub size : call.sectors ≡ count
  pub failing : call.failed ≡ fault

-- With no mark nothing is recorded; since a mark a call is recorded, or counted as missed.
pub record Noted (path : Path) (call_kind : Kind) (first count : ℕ) (fault : Bool) (old new : Record) : Type 0 where
  pub same : new.on ≡ old.on
  pub off : old.on ≡ false → (new.calls.items ≡ old.calls.items) × (new.missed ≡ old.missed)
  pub taken : old.on ≡ true
      → (Takes path call_kind first count fault old.calls.items new.calls.items × (new.missed ≡ old.missed))
      ⊎ ((new.calls.items ≡ old.calls.items) × (new.missed ≡ min (old.missed + 1) (2 ^ 64 - 1)))
