-- The states that devices have had.
use Rattle.std.specs.Prelude.{ℕ, ◌+◌, nat_le, if◌then◌else◌}
use Rattle.st_rack.specs.Device.{Path, DevState, State}
use Rattle.st_shelf.specs.Shelf.{state_in, is_in}
use Rattle.st_shelf.specs.declared.past.Past.{Past, Start, Then', Joined', Copied'}

-- how often something has changed
abbrev pub depth : {D : Type 0} → Past D → ℕ
depth Start = 0
depth (Then' ds m past) = depth past + 1
depth (Joined' ds others m past) = depth past + 1
depth (Copied' m n past) = depth past

-- the state at a moment, where it is `now` since the last change
abbrev pub was : {D : Type 0} → (D → Path) → (D → DevState) → Past D → State → ℕ → State
was path state Start now k p = now p
was path state (Then' ds m past) now k p = if nat_le k (depth past) then was path state past (state_in path state ds.value.items) k p else now p
was path state (Joined' ds others m past) now k p =
    if nat_le k (depth past) then (if is_in path others.value.items p then state_in path state others.value.items p else was path state past (state_in path state ds.value.items) k p) else now p
was path state (Copied' m n past) now k p = was path state past now k p
