-- Devices in order of their paths, looked up by path.
use Rattle.std.specs.Prelude.{◌≡◌, ℕ, zero, suc, Bool, true, false, List, [], ◌∷◌, map, if◌then◌else◌}
use Rattle.std.specs.Ordering.{nat_cmp, is_lt}
use Rattle.std.specs.Cmp.Lexicographic.{slice_cmp}
use Rattle.std.specs.Str.{bytes_eq}
use Rattle.st_rack.specs.Story.{Began}
use Rattle.st_rack.specs.Device.{Path, DevState, State}
use Rattle.st_rack.specs.Calls.{Devices}

-- the first path comes before the second in byte order
abbrev pub comes_before : Path → Path → Bool
comes_before p q = is_lt (slice_cmp nat_cmp p q)

-- each device's path and sectors
abbrev pub rows_of : {D : Type 0} → (D → Path) → (D → ℕ) → List D → Devices
rows_of path size ds = map (λ d. (path d, size d)) ds

-- what the first device of that path has
abbrev pub look : {D A : Type 0} → (D → Path) → (D → A) → A → List D → Path → A
look path f none [] p = none
look path f none (d ∷ ds) p = if bytes_eq (path d) p then f d else look path f none ds p

-- the first device of that path stands there
abbrev pub IsFirst : {D : Type 0} → (D → Path) → List D → Path → ℕ → Type 0
IsFirst path [] p i = ⊥
IsFirst path (d ∷ ds) p zero = bytes_eq (path d) p ≡ true
IsFirst path (d ∷ ds) p (suc i) = (bytes_eq (path d) p ≡ false) × IsFirst path ds p i

-- a path that no device has: zeros, of which nothing was told
abbrev pub no_device : DevState
no_device = record { holds = λ i. 0; story = Began (λ i. 0) }

abbrev pub state_in : {D : Type 0} → (D → Path) → (D → DevState) → List D → State
state_in path state ds p = look path state no_device ds p

abbrev pub is_in : {D : Type 0} → (D → Path) → List D → Path → Bool
is_in path ds p = look path (λ d. true) false ds p

-- the devices with one more, in its place by path
abbrev pub insert_in : {D : Type 0} → (D → Path) → D → List D → List D
insert_in path d [] = d ∷ []
insert_in path d (x ∷ xs) = if comes_before (path x) (path d) then x ∷ insert_in path d xs else d ∷ x ∷ xs

-- the devices of both lists, in order
abbrev pub join_in : {D : Type 0} → (D → Path) → List D → List D → List D
join_in path ds [] = ds
join_in path ds (o ∷ os) = insert_in path o (join_in path ds os)
