-- devices that are put into a list one by one
use Rattle.std.proofs.Common.{◌≡◌, ℕ, ◌≤◌, ◌^◌, List, [], ◌∷◌, ◌++◌, length, map, Bool, true, false, ◌||◌, cond, Some, Result, Ok, Err, bytes_eq, refl, sym, ap, ◌∙◌, subst, arith}
use Rattle.std.specs.List.{AllByRecursion, IsDistinct}
use Rattle.st_rack.specs.Calls.{Devices, path_in, sectors_of}
use Rattle.st_rack.specs.Device.{Path}
use Rattle.std.specs.Prelude.{IfOk}
use Rattle.st_rack.specs.Device.{State}
use Rattle.st_memrack.specs.Blank.{AreDistinct, IsBlank}
use Rattle.st_rack.specs.Calls.{IsFit}
use Rattle.sim_devices.specs.Devices.{AreOurs, has_device}

or_parts : (a b : Bool) → (a || b) ≡ false → (a ≡ false) × (b ≡ false)
or_parts true b h = absurd cc
or_parts false b h = (refl, h)

all_end : (P : Path → Type 0) (xs : List Path) (y : Path) → AllByRecursion P xs → P y → AllByRecursion P (xs ++ y ∷ [])
all_end P [] y h g = (g, tt)
all_end P (x ∷ xs) y h g = (h.0, all_end P xs y h.1 g)

paths_with : (devs : Devices) (d : Path × ℕ) → map path_in (devs ++ d ∷ []) ≡ map path_in devs ++ d.0 ∷ []
paths_with [] d = refl
paths_with (e ∷ devs) d = ap (λ ps. e.0 ∷ ps) (paths_with devs d)

pub distinct_with : (devs : Devices) (d : Path × ℕ) → AreDistinct devs → has_device d.0 devs ≡ false → AreDistinct (devs ++ d ∷ [])
unfolding IsDistinct
distinct_with [] d h none = (tt, tt)
distinct_with (e ∷ devs) d h none =
    let parts = or_parts (bytes_eq e.0 d.0) (has_device d.0 devs) none in
    (subst (AllByRecursion (λ p. bytes_eq e.0 p ≡ false)) (sym (paths_with devs d)) (all_end (λ p. bytes_eq e.0 p ≡ false) (map path_in devs) d.0 h.0 parts.0), distinct_with devs d h.1 parts.1)

pub sizes_with : (devs : Devices) (d : Path × ℕ) → AllByRecursion (λ (x : Path × ℕ). x.1 ≡ 65536) devs → d.1 ≡ 65536 → AllByRecursion (λ (x : Path × ℕ). x.1 ≡ 65536) (devs ++ d ∷ [])
sizes_with [] d h g = (g, tt)
sizes_with (e ∷ devs) d h g = (h.0, sizes_with devs d h.1 g)

-- no device of ours has more than 2^32 sectors
pub small_device : (devs : Devices) (path : Path) (n : ℕ) → AllByRecursion (λ (x : Path × ℕ). x.1 ≡ 65536) devs → sectors_of devs path ≡ Some n → n ≤ 2 ^ 32
small_device [] path n h g = absurd cc
small_device (d ∷ devs) path n h g = here (bytes_eq d.0 path) g (small_device devs path n h.1)
  where
    here : (b : Bool) → cond b (Some d.1) (sectors_of devs path) ≡ Some n → (sectors_of devs path ≡ Some n → n ≤ 2 ^ 32) → n ≤ 2 ^ 32
    here true e f = let same : d.1 ≡ n = cc in omega (arith, same, h.0)
    here false e f = f e

pub ours_none : AreOurs []
unfolding IsDistinct
ours_none = record { distinct = tt; sizes = tt }

pub ours_with : (devs : Devices) (d : Path × ℕ) → AreOurs devs → has_device d.0 devs ≡ false → d.1 ≡ 65536 → AreOurs (devs ++ d ∷ [])
ours_with devs d h none size = record { distinct = distinct_with devs d h.distinct none; sizes = sizes_with devs d h.sizes size }

-- a blank rack of these devices is one that a run may be handed
pub blank-IsFit : {D : Type 0} (devs : D → Devices) (moment : D → ℕ) (state_at : D → ℕ → State) (reads : D → Path → ℕ) (given : Devices) (rack : D) → AreOurs given → length given ≤ 64 → IsBlank devs moment state_at reads given rack → IsFit (devs rack)
blank-IsFit devs moment state_at reads given rack ours few blank = record {
  few = omega (arith, blank.count, few);
  small = λ path n h. small_device given path n ours.sizes (sym (blank.devices path) ∙ h);
}

pub if_ok_then : {T E : Type 0} (r : Result T E) (P Q : T → Type 0) → ((x : T) → P x → Q x) → IfOk r P → IfOk r Q
if_ok_then (Ok x) P Q f h = f x h
if_ok_then (Err e) P Q f h = tt
