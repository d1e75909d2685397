-- When a call is to fail.
use Rattle.std.specs.Prelude.{◌≡◌, ℕ, ◌+◌, ◌-◌, Bool, true, false, ◌&&◌, ◌||◌, not, nat_eq, nat_le, nat_lt, max, map, if◌then◌else◌}
use Rattle.std.specs.List.{list_any}
use Rattle.st_sparse.specs.declared.kinds.Kind.{Kind}
use Rattle.st_sparse.specs.declared.kinds.Kind.TheVariants.{Read, Write, Sync}
use Rattle.st_sparse.specs.declared.kinds.How.{How}
use Rattle.st_sparse.specs.declared.kinds.How.TheVariants.{Once, Stop}
use Rattle.st_sparse.specs.declared.arms.Arm.{Arm}
use Rattle.st_sparse.specs.declared.arms.Arms.{Arms}

abbrev pub same_kind : Kind → Kind → Bool
same_kind Read Read = true
same_kind Write Write = true
same_kind Sync Sync = true
same_kind Read Write = false
same_kind Read Sync = false
same_kind Write Read = false
same_kind Write Sync = false
same_kind Sync Read = false
same_kind Sync Write = false

-- A call of that kind touches a sector of the arm's: one of so many sectors from this one on.
abbrev pub touches : Kind → ℕ → ℕ → Arm → Bool
touches kind sector sectors a = same_kind a.kind kind && (nat_le (max a.first sector) a.last && nat_lt (max a.first sector) (sector + sectors))

-- The arm fires at this call: it touches it, so many such calls were skipped, and it fires for the first time.
abbrev pub is_due : Kind → ℕ → ℕ → Arm → Bool
is_due kind sector sectors a = not a.spent && (touches kind sector sectors a && nat_eq a.skip 0)

-- what is left of the arm after the call
abbrev pub after_call : Kind → ℕ → ℕ → Arm → Arm
after_call kind sector sectors a =
    if not a.spent && touches kind sector sectors a
    then record { kind = a.kind; first = a.first; last = a.last; skip = a.skip - 1; how = a.how; spent = nat_eq a.skip 0 }
    else a

-- an arm that has met no call yet
abbrev pub new_arm : Kind → ℕ → ℕ → ℕ → How → Arm
new_arm kind first last skip how = record { kind = kind; first = first; last = last; skip = skip; how = how; spent = false }

-- it fails every later call too
abbrev pub stops : Arm → Bool
stops a = is_stop a.how
  where
    is_stop : How → Bool
    is_stop Once = false
    is_stop Stop = true

-- The call fails: the device has stopped, or an arm fires.
abbrev pub fails : Kind → ℕ → ℕ → Arms → Bool
fails kind sector sectors arms = arms.stopped || list_any (is_due kind sector sectors) arms.list.items

-- the arms before a call and after it
pub record Met (kind : Kind) (sector sectors : ℕ) (old new : Arms) : Type 0 where
  pub each : new.list.items ≡ map (after_call kind sector sectors) old.list.items
  pub stopped : new.stopped ≡ (old.stopped || list_any (λ a. is_due kind sector sectors a && stops a) old.list.items)
