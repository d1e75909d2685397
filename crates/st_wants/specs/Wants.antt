-- which wants may be granted beside one another
use Rattle.std.specs.Prelude.{ℕ, Bool, true, false, not, ◌||◌, List}
use Rattle.std.specs.List.{list_any}
use Rattle.st_wants.specs.declared.want.Mode.{Mode}
use Rattle.st_wants.specs.declared.want.Mode.TheVariants.{Read, Write}
use Rattle.st_wants.specs.declared.want.Want.{Want}
use Rattle.st_wants.specs.declared.want.Want.TheVariants.{Some, All}
use Rattle.st_wants.specs.Names.{is_named}

abbrev pub mode_of : Want → Mode
mode_of (Some names m) = m
mode_of (All m) = m

abbrev pub both_read : Mode → Mode → Bool
both_read Read Read = true
both_read Read Write = false
both_read Write m = false

-- whether a name is in both
abbrev pub share_a_name : List (List ℕ) → List (List ℕ) → Bool
share_a_name ps qs = list_any (λ p. is_named qs p) ps

-- each names pools, and no name is in both
abbrev pub pools_differ : Want → Want → Bool
pools_differ (Some ps m) (Some qs n) = not (share_a_name ps qs)
pools_differ (Some ps m) (All n) = false
pools_differ (All m) b = false

-- both read, or both name pools and have no name in common
abbrev pub compatible : Want → Want → Bool
compatible a b = both_read (mode_of a) (mode_of b) || pools_differ a b

-- they may not be granted at one time
abbrev pub conflict : Want → Want → Bool
conflict a b = not (compatible a b)

-- the want lets its holder change the pool of this name
abbrev pub writes : Want → List ℕ → Bool
writes (Some names Write) name = is_named names name
writes (Some names Read) name = false
writes (All Write) name = true
writes (All Read) name = false

-- the want shows its holder the pool of this name, which it doesn't let it change
abbrev pub reads : Want → List ℕ → Bool
reads (Some names Write) name = false
reads (Some names Read) name = is_named names name
reads (All Write) name = false
reads (All Read) name = true

-- the want lets its holder change the table
abbrev pub takes_table : Want → Bool
takes_table (Some names m) = false
takes_table (All Write) = true
takes_table (All Read) = false
