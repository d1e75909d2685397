-- What a device was told, what it was meant to hold, and when what is read from it is no accident.
use Rattle.std.specs.Prelude.{◌≡◌, ◌⊎◌, ℕ, ◌+◌, ◌-◌, Bool, false, ◌&&◌, ◌||◌, nat_le, nat_lt, List, length, get_or, Option, None, if◌then◌else◌}

-- each byte of a device, by its offset
abbrev pub Content : Type 0
Content = ℕ → ℕ

-- The newest is told last: the content that the device began with, each write as it was meant (its offset and its bytes), also
-- one that failed, and each content that a successful sync or a power cut settled.
pub data Story : Type 0 where
  Began : Content → Story
  Wrote : ℕ → List ℕ → Story → Story
  Settled : Content → Story → Story

-- the offset lies within n bytes from `at` on
abbrev pub within : ℕ → ℕ → ℕ → Bool
within at n i = nat_le at i && nat_lt i (at + n)

-- the content with these bytes from `at` on
abbrev pub put_in : ℕ → List ℕ → Content → Content
put_in at bytes f i = if within at (length bytes) i then get_or bytes (i - at) 0 else f i

-- the content that is meant now
abbrev pub latest : Story → Content
latest (Began f) = f
latest (Wrote at bytes story) = put_in at bytes (latest story)
latest (Settled f story) = f

-- a write touched the byte since the content was last settled
abbrev pub unsettled : Story → ℕ → Bool
unsettled (Began f) i = false
unsettled (Wrote at bytes story) i = within at (length bytes) i || unsettled story i
unsettled (Settled f story) i = false

-- The content was meant at some time since it was last settled: what was settled, or this with the writes up to one of those since.
abbrev pub Meant : Story → Content → Type 0
Meant (Began f) m = m ≡ f
Meant (Wrote at bytes story) m = (m ≡ put_in at bytes (latest story)) ⊎ Meant story m
Meant (Settled f story) m = m ≡ f

-- What a reader finds in a content is nothing, or what it finds in one that was meant.
pub record Fair {X : Type 0} (read : Content → Option X) (story : Story) (c : Content) : Type 0 where
  pub found : (read c ≡ None) ⊎ ((m : Content) × Meant story m × (read c ≡ read m))

-- so it was of each content that was settled
abbrev pub FairPast : {X : Type 0} → (Content → Option X) → Story → Type 0
FairPast read (Began f) = Unit {0}
FairPast read (Wrote at bytes story) = FairPast read story
FairPast read (Settled f story) = Fair read story f × FairPast read story

-- No torn text is valid by chance, in this content or in one that was settled before.
pub record NoChance {X : Type 0} (read : Content → Option X) (story : Story) (c : Content) : Type 0 where
  pub now : Fair read story c
  pub past : FairPast read story

-- the second story is the first, with perhaps more told since
abbrev pub Grows : Story → Story → Type 0
Grows old (Began f) = Began f ≡ old
Grows old (Wrote at bytes story) = (Wrote at bytes story ≡ old) ⊎ Grows old story
Grows old (Settled f story) = (Settled f story ≡ old) ⊎ Grows old story
