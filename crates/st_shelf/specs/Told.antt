-- What a device was told, as a rack keeps it: C is what holds a device's content.
use Rattle.std.specs.Prelude.{ℕ, ◌*◌, List, [], ◌∷◌}
use Rattle.st_rack.specs.Story.{Content, Story, Began, Wrote, Settled}
use Rattle.st_shelf.specs.declared.told.Told.{Told, Blank, Wrote', Settled'}
use Rattle.st_shelf.specs.declared.told.Text.{Text, End, Byte'}

abbrev pub letters : Text → List ℕ
letters End = []
letters (Byte' b m rest) = b ∷ letters rest

-- the story of a device that began with zeros
abbrev pub story_of : {C : Type 0} → (C → Content) → Told C → Story
story_of content Blank = Began (λ i. 0)
story_of content (Wrote' sector text m rest) = Wrote (512 * sector) (letters text.value) (story_of content rest)
story_of content (Settled' c m rest) = Settled (content c.value) (story_of content rest)
