-- What the blocks of a device show.
use Rattle.std.specs.Prelude.{ℕ, vec_len}
use Rattle.st_rack.specs.Story.{Content}
use Rattle.st_blocks.specs.Kept.{bytes_of}
use Rattle.st_blocks.specs.declared.blocks.Blocks.{Blocks}

-- each byte
abbrev pub content_of : Blocks → Content
content_of b = bytes_of b.places.items b.room.items

-- how many blocks they are
abbrev pub count_of : Blocks → ℕ
count_of b = vec_len b.places
