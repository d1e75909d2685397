-- What a device shows whose memory is taken when it is made.
use Rattle.std.specs.Prelude.{ℕ}
use Rattle.st_rack.specs.Device.{Path, DevState}
use Rattle.st_shelf.specs.Told.{story_of}
use Rattle.st_blocks.specs.Blocks.{content_of}
use Rattle.st_memrack.specs.declared.slab.Slab.{Slab}

abbrev pub slab_path : Slab → Path
slab_path s = s.path

abbrev pub slab_size : Slab → ℕ
slab_size s = s.sectors

abbrev pub slab_state : Slab → DevState
slab_state s = record { holds = content_of s.blocks; story = story_of content_of s.story.value }

abbrev pub slab_reads : Slab → ℕ
slab_reads s = s.reads
