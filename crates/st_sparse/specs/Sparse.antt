-- What a sparse device shows.
use Rattle.std.specs.Prelude.{ℕ, None}
use Rattle.st_rack.specs.Story.{Content}
use Rattle.st_rack.specs.Device.{Path, DevState}
use Rattle.st_shelf.specs.Told.{story_of}
use Rattle.st_sparse.specs.Sectors.{byte_at}
use Rattle.st_sparse.specs.Since.{content}
use Rattle.st_sparse.specs.declared.sparse.Sparse.{Sparse}

abbrev pub sparse_path : Sparse → Path
sparse_path s = s.path

abbrev pub sparse_size : Sparse → ℕ
sparse_size s = s.size

abbrev pub sparse_reads : Sparse → ℕ
sparse_reads s = s.reads

-- what was settled last
abbrev pub settled : Sparse → Content
settled s = byte_at s.kept

-- A read gives what was settled last, with what of each write since then was taken when it was written.
abbrev pub sparse_state : Sparse → DevState
sparse_state s = record { holds = content None s.since.items (settled s); story = story_of byte_at s.story.value }
