-- A small reader, which shows how a client speaks of what a crash leaves: a block of 512 bytes that counts as written where its
-- first 8 bytes are a tag; it is then read as its 504 other bytes.
use Rattle.std.specs.Prelude.{ℕ, ◌+◌, List, Option, Some, None, if◌then◌else◌}
use Rattle.std.specs.Str.{bytes_eq}
use Rattle.st_rack.specs.Story.{Content}
use Rattle.st_rack.specs.Device.{Path, cells}

-- a block, or nothing
abbrev pub Found : Type 0
Found = Option (List ℕ)

abbrev pub read_tagged : List ℕ → ℕ → Content → Found
read_tagged tag at c = if bytes_eq (cells c at 8) tag then Some (cells c (at + 8) 504) else None

-- the readers of one tag, by offset, on each device
abbrev pub tagged : List ℕ → ℕ → Path → Content → Found
tagged tag at p c = read_tagged tag at c
