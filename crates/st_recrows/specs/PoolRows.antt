-- The rows of a pool record, and how each is spelled.
use Rattle.std.specs.Prelude.{◌≡◌, ℕ, ◌<◌, ◌^◌, true, List, ◌∷◌, ◌++◌, length, replicate, slice_index, ◌==◌, if◌then◌else◌}
use Rattle.st_units.specs.Text.{is_path}
use Rattle.st_units.specs.declared.rows.DevRow.{DevRow}
use Rattle.st_units.specs.declared.rows.Segment.{Segment}
use Rattle.st_units.specs.declared.rows.Tier.{Tier}
use Rattle.st_units.specs.declared.rows.Tier.TheVariants.{DataTier, CacheTier}
use Rattle.st_fields.specs.Fields.{number_at, spelling}
use Rattle.st_recrows.specs.Texts.{filled, text_in}

-- the byte of a tier
abbrev pub tier_code : Tier → ℕ
tier_code DataTier = 0
tier_code CacheTier = 1

-- a device: the length of its path, the path, its tier, 5 zero bytes, its sectors
abbrev pub dev_text : DevRow → List ℕ
dev_text d = spelling 2 (length d.path) ++ (filled d.path ++ (tier_code d.tier ∷ (replicate 5 0 ++ spelling 8 d.sectors)))

-- what a device's row can hold
pub record DevFits (d : DevRow) : Type 0 where
  pub path : is_path d.path ≡ true
  pub sectors : d.sectors < 2 ^ 64

abbrev pub tier_in : ℕ → Tier
tier_in byte = if byte == 0 then DataTier else CacheTier

abbrev pub dev_fields : List ℕ → DevRow
dev_fields bytes = record { path = text_in (number_at 2 0 bytes) 2 bytes; tier = tier_in (slice_index bytes 66); sectors = number_at 8 72 bytes }

-- a segment: the number of its device's row, 2 zero bytes, its first block, its blocks
abbrev pub segment_text : Segment → List ℕ
segment_text s = spelling 2 s.dev ++ (spelling 2 0 ++ (spelling 4 s.first ++ spelling 4 s.blocks))

-- what a segment's row can hold
pub record SegmentFits (s : Segment) : Type 0 where
  pub dev : s.dev < 2 ^ 16
  pub first : s.first < 2 ^ 32
  pub blocks : s.blocks < 2 ^ 32

abbrev pub segment_fields : List ℕ → Segment
segment_fields bytes = record { dev = number_at 2 0 bytes; first = number_at 4 4 bytes; blocks = number_at 4 8 bytes }
