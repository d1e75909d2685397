-- The rows of a pool record have their widths, and are read back from their spellings.
use Rattle.std.proofs.Common.{◌≡◌, ℕ, ◌<◌, ◌≤◌, List, [], ◌∷◌, ◌++◌, length, take, replicate, min, get_or, refl, ap, ◌∙◌, arith}
use Rattle.std.proofs.lemmas.List.{length-append, get_or_at}
use Rattle.st_units.specs.declared.rows.DevRow.{DevRow}
use Rattle.st_units.specs.declared.rows.Segment.{Segment}
use Rattle.st_units.specs.declared.rows.Tier.{Tier}
use Rattle.st_units.specs.declared.rows.Tier.TheVariants.{DataTier, CacheTier}
use Rattle.st_fields.specs.Fields.{number, number_at, spelling}
use Rattle.st_fields.proofs.Spellings.{number-spelling}
use Rattle.st_recrows.specs.Texts.{filled, text_in}
use Rattle.st_recrows.specs.TextLaws.{path_short, length-filled, text_back, past_text}
use Rattle.st_recrows.specs.PoolRows.{tier_code, tier_in, dev_text, DevFits, dev_fields, segment_text, SegmentFits, segment_fields}

pub positive_12 : 0 < 12
positive_12 = omega arith

pub positive_80 : 0 < 80
positive_80 = omega arith

pub segment_width : (s : Segment) → SegmentFits s → length (segment_text s) ≡ 12
segment_width s fit = refl

pub segment_reads_back : (s : Segment) → SegmentFits s → segment_fields (segment_text s) ≡ s
segment_reads_back s fit =
    let dev = number-spelling 2 s.dev (spelling 2 0 ++ (spelling 4 s.first ++ spelling 4 s.blocks)) (omega (arith, fit.dev)) in
    let first = number-spelling 4 s.first (spelling 4 s.blocks) (omega (arith, fit.first)) in
    let blocks = number-spelling 4 s.blocks [] (omega (arith, fit.blocks)) in
    λ i. record { dev = dev i; first = first i; blocks = blocks i }

pub dev_width : (d : DevRow) → DevFits d → length (dev_text d) ≡ 80
dev_width d fit =
    let size = length-filled d.path (path_short d.path fit.path) in
    let all = length-append (filled d.path) (tier_code d.tier ∷ (replicate 5 0 ++ spelling 8 d.sectors)) in
    omega (arith, size, all)

tier_back : (tier : Tier) → tier_in (tier_code tier) ≡ tier
tier_back DataTier = refl
tier_back CacheTier = refl

pub dev_reads_back : (d : DevRow) → DevFits d → dev_fields (dev_text d) ≡ d
dev_reads_back d fit =
    let short : length d.path ≤ 64 = path_short d.path fit.path in
    let after : List ℕ = tier_code d.tier ∷ (replicate 5 0 ++ spelling 8 d.sectors) in
    let count : number_at 2 0 (dev_text d) ≡ length d.path = number-spelling 2 (length d.path) (filled d.path ++ after) (omega arith) in
    let path : text_in (number_at 2 0 (dev_text d)) 2 (dev_text d) ≡ d.path = ap (λ (n : ℕ). take (min n 64) (filled d.path ++ after)) count ∙ text_back d.path after short in
    let byte : get_or (filled d.path ++ after) 64 0 ≡ tier_code d.tier = get_or_at (filled d.path) (tier_code d.tier) (replicate 5 0 ++ spelling 8 d.sectors) 0 64 (length-filled d.path short) in
    let tier : tier_in (get_or (dev_text d) 66 0) ≡ d.tier = ap tier_in byte ∙ tier_back d.tier in
    let sectors : number_at 8 72 (dev_text d) ≡ d.sectors = ap (λ (l : List ℕ). number 8 l) (past_text d.path after 6 short) ∙ number-spelling 8 d.sectors [] (omega (arith, fit.sectors)) in
    λ i. record { path = path i; tier = tier i; sectors = sectors i }
