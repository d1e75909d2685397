-- The record of a pool: its one spelling, and which values have one.
use Rattle.std.specs.Prelude.{◌≡◌, ℕ, Bool, true, ◌&&◌, nat_le, List, ◌++◌, length}
use Rattle.st_limits.specs.declared.TheConstants.{MAX_POOL_DEVICES}
use Rattle.st_recrows.specs.Rows.{AllFit, rows_text}
use Rattle.st_recrows.specs.PoolRows.{DevFits, dev_text, SegmentFits, segment_text}
use Rattle.st_poolrec.specs.declared.head.PoolHead.{PoolHead}
use Rattle.st_poolrec.specs.declared.record.PoolRec.{PoolRec}
use Rattle.st_poolrec.specs.Head.{HeadFits, head_text}
use Rattle.st_poolrec.specs.Conditions.{most_filesystems, rows_fit}

abbrev pub head_of : PoolRec → PoolHead
head_of rec = record {
  serial = rec.serial;
  gone = rec.gone;
  overprovisioning = rec.overprovisioning;
  version2 = rec.version2;
  fs_limit = rec.fs_limit;
  name = rec.name;
  devs = length rec.devs;
  segments = length rec.segments;
}

-- the head, the rows of the devices, the rows of the segments
abbrev pub record_text : PoolRec → List ℕ
record_text rec = head_text (head_of rec) ++ (rows_text dev_text rec.devs ++ rows_text segment_text rec.segments)

-- what every value of the type is, once its rows can be counted: numbers within their fields, names and paths
pub record RecFits (rec : PoolRec) : Type 0 where
  pub head : HeadFits (head_of rec)
  pub devs : AllFit DevFits rec.devs
  pub segments : AllFit SegmentFits rec.segments

-- a limit on filesystems, at least one device and no more than a pool may have, no more segments, and the conditions on the rows
abbrev pub is_record : PoolRec → Bool
is_record rec = nat_le rec.fs_limit (most_filesystems rec.version2) && (nat_le 1 (length rec.devs) && (nat_le (length rec.devs) MAX_POOL_DEVICES && (nat_le (length rec.segments) MAX_POOL_DEVICES && rows_fit rec.devs rec.segments)))

-- the values of which there is a spelling
pub record IsPoolRec (rec : PoolRec) : Type 0 where
  pub fits : RecFits rec
  pub valid : is_record rec ≡ true
