-- The head of a pool record, and how it is spelled.
use Rattle.std.specs.Prelude.{◌≡◌, ℕ, ◌+◌, ◌/◌, ◌%◌, ◌<◌, ◌^◌, Bool, true, List, ◌++◌, length, ◌==◌, if◌then◌else◌}
use Rattle.st_units.specs.Text.{is_name}
use Rattle.st_poolrec.specs.declared.head.PoolHead.{PoolHead}
use Rattle.st_fields.specs.Fields.{number_at, spelling}
use Rattle.st_recrows.specs.Texts.{filled, text_in}

-- bit 0: the pool is gone; bit 1: overprovisioning is on; bit 2: the record is of version 2
abbrev pub flags : Bool → Bool → Bool → ℕ
flags gone overprovisioning version2 = ((if gone then 1 else 0) + (if overprovisioning then 2 else 0)) + (if version2 then 4 else 0)

-- the serial, the flags, the filesystem limit, the length of the name, how many devices, how many segments,
-- 2 zero bytes, the name
abbrev pub head_text : PoolHead → List ℕ
head_text h =
    spelling 8 h.serial ++ (spelling 4 (flags h.gone h.overprovisioning h.version2) ++ (spelling 4 h.fs_limit ++ (spelling 2 (length h.name)
    ++ (spelling 2 h.devs ++ (spelling 2 h.segments ++ (spelling 2 0 ++ filled h.name))))))

-- what a head can hold
pub record HeadFits (h : PoolHead) : Type 0 where
  pub serial : h.serial < 2 ^ 64
  pub fs_limit : h.fs_limit < 2 ^ 32
  pub name : is_name h.name ≡ true
  pub devs : h.devs < 2 ^ 16
  pub segments : h.segments < 2 ^ 16

abbrev pub head_fields : List ℕ → PoolHead
head_fields bytes = record {
  serial = number_at 8 0 bytes;
  gone = number_at 4 8 bytes % 2 == 1;
  overprovisioning = number_at 4 8 bytes / 2 % 2 == 1;
  version2 = number_at 4 8 bytes / 4 % 2 == 1;
  fs_limit = number_at 4 12 bytes;
  name = text_in (number_at 2 16 bytes) 24 bytes;
  devs = number_at 2 18 bytes;
  segments = number_at 2 20 bytes;
}
