-- What commits leave on the devices of a pool.
use Rattle.std.specs.Prelude.{◌≡◌, ℕ, true, List, map, Some, slice_get}
use Rattle.st_poolrec.specs.declared.record.PoolRec.{PoolRec}
use Rattle.st_poolrec.specs.Record as pools
use Rattle.st_flexlog.specs.declared.state.FlexState.{FlexState}
use Rattle.st_flexlog.specs.Said.{Says}
use Rattle.st_rack.specs.Device.{Path, DevState, State}
use Rattle.st_rack.specs.Calls.{Devices}
use Rattle.st_rack.specs.Readers.{SureIn}
use Rattle.st_deltalog.specs.Log.{Log}
use Rattle.st_commit.specs.Ready.{BearsRecord, Ready}
use Rattle.st_image.specs.Looks.{pool_area, flex_area, has_header}
use Rattle.st_image.specs.Bears.{SpellsPool, first_of, paths}
use Rattle.st_image.specs.Kept.{as_pair}

-- The header of a device of so many sectors is for this pool, and no crash takes it away.
pub record HasOwnHeader (p sectors : ℕ) (s : DevState) : Type 0 where
  pub sure : SureIn 0 8192 s
  pub header : has_header p sectors s.holds ≡ true

-- Each device of a pool bears its header and this record, which is the newest of one history of records; and the log of its
-- generation rests on the first device and says this.
pub record Committed (p : ℕ) (devs : Devices) (g : ℕ) (rec : PoolRec) (st : FlexState) (s : State) : Type 0 where
  pub up : ℕ
  pub h : ℕ → List ℕ
  pub log : Log
  pub is : pools.IsPoolRec rec
  pub serial : rec.serial ≡ p
  pub rows : map as_pair rec.devs ≡ devs
  pub top : h g ≡ pools.record_text rec
  pub ready : Ready pool_area flex_area p up h (paths devs) (first_of rec) g (Some log) s
  pub borne : (k : ℕ) (d : Path × ℕ) → slice_get devs k ≡ Some d → BearsRecord pool_area g (pools.record_text rec) (s d.0)
  pub headers : (k : ℕ) (d : Path × ℕ) → slice_get devs k ≡ Some d → HasOwnHeader p d.1 (s d.0)
  pub past : (k : ℕ) → (old : PoolRec) × SpellsPool (h k) old
  pub says : Says log.start log.body log.deltas st
  pub version : st.version2 ≡ rec.version2
