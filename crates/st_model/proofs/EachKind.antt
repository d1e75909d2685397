-- every kind of call that may be in flight, a line for each
use Rattle.std.proofs.Common.{◌≡◌, ℕ, ◌+◌, ◌≤◌, ◌^◌, List, [], ◌∷◌, length, Option, Some, None, refl}
use Rattle.std.specs.List.{AllByRecursion}
use Rattle.st_units.specs.declared.rows.DevRow.{DevRow}
use Rattle.st_model.specs.declared.call.Call.{Call}
use Rattle.st_model.specs.declared.call.Call.TheVariants.{CreatePool, DestroyPool, StopPool, StartPool, RenamePool, AddDataDevs, InitCache, AddCacheDevs, CreateFilesystems, DestroyFilesystems, SnapshotFilesystem, RenameFilesystem, SetSizeLimit, SetFsLimit, SetOverprovisioning, FsWrite, FsRead, Check, PoolReport, PoolReports, EngineStateReport, SetMerge, PowerCycle}
use Rattle.st_model.specs.declared.state.EngineState.{EngineState}
use Rattle.st_model.specs.declared.state.PoolState.{PoolState}
use Rattle.st_model.specs.Look.{flight_of}
use Rattle.st_model.specs.Valid.{Apart, AreThere, IsAccepted, IsOn, IsOnIfAny, IsFlight, IsValid}
use Rattle.st_model.specs.ValidPool.{EachPair, IsValidPool}
use Rattle.st_model.specs.Flight.{state_before}
use Rattle.st_model.specs.Plain.{plain}
use Rattle.st_model.specs.steps.AddCacheDevs.{more_cache}
use Rattle.st_model.specs.steps.AddDataDevs.{data_devs}
use Rattle.st_model.specs.steps.Check.{check_pool}
use Rattle.st_model.specs.steps.FsRead.{fs_read}
use Rattle.st_model.specs.steps.FsWrite.{fs_write}
use Rattle.st_model.specs.steps.CreateFilesystems.{create_filesystems}
use Rattle.st_model.specs.steps.DestroyFilesystems.{destroy_filesystems}
use Rattle.st_model.specs.steps.InitCache.{new_cache}
use Rattle.st_model.specs.steps.RenameFilesystem.{rename_filesystem}
use Rattle.st_model.specs.steps.SetFsLimit.{set_fs_limit}
use Rattle.st_model.specs.steps.SetMerge.{set_merge}
use Rattle.st_model.specs.steps.SetOverprovisioning.{set_overprovisioning}
use Rattle.st_model.specs.steps.SetSizeLimit.{set_size_limit}
use Rattle.st_model.specs.steps.SnapshotFilesystem.{snapshot_filesystem}
use Rattle.st_model.proofs.AddKind.{add-kind}
use Rattle.st_model.proofs.Alone.{alone_before, IsAloneFlight, AcceptedAlike, doing-kind, rename-kind, destroy-kind}
use Rattle.st_model.proofs.Among.{IsPlaced, all_placed, All-with}
use Rattle.st_model.proofs.CreateKind.{create-kind}

pub kind : (call : Call) → (s : EngineState) (p : PoolState) → IsPlaced s.devices s.pools p → AreThere s.devices p p.mode → length s.pools ≤ 16 → IsOn p.name call → flight_of p.mode ≡ Some call
    → AcceptedAlike (plain (state_before s p call) call) (plain (alone_before s.devices p call) call)
kind (CreatePool name devices) s p placed there count on flight = create-kind name devices s p placed there count on flight
kind (RenamePool name new) s p placed there count on flight = rename-kind name new s p placed on flight
kind (CreateFilesystems pool specs) s p placed there count on flight = doing-kind s p pool (create_filesystems specs) placed on
kind (SetFsLimit pool limit) s p placed there count on flight = doing-kind s p pool (set_fs_limit limit) placed on
kind (StopPool name) s p placed there count on flight = absurd on
kind (StartPool id) s p placed there count on flight = absurd on
kind (PoolReport pool) s p placed there count on flight = absurd on
kind EngineStateReport s p placed there count on flight = absurd on
kind PowerCycle s p placed there count on flight = absurd on
kind (DestroyPool name) s p placed there count on flight = destroy-kind name s p placed on
kind (AddDataDevs pool devices) s p placed there count on flight = add-kind data_devs (AddDataDevs pool devices) pool devices s p placed there on flight refl
kind (InitCache pool devices) s p placed there count on flight = add-kind new_cache (InitCache pool devices) pool devices s p placed there on flight refl
kind (AddCacheDevs pool devices) s p placed there count on flight = add-kind more_cache (AddCacheDevs pool devices) pool devices s p placed there on flight refl
kind (DestroyFilesystems pool names) s p placed there count on flight = doing-kind s p pool (destroy_filesystems names) placed on
kind (SnapshotFilesystem pool origin new) s p placed there count on flight = doing-kind s p pool (snapshot_filesystem origin new) placed on
kind (RenameFilesystem pool fs new) s p placed there count on flight = doing-kind s p pool (rename_filesystem fs new) placed on
kind (SetSizeLimit pool fs limit) s p placed there count on flight = doing-kind s p pool (set_size_limit fs limit) placed on
kind (SetOverprovisioning pool value) s p placed there count on flight = doing-kind s p pool (set_overprovisioning value) placed on
kind (FsRead pool fs sector sectors) s p placed there count on flight = doing-kind s p pool (fs_read fs sector sectors) placed on
kind (FsWrite pool fs sector payload) s p placed there count on flight = doing-kind s p pool (fs_write fs sector payload) placed on
kind (Check pool) s p placed there count on flight = doing-kind s p pool check_pool placed on
kind (SetMerge pool fs value) s p placed there count on flight = doing-kind s p pool (set_merge fs value) placed on
kind (PoolReports pools) s p placed there count on flight = absurd on

flight_alike : (s : EngineState) (p : PoolState) → IsPlaced s.devices s.pools p → AreThere s.devices p p.mode → length s.pools ≤ 16 → (o : Option Call) → flight_of p.mode ≡ o → IsOnIfAny p.name o
    → (IsFlight s p o → IsAloneFlight s.devices p o) × (IsAloneFlight s.devices p o → IsFlight s p o)
flight_alike s p placed there count None e on = (λ h. tt, λ h. tt)
flight_alike s p placed there count (Some call) e on = kind call s p placed there count on e

-- all that is said of one pool, apart from what it shares with none
pub record IsGood (next : ℕ) (rows : List DevRow) (p : PoolState) : Type 0 where
  pub valid : IsValidPool next p
  pub there : AreThere rows p p.mode
  pub on : IsOnIfAny p.name (flight_of p.mode)
  pub flight : IsAloneFlight rows p (flight_of p.mode)

-- a valid state is one whose pools are good, each by itself, and apart
pub valid-good : (s : EngineState) → IsValid s → AllByRecursion (IsGood s.next s.devices) s.pools
valid-good s v =
    All-with _ _ _ s.pools
    (λ p a b. record { valid = a.0; there = a.1; on = b.0.0; flight = (flight_alike s p b.1 a.1 v.count (flight_of p.mode) refl b.0.0).0 b.0.1 })
    (All-with _ _ (λ p. IsValidPool s.next p × AreThere s.devices p p.mode) s.pools (λ p a b. (a, b)) v.pools v.there)
    (All-with _ _ (λ p. (IsOnIfAny p.name (flight_of p.mode) × IsFlight s p (flight_of p.mode)) × IsPlaced s.devices s.pools p) s.pools (λ p a b. (a, b))
    (All-with _ _ (λ p. IsOnIfAny p.name (flight_of p.mode) × IsFlight s p (flight_of p.mode)) s.pools (λ p a b. (a, b)) v.on v.flights) (all_placed s.devices s.pools v.apart))

pub good-flights : (s : EngineState) → length s.pools ≤ 16 → EachPair (Apart s.devices) s.pools → AllByRecursion (IsGood s.next s.devices) s.pools
    → AllByRecursion (λ (p : PoolState). IsFlight s p (flight_of p.mode)) s.pools
good-flights s count apart good =
    All-with _ _ _ s.pools (λ p g placed. (flight_alike s p placed g.there count (flight_of p.mode) refl g.on).1 g.flight) good (all_placed s.devices s.pools apart)

module _ {X : Type 0} where
  pub All-weak : (P Q : X → Type 0) (xs : List X) → ((x : X) → P x → Q x) → AllByRecursion P xs → AllByRecursion Q xs
  All-weak P Q [] f h = tt
  All-weak P Q (x ∷ xs) f h = (f x h.0, All-weak P Q xs f h.1)

pub record HasBounds (s : EngineState) : Type 0 where
  pub from_one : 1 ≤ s.next
  pub bounded : s.next ≤ 2 ^ 48 + 1
  pub rack : Rattle.st_model.specs.Valid.AreRackRows s.devices
  pub count : length s.pools ≤ 16

pub good-valid : (s : EngineState) → HasBounds s → EachPair (Apart s.devices) s.pools → AllByRecursion (IsGood s.next s.devices) s.pools → IsValid s
good-valid s b apart good = record {
  from_one = b.from_one;
  bounded = b.bounded;
  rack = b.rack;
  count = b.count;
  pools = All-weak _ _ s.pools (λ p g. g.valid) good;
  there = All-weak _ _ s.pools (λ p g. g.there) good;
  on = All-weak _ _ s.pools (λ p g. g.on) good;
  flights = good-flights s b.count apart good;
  apart = apart;
}
