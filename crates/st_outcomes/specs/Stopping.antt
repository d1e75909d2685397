-- What StopPool answers where it meets nothing, and the table in which a pool is halted.
use Rattle.std.specs.Prelude.{◌≡◌, true, false, Some, None, IfSome}
use Rattle.std.specs.List.{AllByRecursion}
use Rattle.st_units.specs.declared.cause.Cause.TheVariants.{NoSuchPool}
use Rattle.st_model.specs.declared.call.Call.TheVariants.{StopPool}
use Rattle.st_model.specs.declared.entry.Env.TheVariants.{Plain}
use Rattle.st_model.specs.declared.reply.Given.TheVariants.{Changed}
use Rattle.st_model.specs.declared.reply.Identity.TheVariants.{Pool}
use Rattle.st_model.specs.declared.state.EngineState.{EngineState}
use Rattle.st_model.specs.declared.state.PoolState.{PoolState}
use Rattle.st_model.specs.Answer.{accepted, refused}
use Rattle.st_model.specs.Checks.{halted}
use Rattle.st_model.specs.Look.{Text, flight_of, is_started, uses}
use Rattle.st_model.specs.Parts.{own, pool_at}
use Rattle.st_model.specs.Step.{outcome}
use Rattle.st_model.specs.Valid.{IsValid}
use Rattle.st_table.specs.declared.halted.HaltedInfo.{HaltedInfo}
use Rattle.st_table.specs.Stands.{info_in}
use Rattle.st_table.specs.Steps.{StandsFor, kept, with_other}
use Rattle.st_table.specs.Table.{IsFree, TableView, changed, halted_as, is_taken, with_instead, without}

pub record StopOutcomes : Type 0 where
  pub unknown : (s : EngineState) (name : Text) → pool_at name s.pools ≡ None → outcome s (StopPool name) Plain ≡ Some (refused NoSuchPool, s)
  pub idle : (s : EngineState) (name : Text) (p : PoolState) → pool_at name s.pools ≡ Some p → is_started p.mode ≡ false
      → outcome s (StopPool name) Plain ≡ Some (accepted (Changed false None), s)
  pub started : (s : EngineState) (name : Text) (p : PoolState) → IsValid s → pool_at name s.pools ≡ Some p → is_started p.mode ≡ true
      → outcome s (StopPool name) Plain ≡ Some (accepted (Changed true (Some (Pool p.serial))), with_other name (halted p) s)

-- what a stopped pool has in common with what it was
pub record StaysAs (p q : PoolState) : Type 0 where
  pub idle : is_started q.mode ≡ false
  pub name : q.name ≡ p.name
  pub serial : q.serial ≡ p.serial
  pub flight : flight_of q.mode ≡ flight_of p.mode
  pub uses : (path : Text) → uses path q ≡ uses path p

-- The pool of the state may be halted in the table, with this kept of it; that table stands for the state after a stop.
pub record MayHalt (view : TableView) (s : EngineState) (p : PoolState) (info : HaltedInfo) : Type 0 where
  pub new : IfSome info.new (λ new. is_taken new (without p.name view.pools) ≡ false)
  pub free : AllByRecursion (IsFree (without p.name view.pools) view.devices) info.devs
  pub after : IsValid (with_other p.name (halted p) s)
  pub stands : StandsFor (record (changed view (with_instead p.name (halted_as info (kept p)) view.pools)) { spare = true }) (with_other p.name (halted p) s)

abbrev pub StopsAs : Type 0
StopsAs = (p : PoolState) → is_started p.mode ≡ true → StaysAs p (halted p)

abbrev pub HaltsTold : Type 0
HaltsTold = (view : TableView) (s : EngineState) (p : PoolState) (info : HaltedInfo) → IsValid s → StandsFor view s → own p.name s ≡ Some p
    → info_in (halted p) (halted p).mode ≡ Some info → MayHalt view s p info
