-- laws of the merge of a pool, and of what a refusal leaves
use Rattle.std.specs.Prelude.{◌≡◌, ◌==◌, false}
use Rattle.std.specs.List.{AllByRecursion}
use Rattle.st_units.specs.declared.cause.Cause.TheVariants.{DeviceFault, PoolVanished}
use Rattle.st_model.specs.declared.call.Call.{Call}
use Rattle.st_model.specs.declared.entry.Env.{Env}
use Rattle.st_model.specs.declared.state.EngineState.{EngineState}
use Rattle.st_model.specs.declared.state.FsState.{FsState}
use Rattle.st_model.specs.declared.state.PoolState.{PoolState}
use Rattle.st_model.specs.Answer.{code_of}
use Rattle.st_model.specs.Merged.{merged}
use Rattle.st_model.specs.Step.{step}
use Rattle.st_model.specs.Valid.{IsValid}
use Rattle.st_model.specs.ValidPool.{IsWhole}

-- the merge of a pool that is whole is whole
abbrev pub MergesKeep : Type 0
MergesKeep = (p : PoolState) → IsWhole p → IsWhole (merged p)

-- no filesystem of a merge is marked
abbrev pub NoneIsMarked : Type 0
NoneIsMarked = (p : PoolState) → AllByRecursion (λ (fs : FsState). fs.row.merge ≡ false) (merged p).filesystems

-- a merge is its own merge
abbrev pub IsItsOwn : Type 0
IsItsOwn = (p : PoolState) → merged (merged p) ≡ merged p

-- A call that is refused changes nothing, in a valid state: whatever it met, but for a write that failed (code 27) and for a
-- pool that is found to have vanished (code 15).
abbrev pub RefusalsKeep : Type 0
RefusalsKeep = (s : EngineState) (call : Call) (env : Env) → IsValid s
    → ((step s call env).0.code == 0) ≡ false → ((step s call env).0.code == code_of DeviceFault) ≡ false → ((step s call env).0.code == code_of PoolVanished) ≡ false
    → (step s call env).1 ≡ s
