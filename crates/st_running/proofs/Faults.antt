-- the reply of a call of the engine is DeviceFault just where the call met a fault of a device
use Rattle.std.proofs.Common.{◌≡◌, ◌==◌, List, Bool, true, false, Option, Some, None, is_some, refl, sym}
use Rattle.std.specs.Prelude.{ℕ, unwrap_or}
use Rattle.st_units.specs.declared.cause.Cause.TheVariants.{DeviceFault, OutOfMemory}
use Rattle.st_model.specs.declared.call.Call.{Call}
use Rattle.st_model.specs.declared.call.Call.TheVariants.{CreatePool, DestroyPool, StopPool, StartPool, RenamePool, EngineStateReport, FsWrite}
use Rattle.st_model.specs.declared.entry.Env.{Env}
use Rattle.st_model.specs.declared.entry.Env.TheVariants.{Plain, NoMem, FaultRead, FaultWrite, After, Before}
use Rattle.st_model.specs.declared.reply.Reply.{Reply}
use Rattle.st_model.specs.declared.state.EngineState.{EngineState}
use Rattle.st_model.specs.declared.state.PoolState.{PoolState}
use Rattle.st_model.specs.Answer.{refused}
use Rattle.st_model.specs.Found.{found_after, found_after_of, found_before, started_so, taken_over, unsettled_in, vanished, with_own_serial}
use Rattle.st_model.specs.Flight.{state_before}
use Rattle.st_model.specs.Local.{Outcome, where_so}
use Rattle.st_model.specs.Plain.{plain}
use Rattle.st_model.specs.Step.{IsLicensed, found, on_flight, outcome, step}
use Rattle.st_model.specs.steps.StartPool.{pool_meant}
use Rattle.st_pool.specs.Answered.{is_device_fault}
use Rattle.st_running.specs.Calls.{runs}
use Rattle.st_running.proofs.Plainly.{plainly_calm}

-- if the outcome is there, its reply is a fault of a device just where b
abbrev Tells : EngineState → Bool → Outcome → Type 0
Tells s b o = is_some o ≡ true → b ≡ ((unwrap_or o (refused OutOfMemory, s)).0.code == 27)

fault : (s t : EngineState) (b : Bool) → Tells s true (where_so b (refused DeviceFault, t))
fault s t true h = refl
fault s t false h = absurd cc

calm : (s : EngineState) (b : Bool) (a : Reply × EngineState) → (a.0.code == 27) ≡ false → Tells s false (where_so b a)
calm s true a e h = sym e
calm s false a e h = absurd cc

taken : (s : EngineState) (p : PoolState) (o : Option PoolState) → ((taken_over s p o).0.code == 27) ≡ false
taken s p None = refl
taken s p (Some q) = refl

after_of : (s : EngineState) (p : PoolState) (before : EngineState) (o : Outcome) → Tells s false (found_after_of s p before o)
after_of s p before None h = absurd cc
after_of s p before (Some a) h = calm s _ (taken_over s p (with_own_serial p.serial a.1)) (taken s p (with_own_serial p.serial a.1)) h

before_of : (s : EngineState) (p : PoolState) (call : Call) (bytes : List ℕ) → Tells s false (found_before s p call bytes)
before_of s p (CreatePool name devices) bytes h = calm s _ (vanished s p) refl h
before_of s p (FsWrite pool name sector payload) bytes h = calm s _ _ refl h
before_of s p _ bytes h = calm s _ (started_so s p p) refl h

flight : (s : EngineState) (p : PoolState) (f : PoolState → Call → Outcome) (o : Option Call) → ((call : Call) → Tells s false (f p call)) → Tells s false (on_flight p f o)
flight s p f None g h = absurd cc
flight s p f (Some call) g h = g call h

of_found : (s : EngineState) (f : PoolState → Call → Outcome) (o : Option PoolState) → ((p : PoolState) (call : Call) → Tells s false (f p call)) → Tells s false (found f o)
of_found s f None g h = absurd cc
of_found s f (Some p) g h = flight s p f (unsettled_in p.mode) (g p) h

told : (s : EngineState) (call : Call) (env : Env) → runs call ≡ true → Tells s (is_device_fault env) (outcome s call env)
told s call Plain r h = sym (plainly_calm s call r h)
told s (CreatePool name devices) NoMem r h = refl
told s (CreatePool name devices) FaultRead r h = fault s s _ h
told s (CreatePool name devices) FaultWrite r h = fault s _ _ h
told s (CreatePool name devices) After r h = absurd cc
told s (CreatePool name devices) (Before bytes) r h = absurd cc
told s (DestroyPool name) NoMem r h = refl
told s (DestroyPool name) FaultRead r h = fault s s _ h
told s (DestroyPool name) FaultWrite r h = fault s _ _ h
told s (DestroyPool name) After r h = absurd cc
told s (DestroyPool name) (Before bytes) r h = absurd cc
told s (StopPool name) NoMem r h = refl
told s (StopPool name) FaultRead r h = fault s s _ h
told s (StopPool name) FaultWrite r h = absurd cc
told s (StopPool name) After r h = absurd cc
told s (StopPool name) (Before bytes) r h = absurd cc
told s (StartPool id) NoMem r h = refl
told s (StartPool id) FaultRead r h = fault s s _ h
told s (StartPool id) FaultWrite r h = fault s s _ h
told s (StartPool id) After r h = of_found s (found_after s) (pool_meant id s) (λ p call. after_of s p (state_before s p call) (plain (state_before s p call) call)) h
told s (StartPool id) (Before bytes) r h = of_found s (λ p call. found_before s p call bytes) (pool_meant id s) (λ p call. before_of s p call bytes) h
told s (RenamePool name new) NoMem r h = refl
told s (RenamePool name new) FaultRead r h = fault s s _ h
told s (RenamePool name new) FaultWrite r h = fault s _ _ h
told s (RenamePool name new) After r h = absurd cc
told s (RenamePool name new) (Before bytes) r h = absurd cc
told s EngineStateReport NoMem r h = refl
told s EngineStateReport FaultRead r h = fault s s _ h
told s EngineStateReport FaultWrite r h = absurd cc
told s EngineStateReport After r h = absurd cc
told s EngineStateReport (Before bytes) r h = absurd cc
told s _ env r h = absurd cc

pub fault_told : (s : EngineState) (call : Call) (env : Env) → runs call ≡ true → IsLicensed s call env → is_device_fault env ≡ ((step s call env).0.code == 27)
fault_told s call env r h = told s call env r h
