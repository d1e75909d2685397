-- Answers of operations on a pool.
use Rattle.std.specs.Prelude.{ℕ, ◌+◌, ◌-◌, ◌^◌, min, Bool, true, false, if◌then◌else◌}
use Rattle.st_units.specs.declared.cause.Cause.TheVariants.{DeviceFault}
use Rattle.st_model.specs.declared.entry.Env.{Env}
use Rattle.st_model.specs.declared.entry.Env.TheVariants.{Plain, NoMem, FaultRead, FaultWrite, After, Before}
use Rattle.st_model.specs.declared.reply.Reply.{Reply}
use Rattle.st_model.specs.Answer.{refused}
use Rattle.st_pool.specs.declared.reply.PoolReply.{PoolReply}

-- this reply, for this that was met
abbrev pub answered : Env → Reply → PoolReply
answered env reply = record { reply = reply; twin = reply; env = env; low = false }

-- a device failed from the first write on
abbrev pub failed : PoolReply
failed = answered FaultWrite (refused DeviceFault)

abbrev pub is_device_fault : Env → Bool
is_device_fault Plain = false
is_device_fault NoMem = false
is_device_fault FaultRead = true
is_device_fault FaultWrite = true
is_device_fault After = false
is_device_fault (Before bytes) = false

-- a count of faults, which stops at its last value, after one more or none
abbrev pub counted : Bool → ℕ → ℕ
counted more n = if more then min (n + 1) (2 ^ 64 - 1) else n
