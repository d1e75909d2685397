-- the call that a line is, and its lane: the first fault in the order line, lane, call, members decides
use Rattle.std.specs.Prelude.{ℕ, ◌<◌, List, nat_lt, Option, Some, None, Result, Ok, Err, is_some, find, if◌then◌else◌, bytes_eq, codes}
use Rattle.std.specs.Str.{is_utf8}
use Rattle.serde_json.specs.Data.{Data}
use Rattle.serde_json.specs.Read.{read}
use Rattle.serde_json.specs.Find.{get, as_object}
use Rattle.st_units.specs.declared.cause.Member.TheVariants as members
use Rattle.st_model.specs.Sound.{IsSound}
use Rattle.st_model.specs.declared.call.Call.{Call}
use Rattle.st_model.specs.declared.call.Call.TheVariants.{AddDataDevs, InitCache, AddCacheDevs, Check, PoolReport, EngineStateReport}
use Rattle.st_calls.specs.declared.call_name.CallName.{CallName}
use Rattle.st_calls.specs.declared.call_name.CallName.TheVariants as names
use Rattle.st_calls.specs.declared.fault.LineFault.{LineFault}
use Rattle.st_calls.specs.declared.fault.LineFault.TheVariants.{BadCall}
use Rattle.st_calls.specs.Gives.{◌>>=◌}
use Rattle.st_calls.specs.Members.{or_bad, text_at, number_of}
use Rattle.st_calls.specs.Names.{call_text, all_names}
use Rattle.st_calls.specs.PoolForms.{create_pool, destroy_pool, stop_pool, start_pool, rename_pool, devices_call, pool_call, pool_reports}
use Rattle.st_calls.specs.FsForms.{create_filesystems, destroy_filesystems, snapshot_filesystem, rename_filesystem, set_size_limit, set_fs_limit, set_overprovisioning, set_merge}
use Rattle.st_calls.specs.IoForms.{fs_write, fs_read}

-- the JSON value that the bytes are: all that the library refuses, or that is no text, is a bad line
unfoldable pub json_of : List ℕ → Result Data LineFault
json_of bytes = if is_utf8 bytes then or_bad members.Line (read bytes) else Err (BadCall members.Line)

abbrev pub must_be_object : Data → Result Data LineFault
must_be_object d = if is_some (as_object d) then Ok d else Err (BadCall members.Line)

unfoldable pub object_of : List ℕ → Result Data LineFault
object_of bytes = json_of bytes >>= must_be_object

abbrev pub lane_below : ℕ → Option ℕ → Result ℕ LineFault
lane_below lanes None = Err (BadCall members.Lane)
lane_below lanes (Some lane) = if nat_lt lane lanes then Ok lane else Err (BadCall members.Lane)

abbrev pub lane_from : ℕ → Option Data → Result ℕ LineFault
lane_from lanes None = Ok 0
lane_from lanes (Some d) = lane_below lanes (number_of d)

-- the lane: 0 where the line names none, else a number below the lanes
unfoldable pub lane_of : ℕ → Data → Result ℕ LineFault
lane_of lanes d = lane_from lanes (get (codes "lane") d)

unfoldable pub call_name : Data → Result CallName LineFault
call_name d = text_at members.Call (codes "call") d >>= λ text. or_bad members.Call (find (λ name. bytes_eq (call_text name) text) all_names)

-- the members of the call
abbrev pub call_of : CallName → Data → Result Call LineFault
call_of names.CreatePool d = create_pool d
call_of names.DestroyPool d = destroy_pool d
call_of names.StopPool d = stop_pool d
call_of names.StartPool d = start_pool d
call_of names.RenamePool d = rename_pool d
call_of names.AddDataDevs d = devices_call AddDataDevs d
call_of names.InitCache d = devices_call InitCache d
call_of names.AddCacheDevs d = devices_call AddCacheDevs d
call_of names.CreateFilesystems d = create_filesystems d
call_of names.DestroyFilesystems d = destroy_filesystems d
call_of names.SnapshotFilesystem d = snapshot_filesystem d
call_of names.RenameFilesystem d = rename_filesystem d
call_of names.SetSizeLimit d = set_size_limit d
call_of names.SetFsLimit d = set_fs_limit d
call_of names.SetOverprovisioning d = set_overprovisioning d
call_of names.SetMerge d = set_merge d
call_of names.FsWrite d = fs_write d
call_of names.FsRead d = fs_read d
call_of names.Check d = pool_call Check d
call_of names.PoolReport d = pool_call PoolReport d
call_of names.PoolReports d = pool_reports d
call_of names.EngineStateReport d = Ok EngineStateReport

abbrev pub in_lane : ℕ → Result Call LineFault → Result (ℕ × Call) LineFault
in_lane lane (Ok call) = Ok (lane, call)
in_lane lane (Err fault) = Err fault

unfoldable pub object_form : ℕ → Data → Result (ℕ × Call) LineFault
object_form lanes d = lane_of lanes d >>= λ lane. call_name d >>= λ name. in_lane lane (call_of name d)

unfoldable pub form : ℕ → List ℕ → Result (ℕ × Call) LineFault
form lanes bytes = object_of bytes >>= object_form lanes

-- a line that is a call names a lane below the lanes, and a call that can be made
pub record IsCall (lanes : ℕ) (read : ℕ × Call) : Type 0 where
  pub below : 0 < lanes → read.0 < lanes
  pub sound : IsSound read.1
