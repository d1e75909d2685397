use Rattle.st_trace.specs.Calls.{snapshot_call}
use Rattle.st_json.proofs.Objects.{adds_close, adds_member, adds_object}
use Rattle.st_trace.proofs.fs_call.put_snapshot.Goals as goal

pub returns : goal.returns
unfolding snapshot_call
returns c =
    adds_object c.in_ok-open_object.ensures (
    adds_member c.in_ok-text_member.ensures (
    adds_member c.in_ok-name_member.ensures (
    adds_member c.in_ok-name_member-2.ensures (
    adds_member c.in_ok-name_member-3.ensures (
    adds_close c.in_ok-close_object.ensures)))))
