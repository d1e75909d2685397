use Rattle.st_trace.specs.Calls.{fs_spec}
use Rattle.st_json.proofs.Objects.{adds_close, adds_key, adds_member, adds_object}
use Rattle.st_trace.proofs.fs_call.put_spec.Goals as goal

pub returns : goal.returns
unfolding fs_spec
returns c =
    adds_object c.in_ok-open_object.ensures (
    adds_member (adds_key c.in_ok-put_key.ensures c.in_ok-put_count_or_null.ensures) (
    adds_member c.in_ok-name_member.ensures (
    adds_member (adds_key c.in_ok-put_key-2.ensures c.in_ok-put_count_or_null-2.ensures) (
    adds_close c.in_ok-close_object.ensures))))
