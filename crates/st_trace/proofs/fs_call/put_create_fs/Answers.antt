use Rattle.st_trace.specs.Calls.{create_fs_call}
use Rattle.st_json.proofs.Objects.{adds_close, adds_key, adds_member, adds_object}
use Rattle.st_trace.proofs.fs_call.put_create_fs.Goals as goal

pub returns : goal.returns
unfolding create_fs_call
returns c =
    adds_object c.in_ok-open_object.ensures (
    adds_member c.in_ok-text_member.ensures (
    adds_member (adds_key c.in_ok-put_key.ensures (rw c.items.ensures at c.in_ok-put_specs.ensures)) (
    adds_member c.in_ok-name_member.ensures (
    adds_close c.in_ok-close_object.ensures))))
