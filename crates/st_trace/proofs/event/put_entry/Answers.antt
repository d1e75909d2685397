use Rattle.st_trace.specs.Traced.{entry_data}
use Rattle.st_json.proofs.Objects.{adds_close, adds_key, adds_member, adds_object}
use Rattle.st_trace.proofs.event.put_entry.Goals as goal

pub returns : goal.returns
unfolding entry_data
returns c =
    adds_object c.in_ok-open_object.ensures (
    adds_member (adds_key c.in_ok-put_key.ensures c.in_ok-put_call.ensures) (
    adds_member (adds_key c.in_ok-put_key-2.ensures c.in_ok-put_env.ensures) (
    adds_member (adds_key c.in_ok-put_key-3.ensures c.in_ok-put_origin.ensures) (
    adds_member (adds_key c.in_ok-put_key-4.ensures c.in_ok-put_reply.ensures) (
    adds_close c.in_ok-close_object.ensures)))))
