use Rattle.st_trace.specs.Calls.{named_call}
use Rattle.st_json.proofs.Objects.{adds_close, adds_member, adds_object}
use Rattle.st_trace.proofs.pool_call.put_named_call.Goals as goal

pub returns : goal.returns
unfolding named_call
returns c =
    adds_object c.in_ok-open_object.ensures (
    adds_member c.in_ok-text_member.ensures (
    adds_member c.in_ok-name_member.ensures (
    adds_close c.in_ok-close_object.ensures)))
