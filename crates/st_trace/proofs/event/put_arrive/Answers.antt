use Rattle.st_trace.specs.Traced.{arrive_data}
use Rattle.st_json.proofs.Objects.{adds_close, adds_key, adds_member, adds_object}
use Rattle.st_trace.proofs.event.put_arrive.Goals as goal

pub returns : goal.returns
unfolding arrive_data
returns c =
    adds_object c.in_ok-open_object.ensures (
    adds_member c.in_ok-text_member.ensures (
    adds_member c.in_ok-count_member.ensures (
    adds_member c.in_ok-count_member-2.ensures (
    adds_member (adds_key c.in_ok-put_key.ensures c.in_ok-put_want.ensures) (
    adds_close c.in_ok-close_object.ensures)))))
