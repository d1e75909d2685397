use Rattle.st_trace.specs.Traced.{grant_data}
use Rattle.st_json.proofs.Objects.{adds_close, adds_member, adds_object}
use Rattle.st_trace.proofs.event.put_grant.Goals as goal

pub returns : goal.returns
unfolding grant_data
returns c =
    adds_object c.in_ok-open_object.ensures (
    adds_member c.in_ok-text_member.ensures (
    adds_member c.in_ok-count_member.ensures (
    adds_member c.in_ok-count_member-2.ensures (
    adds_close c.in_ok-close_object.ensures))))
