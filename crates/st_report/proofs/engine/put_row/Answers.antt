use Rattle.st_report.specs.Engine.{pool_row}
use Rattle.st_json.proofs.Objects.{adds_close, adds_key, adds_member, adds_object}
use Rattle.st_report.proofs.engine.put_row.Goals as goal

pub returns : goal.returns
unfolding pool_row
returns c =
    adds_object c.in_ok-open_object.ensures (
    adds_member (rw c.mode_text.ensures at c.in_ok-text_member.ensures) (
    adds_member c.in_ok-name_member.ensures (
    adds_member (adds_key c.in_ok-put_key.ensures c.in_ok-put_uuid.ensures) (
    adds_close c.in_ok-close_object.ensures))))
