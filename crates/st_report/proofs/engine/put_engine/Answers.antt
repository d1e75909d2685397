use Rattle.st_report.specs.Engine.{engine_data}
use Rattle.st_json.proofs.Objects.{adds_close, adds_key, adds_member, adds_object}
use Rattle.st_report.proofs.engine.put_engine.Goals as goal

pub returns : goal.returns
unfolding engine_data
returns c =
    adds_object c.in_ok-open_object.ensures (
    adds_member (adds_key c.in_ok-put_key.ensures (rw c.items.ensures at c.in_ok-put_paths.ensures)) (
    adds_member c.in_ok-count_member.ensures (
    adds_member (adds_key c.in_ok-put_key-2.ensures (rw c.items-2.ensures at c.in_ok-put_row_list.ensures)) (
    adds_close c.in_ok-close_object.ensures))))
