use Rattle.st_report.specs.Pool.{cache_data}
use Rattle.st_json.proofs.Objects.{adds_close, adds_member, adds_object}
use Rattle.st_report.proofs.pool.put_counts.Goals as goal

pub returns : goal.returns
unfolding cache_data
returns c =
    adds_object c.in_ok-open_object.ensures (
    adds_member c.in_ok-count_member.ensures (
    adds_member c.in_ok-count_member-2.ensures (
    adds_member c.in_ok-count_member-3.ensures (
    adds_member c.in_ok-count_member-4.ensures (
    adds_close c.in_ok-close_object.ensures)))))
