use Rattle.st_report.specs.Pool.{device_data}
use Rattle.st_json.proofs.Lists.{adds_array, adds_end, adds_item}
use Rattle.st_report.proofs.pool.put_device.Goals as goal

pub returns : goal.returns
unfolding device_data
returns c =
    adds_array c.in_ok-open_list.ensures (
    adds_item (rw c.as_str.ensures at c.in_ok-put_text.ensures) (
    adds_item (rw c.tier_text.ensures at c.in_ok-put_text-2.ensures) (
    adds_item c.in_ok-put_count.ensures (
    adds_end c.in_ok-close_list.ensures))))
