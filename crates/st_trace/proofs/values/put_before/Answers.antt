use Rattle.st_json.proofs.Lists.{adds_array, adds_end, adds_item}
use Rattle.st_trace.proofs.values.put_before.Goals as goal

pub returns : goal.returns
returns c =
    adds_array c.in_ok-open_list.ensures (
    adds_item c.in_ok-put_text.ensures (
    adds_item c.in_ok-put_text-2.ensures (
    adds_item c.in_ok-put_bytes.ensures (
    adds_end c.in_ok-close_list.ensures))))
