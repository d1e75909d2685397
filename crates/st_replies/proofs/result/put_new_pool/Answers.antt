use Rattle.st_json.proofs.Lists.{adds_array, adds_end, adds_item}
use Rattle.st_replies.proofs.result.put_new_pool.Goals as goal

pub returns : goal.returns
returns c =
    adds_array c.in_ok-open_list.ensures (
    adds_item c.in_ok-put_identity.ensures (
    adds_item (rw c.items.ensures at c.in_ok-put_paths.ensures) (
    adds_end c.in_ok-close_list.ensures)))
