use Rattle.st_trace.specs.Traced.{entries_data}
use Rattle.st_json.proofs.Lists.{adds_list}
use Rattle.st_trace.proofs.event.put_entries.Goals as goal

pub returns : goal.returns
unfolding entries_data
returns c = adds_list c.in_ok-open_list.ensures c.in_ok-put_each_entry.ensures c.in_ok-close_list.ensures
