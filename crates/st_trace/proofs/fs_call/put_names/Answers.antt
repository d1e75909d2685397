use Rattle.st_report.specs.Values.{texts}
use Rattle.st_json.proofs.Lists.{adds_list}
use Rattle.st_trace.proofs.fs_call.put_names.Goals as goal

pub returns : goal.returns
unfolding texts
returns c = adds_list c.in_ok-open_list.ensures c.in_ok-put_each_name.ensures c.in_ok-close_list.ensures
