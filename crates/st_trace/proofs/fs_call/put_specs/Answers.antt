use Rattle.st_trace.specs.Calls.{fs_specs}
use Rattle.st_json.proofs.Lists.{adds_list}
use Rattle.st_trace.proofs.fs_call.put_specs.Goals as goal

pub returns : goal.returns
unfolding fs_specs
returns c = adds_list c.in_ok-open_list.ensures c.in_ok-put_each_spec.ensures c.in_ok-close_list.ensures
