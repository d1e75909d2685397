use Rattle.st_report.specs.Pool.{filesystems_data}
use Rattle.st_json.proofs.Lists.{adds_list}
use Rattle.st_report.proofs.pool.put_filesystems.Goals as goal

pub returns : goal.returns
unfolding filesystems_data
returns c = adds_list c.in_ok-open_list.ensures c.in_ok-put_each_filesystem.ensures c.in_ok-close_list.ensures
