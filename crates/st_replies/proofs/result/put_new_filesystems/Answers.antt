use Rattle.st_replies.specs.Results.{new_filesystems}
use Rattle.st_json.proofs.Lists.{adds_list}
use Rattle.st_replies.proofs.result.put_new_filesystems.Goals as goal

pub returns : goal.returns
unfolding new_filesystems
returns c = adds_list c.in_ok-open_list.ensures c.in_ok-put_each_new_filesystem.ensures c.in_ok-close_list.ensures
