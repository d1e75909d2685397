use Rattle.st_replies.specs.Results.{identities_data}
use Rattle.st_json.proofs.Lists.{adds_list}
use Rattle.st_replies.proofs.result.put_identities.Goals as goal

pub returns : goal.returns
unfolding identities_data
returns c = adds_list c.in_ok-open_list.ensures c.in_ok-put_each_identity.ensures c.in_ok-close_list.ensures
