use Rattle.st_parting.proofs.Freeing.{is_free}
use Rattle.st_parting.proofs.laws.others_are_free.Goals as goal

pub returns : goal.returns
returns c devs s e later found finished pools_same next_from p n has unused = is_free devs s e found p n has unused finished later pools_same next_from
