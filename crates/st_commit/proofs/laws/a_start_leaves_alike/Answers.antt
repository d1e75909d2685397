use Rattle.st_commit.proofs.Alike.{repaired_alike}
use Rattle.st_commit.proofs.laws.a_start_leaves_alike.Goals as goal

pub returns : goal.returns
returns g c = λ pool flex owns p generation rec devs first head apart synced settled newest spares repaired all_one chance.
    repaired_alike g.R.Rack.moment g.R.Rack.state_at pool flex owns p devs first head apart generation rec c.args.start.now c.args.synced.now c.args.repaired.now synced settled newest spares repaired all_one chance
