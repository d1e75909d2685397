use Rattle.std.proofs.Common.{refl, Some}
use Rattle.st_sparse.specs.Sparse.{sparse_state, settled}
use Rattle.st_sparse.proofs.Steps.{cut_by}
use Rattle.st_sparse.proofs.sparse.Sparse.cycle.Goals as goal

pub returns-clause-cut : goal.returns-clause-cut
returns-clause-cut c =
    let old = c.args.self.now in
    cut_by (Some c.args.pick) old.since.items (settled old) (sparse_state old) _ refl c.settle.ensures.held old.told c.settle.ensures.told
