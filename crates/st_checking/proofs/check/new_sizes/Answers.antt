use Rattle.std.proofs.Common.{List, sym, subst}
use Rattle.std.specs.List.{AllByRecursion}
use Rattle.st_model.specs.declared.state.FsState.{FsState}
use Rattle.st_checking.specs.inner.Small.{IsSmallFs}
use Rattle.st_checking.proofs.Volumes.{all_small}
use Rattle.st_checking.proofs.check.new_sizes.Goals as goal

pub sizes_after-requires-clause-small : goal.sizes_after-requires-clause-small
sizes_after-requires-clause-small c = subst (λ (l : List FsState). AllByRecursion IsSmallFs l) (sym c.items.ensures) (all_small c.args.pool.now c.requires)
