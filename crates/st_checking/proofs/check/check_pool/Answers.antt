use Rattle.std.proofs.Common.{rules, ◌≡◌, List, length, sym, ap, ◌∙◌, arith}
use Rattle.st_model.specs.declared.state.FsState.{FsState}
use Rattle.st_model.specs.steps.Check.{new_sizes}
use Rattle.st_checking.proofs.Volumes.{sizes_many}
use Rattle.st_checking.proofs.check.check_pool.Goals as goal

pub count_grown-grown-requires : goal.count_grown-grown-requires
count_grown-grown-requires c =
    let sizes : c.items-2.result.now ≡ new_sizes c.args.pool.now = search rules in
    let fss : c.items.result.now ≡ c.args.pool.now.filesystems = search rules in
    ap length sizes ∙ sizes_many c.args.pool.now ∙ sym (ap (λ (l : List FsState). length l) fss)

pub resize-requires : goal.resize-requires
resize-requires c =
    let sizes : c.items-3.result.now ≡ new_sizes c.args.pool.now = search rules in
    ap length sizes ∙ sizes_many c.args.pool.now

pub overflow_add-pool : goal.overflow_add-pool
overflow_add-pool c = omega (arith, c.blocks_added-added.ensures.within)
