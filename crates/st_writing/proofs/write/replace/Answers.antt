use Rattle.std.proofs.Common.{[], ◌∷◌, sym, ap, ◌∙◌}
use Rattle.st_model.specs.declared.state.PoolState.{PoolState}
use Rattle.st_writing.proofs.Puts.{only_one}
use Rattle.st_writing.proofs.write.replace.Goals as goal

pub returns : goal.returns
returns c = only_one c.args.list.now c.at_mut.result.now c.requires c.at_mut.ensures.value ∙ ap (λ (q : PoolState). q ∷ []) (sym c.swap.ensures.x_after)
