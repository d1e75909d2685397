use Rattle.std.proofs.Common.{List, sym, subst}
use Rattle.std.specs.List.{AllByRecursion}
use Rattle.st_model.specs.declared.state.PoolState.{PoolState}
use Rattle.st_model.specs.Sums.{AreSmall}
use Rattle.st_reports.proofs.Started.{small_one}
use Rattle.st_reports.proofs.reports.infos.Goals as goal

pub shared_info-requires : goal.shared_info-requires
shared_info-requires c =
    let small = subst (λ (l : List PoolState). AllByRecursion (λ (q : PoolState). AreSmall q.devices) l) (sym c.items.ensures) c.requires in
    small_one c.name-item.result c.items.result.now c.in-Some.pool.now small (sym c.in-Some.ensures)
