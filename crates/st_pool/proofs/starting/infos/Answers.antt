use Rattle.std.proofs.Common.{ℕ, Ok, Err, IfOk, sym, ap, subst}
use Rattle.st_model.specs.declared.state.PoolState.{PoolState}
use Rattle.st_model.specs.Shown.{pool_info}
use Rattle.st_model.specs.Sums.{AreSmall}
use Rattle.st_rack.specs.Device.{Image}
use Rattle.st_told.proofs.Small.{small_rows}
use Rattle.st_pool.specs.View.{pool_with}
use Rattle.st_pool.specs.inner.Plans.{AreTwins}
use Rattle.st_pool.proofs.Waked.{if_twins}
use Rattle.st_pool.proofs.starting.infos.Goals as goal

pub infos_of-requires : goal.infos_of-requires
infos_of-requires c =
    subst (λ (q : PoolState). AreSmall q.devices) (sym (c.in-Ok.ensures (λ p i. 0))) (small_rows c.args.books.now.rec c.requires.valid)

pub returns-in-Ok : goal.returns-in-Ok
returns-in-Ok c =
    if_twins _ c.infos_of.result (λ t twins m. subst (λ (q : PoolState). AreTwins (pool_info q) t) (c.in-Ok.ensures m) twins) c.infos_of.ensures

pub told-requires-clause-serial : goal.told-requires-clause-serial
told-requires-clause-serial c =
    c.requires.serial

pub told-requires-clause-valid : goal.told-requires-clause-valid
told-requires-clause-valid c =
    c.requires.valid

pub told-requires-clause-filesystems : goal.told-requires-clause-filesystems
told-requires-clause-filesystems c =
    c.requires.filesystems

pub told-requires-clause-mappings : goal.told-requires-clause-mappings
told-requires-clause-mappings c =
    c.requires.mappings
