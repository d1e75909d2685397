use Rattle.std.proofs.Common.{◌≡◌, List, Some, length, take, get_or, slice_get, slice_set, sym, ap, ◌∙◌, arith}
use Rattle.st_model.specs.declared.state.FsState.{FsState}
use Rattle.st_model.proofs.Resized.{resized-length}
use Rattle.st_model.specs.steps.Check.{resized, with_size}
use Rattle.st_checking.proofs.Volumes.{begins, resized_step}
use Rattle.st_checking.proofs.sizes.resize.Goals as goal

pub loop-i-init : goal.loop-i-init
loop-i-init c = begins c.args.filesystems.now

pub at_mut-requires : goal.at_mut-requires
at_mut-requires c =
    let same : length c.loop-i.filesystems ≡ length c.args.filesystems.now =
    ap (λ (l : List FsState). length l) c.loop-i.invariant ∙ resized-length c.args.filesystems.now (take c.loop-i.i c.args.sizes.now) in
    omega (arith, same, c.requires, c.loop-i-test.true)

pub loop-i-preserved : goal.loop-i-preserved
loop-i-preserved c =
    let fs = c.at_mut.result.now in
    let i = c.loop-i.i in
    let at : slice_get (resized c.args.filesystems.now (take i c.args.sizes.now)) i ≡ Some fs = ap (λ (l : List FsState). slice_get l i) (sym c.loop-i.invariant) ∙ c.at_mut.ensures.value in
    ap (λ (l : List FsState). slice_set l i (with_size (get_or c.args.sizes.now i 0) fs)) c.loop-i.invariant
    ∙ resized_step c.args.filesystems.now c.args.sizes.now i fs c.loop-i-test.true at
