use Rattle.std.proofs.Common.{arith}
use Rattle.st_linear.proofs.Runs.{starts_rise}
use Rattle.st_linear.proofs.Places.{some_run_before, lies_in}
use Rattle.st_linear.proofs.table.LinearTable.place.Goals as goal

pub runs_up_to-requires : goal.runs_up_to-requires
runs_up_to-requires c = rw c.deref.ensures.value (starts_rise 0 _ c.self.invariant.0)

pub overflow_sub-runs_up_to : goal.overflow_sub-runs_up_to
overflow_sub-runs_up_to c = some_run_before c.self.inside.runs.items _ _ c.runs_up_to.result c.args.block c.self.invariant.0 c.self.view_is c.deref.ensures.value c.requires c.runs_up_to.ensures.parted

pub overflow_add-number : goal.overflow_add-number
overflow_add-number c =
    let f = lies_in c.self.inside.runs.items _ _ c.runs_up_to.result c.args.block c.index-run.result.now c.self.invariant.0 c.self.view_is c.deref.ensures.value c.requires c.runs_up_to.ensures.parted c.runs_up_to.ensures.within c.index-run.ensures in
    omega (arith, f.low, f.high, f.segment.2)

pub overflow_mul-result : goal.overflow_mul-result
overflow_mul-result c =
    let f = lies_in c.self.inside.runs.items _ _ c.runs_up_to.result c.args.block c.index-run.result.now c.self.invariant.0 c.self.view_is c.deref.ensures.value c.requires c.runs_up_to.ensures.parted c.runs_up_to.ensures.within c.index-run.ensures in
    omega (arith, f.low, f.high, f.segment.2)

pub overflow_add-result : goal.overflow_add-result
overflow_add-result c =
    let f = lies_in c.self.inside.runs.items _ _ c.runs_up_to.result c.args.block c.index-run.result.now c.self.invariant.0 c.self.view_is c.deref.ensures.value c.requires c.runs_up_to.ensures.parted c.runs_up_to.ensures.within c.index-run.ensures in
    omega (arith, f.low, f.high, f.segment.2)

pub returns-clause-place : goal.returns-clause-place
returns-clause-place c =
    let f = lies_in c.self.inside.runs.items _ _ c.runs_up_to.result c.args.block c.index-run.result.now c.self.invariant.0 c.self.view_is c.deref.ensures.value c.requires c.runs_up_to.ensures.parted c.runs_up_to.ensures.within c.index-run.ensures in
    rw c.from.ensures f.place
