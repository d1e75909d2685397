use Rattle.std.proofs.Common.{◌≡◌, ◌+◌, ◌*◌, ◌≤◌, length, rules, refl, ap, arith}
use Rattle.st_running.specs.Calls.{runs}
use Rattle.st_laning.proofs.Laned.{laned-LaneOrder}
use Rattle.st_laning.proofs.Steps.{answers_next, going_next, going_start, no_answers}
use Rattle.st_laning.proofs.lines.run_lines.Goals as goal

pub returns-in-Err-clause-laned : goal.returns-in-Err-clause-laned
returns-in-Err-clause-laned g c =
    let next = going_next runs c.args.lanes c.args.lines.now c.args.home c.loop-i.i c.at.result.now c.loop-i.home c.run_line-after.result.home c.run_line-after.result.answer c.loop-i.invariant.0 c.at.ensures c.run_line-after.ensures.answered c.run_line-after.ensures.refused in
    laned-LaneOrder c.args.lanes c.args.lines.now (c.loop-i.i + 1) c.run_line-after.result.home.tickets c.run_line-after.result.home.log next.laned

pub returns-in-Err-clause-built : goal.returns-in-Err-clause-built
returns-in-Err-clause-built g c =
    let next = going_next runs c.args.lanes c.args.lines.now c.args.home c.loop-i.i c.at.result.now c.loop-i.home c.run_line-after.result.home c.run_line-after.result.answer c.loop-i.invariant.0 c.at.ensures c.run_line-after.ensures.answered c.run_line-after.ensures.refused in
    next.built

pub returns-in-Err-clause-short : goal.returns-in-Err-clause-short
returns-in-Err-clause-short g c =
    let next = going_next runs c.args.lanes c.args.lines.now c.args.home c.loop-i.i c.at.result.now c.loop-i.home c.run_line-after.result.home c.run_line-after.result.answer c.loop-i.invariant.0 c.at.ensures c.run_line-after.ensures.answered c.run_line-after.ensures.refused in
    let short = next.short in
    let within = c.loop-i-test.true in
    let all = c.len-i-end.ensures in
    omega (arith, short, within, all)

pub loop-i-preserved : goal.loop-i-preserved
loop-i-preserved g c =
    let more = answers_next runs c.args.lanes c.args.lines.now c.args.home c.loop-i.i c.at.result.now c.loop-i.home c.run_line-after.result.home c.run_line-after.result.answer c.loop-i.answers c.note.new.answers c.loop-i.invariant.0 c.at.ensures
    c.run_line-after.ensures.answered c.in_default.ensures.some c.in_default.ensures.put c.loop-i.invariant.2 c.loop-i.invariant.1 in
    (going_next runs c.args.lanes c.args.lines.now c.args.home c.loop-i.i c.at.result.now c.loop-i.home c.run_line-after.result.home c.run_line-after.result.answer c.loop-i.invariant.0 c.at.ensures c.run_line-after.ensures.answered c.run_line-after.ensures.refused, more.0, more.1)

pub returns-clause-laned : goal.returns-clause-laned
returns-clause-laned g c = laned-LaneOrder c.args.lanes c.args.lines.now c.loop-i.i c.loop-i.home.tickets c.loop-i.home.log c.loop-i.invariant.0.laned

pub loop-i-init : goal.loop-i-init
loop-i-init g c = (
  going_start runs c.args.lanes c.args.lines.now c.args.home c.requires.empty c.requires.no_ticket,
  no_answers runs c.args.lanes c.args.lines.now c.args.home.log c.make-answers.result c.make-answers.ensures,
  ap length c.make-answers.ensures,
)

pub overflow_add-i : goal.overflow_add-i
overflow_add-i g c = search rules

pub at-requires : goal.at-requires
at-requires g c = let within = c.loop-i-test.true in let all = c.len-i-end.ensures in omega (arith, within, all)

pub returns-in-Err-clause-same : goal.returns-in-Err-clause-same
returns-in-Err-clause-same g c =
    let next = going_next runs c.args.lanes c.args.lines.now c.args.home c.loop-i.i c.at.result.now c.loop-i.home c.run_line-after.result.home c.run_line-after.result.answer c.loop-i.invariant.0 c.at.ensures c.run_line-after.ensures.answered c.run_line-after.ensures.refused in
    (next.opening, next.base)

pub same-answers : goal.same-answers
same-answers g c = refl

pub returns-clause-same : goal.returns-clause-same
returns-clause-same g c = (c.loop-i.invariant.0.opening, c.loop-i.invariant.0.base)

pub returns-clause-built : goal.returns-clause-built
returns-clause-built g c = c.loop-i.invariant.0.built

pub returns-clause-short : goal.returns-clause-short
returns-clause-short g c = let short = c.loop-i.invariant.0.short in let most = c.loop-i.auto.i-end in let all = c.len-i-end.ensures in omega (arith, short, most, all)

pub returns-clause-answers : goal.returns-clause-answers
returns-clause-answers g c = c.loop-i.invariant.1

pub returns-clause-all : goal.returns-clause-all
returns-clause-all g c = let count = c.loop-i.invariant.2 in let most = c.loop-i.auto.i-end in let ended = c.loop-i-test.false in let all = c.len-i-end.ensures in omega (arith, count, most, ended, all)
