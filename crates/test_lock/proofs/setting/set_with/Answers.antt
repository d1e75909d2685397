use Rattle.std.proofs.Common.{rules, ◌≡◌, ℕ, length, subst}
use Rattle.st_model.specs.declared.reply.Reply.{Reply}
use Rattle.st_model.specs.declared.state.PoolState.{PoolState}
use Rattle.test_lock.specs.Setting.{limited}
use Rattle.test_lock.proofs.Limits.{cell_small, cell_whole, set_after, single}
use Rattle.test_lock.proofs.setting.set_with.Goals as goal

pub set_cell-requires-clause-small : goal.set_cell-requires-clause-small
set_cell-requires-clause-small c =
    let long : length c.args.cells.now.items ≡ 1 = search rules in
    cell_small c.args.call.now c.args.cells.now.items c.at.result.now c.requires.setting (single c.args.cells.now.items c.at.result.now long c.at.ensures) c.requires.stands

pub set_cell-requires-clause-whole : goal.set_cell-requires-clause-whole
set_cell-requires-clause-whole c =
    let long : length c.args.cells.now.items ≡ 1 = search rules in
    cell_whole c.args.call.now c.args.cells.now.items c.at.result.now c.requires.setting (single c.args.cells.now.items c.at.result.now long c.at.ensures) c.requires.stands

pub returns-clause-set : goal.returns-clause-set
returns-clause-set c = λ s are.
    let long : length c.args.cells.now.items ≡ 1 = search rules in
    let reply = c.in_ok-reply.reply in
    let cell = c.in_ok-reply.cell in
    set_after s c.args.call.now c.args.cells.now.items c.replace.new.self.items c.at.result.now cell reply c.requires.setting (single c.args.cells.now.items c.at.result.now long c.at.ensures) c.replace.ensures.items are
    (subst (λ (n : ℕ). ◌≡◌ {A = Reply × PoolState} (reply, cell.pool) (limited n c.at.result.now.pool)) c.limit_of.ensures c.in_ok-reply.ensures.set) c.in_ok-reply.ensures.spare
