use Rattle.std.proofs.Common.{◌≡◌, ◌≤◌, List, [], ◌∷◌, ◌++◌, length, false, Some, refl, sym, ap, subst, ◌∙◌, arith}
use Rattle.st_model.specs.declared.call.Call.TheVariants.{DestroyPool}
use Rattle.st_table.specs.Steps.{StandsFor}
use Rattle.st_pool.specs.declared.reply.PoolReply.{PoolReply}
use Rattle.st_pool.specs.Answered.{is_device_fault}
use Rattle.st_pool.specs.Runs.{Runs, never_low}
use Rattle.st_pool.specs.View.{PoolView}
use Rattle.st_board.specs.Changes.{without}
use Rattle.st_board.specs.Ran.{HasRun}
use Rattle.st_board.specs.View.{BoardView}
use Rattle.st_leaving.proofs.Plainly.{changed_by, here_at, length_taken, same_at, started_at}
use Rattle.st_ending.specs.Ended.{DidEnd, Gone, Stays}
use Rattle.st_ending.proofs.Ending.{broken_run, gone_on, gone_run, has_gone, kept_run, length_last, within, stands_now, stays_on}
use Rattle.st_ending.proofs.run.run_at.Goals as goal

pub take_at-pool-requires : goal.take_at-pool-requires
take_at-pool-requires g c =
    let x = c.requires.at in within c.args.cells.now.items c.args.place x.0 x.1

pub freed-board-requires-clause-gone : goal.freed-board-requires-clause-gone
freed-board-requires-clause-gone g c =
    let R = g.R.Rack in let s = c.args.before.now.value in let cells = c.args.cells.now.items in let all = c.requires.all in let x = c.requires.at in let name = c.args.name.now in let i = c.args.place in let was = c.args.board in
    let old = c.take_at-pool.result in let at = c.take_at-pool.ensures.taken in let each = c.the_started_pools.ensures.each in
    let same = same_at cells i x.0 old x.1 at in
    let named = sym (ap (λ (v : PoolView _). v.pool.name) same) ∙ x.2 in
    let here = here_at R.devs R.moment R.state_at R.faults s cells was all each i old at in
    let on = started_at R.devs R.moment R.state_at R.faults s cells was all each i old at in
    has_gone R.devs R.moment R.state_at R.faults c.ends.ensures.outcomes c.ends.ensures.unseen s cells was all i old at here on c.in-Gone.rack (c.in-Gone.ensures.gone c.in-Gone.rack refl) name named c.state_after-state.result.value c.state_after-state.ensures

pub freed-board-requires-clause-table : goal.freed-board-requires-clause-table
freed-board-requires-clause-table g c =
    let R = g.R.Rack in let s = c.args.before.now.value in let cells = c.args.cells.now.items in let all = c.requires.all in let x = c.requires.at in let name = c.args.name.now in let i = c.args.place in let was = c.args.board in
    let old = c.take_at-pool.result in let at = c.take_at-pool.ensures.taken in let each = c.the_started_pools.ensures.each in
    let same = same_at cells i x.0 old x.1 at in
    let named = sym (ap (λ (v : PoolView _). v.pool.name) same) ∙ x.2 in
    let here = here_at R.devs R.moment R.state_at R.faults s cells was all each i old at in
    let on = started_at R.devs R.moment R.state_at R.faults s cells was all each i old at in
    stands_now R.devs R.moment R.state_at R.faults c.ends.ensures.outcomes c.ends.ensures.unseen s cells was all i old at here on c.in-Gone.rack (c.in-Gone.ensures.gone c.in-Gone.rack refl) name named c.state_after-state.result.value c.state_after-state.ensures c.args.table (subst (λ (v : PoolView _). StandsFor c.args.table (without v.pool s)) same x.4)

pub freed-board-requires-clause-counted : goal.freed-board-requires-clause-counted
freed-board-requires-clause-counted g c =
    let counted = (c.in-Gone.ensures.gone c.in-Gone.rack refl).counted in let is = c.faults-faults.ensures.count in omega (arith, counted, is)

pub returns-in-Gone-clause-ran : goal.returns-in-Gone-clause-ran
returns-in-Gone-clause-ran g c =
    let R = g.R.Rack in let s = c.args.before.now.value in let cells = c.args.cells.now.items in let all = c.requires.all in let x = c.requires.at in let name = c.args.name.now in let i = c.args.place in let was = c.args.board in
    let old = c.take_at-pool.result in let at = c.take_at-pool.ensures.taken in let each = c.the_started_pools.ensures.each in
    let same = same_at cells i x.0 old x.1 at in
    let named = sym (ap (λ (v : PoolView _). v.pool.name) same) ∙ x.2 in
    let here = here_at R.devs R.moment R.state_at R.faults s cells was all each i old at in
    let on = started_at R.devs R.moment R.state_at R.faults s cells was all each i old at in
    subst (λ (left : List (PoolView _)). HasRun R.devs R.moment R.state_at R.faults s (DestroyPool name) c.changed-answer.result cells was left c.freed-board.result) (sym c.take_at-pool.ensures.items)
    (gone_run R.devs R.moment R.state_at R.faults c.ends.ensures.outcomes c.ends.ensures.unseen s cells was all i old at here on c.in-Gone.rack (c.in-Gone.ensures.gone c.in-Gone.rack refl) c.one_has_gone.ensures c.freed-board.result c.changed-answer.result name c.state_after-state.result.value c.args.table.spare c.faults-faults.result named
    (changed_by old.pool c.view.result.now c.changed-answer.result c.view.ensures.shown c.changed-answer.ensures) c.state_after-state.ensures x.3 c.faults-faults.ensures.count c.freed-board.ensures.state c.freed-board.ensures.faults)

pub returns-in-Gone-clause-did : goal.returns-in-Gone-clause-did
returns-in-Gone-clause-did g c =
    let R = g.R.Rack in let s = c.args.before.now.value in let cells = c.args.cells.now.items in let all = c.requires.all in let x = c.requires.at in let name = c.args.name.now in let i = c.args.place in let was = c.args.board in
    let old = c.take_at-pool.result in let at = c.take_at-pool.ensures.taken in let each = c.the_started_pools.ensures.each in
    let same = same_at cells i x.0 old x.1 at in
    let named = sym (ap (λ (v : PoolView _). v.pool.name) same) ∙ x.2 in
    let here = here_at R.devs R.moment R.state_at R.faults s cells was all each i old at in
    let on = started_at R.devs R.moment R.state_at R.faults s cells was all each i old at in
    Gone i old c.in-Gone.rack at named c.take_at-pool.ensures.items c.freed-board.ensures.joined (ap (λ (v : BoardView _). v.halted) c.freed-board.ensures.state)
    (gone_on R.devs R.moment R.state_at R.faults c.ends.ensures.outcomes c.ends.ensures.unseen s cells was all i old at here on c.in-Gone.rack (c.in-Gone.ensures.gone c.in-Gone.rack refl) (is_device_fault c.changed-answer.result.env) (ap (λ (a : PoolReply). is_device_fault a.env) c.changed-answer.ensures))

pub returns-in-Gone-clause-places : goal.returns-in-Gone-clause-places
returns-in-Gone-clause-places g c =
    let fewer = length_taken c.args.cells.now.items c.args.place c.take_at-pool.result c.take_at-pool.ensures.taken in
    let left = ap length c.take_at-pool.ensures.items in
    let room = c.take_at-pool.ensures.room in
    omega (arith, fewer, left, room)

pub put-requires : goal.put-requires
put-requires g c =
    let room = c.take_at-pool.ensures.room in omega (arith, room)

pub returns-in-Kept-clause-ran : goal.returns-in-Kept-clause-ran
returns-in-Kept-clause-ran g c =
    let R = g.R.Rack in let s = c.args.before.now.value in let cells = c.args.cells.now.items in let all = c.requires.all in let x = c.requires.at in let name = c.args.name.now in let i = c.args.place in let was = c.args.board in
    let old = c.take_at-pool.result in let at = c.take_at-pool.ensures.taken in let each = c.the_started_pools.ensures.each in
    let same = same_at cells i x.0 old x.1 at in
    let named = sym (ap (λ (v : PoolView _). v.pool.name) same) ∙ x.2 in
    let here = here_at R.devs R.moment R.state_at R.faults s cells was all each i old at in
    let on = started_at R.devs R.moment R.state_at R.faults s cells was all each i old at in
    subst (λ (left : List (PoolView _)). HasRun R.devs R.moment R.state_at R.faults s (DestroyPool name) c.in-Kept.answer cells was left was) (sym (c.put.ensures.items ∙ ap (λ (ps : List (PoolView _)). ps ++ c.in-Kept.pool ∷ []) c.take_at-pool.ensures.items))
    (kept_run R.devs R.moment R.state_at R.faults c.ends.ensures.outcomes c.ends.ensures.unseen s cells was all i old at here on c.one_has_run.ensures c.beside_others.ensures.destroyed c.in-Kept.answer c.in-Kept.pool name named (c.in-Kept.ensures.kept c.in-Kept.pool c.in-Kept.answer refl).0 (c.in-Kept.ensures.kept c.in-Kept.pool c.in-Kept.answer refl).1)

pub returns-in-Kept-clause-did : goal.returns-in-Kept-clause-did
returns-in-Kept-clause-did g c =
    let R = g.R.Rack in let s = c.args.before.now.value in let cells = c.args.cells.now.items in let all = c.requires.all in let x = c.requires.at in let name = c.args.name.now in let i = c.args.place in let was = c.args.board in
    let old = c.take_at-pool.result in let at = c.take_at-pool.ensures.taken in let each = c.the_started_pools.ensures.each in
    let same = same_at cells i x.0 old x.1 at in
    let named = sym (ap (λ (v : PoolView _). v.pool.name) same) ∙ x.2 in
    let here = here_at R.devs R.moment R.state_at R.faults s cells was all each i old at in
    let on = started_at R.devs R.moment R.state_at R.faults s cells was all each i old at in
    Stays i old c.in-Kept.pool at named (c.put.ensures.items ∙ ap (λ (ps : List (PoolView _)). ps ++ c.in-Kept.pool ∷ []) c.take_at-pool.ensures.items) refl (stays_on R.devs R.moment R.state_at R.faults c.ends.ensures.outcomes c.ends.ensures.unseen s cells was all i old at here on c.in-Kept.answer c.in-Kept.pool (c.in-Kept.ensures.kept c.in-Kept.pool c.in-Kept.answer refl).0)

pub returns-in-Kept-clause-places : goal.returns-in-Kept-clause-places
returns-in-Kept-clause-places g c =
    let fewer = length_taken c.args.cells.now.items c.args.place c.take_at-pool.result c.take_at-pool.ensures.taken in
    let left = ap length c.take_at-pool.ensures.items in
    let room = c.take_at-pool.ensures.room in
    let put = c.put.ensures.room in
    let longer = ap length c.put.ensures.items in
    let one = length_last c.take_at-pool.new.self.items c.in-Kept.pool in
    omega (arith, fewer, left, room, put, longer, one)

pub put-requires-in-Broken : goal.put-requires-in-Broken
put-requires-in-Broken g c =
    let room = c.take_at-pool.ensures.room in omega (arith, room)

pub returns-in-Broken-clause-ran : goal.returns-in-Broken-clause-ran
returns-in-Broken-clause-ran g c =
    let R = g.R.Rack in let s = c.args.before.now.value in let cells = c.args.cells.now.items in let all = c.requires.all in let x = c.requires.at in let name = c.args.name.now in let i = c.args.place in let was = c.args.board in
    let old = c.take_at-pool.result in let at = c.take_at-pool.ensures.taken in let each = c.the_started_pools.ensures.each in
    let same = same_at cells i x.0 old x.1 at in
    let named = sym (ap (λ (v : PoolView _). v.pool.name) same) ∙ x.2 in
    let here = here_at R.devs R.moment R.state_at R.faults s cells was all each i old at in
    let on = started_at R.devs R.moment R.state_at R.faults s cells was all each i old at in
    subst (λ (left : List (PoolView _)). HasRun R.devs R.moment R.state_at R.faults s (DestroyPool name) c.device_fault.result cells was left was) (sym (c.put-in-Broken.ensures.items ∙ ap (λ (ps : List (PoolView _)). ps ++ c.in-Broken.pool ∷ []) c.take_at-pool.ensures.items))
    (broken_run R.devs R.moment R.state_at R.faults c.ends.ensures.outcomes c.ends.ensures.unseen s cells was all i old at here on c.one_has_run.ensures c.beside_others.ensures.destroyed c.device_fault.result c.in-Broken.pool name named c.device_fault.ensures (c.in-Broken.ensures.broken c.in-Broken.pool refl))

pub returns-in-Broken-clause-did : goal.returns-in-Broken-clause-did
returns-in-Broken-clause-did g c =
    let R = g.R.Rack in let s = c.args.before.now.value in let cells = c.args.cells.now.items in let all = c.requires.all in let x = c.requires.at in let name = c.args.name.now in let i = c.args.place in let was = c.args.board in
    let old = c.take_at-pool.result in let at = c.take_at-pool.ensures.taken in let each = c.the_started_pools.ensures.each in
    let same = same_at cells i x.0 old x.1 at in
    let named = sym (ap (λ (v : PoolView _). v.pool.name) same) ∙ x.2 in
    let here = here_at R.devs R.moment R.state_at R.faults s cells was all each i old at in
    let on = started_at R.devs R.moment R.state_at R.faults s cells was all each i old at in
    Stays i old c.in-Broken.pool at named (c.put-in-Broken.ensures.items ∙ ap (λ (ps : List (PoolView _)). ps ++ c.in-Broken.pool ∷ []) c.take_at-pool.ensures.items) refl (stays_on R.devs R.moment R.state_at R.faults c.ends.ensures.outcomes c.ends.ensures.unseen s cells was all i old at here on c.device_fault.result c.in-Broken.pool (subst (λ (a : PoolReply). Runs R.devs R.moment R.state_at R.faults never_low (DestroyPool old.pool.name) old a c.in-Broken.pool) (sym c.device_fault.ensures) (c.in-Broken.ensures.broken c.in-Broken.pool refl)))

pub returns-in-Broken-clause-places : goal.returns-in-Broken-clause-places
returns-in-Broken-clause-places g c =
    let fewer = length_taken c.args.cells.now.items c.args.place c.take_at-pool.result c.take_at-pool.ensures.taken in
    let left = ap length c.take_at-pool.ensures.items in
    let room = c.take_at-pool.ensures.room in
    let put = c.put-in-Broken.ensures.room in
    let longer = ap length c.put-in-Broken.ensures.items in
    let one = length_last c.take_at-pool.new.self.items c.in-Broken.pool in
    omega (arith, fewer, left, room, put, longer, one)
