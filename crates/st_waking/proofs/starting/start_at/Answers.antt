use Rattle.std.proofs.Common.{◌≡◌, ◌≤◌, ◌+◌, ◌++◌, ◌∷◌, [], ℕ, min, true, Some, refl, arith, bytes_eq, sym, ap, subst, ◌∙◌}
use Rattle.st_model.specs.declared.entry.Env.TheVariants.{FaultWrite}
use Rattle.st_model.specs.declared.reply.Given.TheVariants.{Changed}
use Rattle.st_model.specs.declared.reply.Identity.TheVariants.{Pool}
use Rattle.st_model.specs.Answer.{accepted}
use Rattle.st_pool.specs.Answered.{answered}
use Rattle.st_model.specs.declared.entry.Env.{Env}
use Rattle.st_rack.specs.Parts.{Joins}
use Rattle.st_pool.specs.declared.reply.PoolReply.{PoolReply}
use Rattle.st_waking.specs.Did.{DidWake, Woken, Vanished, Failed, Refused}
use Rattle.st_pool.specs.Starts.{DidStart}
use Rattle.st_board.specs.View.{BoardView, last}
use Rattle.st_lent.specs.Lent.{LentView}
use Rattle.st_waking.proofs.Coming.{came, has_woken, more_places, place_left, tells_now}
use Rattle.st_waking.proofs.Readying.{within}
use Rattle.st_waking.proofs.Staying.{failed_so, refused_so, the_one}
use Rattle.st_waking.proofs.Taking.{out_of}
use Rattle.st_waking.proofs.Vanishing.{has_vanished, tells_gone, went}
use Rattle.st_waking.proofs.starting.start_at.Goals as goal

pub lend-board-requires : goal.lend-board-requires
lend-board-requires g c = let one = c.requires.set in within c.args.board.halted c.args.ready.place one.1 one.3.at

pub start-requires : goal.start-requires
start-requires g c =
    let R = g.R.Rack in let s = c.args.before.now.value in let id = c.args.id.now in let cells = c.args.cells.now.items in let was = c.args.board in let r = c.args.ready in let x = c.lend-board.result.pool in
    let o = out_of R.devs R.moment R.state_at R.faults s id cells was c.requires.all r c.args.name.now c.requires.set x c.lend-board.ensures.at c.lend-board.ensures.halts in
    record { some = (o.pool, o.stands, o.set.can) }

pub woken-board-requires-clause-woken : goal.woken-board-requires-clause-woken
woken-board-requires-clause-woken g c =
    let R = g.R.Rack in let s = c.args.before.now.value in let id = c.args.id.now in let cells = c.args.cells.now.items in let was = c.args.board in let r = c.args.ready in let x = c.lend-board.result.pool in
    let o = out_of R.devs R.moment R.state_at R.faults s id cells was c.requires.all r c.args.name.now c.requires.set x c.lend-board.ensures.at c.lend-board.ensures.halts in
    let starts = subst (DidStart R.devs R.moment R.state_at R.faults o.pool x) c.in-Up.is (c.start.ensures o.pool o.stands o.set.can) in
    has_woken R.devs R.moment R.state_at R.faults s id cells was c.requires.all r o.pool x o.set o.stands c.starts_beside_others.ensures c.start_makes.ensures c.in-Up.env c.in-Up.pool starts c.lend-board.result.board.state c.state_after-state.result.value c.lend-board.result.board.out (ap (λ (v : LentView _). v.state) c.lend-board.ensures.lent) c.state_after-state.ensures (ap (λ (v : LentView _). v.out) c.lend-board.ensures.lent)

pub woken-board-requires-clause-tell : goal.woken-board-requires-clause-tell
woken-board-requires-clause-tell g c =
    let R = g.R.Rack in let s = c.args.before.now.value in let id = c.args.id.now in let cells = c.args.cells.now.items in let was = c.args.board in let r = c.args.ready in let x = c.lend-board.result.pool in
    let o = out_of R.devs R.moment R.state_at R.faults s id cells was c.requires.all r c.args.name.now c.requires.set x c.lend-board.ensures.at c.lend-board.ensures.halts in
    let starts = subst (DidStart R.devs R.moment R.state_at R.faults o.pool x) c.in-Up.is (c.start.ensures o.pool o.stands o.set.can) in
    let own : c.bytes.result.now ≡ c.in-Up.pool.pool.name = c.bytes.ensures.value ∙ c.name.ensures in
    let other : c.bytes-in-Up.result.now ≡ o.pool.name = c.bytes-in-Up.ensures.value ∙ sym o.named in
    tells_now R.devs R.moment R.state_at R.faults s id cells was c.requires.all r o.pool x o.set o.stands c.starts_beside_others.ensures c.start_makes.ensures c.in-Up.env c.in-Up.pool starts c.state_after-state.result.value c.eq-same.result c.state_after-state.ensures (c.eq-same.ensures ∙ (λ j. bytes_eq (own j) (other j)))

pub put-requires : goal.put-requires
put-requires g c =
    let R = g.R.Rack in let s = c.args.before.now.value in let id = c.args.id.now in let cells = c.args.cells.now.items in let was = c.args.board in let r = c.args.ready in let x = c.lend-board.result.pool in
    let o = out_of R.devs R.moment R.state_at R.faults s id cells was c.requires.all r c.args.name.now c.requires.set x c.lend-board.ensures.at c.lend-board.ensures.halts in
    let starts = subst (DidStart R.devs R.moment R.state_at R.faults o.pool x) c.in-Up.is (c.start.ensures o.pool o.stands o.set.can) in
    place_left R.devs R.moment R.state_at R.faults s id cells was c.requires.all r o.pool x o.set o.stands c.starts_beside_others.ensures c.start_makes.ensures c.in-Up.env c.in-Up.pool starts c.args.cells.now.room c.requires.places

pub so-requires : goal.so-requires
so-requires g c = c.accepted-in-Up.ensures ∙ sym c.accepted.ensures

pub vanished-board-requires-clause-vanished : goal.vanished-board-requires-clause-vanished
vanished-board-requires-clause-vanished g c =
    let R = g.R.Rack in let s = c.args.before.now.value in let id = c.args.id.now in let cells = c.args.cells.now.items in let was = c.args.board in let r = c.args.ready in let x = c.lend-board.result.pool in
    let o = out_of R.devs R.moment R.state_at R.faults s id cells was c.requires.all r c.args.name.now c.requires.set x c.lend-board.ensures.at c.lend-board.ensures.halts in
    let gone = subst (DidStart R.devs R.moment R.state_at R.faults o.pool x) c.in-Vanished.is (c.start.ensures o.pool o.stands o.set.can) in
    has_vanished R.devs R.moment R.state_at R.faults s id cells was c.requires.all r o.pool x o.set o.stands c.starts_beside_others.ensures c.in-Vanished.env c.in-Vanished.rack gone c.lend-board.result.board.state c.state_after-state-in-Vanished.result.value c.lend-board.result.board.out (ap (λ (v : LentView _). v.state) c.lend-board.ensures.lent) c.state_after-state-in-Vanished.ensures (ap (λ (v : LentView _). v.out) c.lend-board.ensures.lent)

pub vanished-board-requires-clause-table : goal.vanished-board-requires-clause-table
vanished-board-requires-clause-table g c =
    let R = g.R.Rack in let s = c.args.before.now.value in let id = c.args.id.now in let cells = c.args.cells.now.items in let was = c.args.board in let r = c.args.ready in let x = c.lend-board.result.pool in
    let o = out_of R.devs R.moment R.state_at R.faults s id cells was c.requires.all r c.args.name.now c.requires.set x c.lend-board.ensures.at c.lend-board.ensures.halts in
    let gone = subst (DidStart R.devs R.moment R.state_at R.faults o.pool x) c.in-Vanished.is (c.start.ensures o.pool o.stands o.set.can) in
    tells_gone R.devs R.moment R.state_at R.faults s id cells was c.requires.all r o.pool x o.set o.stands c.starts_beside_others.ensures c.in-Vanished.env c.in-Vanished.rack gone c.state_after-state-in-Vanished.result.value c.state_after-state-in-Vanished.ensures

pub vanished-board-requires-clause-counted : goal.vanished-board-requires-clause-counted
vanished-board-requires-clause-counted g c =
    let R = g.R.Rack in let s = c.args.before.now.value in let id = c.args.id.now in let cells = c.args.cells.now.items in let was = c.args.board in let r = c.args.ready in let x = c.lend-board.result.pool in
    let o = out_of R.devs R.moment R.state_at R.faults s id cells was c.requires.all r c.args.name.now c.requires.set x c.lend-board.ensures.at c.lend-board.ensures.halts in
    let gone = subst (DidStart R.devs R.moment R.state_at R.faults o.pool x) c.in-Vanished.is (c.start.ensures o.pool o.stands o.set.can) in
    subst (λ (n : ℕ). n ≤ R.faults c.in-Vanished.rack) (sym c.faults-faults.ensures.count) gone.counted

pub so-requires-in-Vanished : goal.so-requires-in-Vanished
so-requires-in-Vanished g c = c.refused-in-Vanished.ensures ∙ sym c.refused.ensures

pub back-requires : goal.back-requires
back-requires g c =
    let R = g.R.Rack in let s = c.args.before.now.value in let id = c.args.id.now in let cells = c.args.cells.now.items in let was = c.args.board in let r = c.args.ready in let x = c.lend-board.result.pool in
    let o = out_of R.devs R.moment R.state_at R.faults s id cells was c.requires.all r c.args.name.now c.requires.set x c.lend-board.ensures.at c.lend-board.ensures.halts in
    let fails = subst (DidStart R.devs R.moment R.state_at R.faults o.pool x) c.in-Fault.is (c.start.ensures o.pool o.stands o.set.can) in
    the_one R.devs R.moment R.state_at R.faults s id cells was c.requires.all r o.pool x o.set c.lend-board.result.board.state c.lend-board.result.board.out c.in-Fault.pool (ap (λ (v : LentView _). v.state) c.lend-board.ensures.lent) (ap (λ (v : LentView _). v.out) c.lend-board.ensures.lent) fails.stays.halts

pub so-requires-in-Fault : goal.so-requires-in-Fault
so-requires-in-Fault g c = c.refused-in-Fault-2.ensures ∙ sym c.refused-in-Fault.ensures

pub back-requires-in-NoMemory : goal.back-requires-in-NoMemory
back-requires-in-NoMemory g c =
    let R = g.R.Rack in let s = c.args.before.now.value in let id = c.args.id.now in let cells = c.args.cells.now.items in let was = c.args.board in let r = c.args.ready in let x = c.lend-board.result.pool in
    let o = out_of R.devs R.moment R.state_at R.faults s id cells was c.requires.all r c.args.name.now c.requires.set x c.lend-board.ensures.at c.lend-board.ensures.halts in
    let fails = subst (DidStart R.devs R.moment R.state_at R.faults o.pool x) c.in-NoMemory.is (c.start.ensures o.pool o.stands o.set.can) in
    the_one R.devs R.moment R.state_at R.faults s id cells was c.requires.all r o.pool x o.set c.lend-board.result.board.state c.lend-board.result.board.out c.in-NoMemory.pool (ap (λ (v : LentView _). v.state) c.lend-board.ensures.lent) (ap (λ (v : LentView _). v.out) c.lend-board.ensures.lent) fails.stays.halts

pub returns-in-Up-clause-ran : goal.returns-in-Up-clause-ran
returns-in-Up-clause-ran g c =
    let R = g.R.Rack in let s = c.args.before.now.value in let id = c.args.id.now in let cells = c.args.cells.now.items in let was = c.args.board in let r = c.args.ready in let x = c.lend-board.result.pool in
    let o = out_of R.devs R.moment R.state_at R.faults s id cells was c.requires.all r c.args.name.now c.requires.set x c.lend-board.ensures.at c.lend-board.ensures.halts in
    let starts = subst (DidStart R.devs R.moment R.state_at R.faults o.pool x) c.in-Up.is (c.start.ensures o.pool o.stands o.set.can) in
    let state_is = c.state_after-state.ensures in let lent = c.lend-board.ensures.lent in
    let answer_is = c.so.ensures ∙ ap (answered c.in-Up.env) (c.accepted.ensures ∙ ap (λ (n : ℕ). accepted (Changed true (Some (Pool n)))) (c.serial-serial.ensures ∙ o.set.serial)) in
    came R.devs R.moment R.state_at R.faults s id cells was c.requires.all r o.pool x o.set o.stands c.starts_beside_others.ensures c.start_makes.ensures c.in-Up.env c.in-Up.pool starts c.so.result c.put.new.self.items c.woken-board.result answer_is c.put.ensures.items
    (c.woken-board.ensures ∙ (λ j. record { state = state_is j; spare = true; free = (lent j).free; halted = (lent j).halted; past = (lent j).past }))

pub returns-in-Up-clause-places : goal.returns-in-Up-clause-places
returns-in-Up-clause-places g c = more_places c.args.cells.now.items c.in-Up.pool c.put.new.self.items c.args.cells.now.room c.put.new.self.room c.put.ensures.items c.put.ensures.room

pub returns-in-Vanished-clause-ran : goal.returns-in-Vanished-clause-ran
returns-in-Vanished-clause-ran g c =
    let R = g.R.Rack in let s = c.args.before.now.value in let id = c.args.id.now in let cells = c.args.cells.now.items in let was = c.args.board in let r = c.args.ready in let x = c.lend-board.result.pool in
    let o = out_of R.devs R.moment R.state_at R.faults s id cells was c.requires.all r c.args.name.now c.requires.set x c.lend-board.ensures.at c.lend-board.ensures.halts in
    let gone = subst (DidStart R.devs R.moment R.state_at R.faults o.pool x) c.in-Vanished.is (c.start.ensures o.pool o.stands o.set.can) in
    let state_is = c.state_after-state-in-Vanished.ensures in let lent = c.lend-board.ensures.lent in let spare = o.set.tell.gone_spare in let count = c.faults-faults.ensures.count in
    let free : c.vanished-board.result.free ≡ c.vanished-board.result.free = refl in
    went R.devs R.moment R.state_at R.faults s id cells was c.requires.all r o.pool x o.set o.stands c.starts_beside_others.ensures c.in-Vanished.env c.in-Vanished.rack gone c.so-in-Vanished.result c.vanished-board.result (c.so-in-Vanished.ensures ∙ ap (answered c.in-Vanished.env) c.refused.ensures)
    (c.vanished-board.ensures.state ∙ (λ j. record { state = state_is j; spare = spare j; free = c.vanished-board.result.free; halted = (lent j).halted; past = min ((lent j).past + count j) last }))
    (c.vanished-board.ensures.faults ∙ ap (λ (v : LentView _). min (R.faults v.free + R.faults c.in-Vanished.rack) last) lent)

pub returns-in-Fault-clause-ran : goal.returns-in-Fault-clause-ran
returns-in-Fault-clause-ran g c =
    let R = g.R.Rack in let s = c.args.before.now.value in let id = c.args.id.now in let cells = c.args.cells.now.items in let was = c.args.board in let r = c.args.ready in let x = c.lend-board.result.pool in
    let o = out_of R.devs R.moment R.state_at R.faults s id cells was c.requires.all r c.args.name.now c.requires.set x c.lend-board.ensures.at c.lend-board.ensures.halts in
    let fails = subst (DidStart R.devs R.moment R.state_at R.faults o.pool x) c.in-Fault.is (c.start.ensures o.pool o.stands o.set.can) in
    let lent = c.lend-board.ensures.lent in
    failed_so R.devs R.moment R.state_at R.faults s id cells was c.requires.all r o.pool x o.set c.in-Fault.pool fails.counts c.so-in-Fault.result c.back.result (c.so-in-Fault.ensures ∙ ap (answered FaultWrite) c.refused-in-Fault.ensures)
    (c.back.ensures ∙ (λ j. record { state = (lent j).state; spare = (lent j).spare; free = (lent j).free; halted = (lent j).halted ++ c.in-Fault.pool ∷ []; past = (lent j).past }))

pub returns-in-NoMemory-clause-ran : goal.returns-in-NoMemory-clause-ran
returns-in-NoMemory-clause-ran g c =
    let R = g.R.Rack in let s = c.args.before.now.value in let id = c.args.id.now in let cells = c.args.cells.now.items in let was = c.args.board in let r = c.args.ready in let x = c.lend-board.result.pool in
    let o = out_of R.devs R.moment R.state_at R.faults s id cells was c.requires.all r c.args.name.now c.requires.set x c.lend-board.ensures.at c.lend-board.ensures.halts in
    let fails = subst (DidStart R.devs R.moment R.state_at R.faults o.pool x) c.in-NoMemory.is (c.start.ensures o.pool o.stands o.set.can) in
    let lent = c.lend-board.ensures.lent in
    refused_so R.devs R.moment R.state_at R.faults s id cells was c.requires.all r o.pool x o.set c.in-NoMemory.pool fails.counts c.no_memory.result c.back-in-NoMemory.result c.no_memory.ensures
    (c.back-in-NoMemory.ensures ∙ (λ j. record { state = (lent j).state; spare = (lent j).spare; free = (lent j).free; halted = (lent j).halted ++ c.in-NoMemory.pool ∷ []; past = (lent j).past }))

pub returns-in-Vanished-clause-places : goal.returns-in-Vanished-clause-places
returns-in-Vanished-clause-places g c = omega arith

pub returns-in-Fault-clause-places : goal.returns-in-Fault-clause-places
returns-in-Fault-clause-places g c = omega arith

pub returns-in-NoMemory-clause-places : goal.returns-in-NoMemory-clause-places
returns-in-NoMemory-clause-places g c = omega arith

pub returns-in-Up-clause-did : goal.returns-in-Up-clause-did
returns-in-Up-clause-did g c =
    let R = g.R.Rack in let s = c.args.before.now.value in let id = c.args.id.now in let cells = c.args.cells.now.items in let was = c.args.board in let r = c.args.ready in let x = c.lend-board.result.pool in
    let o = out_of R.devs R.moment R.state_at R.faults s id cells was c.requires.all r c.args.name.now c.requires.set x c.lend-board.ensures.at c.lend-board.ensures.halts in
    let lent = c.lend-board.ensures.lent in let free = ap (λ (v : LentView _). v.free) lent in
    let starts = subst (DidStart R.devs R.moment R.state_at R.faults o.pool x) c.in-Up.is (c.start.ensures o.pool o.stands o.set.can) in
    let halted = ap (λ (v : LentView _). v.halted) lent in
    subst (λ (e : Env). DidWake R.devs R.moment R.state_at R.faults s id e cells was c.put.new.self.items c.woken-board.result) (sym (ap (λ (a : PoolReply). a.env) c.so.ensures))
    (Woken r.place o.pool x c.in-Up.pool (record { meant = o.set.meant; at = o.set.at; halts = o.stands }) starts c.put.ensures.items (ap (λ (v : BoardView _). v.free) c.woken-board.ensures ∙ free) (ap (λ (v : BoardView _). v.halted) c.woken-board.ensures ∙ halted))

pub returns-in-Vanished-clause-did : goal.returns-in-Vanished-clause-did
returns-in-Vanished-clause-did g c =
    let R = g.R.Rack in let s = c.args.before.now.value in let id = c.args.id.now in let cells = c.args.cells.now.items in let was = c.args.board in let r = c.args.ready in let x = c.lend-board.result.pool in
    let o = out_of R.devs R.moment R.state_at R.faults s id cells was c.requires.all r c.args.name.now c.requires.set x c.lend-board.ensures.at c.lend-board.ensures.halts in
    let lent = c.lend-board.ensures.lent in let free = ap (λ (v : LentView _). v.free) lent in
    let gone = subst (DidStart R.devs R.moment R.state_at R.faults o.pool x) c.in-Vanished.is (c.start.ensures o.pool o.stands o.set.can) in
    let halted = ap (λ (v : LentView _). v.halted) lent in
    subst (λ (e : Env). DidWake R.devs R.moment R.state_at R.faults s id e cells was cells c.vanished-board.result) (sym (ap (λ (a : PoolReply). a.env) c.so-in-Vanished.ensures))
    (Vanished r.place o.pool x c.in-Vanished.rack (record { meant = o.set.meant; at = o.set.at; halts = o.stands }) gone refl (subst (λ d. Joins R.devs R.moment R.state_at d c.in-Vanished.rack c.vanished-board.result.free) free c.vanished-board.ensures.joined) (ap (λ (v : BoardView _). v.halted) c.vanished-board.ensures.state ∙ halted))

pub returns-in-Fault-clause-did : goal.returns-in-Fault-clause-did
returns-in-Fault-clause-did g c =
    let R = g.R.Rack in let s = c.args.before.now.value in let id = c.args.id.now in let cells = c.args.cells.now.items in let was = c.args.board in let r = c.args.ready in let x = c.lend-board.result.pool in
    let o = out_of R.devs R.moment R.state_at R.faults s id cells was c.requires.all r c.args.name.now c.requires.set x c.lend-board.ensures.at c.lend-board.ensures.halts in
    let lent = c.lend-board.ensures.lent in let free = ap (λ (v : LentView _). v.free) lent in
    let fails = subst (DidStart R.devs R.moment R.state_at R.faults o.pool x) c.in-Fault.is (c.start.ensures o.pool o.stands o.set.can) in
    Failed r.place o.pool x c.in-Fault.pool (record { meant = o.set.meant; at = o.set.at; halts = o.stands }) (ap (λ (a : PoolReply). a.env) c.so-in-Fault.ensures) fails refl (ap (λ (v : BoardView _). v.free) c.back.ensures ∙ free)
    (ap (λ (v : BoardView _). v.halted) c.back.ensures ∙ ap (λ (v : LentView _). v.halted ++ c.in-Fault.pool ∷ []) lent)

pub returns-in-NoMemory-clause-did : goal.returns-in-NoMemory-clause-did
returns-in-NoMemory-clause-did g c =
    let R = g.R.Rack in let s = c.args.before.now.value in let id = c.args.id.now in let cells = c.args.cells.now.items in let was = c.args.board in let r = c.args.ready in let x = c.lend-board.result.pool in
    let o = out_of R.devs R.moment R.state_at R.faults s id cells was c.requires.all r c.args.name.now c.requires.set x c.lend-board.ensures.at c.lend-board.ensures.halts in
    let lent = c.lend-board.ensures.lent in let free = ap (λ (v : LentView _). v.free) lent in
    let fails = subst (DidStart R.devs R.moment R.state_at R.faults o.pool x) c.in-NoMemory.is (c.start.ensures o.pool o.stands o.set.can) in
    Refused r.place o.pool x c.in-NoMemory.pool (record { meant = o.set.meant; at = o.set.at; halts = o.stands }) (ap (λ (a : PoolReply). a.env) c.no_memory.ensures) fails refl (ap (λ (v : BoardView _). v.free) c.back-in-NoMemory.ensures ∙ free)
    (ap (λ (v : BoardView _). v.halted) c.back-in-NoMemory.ensures ∙ ap (λ (v : LentView _). v.halted ++ c.in-NoMemory.pool ∷ []) lent)
