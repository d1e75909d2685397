use Rattle.std.proofs.Common.{◌≡◌, ◌++◌, ◌∷◌, [], ◌∙◌, length, sym, ap, subst, arith, bytes_eq}
use Rattle.st_model.specs.declared.call.Call.TheVariants.{RenamePool}
use Rattle.st_model.specs.Look.{Text}
use Rattle.st_pool.specs.Runs.{Runs, never_low}
use Rattle.st_pool.specs.View.{PoolView}
use Rattle.st_board.specs.Ran.{HasRun}
use Rattle.st_renaming.specs.Renames.{DidRename}
use Rattle.st_renaming.specs.inner.Ready.{IsPlan}
use Rattle.st_renaming.proofs.Renaming.{as_many, has_run, may_ask, placed, racks_stay, same_some, tells, turned}
use Rattle.st_renaming.proofs.on_all.run_at.Goals as goal

pub take_at-pool-requires : goal.take_at-pool-requires
take_at-pool-requires g c = let at = c.requires.at in placed c.args.cells.now.items c.args.place at.0 at.1

pub rename-answer-requires : goal.rename-answer-requires
rename-answer-requires g c =
    let R = g.R.Rack in let s = c.args.before.now.value in let at = c.requires.at in let pool = c.take_at-pool.result in let taken = c.take_at-pool.ensures.taken in
    let named = subst (λ (x : PoolView _). x.pool.name ≡ c.args.name.now) (same_some _ at.0 pool at.1 taken) at.2 in
    let ready = subst (λ (n : Text). IsPlan s n c.args.plan.new c.args.plan) (sym named) c.requires.plan in
    record { free = may_ask R.devs R.moment R.state_at R.faults s c.args.cells.now.items c.args.board c.requires.all c.args.place pool taken c.args.plan.new c.args.plan ready }

pub told-board-requires-clause-turned : goal.told-board-requires-clause-turned
told-board-requires-clause-turned g c =
    let R = g.R.Rack in let s = c.args.before.now.value in let at = c.requires.at in let pool = c.take_at-pool.result in let taken = c.take_at-pool.ensures.taken in let q = c.rename-answer.new.self in
    let named = subst (λ (x : PoolView _). x.pool.name ≡ c.args.name.now) (same_some _ at.0 pool at.1 taken) at.2 in
    let ready = subst (λ (n : Text). IsPlan s n c.args.plan.new c.args.plan) (sym named) c.requires.plan in
    let is_same = c.eq-same.ensures ∙ (ap (λ (t : Text). bytes_eq t c.bytes-2.result.now) (c.bytes.ensures.value ∙ c.name.ensures) ∙ ap (bytes_eq q.pool.name) (c.bytes-2.ensures.value ∙ sym named)) in
    turned R.devs R.moment R.state_at R.faults s c.args.cells.now.items c.args.board c.requires.all c.args.place pool taken c.args.plan.new c.args.plan ready c.beside_others.ensures.renamed
    c.rename-answer.result q c.rename-answer.ensures c.next_of.result c.next_of.ensures.failed (λ calm on. c.next_of.ensures.same calm (is_same ∙ on)) (λ calm off. c.next_of.ensures.done calm (is_same ∙ off))

pub told-board-requires-clause-tells : goal.told-board-requires-clause-tells
told-board-requires-clause-tells g c =
    let R = g.R.Rack in let s = c.args.before.now.value in let at = c.requires.at in let pool = c.take_at-pool.result in let taken = c.take_at-pool.ensures.taken in let q = c.rename-answer.new.self in
    let named = subst (λ (x : PoolView _). x.pool.name ≡ c.args.name.now) (same_some _ at.0 pool at.1 taken) at.2 in
    let ready = subst (λ (n : Text). IsPlan s n c.args.plan.new c.args.plan) (sym named) c.requires.plan in
    let is_same = c.eq-same.ensures ∙ (ap (λ (t : Text). bytes_eq t c.bytes-2.result.now) (c.bytes.ensures.value ∙ c.name.ensures) ∙ ap (bytes_eq q.pool.name) (c.bytes-2.ensures.value ∙ sym named)) in
    tells R.devs R.moment R.state_at R.faults s c.args.cells.now.items c.args.board c.requires.all c.args.place pool taken c.args.plan.new c.args.plan ready c.beside_others.ensures.renamed
    c.rename-answer.result q c.rename-answer.ensures c.next_of.result c.next_of.ensures.failed (λ calm on. c.next_of.ensures.same calm (is_same ∙ on)) (λ calm off. c.next_of.ensures.done calm (is_same ∙ off))

pub put-requires : goal.put-requires
put-requires g c = let room = c.take_at-pool.ensures.room in omega (arith, room)

pub returns-clause-ran : goal.returns-clause-ran
returns-clause-ran g c =
    let R = g.R.Rack in let s = c.args.before.now.value in let at = c.requires.at in let pool = c.take_at-pool.result in let taken = c.take_at-pool.ensures.taken in let q = c.rename-answer.new.self in
    let old = c.args.cells.now.items in let new = c.args.plan.new in let answer = c.rename-answer.result in let b = c.told-board.result in
    let named = subst (λ (x : PoolView _). x.pool.name ≡ c.args.name.now) (same_some _ at.0 pool at.1 taken) at.2 in
    let ready = subst (λ (n : Text). IsPlan s n new c.args.plan) (sym named) c.requires.plan in
    let is_same = c.eq-same.ensures ∙ (ap (λ (t : Text). bytes_eq t c.bytes-2.result.now) (c.bytes.ensures.value ∙ c.name.ensures) ∙ ap (bytes_eq q.pool.name) (c.bytes-2.ensures.value ∙ sym named)) in
    let run = has_run R.devs R.moment R.state_at R.faults s old c.args.board c.requires.all c.args.place pool taken new c.args.plan ready c.beside_others.ensures.renamed
    answer q c.rename-answer.ensures c.next_of.result c.next_of.ensures.failed (λ calm on. c.next_of.ensures.same calm (is_same ∙ on)) (λ calm off. c.next_of.ensures.done calm (is_same ∙ off))
    b c.told-board.ensures.none c.told-board.ensures.some in
    subst (λ (n : Text). HasRun R.devs R.moment R.state_at R.faults s (RenamePool n new) answer old c.args.board c.put.new.self.items b) named
    (subst (λ xs. HasRun R.devs R.moment R.state_at R.faults s (RenamePool pool.pool.name new) answer old c.args.board xs b)
    (sym (c.put.ensures.items ∙ ap (λ xs. xs ++ q ∷ []) c.take_at-pool.ensures.items)) run)

pub returns-clause-places : goal.returns-clause-places
returns-clause-places g c =
    let q = c.rename-answer.new.self in
    let many = ap length (c.put.ensures.items ∙ ap (λ xs. xs ++ q ∷ []) c.take_at-pool.ensures.items) ∙ as_many c.args.cells.now.items c.args.place c.take_at-pool.result q c.take_at-pool.ensures.taken in
    let before = c.take_at-pool.ensures.room in let after = c.put.ensures.room in
    omega (arith, many, before, after)

pub returns-clause-did : goal.returns-clause-did
returns-clause-did g c =
    let R = g.R.Rack in let at = c.requires.at in let pool = c.take_at-pool.result in let taken = c.take_at-pool.ensures.taken in let q = c.rename-answer.new.self in
    let named = subst (λ (x : PoolView _). x.pool.name ≡ c.args.name.now) (same_some _ at.0 pool at.1 taken) at.2 in
    let runs = subst (λ (n : Text). Runs R.devs R.moment R.state_at R.faults never_low (RenamePool n c.args.plan.new) pool c.rename-answer.result q) named c.rename-answer.ensures in
    let stay = racks_stay c.args.board c.told-board.result c.next_of.result c.told-board.ensures.none c.told-board.ensures.some in
    DidRename.Asked c.args.place pool q taken named runs (c.put.ensures.items ∙ ap (λ xs. xs ++ q ∷ []) c.take_at-pool.ensures.items) stay.0 stay.1
