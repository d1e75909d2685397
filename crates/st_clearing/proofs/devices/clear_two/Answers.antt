use Rattle.std.proofs.Common.{List, ℕ, [], ◌∷◌, ◌*◌, subst}
use Rattle.st_rack.specs.Moments.{Goes, OnDevice}
use Rattle.st_rack.specs.Steps.{Rewriting, Rewritten}
use Rattle.st_slots.proofs.Running.{on_ok}
use Rattle.st_clearing.proofs.Clearings.{both_cleared, first_clearing, one_cleared, one_clearing, then_clearing}
use Rattle.st_clearing.proofs.devices.clear_two.Goals as goal

pub returns-in_err-write_synced-clause-time : goal.returns-in_err-write_synced-clause-time
returns-in_err-write_synced-clause-time g c =
    let M = g.R.Rack.moment in
    let S = g.R.Rack.state_at in
    let r0 = c.args.rack.now in
    let r1 = c.write_synced.new.rack in
    let d = c.args.dev.now in
    let time = subst (λ (t : List ℕ). Goes M S (OnDevice d (Rewriting (512 * c.args.first) t)) r0 r1) c.requires.zeros c.write_synced.ensures.time in
    first_clearing M S d (512 * c.args.first ∷ []) (512 * c.args.second ∷ []) r0 r1 (one_clearing M S d (512 * c.args.first) r0 r1 time)

pub returns-clause-time : goal.returns-clause-time
returns-clause-time g c =
    let M = g.R.Rack.moment in
    let S = g.R.Rack.state_at in
    let r0 = c.args.rack.now in
    let r1 = c.write_synced.new.rack in
    let r2 = c.write_synced-2.new.rack in
    let d = c.args.dev.now in
    let one = subst (λ (t : List ℕ). Goes M S (OnDevice d (Rewriting (512 * c.args.first) t)) r0 r1) c.requires.zeros c.write_synced.ensures.time in
    let two = subst (λ (t : List ℕ). Goes M S (OnDevice d (Rewriting (512 * c.args.second) t)) r1 r2) c.requires.zeros c.write_synced-2.ensures.time in
    let done = subst (λ (t : List ℕ). OnDevice d (Rewritten (512 * c.args.first) t) (S r0 (M r0)) (S r1 (M r1))) c.requires.zeros c.in_ok-write_synced.ensures.done in
    then_clearing M S d (512 * c.args.first ∷ []) (512 * c.args.second ∷ []) r0 r1 r2 (one_cleared M S d (512 * c.args.first) r0 r1 done)
    (one_clearing M S d (512 * c.args.first) r0 r1 one) (one_clearing M S d (512 * c.args.second) r1 r2 two)

pub returns-clause-done : goal.returns-clause-done
returns-clause-done g c =
    let M = g.R.Rack.moment in
    let S = g.R.Rack.state_at in
    let r0 = c.args.rack.now in
    let r1 = c.write_synced.new.rack in
    let r2 = c.write_synced-2.new.rack in
    let d = c.args.dev.now in
    let done = subst (λ (t : List ℕ). OnDevice d (Rewritten (512 * c.args.first) t) (S r0 (M r0)) (S r1 (M r1))) c.requires.zeros c.in_ok-write_synced.ensures.done in
    on_ok c.write_synced-2.result _ _ (λ last.
    both_cleared M S d (512 * c.args.first ∷ []) (512 * c.args.second ∷ []) r0 r1 r2 (one_cleared M S d (512 * c.args.first) r0 r1 done)
    (one_cleared M S d (512 * c.args.second) r1 r2 (subst (λ (t : List ℕ). OnDevice d (Rewritten (512 * c.args.second) t) (S r1 (M r1)) (S r2 (M r2))) c.requires.zeros last)))
    c.write_synced-2.ensures.done
