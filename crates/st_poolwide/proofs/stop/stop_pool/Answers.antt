use Rattle.std.proofs.Common.{rules, ◌≡◌, true, false, Some, slice_get, slice_set, sym, ap, ◌∙◌}
use Rattle.st_model.specs.declared.reply.Reply.{Reply}
use Rattle.st_model.specs.declared.state.PoolState.{PoolState}
use Rattle.st_model.specs.Parts.{pool_at}
use Rattle.st_model.specs.Checks.{halted}
use Rattle.st_model.specs.Look.{is_started}
use Rattle.st_within.proofs.Outcomes.{on_err}
use Rattle.st_within.proofs.Singly.{put_back}
use Rattle.st_poolwide.proofs.Wide.{done, stop_idle, stop_so, stop_unknown}
use Rattle.st_poolwide.proofs.stop.stop_pool.Goals as goal

pub returns-in_default-clause-ok : goal.returns-in_default-clause-ok
returns-in_default-clause-ok c =
    ap (λ (r : Reply). (r, c.args.state.now)) c.refused.ensures ∙ stop_unknown c.args.state.now c.args.name.now (search rules)

pub returns-then-not-is_started-clause-ok : goal.returns-then-not-is_started-clause-ok
returns-then-not-is_started-clause-ok c =
    let s = c.args.state.now in
    let p = c.at-pool.result.now in
    let found : pool_at c.args.name.now s.pools ≡ slice_get s.pools c.in-Some.place = search rules in
    let idle : is_started p.mode ≡ false = search rules in
    ap (λ (r : Reply). (r, s)) c.accepted.ensures ∙ stop_idle s c.args.name.now p (found ∙ c.at-pool.ensures) idle

pub returns-in_err-halt-clause-err : goal.returns-in_err-halt-clause-err
returns-in_err-halt-clause-err c =
    let s = c.args.state.now in
    let kept : c.halt.new.pool ≡ c.at_mut.result.now = search rules in
    let back : slice_set s.pools c.in-Some.place c.halt.new.pool ≡ s.pools
    = ap (slice_set s.pools c.in-Some.place) kept ∙ put_back s.pools c.in-Some.place c.at_mut.result.now c.at_mut.ensures.value in
    on_err _ _ (ap (λ (l : _). record s { pools = l }) back)

pub returns-clause-ok : goal.returns-clause-ok
returns-clause-ok c =
    let s = c.args.state.now in
    let p = c.at-pool.result.now in
    let found : pool_at c.args.name.now s.pools ≡ slice_get s.pools c.in-Some.place = search rules in
    let same : c.at_mut.result.now ≡ p = (let e : Some c.at_mut.result.now ≡ Some p = sym c.at_mut.ensures.value ∙ c.at-pool.ensures in cc) in
    let runs : is_started p.mode ≡ true = search rules in
    let after : c.halt.new.pool ≡ halted c.at_mut.result.now = search rules in
    ap (λ (r : Reply). (r, record s { pools = slice_set s.pools c.in-Some.place c.halt.new.pool })) c.accepted-2.ensures
    ∙ ap (λ (q : PoolState). (done p, record s { pools = slice_set s.pools c.in-Some.place q })) (after ∙ ap halted same)
    ∙ stop_so s c.args.name.now p (found ∙ c.at-pool.ensures) c.requires c.in-Some.place c.at-pool.ensures runs
