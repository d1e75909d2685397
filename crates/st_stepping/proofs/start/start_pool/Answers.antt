use Rattle.std.proofs.Common.{rules, ◌≡◌, Some, None, slice_get, slice_set, sym, ap, ◌∙◌}
use Rattle.st_model.specs.declared.reply.Reply.{Reply}
use Rattle.st_model.specs.declared.state.PoolMode.TheVariants.{Up}
use Rattle.st_model.specs.declared.state.PoolState.{PoolState}
use Rattle.st_model.specs.Checks.{cooled}
use Rattle.st_model.specs.steps.StartPool.{pool_meant, started_reply}
use Rattle.st_stepping.specs.inner.Starting.{start_answer}
use Rattle.st_stepping.proofs.Started.{start_answered, start_so, start_unknown}
use Rattle.st_stepping.proofs.start.start_pool.Goals as goal

pub returns-in_default-clause-ok : goal.returns-in_default-clause-ok
returns-in_default-clause-ok c =
    ap (λ (r : Reply). (r, c.args.state.now)) c.refused.ensures ∙ start_unknown c.args.state.now c.args.id.now (search rules)

pub returns-in-Some-2-clause-ok : goal.returns-in-Some-2-clause-ok
returns-in-Some-2-clause-ok c =
    let s = c.args.state.now in
    let p = c.at-pool.result.now in
    let found : pool_meant c.args.id.now s ≡ slice_get s.pools c.in-Some.place = search rules in
    let said : start_answer p p.mode ≡ Some c.in-Some-2.reply = search rules in
    start_answered s c.args.id.now p (found ∙ c.at-pool.ensures) c.in-Some-2.reply said

pub returns-clause-ok : goal.returns-clause-ok
returns-clause-ok c =
    let s = c.args.state.now in
    let p = c.at-pool.result.now in
    let found : pool_meant c.args.id.now s ≡ slice_get s.pools c.in-Some.place = search rules in
    let none : start_answer p p.mode ≡ None = search rules in
    let same : c.at_mut.result.now ≡ p = (let e : Some c.at_mut.result.now ≡ Some p = sym c.at_mut.ensures.value ∙ c.at-pool.ensures in cc) in
    let after : c.cool.new.pool ≡ cooled Up c.at_mut.result.now = search rules in
    ap (λ (r : Reply). (r, record s { pools = slice_set s.pools c.in-Some.place c.cool.new.pool })) c.accepted.ensures
    ∙ ap (λ (q : PoolState). (started_reply p, record s { pools = slice_set s.pools c.in-Some.place q })) (after ∙ ap (cooled Up) same)
    ∙ start_so s c.args.id.now p (found ∙ c.at-pool.ensures) c.requires c.in-Some.place c.at-pool.ensures none
