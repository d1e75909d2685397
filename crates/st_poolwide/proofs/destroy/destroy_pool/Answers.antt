use Rattle.std.proofs.Common.{rules, ◌≡◌, Some, None, slice_get, sym, ap, ◌∙◌}
use Rattle.st_model.specs.declared.reply.Reply.{Reply}
use Rattle.st_model.specs.declared.state.PoolState.{PoolState}
use Rattle.st_model.specs.Answer.{first_answer}
use Rattle.st_model.specs.Parts.{pool_at}
use Rattle.st_model.specs.steps.DestroyPool.{destroy_answers}
use Rattle.st_poolwide.proofs.Wide.{destroy_answered, destroy_so, destroy_unknown, done}
use Rattle.st_poolwide.proofs.destroy.destroy_pool.Goals as goal

pub returns-in_default-clause-ok : goal.returns-in_default-clause-ok
returns-in_default-clause-ok c =
    ap (λ (r : Reply). (r, c.args.state.now)) c.accepted.ensures ∙ destroy_unknown c.args.state.now c.args.name.now (search rules)

pub returns-in-Some-2-clause-ok : goal.returns-in-Some-2-clause-ok
returns-in-Some-2-clause-ok c =
    let s = c.args.state.now in
    let p = c.at.result.now in
    let found : pool_at c.args.name.now s.pools ≡ slice_get s.pools c.in-Some.place = search rules in
    let said : first_answer (destroy_answers p) ≡ Some c.in-Some-2.reply = search rules in
    destroy_answered s c.args.name.now p (found ∙ c.at.ensures) c.in-Some-2.reply said

pub returns-clause-ok : goal.returns-clause-ok
returns-clause-ok c =
    let s = c.args.state.now in
    let p = c.at.result.now in
    let found : pool_at c.args.name.now s.pools ≡ slice_get s.pools c.in-Some.place = search rules in
    let none : first_answer (destroy_answers p) ≡ None = search rules in
    let same : c.remove-pool.result ≡ p = (let e : Some c.remove-pool.result ≡ Some p = sym c.remove-pool.ensures.taken ∙ c.at.ensures in cc) in
    ap (λ (r : Reply). (r, record s { pools = c.remove-pool.new.self })) c.accepted-2.ensures
    ∙ ap (λ (q : PoolState). (done q, record s { pools = c.remove-pool.new.self })) same
    ∙ ap (λ (l : _). (done p, record s { pools = l })) c.remove-pool.ensures.rest
    ∙ destroy_so s c.args.name.now p (found ∙ c.at.ensures) c.requires c.in-Some.place c.at.ensures none
