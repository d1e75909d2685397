use Rattle.std.proofs.Common.{rules, ◌≡◌, ◌≤◌, ◌^◌, Some, None, slice_get, slice_set, sym, ap, ◌∙◌, subst, arith}
use Rattle.st_model.specs.declared.reply.Reply.{Reply}
use Rattle.st_model.specs.declared.state.PoolState.{PoolState}
use Rattle.st_model.specs.Answer.{first_answer}
use Rattle.st_model.specs.Parts.{pool_at}
use Rattle.st_model.specs.steps.RenamePool.{rename_answers, renamed}
use Rattle.st_poolwide.proofs.Wide.{done, rename_answered, rename_room, rename_so, rename_unknown}
use Rattle.st_poolwide.proofs.rename.rename_pool.Goals as goal

pub returns-in_default-clause-ok : goal.returns-in_default-clause-ok
returns-in_default-clause-ok c =
    ap (λ (r : Reply). (r, c.args.state.now)) c.refused.ensures ∙ rename_unknown c.args.state.now c.args.name.now c.args.new.now (search rules)

pub returns-in-Some-2-clause-ok : goal.returns-in-Some-2-clause-ok
returns-in-Some-2-clause-ok c =
    let s = c.args.state.now in
    let p = c.at-pool.result.now in
    let found : pool_at c.args.name.now s.pools ≡ slice_get s.pools c.in-Some.place = search rules in
    let said : first_answer (rename_answers s c.args.name.now c.args.new.now p) ≡ Some c.in-Some-2.reply = search rules in
    rename_answered s c.args.name.now p (found ∙ c.at-pool.ensures) c.args.new.now c.in-Some-2.reply said

pub overflow_add-pool : goal.overflow_add-pool
overflow_add-pool c =
    let s = c.args.state.now in
    let p = c.at-pool.result.now in
    let found : pool_at c.args.name.now s.pools ≡ slice_get s.pools c.in-Some.place = search rules in
    let none : first_answer (rename_answers s c.args.name.now c.args.new.now p) ≡ None = search rules in
    let same : c.at_mut-pool.result.now ≡ p = (let e : Some c.at_mut-pool.result.now ≡ Some p = sym c.at_mut-pool.ensures.value ∙ c.at-pool.ensures in cc) in
    let room : p.commits ≤ 2 ^ 48 = rename_room s c.args.name.now p (found ∙ c.at-pool.ensures) c.requires c.in-Some.place c.at-pool.ensures c.args.new.now none in
    let mine : c.at_mut-pool.result.now.commits ≤ 2 ^ 48 = subst (λ (q : PoolState). q.commits ≤ 2 ^ 48) (sym same) room in
    omega (arith, mine)

pub returns-clause-ok : goal.returns-clause-ok
returns-clause-ok c =
    let s = c.args.state.now in
    let p = c.at-pool.result.now in
    let found : pool_at c.args.name.now s.pools ≡ slice_get s.pools c.in-Some.place = search rules in
    let none : first_answer (rename_answers s c.args.name.now c.args.new.now p) ≡ None = search rules in
    let same : c.at_mut-pool.result.now ≡ p = (let e : Some c.at_mut-pool.result.now ≡ Some p = sym c.at_mut-pool.ensures.value ∙ c.at-pool.ensures in cc) in
    let copied : c.in_ok-copy.copy ≡ c.args.new.now = search rules in
    ap (λ (r : Reply). (r, record s { pools = slice_set s.pools c.in-Some.place (renamed c.in_ok-copy.copy c.at_mut-pool.result.now) })) c.accepted.ensures
    ∙ ap (λ n. (done p, record s { pools = slice_set s.pools c.in-Some.place (renamed n c.at_mut-pool.result.now) })) copied
    ∙ ap (λ (q : PoolState). (done p, record s { pools = slice_set s.pools c.in-Some.place (renamed c.args.new.now q) })) same
    ∙ rename_so s c.args.name.now p (found ∙ c.at-pool.ensures) c.requires c.in-Some.place c.at-pool.ensures c.args.new.now none
