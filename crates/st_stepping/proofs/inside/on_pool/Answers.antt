use Rattle.std.proofs.Common.{rules, ◌≡◌, Some, None, slice_get, slice_set, sym, ap, ◌∙◌, subst}
use Rattle.st_model.specs.declared.reply.Reply.{Reply}
use Rattle.st_model.specs.declared.state.PoolState.{PoolState}
use Rattle.st_model.specs.Checks.{not_up}
use Rattle.st_model.specs.Parts.{pool_at}
use Rattle.st_model.specs.ValidPool.{IsWhole}
use Rattle.st_stepping.specs.inner.Inside.{doing_of, name_in}
use Rattle.st_within.proofs.Singly.{put_back}
use Rattle.st_within.proofs.OnPool.{idle_on, run_on, unknown_on, whole_now}
use Rattle.st_within.proofs.Outcomes.{if_ok, on_err_so}
use Rattle.st_stepping.proofs.inside.on_pool.Goals as goal

pub returns-in_default-clause-ok : goal.returns-in_default-clause-ok
returns-in_default-clause-ok c =
    ap (λ (r : Reply). (r, c.args.state.now)) c.refused.ensures ∙ unknown_on c.args.state.now (name_in c.args.call.now) (doing_of c.args.call.now) (search rules)

pub returns-in-Some-2-clause-ok : goal.returns-in-Some-2-clause-ok
returns-in-Some-2-clause-ok c =
    let s = c.args.state.now in
    let name = name_in c.args.call.now in
    let p = c.at.result.now in
    let found : pool_at name s.pools ≡ slice_get s.pools c.in-Some.place = search rules in
    let said : not_up p p.mode ≡ Some c.in-Some-2.reply = search rules in
    idle_on s name p c.requires.valid (found ∙ c.at.ensures) (doing_of c.args.call.now) c.in-Some-2.reply said

pub within-requires-clause-whole : goal.within-requires-clause-whole
within-requires-clause-whole c =
    let s = c.args.state.now in
    let name = name_in c.args.call.now in
    let p = c.at.result.now in
    let found : pool_at name s.pools ≡ slice_get s.pools c.in-Some.place = search rules in
    let none : not_up p p.mode ≡ None = search rules in
    let same : c.at_mut.result.now ≡ p = (let e : Some c.at_mut.result.now ≡ Some p = sym c.at_mut.ensures.value ∙ c.at.ensures in cc) in
    subst IsWhole (sym same) (whole_now s name p c.requires.valid (found ∙ c.at.ensures) none)

pub returns-clause-ok : goal.returns-clause-ok
returns-clause-ok c =
    let s = c.args.state.now in
    let name = name_in c.args.call.now in
    let f = doing_of c.args.call.now in
    let p = c.at.result.now in
    let found : pool_at name s.pools ≡ slice_get s.pools c.in-Some.place = search rules in
    let none : not_up p p.mode ≡ None = search rules in
    let same : c.at_mut.result.now ≡ p = (let e : Some c.at_mut.result.now ≡ Some p = sym c.at_mut.ensures.value ∙ c.at.ensures in cc) in
    if_ok c.within.result _ _ c.within.ensures.ok (λ reply e.
    ap (λ (x : Reply × PoolState). (x.0, record s { pools = slice_set s.pools c.in-Some.place x.1 })) (e ∙ ap f same)
    ∙ run_on s name p c.requires.valid (found ∙ c.at.ensures) f c.in-Some.place c.at.ensures none)

pub returns-clause-err : goal.returns-clause-err
returns-clause-err c =
    let s = c.args.state.now in
    on_err_so c.within.result _ _ c.within.ensures.err (λ kept.
    ap (λ (ps : _). record s { pools = ps }) (ap (slice_set s.pools c.in-Some.place) kept ∙ put_back s.pools c.in-Some.place c.at_mut.result.now c.at_mut.ensures.value))
