use Rattle.std.proofs.Common.{◌≡◌, ◌-◌, ◌^◌, ℕ, Bool, true, false, cond, Option, Some, sym, ◌∙◌, ap, subst, arith}
use Rattle.std.proofs.lemmas.Bool.{true≢false}
use Rattle.st_rack.specs.Moments.{Keeps}
use Rattle.st_slots.proofs.Running.{on_ok}
use Rattle.st_deltalog.specs.Log.{Log, begun, grown}
use Rattle.st_deltalog.specs.Bearing.{IsTail, other}
use Rattle.st_deltalog.specs.Choice.{GoesByRule, follows}
use Rattle.st_deltalog.proofs.Bearing.{log_held}
use Rattle.st_deltalog.proofs.Choosing.{rule_delta, rule_checkpoint}
use Rattle.st_commit.specs.Standing.{OneOf, standing_of}
use Rattle.st_commit.specs.Ready.{Ready, next}
use Rattle.st_commit.proofs.operate.commit_by_rule.Goals as goal

pub returns-then-may_follow-clause-during : goal.returns-then-may_follow-clause-during
returns-then-may_follow-clause-during g c =
    let M = g.R.Rack.moment in
    let S = g.R.Rack.state_at in
    let pool = c.args.pool.now in
    let flex = c.args.flex.now in
    let devs = c.args.devs.now in
    let rows = c.args.same_rows in
    let committed_before = c.args.has_committed in
    let G = c.args.generation in
    let rec = c.args.rec.now in
    let delta = c.args.delta.now in
    let body = c.args.body.now in
    let r0 = c.args.rack.now in
    let r1 = c.commit_delta.new.rack in
    (λ p up old h first log head tail step below serial serial_body ready.
    let yes : follows flex rows committed_before log ≡ true = sym (c.may_follow.ensures.test log tail) ∙ c.if-may_follow.true in
    let low = below (c.may_follow.ensures.committed c.if-may_follow.true) in
    subst (λ (b : Bool). Keeps M S (OneOf pool flex p devs first (standing_of old (h old) (Some log)) (standing_of G rec (Some (cond b (grown log delta) (begun (other log.slot) (G, body)))))) r0 r1) (sym yes)
    (c.commit_delta.ensures.during p up old h first log head tail step low serial ready))

pub returns-then-may_follow-clause-done : goal.returns-then-may_follow-clause-done
returns-then-may_follow-clause-done g c =
    let M = g.R.Rack.moment in
    let S = g.R.Rack.state_at in
    let pool = c.args.pool.now in
    let flex = c.args.flex.now in
    let devs = c.args.devs.now in
    let rows = c.args.same_rows in
    let committed_before = c.args.has_committed in
    let G = c.args.generation in
    let rec = c.args.rec.now in
    let delta = c.args.delta.now in
    let body = c.args.body.now in
    let r0 = c.args.rack.now in
    let r1 = c.commit_delta.new.rack in
    on_ok c.commit_delta.result _ _ (λ done.
    (λ p up old h first log head tail step below serial serial_body ready.
    let yes : follows flex rows committed_before log ≡ true = sym (c.may_follow.ensures.test log tail) ∙ c.if-may_follow.true in
    let low = below (c.may_follow.ensures.committed c.if-may_follow.true) in
    let all = done p up old h first log head tail step low serial ready in (
      subst (λ (b : Bool). Ready pool flex p (cond b up (2 ^ 48)) (next G rec h) devs first G (Some (cond b (grown log delta) (begun (other log.slot) (G, body)))) (S r1 (M r1))) (sym yes) all.0,
      (
        all.1,
        subst (λ (o : Option Log). GoesByRule flex rows committed_before log o) (sym (log_held flex p up G (grown log delta) (S r1 (M r1) first) all.0.base.1))
            (rule_delta flex rows committed_before log delta ((c.may_follow.ensures.rule log tail).0 c.if-may_follow.true)),
      ),
    ))) c.commit_delta.ensures.done

pub returns-in_err-tail-clause-during : goal.returns-in_err-tail-clause-during
returns-in_err-tail-clause-during g c =
    let M = g.R.Rack.moment in
    let S = g.R.Rack.state_at in
    let pool = c.args.pool.now in
    let flex = c.args.flex.now in
    let devs = c.args.devs.now in
    let rows = c.args.same_rows in
    let committed_before = c.args.has_committed in
    let G = c.args.generation in
    let rec = c.args.rec.now in
    let delta = c.args.delta.now in
    let body = c.args.body.now in
    let r0 = c.args.rack.now in
    let r1 = c.commit_checkpoint.new.rack in
    (λ p up old h first log head tail step below serial serial_body ready.
    let none : follows flex rows committed_before log ≡ false = sym (c.may_follow.ensures.test log tail) ∙ c.if-may_follow.false in
    let is_other : 1 - c.args.tail.now.slot ≡ other log.slot = ap other (sym tail.in_slot) in
    subst (λ (b : Bool). Keeps M S (OneOf pool flex p devs first (standing_of old (h old) (Some log)) (standing_of G rec (Some (cond b (grown log delta) (begun (other log.slot) (G, body)))))) r0 r1) (sym none)
    (subst (λ (k : ℕ). Keeps M S (OneOf pool flex p devs first (standing_of old (h old) (Some log)) (standing_of G rec (Some (begun k (G, body))))) r0 r1) is_other
    (c.commit_checkpoint.ensures.during p up old h first log head is_other step serial serial_body ready)))

pub returns-clause-during : goal.returns-clause-during
returns-clause-during g c =
    let M = g.R.Rack.moment in
    let S = g.R.Rack.state_at in
    let pool = c.args.pool.now in
    let flex = c.args.flex.now in
    let devs = c.args.devs.now in
    let rows = c.args.same_rows in
    let committed_before = c.args.has_committed in
    let G = c.args.generation in
    let rec = c.args.rec.now in
    let delta = c.args.delta.now in
    let body = c.args.body.now in
    let r0 = c.args.rack.now in
    let r1 = c.commit_checkpoint.new.rack in
    (λ p up old h first log head tail step below serial serial_body ready.
    let none : follows flex rows committed_before log ≡ false = sym (c.may_follow.ensures.test log tail) ∙ c.if-may_follow.false in
    let is_other : 1 - c.args.tail.now.slot ≡ other log.slot = ap other (sym tail.in_slot) in
    subst (λ (b : Bool). Keeps M S (OneOf pool flex p devs first (standing_of old (h old) (Some log)) (standing_of G rec (Some (cond b (grown log delta) (begun (other log.slot) (G, body)))))) r0 r1) (sym none)
    (subst (λ (k : ℕ). Keeps M S (OneOf pool flex p devs first (standing_of old (h old) (Some log)) (standing_of G rec (Some (begun k (G, body))))) r0 r1) is_other
    (c.commit_checkpoint.ensures.during p up old h first log head is_other step serial serial_body ready)))

pub returns-clause-done : goal.returns-clause-done
returns-clause-done g c =
    let M = g.R.Rack.moment in
    let S = g.R.Rack.state_at in
    let pool = c.args.pool.now in
    let flex = c.args.flex.now in
    let devs = c.args.devs.now in
    let rows = c.args.same_rows in
    let committed_before = c.args.has_committed in
    let G = c.args.generation in
    let rec = c.args.rec.now in
    let delta = c.args.delta.now in
    let body = c.args.body.now in
    let r0 = c.args.rack.now in
    let r1 = c.commit_checkpoint.new.rack in
    (λ p up old h first log head tail step below serial serial_body ready.
    let none : follows flex rows committed_before log ≡ false = sym (c.may_follow.ensures.test log tail) ∙ c.if-may_follow.false in
    let is_other : 1 - c.args.tail.now.slot ≡ other log.slot = ap other (sym tail.in_slot) in
    let all = c.in_ok-tail.ensures.done p up old h first log head is_other step serial serial_body ready in
    let there = subst (λ (k : ℕ). Ready pool flex p (2 ^ 48) (next G rec h) devs first G (Some (begun k (G, body))) (S r1 (M r1))) is_other all.0 in (
      subst (λ (b : Bool). Ready pool flex p (cond b up (2 ^ 48)) (next G rec h) devs first G (Some (cond b (grown log delta) (begun (other log.slot) (G, body)))) (S r1 (M r1))) (sym none) there,
      (
        all.1,
        subst (λ (o : Option Log). GoesByRule flex rows committed_before log o) (sym (log_held flex p (2 ^ 48) G (begun (other log.slot) (G, body)) (S r1 (M r1) first) there.base.1))
            (rule_checkpoint flex rows committed_before p old G (other log.slot) log body (S r0 (M r0) first).holds ready.base.1.bears.holds (omega arith)
            (λ may. true≢false (sym ((c.may_follow.ensures.rule log tail).1 may) ∙ c.if-may_follow.false))),
      ),
    ))

pub returns-then-may_follow-clause-tail : goal.returns-then-may_follow-clause-tail
returns-then-may_follow-clause-tail g c =
    on_ok c.commit_delta.result _ _ (λ done log tail.
    let yes : follows c.args.flex.now c.args.same_rows c.args.has_committed log ≡ true = sym (c.may_follow.ensures.test log tail) ∙ c.if-may_follow.true in
    subst (λ (b : Bool). IsTail c.commit_delta.new.tail.slot c.commit_delta.new.tail.next (cond b (grown log c.args.delta.now) (begun (other log.slot) (c.args.generation, c.args.body.now)))) (sym yes) (done log tail)) c.commit_delta.ensures.tail

pub returns-clause-tail : goal.returns-clause-tail
returns-clause-tail g c =
    λ log tail.
    let none : follows c.args.flex.now c.args.same_rows c.args.has_committed log ≡ false = sym (c.may_follow.ensures.test log tail) ∙ c.if-may_follow.false in
    let is_other : 1 - c.args.tail.now.slot ≡ other log.slot = ap other (sym tail.in_slot) in
    subst (λ (b : Bool). IsTail c.in_ok-tail.field-0.slot c.in_ok-tail.field-0.next (cond b (grown log c.args.delta.now) (begun (other log.slot) (c.args.generation, c.args.body.now)))) (sym none)
    (subst (λ (k : ℕ). IsTail c.in_ok-tail.field-0.slot c.in_ok-tail.field-0.next (begun k (c.args.generation, c.args.body.now))) is_other c.in_ok-tail.ensures.tail)
