use Rattle.std.proofs.Common.{◌≡◌, ℕ, true, is_some, option_copied, Option, Some, None, refl, sym, ◌∙◌, ap, subst}
use Rattle.st_poolrec.specs.declared.record.PoolRec.{PoolRec}
use Rattle.st_model.specs.declared.call.Call.{Call}
use Rattle.st_model.specs.declared.call.Call.TheVariants.{DestroyPool}
use Rattle.st_model.specs.declared.info.PoolInfo.{PoolInfo}
use Rattle.st_model.specs.declared.info.ShownMode.TheVariants as shows
use Rattle.st_rack.specs.Device.{held}
use Rattle.st_rack.specs.Moments.{Keeps}
use Rattle.st_books.specs.Survived.{Survived, IsEither, unless_gone}
use Rattle.st_books.specs.Ready.{rows_of, stood, stood_next}
use Rattle.st_pool.specs.declared.ending.Ending.{Ending}
use Rattle.st_pool.specs.declared.reply.PoolReply.{PoolReply}
use Rattle.st_pool.specs.Answered.{counted, failed}
use Rattle.st_pool.specs.Ends.{IsGone}
use Rattle.st_pool.specs.View.{PoolView, view_of}
use Rattle.st_pool.specs.Known.{IsPool}
use Rattle.st_pool.specs.Runs.{Runs, never_low}
use Rattle.st_pool.specs.inner.Plans.{refusal}
use Rattle.st_pool.specs.inner.Endings.{IsReady}
use Rattle.st_pool.proofs.Commits.{shown_bare, up_so, on_rows, there_rows, up_last, pool_moved, view_moved}
use Rattle.st_pool.proofs.NextCommit.{up_may}
use Rattle.st_pool.proofs.Running.{up_of}
use Rattle.st_pool.proofs.EndEnds.{end_answered, end_failed, end_gone, end_refused, ended_down}
use Rattle.st_pool.proofs.pool.Pool.end.Goals as goal

pub ready-requires-clause-may : goal.ready-requires-clause-may
ready-requires-clause-may g c =
    let x = c.self.inside in
    let B = g.R.Rack.devs in
    let M = g.R.Rack.moment in
    let S = g.R.Rack.state_at in
    let F = g.R.Rack.faults in
    let inv = c.self.invariant in
    λ e. up_may x.books _ _ (up_of B M S F x.books x.flight x.devs x.shown x.spare x.rack x.seen.value x.faults inv (sym c.as_ref.ensures.value ∙ e))

pub ready-requires-clause-bare : goal.ready-requires-clause-bare
ready-requires-clause-bare g c =
    let x = c.self.inside in
    let B = g.R.Rack.devs in
    let M = g.R.Rack.moment in
    let S = g.R.Rack.state_at in
    let F = g.R.Rack.faults in
    let inv = c.self.invariant in
    ap (λ (i : PoolInfo). i.filesystems) c.value.ensures ∙ shown_bare B M S F x.books x.devs x.shown x.spare x.rack x.seen.value x.faults x.flight inv

pub commit_next-requires-clause-ready : goal.commit_next-requires-clause-ready
commit_next-requires-clause-ready g c =
    let x = c.self.inside in
    let B = g.R.Rack.devs in
    let M = g.R.Rack.moment in
    let S = g.R.Rack.state_at in
    let F = g.R.Rack.faults in
    let inv = c.self.invariant in
    let planned = subst (λ (r : Ending). IsReady x.books (option_copied c.as_ref.result) c.value.result.now r) c.in-Ok-Planned.field-0-is c.in-Ok-Planned.ensures in
    let none : refusal x.books x.flight ≡ None = ap (λ (f : Option Call). refusal x.books f) (sym c.as_ref.ensures.value) ∙ planned.0 in
    (up_so B M S F x.books x.devs x.shown x.spare x.rack x.seen.value x.faults x.flight inv none).ready

pub commit_next-requires-clause-alive : goal.commit_next-requires-clause-alive
commit_next-requires-clause-alive g c =
    let x = c.self.inside in
    let B = g.R.Rack.devs in
    let M = g.R.Rack.moment in
    let S = g.R.Rack.state_at in
    let F = g.R.Rack.faults in
    let inv = c.self.invariant in
    let planned = subst (λ (r : Ending). IsReady x.books (option_copied c.as_ref.result) c.value.result.now r) c.in-Ok-Planned.field-0-is c.in-Ok-Planned.ensures in
    let none : refusal x.books x.flight ≡ None = ap (λ (f : Option Call). refusal x.books f) (sym c.as_ref.ensures.value) ∙ planned.0 in
    (up_so B M S F x.books x.devs x.shown x.spare x.rack x.seen.value x.faults x.flight inv none).alive

pub commit_next-requires-clause-next : goal.commit_next-requires-clause-next
commit_next-requires-clause-next g c =
    let x = c.self.inside in
    let B = g.R.Rack.devs in
    let M = g.R.Rack.moment in
    let S = g.R.Rack.state_at in
    let F = g.R.Rack.faults in
    let inv = c.self.invariant in
    let planned = subst (λ (r : Ending). IsReady x.books (option_copied c.as_ref.result) c.value.result.now r) c.in-Ok-Planned.field-0-is c.in-Ok-Planned.ensures in
    let none : refusal x.books x.flight ≡ None = ap (λ (f : Option Call). refusal x.books f) (sym c.as_ref.ensures.value) ∙ planned.0 in
    planned.1.next

pub commit_next-requires-clause-on : goal.commit_next-requires-clause-on
commit_next-requires-clause-on g c =
    let x = c.self.inside in
    let B = g.R.Rack.devs in
    let M = g.R.Rack.moment in
    let S = g.R.Rack.state_at in
    let F = g.R.Rack.faults in
    let inv = c.self.invariant in
    let planned = subst (λ (r : Ending). IsReady x.books (option_copied c.as_ref.result) c.value.result.now r) c.in-Ok-Planned.field-0-is c.in-Ok-Planned.ensures in
    let none : refusal x.books x.flight ≡ None = ap (λ (f : Option Call). refusal x.books f) (sym c.as_ref.ensures.value) ∙ planned.0 in
    on_rows B M S F x.books x.devs x.shown x.spare x.rack x.seen.value x.faults x.flight inv none

pub commit_next-requires-clause-there : goal.commit_next-requires-clause-there
commit_next-requires-clause-there g c =
    let x = c.self.inside in
    let B = g.R.Rack.devs in
    let M = g.R.Rack.moment in
    let S = g.R.Rack.state_at in
    let F = g.R.Rack.faults in
    let inv = c.self.invariant in
    let planned = subst (λ (r : Ending). IsReady x.books (option_copied c.as_ref.result) c.value.result.now r) c.in-Ok-Planned.field-0-is c.in-Ok-Planned.ensures in
    let none : refusal x.books x.flight ≡ None = ap (λ (f : Option Call). refusal x.books f) (sym c.as_ref.ensures.value) ∙ planned.0 in
    there_rows B M S F x.books x.devs x.shown x.spare x.rack x.seen.value x.faults x.flight inv none

pub commit_next-requires-clause-last : goal.commit_next-requires-clause-last
commit_next-requires-clause-last g c =
    let x = c.self.inside in
    let B = g.R.Rack.devs in
    let M = g.R.Rack.moment in
    let S = g.R.Rack.state_at in
    let F = g.R.Rack.faults in
    let inv = c.self.invariant in
    let planned = subst (λ (r : Ending). IsReady x.books (option_copied c.as_ref.result) c.value.result.now r) c.in-Ok-Planned.field-0-is c.in-Ok-Planned.ensures in
    let none : refusal x.books x.flight ≡ None = ap (λ (f : Option Call). refusal x.books f) (sym c.as_ref.ensures.value) ∙ planned.0 in
    up_last B M S F x.books x.devs x.shown x.spare x.rack x.seen.value x.faults x.flight inv none

pub same-self : goal.same-self
same-self g c = refl

pub same-self-in-Ok-Answered : goal.same-self-in-Ok-Answered
same-self-in-Ok-Answered g c = refl

pub same-devs : goal.same-devs
same-devs g c = refl

pub invariant_of-result : goal.invariant_of-result
invariant_of-result g c =
    let x = c.self.inside in
    let B = g.R.Rack.devs in
    let M = g.R.Rack.moment in
    let S = g.R.Rack.state_at in
    let F = g.R.Rack.faults in
    let inv = c.self.invariant in
    let planned = subst (λ (r : Ending). IsReady x.books (option_copied c.as_ref.result) c.value.result.now r) c.in-Ok-Planned.field-0-is c.in-Ok-Planned.ensures in
    let none : refusal x.books x.flight ≡ None = ap (λ (f : Option Call). refusal x.books f) (sym c.as_ref.ensures.value) ∙ planned.0 in
    let r1 = c.commit_next.new.rack in
    let m0 = held (S x.rack (M x.rack)) in
    let b1 = c.commit_next.new.books in
    let plan = c.in-Ok-Planned.plan in
    let during = subst (λ (r : PoolRec). Keeps M S (Survived x.books.rec.serial (rows_of x.books.rec) (IsEither (stood x.books m0) (unless_gone r (stood_next x.books r m0)))) x.rack r1) planned.1.rec_is c.commit_next.ensures.during in
    let lowered = ap (λ (i : PoolInfo). record i { mode = shows.Down }) c.value.ensures in
    let down = pool_moved B M S F x.books x.devs plan.down.own (Some plan.down.spare) r1 x.seen.value (counted true x.faults) b1 c.in-Err-commit_next.ensures.rec_before c.in-Err-commit_next.ensures.flex_before c.in-Err-commit_next.ensures.generation_before (DestroyPool x.books.rec.name) (ended_down B M S F x.books x.devs x.shown x.spare x.rack x.seen.value x.faults r1 c.commit_next.ensures.devs during c.in-Err-commit_next.ensures.cause.failed plan.down.own plan.down.spare (planned.1.down.own ∙ lowered) (planned.1.down.spare ∙ lowered) x.flight inv none) in
    subst (λ (n : ℕ). IsPool B M S F b1 (Some plan.call) x.devs plan.down.own (Some plan.down.spare) r1 x.seen.value n) (sym c.saturating_add.ensures)
    (subst (λ (q : Call). IsPool B M S F b1 (Some q) x.devs plan.down.own (Some plan.down.spare) r1 x.seen.value (counted true x.faults)) (sym planned.1.call_is) down)

pub returns-in-Err-clause-gone : goal.returns-in-Err-clause-gone
returns-in-Err-clause-gone g c =
    λ rack e. absurd (cc)

pub returns-in-Err-clause-broken : goal.returns-in-Err-clause-broken
returns-in-Err-clause-broken g c =
    λ pool e. absurd (cc)

pub returns-in-Ok-Answered-clause-gone : goal.returns-in-Ok-Answered-clause-gone
returns-in-Ok-Answered-clause-gone g c =
    λ rack e. absurd (cc)

pub returns-in-Ok-Answered-clause-broken : goal.returns-in-Ok-Answered-clause-broken
returns-in-Ok-Answered-clause-broken g c =
    λ pool e. absurd (cc)

pub returns-in-Ok-clause-kept : goal.returns-in-Ok-clause-kept
returns-in-Ok-clause-kept g c =
    λ pool answer e. absurd (cc)

pub returns-in-Ok-clause-broken : goal.returns-in-Ok-clause-broken
returns-in-Ok-clause-broken g c =
    λ pool e. absurd (cc)

pub returns-in-Err-commit_next-clause-gone : goal.returns-in-Err-commit_next-clause-gone
returns-in-Err-commit_next-clause-gone g c =
    λ rack e. absurd (cc)

pub returns-in-Err-commit_next-clause-kept : goal.returns-in-Err-commit_next-clause-kept
returns-in-Err-commit_next-clause-kept g c =
    λ pool answer e. absurd (cc)

pub returns-in-Err-clause-kept : goal.returns-in-Err-clause-kept
returns-in-Err-clause-kept g c =
    let x = c.self.inside in
    let B = g.R.Rack.devs in
    let M = g.R.Rack.moment in
    let S = g.R.Rack.state_at in
    let F = g.R.Rack.faults in
    let inv = c.self.invariant in
    λ pool answer e.
    let same : (view_of M S x.books x.flight (is_some x.spare) x.rack x.seen.value x.faults) ≡ pool = cc in
    let told : c.no_memory.result ≡ answer = cc in (
      subst (λ (v : PoolView _). Runs B M S F never_low (DestroyPool v.pool.name) v answer pool) c.self.view_is
          (subst (λ (v : PoolView _). Runs B M S F never_low (DestroyPool x.books.rec.name) (view_of M S x.books x.flight (is_some x.spare) x.rack x.seen.value x.faults) answer v) same
          (subst (λ (a : PoolReply). Runs B M S F never_low (DestroyPool x.books.rec.name) (view_of M S x.books x.flight (is_some x.spare) x.rack x.seen.value x.faults) a (view_of M S x.books x.flight (is_some x.spare) x.rack x.seen.value x.faults)) (sym c.no_memory.ensures ∙ told) (end_refused B M S F x.books x.devs x.shown x.spare x.rack x.seen.value x.faults x.flight inv))),
      sym same ∙ c.self.view_is,
    )

pub returns-in-Ok-Answered-clause-kept : goal.returns-in-Ok-Answered-clause-kept
returns-in-Ok-Answered-clause-kept g c =
    let x = c.self.inside in
    let B = g.R.Rack.devs in
    let M = g.R.Rack.moment in
    let S = g.R.Rack.state_at in
    let F = g.R.Rack.faults in
    let inv = c.self.invariant in
    let told = subst (λ (r : Ending). IsReady x.books (option_copied c.as_ref.result) c.value.result.now r) c.in-Ok-Answered.field-0-is c.in-Ok-Answered.ensures in
    let runs = end_answered B M S F x.books x.devs x.shown x.spare x.rack x.seen.value x.faults x.flight inv told.0 (ap (λ (f : Option Call). refusal x.books f) (sym c.as_ref.ensures.value) ∙ told.1) in
    λ pool answer e.
    let same : (view_of M S x.books x.flight (is_some x.spare) x.rack x.seen.value x.faults) ≡ pool = cc in
    let as_told : c.in-Ok-Answered.answer ≡ answer = cc in (
      subst (λ (v : PoolView _). Runs B M S F never_low (DestroyPool v.pool.name) v answer pool) c.self.view_is
          (subst (λ (v : PoolView _). Runs B M S F never_low (DestroyPool x.books.rec.name) (view_of M S x.books x.flight (is_some x.spare) x.rack x.seen.value x.faults) answer v) same
          (subst (λ (a : PoolReply). Runs B M S F never_low (DestroyPool x.books.rec.name) (view_of M S x.books x.flight (is_some x.spare) x.rack x.seen.value x.faults) a (view_of M S x.books x.flight (is_some x.spare) x.rack x.seen.value x.faults)) (sym told.2 ∙ as_told) runs)),
      sym same ∙ c.self.view_is,
    )

pub returns-in-Ok-clause-gone : goal.returns-in-Ok-clause-gone
returns-in-Ok-clause-gone g c =
    let x = c.self.inside in
    let B = g.R.Rack.devs in
    let M = g.R.Rack.moment in
    let S = g.R.Rack.state_at in
    let F = g.R.Rack.faults in
    let inv = c.self.invariant in
    let planned = subst (λ (r : Ending). IsReady x.books (option_copied c.as_ref.result) c.value.result.now r) c.in-Ok-Planned.field-0-is c.in-Ok-Planned.ensures in
    let none : refusal x.books x.flight ≡ None = ap (λ (f : Option Call). refusal x.books f) (sym c.as_ref.ensures.value) ∙ planned.0 in
    let r1 = c.commit_next.new.rack in
    let m0 = held (S x.rack (M x.rack)) in
    let b1 = c.commit_next.new.books in
    let plan = c.in-Ok-Planned.plan in
    let during = subst (λ (r : PoolRec). Keeps M S (Survived x.books.rec.serial (rows_of x.books.rec) (IsEither (stood x.books m0) (unless_gone r (stood_next x.books r m0)))) x.rack r1) planned.1.rec_is c.commit_next.ensures.during in
    let gone = end_gone B M S F x.books x.devs x.shown x.spare x.rack x.seen.value x.faults r1 c.commit_next.ensures.devs during c.commit_next.ensures.cause.later b1 c.in-Ok.ensures.done.0 (c.in-Ok.ensures.rec ∙ planned.1.rec_is) c.in-Ok.ensures.generation c.in-Ok.ensures.borne_before c.in-Ok.ensures.settled x.flight inv none in
    λ rack e.
    let same : r1 ≡ rack = cc in
    subst (λ (v : PoolView _). IsGone B M S F v rack) c.self.view_is (subst (λ (r : _). IsGone B M S F (view_of M S x.books x.flight (is_some x.spare) x.rack x.seen.value x.faults) r) same gone)

pub returns-in-Err-commit_next-clause-broken : goal.returns-in-Err-commit_next-clause-broken
returns-in-Err-commit_next-clause-broken g c =
    let x = c.self.inside in
    let B = g.R.Rack.devs in
    let M = g.R.Rack.moment in
    let S = g.R.Rack.state_at in
    let F = g.R.Rack.faults in
    let inv = c.self.invariant in
    let planned = subst (λ (r : Ending). IsReady x.books (option_copied c.as_ref.result) c.value.result.now r) c.in-Ok-Planned.field-0-is c.in-Ok-Planned.ensures in
    let none : refusal x.books x.flight ≡ None = ap (λ (f : Option Call). refusal x.books f) (sym c.as_ref.ensures.value) ∙ planned.0 in
    let r1 = c.commit_next.new.rack in
    let m0 = held (S x.rack (M x.rack)) in
    let b1 = c.commit_next.new.books in
    let plan = c.in-Ok-Planned.plan in
    let during = subst (λ (r : PoolRec). Keeps M S (Survived x.books.rec.serial (rows_of x.books.rec) (IsEither (stood x.books m0) (unless_gone r (stood_next x.books r m0)))) x.rack r1) planned.1.rec_is c.commit_next.ensures.during in
    let lowered = ap (λ (i : PoolInfo). record i { mode = shows.Down }) c.value.ensures in
    let runs = end_failed B M S F x.books x.devs x.shown x.spare x.rack x.seen.value x.faults r1 c.commit_next.ensures.devs during c.in-Err-commit_next.ensures.cause.failed plan.down.own plan.down.spare (planned.1.down.own ∙ lowered) (planned.1.down.spare ∙ lowered) x.flight inv none in
    let view = view_moved B M S F x.books x.devs plan.down.own (Some plan.down.spare) r1 x.seen.value (counted true x.faults) b1 c.in-Err-commit_next.ensures.rec_before c.in-Err-commit_next.ensures.flex_before c.in-Err-commit_next.ensures.generation_before (DestroyPool x.books.rec.name) true in
    let now =
    subst (λ (n : ℕ). Runs B M S F never_low (DestroyPool x.books.rec.name) (view_of M S x.books x.flight (is_some x.spare) x.rack x.seen.value x.faults) failed (view_of M S b1 (Some plan.call) true r1 x.seen.value n)) (sym c.saturating_add.ensures)
    (subst (λ (q : Call). Runs B M S F never_low (DestroyPool x.books.rec.name) (view_of M S x.books x.flight (is_some x.spare) x.rack x.seen.value x.faults) failed (view_of M S b1 (Some q) true r1 x.seen.value (counted true x.faults))) (sym planned.1.call_is)
    (subst (λ (v : PoolView _). Runs B M S F never_low (DestroyPool x.books.rec.name) (view_of M S x.books x.flight (is_some x.spare) x.rack x.seen.value x.faults) failed v) view runs)) in
    λ pool e.
    let same : (view_of M S b1 (Some plan.call) true r1 x.seen.value c.saturating_add.result) ≡ pool = cc in
    subst (λ (v : PoolView _). Runs B M S F never_low (DestroyPool v.pool.name) v failed pool) c.self.view_is (subst (λ (v : PoolView _). Runs B M S F never_low (DestroyPool x.books.rec.name) (view_of M S x.books x.flight (is_some x.spare) x.rack x.seen.value x.faults) failed v) same now)
