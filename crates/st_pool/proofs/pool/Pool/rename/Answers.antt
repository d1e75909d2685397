use Rattle.std.proofs.Common.{◌≡◌, ℕ, ◌+◌, ◌≤◌, ◌^◌, true, false, is_some, option_copied, Option, Some, None, refl, sym, ◌∙◌, ap, subst}
use Rattle.st_poolrec.specs.declared.record.PoolRec.{PoolRec}
use Rattle.st_model.specs.declared.call.Call.{Call}
use Rattle.st_model.specs.declared.call.Call.TheVariants.{RenamePool}
use Rattle.st_model.specs.declared.entry.Env.TheVariants.{Plain}
use Rattle.st_model.specs.declared.info.PoolInfo.{PoolInfo}
use Rattle.st_model.specs.declared.info.ShownMode.TheVariants as shows
use Rattle.st_model.specs.declared.reply.Given.TheVariants.{Changed}
use Rattle.st_model.specs.declared.reply.Identity.TheVariants.{Pool}
use Rattle.st_model.specs.Answer.{accepted}
use Rattle.st_model.specs.Look.{flight_of, gives_name}
use Rattle.st_rack.specs.Device.{held}
use Rattle.st_rack.specs.Moments.{Keeps}
use Rattle.st_image.specs.Stands.{state_of}
use Rattle.st_books.specs.Spelled.{same_flex}
use Rattle.st_books.specs.Survived.{Survived, IsEither, unless_gone}
use Rattle.st_books.specs.Ready.{rows_of, stood, stood_next}
use Rattle.st_pool.specs.declared.reply.PoolReply.{PoolReply}
use Rattle.st_pool.specs.Answered.{answered, counted, failed}
use Rattle.st_pool.specs.View.{PoolView, view_of}
use Rattle.st_pool.specs.Known.{IsPool}
use Rattle.st_pool.specs.Runs.{Runs, never_low}
use Rattle.st_pool.specs.declared.renaming.Renaming.{Renaming}
use Rattle.st_pool.specs.inner.Plans.{rename_refusal}
use Rattle.st_pool.specs.inner.Renames.{IsReady}
use Rattle.st_pool.proofs.Answering.{not_renamed}
use Rattle.st_pool.proofs.Commits.{shown_bare, up_so, on_rows, there_rows, up_last, pool_moved, view_moved}
use Rattle.st_pool.proofs.NextCommit.{up_may}
use Rattle.st_pool.proofs.Running.{up_of}
use Rattle.st_pool.proofs.RenameEnds.{rename_answered, rename_done, rename_failed, rename_refused, renamed_down, renamed_up}
use Rattle.st_pool.proofs.pool.Pool.rename.Goals as goal

pub same-self : goal.same-self
same-self g c = refl

pub same-self-in-Ok-Answered : goal.same-self-in-Ok-Answered
same-self-in-Ok-Answered g c = refl

pub ready-requires-clause-may : goal.ready-requires-clause-may
ready-requires-clause-may g c =
    let x = c.self.inside in
    let B = g.R.Rack.devs in
    let M = g.R.Rack.moment in
    let S = g.R.Rack.state_at in
    let F = g.R.Rack.faults in
    let new = c.args.new in
    let inv = c.self.invariant in
    λ e. up_may x.books _ _ (up_of B M S F x.books x.flight x.devs x.shown x.spare x.rack x.seen.value x.faults inv (sym c.as_ref.ensures.value ∙ e))

pub ready-requires-clause-bare : goal.ready-requires-clause-bare
ready-requires-clause-bare g c =
    let x = c.self.inside in
    let B = g.R.Rack.devs in
    let M = g.R.Rack.moment in
    let S = g.R.Rack.state_at in
    let F = g.R.Rack.faults in
    let new = c.args.new in
    let inv = c.self.invariant in
    ap (λ (i : PoolInfo). i.filesystems) c.value.ensures ∙ shown_bare B M S F x.books x.devs x.shown x.spare x.rack x.seen.value x.faults x.flight inv

pub returns-in-Err : goal.returns-in-Err
returns-in-Err g c =
    let x = c.self.inside in
    let B = g.R.Rack.devs in
    let M = g.R.Rack.moment in
    let S = g.R.Rack.state_at in
    let F = g.R.Rack.faults in
    let new = c.args.new in
    let inv = c.self.invariant in
    subst (λ (v : PoolView _). Runs B M S F never_low (RenamePool v.pool.name new) v c.no_memory.result v) c.self.view_is
    (subst (λ (a : PoolReply). Runs B M S F never_low (RenamePool x.books.rec.name new) (view_of M S x.books x.flight (is_some x.spare) x.rack x.seen.value x.faults) a (view_of M S x.books x.flight (is_some x.spare) x.rack x.seen.value x.faults)) (sym c.no_memory.ensures)
    (rename_refused B M S F x.books x.devs x.shown x.spare x.rack x.seen.value x.faults new x.flight inv))

pub returns-in-Ok-Answered : goal.returns-in-Ok-Answered
returns-in-Ok-Answered g c =
    let x = c.self.inside in
    let B = g.R.Rack.devs in
    let M = g.R.Rack.moment in
    let S = g.R.Rack.state_at in
    let F = g.R.Rack.faults in
    let new = c.args.new in
    let inv = c.self.invariant in
    let told = subst (λ (r : Renaming). IsReady x.books (option_copied c.as_ref.result) c.value.result.now new r) c.in-Ok-Answered.field-0-is c.in-Ok-Answered.ensures in
    let free = subst (λ (v : PoolView _). gives_name new (flight_of v.pool.mode) ≡ false) (sym c.self.view_is) c.requires.free in
    subst (λ (v : PoolView _). Runs B M S F never_low (RenamePool v.pool.name new) v c.in-Ok-Answered.answer v) c.self.view_is
    (subst (λ (a : PoolReply). Runs B M S F never_low (RenamePool x.books.rec.name new) (view_of M S x.books x.flight (is_some x.spare) x.rack x.seen.value x.faults) a (view_of M S x.books x.flight (is_some x.spare) x.rack x.seen.value x.faults)) (sym told.2)
    (rename_answered B M S F x.books x.devs x.shown x.spare x.rack x.seen.value x.faults new x.flight inv free told.0 (ap (λ (f : Option Call). rename_refusal x.books f new) (sym c.as_ref.ensures.value) ∙ told.1)))

pub commit_next-requires-clause-ready : goal.commit_next-requires-clause-ready
commit_next-requires-clause-ready g c =
    let x = c.self.inside in
    let B = g.R.Rack.devs in
    let M = g.R.Rack.moment in
    let S = g.R.Rack.state_at in
    let F = g.R.Rack.faults in
    let new = c.args.new in
    let inv = c.self.invariant in
    let planned = subst (λ (r : Renaming). IsReady x.books (option_copied c.as_ref.result) c.value.result.now new r) c.in-Ok-Planned.field-0-is c.in-Ok-Planned.ensures in
    let free : rename_refusal x.books x.flight new ≡ None = ap (λ (f : Option Call). rename_refusal x.books f new) (sym c.as_ref.ensures.value) ∙ planned.0 in
    let none = not_renamed x.books x.flight new free in
    (up_so B M S F x.books x.devs x.shown x.spare x.rack x.seen.value x.faults x.flight inv none).ready

pub commit_next-requires-clause-alive : goal.commit_next-requires-clause-alive
commit_next-requires-clause-alive g c =
    let x = c.self.inside in
    let B = g.R.Rack.devs in
    let M = g.R.Rack.moment in
    let S = g.R.Rack.state_at in
    let F = g.R.Rack.faults in
    let new = c.args.new in
    let inv = c.self.invariant in
    let planned = subst (λ (r : Renaming). IsReady x.books (option_copied c.as_ref.result) c.value.result.now new r) c.in-Ok-Planned.field-0-is c.in-Ok-Planned.ensures in
    let free : rename_refusal x.books x.flight new ≡ None = ap (λ (f : Option Call). rename_refusal x.books f new) (sym c.as_ref.ensures.value) ∙ planned.0 in
    let none = not_renamed x.books x.flight new free in
    (up_so B M S F x.books x.devs x.shown x.spare x.rack x.seen.value x.faults x.flight inv none).alive

pub commit_next-requires-clause-next : goal.commit_next-requires-clause-next
commit_next-requires-clause-next g c =
    let x = c.self.inside in
    let B = g.R.Rack.devs in
    let M = g.R.Rack.moment in
    let S = g.R.Rack.state_at in
    let F = g.R.Rack.faults in
    let new = c.args.new in
    let inv = c.self.invariant in
    let planned = subst (λ (r : Renaming). IsReady x.books (option_copied c.as_ref.result) c.value.result.now new r) c.in-Ok-Planned.field-0-is c.in-Ok-Planned.ensures in
    let free : rename_refusal x.books x.flight new ≡ None = ap (λ (f : Option Call). rename_refusal x.books f new) (sym c.as_ref.ensures.value) ∙ planned.0 in
    let none = not_renamed x.books x.flight new free in
    planned.1.next

pub commit_next-requires-clause-on : goal.commit_next-requires-clause-on
commit_next-requires-clause-on g c =
    let x = c.self.inside in
    let B = g.R.Rack.devs in
    let M = g.R.Rack.moment in
    let S = g.R.Rack.state_at in
    let F = g.R.Rack.faults in
    let new = c.args.new in
    let inv = c.self.invariant in
    let planned = subst (λ (r : Renaming). IsReady x.books (option_copied c.as_ref.result) c.value.result.now new r) c.in-Ok-Planned.field-0-is c.in-Ok-Planned.ensures in
    let free : rename_refusal x.books x.flight new ≡ None = ap (λ (f : Option Call). rename_refusal x.books f new) (sym c.as_ref.ensures.value) ∙ planned.0 in
    let none = not_renamed x.books x.flight new free in
    on_rows B M S F x.books x.devs x.shown x.spare x.rack x.seen.value x.faults x.flight inv none

pub commit_next-requires-clause-there : goal.commit_next-requires-clause-there
commit_next-requires-clause-there g c =
    let x = c.self.inside in
    let B = g.R.Rack.devs in
    let M = g.R.Rack.moment in
    let S = g.R.Rack.state_at in
    let F = g.R.Rack.faults in
    let new = c.args.new in
    let inv = c.self.invariant in
    let planned = subst (λ (r : Renaming). IsReady x.books (option_copied c.as_ref.result) c.value.result.now new r) c.in-Ok-Planned.field-0-is c.in-Ok-Planned.ensures in
    let free : rename_refusal x.books x.flight new ≡ None = ap (λ (f : Option Call). rename_refusal x.books f new) (sym c.as_ref.ensures.value) ∙ planned.0 in
    let none = not_renamed x.books x.flight new free in
    there_rows B M S F x.books x.devs x.shown x.spare x.rack x.seen.value x.faults x.flight inv none

pub commit_next-requires-clause-last : goal.commit_next-requires-clause-last
commit_next-requires-clause-last g c =
    let x = c.self.inside in
    let B = g.R.Rack.devs in
    let M = g.R.Rack.moment in
    let S = g.R.Rack.state_at in
    let F = g.R.Rack.faults in
    let new = c.args.new in
    let inv = c.self.invariant in
    let planned = subst (λ (r : Renaming). IsReady x.books (option_copied c.as_ref.result) c.value.result.now new r) c.in-Ok-Planned.field-0-is c.in-Ok-Planned.ensures in
    let free : rename_refusal x.books x.flight new ≡ None = ap (λ (f : Option Call). rename_refusal x.books f new) (sym c.as_ref.ensures.value) ∙ planned.0 in
    let none = not_renamed x.books x.flight new free in
    up_last B M S F x.books x.devs x.shown x.spare x.rack x.seen.value x.faults x.flight inv none

pub of-requires-in-Ok-clause-first : goal.of-requires-in-Ok-clause-first
of-requires-in-Ok-clause-first g c =
    let x = c.self.inside in
    let B = g.R.Rack.devs in
    let M = g.R.Rack.moment in
    let S = g.R.Rack.state_at in
    let F = g.R.Rack.faults in
    let new = c.args.new in
    let inv = c.self.invariant in
    let planned = subst (λ (r : Renaming). IsReady x.books (option_copied c.as_ref.result) c.value.result.now new r) c.in-Ok-Planned.field-0-is c.in-Ok-Planned.ensures in
    let free : rename_refusal x.books x.flight new ≡ None = ap (λ (f : Option Call). rename_refusal x.books f new) (sym c.as_ref.ensures.value) ∙ planned.0 in
    let none = not_renamed x.books x.flight new free in
    subst (λ (r : PoolRec). 1 ≤ r.serial) (sym (c.in-Ok.ensures.rec ∙ planned.1.rec_is)) inv.serial.from

pub of-requires-in-Ok-clause-last : goal.of-requires-in-Ok-clause-last
of-requires-in-Ok-clause-last g c =
    let x = c.self.inside in
    let B = g.R.Rack.devs in
    let M = g.R.Rack.moment in
    let S = g.R.Rack.state_at in
    let F = g.R.Rack.faults in
    let new = c.args.new in
    let inv = c.self.invariant in
    let planned = subst (λ (r : Renaming). IsReady x.books (option_copied c.as_ref.result) c.value.result.now new r) c.in-Ok-Planned.field-0-is c.in-Ok-Planned.ensures in
    let free : rename_refusal x.books x.flight new ≡ None = ap (λ (f : Option Call). rename_refusal x.books f new) (sym c.as_ref.ensures.value) ∙ planned.0 in
    let none = not_renamed x.books x.flight new free in
    subst (λ (r : PoolRec). r.serial ≤ 2 ^ 48) (sym (c.in-Ok.ensures.rec ∙ planned.1.rec_is)) inv.serial.until

pub invariant_of-self : goal.invariant_of-self
invariant_of-self g c =
    let x = c.self.inside in
    let B = g.R.Rack.devs in
    let M = g.R.Rack.moment in
    let S = g.R.Rack.state_at in
    let F = g.R.Rack.faults in
    let new = c.args.new in
    let inv = c.self.invariant in
    let planned = subst (λ (r : Renaming). IsReady x.books (option_copied c.as_ref.result) c.value.result.now new r) c.in-Ok-Planned.field-0-is c.in-Ok-Planned.ensures in
    let free : rename_refusal x.books x.flight new ≡ None = ap (λ (f : Option Call). rename_refusal x.books f new) (sym c.as_ref.ensures.value) ∙ planned.0 in
    let none = not_renamed x.books x.flight new free in
    let r1 = c.commit_next.new.rack in
    let m0 = held (S x.rack (M x.rack)) in
    let during = subst (λ (r : PoolRec). Keeps M S (Survived x.books.rec.serial (rows_of x.books.rec) (IsEither (stood x.books m0) (unless_gone r (stood_next x.books r m0)))) x.rack r1) planned.1.rec_is c.commit_next.ensures.during in
    let b1 = c.commit_next.new.books in
    let rec_is = c.in-Ok.ensures.rec ∙ planned.1.rec_is in
    let state_is = c.in-Ok.ensures.done.1 ∙ ap (λ (r : PoolRec). state_of (x.books.generation + 1) r (same_flex x.books.flex) m0) planned.1.rec_is in
    let named = ap (λ (i : PoolInfo). record i { name = new }) c.value.ensures in
    subst (λ (r : _). IsPool B M S F b1 x.flight x.devs c.in-Ok-Planned.done.own (Some c.in-Ok-Planned.done.spare) r1 r x.faults) (sym c.of.ensures)
    (renamed_up B M S F x.books x.devs x.shown x.spare x.rack x.seen.value x.faults new r1 c.commit_next.ensures.devs during c.commit_next.ensures.cause.later b1 c.in-Ok.ensures.done.0 c.in-Ok.ensures.settled rec_is c.in-Ok.ensures.flex state_is c.in-Ok-Planned.done.own c.in-Ok-Planned.done.spare (planned.2.own ∙ named) (planned.2.spare ∙ named) x.flight inv free)

pub returns-in-Ok : goal.returns-in-Ok
returns-in-Ok g c =
    let x = c.self.inside in
    let B = g.R.Rack.devs in
    let M = g.R.Rack.moment in
    let S = g.R.Rack.state_at in
    let F = g.R.Rack.faults in
    let new = c.args.new in
    let inv = c.self.invariant in
    let planned = subst (λ (r : Renaming). IsReady x.books (option_copied c.as_ref.result) c.value.result.now new r) c.in-Ok-Planned.field-0-is c.in-Ok-Planned.ensures in
    let free : rename_refusal x.books x.flight new ≡ None = ap (λ (f : Option Call). rename_refusal x.books f new) (sym c.as_ref.ensures.value) ∙ planned.0 in
    let none = not_renamed x.books x.flight new free in
    let r1 = c.commit_next.new.rack in
    let m0 = held (S x.rack (M x.rack)) in
    let during = subst (λ (r : PoolRec). Keeps M S (Survived x.books.rec.serial (rows_of x.books.rec) (IsEither (stood x.books m0) (unless_gone r (stood_next x.books r m0)))) x.rack r1) planned.1.rec_is c.commit_next.ensures.during in
    let b1 = c.commit_next.new.books in
    let rec_is = c.in-Ok.ensures.rec ∙ planned.1.rec_is in
    let state_is = c.in-Ok.ensures.done.1 ∙ ap (λ (r : PoolRec). state_of (x.books.generation + 1) r (same_flex x.books.flex) m0) planned.1.rec_is in
    let named = ap (λ (i : PoolInfo). record i { name = new }) c.value.ensures in
    let told = c.changed.ensures ∙ ap (λ (n : ℕ). answered Plain (accepted (Changed true (Some (Pool n))))) (c.of-in-Ok.ensures ∙ ap (λ (r : PoolRec). r.serial) rec_is) in
    subst (λ (v : PoolView _). Runs B M S F never_low (RenamePool v.pool.name new) v c.changed.result (view_of M S b1 x.flight true r1 c.of.result.value x.faults)) c.self.view_is
    (subst (λ (r : _). Runs B M S F never_low (RenamePool x.books.rec.name new) (view_of M S x.books x.flight (is_some x.spare) x.rack x.seen.value x.faults) c.changed.result (view_of M S b1 x.flight true r1 r x.faults)) (sym c.of.ensures)
    (subst (λ (a : PoolReply). Runs B M S F never_low (RenamePool x.books.rec.name new) (view_of M S x.books x.flight (is_some x.spare) x.rack x.seen.value x.faults) a (view_of M S b1 x.flight true r1 r1 x.faults)) (sym told)
    (rename_done B M S F x.books x.devs x.shown x.spare x.rack x.seen.value x.faults new r1 c.commit_next.ensures.devs during c.commit_next.ensures.cause.later b1 c.in-Ok.ensures.done.0 c.in-Ok.ensures.settled rec_is c.in-Ok.ensures.flex state_is c.in-Ok-Planned.done.own c.in-Ok-Planned.done.spare (planned.2.own ∙ named) (planned.2.spare ∙ named) x.flight inv free)))

pub invariant_of-self-in-Err-commit_next : goal.invariant_of-self-in-Err-commit_next
invariant_of-self-in-Err-commit_next g c =
    let x = c.self.inside in
    let B = g.R.Rack.devs in
    let M = g.R.Rack.moment in
    let S = g.R.Rack.state_at in
    let F = g.R.Rack.faults in
    let new = c.args.new in
    let inv = c.self.invariant in
    let planned = subst (λ (r : Renaming). IsReady x.books (option_copied c.as_ref.result) c.value.result.now new r) c.in-Ok-Planned.field-0-is c.in-Ok-Planned.ensures in
    let free : rename_refusal x.books x.flight new ≡ None = ap (λ (f : Option Call). rename_refusal x.books f new) (sym c.as_ref.ensures.value) ∙ planned.0 in
    let none = not_renamed x.books x.flight new free in
    let r1 = c.commit_next.new.rack in
    let m0 = held (S x.rack (M x.rack)) in
    let during = subst (λ (r : PoolRec). Keeps M S (Survived x.books.rec.serial (rows_of x.books.rec) (IsEither (stood x.books m0) (unless_gone r (stood_next x.books r m0)))) x.rack r1) planned.1.rec_is c.commit_next.ensures.during in
    let b1 = c.commit_next.new.books in
    let plan = c.in-Ok-Planned.plan in
    let lowered = ap (λ (i : PoolInfo). record i { mode = shows.Down }) c.value.ensures in
    let down = pool_moved B M S F x.books x.devs plan.down.own (Some plan.down.spare) r1 x.seen.value (counted true x.faults) b1 c.in-Err-commit_next.ensures.rec_before c.in-Err-commit_next.ensures.flex_before c.in-Err-commit_next.ensures.generation_before (RenamePool x.books.rec.name new) (renamed_down B M S F x.books x.devs x.shown x.spare x.rack x.seen.value x.faults new r1 c.commit_next.ensures.devs during c.in-Err-commit_next.ensures.cause.failed plan.down.own plan.down.spare (planned.1.down.own ∙ lowered) (planned.1.down.spare ∙ lowered) x.flight inv free) in
    subst (λ (n : ℕ). IsPool B M S F b1 (Some plan.call) x.devs plan.down.own (Some plan.down.spare) r1 x.seen.value n) (sym c.saturating_add-self-inside.ensures)
    (subst (λ (q : Call). IsPool B M S F b1 (Some q) x.devs plan.down.own (Some plan.down.spare) r1 x.seen.value (counted true x.faults)) (sym planned.1.call_is) down)

pub returns-in-Err-commit_next : goal.returns-in-Err-commit_next
returns-in-Err-commit_next g c =
    let x = c.self.inside in
    let B = g.R.Rack.devs in
    let M = g.R.Rack.moment in
    let S = g.R.Rack.state_at in
    let F = g.R.Rack.faults in
    let new = c.args.new in
    let inv = c.self.invariant in
    let planned = subst (λ (r : Renaming). IsReady x.books (option_copied c.as_ref.result) c.value.result.now new r) c.in-Ok-Planned.field-0-is c.in-Ok-Planned.ensures in
    let free : rename_refusal x.books x.flight new ≡ None = ap (λ (f : Option Call). rename_refusal x.books f new) (sym c.as_ref.ensures.value) ∙ planned.0 in
    let none = not_renamed x.books x.flight new free in
    let r1 = c.commit_next.new.rack in
    let m0 = held (S x.rack (M x.rack)) in
    let during = subst (λ (r : PoolRec). Keeps M S (Survived x.books.rec.serial (rows_of x.books.rec) (IsEither (stood x.books m0) (unless_gone r (stood_next x.books r m0)))) x.rack r1) planned.1.rec_is c.commit_next.ensures.during in
    let b1 = c.commit_next.new.books in
    let plan = c.in-Ok-Planned.plan in
    let lowered = ap (λ (i : PoolInfo). record i { mode = shows.Down }) c.value.ensures in
    let runs = rename_failed B M S F x.books x.devs x.shown x.spare x.rack x.seen.value x.faults new r1 c.commit_next.ensures.devs during c.in-Err-commit_next.ensures.cause.failed plan.down.own plan.down.spare (planned.1.down.own ∙ lowered) (planned.1.down.spare ∙ lowered) x.flight inv free in
    let view = view_moved B M S F x.books x.devs plan.down.own (Some plan.down.spare) r1 x.seen.value (counted true x.faults) b1 c.in-Err-commit_next.ensures.rec_before c.in-Err-commit_next.ensures.flex_before c.in-Err-commit_next.ensures.generation_before (RenamePool x.books.rec.name new) true in
    subst (λ (v : PoolView _). Runs B M S F never_low (RenamePool v.pool.name new) v c.device_fault.result (view_of M S b1 (Some plan.call) true r1 x.seen.value c.saturating_add-self-inside.result)) c.self.view_is
    (subst (λ (n : ℕ). Runs B M S F never_low (RenamePool x.books.rec.name new) (view_of M S x.books x.flight (is_some x.spare) x.rack x.seen.value x.faults) c.device_fault.result (view_of M S b1 (Some plan.call) true r1 x.seen.value n)) (sym c.saturating_add-self-inside.ensures)
    (subst (λ (q : Call). Runs B M S F never_low (RenamePool x.books.rec.name new) (view_of M S x.books x.flight (is_some x.spare) x.rack x.seen.value x.faults) c.device_fault.result (view_of M S b1 (Some q) true r1 x.seen.value (counted true x.faults))) (sym planned.1.call_is)
    (subst (λ (a : PoolReply). Runs B M S F never_low (RenamePool x.books.rec.name new) (view_of M S x.books x.flight (is_some x.spare) x.rack x.seen.value x.faults) a (view_of M S b1 (Some (RenamePool x.books.rec.name new)) true r1 x.seen.value (counted true x.faults))) (sym c.device_fault.ensures)
    (subst (λ (v : PoolView _). Runs B M S F never_low (RenamePool x.books.rec.name new) (view_of M S x.books x.flight (is_some x.spare) x.rack x.seen.value x.faults) failed v) view runs))))
