use Rattle.std.proofs.Common.{◌≡◌, ℕ, ◌≤◌, ◌^◌, true, is_some, List, Option, Some, None, refl, sym, ◌∙◌, ap, subst}
use Rattle.st_units.specs.declared.cause.Cause.TheVariants.{DeviceFault}
use Rattle.st_model.specs.declared.call.Call.{Call}
use Rattle.st_model.specs.declared.call.Call.TheVariants.{CreatePool}
use Rattle.st_model.specs.declared.entry.Env.TheVariants.{FaultWrite, Plain}
use Rattle.st_model.specs.declared.info.PoolInfo.{PoolInfo}
use Rattle.st_model.specs.Answer.{refused}
use Rattle.st_rack.specs.Device.{Path}
use Rattle.st_rack.specs.Moments.{Keeps}
use Rattle.st_image.specs.Bears.{paths}
use Rattle.st_books.specs.declared.books.Books.{Books}
use Rattle.st_books.specs.Ready.{AreReady, AreThere, rows_of}
use Rattle.st_books.specs.Survived.{Survived}
use Rattle.st_making.specs.First.{first_books}
use Rattle.st_making.specs.Made.{AreFree, IsMade, made}
use Rattle.st_pool.specs.Known.{IsPool}
use Rattle.st_pool.specs.Makes.{Makes}
use Rattle.st_pool.specs.View.{PoolView, view_of}
use Rattle.st_pool.specs.inner.Makings.{broken_books, new_rows}
use Rattle.st_pool.proofs.Creating.{created}
use Rattle.st_pool.proofs.Makings.{makes_broken, makes_ready, pool_broken, pool_made}
use Rattle.st_pool.proofs.NewRows.{are_rows, are_small, free_new, paths_new, there_new}
use Rattle.st_pool.specs.declared.made.Made.TheVariants.{Broken, Ready}
use Rattle.st_pool.proofs.pool.Pool.make.Goals as goal

same_pool : {D : Type 0} (v p : PoolView D) → Ready v ≡ Ready p → v ≡ p
same_pool v p e = cc

broken_pool : {D : Type 0} (v p : PoolView D) → Broken v ≡ Broken p → v ≡ p
broken_pool v p e = cc

pub ready-requires-clause-rows : goal.ready-requires-clause-rows
ready-requires-clause-rows g c =
    let B = g.R.Rack.devs in
    let M = g.R.Rack.moment in
    let S = g.R.Rack.state_at in
    let F = g.R.Rack.faults in
    let p = c.args.serial in
    let name = c.args.name in
    let list = c.args.devs in
    let r0 = c.args.rack in
    let may = c.requires.may in
    let rows = new_rows (B r0) list in
    are_rows (B r0) p list (S r0 (M r0)) may

pub ready-requires-clause-small : goal.ready-requires-clause-small
ready-requires-clause-small g c =
    let B = g.R.Rack.devs in
    let M = g.R.Rack.moment in
    let S = g.R.Rack.state_at in
    let F = g.R.Rack.faults in
    let p = c.args.serial in
    let name = c.args.name in
    let list = c.args.devs in
    let r0 = c.args.rack in
    let may = c.requires.may in
    let rows = new_rows (B r0) list in
    are_small (B r0) p list (S r0 (M r0)) may

pub same-devs : goal.same-devs
same-devs g c =
    refl

pub returns-in-Err-clause-ready : goal.returns-in-Err-clause-ready
returns-in-Err-clause-ready g c =
    λ pool e. absurd (cc)

pub returns-in-Err-clause-broken : goal.returns-in-Err-clause-broken
returns-in-Err-clause-broken g c =
    λ pool e. absurd (cc)

pub returns-in-Err-clause-refused : goal.returns-in-Err-clause-refused
returns-in-Err-clause-refused g c =
    λ back e. (let same : c.args.rack ≡ back = cc in sym same)

pub make-requires-clause-new : goal.make-requires-clause-new
make-requires-clause-new g c =
    let B = g.R.Rack.devs in
    let M = g.R.Rack.moment in
    let S = g.R.Rack.state_at in
    let F = g.R.Rack.faults in
    let p = c.args.serial in
    let name = c.args.name in
    let list = c.args.devs in
    let r0 = c.args.rack in
    let may = c.requires.may in
    let rows = new_rows (B r0) list in
    let plan = c.in-Ok.ensures in
    let books_are = plan.begun.books in
    plan.begun.new

pub make-requires-clause-first : goal.make-requires-clause-first
make-requires-clause-first g c =
    let B = g.R.Rack.devs in
    let M = g.R.Rack.moment in
    let S = g.R.Rack.state_at in
    let F = g.R.Rack.faults in
    let p = c.args.serial in
    let name = c.args.name in
    let list = c.args.devs in
    let r0 = c.args.rack in
    let may = c.requires.may in
    let rows = new_rows (B r0) list in
    let plan = c.in-Ok.ensures in
    let books_are = plan.begun.books in
    plan.begun.first

pub make-requires-clause-on : goal.make-requires-clause-on
make-requires-clause-on g c =
    let B = g.R.Rack.devs in
    let M = g.R.Rack.moment in
    let S = g.R.Rack.state_at in
    let F = g.R.Rack.faults in
    let p = c.args.serial in
    let name = c.args.name in
    let list = c.args.devs in
    let r0 = c.args.rack in
    let may = c.requires.may in
    let rows = new_rows (B r0) list in
    let plan = c.in-Ok.ensures in
    let books_are = plan.begun.books in
    ap (λ (b : Books). paths (rows_of b.rec)) books_are ∙ paths_new (B r0) list

pub make-requires-clause-there : goal.make-requires-clause-there
make-requires-clause-there g c =
    let B = g.R.Rack.devs in
    let M = g.R.Rack.moment in
    let S = g.R.Rack.state_at in
    let F = g.R.Rack.faults in
    let p = c.args.serial in
    let name = c.args.name in
    let list = c.args.devs in
    let r0 = c.args.rack in
    let may = c.requires.may in
    let rows = new_rows (B r0) list in
    let plan = c.in-Ok.ensures in
    let books_are = plan.begun.books in
    subst (λ (b : Books). AreThere (B r0) (rows_of b.rec)) (sym books_are) (there_new (B r0) p list (S r0 (M r0)) may)

pub make-requires-clause-free : goal.make-requires-clause-free
make-requires-clause-free g c =
    let B = g.R.Rack.devs in
    let M = g.R.Rack.moment in
    let S = g.R.Rack.state_at in
    let F = g.R.Rack.faults in
    let p = c.args.serial in
    let name = c.args.name in
    let list = c.args.devs in
    let r0 = c.args.rack in
    let may = c.requires.may in
    let rows = new_rows (B r0) list in
    let plan = c.in-Ok.ensures in
    let books_are = plan.begun.books in
    subst (λ (b : Books). AreFree b.rec.serial (rows_of b.rec) (S r0 (M r0))) (sym books_are) (free_new (B r0) p list (S r0 (M r0)) may)

pub standing-requires : goal.standing-requires
standing-requires g c =
    let B = g.R.Rack.devs in
    let M = g.R.Rack.moment in
    let S = g.R.Rack.state_at in
    let F = g.R.Rack.faults in
    let p = c.args.serial in
    let name = c.args.name in
    let list = c.args.devs in
    let r0 = c.args.rack in
    let may = c.requires.may in
    let rows = new_rows (B r0) list in
    let plan = c.in-Ok.ensures in
    let books_are = plan.begun.books in
    let first = subst (λ (b : Books). 1 ≤ b.rec.serial) books_are plan.begun.new.from in
    let last = subst (λ (b : Books). b.rec.serial ≤ 2 ^ 48) books_are plan.begun.new.until in
    let r1 = c.make.new.rack in
    let same = c.make.ensures.devs in
    let during = subst (λ (b : Books). Keeps M S (Survived b.rec.serial (rows_of b.rec) (IsMade (made b.rec))) r0 r1) books_are c.make.ensures.during in
    let ready = subst (λ (b : Books). AreReady b (S r1 (M r1))) books_are c.in-Ok-make.ensures.done in
    let settled = c.in-Ok-make.ensures.settled in
    let own = c.in-Ok.plan.begun.infos.own in
    let other = c.in-Ok.plan.begun.infos.spare in
    subst (λ (b : Books). IsPool B M S F b None list own (Some other) r1 r1 0) (sym books_are)
    (pool_made B M S F p name list r0 may first last r1 same ready settled own other plan.begun.infos.own plan.begun.infos.spare)

pub standing-requires-in-Err-make : goal.standing-requires-in-Err-make
standing-requires-in-Err-make g c =
    let B = g.R.Rack.devs in
    let M = g.R.Rack.moment in
    let S = g.R.Rack.state_at in
    let F = g.R.Rack.faults in
    let p = c.args.serial in
    let name = c.args.name in
    let list = c.args.devs in
    let r0 = c.args.rack in
    let may = c.requires.may in
    let rows = new_rows (B r0) list in
    let plan = c.in-Ok.ensures in
    let books_are = plan.begun.books in
    let first = subst (λ (b : Books). 1 ≤ b.rec.serial) books_are plan.begun.new.from in
    let last = subst (λ (b : Books). b.rec.serial ≤ 2 ^ 48) books_are plan.begun.new.until in
    let r1 = c.make.new.rack in
    let same = c.make.ensures.devs in
    let during = subst (λ (b : Books). Keeps M S (Survived b.rec.serial (rows_of b.rec) (IsMade (made b.rec))) r0 r1) books_are c.make.ensures.during in
    let down = plan.broken in
    let rose = c.in-Err-make.ensures.cause.failed in
    subst (λ (x : Books × Call). IsPool B M S F x.0 (Some x.1) list c.in-Ok.plan.broken.infos.own (Some c.in-Ok.plan.broken.infos.spare) r1 r1 1) (λ i. (sym down.books i, sym down.call i))
    (pool_broken B M S F p name list r0 may first last r1 same during rose c.in-Ok.plan.broken.infos.own c.in-Ok.plan.broken.infos.spare down.infos.own down.infos.spare)

pub returns-in-Ok-make-clause-ready : goal.returns-in-Ok-make-clause-ready
returns-in-Ok-make-clause-ready g c =
    let B = g.R.Rack.devs in
    let M = g.R.Rack.moment in
    let S = g.R.Rack.state_at in
    let F = g.R.Rack.faults in
    let p = c.args.serial in
    let name = c.args.name in
    let list = c.args.devs in
    let r0 = c.args.rack in
    let may = c.requires.may in
    let rows = new_rows (B r0) list in
    let plan = c.in-Ok.ensures in
    let books_are = plan.begun.books in
    let first = subst (λ (b : Books). 1 ≤ b.rec.serial) books_are plan.begun.new.from in
    let last = subst (λ (b : Books). b.rec.serial ≤ 2 ^ 48) books_are plan.begun.new.until in
    let r1 = c.make.new.rack in
    let same = c.make.ensures.devs in
    let during = subst (λ (b : Books). Keeps M S (Survived b.rec.serial (rows_of b.rec) (IsMade (made b.rec))) r0 r1) books_are c.make.ensures.during in
    let ready = subst (λ (b : Books). AreReady b (S r1 (M r1))) books_are c.in-Ok-make.ensures.done in
    let settled = c.in-Ok-make.ensures.settled in
    let own = c.in-Ok.plan.begun.infos.own in
    let other = c.in-Ok.plan.begun.infos.spare in
    let makes =
    subst (λ (b : Books). Makes B M S F p name list Plain (created p list) r0 (view_of M S b None true r1 r1 0)) (sym books_are)
    (makes_ready B M S F p name list r0 may first last r1 same ready settled own other plan.begun.infos.own plan.begun.infos.spare during) in
    λ pool e. subst (λ (v : PoolView _). Makes B M S F p name list Plain (created p list) r0 v) (sym c.standing.ensures ∙ same_pool c.standing.result pool e) makes

pub returns-in-Ok-make-clause-broken : goal.returns-in-Ok-make-clause-broken
returns-in-Ok-make-clause-broken g c =
    λ pool e. absurd (cc)

pub returns-in-Ok-make-clause-refused : goal.returns-in-Ok-make-clause-refused
returns-in-Ok-make-clause-refused g c =
    λ back e. absurd (cc)

pub returns-in-Err-make-clause-ready : goal.returns-in-Err-make-clause-ready
returns-in-Err-make-clause-ready g c =
    λ pool e. absurd (cc)

pub returns-in-Err-make-clause-broken : goal.returns-in-Err-make-clause-broken
returns-in-Err-make-clause-broken g c =
    let B = g.R.Rack.devs in
    let M = g.R.Rack.moment in
    let S = g.R.Rack.state_at in
    let F = g.R.Rack.faults in
    let p = c.args.serial in
    let name = c.args.name in
    let list = c.args.devs in
    let r0 = c.args.rack in
    let may = c.requires.may in
    let rows = new_rows (B r0) list in
    let plan = c.in-Ok.ensures in
    let books_are = plan.begun.books in
    let first = subst (λ (b : Books). 1 ≤ b.rec.serial) books_are plan.begun.new.from in
    let last = subst (λ (b : Books). b.rec.serial ≤ 2 ^ 48) books_are plan.begun.new.until in
    let r1 = c.make.new.rack in
    let same = c.make.ensures.devs in
    let during = subst (λ (b : Books). Keeps M S (Survived b.rec.serial (rows_of b.rec) (IsMade (made b.rec))) r0 r1) books_are c.make.ensures.during in
    let down = plan.broken in
    let rose = c.in-Err-make.ensures.cause.failed in
    let makes =
    subst (λ (x : Books × Call). Makes B M S F p name list FaultWrite (refused DeviceFault) r0 (view_of M S x.0 (Some x.1) true r1 r1 1)) (λ i. (sym down.books i, sym down.call i))
    (makes_broken B M S F p name list r0 may first last r1 same during rose c.in-Ok.plan.broken.infos.own c.in-Ok.plan.broken.infos.spare down.infos.own down.infos.spare) in
    λ pool e. subst (λ (v : PoolView _). Makes B M S F p name list FaultWrite (refused DeviceFault) r0 v) (sym c.standing-in-Err-make.ensures ∙ broken_pool c.standing-in-Err-make.result pool e) makes

pub returns-in-Err-make-clause-refused : goal.returns-in-Err-make-clause-refused
returns-in-Err-make-clause-refused g c =
    λ back e. absurd (cc)
