use Rattle.std.proofs.Common.{Bool, cond, ap, sym, subst, ◌∙◌}
use Rattle.st_sparse.specs.Since.{Adds}
use Rattle.st_sparse.specs.declared.kinds.Pick.{Pick}
use Rattle.st_sparse.specs.declared.kinds.Pick.TheVariants.{New}
use Rattle.st_sparse.proofs.sparse.Sparse.write.Goals as goal

pub returns-in-Ok-clause-failed : goal.returns-in-Ok-clause-failed
returns-in-Ok-clause-failed c =
    let took = c.took.ensures ∙ ap (λ (b : Bool). cond b c.args.pick New) c.if-fails.true in
    λ armed. (sym c.meet-fails.ensures.fails ∙ c.if-fails.true, subst (λ (p : Pick). Adds c.args.sector c.args.bytes.now p c.args.self.now.since.items c.tear.new.self.since.items) took c.in-Ok.ensures.taken)

pub returns-in-Ok-2-clause-done : goal.returns-in-Ok-2-clause-done
returns-in-Ok-2-clause-done c =
    let took = c.took.ensures ∙ ap (λ (b : Bool). cond b c.args.pick New) c.if-fails.false in
    (sym c.meet-fails.ensures.fails ∙ c.if-fails.false, subst (λ (p : Pick). Adds c.args.sector c.args.bytes.now p c.args.self.now.since.items c.tear.new.self.since.items) took c.in-Ok.ensures.taken)

pub returns-in-Ok-2-clause-written : goal.returns-in-Ok-2-clause-written
returns-in-Ok-2-clause-written c = c.in-Ok.ensures.written (c.took.ensures ∙ ap (λ (b : Bool). cond b c.args.pick New) c.if-fails.false)
