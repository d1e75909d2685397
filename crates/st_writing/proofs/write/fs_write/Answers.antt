use Rattle.std.proofs.Common.{rules, ◌≡◌, ◌≤◌, ℕ, List, [], ◌∷◌, length, map, Some, None, slice_get, sym, ap, ◌∙◌, subst}
use Rattle.st_model.specs.declared.reply.Given.TheVariants.{Written}
use Rattle.st_model.specs.declared.reply.Reply.{Reply}
use Rattle.st_model.specs.Answer.{accepted, first_answer}
use Rattle.st_model.specs.Checks.{fs_at}
use Rattle.st_model.specs.Content.{mapped_cells}
use Rattle.st_model.specs.InPlace.{sectors_in}
use Rattle.st_model.specs.steps.FsWrite.{bytes_in, puts, written}
use Rattle.st_writing.specs.declared.carried.Carried.{Carried}
use Rattle.st_writing.specs.declared.plan.Plan.{Plan}
use Rattle.st_writing.specs.inner.Plans.{plan_of, planned_answers}
use Rattle.st_writing.proofs.Overwriting.{answered_at, unknown, written_at}
use Rattle.st_writing.proofs.Puts.{first_same, one_long}
use Rattle.st_writing.proofs.Wanting.{few_needed, few_stretches}
use Rattle.st_writing.proofs.write.fs_write.Goals as goal

pub returns-in_default-clause-ok : goal.returns-in_default-clause-ok
returns-in_default-clause-ok c =
    ap (λ (r : Reply). (r, c.args.pool.now)) c.refused.ensures ∙ unknown c.args.name.now c.args.sector c.args.payload.now c.args.pool.now (search rules)

pub returns-in-Some-2-clause-ok : goal.returns-in-Some-2-clause-ok
returns-in-Some-2-clause-ok c =
    let p = c.args.pool.now in
    let fs = c.at-fs.result.now in
    let n = c.sectors_in-sectors.result in
    let at : fs_at c.args.name.now p.filesystems ≡ slice_get p.filesystems c.in-Some.place = search rules in
    let counted : n ≡ sectors_in c.args.payload.now = c.sectors_in-sectors.ensures in
    let made : c.in_ok-plan.plan ≡ plan_of p fs c.args.sector n = search rules in
    let said : first_answer (planned_answers c.in_ok-plan.plan fs c.args.sector n p) ≡ Some c.in-Some-2.reply = search rules in
    answered_at c.args.name.now c.args.sector c.args.payload.now p c.in-Some.place fs at c.at-fs.ensures n c.in_ok-plan.plan c.in-Some-2.reply counted made said

pub changed-requires-clause-mapped : goal.changed-requires-clause-mapped
changed-requires-clause-mapped c =
    let made : c.in_ok-plan.plan ≡ plan_of c.args.pool.now c.at-fs.result.now c.args.sector c.sectors_in-sectors.result = search rules in
    ap (λ (x : Plan). x.mapped) made

pub changed-requires-clause-few : goal.changed-requires-clause-few
changed-requires-clause-few c =
    let made : c.in_ok-plan.plan ≡ plan_of c.args.pool.now c.at-fs.result.now c.args.sector c.sectors_in-sectors.result = search rules in
    subst (λ (x : Plan). length x.stretches ≤ 2) (sym made) (few_stretches c.args.sector c.sectors_in-sectors.result)

pub changed-requires-clause-needed : goal.changed-requires-clause-needed
changed-requires-clause-needed c =
    let made : c.in_ok-plan.plan ≡ plan_of c.args.pool.now c.at-fs.result.now c.args.sector c.sectors_in-sectors.result = search rules in
    subst (λ (x : Plan). x.needed ≤ 2) (sym made) (few_needed c.args.pool.now c.at-fs.result.now c.args.sector c.sectors_in-sectors.result)

pub returns-clause-ok : goal.returns-clause-ok
returns-clause-ok c =
    let p = c.args.pool.now in
    let fs = c.at-fs.result.now in
    let n = c.sectors_in-sectors.result in
    let at : fs_at c.args.name.now p.filesystems ≡ slice_get p.filesystems c.in-Some.place = search rules in
    let counted : n ≡ sectors_in c.args.payload.now = c.sectors_in-sectors.ensures in
    let made : c.in_ok-plan.plan ≡ plan_of p fs c.args.sector n = search rules in
    let none : first_answer (planned_answers c.in_ok-plan.plan fs c.args.sector n p) ≡ None = search rules in
    let pools : map (λ (x : Carried). x.pool) c.in_ok-after.after ≡ written fs (puts p fs p.next_cell (bytes_in c.args.payload.now) c.in_ok-plan.plan.stretches) c.in_ok-plan.plan.needed p ∷ [] = c.in_ok-after.ensures in
    let after : c.replace.new.pool ≡ written fs (puts p fs p.next_cell (bytes_in c.args.payload.now) c.in_ok-plan.plan.stretches) c.in_ok-plan.plan.needed p = first_same c.replace.new.pool _ (sym c.replace.ensures ∙ pools) in
    written_at c.args.name.now c.args.sector c.args.payload.now p c.in-Some.place fs at c.at-fs.ensures n c.in_ok-plan.plan c.accepted.result c.replace.new.pool counted made none c.accepted.ensures after

pub replace-requires : goal.replace-requires
replace-requires c = one_long c.in_ok-after.after _ c.in_ok-after.ensures
