use Rattle.std.proofs.Common.{◌≡◌, ℕ, ◌+◌, List, ◌∷◌, ◌++◌, [], length, Some, sym, ◌∙◌, ap, subst, arith}
use Rattle.std.specs.List.{slice_get}
use Rattle.st_judge.specs.declared.rows.FoundRow.{FoundRow}
use Rattle.st_parting.proofs.Newest.{none_some}
use Rattle.st_pool.specs.Halts.{HaltedView}
use Rattle.st_dividing.specs.Divided.{Divides, found_as}
use Rattle.st_dividing.proofs.OneMore.{divides_more, divides_none, divides_same, length_push, told_more}
use Rattle.st_dividing.proofs.dividing.divide.Goals as goal

pub loop-i-init : goal.loop-i-init
loop-i-init g c = record {
  divides = subst (λ (l : List (HaltedView g.row.R.Denot)). Divides g.R.Rack.devs g.R.Rack.moment g.R.Rack.state_at g.R.Rack.faults g.R.Rack.spare c.args.rack.now c.args.rack.now l) (sym c.requires.none)
      (divides_none g.R.Rack.devs g.R.Rack.moment g.R.Rack.state_at g.R.Rack.faults g.R.Rack.spare c.args.rack.now);
  told = λ k row h at_row at_h. absurd (none_some h (sym (ap (λ (l : List (HaltedView g.row.R.Denot)). slice_get l k) c.requires.none) ∙ at_h));
  counted = ap length c.requires.none;
  room = omega arith;
}

pub part_off-requires : goal.part_off-requires
part_off-requires g c = c.requires.rows.distinct c.loop-i.i c.at.result.now c.at.ensures

pub returns-in_err-part-clause-divides : goal.returns-in_err-part-clause-divides
returns-in_err-part-clause-divides g c =
    divides_same g.R.Rack.devs g.R.Rack.moment g.R.Rack.state_at g.R.Rack.faults g.R.Rack.spare g.R.Rack.reads c.args.rack.now c.loop-i.rack c.part_off.new.rack c.loop-i.parts.items c.loop-i.invariant.divides c.in_err-part.ensures.refused c.part_off.ensures.no_fewer c.part_off.ensures.faults

pub loop-i-preserved : goal.loop-i-preserved
loop-i-preserved g c =
    let D = g.R.Rack.devs in
    let M = g.R.Rack.moment in
    let S = g.R.Rack.state_at in
    let F = g.R.Rack.faults in
    let P = g.R.Rack.spare in
    let old = c.args.rack.now in
    let r1 = c.loop-i.rack in
    let r2 = c.part_off.new.rack in
    let rows = c.args.pools.now in
    let parts = c.loop-i.parts.items in
    let inv = c.loop-i.invariant in
    let h = c.in_ok-part.part in
    let items : c.put.new.self.items ≡ parts ++ h ∷ [] = c.put.ensures.items in
    let size : length (parts ++ h ∷ []) ≡ length parts + 1 = length_push parts h in
    let all : length c.put.new.self.items ≡ length (parts ++ h ∷ []) = ap length items in
    record {
      divides = subst (λ (l : List (HaltedView g.row.R.Denot)). Divides D M S F P old r2 l) (sym items)
          (divides_more D M S F P old r1 r2 rows c.requires.rows parts inv.divides inv.told c.loop-i.i c.at.result.now c.at.ensures inv.counted h c.in_ok-part.ensures.is c.in_ok-part.ensures.parts c.in_ok-part.ensures.places c.in_ok-part.ensures.none_failed c.part_off.ensures.faults);
      told = subst (λ (l : List (HaltedView g.row.R.Denot)). (k : ℕ) (row : FoundRow) (part : HaltedView g.row.R.Denot) → slice_get rows k ≡ Some row → slice_get l k ≡ Some part → part ≡ found_as (D old) row part.rack) (sym items)
          (told_more D M S F P old r1 r2 rows c.requires.rows parts inv.divides inv.told c.loop-i.i c.at.result.now c.at.ensures inv.counted h c.in_ok-part.ensures.is c.in_ok-part.ensures.parts);
      counted = omega (arith, inv.counted, size, all);
      room = omega (arith, inv.room, size, all, c.put.ensures.room);
    }

pub returns-clause-told : goal.returns-clause-told
returns-clause-told g c = record { count = omega (arith, c.loop-i.invariant.counted); each = c.loop-i.invariant.told }
