use Rattle.std.proofs.Common.{◌≡◌, ◌++◌, ◌∷◌, false, map, length, sym, ap, ◌∙◌, subst, arith}
use Rattle.std.specs.List.{AllByRecursion, sum_by}
use Rattle.std.proofs.lemmas.List.Sums.{sum_by-cons}
use Rattle.std.proofs.lemmas.Map.Keys.{IsDistinct-head, IsDistinct-tail}
use Rattle.std.specs.Str.{bytes_eq}
use Rattle.st_model.specs.Look.{Text}
use Rattle.st_model.specs.Pieces.{AreNamedApart, info_at}
use Rattle.st_model.specs.Shown.{pool_info}
use Rattle.st_book.specs.Effects.{all_renewed, renewed}
use Rattle.st_book.proofs.Brought.{HaveInfos, first_rest, moved_on, have_still}
use Rattle.st_book.proofs.Renewing.{renewed_other, info_name}
use Rattle.st_book.proofs.back.bring_some.Goals as goal

pub loop-preserved : goal.loop-preserved
loop-preserved g c =
    let cell = c.take_at-cell.result in
    let part = c.loop.part.items in
    let after = c.take_at-cell.new.self.items in
    let rest : part ≡ cell ∷ after = first_rest part cell c.take_at-cell.ensures.taken ∙ ap (λ z. cell ∷ z) (sym c.take_at-cell.ensures.items) in
    record {
      counted = omega (arith, ap length rest);
      len = omega arith;
      places = omega arith;
      infos_len = omega arith;
      infos_room = omega arith;
      home = moved_on (map g.C.Cell.state c.loop.cells.items) (map g.C.Cell.state after) _ _ (g.C.Cell.state cell) c.bring_renewed.ensures.home (subst (λ z. map g.C.Cell.state c.loop.cells.items ++ map g.C.Cell.state z ≡ map g.C.Cell.state c.args.cells.now.items ++ map g.C.Cell.state c.args.part.items) rest c.loop.invariant.home);
      infos = λ h apart.
          let was = c.loop.invariant.infos h apart in
          let old = map g.C.Cell.shows c.loop.infos.items in
          let have : HaveInfos g.C.Cell.has_spare g.C.Named.named g.C.Cell.state old (cell ∷ after) = subst (λ z. HaveInfos g.C.Cell.has_spare g.C.Named.named g.C.Cell.state old z) rest was.1 in
          let named : AreNamedApart (map g.C.Cell.state (cell ∷ after)) = subst (λ z. AreNamedApart (map g.C.Cell.state z)) rest was.2 in
          let now : map g.C.Cell.shows c.bring_renewed.new.infos.items ≡ renewed (pool_info (g.C.Cell.state cell)) old = c.bring_renewed.ensures.infos have.0 in
          let others : (n : Text) → bytes_eq (g.C.Named.named cell) n ≡ false → info_at n (map g.C.Cell.shows c.bring_renewed.new.infos.items) ≡ info_at n old = λ n ne.
          ap (info_at n) now ∙ renewed_other n (pool_info (g.C.Cell.state cell)) old (ap (λ z. bytes_eq z n) (info_name (g.C.Cell.state cell) ∙ sym (g.met.C.Cell.name_is cell)) ∙ ne) in (
            ap (all_renewed (map pool_info (map g.C.Cell.state after))) now ∙ subst (λ z. all_renewed (map pool_info (map g.C.Cell.state z)) old ≡ all_renewed (map pool_info (map g.C.Cell.state c.args.part.items)) (map g.C.Cell.shows c.args.infos.now.items)) rest was.0,
            have_still g.C.Cell.has_spare g.C.Named.named g.C.Cell.state g.met.C.Cell.name_is cell _ _ after others (IsDistinct-head _ _ _ named) have.1,
            IsDistinct-tail _ _ _ named,
          );
      test = λ h p.
          let was = c.loop.invariant.test h p in
          let all : AllByRecursion g.C.Cell.is_kept (cell ∷ after) = subst (λ z. AllByRecursion g.C.Cell.is_kept z) rest was.1 in
          (c.bring_renewed.ensures.test was.0 all.0, all.1);
      faults = omega (arith, c.loop.invariant.faults, c.bring_renewed.ensures.faults, ap (λ z. sum_by g.C.Cell.fault_count z) rest, sum_by-cons g.C.Cell.fault_count cell after);
    }
