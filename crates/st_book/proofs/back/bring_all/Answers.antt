use Rattle.std.proofs.Common.{◌≡◌, ◌++◌, ◌∷◌, map, length, sym, ap, ◌∙◌, subst, arith}
use Rattle.std.specs.List.{AllByRecursion, sum_by}
use Rattle.std.proofs.lemmas.List.Sums.{sum_by-cons}
use Rattle.std.proofs.lemmas.Map.Keys.{IsDistinct-head, IsDistinct-tail}
use Rattle.st_model.specs.Shown.{pool_info}
use Rattle.st_model.specs.Pieces.{AreNamedApart}
use Rattle.st_book.proofs.Brought.{HaveInfos, first_rest, moved_on, have_still}
use Rattle.st_book.proofs.back.bring_all.Goals as goal

pub loop-preserved : goal.loop-preserved
loop-preserved g c =
    let cell = c.take_at-cell.result in
    let part = c.loop.part.items in
    let after = c.take_at-cell.new.self.items in
    let rest : part ≡ cell ∷ after = first_rest part cell c.take_at-cell.ensures.taken ∙ ap (λ z. cell ∷ z) (sym c.take_at-cell.ensures.items) in
    record {
      left = omega (arith, ap length rest);
      len = omega arith;
      places = omega arith;
      fresh_len = omega arith;
      fresh_places = omega arith;
      info_places = omega arith;
      home = moved_on (map g.C.Cell.state c.loop.cells.items) (map g.C.Cell.state after) _ _ (g.C.Cell.state cell) c.bring_next.ensures.home (subst (λ z. map g.C.Cell.state c.loop.cells.items ++ map g.C.Cell.state z ≡ map g.C.Cell.state c.args.cells.now.items ++ map g.C.Cell.state c.args.part.items) rest c.loop.invariant.home);
      infos = λ h apart.
          let was = c.loop.invariant.infos h apart in
          let have : HaveInfos g.C.Cell.has_spare g.C.Named.named g.C.Cell.state (map g.C.Cell.shows c.loop.infos.items) (cell ∷ after) = subst (λ z. HaveInfos g.C.Cell.has_spare g.C.Named.named g.C.Cell.state (map g.C.Cell.shows c.loop.infos.items) z) rest was.1 in
          let named : AreNamedApart (map g.C.Cell.state (cell ∷ after)) = subst (λ z. AreNamedApart (map g.C.Cell.state z)) rest was.2 in
          let shown : map g.C.Cell.shows c.loop.fresh.items ++ map pool_info (map g.C.Cell.state (cell ∷ after)) ≡ map pool_info (map g.C.Cell.state c.args.part.items) = subst (λ z. map g.C.Cell.shows c.loop.fresh.items ++ map pool_info (map g.C.Cell.state z) ≡ map pool_info (map g.C.Cell.state c.args.part.items)) rest was.0 in (
            moved_on (map g.C.Cell.shows c.loop.fresh.items) (map pool_info (map g.C.Cell.state after)) _ _ (pool_info (g.C.Cell.state cell)) (c.bring_next.ensures.fresh have.0) shown,
            have_still g.C.Cell.has_spare g.C.Named.named g.C.Cell.state g.met.C.Cell.name_is cell _ _ after c.bring_next.ensures.others (IsDistinct-head _ _ _ named) have.1,
            IsDistinct-tail _ _ _ named,
          );
      test = λ h p.
          let was = c.loop.invariant.test h p in
          let all : AllByRecursion g.C.Cell.is_kept (cell ∷ after) = subst (λ z. AllByRecursion g.C.Cell.is_kept z) rest was.1 in
          (c.bring_next.ensures.test was.0 all.0, all.1);
      faults = omega (arith, c.loop.invariant.faults, c.bring_next.ensures.faults, ap (λ z. sum_by g.C.Cell.fault_count z) rest, sum_by-cons g.C.Cell.fault_count cell after);
    }
