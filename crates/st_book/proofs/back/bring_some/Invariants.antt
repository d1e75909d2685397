use Rattle.std.proofs.Common.{◌≡◌, ◌+◌, ◌≤◌, ◌++◌, map, length}
use Rattle.std.specs.List.{AllByRecursion, sum_by}
use Rattle.st_model.specs.Pieces.{AreNamedApart}
use Rattle.st_model.specs.Shown.{pool_info}
use Rattle.st_book.specs.Effects.{all_renewed}
use Rattle.st_book.proofs.Brought.{HaveInfos}
use Rattle.st_book.proofs.back.bring_some.Given as goal

abbrev pub invariant-loop : goal.invariant-loop
invariant-loop g l = record {
  counted : length l.part.items + l.counter ≡ length l.initial.part.items;
  len : length l.cells.items ≡ length l.initial.cells.items + l.counter;
  places : 16 ≤ length l.cells.items + l.cells.room;
  infos_len : length l.infos.items ≡ length l.initial.infos.items;
  infos_room : l.infos.room ≡ l.initial.infos.room;
  home : map g.C.Cell.state l.cells.items ++ map g.C.Cell.state l.part.items ≡ map g.C.Cell.state l.initial.cells.items ++ map g.C.Cell.state l.initial.part.items;
  infos : HaveInfos g.C.Cell.has_spare g.C.Named.named g.C.Cell.state (map g.C.Cell.shows l.initial.infos.items) l.initial.part.items → AreNamedApart (map g.C.Cell.state l.initial.part.items)
      → (all_renewed (map pool_info (map g.C.Cell.state l.part.items)) (map g.C.Cell.shows l.infos.items) ≡ all_renewed (map pool_info (map g.C.Cell.state l.initial.part.items)) (map g.C.Cell.shows l.initial.infos.items))
      × HaveInfos g.C.Cell.has_spare g.C.Named.named g.C.Cell.state (map g.C.Cell.shows l.infos.items) l.part.items × AreNamedApart (map g.C.Cell.state l.part.items);
  test : AllByRecursion g.C.Cell.is_kept l.initial.cells.items → AllByRecursion g.C.Cell.is_kept l.initial.part.items → AllByRecursion g.C.Cell.is_kept l.cells.items × AllByRecursion g.C.Cell.is_kept l.part.items;
  faults : sum_by g.C.Cell.fault_count l.cells.items + sum_by g.C.Cell.fault_count l.part.items ≡ sum_by g.C.Cell.fault_count l.initial.cells.items + sum_by g.C.Cell.fault_count l.initial.part.items;
}
