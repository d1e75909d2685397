use Rattle.std.proofs.Common.{◌≡◌, ◌+◌, ◌≤◌, length, map, take}
use Rattle.st_book.specs.Effects.{infos_given}
use Rattle.st_book.proofs.showing.copy_infos.Given as goal

abbrev pub invariant-loop-info : goal.invariant-loop-info
invariant-loop-info g l = record {
  copied : map g.C.Cell.shows l.list.items ≡ infos_given l.want (map g.C.Cell.shows (take l.info-index l.infos));
  len : length l.list.items ≤ l.info-index;
  places : 16 ≤ length l.list.items + l.list.room;
}
