use Rattle.std.proofs.Common.{◌≡◌, map, take, None}
use Rattle.st_model.specs.Pieces.{info_at}
use Rattle.st_book.proofs.showing.info_place.Given as goal

abbrev pub invariant-loop-i : goal.invariant-loop-i
invariant-loop-i g l = info_at l.name (map g.C.Cell.shows (take l.i l.infos)) ≡ None
