use Rattle.std.proofs.Common.{◌≡◌, ◌++◌, ◌+◌, ◌≤◌, length, map, drop, eqb}
use Rattle.std.specs.List.{filter}
use Rattle.std.specs.Vec.{vec_len, vec_capacity}
use Rattle.st_thinmap.specs.declared.mapping.Mapping.{Mapping}
use Rattle.st_thinmap.specs.inner.Uses.{count_in}
use Rattle.st_thinmap.proofs.dropped.push_unused.Given as goal

abbrev pub invariant-loop-row : goal.invariant-loop-row
invariant-loop-row l = record {
  items : l.gone.items ++ map (λ (m : Mapping). m.cell) (filter (λ (m : Mapping). eqb (count_in l.uses m.place) 0) (drop l.row-index l.run)) ≡ map (λ (m : Mapping). m.cell) (filter (λ (m : Mapping). eqb (count_in l.uses m.place) 0) l.run);
  room : vec_len l.gone + length (drop l.row-index l.run) ≤ vec_capacity l.gone;
}
