use Rattle.std.proofs.Common.{◌≡◌, [], ◌∷◌, List, sym, ◌∙◌, ap}
use Rattle.std.specs.List.{slice_get}
use Rattle.st_units.specs.declared.rows.Segment.{Segment}
use Rattle.st_told.specs.Told.{first_segment}
use Rattle.st_told.proofs.Same.{one_only, some_same}
use Rattle.st_told.proofs.alike.is_first.Goals as goal

pub returns-then-len-eq1 : goal.returns-then-len-eq1
returns-then-len-eq1 c = (
  λ e. one_only c.args.segments.now c.at.result.now (sym c.len.ensures ∙ c.if-len-eq1.true) c.at.ensures ∙ ap (λ (s : Segment). s ∷ []) (c.is_first_segment.ensures.0 e),
  λ same. c.is_first_segment.ensures.1 (some_same c.at.result.now first_segment (sym c.at.ensures ∙ ap (λ (l : List Segment). slice_get l 0) same)),
)
