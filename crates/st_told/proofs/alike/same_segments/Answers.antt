use Rattle.std.proofs.Common.{◌≡◌, inl, inr, Some, refl, sym, ◌∙◌, ap, subst, arith, List, length}
use Rattle.std.specs.List.{slice_get}
use Rattle.std.proofs.lemmas.Bool.{cases_lt}
use Rattle.std.proofs.lemmas.Option.{slice_get_within}
use Rattle.st_units.specs.declared.rows.Segment.{Segment}
use Rattle.st_told.proofs.Same.{all_same, some_same}
use Rattle.st_told.proofs.alike.same_segments.Goals as goal

pub loop-i-init : goal.loop-i-init
loop-i-init c = record { same = λ j x y lt at_x at_y. absurd (omega (arith, lt)) }

pub loop-i-preserved : goal.loop-i-preserved
loop-i-preserved c = record {
  same = λ j x y lt at_x at_y. elim (cases_lt j c.loop-i.i) [
    | inl below ↦ c.loop-i.invariant.same j x y below at_x at_y
    | inr from ↦
        let here : c.loop-i.i ≡ j = omega (arith, lt, from) in
        let one = some_same c.at.result.now x (sym c.at.ensures ∙ ap (slice_get c.args.segments.now) here ∙ at_x) in
        let two = some_same c.at-in-loop-i.result.now y (sym c.at-in-loop-i.ensures ∙ ap (slice_get c.args.others.now) here ∙ at_y) in
        sym one ∙ c.is_segment.ensures.0 c.if-not-is_segment.false ∙ two
  ];
}

pub returns-then-len : goal.returns-then-len
returns-then-len c = (
  λ e. absurd (cc),
  λ same. absurd (c.if-len.true (c.len.ensures ∙ ap (λ (l : List Segment). length l) same ∙ sym c.len-2.ensures)),
)

pub returns-then-not-is_segment : goal.returns-then-not-is_segment
returns-then-not-is_segment c = (
  λ e. absurd (cc),
  λ same. sym c.if-not-is_segment.true ∙ c.is_segment.ensures.1 (some_same c.at.result.now c.at-in-loop-i.result.now (sym c.at.ensures ∙ ap (λ (l : List Segment). slice_get l c.loop-i.i) same ∙ c.at-in-loop-i.ensures)),
)

pub returns : goal.returns
returns c = (
  λ e. all_same c.args.segments.now c.args.others.now (sym c.len.ensures ∙ c.if-len.false ∙ c.len-2.ensures) (λ j x y at_x at_y. (
      let lt = slice_get_within c.args.segments.now j x at_x in
      c.loop-i.invariant.same j x y (omega (arith, lt, c.loop-i-test.false, c.len-i-end.ensures)) at_x at_y)),
  λ same. refl,
)
