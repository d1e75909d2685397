use Rattle.std.proofs.Common.{◌≡◌, inl, inr, refl, sym, ◌∙◌, ap, subst, arith}
use Rattle.std.specs.List.{slice_get}
use Rattle.std.proofs.lemmas.Bool.{cases_lt}
use Rattle.std.proofs.lemmas.Option.{slice_get_within}
use Rattle.st_units.specs.declared.rows.DevRow.{DevRow}
use Rattle.st_rack.specs.Device.{Path}
use Rattle.st_rack.specs.Calls.{size_in}
use Rattle.st_image.specs.Kept.{as_pair}
use Rattle.st_starting.proofs.Devices.{some_same}
use Rattle.st_starting.proofs.Pairs.{pairs_same, pairs_at}
use Rattle.st_starting.proofs.rows.are_rows.Goals as goal

pub loop-i-init : goal.loop-i-init
loop-i-init g c = record { same = λ j row d lt at_row at. absurd (omega (arith, lt)) }

pub loop-i-preserved : goal.loop-i-preserved
loop-i-preserved g c = record {
  same = λ j row d lt at_row at. elim (cases_lt j c.loop-i.i) [
    | inl below ↦ c.loop-i.invariant.same j row d below at_row at
    | inr from ↦
        let here : c.loop-i.i ≡ j = omega (arith, lt, from) in
        let one = some_same c.at.result.now row (sym c.at.ensures ∙ ap (slice_get c.args.rows.now) here ∙ at_row) in
        let two = some_same c.at-in-loop-i.result.now d (sym c.at-in-loop-i.ensures ∙ ap (slice_get c.args.devs.now) here ∙ at) in
        subst (λ (x : DevRow × Path). as_pair x.0 ≡ (x.1, size_in (g.R.Rack.devs c.args.rack.now) x.1)) (λ i. (one i, two i)) (c.is_row.ensures.0 c.if-not-is_row.false)
  ];
}

pub returns-then-not-is_row : goal.returns-then-not-is_row
returns-then-not-is_row g c = (
  λ e. absurd (cc),
  λ same. sym c.if-not-is_row.true ∙ (c.is_row.ensures.1 (pairs_at (g.R.Rack.devs c.args.rack.now) c.args.rows.now c.args.devs.now same c.loop-i.i c.at.result.now c.at-in-loop-i.result.now c.at.ensures c.at-in-loop-i.ensures)),
)

pub returns : goal.returns
returns g c = (
  λ e. pairs_same (g.R.Rack.devs c.args.rack.now) c.args.rows.now c.args.devs.now (sym c.len.ensures ∙ c.if-len.false ∙ c.len-2.ensures) (λ j row d at_row at. (
      let lt = slice_get_within c.args.rows.now j row at_row in
      c.loop-i.invariant.same j row d (omega (arith, lt, c.loop-i-test.false, c.len-i-end.ensures)) at_row at)),
  λ same. refl,
)
