use Rattle.std.proofs.Common.{◌≡◌, ◌≤◌, ℕ, inl, inr, sym, ◌∙◌, ap, subst, arith}
use Rattle.std.specs.List.{slice_get}
use Rattle.std.proofs.lemmas.Bool.{cases_lt}
use Rattle.std.proofs.lemmas.Option.{slice_get_within}
use Rattle.st_rack.specs.Device.{Path}
use Rattle.st_rack.specs.Calls.{Has}
use Rattle.st_starting.proofs.Devices.{some_same}
use Rattle.st_pool.proofs.vanishing.are_large.Goals as goal

pub loop-i-init : goal.loop-i-init
loop-i-init g c = record { large = λ j d lt at. absurd (omega (arith, lt)) }

pub loop-i-preserved : goal.loop-i-preserved
loop-i-preserved g c = record {
  large = λ j d lt at. elim (cases_lt j c.loop-i.i) [
    | inl below ↦ c.loop-i.invariant.large j d below at
    | inr from ↦
        let here : c.loop-i.i ≡ j = omega (arith, lt, from) in
        let one = some_same c.at.result.now d (sym c.at.ensures ∙ ap (slice_get c.args.devs.now) here ∙ at) in
        subst (λ (q : Path). (n : ℕ) × Has (g.R.Rack.devs c.args.rack.now) q n × (8192 ≤ n)) one (c.is_large.ensures c.if-not-is_large.false)
  ];
}

pub returns-then-not-is_large : goal.returns-then-not-is_large
returns-then-not-is_large g c = λ e. absurd (cc)

pub returns : goal.returns
returns g c = λ e d of. (
    let lt = slice_get_within c.args.devs.now of.index d of.is in
    c.loop-i.invariant.large of.index d (omega (arith, lt, c.loop-i-test.false, c.len-i-end.ensures)) of.is)
