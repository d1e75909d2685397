use Rattle.std.proofs.Common.{◌≡◌, Some, None, option_map, option_and_then, sym, ap, ◌∙◌}
use Rattle.json.specs.Find as find
use Rattle.json.specs.Value.{value_view}
use Rattle.serde_json.specs.Find.{as_u64}
use Rattle.st_calls.specs.inner.View.{num}
use Rattle.st_calls.proofs.Seen.{number-view}
use Rattle.st_calls.proofs.value.as_number.Goals as goal

pub returns-in-Some : goal.returns-in-Some
returns-in-Some c =
    let told : Some c.in-Some.text.now ≡ find.as_number (value_view c.args.value.now) = ap (option_map (λ s. s.now)) (sym c.in-Some.is) ∙ c.as_number.ensures in
    c.as_integer.ensures ∙ ap (λ o. option_and_then as_u64 (option_map num o)) told ∙ sym (ap (option_and_then as_u64) (number-view c.args.value.now))

pub returns-in-None : goal.returns-in-None
returns-in-None c =
    let none : None ≡ find.as_number (value_view c.args.value.now) = ap (option_map (λ s. s.now)) (sym c.in-None.is) ∙ c.as_number.ensures in
    ap (λ o. option_and_then as_u64 (option_map num o)) none ∙ sym (ap (option_and_then as_u64) (number-view c.args.value.now))
