use Rattle.std.proofs.Common.{◌≡◌, Some, None, option_map, sym, ap, ◌∙◌, rules}
use Rattle.json.specs.Find as find
use Rattle.json.specs.Value.{value_view}
use Rattle.json.specs.declared.value.Value.{the_lemmas}
use Rattle.serde_json.specs.Find.{as_array}
use Rattle.st_calls.specs.inner.View.{view, items_view, seen_items}
use Rattle.st_calls.proofs.Seen.{array-view, items-view}
use Rattle.st_calls.proofs.value.as_items.Goals as goal

pub returns-in-Array : goal.returns-in-Array
returns-in-Array c =
    ap (λ vs. Some (items_view vs)) c.as_slice.ensures.value ∙ sym (ap (λ v. as_array (view v)) c.in-Array.is ∙ items-view c.in-Array.items)

pub returns-in_default : goal.returns-in_default
returns-in_default c =
    let none : None ≡ find.as_array (value_view c.args.value.now) = search (rules, the_lemmas) in
    ap (option_map seen_items) none ∙ sym (array-view c.args.value.now)
