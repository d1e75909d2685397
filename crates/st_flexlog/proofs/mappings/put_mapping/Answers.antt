use Rattle.std.proofs.Common.{◌≡◌, not, List, Some, None, true, sym, ap, ◌∙◌}
use Rattle.std.specs.List.{position}
use Rattle.st_flexlog.specs.declared.state.Mapping.{Mapping}
use Rattle.st_flexlog.specs.Applied.{stands_before, is_of_block}
use Rattle.st_flexlog.proofs.Putting.{is_set, is_last}
use Rattle.st_flexlog.proofs.mappings.put_mapping.Goals as goal

pub returns-in_ok-push-in-None : goal.returns-in_ok-push-in-None
returns-in_ok-push-in-None c =
    let from : position (λ other. not (stands_before other c.args.mapping)) c.args.mappings.now ≡ c.first_not_before.result = ap (λ (l : List Mapping). position (λ other. not (stands_before other c.args.mapping)) l) (sym c.items.ensures) ∙ sym c.first_not_before.ensures in
    let nowhere : position (λ other. not (stands_before other c.args.mapping)) c.args.mappings.now ≡ None = cc in
    c.in_ok-push-in-None.ensures.ok ∙ sym (is_last c.args.mapping c.args.mappings.now nowhere)

pub returns-then-is_of_block : goal.returns-then-is_of_block
returns-then-is_of_block c =
    let from : position (λ other. not (stands_before other c.args.mapping)) c.args.mappings.now ≡ c.first_not_before.result = ap (λ (l : List Mapping). position (λ other. not (stands_before other c.args.mapping)) l) (sym c.items.ensures) ∙ sym c.first_not_before.ensures in
    let here : position (λ other. not (stands_before other c.args.mapping)) c.args.mappings.now ≡ Some c.in-Some.at = cc in
    let same : is_of_block c.args.mapping c.at.result.now ≡ true = cc in
    c.replace.ensures ∙ sym (is_set c.args.mapping c.at.result.now c.args.mappings.now c.in-Some.at here c.at.ensures same)
