use Rattle.std.proofs.Common.{◌∙◌, ap}
use Rattle.uuid.specs.Text.{hyphenated_text, lower}
use Rattle.st_trace.specs.Calls.{uuid_form}
use Rattle.st_trace.proofs.pool_call.uuid_form.Goals as goal

pub returns : goal.returns
unfolding uuid_form
returns c =
    c.in_ok-from_str.ensures.ok ∙ c.encode_lower-text.ensures.text ∙ ap (hyphenated_text lower) (c.hyphenated.ensures ∙ c.from_u128-id.ensures)
