use Rattle.std.proofs.Common.{◌∙◌, ap}
use Rattle.uuid.specs.Text.{hyphenated_text, lower}
use Rattle.st_report.specs.Uuids.{uuid_text}
use Rattle.st_report.proofs.identity.put_uuid.Goals as goal

pub returns : goal.returns
unfolding uuid_text
returns c = rw (c.encode_lower-text.ensures.text ∙ ap (hyphenated_text lower) (c.hyphenated.ensures ∙ c.uuid_of-id.ensures)) at c.in_ok-put_text.ensures
