use Rattle.std.proofs.Common.{◌≡◌, ◌++◌, ◌∙◌, ap₂, sym, rules}
use Rattle.json.specs.Print.{print}
use Rattle.serde_json.specs.Written.{compact_text}
use Rattle.serde_json.proofs.Texts.{print-outline}
use Rattle.st_json.proofs.line.line_of.Goals as goal

pub returns : goal.returns
returns c d empty same =
    let text : c.into_inner-bytes.result.items ≡ compact_text d = c.into_inner-bytes.ensures.items ∙ ap₂ (λ b ts. b ++ print ts) empty same ∙ print-outline d in
    rw (sym text) (search rules)
