use Rattle.std.proofs.Common.{◌∙◌}
use Rattle.st_words.proofs.Numbers.{number_in-parsed}
use Rattle.st_words.proofs.words.number_in.Goals as goal

pub returns : goal.returns
returns c = c.ok.ensures.value ∙ number_in-parsed _ _ c.parse.ensures.value.0
