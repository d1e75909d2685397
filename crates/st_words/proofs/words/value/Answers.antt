use Rattle.std.proofs.Common.{◌∙◌}
use Rattle.clap.specs.Matches.{found_of}
use Rattle.st_words.proofs.Rows.{first_value-of}
use Rattle.st_words.proofs.words.value.Goals as goal

pub returns : goal.returns
returns c = c.get_str.ensures ∙ first_value-of (found_of c.args.matches.now) c.args.id.now
