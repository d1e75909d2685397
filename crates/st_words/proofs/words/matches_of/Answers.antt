use Rattle.std.proofs.Common.{◌∙◌, refl}
use Rattle.clap.specs.Words.{app_of}
use Rattle.st_words.proofs.Taken.{taken-ok, taken-err, matches-of, err_is}
use Rattle.st_words.proofs.words.matches_of.Goals as goal

pub returns-in-Ok-clause-taken : goal.returns-in-Ok-clause-taken
returns-in-Ok-clause-taken c =
    let command = app_of c.in_ok-command.field-0 in (
      taken-ok command _ c.in-Ok.matches c.in_ok-command.ensures c.in-Ok.ensures.kinds,
      matches-of command _ c.in-Ok.matches c.in_ok-command.ensures c.in-Ok.ensures.matches,
    )

pub returns-in-Err-clause-usage : goal.returns-in-Err-clause-usage
returns-in-Err-clause-usage c usage =
    taken-err (app_of c.in_ok-command.field-0) _ c.try_get_matches_from.result c.in-Err.error c.in_ok-command.ensures c.try_get_matches_from.ensures.kinds c.in-Err.is
    (λ memory. c.fault_of.ensures.usage (err_is _ _ _ refl usage) (c.kind.ensures ∙ memory))
