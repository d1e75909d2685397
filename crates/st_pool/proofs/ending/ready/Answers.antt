use Rattle.std.proofs.Common.{true, option_copied}
use Rattle.st_pool.proofs.NextCommit.{next_valid, none_so}
use Rattle.st_pool.proofs.ending.ready.Goals as goal

pub plan_of-requires-clause-valid : goal.plan_of-requires-clause-valid
plan_of-requires-clause-valid c =
    next_valid c.args.books.now (option_copied c.args.flight) c.in_ok-rec.rec _ true c.requires.may (none_so c.in_ok-answer.field-0 _ c.in_ok-answer.ensures.none c.in_default.not-Some) c.in_ok-rec.ensures
