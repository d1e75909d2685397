use Rattle.test_commit.proofs.site.found.Goals as goal

pub sync_all-requires-clause-there : goal.sync_all-requires-clause-there
sync_all-requires-clause-there c = λ d is. (let lies = c.is_pool.ensures.lie c.if-not-is_pool.false d is in (lies.sectors, lies.has))
