-- what a write is about to do, and what it is refused for
use Rattle.std.specs.Prelude.{ℕ, ◌+◌, ◌==◌, ◌||◌, nat_lt, List, [], ◌∷◌, length, Option, None, if◌then◌else◌}
use Rattle.st_limits.specs.Sums.{more}
use Rattle.st_limits.specs.declared.TheConstants.{MAX_MAPPINGS, MAX_WRITE_SECTORS}
use Rattle.st_units.specs.declared.cause.Cause.TheVariants.{BadSize, OutOfRange, MappingFull, NoSpace}
use Rattle.st_model.specs.declared.reply.Reply.{Reply}
use Rattle.st_model.specs.declared.state.FsState.{FsState}
use Rattle.st_model.specs.declared.state.PoolState.{PoolState}
use Rattle.st_model.specs.Answer.{refused_where}
use Rattle.st_model.specs.Checks.{worn}
use Rattle.st_model.specs.Content.{mapped_cells, stretches, touched}
use Rattle.st_model.specs.Sums.{free}
use Rattle.st_model.specs.steps.FsWrite.{cells_needed}
use Rattle.st_writing.specs.declared.plan.Plan.{Plan}

abbrev pub plan_of : PoolState → FsState → ℕ → ℕ → Plan
plan_of p fs sector n = record {
  stretches = stretches sector n;
  mapped = mapped_cells p.filesystems;
  needed = cells_needed fs sector n p;
  more = more fs.map (touched sector n);
}

abbrev pub wants : Plan → PoolState → List (Option Reply)
wants plan p =
    refused_where (nat_lt MAX_MAPPINGS (length plan.mapped + plan.more)) (MappingFull (length plan.mapped) plan.more)
    ∷ refused_where (nat_lt (free p) plan.needed) (NoSpace (free p) plan.needed)
    ∷ (if plan.needed == 0 then None else worn p)
    ∷ []

abbrev pub planned_answers : Plan → FsState → ℕ → ℕ → PoolState → List (Option Reply)
planned_answers plan fs sector n p =
    refused_where ((n == 0) || nat_lt MAX_WRITE_SECTORS n) (BadSize fs.row.name)
    ∷ refused_where (nat_lt fs.row.size (sector + n)) OutOfRange
    ∷ wants plan p

-- the pool after it took so many fresh cells; with none it makes no commit
abbrev pub taking : ℕ → PoolState → PoolState
taking taken p = record p { next_cell = p.next_cell + taken; commits = if taken == 0 then p.commits else p.commits + 1 }
