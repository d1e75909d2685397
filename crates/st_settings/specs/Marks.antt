-- what stands in the way of a mark
use Rattle.std.specs.Prelude.{Option, find, option_map}
use Rattle.st_units.specs.declared.cause.Cause.TheVariants.{MergeConflict}
use Rattle.st_units.specs.declared.rows.FsRow.{FsRow}
use Rattle.st_model.specs.declared.reply.Reply.{Reply}
use Rattle.st_model.specs.declared.state.FsState.{FsState}
use Rattle.st_model.specs.declared.state.PoolState.{PoolState}
use Rattle.st_model.specs.Answer.{refused_by}
use Rattle.st_model.specs.steps.SetMerge.{conflicts}

abbrev pub conflict : FsRow → PoolState → Option Reply
conflict row p = refused_by (option_map (λ (other : FsState). MergeConflict other.row.name) (find (conflicts row) p.filesystems))
