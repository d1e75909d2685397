-- what CreatePool adds to a part
use Rattle.std.specs.Prelude.{List, true, Some, None}
use Rattle.st_model.specs.declared.reply.Given.TheVariants.{Created}
use Rattle.st_model.specs.declared.reply.Reply.{Reply}
use Rattle.st_model.specs.declared.state.KnownPool.{KnownPool}
use Rattle.st_model.specs.declared.state.PoolState.{PoolState}
use Rattle.st_model.specs.declared.state.TableState.{TableState}
use Rattle.st_model.specs.Answer.{accepted}
use Rattle.st_model.specs.Look.{Text, distinct}
use Rattle.st_model.specs.OnTable.{with_known}
use Rattle.st_model.specs.steps.CreatePool.{new_pool, data_rows}
use Rattle.st_plain.specs.Views.{CellView, TableView}

-- the new pool
unfoldable pub pool_made : TableState → Text → List Text → PoolState
pool_made t name paths = new_pool t.next name (data_rows t.devices (distinct paths))

-- what the table tells of it
unfoldable pub known_made : TableState → Text → List Text → KnownPool
known_made t name paths = record { name = name; serial = t.next; new = None; devices = distinct paths }

unfoldable pub reply_made : TableState → List Text → Reply
reply_made t paths = accepted (Created true (Some (t.next, distinct paths)))

-- its cell, and the table with it, each with a spare info
abbrev pub cell_made : TableState → Text → List Text → CellView
cell_made t name paths = record { pool = pool_made t name paths; spare = true }

abbrev pub table_made : TableState → Text → List Text → TableView
table_made t name paths = record { state = with_known t (known_made t name paths); spare = true }
