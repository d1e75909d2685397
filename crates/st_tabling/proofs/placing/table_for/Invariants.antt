use Rattle.st_model.specs.declared.state.EngineState.{EngineState}
use Rattle.st_model.specs.Parts.{table_of}
use Rattle.st_table.specs.Stands.{Stands}
use Rattle.st_tabling.specs.Telling.{TellsOf}
use Rattle.st_tabling.proofs.First.{first}
use Rattle.st_tabling.proofs.placing.table_for.Given as goal

abbrev pub invariant-loop-i : goal.invariant-loop-i
invariant-loop-i l = record {
  stands : (e : EngineState) → TellsOf e l.rows l.pools l.next → Stands l.table (table_of (first l.i e));
}
