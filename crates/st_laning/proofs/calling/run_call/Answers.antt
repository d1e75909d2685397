use Rattle.std.proofs.Common.{◌≡◌, ◌+◌, ◌≤◌, ◌<◌, ◌^◌, ◌∷◌, [], false, length, map, Some, ℕ, refl, sym, ap, ◌∙◌, subst, arith}
use Rattle.std.specs.Prelude.{IfSome, option_map}
use Rattle.std.specs.List.{AllByRecursion, sum_by}
use Rattle.st_model.specs.declared.state.EngineState.{EngineState}
use Rattle.st_model.specs.Parts.{pool_at, shown_table, started, table_of}
use Rattle.st_model.specs.Shown.{pool_info}
use Rattle.st_model.specs.Valid.{IsValid}
use Rattle.st_model.specs.Wanted.{want_of}
use Rattle.st_book.specs.Stands.{PartShows, PartStands}
use Rattle.st_model.specs.declared.info.PoolInfo.{PoolInfo}
use Rattle.st_model.specs.declared.info.TableInfo.{TableInfo}
use Rattle.st_pool.specs.View.{PoolView}
use Rattle.st_board.specs.View.{BoardView, pools_of, slack_of}
use Rattle.st_running.specs.Calls.{runs}
use Rattle.st_running.specs.Part.{as_table}
use Rattle.st_laning.proofs.OneCall.{after_in, counted, ran, runs_in}
use Rattle.st_laning.proofs.calling.run_call.Goals as goal

pub overflow_add-lane : goal.overflow_add-lane
overflow_add-lane g c = let fits = c.ranges.lane.fits in omega (arith, fits)

pub take-requires-after_bounds : goal.take-requires-after_bounds
take-requires-after_bounds g c κs within = c.requires.sound

pub run_part-part-requires-clause-runs : goal.run_part-part-requires-clause-runs
run_part-part-requires-clause-runs g c = c.requires.runs

pub run_part-part-requires-clause-valid : goal.run_part-part-requires-clause-valid
run_part-part-requires-clause-valid g c = subst (λ (s : EngineState). IsValid s) (sym (runs_in c.args.home (c.args.lane + 1) c.args.call c.in-Ok.field-0.out c.in-Ok.field-0.entries c.in-Ok.ensures.taken c.before-in-Ok.result.now.value (c.before-in-Ok.ensures))) c.in-Ok.ensures.taken.granted_is.valid

pub run_part-part-requires-clause-part : goal.run_part-part-requires-clause-part
run_part-part-requires-clause-part g c = subst (λ (s : EngineState). PartStands (want_of c.args.call) s (pools_of c.in-Ok.field-0.part.cells.items) (option_map (as_table g.R.Rack.faults) c.in-Ok.field-0.part.table)) (sym (runs_in c.args.home (c.args.lane + 1) c.args.call c.in-Ok.field-0.out c.in-Ok.field-0.entries c.in-Ok.ensures.taken c.before-in-Ok.result.now.value (c.before-in-Ok.ensures))) c.in-Ok.ensures.part

pub run_part-part-requires-clause-kept : goal.run_part-part-requires-clause-kept
run_part-part-requires-clause-kept g c = c.in-Ok.ensures.kept

pub run_part-part-requires-clause-shown : goal.run_part-part-requires-clause-shown
run_part-part-requires-clause-shown g c = λ whole.
    subst (λ (s : EngineState). PartShows (want_of c.args.call) s (map (λ (i : PoolInfo). i) c.in-Ok.field-0.part.infos.items) (option_map (λ (i : TableInfo). i) c.in-Ok.field-0.part.table_info)) (sym (runs_in c.args.home (c.args.lane + 1) c.args.call c.in-Ok.field-0.out c.in-Ok.field-0.entries c.in-Ok.ensures.taken c.before-in-Ok.result.now.value (c.before-in-Ok.ensures))) (c.in-Ok.ensures.shown whole)

pub run_part-part-requires-clause-places : goal.run_part-part-requires-clause-places
run_part-part-requires-clause-places g c = c.in-Ok.ensures.places

pub give_back-home-requires-clause-entries : goal.give_back-home-requires-clause-entries
give_back-home-requires-clause-entries g c κs within = (c.in-Ok.ensures.taken.none, c.in-Ok.ensures.taken.room)

pub give_back-home-requires-clause-after : goal.give_back-home-requires-clause-after
give_back-home-requires-clause-after g c κs within = after_in c.args.home (c.args.lane + 1) c.args.call c.in-Ok.field-0.out c.in-Ok.field-0.entries c.in-Ok.ensures.taken c.before-in-Ok.result.now.value c.run_part-part.result.entry (pools_of c.run_part-part.result.part.cells.items) (option_map (as_table g.R.Rack.faults) c.run_part-part.result.part.table) (c.before-in-Ok.ensures) c.run_part-part.ensures.after

pub give_back-home-requires-clause-slack : goal.give_back-home-requires-clause-slack
give_back-home-requires-clause-slack g c κs within =
    c.run_part-part.ensures.slack c.in-Ok.field-0.out.base
    (subst (λ (base : ℕ). IfSome c.in-Ok.field-0.part.table (λ (x : BoardView _). base ≤ slack_of g.R.Rack.faults x)) (sym c.in-Ok.ensures.taken.granted_is.base) c.in-Ok.ensures.slack)

pub give_back-home-requires-clause-spares : goal.give_back-home-requires-clause-spares
give_back-home-requires-clause-spares g c κs within =
    subst (λ (s : EngineState). AllByRecursion (λ (x : PoolView _). x.spare ≡ false → option_map pool_info (pool_at x.pool.name (started s)) ≡ Some (pool_info x.pool)) c.run_part-part.result.part.cells.items) (c.before-in-Ok.ensures) c.run_part-part.ensures.spares

pub give_back-home-requires-clause-spare : goal.give_back-home-requires-clause-spare
give_back-home-requires-clause-spare g c κs within =
    subst (λ (s : EngineState). IfSome c.run_part-part.result.part.table (λ (x : BoardView _). x.spare ≡ false → shown_table (table_of s) ≡ shown_table x.state)) (c.before-in-Ok.ensures) c.run_part-part.ensures.spare

pub give_back-home-requires-clause-faults : goal.give_back-home-requires-clause-faults
give_back-home-requires-clause-faults g c κs within = λ small. counted c.in-Ok.field-0.out.faults _ _ _ (c.in-Ok.ensures.faults small) c.run_part-part.ensures.faults

pub give_back-home-requires-clause-kept : goal.give_back-home-requires-clause-kept
give_back-home-requires-clause-kept g c κs within = c.run_part-part.ensures.kept

pub returns-in-Ok-clause-ran : goal.returns-in-Ok-clause-ran
returns-in-Ok-clause-ran g c =
    let back = c.give_back-home.ensures in
    ran c.args.home (c.args.lane + 1) c.args.call c.in-Ok.field-0.out c.in-Ok.field-0.entries c.in-Ok.ensures.taken runs c.args.number c.run_part-part.result.entry c.give_back-home.result back.log.0 c.place-place.result back.log.1 c.requires.runs c.run_part-part.ensures.of.0 c.run_part-part.ensures.of.1
    back.same.0 back.same.1 back.same.2 back.log.2 c.place-place.ensures

pub returns-in-Err-clause-refused : goal.returns-in-Err-clause-refused
returns-in-Err-clause-refused g c = c.in-Err.ensures.back
