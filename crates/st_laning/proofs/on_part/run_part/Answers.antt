use Rattle.std.proofs.Common.{◌≡◌, ℕ, ◌+◌, ◌<◌, ◌≤◌, ◌∷◌, [], List, map, Option, Some, None, refl, sym, ap, subst}
use Rattle.std.specs.Prelude.{option_map}
use Rattle.st_model.specs.declared.info.PoolInfo.{PoolInfo}
use Rattle.st_model.specs.declared.info.TableInfo.{TableInfo}
use Rattle.st_model.specs.Wanted.{want_of}
use Rattle.st_book.specs.Stands.{PartShows}
use Rattle.st_laning.proofs.Parts.{not_short, same_info, same_infos}
use Rattle.st_laning.proofs.on_part.run_part.Goals as goal

pub run_on-part-requires-clause-runs : goal.run_on-part-requires-clause-runs
run_on-part-requires-clause-runs g c = c.requires.runs

pub run_on-part-requires-clause-part : goal.run_on-part-requires-clause-part
run_on-part-requires-clause-part g c = record {
  valid = c.requires.valid;
  part = c.requires.part;
  kept = c.requires.kept.0;
  shows = λ whole.
      subst (λ (is : List PoolInfo). PartShows (want_of c.args.call) c.args.before.now.value is c.args.part.table_info) (same_infos c.args.part.infos.items)
      (subst (λ (o : Option TableInfo). PartShows (want_of c.args.call) c.args.before.now.value (map (λ (i : PoolInfo). i) c.args.part.infos.items) o) (same_info c.args.part.table_info) (c.requires.shown whole));
}

pub run_on-part-requires-clause-places : goal.run_on-part-requires-clause-places
run_on-part-requires-clause-places g c = c.requires.places

pub returns-clause-after : goal.returns-clause-after
returns-clause-after g c = record {
  wanted = refl;
  from = tt;
  long = not_short c.args.before.now.value c.args.call c.requires.runs;
  licensed = c.run_on-part.ensures.licensed;
  replied = c.run_on-part.ensures.replied;
  part = c.run_on-part.ensures.part;
}

pub returns-clause-of : goal.returns-clause-of
returns-clause-of g c = (refl, refl)

pub returns-clause-slack : goal.returns-clause-slack
returns-clause-slack g c = c.run_on-part.ensures.slack

pub returns-clause-spares : goal.returns-clause-spares
returns-clause-spares g c = c.run_on-part.ensures.shown

pub returns-clause-spare : goal.returns-clause-spare
returns-clause-spare g c = c.run_on-part.ensures.table_shown

pub returns-clause-faults : goal.returns-clause-faults
returns-clause-faults g c = λ few. c.what_comes_back.ensures.counts c.args.before.now.value c.args.call c.run_on-part.result.answer _ c.args.part.cells.items c.run_on-part.result.part.cells.items c.args.part.table c.run_on-part.result.part.table c.run_on-part.ensures
    (record { call_is = refl; env_is = refl; reply_is = refl; from = tt }) few

pub returns-clause-kept : goal.returns-clause-kept
returns-clause-kept g c = c.run_on-part.ensures.kept
