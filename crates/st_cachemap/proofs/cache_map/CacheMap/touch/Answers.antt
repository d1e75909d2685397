use Rattle.std.proofs.Common.{◌∙◌, sym}
use Rattle.st_cachemap.proofs.Entries.{no_place}
use Rattle.st_cachemap.proofs.Touches.{hit_touched, miss_all}
use Rattle.st_cachemap.proofs.cache_map.CacheMap.touch.Goals as goal

pub miss-requires : goal.miss-requires
miss-requires c = no_place c.args.self.now.entries c.args.cell (sym c.peek.ensures.place ∙ c.in-None.is)

pub returns-in-Some-clause-cells : goal.returns-in-Some-clause-cells
returns-in-Some-clause-cells c = (hit_touched c.args.self.now c.hit.new.self c.args.cell c.in-Some.place c.peek.ensures.valid (sym c.peek.ensures.place ∙ c.in-Some.is) c.hit.ensures.counted).cells

pub returns-in-Some-clause-hits : goal.returns-in-Some-clause-hits
returns-in-Some-clause-hits c = (hit_touched c.args.self.now c.hit.new.self c.args.cell c.in-Some.place c.peek.ensures.valid (sym c.peek.ensures.place ∙ c.in-Some.is) c.hit.ensures.counted).hits

pub returns-in-Some-clause-misses : goal.returns-in-Some-clause-misses
returns-in-Some-clause-misses c = (hit_touched c.args.self.now c.hit.new.self c.args.cell c.in-Some.place c.peek.ensures.valid (sym c.peek.ensures.place ∙ c.in-Some.is) c.hit.ensures.counted).misses

pub returns-in-None-clause-entries : goal.returns-in-None-clause-entries
returns-in-None-clause-entries c = (miss_all c.args.self.now c.miss.new.self c.args.cell c.miss.result (sym c.peek.ensures.place ∙ c.in-None.is) (no_place c.args.self.now.entries c.args.cell (sym c.peek.ensures.place ∙ c.in-None.is)) c.miss.ensures.answer).entries

pub returns-in-None-clause-cells : goal.returns-in-None-clause-cells
returns-in-None-clause-cells c = (miss_all c.args.self.now c.miss.new.self c.args.cell c.miss.result (sym c.peek.ensures.place ∙ c.in-None.is) (no_place c.args.self.now.entries c.args.cell (sym c.peek.ensures.place ∙ c.in-None.is)) c.miss.ensures.answer).cells

pub returns-in-None-clause-hits : goal.returns-in-None-clause-hits
returns-in-None-clause-hits c = (miss_all c.args.self.now c.miss.new.self c.args.cell c.miss.result (sym c.peek.ensures.place ∙ c.in-None.is) (no_place c.args.self.now.entries c.args.cell (sym c.peek.ensures.place ∙ c.in-None.is)) c.miss.ensures.answer).hits

pub returns-in-None-clause-misses : goal.returns-in-None-clause-misses
returns-in-None-clause-misses c = (miss_all c.args.self.now c.miss.new.self c.args.cell c.miss.result (sym c.peek.ensures.place ∙ c.in-None.is) (no_place c.args.self.now.entries c.args.cell (sym c.peek.ensures.place ∙ c.in-None.is)) c.miss.ensures.answer).misses
