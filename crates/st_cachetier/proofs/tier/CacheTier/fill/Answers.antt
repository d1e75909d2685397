use Rattle.std.proofs.Common.{◌≡◌, ℕ, ◌+◌, ◌*◌, ◌%◌, List, refl, sym, ◌∙◌, ap, subst, arith}
use Rattle.std.specs.List.{slice_get}
use Rattle.st_units.specs.declared.rows.DevRow.{DevRow}
use Rattle.st_rack.specs.Device.{held}
use Rattle.st_rack.specs.Moments.{Goes}
use Rattle.st_rack.specs.Steps.{put_on}
use Rattle.st_ranges.specs.Ranges.{Works}
use Rattle.st_ranges.proofs.Working.{on_ok, runs_none}
use Rattle.st_cachemap.specs.Cached.{place_in}
use Rattle.st_cachetier.specs.Tier.{cache_ranges, copy_range}
use Rattle.st_cachetier.proofs.Copies.{filled, first_there, has_place, hit_copies}
use Rattle.st_cachetier.proofs.Lists.{all_err, all_some, none_some}
use Rattle.st_cachetier.proofs.tier.CacheTier.fill.Goals as goal

pub put_copy-requires-clause-place : goal.put_copy-requires-clause-place
put_copy-requires-clause-place g c = has_place c.touch.new.self c.args.cell c.in-Miss.place c.touch.ensures.cached (first_there c.args.self.now c.touch.new.self c.args.cell c.in-Miss.place c.in-Miss.ensures.entries c.touch.ensures.cached c.touch.ensures.list.capacity)

pub put_copy-requires-clause-in_rack : goal.put_copy-requires-clause-in_rack
put_copy-requires-clause-in_rack g c = λ k row is. c.requires.in_rack k row (ap (λ (rs : List DevRow). slice_get rs k) (sym c.touch.ensures.list.rows) ∙ is)

pub put_copy-requires-clause-whole : goal.put_copy-requires-clause-whole
put_copy-requires-clause-whole g c = ap (λ (n : ℕ). n % 512) c.requires.room

pub returns-in-Hit-clause-hit : goal.returns-in-Hit-clause-hit
returns-in-Hit-clause-hit g c = all_some (place_in c.args.self.now.list.entries c.args.cell) _ (refl, refl)

pub returns-in-Hit-clause-time : goal.returns-in-Hit-clause-time
returns-in-Hit-clause-time g c = runs_none g.R.Rack.moment g.R.Rack.state_at (cache_ranges c.args.self.now.rows) c.args.rack.now

pub returns-in-Hit-clause-copies : goal.returns-in-Hit-clause-copies
returns-in-Hit-clause-copies g c =
    let M = g.R.Rack.moment in
    let S = g.R.Rack.state_at in
    λ e r away copy same. hit_copies c.args.self.now c.touch.new.self c.args.cell c.in-Hit.field-0 (held (S c.args.rack.now (M c.args.rack.now))) c.touch.ensures.list.rows c.in-Hit.ensures.entries c.in-Hit.ensures.answer e r copy

pub returns-in-Miss-clause-missed : goal.returns-in-Miss-clause-missed
returns-in-Miss-clause-missed g c = all_err c.put_copy.result _ c.in-Miss.ensures.answer.0

pub returns-in-Miss-clause-hit : goal.returns-in-Miss-clause-hit
returns-in-Miss-clause-hit g c = none_some (place_in c.args.self.now.list.entries c.args.cell) _ c.in-Miss.ensures.answer.0

pub returns-in-Miss-clause-time : goal.returns-in-Miss-clause-time
returns-in-Miss-clause-time g c = subst (λ (rows : List DevRow). Goes g.R.Rack.moment g.R.Rack.state_at (Works (cache_ranges rows)) c.args.rack.now c.put_copy.new.rack) c.touch.ensures.list.rows c.put_copy.ensures.time

pub returns-in-Miss-clause-copies : goal.returns-in-Miss-clause-copies
returns-in-Miss-clause-copies g c =
    let M = g.R.Rack.moment in
    let S = g.R.Rack.state_at in
    let a = held (S c.args.rack.now (M c.args.rack.now)) in
    let b = held (S c.put_copy.new.rack (M c.put_copy.new.rack)) in
    let rows = c.touch.ensures.list.rows in
    let at = c.in-Miss.place in
    let first : (copy_range c.touch.new.self.rows at).1 + 512 * 0 ≡ (copy_range c.args.self.now.rows at).1 = (let same : (copy_range c.touch.new.self.rows at).1 ≡ (copy_range c.args.self.now.rows at).1 = ap (λ (rs : List DevRow). (copy_range rs at).1) rows in omega (arith, same)) in
    on_ok c.put_copy.result _ _
    (λ put. filled c.args.self.now c.touch.new.self c.args.cell at c.args.buf.now a b rows c.in-Miss.ensures.entries c.touch.ensures.cached c.touch.ensures.list.capacity c.touch.ensures.valid c.touch.ensures.full c.requires.room
    (put ∙ (λ i. put_on (copy_range (rows i) at).0 (first i) c.args.buf.now a))) c.put_copy.ensures.held
