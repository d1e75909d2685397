use Rattle.std.proofs.Common.{ℕ, ◌+◌, ◌*◌, ◌∷◌, [], length, ap, arith}
use Rattle.st_cachemap.specs.Cached.{place_in}
use Rattle.st_rack.specs.Device.{held}
use Rattle.st_ranges.specs.Ranges.{Range}
use Rattle.st_ranges.proofs.Working.{off_first, off_rest, runs_end, runs_more, runs_on}
use Rattle.st_cachetier.specs.Tier.{cache_ranges}
use Rattle.st_cachetier.proofs.Copies.{through_held, through_other, through_own}
use Rattle.st_cachetier.proofs.Lists.{all_ok, both_ok, some_at}
use Rattle.st_cachetier.proofs.Settled.{settles, stays_sure}
use Rattle.st_cachetier.proofs.tier.CacheTier.write_through.Goals as goal

pub overflow_add-sector : goal.overflow_add-sector
overflow_add-sector g c = omega (arith, c.requires.end, c.requires.inside, c.requires.some)

pub write_synced-requires : goal.write_synced-requires
write_synced-requires g c = record {
  sectors = c.requires.origin.sectors;
  has = c.requires.origin.has;
  whole = c.requires.whole;
  some = c.requires.some;
  within = omega (arith, c.requires.origin.within, c.requires.inside);
}

pub returns-in_err-write_synced-clause-time : goal.returns-in_err-write_synced-clause-time
returns-in_err-write_synced-clause-time g c =
    let q : Range = (c.args.dev.now, 512 * (c.args.sector + c.args.offset), length c.args.bytes.now) in
    let ranges = cache_ranges c.args.self.now.rows in
    runs_more g.R.Rack.moment g.R.Rack.state_at (q ∷ ranges) (q ∷ []) c.args.rack.now c.write_synced.new.rack (off_first q ranges) c.write_synced.ensures.time

pub returns-clause-time : goal.returns-clause-time
returns-clause-time g c =
    let M = g.R.Rack.moment in
    let S = g.R.Rack.state_at in
    let q : Range = (c.args.dev.now, 512 * (c.args.sector + c.args.offset), length c.args.bytes.now) in
    let ranges = cache_ranges c.args.self.now.rows in
    runs_on M S (q ∷ ranges) c.args.rack.now c.write_synced.new.rack c.update.new.rack
    (runs_more M S (q ∷ ranges) (q ∷ []) c.args.rack.now c.write_synced.new.rack (off_first q ranges) c.write_synced.ensures.time)
    (runs_more M S (q ∷ ranges) ranges c.write_synced.new.rack c.update.new.rack (off_rest q ranges) c.update.ensures.time)

pub returns-clause-held : goal.returns-clause-held
returns-clause-held g c =
    let M = g.R.Rack.moment in
    let S = g.R.Rack.state_at in
    let old = c.args.self.now in
    let a = held (S c.args.rack.now (M c.args.rack.now)) in
    let m = held (S c.write_synced.new.rack (M c.write_synced.new.rack)) in
    let b = held (S c.update.new.rack (M c.update.new.rack)) in
    both_ok c.update.result _ _ _
    (λ promoted cached. through_held old c.update.new.self c.args.cell c.args.dev.now c.args.sector c.args.offset c.args.bytes.now a m b promoted.rows c.update.ensures.places c.update.ensures.below c.requires.elsewhere c.requires.inside c.in_ok-write_synced.ensures.held
    (some_at (place_in old.list.entries c.args.cell) _ cached) (λ none. ap held (c.update.ensures.absent none))) c.update.ensures.list c.update.ensures.cached

pub returns-clause-sure : goal.returns-clause-sure
returns-clause-sure g c =
    let M = g.R.Rack.moment in
    let S = g.R.Rack.state_at in
    let at : ℕ = 512 * (c.args.sector + c.args.offset) in
    let n : ℕ = length c.args.bytes.now in
    let rows = c.args.self.now.rows in
    all_ok c.update.result _ (stays_sure rows c.args.dev.now at n (S c.args.rack.now (M c.args.rack.now)) (S c.write_synced.new.rack (M c.write_synced.new.rack)) (S c.update.new.rack (M c.update.new.rack)) c.requires.elsewhere
    (runs_end M S ((c.args.dev.now, at, n) ∷ []) c.args.rack.now c.write_synced.new.rack c.write_synced.ensures.time)
    (runs_end M S (cache_ranges rows) c.write_synced.new.rack c.update.new.rack c.update.ensures.time) c.in_ok-write_synced.ensures.sure)

pub returns-clause-settled : goal.returns-clause-settled
returns-clause-settled g c =
    let M = g.R.Rack.moment in
    let S = g.R.Rack.state_at in
    let at : ℕ = 512 * (c.args.sector + c.args.offset) in
    let n : ℕ = length c.args.bytes.now in
    let rows = c.args.self.now.rows in
    all_ok c.update.result _ (settles rows c.args.dev.now at n (S c.args.rack.now (M c.args.rack.now)) (S c.write_synced.new.rack (M c.write_synced.new.rack)) (S c.update.new.rack (M c.update.new.rack)) c.requires.elsewhere
    (runs_end M S ((c.args.dev.now, at, n) ∷ []) c.args.rack.now c.write_synced.new.rack c.write_synced.ensures.time)
    (runs_end M S (cache_ranges rows) c.write_synced.new.rack c.update.new.rack c.update.ensures.time) c.in_ok-write_synced.ensures.sure)

pub returns-clause-own : goal.returns-clause-own
returns-clause-own g c =
    let M = g.R.Rack.moment in
    let S = g.R.Rack.state_at in
    let old = c.args.self.now in
    let a = held (S c.args.rack.now (M c.args.rack.now)) in
    let m = held (S c.write_synced.new.rack (M c.write_synced.new.rack)) in
    let b = held (S c.update.new.rack (M c.update.new.rack)) in
    both_ok c.update.result _ _ _
    (λ promoted cached. through_own old c.update.new.self c.args.cell c.args.dev.now c.args.sector c.args.offset c.args.bytes.now a m b promoted.rows c.update.ensures.places c.update.ensures.below c.requires.elsewhere c.requires.inside c.in_ok-write_synced.ensures.held
    (some_at (place_in old.list.entries c.args.cell) _ cached) (λ none. ap held (c.update.ensures.absent none))) c.update.ensures.list c.update.ensures.cached

pub returns-clause-others : goal.returns-clause-others
returns-clause-others g c =
    let M = g.R.Rack.moment in
    let S = g.R.Rack.state_at in
    let old = c.args.self.now in
    let a = held (S c.args.rack.now (M c.args.rack.now)) in
    let m = held (S c.write_synced.new.rack (M c.write_synced.new.rack)) in
    let b = held (S c.update.new.rack (M c.update.new.rack)) in
    both_ok c.update.result _ _ _
    (λ promoted cached. λ e r ne away apart copy. through_other old c.update.new.self c.args.cell c.args.dev.now c.args.sector c.args.offset c.args.bytes.now a m b promoted.rows c.update.ensures.places c.update.ensures.below c.requires.elsewhere c.requires.inside c.in_ok-write_synced.ensures.held
    (some_at (place_in old.list.entries c.args.cell) _ cached) (λ none. ap held (c.update.ensures.absent none)) e r ne away apart (c.update.ensures.apart e) copy) c.update.ensures.list c.update.ensures.cached
