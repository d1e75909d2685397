use Rattle.std.proofs.Common.{◌≡◌, ℕ, ◌+◌, ◌*◌, ◌≤◌, List, length, refl, sym, ◌∙◌, ap, subst, arith}
use Rattle.st_fields.specs.Slot.{padded}
use Rattle.st_poolrec.specs.Record as pools
use Rattle.st_rack.specs.Device.{Path, held}
use Rattle.st_rack.proofs.Moments.{keeps_self}
use Rattle.st_slots.specs.Places.{Lies}
use Rattle.st_slots.specs.declared.spot.Area.{Area}
use Rattle.st_image.specs.Looks.{pool_area}
use Rattle.st_image.specs.Bears.{paths}
use Rattle.st_books.proofs.Texts.{record_short}
use Rattle.st_starting.specs.declared.outcome.Start.TheVariants as starts
use Rattle.st_starting.specs.Alike.{StandsAlike}
use Rattle.st_starting.specs.Found.{sized}
use Rattle.st_starting.proofs.Devices.{paths_sized}
use Rattle.st_starting.proofs.Mended.{Repaired, Done, alike_self}
use Rattle.st_starting.proofs.Finished.{alike, gone, newest_until, on_lie, on_ok, ready, record_fits, the_newest, unwritten_gone, unwritten_ready}
use Rattle.st_starting.proofs.starting.finish.Goals as goal

-- what a repair is given: the slots, the devices and the record
abbrev Args : Type 0
Args = Area × List Path × List ℕ

same_args : (a b : Area) (ds es : List Path) (x y : List ℕ) → a ≡ b → ds ≡ es → x ≡ y → ◌≡◌ {A = Args} (a, ds, x) (b, es, y)
same_args a b ds es x y o p q = λ i. (o i, p i, q i)

pub repair-requires-clause-lie : goal.repair-requires-clause-lie
repair-requires-clause-lie g c =
    let M = g.R.Rack.moment in
    let S = g.R.Rack.state_at in
    let p = c.args.serial in
    let rack = g.R.Rack.devs c.args.rack.now in
    let list = c.args.devs.now in
    let r1 = c.args.rack.now in
    let n = c.in-Some.newest in
    let newest = the_newest M S p c.number-number.ensures.first rack list c.paths_rise.ensures c.requires.there r1 r1 c.requires.settled (record { start = c.requires.found.0; newest = c.args.newest }) c.requires.found.1 n c.in-Some.is in
    λ d of. subst (λ (a : Area). Lies rack d a) (sym c.pool_area.ensures) (on_lie p rack list c.requires.there (held (S r1 (M r1))) n.generation newest.rec newest.on d of)

pub repair-requires-clause-from : goal.repair-requires-clause-from
repair-requires-clause-from g c =
    let M = g.R.Rack.moment in
    let S = g.R.Rack.state_at in
    let p = c.args.serial in
    let rack = g.R.Rack.devs c.args.rack.now in
    let list = c.args.devs.now in
    let r1 = c.args.rack.now in
    let n = c.in-Some.newest in
    let newest = the_newest M S p c.number-number.ensures.first rack list c.paths_rise.ensures c.requires.there r1 r1 c.requires.settled (record { start = c.requires.found.0; newest = c.args.newest }) c.requires.found.1 n c.in-Some.is in
    (newest_until p rack list (held (S r1 (M r1))) n.generation newest.rec newest.on).0

pub repair-requires-clause-until : goal.repair-requires-clause-until
repair-requires-clause-until g c =
    let M = g.R.Rack.moment in
    let S = g.R.Rack.state_at in
    let p = c.args.serial in
    let rack = g.R.Rack.devs c.args.rack.now in
    let list = c.args.devs.now in
    let r1 = c.args.rack.now in
    let n = c.in-Some.newest in
    let newest = the_newest M S p c.number-number.ensures.first rack list c.paths_rise.ensures c.requires.there r1 r1 c.requires.settled (record { start = c.requires.found.0; newest = c.args.newest }) c.requires.found.1 n c.in-Some.is in
    (newest_until p rack list (held (S r1 (M r1))) n.generation newest.rec newest.on).1

pub repair-requires-clause-fits : goal.repair-requires-clause-fits
repair-requires-clause-fits g c =
    let M = g.R.Rack.moment in
    let S = g.R.Rack.state_at in
    let p = c.args.serial in
    let rack = g.R.Rack.devs c.args.rack.now in
    let list = c.args.devs.now in
    let r1 = c.args.rack.now in
    let n = c.in-Some.newest in
    let newest = the_newest M S p c.number-number.ensures.first rack list c.paths_rise.ensures c.requires.there r1 r1 c.requires.settled (record { start = c.requires.found.0; newest = c.args.newest }) c.requires.found.1 n c.in-Some.is in
    subst (λ (x : List ℕ × Area). 64 + length x.0 ≤ 512 * x.1.slot) (λ i. (sym (c.items.ensures ∙ newest.text) i, sym c.pool_area.ensures i)) (record_fits (length (pools.record_text newest.rec)) (record_short newest.rec newest.on.bears.is))

pub repair-requires-clause-room : goal.repair-requires-clause-room
repair-requires-clause-room g c =
    let M = g.R.Rack.moment in
    let S = g.R.Rack.state_at in
    let p = c.args.serial in
    let rack = g.R.Rack.devs c.args.rack.now in
    let list = c.args.devs.now in
    let r1 = c.args.rack.now in
    let n = c.in-Some.newest in
    let newest = the_newest M S p c.number-number.ensures.first rack list c.paths_rise.ensures c.requires.there r1 r1 c.requires.settled (record { start = c.requires.found.0; newest = c.args.newest }) c.requires.found.1 n c.in-Some.is in
    ap length c.deref_mut.ensures.value ∙ newest.work ∙ ap (λ (t : List ℕ). padded (64 + length t)) (sym c.items.ensures)

pub returns-in-None-clause-devs : goal.returns-in-None-clause-devs
returns-in-None-clause-devs g c =
    refl

pub returns-in-None-clause-spare : goal.returns-in-None-clause-spare
returns-in-None-clause-spare g c =
    refl

pub returns-in-None-clause-cause : goal.returns-in-None-clause-cause
returns-in-None-clause-cause g c =
    λ e. absurd (cc)

pub returns-in-None-clause-faults : goal.returns-in-None-clause-faults
returns-in-None-clause-faults g c =
    omega arith

pub returns-in-None-clause-during : goal.returns-in-None-clause-during
returns-in-None-clause-during g c =
    let M = g.R.Rack.moment in
    let S = g.R.Rack.state_at in
    let p = c.args.serial in
    let rack = g.R.Rack.devs c.args.rack.now in
    let list = c.args.devs.now in
    let r1 = c.args.rack.now in
    keeps_self M S (StandsAlike p (sized rack list) (S r1 (M r1))) r1 (alike_self p (sized rack list) (S r1 (M r1)))

pub returns-in-None-clause-ready : goal.returns-in-None-clause-ready
returns-in-None-clause-ready g c =
    let M = g.R.Rack.moment in
    let S = g.R.Rack.state_at in
    let p = c.args.serial in
    let rack = g.R.Rack.devs c.args.rack.now in
    let list = c.args.devs.now in
    let r1 = c.args.rack.now in
    λ b found. absurd (unwritten_ready p rack list (held (S r1 (M r1))) (record { start = starts.Ready b; newest = c.args.newest }) found c.in-None.is b refl)

pub returns-in-None-clause-settled : goal.returns-in-None-clause-settled
returns-in-None-clause-settled g c =
    c.requires.settled

pub returns-in-None-clause-gone : goal.returns-in-None-clause-gone
returns-in-None-clause-gone g c =
    let M = g.R.Rack.moment in
    let S = g.R.Rack.state_at in
    let p = c.args.serial in
    let rack = g.R.Rack.devs c.args.rack.now in
    let list = c.args.devs.now in
    let r1 = c.args.rack.now in
    λ n found. absurd (unwritten_gone p rack list (held (S r1 (M r1))) (record { start = starts.Gone n; newest = c.args.newest }) found c.in-None.is n refl)

pub returns-in-Some-clause-devs : goal.returns-in-Some-clause-devs
returns-in-Some-clause-devs g c =
    c.repair.ensures.devs

pub returns-in-Some-clause-spare : goal.returns-in-Some-clause-spare
returns-in-Some-clause-spare g c =
    c.repair.ensures.spare

pub returns-in-Some-clause-cause : goal.returns-in-Some-clause-cause
returns-in-Some-clause-cause g c =
    c.repair.ensures.cause

pub returns-in-Some-clause-faults : goal.returns-in-Some-clause-faults
returns-in-Some-clause-faults g c =
    c.repair.ensures.faults

pub returns-in-Some-clause-during : goal.returns-in-Some-clause-during
returns-in-Some-clause-during g c =
    let M = g.R.Rack.moment in
    let S = g.R.Rack.state_at in
    let p = c.args.serial in
    let rack = g.R.Rack.devs c.args.rack.now in
    let list = c.args.devs.now in
    let r1 = c.args.rack.now in
    let n = c.in-Some.newest in
    let r2 = c.repair.new.rack in
    let newest = the_newest M S p c.number-number.ensures.first rack list c.paths_rise.ensures c.requires.there r1 r2 c.requires.settled (record { start = c.requires.found.0; newest = c.args.newest }) c.requires.found.1 n c.in-Some.is in
    let env = same_args c.pool_area.result pool_area list (paths (sized rack list)) c.items.result.now (pools.record_text newest.rec) c.pool_area.ensures (sym (paths_sized rack list)) (c.items.ensures ∙ newest.text) in
    let did = subst (λ (x : Args). Repaired M S x.0 x.1 n.generation x.2 r1 r2) env (record { spares = c.repair.ensures.spares; during = c.repair.ensures.during; slots = c.repair.ensures.slots; logs = c.repair.ensures.logs }) in
    alike M S p c.number-number.ensures.first rack list c.paths_rise.ensures c.requires.there r1 r2 c.requires.settled (record { start = c.requires.found.0; newest = c.args.newest }) c.requires.found.1 n c.in-Some.is did

pub returns-in-Some-clause-ready : goal.returns-in-Some-clause-ready
returns-in-Some-clause-ready g c =
    let M = g.R.Rack.moment in
    let S = g.R.Rack.state_at in
    let p = c.args.serial in
    let rack = g.R.Rack.devs c.args.rack.now in
    let list = c.args.devs.now in
    let r1 = c.args.rack.now in
    let n = c.in-Some.newest in
    let r2 = c.repair.new.rack in
    λ b found.
    let newest = the_newest M S p c.number-number.ensures.first rack list c.paths_rise.ensures c.requires.there r1 r2 c.requires.settled (record { start = starts.Ready b; newest = c.args.newest }) found n c.in-Some.is in
    let env = same_args c.pool_area.result pool_area list (paths (sized rack list)) c.items.result.now (pools.record_text newest.rec) c.pool_area.ensures (sym (paths_sized rack list)) (c.items.ensures ∙ newest.text) in
    let did = subst (λ (x : Args). Repaired M S x.0 x.1 n.generation x.2 r1 r2) env (record { spares = c.repair.ensures.spares; during = c.repair.ensures.during; slots = c.repair.ensures.slots; logs = c.repair.ensures.logs }) in
    on_ok _ _ c.repair.result (λ done. ready M S p c.number-number.ensures.first rack list c.paths_rise.ensures c.requires.there r1 r2 c.requires.settled (record { start = starts.Ready b; newest = c.args.newest }) found n c.in-Some.is did (subst (λ (x : Args). Done x.0 x.1 n.generation x.2 (S r1 (M r1)) (S r2 (M r2))) env done) b refl) c.repair.ensures.done

pub returns-in-Some-clause-settled : goal.returns-in-Some-clause-settled
returns-in-Some-clause-settled g c =
    on_ok _ _ c.repair.result (λ still d of. still d (c.requires.settled d of)) c.repair.ensures.settled

pub returns-in-Some-clause-gone : goal.returns-in-Some-clause-gone
returns-in-Some-clause-gone g c =
    let M = g.R.Rack.moment in
    let S = g.R.Rack.state_at in
    let p = c.args.serial in
    let rack = g.R.Rack.devs c.args.rack.now in
    let list = c.args.devs.now in
    let r1 = c.args.rack.now in
    let n = c.in-Some.newest in
    let r2 = c.repair.new.rack in
    λ n' found.
    let newest = the_newest M S p c.number-number.ensures.first rack list c.paths_rise.ensures c.requires.there r1 r2 c.requires.settled (record { start = starts.Gone n'; newest = c.args.newest }) found n c.in-Some.is in
    let env = same_args c.pool_area.result pool_area list (paths (sized rack list)) c.items.result.now (pools.record_text newest.rec) c.pool_area.ensures (sym (paths_sized rack list)) (c.items.ensures ∙ newest.text) in
    let did = subst (λ (x : Args). Repaired M S x.0 x.1 n.generation x.2 r1 r2) env (record { spares = c.repair.ensures.spares; during = c.repair.ensures.during; slots = c.repair.ensures.slots; logs = c.repair.ensures.logs }) in
    on_ok _ _ c.repair.result (λ done. gone M S p c.number-number.ensures.first rack list c.paths_rise.ensures c.requires.there r1 r2 c.requires.settled (record { start = starts.Gone n'; newest = c.args.newest }) found n c.in-Some.is did (subst (λ (x : Args). Done x.0 x.1 n.generation x.2 (S r1 (M r1)) (S r2 (M r2))) env done) n' refl) c.repair.ensures.done
