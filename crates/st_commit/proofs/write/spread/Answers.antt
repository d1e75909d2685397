use Rattle.std.proofs.Common.{◌≡◌, ◌≢◌, inl, inr, ◌≤◌, ◌+◌, ◌*◌, ◌%◌, ◌^◌, ℕ, length, List, Some, refl, sym, ◌∙◌, ap, subst, arith}
use Rattle.std.proofs.Math.Nat.{mul-le-mul_right}
use Rattle.std.specs.List.{slice_get}
use Rattle.std.proofs.lemmas.Bool.{cases_lt}
use Rattle.st_fields.specs.Slot.{slot_bytes}
use Rattle.st_rack.specs.Device.{Path, State}
use Rattle.st_rack.specs.Moments.{Goes, OnDevice}
use Rattle.st_rack.specs.Steps.{Rewriting, Rewritten}
use Rattle.st_rack.specs.Calls.{Devices}
use Rattle.st_rack.proofs.Moments.{keeps_on, keeps_self}
use Rattle.st_slots.specs.Places.{Lies, slot_at}
use Rattle.st_slots.specs.declared.spot.Area.{Area}
use Rattle.st_slots.proofs.Running.{sector_within}
use Rattle.st_slots.proofs.Texts.{length-slot_bytes}
use Rattle.st_commit.specs.Standing.{Only, standing_of}
use Rattle.st_commit.specs.Ready.{BearsRecord, NoOther}
use Rattle.st_commit.proofs.Steps.{certain}
use Rattle.st_commit.proofs.Settled.{settled_start, settled_on}
use Rattle.st_commit.proofs.Frame.{spares_on, spares_still}
use Rattle.st_commit.proofs.Known.{known_left}
use Rattle.st_commit.proofs.Whole.{based_sure}
use Rattle.st_commit.proofs.Writes.{write_spares, write_known, write_known_done, write_other, write_other_ready, write_other_bears, write_other_stays}
use Rattle.st_commit.proofs.write.spread.Goals as goal

not_first : (i : ℕ) → 1 ≤ i → i ≡ 0 → ⊥
not_first i le e = omega (arith, le, e)

some_inj : (a b : Path) → Some a ≡ Some b → a ≡ b
some_inj a b e = cc

small_of : {devs : Devices} {d : Path} {pool : Area} → Lies devs d pool → pool.slot ≤ 2 ^ 32
small_of lies = omega (arith, lies.small)

-- what was written, and what is being written, is the text
told : {D : Type 0} (M : D → ℕ) (S : D → ℕ → State) (dev : Path) (at : ℕ) (old new : D) (text bytes : List ℕ) → text ≡ bytes → Goes M S (OnDevice dev (Rewriting at text)) old new → Goes M S (OnDevice dev (Rewriting at bytes)) old new
told M S dev at old new text bytes e run = subst (λ (b : List ℕ). Goes M S (OnDevice dev (Rewriting at b)) old new) e run

wrote : (at : ℕ) (dev : Path) (old new : State) (text bytes : List ℕ) → text ≡ bytes → OnDevice dev (Rewritten at text) old new → OnDevice dev (Rewritten at bytes) old new
wrote at dev old new text bytes e done = subst (λ (b : List ℕ). OnDevice dev (Rewritten at b) old new) e done

pub overflow_add-sector : goal.overflow_add-sector
overflow_add-sector g c =
    let le : c.args.generation % 2 ≤ 1 = omega arith in
    let half = mul-le-mul_right c.args.pool.now.slot le in
    omega (arith, half, c.requires.small)

pub write_synced-requires : goal.write_synced-requires
write_synced-requires g c =
    let pool = c.args.pool.now in
    let G = c.args.generation in
    let rec = c.args.rec.now in
    let dev = c.at.result.now in
    let lies = subst (λ (all : Devices). Lies all dev pool) (sym c.loop-i.invariant.devs) (c.requires.lie dev (record { index = c.loop-i.i; is = c.at.ensures })) in
    sector_within (g.R.Rack.devs c.loop-i.rack) dev pool (G % 2) (64 + length rec) (length c.args.text.now) lies (omega arith) c.requires.fits (omega arith)
    (ap (λ (b : List ℕ). length b) c.requires.text ∙ length-slot_bytes pool.magic rec G c.requires.eight)

pub loop-i-init : goal.loop-i-init
loop-i-init g c =
    let M = g.R.Rack.moment in
    let S = g.R.Rack.state_at in
    let pool = c.args.pool.now in
    let devs = c.args.devs.now in
    let G = c.args.generation in
    let rec = c.args.rec.now in
    let rack = c.args.rack.now in
    let before = S rack (M rack) in
    record {
      devs = refl;
      reads = refl;
      spare = refl;
      faults = omega arith;
      spares = spares_still pool G devs M S rack;
      others = λ start known. keeps_self M S (NoOther pool devs G rec start) rack (known_left pool devs G rec start before known.meant);
      known = λ start known. known;
      during = λ flex p up h first log sound head is ready.
          keeps_self M S (Only pool flex p devs first (standing_of G rec (Some log))) rack
          (λ image leaves. (let both = certain pool flex p h devs first G head sound before (Some log) (based_sure pool flex p up G (h G) (Some log) (before first) ready.base) ready.slots image leaves in
          (both.0, both.1 ∙ ap (λ (b : List ℕ). standing_of G b (Some log)) is)));
      done = λ flex p up h first log sound head is ready. (
        ready,
        λ j d lt there.
            let zero_is : j ≡ 0 = omega (arith, lt) in
            let e : first ≡ d = some_inj first d (sym head ∙ ap (slice_get devs) (sym zero_is) ∙ there) in
            subst (λ (q : Path). BearsRecord pool G rec (before q)) e (subst (λ (b : List ℕ). BearsRecord pool G b (before first)) is ready.base.0),
      );
      settled = settled_start M S devs rack;
    }

pub returns-in_err-write_synced-clause-spares : goal.returns-in_err-write_synced-clause-spares
returns-in_err-write_synced-clause-spares g c =
    spares_on c.args.pool.now c.args.generation c.args.devs.now g.R.Rack.moment g.R.Rack.state_at c.args.rack.now c.loop-i.rack c.write_synced.new.rack c.loop-i.invariant.spares
    (write_spares g.R.Rack.moment g.R.Rack.state_at c.args.pool.now c.args.devs.now c.args.generation c.args.rec.now c.at.result.now c.loop-i.rack c.write_synced.new.rack c.requires.eight c.requires.from c.requires.until (small_of (c.requires.lie c.at.result.now (record { index = c.loop-i.i; is = c.at.ensures }))) c.requires.fits (record { index = c.loop-i.i; is = c.at.ensures }) (told g.R.Rack.moment g.R.Rack.state_at c.at.result.now (slot_at c.args.pool.now c.args.generation) c.loop-i.rack c.write_synced.new.rack c.args.text.now (slot_bytes c.args.pool.now.magic c.args.generation c.args.rec.now) c.requires.text c.write_synced.ensures.time))

pub returns-in_err-write_synced-clause-others : goal.returns-in_err-write_synced-clause-others
returns-in_err-write_synced-clause-others g c =
    λ start known. keeps_on g.R.Rack.moment g.R.Rack.state_at (NoOther c.args.pool.now c.args.devs.now c.args.generation c.args.rec.now start) c.args.rack.now c.loop-i.rack c.write_synced.new.rack
    (c.loop-i.invariant.others start known) (write_known g.R.Rack.moment g.R.Rack.state_at c.args.pool.now c.args.devs.now c.args.generation c.args.rec.now c.at.result.now c.loop-i.rack c.write_synced.new.rack c.requires.eight c.requires.from c.requires.until (small_of (c.requires.lie c.at.result.now (record { index = c.loop-i.i; is = c.at.ensures }))) c.requires.fits (told g.R.Rack.moment g.R.Rack.state_at c.at.result.now (slot_at c.args.pool.now c.args.generation) c.loop-i.rack c.write_synced.new.rack c.args.text.now (slot_bytes c.args.pool.now.magic c.args.generation c.args.rec.now) c.requires.text c.write_synced.ensures.time) start (c.loop-i.invariant.known start known))

pub returns-in_err-write_synced-clause-during : goal.returns-in_err-write_synced-clause-during
returns-in_err-write_synced-clause-during g c =
    let i = c.loop-i.i in
    let low : 1 ≤ i = omega arith in
    λ flex p up h first log sound head is ready.
    let now = (c.loop-i.invariant.done flex p up h first log sound head is ready).0 in
    let ne : c.at.result.now ≢ first = (λ e. not_first i low (c.requires.distinct i 0 first (c.at.ensures ∙ ap (λ (q : Path). Some q) e) head)) in
    keeps_on g.R.Rack.moment g.R.Rack.state_at (Only c.args.pool.now flex p c.args.devs.now first (standing_of c.args.generation c.args.rec.now (Some log))) c.args.rack.now c.loop-i.rack c.write_synced.new.rack
    (c.loop-i.invariant.during flex p up h first log sound head is ready)
    (write_other g.R.Rack.moment g.R.Rack.state_at c.args.pool.now c.args.devs.now c.args.generation c.args.rec.now c.at.result.now c.loop-i.rack c.write_synced.new.rack c.requires.eight c.requires.from c.requires.until (small_of (c.requires.lie c.at.result.now (record { index = c.loop-i.i; is = c.at.ensures }))) c.requires.fits flex p up h first log sound head is ne now (told g.R.Rack.moment g.R.Rack.state_at c.at.result.now (slot_at c.args.pool.now c.args.generation) c.loop-i.rack c.write_synced.new.rack c.args.text.now (slot_bytes c.args.pool.now.magic c.args.generation c.args.rec.now) c.requires.text c.write_synced.ensures.time))

pub loop-i-preserved : goal.loop-i-preserved
loop-i-preserved g c =
    let M = g.R.Rack.moment in
    let S = g.R.Rack.state_at in
    let pool = c.args.pool.now in
    let devs = c.args.devs.now in
    let G = c.args.generation in
    let rec = c.args.rec.now in
    let dev = c.at.result.now in
    let i = c.loop-i.i in
    let low : 1 ≤ i = omega arith in
    let r0 = c.args.rack.now in
    let r1 = c.loop-i.rack in
    let r2 = c.write_synced.new.rack in
    let run = told M S dev (slot_at pool G) r1 r2 c.args.text.now (slot_bytes pool.magic G rec) c.requires.text c.write_synced.ensures.time in
    let done = wrote (slot_at pool G) dev (S r1 (M r1)) (S r2 (M r2)) c.args.text.now (slot_bytes pool.magic G rec) c.requires.text c.in_ok-write_synced.ensures.done in
    record {
      devs = c.write_synced.ensures.devs ∙ c.loop-i.invariant.devs;
      reads = c.write_synced.ensures.reads ∙ c.loop-i.invariant.reads;
      spare = c.write_synced.ensures.spare ∙ c.loop-i.invariant.spare;
      faults = omega (arith, c.loop-i.invariant.faults, c.write_synced.ensures.cause.later);
      spares = spares_on pool G devs M S r0 r1 r2 c.loop-i.invariant.spares (write_spares g.R.Rack.moment g.R.Rack.state_at c.args.pool.now c.args.devs.now c.args.generation c.args.rec.now c.at.result.now c.loop-i.rack c.write_synced.new.rack c.requires.eight c.requires.from c.requires.until (small_of (c.requires.lie c.at.result.now (record { index = c.loop-i.i; is = c.at.ensures }))) c.requires.fits (record { index = i; is = c.at.ensures }) run);
      others = λ start known. keeps_on M S (NoOther pool devs G rec start) r0 r1 r2 (c.loop-i.invariant.others start known)
          (write_known g.R.Rack.moment g.R.Rack.state_at c.args.pool.now c.args.devs.now c.args.generation c.args.rec.now c.at.result.now c.loop-i.rack c.write_synced.new.rack c.requires.eight c.requires.from c.requires.until (small_of (c.requires.lie c.at.result.now (record { index = c.loop-i.i; is = c.at.ensures }))) c.requires.fits run start (c.loop-i.invariant.known start known));
      known = λ start known. write_known_done g.R.Rack.moment g.R.Rack.state_at c.args.pool.now c.args.devs.now c.args.generation c.args.rec.now c.at.result.now c.loop-i.rack c.write_synced.new.rack c.requires.eight c.requires.from c.requires.until (small_of (c.requires.lie c.at.result.now (record { index = c.loop-i.i; is = c.at.ensures }))) c.requires.fits done start (c.loop-i.invariant.known start known);
      during = λ flex p up h first log sound head is ready.
          let now = (c.loop-i.invariant.done flex p up h first log sound head is ready).0 in
          let ne : dev ≢ first = (λ e. not_first i low (c.requires.distinct i 0 first (c.at.ensures ∙ ap (λ (q : Path). Some q) e) head)) in
          keeps_on M S (Only pool flex p devs first (standing_of G rec (Some log))) r0 r1 r2 (c.loop-i.invariant.during flex p up h first log sound head is ready)
          (write_other g.R.Rack.moment g.R.Rack.state_at c.args.pool.now c.args.devs.now c.args.generation c.args.rec.now c.at.result.now c.loop-i.rack c.write_synced.new.rack c.requires.eight c.requires.from c.requires.until (small_of (c.requires.lie c.at.result.now (record { index = c.loop-i.i; is = c.at.ensures }))) c.requires.fits flex p up h first log sound head is ne now run);
      done = λ flex p up h first log sound head is ready.
          let before = c.loop-i.invariant.done flex p up h first log sound head is ready in
          let ne : dev ≢ first = (λ e. not_first i low (c.requires.distinct i 0 first (c.at.ensures ∙ ap (λ (q : Path). Some q) e) head)) in (
            write_other_ready g.R.Rack.moment g.R.Rack.state_at c.args.pool.now c.args.devs.now c.args.generation c.args.rec.now c.at.result.now c.loop-i.rack c.write_synced.new.rack c.requires.eight c.requires.from c.requires.until (small_of (c.requires.lie c.at.result.now (record { index = c.loop-i.i; is = c.at.ensures }))) c.requires.fits flex p up h first log sound head is ne before.0 done,
            λ j d lt there. elim (cases_lt j i) [
              | inl below ↦ write_other_stays g.R.Rack.moment g.R.Rack.state_at c.args.pool.now c.args.devs.now c.args.generation c.args.rec.now c.at.result.now c.loop-i.rack c.write_synced.new.rack c.requires.eight c.requires.from c.requires.until (small_of (c.requires.lie c.at.result.now (record { index = c.loop-i.i; is = c.at.ensures }))) c.requires.fits flex p up h first log sound head is ne before.0 done d (before.1 j d below there)
              | inr from ↦
                  let here : i ≡ j = omega (arith, lt, from) in
                  let e : dev ≡ d = some_inj dev d (sym c.at.ensures ∙ ap (slice_get devs) here ∙ there) in
                  subst (λ (q : Path). BearsRecord pool G rec (S r2 (M r2) q)) e (write_other_bears g.R.Rack.moment g.R.Rack.state_at c.args.pool.now c.args.devs.now c.args.generation c.args.rec.now c.at.result.now c.loop-i.rack c.write_synced.new.rack c.requires.eight c.requires.from c.requires.until (small_of (c.requires.lie c.at.result.now (record { index = c.loop-i.i; is = c.at.ensures }))) c.requires.fits flex p up h first log sound head is ne before.0 done)
            ],
          );
      settled = settled_on M S devs i dev (slot_at pool G) (slot_bytes pool.magic G rec) r0 r1 r2 c.requires.distinct c.at.ensures done c.loop-i.invariant.settled;
    }

pub returns-clause-done : goal.returns-clause-done
returns-clause-done g c =
    λ flex p up h first log sound head is ready.
    let all = c.loop-i.invariant.done flex p up h first log sound head is ready in
    (all.0, λ j d lt there. all.1 j d (omega arith) there)

pub returns-clause-settled : goal.returns-clause-settled
returns-clause-settled g c = λ first j d lt there. c.loop-i.invariant.settled first j d (omega (arith, lt)) there
