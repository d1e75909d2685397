use Rattle.std.proofs.Common.{◌≡◌, inl, inr, ◌%◌, ◌≤◌, ◌^◌, ℕ, List, length, Some, refl, sym, ◌∙◌, ap, subst, arith}
use Rattle.std.specs.List.{slice_get}
use Rattle.std.proofs.lemmas.Bool.{cases_lt}
use Rattle.std.proofs.lemmas.Option.{slice_get_within}
use Rattle.st_fields.specs.Slot.{slot_bytes}
use Rattle.st_rack.specs.Device.{Path}
use Rattle.st_rack.specs.Steps.{Rewriting}
use Rattle.st_rack.specs.Moments.{OnDevice, Keeps}
use Rattle.st_rack.proofs.Look.{same_or_other}
use Rattle.st_rack.proofs.Moments.{goes_keeps, keeps_on, keeps_self}
use Rattle.st_slots.specs.Places.{slot_at}
use Rattle.st_slots.specs.Reading.{read_any}
use Rattle.st_slots.proofs.Running.{same}
use Rattle.st_slots.proofs.Places.{slot_is}
use Rattle.st_deltalog.specs.Bearing.{Rests}
use Rattle.st_commit.specs.Ready.{IsOf, AllSlots, BearsRecord, Ranked}
use Rattle.st_commit.specs.Repair.{NewestOnly, Mended}
use Rattle.st_commit.proofs.Whole.{bytes_fit}
use Rattle.st_commit.proofs.Frame.{spares_on, spares_run, spares_still}
use Rattle.st_commit.proofs.Repairing.{log_beside, newest_certain, written_at, slots_at, mended_newest, mended_sure, mended_bears, mended_others, keeps_same}
use Rattle.st_commit.proofs.Settled.{mended_settled}
use Rattle.st_commit.proofs.mending.repair.Goals as goal

some_inj : (a b : Path) → Some a ≡ Some b → a ≡ b
some_inj a b e = cc

pub loop-i-init : goal.loop-i-init
loop-i-init g c =
    let M = g.R.Rack.moment in
    let S = g.R.Rack.state_at in
    let pool = c.args.pool.now in
    let devs = c.args.devs.now in
    let G = c.args.generation in
    let rec = c.args.rec.now in
    let r0 = c.args.rack.now in
    record {
      devs = refl;
      spare = refl;
      faults = omega arith;
      spares = spares_still pool G devs M S r0;
      logs = λ flex p up k log first sound apart rests. keeps_self M S (λ s. Rests flex p up k log (s first)) r0 rests;
      during = λ p h bearer new. (keeps_self M S (NewestOnly pool p devs G rec) r0 (newest_certain pool p h devs bearer G rec new.of new.is new.serial (S r0 (M r0)) new.bears new.slots), new);
      slots = λ p h bearer new. keeps_self M S (AllSlots pool devs (Ranked p h G)) r0 new.slots;
      done = λ p h bearer new all. (all, λ j d lt there. absurd (omega (arith, lt)));
      settled = λ d was. was;
    }

pub returns-in_err-mend-clause-spares : goal.returns-in_err-mend-clause-spares
returns-in_err-mend-clause-spares g c =
    let M = g.R.Rack.moment in
    let S = g.R.Rack.state_at in
    let pool = c.args.pool.now in
    let devs = c.args.devs.now in
    let G = c.args.generation in
    let rec = c.args.rec.now in
    let r0 = c.args.rack.now in
    let dev = c.at.result.now in
    let r1 = c.loop-i.rack in
    let r2 = c.mend.new.rack in
    let at = slot_at pool G in
    let line : List ℕ = slot_bytes pool.magic G rec in
    let eight : length pool.magic ≡ 8 = c.mend.ensures.eight in
    let of : IsOf devs dev = record { index = c.loop-i.i; is = c.at.ensures } in
    let lies = c.requires.lie dev of in
    let small : pool.slot ≤ 2 ^ 32 = omega (arith, lies.small) in
    let fits = bytes_fit pool G rec eight c.requires.fits in
    let mid = S r1 (M r1) in
    spares_on pool G devs M S r0 r1 r2 c.loop-i.invariant.spares (spares_run pool G devs M S dev of line fits r1 r2 c.mend.ensures.time)

pub returns-in_err-mend-clause-logs : goal.returns-in_err-mend-clause-logs
returns-in_err-mend-clause-logs g c =
    let M = g.R.Rack.moment in
    let S = g.R.Rack.state_at in
    let pool = c.args.pool.now in
    let devs = c.args.devs.now in
    let G = c.args.generation in
    let rec = c.args.rec.now in
    let r0 = c.args.rack.now in
    let dev = c.at.result.now in
    let r1 = c.loop-i.rack in
    let r2 = c.mend.new.rack in
    let at = slot_at pool G in
    let line : List ℕ = slot_bytes pool.magic G rec in
    let eight : length pool.magic ≡ 8 = c.mend.ensures.eight in
    let of : IsOf devs dev = record { index = c.loop-i.i; is = c.at.ensures } in
    let lies = c.requires.lie dev of in
    let small : pool.slot ≤ 2 ^ 32 = omega (arith, lies.small) in
    let fits = bytes_fit pool G rec eight c.requires.fits in
    let mid = S r1 (M r1) in
    (λ flex p up k log first sound apart rests.
    (let before = c.loop-i.invariant.logs flex p up k log first sound apart rests in
    keeps_on M S (λ s. Rests flex p up k log (s first)) r0 r1 r2 before
    (goes_keeps M S (OnDevice dev (Rewriting at line)) (λ s. Rests flex p up k log (s first)) r1 r2 (same M S dev at line mid)
    (λ s step. log_beside pool flex p up k log G line dev first sound apart fits mid s step (before.all (M r1) before.later (omega arith))) c.mend.ensures.time)))

pub returns-in_err-mend-clause-during : goal.returns-in_err-mend-clause-during
returns-in_err-mend-clause-during g c =
    let M = g.R.Rack.moment in
    let S = g.R.Rack.state_at in
    let pool = c.args.pool.now in
    let devs = c.args.devs.now in
    let G = c.args.generation in
    let rec = c.args.rec.now in
    let r0 = c.args.rack.now in
    let dev = c.at.result.now in
    let r1 = c.loop-i.rack in
    let r2 = c.mend.new.rack in
    let at = slot_at pool G in
    let line : List ℕ = slot_bytes pool.magic G rec in
    let eight : length pool.magic ≡ 8 = c.mend.ensures.eight in
    let of : IsOf devs dev = record { index = c.loop-i.i; is = c.at.ensures } in
    let lies = c.requires.lie dev of in
    let small : pool.slot ≤ 2 ^ 32 = omega (arith, lies.small) in
    let fits = bytes_fit pool G rec eight c.requires.fits in
    let mid = S r1 (M r1) in
    (λ p h bearer newest.
    let before = c.loop-i.invariant.during p h bearer newest in
    let new = before.1 in
    let on : Keeps M S (NewestOnly pool p devs G rec) r0 r2 = keeps_on M S (NewestOnly pool p devs G rec) r0 r1 r2 before.0 (elim (same_or_other dev bearer) [
      | inl e ↦
          let held : read_any pool (G % 2) (mid dev).holds ≡ Some (G, rec) = subst (λ (q : Path). read_any pool (G % 2) (mid q).holds ≡ Some (G, rec)) (sym e) (slot_is pool (G % 2) (mid bearer).holds (G, rec) new.bears.reads).0 in
          let still = c.mend.ensures.kept held in
          keeps_same M S (NewestOnly pool p devs G rec) r1 r2 still.0 still.1 (newest_certain pool p h devs bearer G rec new.of new.is new.serial mid new.bears new.slots)
      | inr ne ↦ goes_keeps M S (OnDevice dev (Rewriting at line)) (NewestOnly pool p devs G rec) r1 r2 (same M S dev at line mid)
          (written_at pool p h devs bearer G rec dev eight c.requires.from c.requires.until small fits mid new ne) c.mend.ensures.time
    ]) in
    on)

pub returns-in_err-mend-clause-slots : goal.returns-in_err-mend-clause-slots
returns-in_err-mend-clause-slots g c =
    let M = g.R.Rack.moment in
    let S = g.R.Rack.state_at in
    let pool = c.args.pool.now in
    let devs = c.args.devs.now in
    let G = c.args.generation in
    let rec = c.args.rec.now in
    let r0 = c.args.rack.now in
    let dev = c.at.result.now in
    let r1 = c.loop-i.rack in
    let r2 = c.mend.new.rack in
    let at = slot_at pool G in
    let line : List ℕ = slot_bytes pool.magic G rec in
    let eight : length pool.magic ≡ 8 = c.mend.ensures.eight in
    let of : IsOf devs dev = record { index = c.loop-i.i; is = c.at.ensures } in
    let lies = c.requires.lie dev of in
    let small : pool.slot ≤ 2 ^ 32 = omega (arith, lies.small) in
    let fits = bytes_fit pool G rec eight c.requires.fits in
    let mid = S r1 (M r1) in
    (λ p h bearer newest.
    (let before = c.loop-i.invariant.slots p h bearer newest in
    let new = (c.loop-i.invariant.during p h bearer newest).1 in
    keeps_on M S (AllSlots pool devs (Ranked p h G)) r0 r1 r2 before
    (goes_keeps M S (OnDevice dev (Rewriting at line)) (AllSlots pool devs (Ranked p h G)) r1 r2 (same M S dev at line mid)
    (slots_at pool p h devs bearer G rec dev eight c.requires.from c.requires.until small fits mid new) c.mend.ensures.time)))

pub loop-i-preserved : goal.loop-i-preserved
loop-i-preserved g c =
    let M = g.R.Rack.moment in
    let S = g.R.Rack.state_at in
    let pool = c.args.pool.now in
    let devs = c.args.devs.now in
    let G = c.args.generation in
    let rec = c.args.rec.now in
    let r0 = c.args.rack.now in
    let dev = c.at.result.now in
    let r1 = c.loop-i.rack in
    let r2 = c.mend.new.rack in
    let at = slot_at pool G in
    let line : List ℕ = slot_bytes pool.magic G rec in
    let eight : length pool.magic ≡ 8 = c.mend.ensures.eight in
    let of : IsOf devs dev = record { index = c.loop-i.i; is = c.at.ensures } in
    let lies = c.requires.lie dev of in
    let small : pool.slot ≤ 2 ^ 32 = omega (arith, lies.small) in
    let fits = bytes_fit pool G rec eight c.requires.fits in
    let mid = S r1 (M r1) in
    let after = S r2 (M r2) in
    let did : Mended pool dev G rec mid after = c.in_ok-mend.ensures.done in
    record {
      devs = c.mend.ensures.devs ∙ c.loop-i.invariant.devs;
      spare = c.mend.ensures.spare ∙ c.loop-i.invariant.spare;
      faults = omega (arith, c.loop-i.invariant.faults, c.mend.ensures.faults);
      spares = spares_on pool G devs M S r0 r1 r2 c.loop-i.invariant.spares (spares_run pool G devs M S dev of line fits r1 r2 c.mend.ensures.time);
      logs = (λ flex p up k log first sound apart rests.
          (let before = c.loop-i.invariant.logs flex p up k log first sound apart rests in
          keeps_on M S (λ s. Rests flex p up k log (s first)) r0 r1 r2 before
          (goes_keeps M S (OnDevice dev (Rewriting at line)) (λ s. Rests flex p up k log (s first)) r1 r2 (same M S dev at line mid)
          (λ s step. log_beside pool flex p up k log G line dev first sound apart fits mid s step (before.all (M r1) before.later (omega arith))) c.mend.ensures.time)));
      during = λ p h bearer newest.
          let before = c.loop-i.invariant.during p h bearer newest in
          let new = before.1 in
          let on : Keeps M S (NewestOnly pool p devs G rec) r0 r2 = keeps_on M S (NewestOnly pool p devs G rec) r0 r1 r2 before.0 (elim (same_or_other dev bearer) [
            | inl e ↦
                let held : read_any pool (G % 2) (mid dev).holds ≡ Some (G, rec) = subst (λ (q : Path). read_any pool (G % 2) (mid q).holds ≡ Some (G, rec)) (sym e) (slot_is pool (G % 2) (mid bearer).holds (G, rec) new.bears.reads).0 in
                let still = c.mend.ensures.kept held in
                keeps_same M S (NewestOnly pool p devs G rec) r1 r2 still.0 still.1 (newest_certain pool p h devs bearer G rec new.of new.is new.serial mid new.bears new.slots)
            | inr ne ↦ goes_keeps M S (OnDevice dev (Rewriting at line)) (NewestOnly pool p devs G rec) r1 r2 (same M S dev at line mid)
                (written_at pool p h devs bearer G rec dev eight c.requires.from c.requires.until small fits mid new ne) c.mend.ensures.time
          ]) in
          (on, mended_newest pool p h devs bearer G rec dev eight c.requires.from c.requires.until small fits mid new after did);
      slots = (λ p h bearer newest.
          (let before = c.loop-i.invariant.slots p h bearer newest in
          let new = (c.loop-i.invariant.during p h bearer newest).1 in
          keeps_on M S (AllSlots pool devs (Ranked p h G)) r0 r1 r2 before
          (goes_keeps M S (OnDevice dev (Rewriting at line)) (AllSlots pool devs (Ranked p h G)) r1 r2 (same M S dev at line mid)
          (slots_at pool p h devs bearer G rec dev eight c.requires.from c.requires.until small fits mid new) c.mend.ensures.time)));
      done = λ p h bearer newest all.
          let new = (c.loop-i.invariant.during p h bearer newest).1 in
          let before = c.loop-i.invariant.done p h bearer newest all in (
            mended_sure pool p h devs bearer G rec dev eight c.requires.from c.requires.until small fits mid new after did before.0,
            λ j d lt there. elim (cases_lt j c.loop-i.i) [
              | inl below ↦ mended_others pool p h devs bearer G rec dev eight c.requires.from c.requires.until small fits mid new after d did (before.1 j d below there)
              | inr from ↦
                  let here : c.loop-i.i ≡ j = omega (arith, lt, from) in
                  let e : dev ≡ d = some_inj dev d (sym c.at.ensures ∙ ap (slice_get devs) here ∙ there) in
                  subst (λ (q : Path). BearsRecord pool G rec (after q)) e (mended_bears pool p h devs bearer G rec dev eight c.requires.from c.requires.until small fits mid new of before.0 after did)
            ],
          );
      settled = λ d was. mended_settled pool dev G rec mid after d did (c.loop-i.invariant.settled d was);
    }

pub returns-clause-during : goal.returns-clause-during
returns-clause-during g c = (λ p h bearer new. (c.loop-i.invariant.during p h bearer new).0)

pub returns-clause-done : goal.returns-clause-done
returns-clause-done g c =
    (λ p h bearer new all.
    let last = c.loop-i.invariant.done p h bearer new all in
    ((c.loop-i.invariant.during p h bearer new).1, λ d of. (let lt = slice_get_within c.args.devs.now of.index d of.is in last.1 of.index d (omega arith) of.is)))

pub returns-clause-settled : goal.returns-clause-settled
returns-clause-settled g c = c.loop-i.invariant.settled
