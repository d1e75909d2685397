-- how a run ends: what its status tells
use Rattle.std.proofs.Common.{◌≡◌, ℕ, ◌+◌, ◌<◌, ◌≤◌, ◌⊎◌, inl, inr, List, [], Bool, Option, Some, None, refl, sym, ap, subst, arith}
use Rattle.std.specs.Io.KnownBytes.{Appends}
use Rattle.std.specs.Prelude.{IfSome}
use Rattle.st_units.specs.Causes.{Rose}
use Rattle.st_history.specs.declared.log.Event.{Event}
use Rattle.st_history.specs.Failures.{failures}
use Rattle.st_lines.specs.Lines.{AreLinesOf, lines_of}
use Rattle.st_lines.specs.Printing.{Started}
use Rattle.st_rack.specs.Calls.{Devices}
use Rattle.st_rack.specs.Device.{State, held}
use Rattle.st_image.specs.Rack.{IsForeign}
use Rattle.st_pool.specs.View.{now}
use Rattle.st_board.specs.View.{last}
use Rattle.st_begin.specs.Begun.{IsBack}
use Rattle.st_status.specs.Statuses.{IsAfterInput, IsEarly, IsOfDevices}
use Rattle.st_status.specs.declared.status.Status.{Status}
use Rattle.st_status.specs.declared.status.Status.TheVariants.{Done, Usage, ReadFault, WriteFault, OutOfMemory, InputLimit, OpenFault, Foreign}
use Rattle.st_session.specs.Headline.{Counts, IsRunOf}
use Rattle.st_session.specs.Out.{out}
use Rattle.st_session.specs.inner.Ended.{DidNotBegin, HasOutput, IsOfBeginning}

pub either : {P Q : Type 0} (X : Type 0) → (P → X) → (Q → X) → P ⊎ Q → X
either X f g (inl p) = f p
either X f g (inr q) = g q

-- the lines are those of the source, where it tells them
pub lines_read : (left : Option (List ℕ)) (lines : List (List ℕ)) → IfSome left (λ input. lines ≡ lines_of input) → AreLinesOf left lines
lines_read None lines h = tt
lines_read (Some input) lines h = h

pub after_not_early : (s : Status) → IsAfterInput s → IsEarly s → ⊥
after_not_early Done after early = early
after_not_early WriteFault after early = early
after_not_early OutOfMemory after early = early
after_not_early Usage after early = after
after_not_early ReadFault after early = after
after_not_early (InputLimit limit) after early = after
after_not_early OpenFault after early = after
after_not_early (Foreign serial) after early = after

pub after_not_devices : (s : Status) → IsAfterInput s → IsOfDevices s → ⊥
after_not_devices Done after of = of
after_not_devices WriteFault after of = of
after_not_devices OutOfMemory after of = of
after_not_devices Usage after of = after
after_not_devices ReadFault after of = after
after_not_devices (InputLimit limit) after of = after
after_not_devices OpenFault after of = after
after_not_devices (Foreign serial) after of = after

pub early_of_devices : (s : Status) → IsOfBeginning s → IsEarly s → IsOfDevices s
early_of_devices Done begins early = early
early_of_devices WriteFault begins early = early
early_of_devices OutOfMemory begins early = early
early_of_devices Usage begins early = begins
early_of_devices ReadFault begins early = begins
early_of_devices (InputLimit limit) begins early = begins
early_of_devices OpenFault begins early = tt
early_of_devices (Foreign serial) begins early = tt

module _ {D : Type 0} (devs : D → Devices) (moment : D → ℕ) (state_at : D → ℕ → State) (faults : D → ℕ) (old : D) where
  abbrev NotBegun : Status → List Event → D → Type 0
  NotBegun status log r = DidNotBegin devs moment state_at faults old status log r

  -- the words of an early end
  moved : (status told : Status) (log : List Event) (r back : D) → told ≡ status → back ≡ r → NotBegun status log r → NotBegun told log back
  moved status told log r back same_status same h = subst (λ (x : D). NotBegun told log x) (sym same) (subst (λ (x : Status). NotBegun x log r) (sym same_status) h)

  pub not_for_fault : (told : Status) (log : List Event) (r back : D) → told ≡ OpenFault → back ≡ r → log ≡ [] → IsBack devs moment state_at faults old r → Rose (faults old) (faults r) → NotBegun told log back
  not_for_fault told log r back same_status same none is rose = moved OpenFault told log r back same_status same (record {
    none = none;
    back = is;
    ended = tt;
    open_fault = λ e. rose;
    foreign = λ n e. absurd cc;
  })

  pub not_for_memory : (told : Status) (log : List Event) (r back : D) → told ≡ OutOfMemory → back ≡ r → log ≡ [] → IsBack devs moment state_at faults old r → NotBegun told log back
  not_for_memory told log r back same_status same none is = moved OutOfMemory told log r back same_status same (record {
    none = none;
    back = is;
    ended = tt;
    open_fault = λ e. absurd cc;
    foreign = λ n e. absurd cc;
  })

  pub not_for_foreign : (serial : ℕ) (told : Status) (log : List Event) (r back : D) → told ≡ Foreign serial → back ≡ r → log ≡ [] → IsBack devs moment state_at faults old r → IsForeign (devs old) (held (now moment state_at old)) serial
      → NotBegun told log back
  not_for_foreign serial told log r back same_status same none is foreign = moved (Foreign serial) told log r back same_status same (record {
    none = none;
    back = is;
    ended = tt;
    open_fault = λ e. absurd cc;
    foreign = λ n e. (let number : serial ≡ n = cc in subst (λ (k : ℕ). IsForeign (devs old) (held (now moment state_at old)) k) number foreign);
  })

  pub unbegun_counted : (status : Status) (log : List Event) (r : D) → NotBegun status log r → Counts devs moment state_at faults old log r
  unbegun_counted status log r h less =
      let count = h.back.counts less in
      let none : failures log ≡ 0 = ap failures h.none in
      omega (arith, count, none)

  pub untouched_counted : (log : List Event) (r : D) → r ≡ old → log ≡ [] → Counts devs moment state_at faults old log r
  untouched_counted log r same none less =
      let count : faults r ≡ faults old = ap faults same in
      let no_failure : failures log ≡ 0 = ap failures none in
      omega (arith, count, no_failure)

  pub output_of : (lanes : ℕ) (trace : Bool) (lines : List (List ℕ)) (held after : Option (List ℕ)) (status : Status) (log told : List Event) (r back : D) → told ≡ log → back ≡ r → IsRunOf devs moment state_at faults old lanes lines log r
      → Counts devs moment state_at faults old log r → IsAfterInput status → (status ≡ Done → Appends held after (out lanes trace lines log)) → ((status ≡ Done → ⊥) → Started held after (out lanes trace lines log))
      → HasOutput devs moment state_at faults old lanes trace lines held after status told back
  output_of lanes trace lines held after status log told r back same_log same run counts ended done cut =
      subst (λ (x : D). HasOutput devs moment state_at faults old lanes trace lines held after status told x) (sym same)
      (subst (λ (l : List Event). HasOutput devs moment state_at faults old lanes trace lines held after status l r) (sym same_log) (record { run = run; counts = counts; ended = ended; done = done; cut = cut }))
