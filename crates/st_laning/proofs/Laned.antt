-- one seat that runs one line after the other keeps the lane order
use Rattle.std.proofs.Common.{◌≡◌, ℕ, ◌+◌, ◌==◌, ◌<◌, ◌≤◌, ◌⊎◌, inl, inr, List, [], ◌∷◌, ◌++◌, length, Some, Result, Ok, Err, Bool, true, false, cond, refl, sym, ap, ◌∙◌, subst, arith}
use Rattle.std.proofs.lemmas.Grind.{common_steps}
use Rattle.std.proofs.lemmas.Option.{slice_get_within}
use Rattle.std.specs.Prelude.{slice_get}
use Rattle.st_units.specs.Roomy.{Roomy}
use Rattle.st_wants.specs.declared.want.Want.{Want}
use Rattle.st_model.specs.declared.entry.Entry.{Entry}
use Rattle.st_history.specs.declared.log.Event.{Event}
use Rattle.st_history.specs.declared.log.Event.TheVariants.{Arrive}
use Rattle.st_model.specs.declared.entry.Origin.TheVariants.{Line}
use Rattle.st_calls.specs.declared.fault.LineFault.{LineFault}
use Rattle.st_calls.specs.Form.{form}
use Rattle.st_model.specs.declared.call.Call.{Call}
use Rattle.st_laning.specs.Entries.{entries_of, count_from, StandsAt}
use Rattle.st_laning.specs.LaneOrder.{IsLineCall, IsOfLine, LaneOrder}
use Rattle.st_laning.specs.inner.Going.{IsKnown, IsLaned}
use Rattle.st_laning.proofs.Logs.{call_events, entries_of-call, count_from-call, IsNew, stands_more, arrives_more}

pub laned_start : (lanes : ℕ) (lines : List (List ℕ)) → IsLaned lanes lines 0 0 []
laned_start lanes lines = record {
  known = λ place seat ticket e h. absurd (nothing _ place h.at);
  arrivals = λ place seat ticket want h. absurd (nothing _ place h);
  later = λ m h. refl;
  once = λ m. omega arith;
  order = λ a b p s u t v m n c d e f want g h lt at. absurd (nothing _ p at);
}
  where
    nothing : (x : Event) (place : ℕ) → slice_get [] place ≡ Some x → ⊥
    nothing x place h = absurd cc

-- a line that isn't run
pub laned_skip : (lanes : ℕ) (lines : List (List ℕ)) (i k : ℕ) (log : List Event) → IsLaned lanes lines i k log → IsLaned lanes lines (i + 1) k log
laned_skip lanes lines i k log h = record {
  known = λ place seat ticket e g. (let x = h.known place seat ticket e g in record { n = x.n; from = x.from; low = omega (arith, x.low); seat_is = x.seat_is; below = x.below; lane = x.lane; call = x.call });
  arrivals = h.arrivals;
  later = λ m g. h.later m (omega (arith, g));
  once = h.once;
  order = h.order;
}

at_most_one : (b : Bool) → cond b 1 0 ≤ 1
at_most_one true = omega arith
at_most_one false = omega arith

other_line : (i m : ℕ) → i + 1 < m → (i + 1 == m) ≡ false
other_line i m h = grind (arith, common_steps)

one_more : (b : Bool) (c i m : ℕ) → (i + 1 == m) ≡ b → (i < m → c ≡ 0) → c ≤ 1 → c + cond b 1 0 ≤ 1
one_more true c i m e none few = let same : i + 1 ≡ m = grind (arith, common_steps) in let zero_then : c ≡ 0 = none (omega (arith, same)) in omega (arith, zero_then)
one_more false c i m e none few = omega (arith, few)

line_number : (m n : ℕ) (e : Entry) → e.from ≡ Line m → e.from ≡ Line n → m ≡ n
line_number m n e g h = cc

-- a line that is run, whose call is e's
module _ (lanes : ℕ) (lines : List (List ℕ)) (i k : ℕ) (log : List Event) (want : Want) (entries : Roomy Entry) (e : Entry) (alone : entries.items ≡ e ∷ []) (from : e.from ≡ Line (i + 1)) (lane : ℕ) (call : IsLineCall lanes lines (i + 1) lane e.call) (h : IsLaned lanes lines i k log) where
  abbrev new : List Event
  new = log ++ call_events (lane + 1) k want entries

  known_more : (place s t : ℕ) (x : Entry) → StandsAt log place s t x ⊎ IsNew log (lane + 1) k e place s t x → IsKnown lanes lines (i + 1) (k + 1) s t x
  known_more place s t x (inl g) = let y = h.known place s t x g in record { n = y.n; from = y.from; low = omega (arith, y.low); seat_is = y.seat_is; below = omega (arith, y.below); lane = y.lane; call = y.call }
  known_more place s t x (inr g) = record {
    n = i + 1;
    from = rw g.entry_is from;
    low = omega arith;
    seat_is = g.seat_is;
    below = omega (arith, g.ticket_is);
    lane = lane;
    call = rw g.entry_is call;
  }

  arrivals_more : (place s t : ℕ) (w : Want) → (slice_get log place ≡ Some (Arrive s t w)) ⊎ ((place ≡ length log) × (t ≡ k)) → t < k + 1
  arrivals_more place s t w (inl g) = let old = h.arrivals place s t w g in omega (arith, old)
  arrivals_more place s t w (inr g) = omega (arith, g.1)

  order_more : (a b p s u t v m n c d : ℕ) (x f : Entry) (w : Want) → x.from ≡ Line m → IsLineCall lanes lines m c x.call → f.from ≡ Line n → IsLineCall lanes lines n d f.call → m < n
      → StandsAt log a s t x ⊎ IsNew log (lane + 1) k e a s t x → StandsAt log b u v f ⊎ IsNew log (lane + 1) k e b u v f → (slice_get log p ≡ Some (Arrive u v w)) ⊎ ((p ≡ length log) × (v ≡ k)) → a < p
  order_more a b p s u t v m n c d x f w xm xc fn fc lt (inl g) (inl o) (inl at) =
      h.order a b p s u t v m n c d x f w (record { stands = g; from = xm; call = xc }) (record { stands = o; from = fn; call = fc }) lt at
  order_more a b p s u t v m n c d x f w xm xc fn fc lt (inl g) (inl o) (inr at) =
      let y = h.known b u v f o in absurd (omega (arith, y.below, at.1))
  order_more a b p s u t v m n c d x f w xm xc fn fc lt (inl g) (inr o) (inl at) =
      let old = h.arrivals p u v w at in absurd (omega (arith, old, o.ticket_is))
  order_more a b p s u t v m n c d x f w xm xc fn fc lt (inl g) (inr o) (inr at) =
      let inside = slice_get_within log a _ g.at in omega (arith, inside, at.0)
  order_more a b p s u t v m n c d x f w xm xc fn fc lt (inr g) (inl o) at =
      let y = h.known b u v f o in
      let here : m ≡ i + 1 = line_number m (i + 1) x xm (rw g.entry_is from) in
      let there : n ≡ y.n = line_number n y.n f fn y.from in
      absurd (omega (arith, lt, here, there, y.low))
  order_more a b p s u t v m n c d x f w xm xc fn fc lt (inr g) (inr o) at =
      let here : m ≡ i + 1 = line_number m (i + 1) x xm (rw g.entry_is from) in
      let there : n ≡ i + 1 = line_number n (i + 1) f fn (rw o.entry_is from) in
      absurd (omega (arith, lt, here, there))

  counted : (m : ℕ) → count_from m (entries_of new) ≡ count_from m (entries_of log) + cond (i + 1 == m) 1 0
  counted m = ap (count_from m) (entries_of-call log (lane + 1) k want entries e alone) ∙ count_from-call m (i + 1) (entries_of log) e from

  pub laned_call : IsLaned lanes lines (i + 1) (k + 1) new
  laned_call = record {
    known = λ place s t x g. known_more place s t x (stands_more log (lane + 1) k want entries e place s t x alone g);
    arrivals = λ place s t w g. arrivals_more place s t w (arrives_more log (lane + 1) k want w entries place s t g);
    later = λ m g. counted m ∙ (let none = h.later m (omega (arith, g)) in let other : cond {A = ℕ} (i + 1 == m) 1 0 ≡ 0 = rw (other_line i m g) refl in omega (arith, none, other));
    once = λ m. subst (λ (c : ℕ). c ≤ 1) (sym (counted m)) (one_more (i + 1 == m) (count_from m (entries_of log)) i m refl (h.later m) (h.once m));
    order = λ a b p s u t v m n c d x f w g o lt at.
        order_more a b p s u t v m n c d x f w g.from g.call o.from o.call lt (stands_more log (lane + 1) k want entries e a s t x alone g.stands) (stands_more log (lane + 1) k want entries e b u v f alone o.stands) (arrives_more log (lane + 1) k want w entries p u v at);
  }

-- a line has one lane
one_lane : (lanes : ℕ) (lines : List (List ℕ)) (n k l : ℕ) (c d : Call) → IsLineCall lanes lines n k c → IsLineCall lanes lines n l d → k ≡ l
one_lane lanes lines n k l c d g h =
    let place : g.place ≡ h.place = omega (arith, g.numbered, h.numbered) in
    let there : slice_get lines h.place ≡ Some g.line = subst (λ (i : ℕ). slice_get lines i ≡ Some g.line) place g.at in
    let both : Some g.line ≡ Some h.line = sym there ∙ h.at in
    let line : g.line ≡ h.line = cc in
    let read : form lanes h.line ≡ Ok (k, c) = subst (λ (x : List ℕ). form lanes x ≡ Ok (k, c)) line g.read in
    ap lane_of (sym read ∙ h.read)
  where
    lane_of : Result (ℕ × Call) LineFault → ℕ
    lane_of (Ok got) = got.0
    lane_of (Err fault) = k

-- an entry of a line is by the line's own seat
own_seat : (lanes : ℕ) (lines : List (List ℕ)) (i k : ℕ) (log : List Event) → IsLaned lanes lines i k log → (place seat ticket n lane : ℕ) (e : Entry) → IsOfLine lanes lines log place seat ticket n lane e → seat ≡ lane + 1
own_seat lanes lines i k log h place seat ticket n lane e g =
    let x = h.known place seat ticket e g.stands in
    let number : n ≡ x.n = line_number n x.n e g.from x.from in
    let call : IsLineCall lanes lines n x.lane e.call = rw number x.call in
    let same : lane ≡ x.lane = one_lane lanes lines n lane x.lane e.call e.call g.call call in
    omega (arith, same, x.seat_is)

pub laned-LaneOrder : (lanes : ℕ) (lines : List (List ℕ)) (i k : ℕ) (log : List Event) → IsLaned lanes lines i k log → LaneOrder lanes lines log
laned-LaneOrder lanes lines i k log h = record {
  once = h.once;
  calls = λ place s t n e g from. (let x = h.known place s t e g in (x.lane, rw (line_number n x.n e from x.from) x.call));
  seats = λ a b s u t v m n c d e f g o. (
      let one = own_seat lanes lines i k log h a s t m c e g in
      let two = own_seat lanes lines i k log h b u v n d f o in
      (λ same. omega (arith, same, one, two), λ same. omega (arith, same, one, two))
      );
  apart = λ place s t n lane e g zero_seat. (let one = own_seat lanes lines i k log h place s t n lane e g in absurd (omega (arith, one, zero_seat)));
  order = λ a b p s u t v m n c e f w g o lt at. h.order a b p s u t v m n c c e f w g o lt at;
  no_other = λ place s t e g. (let x = h.known place s t e g in (x.n, x.from));
}
