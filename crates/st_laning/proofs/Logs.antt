-- a log with one more call in it
use Rattle.std.proofs.Common.{◌≡◌, ℕ, zero, suc, ◌+◌, ◌==◌, ◌⊎◌, inl, inr, List, [], ◌∷◌, ◌++◌, length, Some, None, Bool, true, false, cond, refl, sym, ap, ◌∙◌, arith, append_assoc}
use Rattle.std.specs.Prelude.{slice_get}
use Rattle.st_units.specs.Roomy.{Roomy}
use Rattle.st_wants.specs.declared.want.Want.{Want}
use Rattle.st_model.specs.declared.entry.Entry.{Entry}
use Rattle.st_history.specs.declared.log.Event.{Event}
use Rattle.st_history.specs.declared.log.Event.TheVariants.{Arrive, Grant, Release}
use Rattle.st_model.specs.declared.entry.Origin.TheVariants.{Line}
use Rattle.st_laning.specs.Entries.{entries_of, is_line, is_from, entry_of, count_from, StandsAt}
use Rattle.st_laning.proofs.Places.{at_append}

-- the events of one call by the seat
abbrev pub call_events : ℕ → ℕ → Want → Roomy Entry → List Event
call_events seat ticket want entries = Arrive seat ticket want ∷ Grant seat ticket ∷ Release seat ticket entries ∷ []

pub entries_of-append : (log more : List Event) → entries_of (log ++ more) ≡ entries_of log ++ entries_of more
entries_of-append [] more = refl
entries_of-append (Arrive seat ticket want ∷ log) more = entries_of-append log more
entries_of-append (Grant seat ticket ∷ log) more = entries_of-append log more
entries_of-append (Release seat ticket entries ∷ log) more =
    ap (λ es. entries.items ++ es) (entries_of-append log more) ∙ sym (append_assoc entries.items (entries_of log) (entries_of more))

-- the entries with one more call's
pub entries_of-call : (log : List Event) (seat ticket : ℕ) (want : Want) (entries : Roomy Entry) (e : Entry) → entries.items ≡ e ∷ [] → entries_of (log ++ call_events seat ticket want entries) ≡ entries_of log ++ e ∷ []
entries_of-call log seat ticket want entries e alone = entries_of-append log (call_events seat ticket want entries) ∙ ap (λ es. entries_of log ++ (es ++ [])) alone

count_from-append : (m : ℕ) (xs ys : List Entry) → count_from m (xs ++ ys) ≡ count_from m xs + count_from m ys
count_from-append m [] ys = omega arith
count_from-append m (x ∷ xs) ys = let rest = count_from-append m xs ys in omega (arith, rest)

pub is_from-line : (m n : ℕ) (e : Entry) → e.from ≡ Line n → is_from m e ≡ (n == m)
is_from-line m n e h = ap (is_line m) h

pub count_from-call : (m n : ℕ) (es : List Entry) (e : Entry) → e.from ≡ Line n → count_from m (es ++ e ∷ []) ≡ count_from m es + cond (n == m) 1 0
count_from-call m n es e h =
    let last : count_from m (e ∷ []) ≡ cond (n == m) 1 0 + 0 = ap (λ b. cond b 1 0 + 0) (is_from-line m n e h) in
    let all = count_from-append m es (e ∷ []) in
    omega (arith, last, all)

pub none_from : (m : ℕ) (es : List Entry) → count_from m es ≡ 0 → entry_of m es ≡ None
none_from m [] h = refl
none_from m (e ∷ es) h = here (is_from m e) h (none_from m es)
  where
    here : (b : Bool) → cond b 1 0 + count_from m es ≡ 0 → (count_from m es ≡ 0 → entry_of m es ≡ None) → cond b (Some e) (entry_of m es) ≡ None
    here true g f = absurd (omega (arith, g))
    here false g f = f (omega (arith, g))

one_item : (e x : Entry) (i : ℕ) → slice_get (e ∷ []) i ≡ Some x → x ≡ e
one_item e x zero h = cc
one_item e x (suc i) h = absurd cc

-- an entry stands in the log as it was, or it is that of the call
pub record IsNew (log : List Event) (seat ticket : ℕ) (e : Entry) (place s t : ℕ) (x : Entry) : Type 0 where
  pub place_is : place ≡ length log + 2
  pub seat_is : s ≡ seat
  pub ticket_is : t ≡ ticket
  pub entry_is : x ≡ e

new_release : (log : List Event) (seat ticket : ℕ) (want : Want) (entries : Roomy Entry) (e : Entry) (place s t : ℕ) (x : Entry) (held : Roomy Entry) (within j : ℕ) → entries.items ≡ e ∷ [] → place ≡ length log + j
    → slice_get (call_events seat ticket want entries) j ≡ Some (Release s t held) → slice_get held.items within ≡ Some x → IsNew log seat ticket e place s t x
new_release log seat ticket want entries e place s t x held within zero alone at h among = absurd cc
new_release log seat ticket want entries e place s t x held within (suc zero) alone at h among = absurd cc
new_release log seat ticket want entries e place s t x held within (suc (suc zero)) alone at h among =
    let same : entries ≡ held = cc in
    record {
      place_is = omega (arith, at);
      seat_is = cc;
      ticket_is = cc;
      entry_is = one_item e x within (rw (← alone, same) among);
    }
new_release log seat ticket want entries e place s t x held within (suc (suc (suc j))) alone at h among = absurd cc

pub stands_more : (log : List Event) (seat ticket : ℕ) (want : Want) (entries : Roomy Entry) (e : Entry) (place s t : ℕ) (x : Entry) → entries.items ≡ e ∷ []
    → StandsAt (log ++ call_events seat ticket want entries) place s t x → StandsAt log place s t x ⊎ IsNew log seat ticket e place s t x
stands_more log seat ticket want entries e place s t x alone h = cases (at_append log (call_events seat ticket want entries) place (Release s t h.entries) h.at)
  where
    cases : (slice_get log place ≡ Some (Release s t h.entries)) ⊎ ((j : ℕ) × (place ≡ length log + j) × (slice_get (call_events seat ticket want entries) j ≡ Some (Release s t h.entries))) → StandsAt log place s t x ⊎ IsNew log seat ticket e place s t x
    cases (inl g) = inl (record { entries = h.entries; at = g; within = h.within; among = h.among })
    cases (inr g) = inr (new_release log seat ticket want entries e place s t x h.entries h.within g.0 alone g.1 g.2 h.among)

new_arrival : (log : List Event) (seat ticket : ℕ) (want w : Want) (entries : Roomy Entry) (place s t j : ℕ) → place ≡ length log + j → slice_get (call_events seat ticket want entries) j ≡ Some (Arrive s t w) → (place ≡ length log) × (t ≡ ticket)
new_arrival log seat ticket want w entries place s t zero at h = (omega (arith, at), cc)
new_arrival log seat ticket want w entries place s t (suc zero) at h = absurd cc
new_arrival log seat ticket want w entries place s t (suc (suc zero)) at h = absurd cc
new_arrival log seat ticket want w entries place s t (suc (suc (suc j))) at h = absurd cc

-- an arrival stands in the log as it was, or it is the call's
pub arrives_more : (log : List Event) (seat ticket : ℕ) (want w : Want) (entries : Roomy Entry) (place s t : ℕ) → slice_get (log ++ call_events seat ticket want entries) place ≡ Some (Arrive s t w)
    → (slice_get log place ≡ Some (Arrive s t w)) ⊎ ((place ≡ length log) × (t ≡ ticket))
arrives_more log seat ticket want w entries place s t h = cases (at_append log (call_events seat ticket want entries) place (Arrive s t w) h)
  where
    cases : (slice_get log place ≡ Some (Arrive s t w)) ⊎ ((j : ℕ) × (place ≡ length log + j) × (slice_get (call_events seat ticket want entries) j ≡ Some (Arrive s t w))) → (slice_get log place ≡ Some (Arrive s t w)) ⊎ ((place ≡ length log) × (t ≡ ticket))
    cases (inl g) = inl g
    cases (inr g) = inr (new_arrival log seat ticket want w entries place s t g.0 g.1 g.2)
