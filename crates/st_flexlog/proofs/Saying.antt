-- What a log says: one state at most, and with one more delta what that makes of the state before.
use Rattle.std.proofs.Common.{◌≡◌, ℕ, suc, ◌+◌, List, [], ◌∷◌, ◌++◌, length, Option, Some, sym, ap, ◌∙◌}
use Rattle.st_recrows.specs.Rows.{Spells}
use Rattle.st_flexrec.specs.declared.record.FlexRec.{FlexRec}
use Rattle.st_flexrec.specs.Record.{record_text}
use Rattle.st_flexrec.specs.Conditions.{IsFlexRec}
use Rattle.st_flexrec.proofs.ReadingLemmas.{same_record}
use Rattle.st_flexlog.specs.declared.delta.Delta.{Delta}
use Rattle.st_flexlog.specs.declared.state.FlexState.{FlexState}
use Rattle.st_flexlog.specs.Delta.{DeltaFits, delta_text}
use Rattle.st_flexlog.specs.State.{state_of}
use Rattle.st_flexlog.specs.Applied.{applied, applied_if}
use Rattle.st_flexlog.specs.Said.{then_applied, replayed, Says}
use Rattle.st_flexlog.proofs.Deltas.{delta_back}

some_same : (x y : FlexState) → Some x ≡ Some y → x ≡ y
some_same x y e = cc

pub says_one : (c : ℕ) (body : List ℕ) (deltas : List (List ℕ)) (a b : FlexState) → Says c body deltas a → Says c body deltas b → a ≡ b
says_one c body deltas a b one two =
    let same = (same_record one.rec two.rec [] [] one.spelled.fit.fits two.spelled.fit.fits (ap (λ (l : List ℕ). l ++ []) (sym one.spelled.spelled ∙ two.spelled.spelled))).0 in
    some_same a b (sym one.replays ∙ ap (λ (r : FlexRec). replayed c deltas (state_of r)) same ∙ two.replays)

pub says_begun : (c : ℕ) (body : List ℕ) (rec : FlexRec) (st : FlexState) → Spells (IsFlexRec c) record_text body rec → st ≡ state_of rec → Says c body [] st
says_begun c body rec st is same = record { rec = rec; spelled = is; replays = ap (λ (s : FlexState). Some s) (sym same) }

pub says_none : (c : ℕ) (body : List ℕ) → ((rec : FlexRec) → Spells (IsFlexRec c) record_text body rec → ⊥) → (st : FlexState) → Says c body [] st → ⊥
says_none c body none st says = none says.rec says.spelled

pub says_more : (c : ℕ) (body : List ℕ) (deltas : List (List ℕ)) (before st : FlexState) (d : Delta) (bytes : List ℕ) → Says c body deltas before → Spells DeltaFits delta_text bytes d
    → applied (c + suc (length deltas)) d before ≡ Some st → Says c body (bytes ∷ deltas) st
says_more c body deltas before st d bytes says is applies = record {
  rec = says.rec;
  spelled = says.spelled;
  replays = ap (then_applied (c + suc (length deltas)) bytes) says.replays ∙ ap (λ (o : Option Delta). applied_if (c + suc (length deltas)) o before) (delta_back d bytes is) ∙ applies;
}
