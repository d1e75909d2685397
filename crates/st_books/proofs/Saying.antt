-- What the log says after a commit that maps no block.
use Rattle.std.proofs.Common.{◌≡◌, ℕ, suc, ◌+◌, ◌*◌, ◌≤◌, Bool, true, ◌&&◌, cond, eqb, leb, nat_le, List, [], length, Some, None, refl, ◌∙◌, ap, arith}
use Rattle.std.proofs.lemmas.Bool.{and_from}
use Rattle.std.proofs.lemmas.Bool.Decides.{nat_tests}
use Rattle.st_limits.specs.declared.TheConstants.{MAX_MAPPINGS}
use Rattle.st_recrows.specs.Rows.{Spells}
use Rattle.st_flexrec.specs.Record.{record_text}
use Rattle.st_flexrec.specs.Conditions.{IsFlexRec}
use Rattle.st_flexlog.specs.declared.state.FlexState.{FlexState}
use Rattle.st_flexlog.specs.declared.state.Mapping.{Mapping}
use Rattle.st_flexlog.specs.Delta.{DeltaFits, delta_text}
use Rattle.st_flexlog.specs.Applied.{may_come, are_mappings, after_rows}
use Rattle.st_flexlog.specs.Said.{Says}
use Rattle.st_flexlog.proofs.Saying.{says_begun, says_more}
use Rattle.st_deltalog.specs.Log.{Log, begun, grown}
use Rattle.st_books.specs.Spelled.{IsBare, bare_record, no_rows, same_flex}

eq_self : (n : ℕ) → eqb n n ≡ true
eq_self n = grind (arith, nat_tests)

le_true : (n m : ℕ) → n ≤ m → leb n m ≡ true
le_true n m le = grind (arith, nat_tests)

-- a checkpoint
pub says_checkpoint : (serial g G : ℕ) (st : FlexState) (body : List ℕ) (slot : ℕ) → IsBare serial g st → Spells (IsFlexRec G) record_text body (bare_record st)
    → Says (begun slot (G, body)).start (begun slot (G, body)).body (begun slot (G, body)).deltas (same_flex st)
says_checkpoint serial g G st body slot bare spelled = says_begun G body (bare_record st) (same_flex st) spelled (λ i. record (same_flex st) { filesystems = bare.filesystems i; mappings = bare.mappings i })

-- a delta
pub says_delta : (serial g : ℕ) (st : FlexState) (log : Log) (delta : List ℕ) → IsBare serial g st → st.version2 ≡ true → g ≡ log.start + length log.deltas → Says log.start log.body log.deltas st
    → Spells DeltaFits delta_text delta (no_rows st) → Says (grown log delta).start (grown log delta).body (grown log delta).deltas (same_flex st)
says_delta serial g st log delta bare version counted says spelled =
    says_more log.start log.body log.deltas st (same_flex st) (no_rows st) delta says spelled (
    ap (λ (b : Bool). cond b (Some (after_rows (no_rows st) st)) None) (and_from _ _ comes mapped) ∙ ap (λ (b : Bool). Some (record st { version2 = b })) version)
  where
    G : ℕ
    G = log.start + suc (length log.deltas)

    comes : may_come G (no_rows st) st ≡ true
    comes = and_from _ _ (eq_self st.serial) (and_from _ _ (next_is st.next_cell) (and_from _ _ (le_true st.next_cell (2 * G) (omega (arith, bare.cell_until, counted))) refl))
      where
        next_is : (n : ℕ) → eqb n (n + 0) ≡ true
        next_is n = grind (arith, nat_tests)

    mapped : are_mappings [] st.mappings ≡ true
    mapped = ap (λ (ms : List Mapping). nat_le (length ms) MAX_MAPPINGS && true) bare.mappings
