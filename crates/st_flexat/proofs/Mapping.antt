-- What holds of the mappings that a log says.
use Rattle.std.proofs.Common.{◌≡◌, inl, inr, ℕ, suc, ◌+◌, ◌*◌, ◌/◌, ◌%◌, ◌^◌, ◌<◌, ◌≤◌, Bool, true, false, ◌&&◌, ◌||◌, cond, nat_lt, nat_le, nat_eq, List, [], ◌∷◌, length, Option, Some, None, refl, sym, ap, ◌∙◌, subst, arith}
use Rattle.std.specs.Prelude.{◌==◌}
use Rattle.std.specs.List.{list_all, list_any}
use Rattle.std.proofs.lemmas.Bool.{cases_Bool}
use Rattle.std.proofs.lemmas.Bool.Decides.{nat_tests}
use Rattle.st_units.specs.declared.rows.FsRow.{FsRow}
use Rattle.st_limits.specs.declared.TheConstants.{BLOCK_SECTORS, MAX_FS_SECTORS, MAX_MAPPINGS}
use Rattle.st_rack.specs.Story.{Content}
use Rattle.st_flexrec.specs.declared.record.FlexRec.{FlexRec}
use Rattle.st_flexrec.specs.Filesystems.{is_size, is_limit, is_fs_row}
use Rattle.st_flexrec.specs.Conditions.{KeepsConditions}
use Rattle.st_deltalog.specs.declared.area.FlexArea.{FlexArea}
use Rattle.st_flexlog.specs.declared.delta.Delta.{Delta}
use Rattle.st_flexlog.specs.declared.delta.DeltaRow.{DeltaRow}
use Rattle.st_flexlog.specs.declared.state.FlexState.{FlexState}
use Rattle.st_flexlog.specs.Delta.{rows_of, delta_of}
use Rattle.st_flexlog.specs.State.{state_of}
use Rattle.st_flexlog.specs.Applied.{is_of_fs, may_come, cells_follow, are_of_one, blocks_rise, has_own_place, are_mappings, after_rows, applied, applied_if}
use Rattle.st_flexlog.specs.Said.{then_applied, replayed}
use Rattle.st_flexat.specs.FlexAt.{FlexAt}
use Rattle.st_flexat.specs.Mapped.{AgreesWith, AreMapped}
use Rattle.st_flexat.proofs.Members.{In, passes, all_of, pairs_of}
use Rattle.st_flexat.proofs.Growing.{Tidy, rows_tidy}
use Rattle.st_flexat.proofs.Beginning.{record_tidy}

both_true : (a b : Bool) → (a && b) ≡ true → (a ≡ true) × (b ≡ true)
both_true true b is = (refl, is)
both_true false b is = absurd (cc)

lt_of : (a b : ℕ) → nat_lt a b ≡ true → a < b
lt_of a b is = grind (arith, nat_tests)

le_of : (a b : ℕ) → nat_le a b ≡ true → a ≤ b
le_of a b is = grind (arith, nat_tests)

eq_of : (a b : ℕ) → nat_eq a b ≡ true → a ≡ b
eq_of a b is = grind (arith, nat_tests)

any_in : {X : Type 0} (p : X → Bool) (xs : List X) → list_any p xs ≡ true → (x : X) × In x xs × (p x ≡ true)
any_in p [] is = absurd cc
any_in {X} p (x ∷ xs) is = by (p x) refl (λ more. any_in p xs more) is
  where
    by : (b : Bool) → p x ≡ b → (list_any p xs ≡ true → (y : X) × In y xs × (p y ≡ true)) → (b || list_any p xs) ≡ true → (y : X) × In y (x ∷ xs) × (p y ≡ true)
    by true e further is = (x, inl refl, e)
    by false e further is = let rest = further is in (rest.0, inr rest.1, rest.2)

-- the state's mappings, and that no filesystem is too large for the number of a block
record IsTidy (st : FlexState) : Type 0 where
  pub maps : Tidy st.next_cell st.mappings
  pub sizes : list_all (is_fs_row st.next_fs) st.filesystems ≡ true

or_last : (a b : Bool) → (a || b) ≡ true → a ≡ false → b ≡ true
or_last true b is differs = absurd (cc)
or_last false b is differs = is

not_zero : (n : ℕ) → nat_eq (suc n) 0 ≡ false
not_zero n = grind (arith, nat_tests)

block_below : (next : ℕ) (filesystems : List FsRow) (rows : List DeltaRow) (r : DeltaRow) → list_all (is_fs_row next) filesystems ≡ true → are_of_one filesystems rows ≡ true → In r rows → r.block < 2 ^ 32
block_below next filesystems [] r sizes one is = absurd is
block_below next filesystems (q ∷ qs) r sizes one is =
    let any : list_any (λ f. list_all (is_of_fs f) (q ∷ qs)) filesystems ≡ true = or_last (nat_eq (suc (length qs)) 0) (list_any (λ f. list_all (is_of_fs f) (q ∷ qs)) filesystems) one (not_zero (length qs)) in
    let fs = any_in (λ f. list_all (is_of_fs f) (q ∷ qs)) filesystems any in
    let of : is_of_fs fs.0 r ≡ true = passes (is_of_fs fs.0) (q ∷ qs) r fs.2 is in
    let lt = lt_of r.block (fs.0.size / BLOCK_SECTORS) (both_true (r.fs == fs.0.serial) (nat_lt r.block (fs.0.size / BLOCK_SECTORS)) of).1 in
    let whole : is_fs_row next fs.0 ≡ true = passes (is_fs_row next) filesystems fs.0 sizes fs.1 in
    let fits = both_true (nat_le 1 fs.0.serial) (nat_lt fs.0.serial next && (is_size fs.0.size && is_limit fs.0.size fs.0.limit)) whole in
    let sized = both_true (is_size fs.0.size) (is_limit fs.0.size fs.0.limit) (both_true (nat_lt fs.0.serial next) (is_size fs.0.size && is_limit fs.0.size fs.0.limit) fits.1).1 in
    let small = both_true (nat_le BLOCK_SECTORS fs.0.size) (nat_le fs.0.size MAX_FS_SECTORS) (both_true (fs.0.size % BLOCK_SECTORS == 0) (nat_le BLOCK_SECTORS fs.0.size && nat_le fs.0.size MAX_FS_SECTORS) sized.0).1 in
    omega (arith, lt, le_of fs.0.size MAX_FS_SECTORS small.1)

some_same : (a b : FlexState) → Some a ≡ Some b → a ≡ b
some_same a b e = cc

none_some : (a : FlexState) → None ≡ Some a → ⊥
none_some a e = cc

applied_tidy : (generation : ℕ) (d : Delta) (st after : FlexState) → applied generation d st ≡ Some after → IsTidy st → IsTidy after
applied_tidy generation d st after is tidy =
    let rows = rows_of d in
    let mappings = (after_rows d st).mappings in
    elim (cases_Bool (may_come generation d st && are_mappings rows mappings)) [
      | inl good ↦
          let both = both_true (may_come generation d st) (are_mappings rows mappings) good in
          let own = both_true (nat_le (length mappings) MAX_MAPPINGS) (list_all (has_own_place mappings) rows) both.1 in
          let serial = both_true (d.serial == st.serial) ((d.next_cell == st.next_cell + length rows) && (nat_le d.next_cell (2 * generation) && (cells_follow st.next_cell rows && (are_of_one st.filesystems rows && blocks_rise rows)))) both.0 in
          let next = both_true (d.next_cell == st.next_cell + length rows) (nat_le d.next_cell (2 * generation) && (cells_follow st.next_cell rows && (are_of_one st.filesystems rows && blocks_rise rows))) serial.1 in
          let few = both_true (nat_le d.next_cell (2 * generation)) (cells_follow st.next_cell rows && (are_of_one st.filesystems rows && blocks_rise rows)) next.1 in
          let follow = both_true (cells_follow st.next_cell rows) (are_of_one st.filesystems rows && blocks_rise rows) few.1 in
          let one = both_true (are_of_one st.filesystems rows) (blocks_rise rows) follow.1 in
          let same : after_rows d st ≡ after = some_same (after_rows d st) after (sym (ap (λ (b : Bool). cond b (Some (after_rows d st)) None) good) ∙ is) in
          let maps = rows_tidy st.next_cell rows st.mappings tidy.maps follow.0 own.1 (λ r at. block_below st.next_fs st.filesystems rows r tidy.sizes one.0 at) (le_of (length mappings) MAX_MAPPINGS own.0) in
          subst IsTidy same (record { maps = subst (λ (n : ℕ). Tidy n mappings) (sym (eq_of d.next_cell (st.next_cell + length rows) next.0)) maps; sizes = tidy.sizes })
      | inr bad ↦ absurd (none_some after (sym (ap (λ (b : Bool). cond b (Some (after_rows d st)) None) bad) ∙ is))
    ]

record_is_tidy : (rec : FlexRec) → KeepsConditions rec → IsTidy (state_of rec)
record_is_tidy rec kept = record { maps = record_tidy rec kept; sizes = kept.filesystems.each_fits }

replayed_tidy : (c : ℕ) (deltas : List (List ℕ)) (first st : FlexState) → IsTidy first → replayed c deltas first ≡ Some st → IsTidy st
replayed_tidy c [] first st tidy is = subst IsTidy (some_same first st is) tidy
replayed_tidy c (delta ∷ deltas) first st tidy is = by (replayed c deltas first) refl (λ before e. replayed_tidy c deltas first before tidy e) is
  where
    then : (before : FlexState) → IsTidy before → (d : Option Delta) → applied_if (c + suc (length deltas)) d before ≡ Some st → IsTidy st
    then before good None is = absurd (none_some st is)
    then before good (Some d) is = applied_tidy (c + suc (length deltas)) d before st is good

    by : (o : Option FlexState) → replayed c deltas first ≡ o → ((before : FlexState) → replayed c deltas first ≡ Some before → IsTidy before) → then_applied (c + suc (length deltas)) delta o ≡ Some st → IsTidy st
    by None e further is = absurd (none_some st is)
    by (Some before) e further is = then before (further before e) (delta_of delta) is

pub said_mapped : (flex : FlexArea) (p g : ℕ) (f : Content) (st : FlexState) → FlexAt flex p g f st → AreMapped st.next_cell st.mappings
said_mapped flex p g f st at =
    let says = at.says in
    let tidy = (replayed_tidy at.log.start at.log.deltas (state_of says.rec) st (record_is_tidy says.rec says.spelled.fit.kept) says.replays).maps in
    record {
      few = tidy.few;
      rise = pairs_of _ st.mappings tidy.rise;
      blocks = all_of (λ m. m.block < 2 ^ 32) st.mappings tidy.blocks;
      cells = all_of (λ m. m.cell < st.next_cell) st.mappings tidy.cells;
      paired = all_of _ st.mappings (λ x is_x. all_of (AgreesWith x) st.mappings (λ y is_y. tidy.paired x y is_x is_y));
    }
