-- changing the row of a filesystem is putting the changed one in its place
use Rattle.std.proofs.Common.{◌≡◌, ℕ, zero, suc, ◌+◌, ◌<◌, ◌≤◌, ◌^◌, ◌==◌, arith, List, [], ◌∷◌, Bool, true, false, cond, map, length, Option, Some, None, slice_get, slice_set, refl, sym, ap, ◌∙◌, subst}
use Rattle.std.specs.List.{AllByRecursion}
use Rattle.std.proofs.lemmas.Grind.{common_steps}
use Rattle.st_units.specs.declared.rows.FsRow.{FsRow}
use Rattle.st_model.specs.declared.reply.Reply.{Reply}
use Rattle.st_model.specs.declared.state.FsState.{FsState}
use Rattle.st_model.specs.declared.state.PoolState.{PoolState}
use Rattle.st_model.specs.Answer.{first_answer, unless_answered}
use Rattle.st_model.specs.Checks.{fs_at, in_fs, on_fs, rows_changed, with_row}
use Rattle.st_model.specs.Look.{Text}
use Rattle.st_model.specs.ValidPool.{AreFsPair, EachPair, IsValidFs, IsWhole}
use Rattle.st_model.proofs.Lists.{All-weaker}

apart : (a b : ℕ) → a < b → (a == b) ≡ false
apart a b h = grind (arith, common_steps)

apart_back : (a b : ℕ) → a < b → (b == a) ≡ false
apart_back a b h = grind (arith, common_steps)

same : (a : ℕ) → (a == a) ≡ true
same a = grind (arith, common_steps)

got : (x : FsState) (fss : List FsState) (i : ℕ) (fs : FsState) → AllByRecursion (AreFsPair x) fss → slice_get fss i ≡ Some fs → AreFsPair x fs
got x [] i fs a h = absurd cc
got x (y ∷ fss) zero fs a h = let e : y ≡ fs = cc in subst (λ (z : FsState). AreFsPair x z) e a.0
got x (y ∷ fss) (suc i) fs a h = got x fss i fs a.1 h

module _ (change : FsRow → FsRow) where
  abbrev pub turned : FsState → FsState
  turned fs = record fs { row = change fs.row }

  other : (serial : ℕ) (fs : FsState) → (fs.row.serial == serial) ≡ false → with_row change serial fs ≡ fs
  other serial fs h = rw h refl

  itself : (fs : FsState) → with_row change fs.row.serial fs ≡ turned fs
  itself fs = rw (same fs.row.serial) refl

  all_stay : (fs : FsState) (fss : List FsState) → AllByRecursion (AreFsPair fs) fss → map (with_row change fs.row.serial) fss ≡ fss
  all_stay fs [] a = refl
  all_stay fs (x ∷ fss) a = rw (other fs.row.serial x (apart_back fs.row.serial x.row.serial a.0.serials), all_stay fs fss a.1) refl

  pub rows_put : (fss : List FsState) (i : ℕ) (fs : FsState) → EachPair AreFsPair fss → slice_get fss i ≡ Some fs → map (with_row change fs.row.serial) fss ≡ slice_set fss i (turned fs)
  rows_put [] i fs a h = absurd cc
  rows_put (x ∷ fss) zero fs a h =
      let e : x ≡ fs = cc in
      subst (λ (z : FsState). map (with_row change z.row.serial) (x ∷ fss) ≡ turned z ∷ fss) e (rw (itself x, all_stay x fss a.0) refl)
  rows_put (x ∷ fss) (suc i) fs a h =
      rw (other fs.row.serial x (apart x.row.serial fs.row.serial (got x fss i fs a.0 h).serials), rows_put fss i fs a.1 h) refl

  -- the pool with the row changed in its place
  abbrev pub turned_at : ℕ → FsState → PoolState → PoolState
  turned_at i fs p = record p { filesystems = slice_set p.filesystems i (turned fs); commits = p.commits + 1 }

  module _ (answers : FsState → PoolState → List (Option Reply)) (reply : FsState → PoolState → Reply) where
    abbrev pub doing : FsState → PoolState → Reply × PoolState
    doing fs p = unless_answered (first_answer (answers fs p)) p (reply fs p, rows_changed change fs.row.serial p)

    pub row_so : (name : Text) (p : PoolState) (i : ℕ) (fs : FsState) → IsWhole p → fs_at name p.filesystems ≡ slice_get p.filesystems i → slice_get p.filesystems i ≡ Some fs
        → first_answer (answers fs p) ≡ None → (reply fs p, turned_at i fs p) ≡ on_fs name doing p
    row_so name p i fs w at h none =
        ap (λ (l : List FsState). (reply fs p, record p { filesystems = l; commits = p.commits + 1 })) (sym (rows_put p.filesystems i fs w.ordered h))
        ∙ sym (ap (λ o. unless_answered o p (reply fs p, rows_changed change fs.row.serial p)) none)
        ∙ sym (ap (in_fs doing p) (at ∙ h))

    pub answered_so : (name : Text) (p : PoolState) (i : ℕ) (fs : FsState) (said : Reply) → fs_at name p.filesystems ≡ slice_get p.filesystems i → slice_get p.filesystems i ≡ Some fs
        → first_answer (answers fs p) ≡ Some said → (said, p) ≡ on_fs name doing p
    answered_so name p i fs said at h is =
        sym (ap (λ o. unless_answered o p (reply fs p, rows_changed change fs.row.serial p)) is)
        ∙ sym (ap (in_fs doing p) (at ∙ h))
