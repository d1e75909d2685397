-- A pool is made in two phases: its headers, and then its first commit.
use Rattle.std.proofs.Common.{◌≡◌, inl, ℕ, ◌<◌, List, Some, None, sym, ◌∙◌, subst, arith}
use Rattle.std.specs.List.{slice_get}
use Rattle.st_header.specs.Header.{IsCopy}
use Rattle.st_recrows.specs.Rows.{Spells}
use Rattle.st_poolrec.specs.Record as pools
use Rattle.st_flexrec.specs.Conditions.{IsFlexRec}
use Rattle.st_flexrec.specs.Record.{record_text}
use Rattle.st_rack.specs.Device.{Path, State}
use Rattle.st_rack.specs.Moments.{Goes, Keeps}
use Rattle.st_rack.proofs.Cells.{cells_same}
use Rattle.st_rack.proofs.Moments.{goes_on, goes_weak, goes_keeps, at_moment, at_end}
use Rattle.st_deltalog.specs.Log.{begun}
use Rattle.st_commit.specs.Standing.{OneOf, standing_of}
use Rattle.st_commit.specs.Ready.{BearsRecord, IsOf, Moves, NoOther, Outside, OutsideOf, Ready, next}
use Rattle.st_commit.proofs.Moving.{moves_self}
use Rattle.st_image.specs.Looks.{pool_area, flex_area}
use Rattle.st_image.specs.Bears.{first_of, paths}
use Rattle.st_books.specs.declared.books.Books.{Books}
use Rattle.st_books.specs.Ready.{AreReady, rows_of}
use Rattle.st_books.specs.Survived.{Survived}
use Rattle.st_making.specs.First.{AreNew, flex_record}
use Rattle.st_making.specs.Made.{AreFree, BearHeaders, IsMade, Stays, made}
use Rattle.st_making.specs.inner.Heading.{AllHeading, AllHeaded}
use Rattle.st_making.proofs.Heading.{heading_self}
use Rattle.st_making.proofs.Made.{no_pool_left, made_left, made_ready, bear_headers}

module _ {D : Type 0} (moment : D → ℕ) (state_at : D → ℕ → State) (b : Books) (new : AreNew b) where
  abbrev now : D → State
  now r = state_at r (moment r)

  abbrev Left : State → Type 0
  Left = Survived b.rec.serial (rows_of b.rec) (IsMade (made b.rec))

  abbrev Heads : State → State → Type 0
  Heads = AllHeading b.rec.serial (rows_of b.rec)

  abbrev Commits : State → State → Type 0
  Commits = Moves pool_area flex_area 1 (paths (rows_of b.rec))

  pub heads_end : (old mid : D) → Goes moment state_at Heads old mid → Heads (now old) (now mid)
  heads_end old mid time = at_end moment state_at Heads old mid (heading_self b.rec.serial (rows_of b.rec) (now old)) time

  pub heads_keep : (old mid : D) → AreFree b.rec.serial (rows_of b.rec) (now old) → Goes moment state_at Heads old mid → Keeps moment state_at Left old mid
  heads_keep old mid free time = goes_keeps moment state_at Heads Left old mid (heading_self b.rec.serial (rows_of b.rec) (now old)) (λ s heading c leaves. no_pool_left b new (now old) free s heading c leaves) time

  pub heads_stay : (old mid : D) → Goes moment state_at Heads old mid → Goes moment state_at (Stays (paths (rows_of b.rec))) old mid
  heads_stay old mid = goes_weak moment state_at Heads (Stays (paths (rows_of b.rec))) old mid (λ a s heading d not_of. heading.others d not_of)

  pub both_stay : (old mid new_rack : D) → Goes moment state_at Heads old mid → Goes moment state_at Commits mid new_rack → Goes moment state_at (Stays (paths (rows_of b.rec))) old new_rack
  both_stay old mid new_rack one two =
      let first = heads_end old mid one in
      goes_on moment state_at Heads Commits (Stays (paths (rows_of b.rec))) old mid new_rack (λ s heading d not_of. heading.others d not_of) (λ s moves d not_of. (moves d).1 not_of ∙ first.others d not_of) one two

  module _ (old mid last : D) (free : AreFree b.rec.serial (rows_of b.rec) (now old)) (headed : AllHeaded b.rec.serial (rows_of b.rec) (now old) (now mid)) (moves : Goes moment state_at Commits mid last) where
    at_last : Commits (now mid) (now last)
    at_last = at_end moment state_at Commits mid last (moves_self pool_area flex_area 1 (paths (rows_of b.rec)) (now mid)) moves

    pub bear_at_end : BearHeaders b.rec.serial (rows_of b.rec) (now last)
    bear_at_end k d at =
        let was = bear_headers b new (now old) free (now mid) headed k d at in
        record {
          first = subst (λ (l : List ℕ). IsCopy d.1 l b.rec.serial) (sym (cells_same (now last d.0).holds (now mid d.0).holds 512 512 (λ i low high. (at_last d.0).0.same i (out d.0 i (omega (arith, high)))))) was.first;
          second = subst (λ (l : List ℕ). IsCopy d.1 l b.rec.serial) (sym (cells_same (now last d.0).holds (now mid d.0).holds 4608 512 (λ i low high. (at_last d.0).0.same i (out d.0 i (omega (arith, high)))))) was.second;
          sure = λ i low high. (at_last d.0).0.sure i (out d.0 i (omega (arith, high))) (was.sure i low high);
        }
      where
        out : (q : Path) (i : ℕ) → i < 8192 → Outside pool_area 1 i × (slice_get (paths (rows_of b.rec)) 0 ≡ Some q → OutsideOf flex_area.area i)
        out q i high = (inl (omega (arith, high)), λ head. inl (omega (arith, high)))

    module _ (is : pools.IsPoolRec b.rec) (body : List ℕ) (spelled : Spells (IsFlexRec 1) record_text body (flex_record b.rec.serial)) where
      pub commit_keeps : Keeps moment state_at (OneOf pool_area flex_area b.rec.serial (paths (rows_of b.rec)) (first_of b.rec) None (standing_of 1 (pools.record_text b.rec) (Some (begun 1 (1, body))))) mid last
          → Keeps moment state_at (NoOther pool_area (paths (rows_of b.rec)) 1 (pools.record_text b.rec) (now mid)) mid last → Keeps moment state_at Left mid last
      commit_keeps one known = record {
        later = one.later;
        past = one.past;
        all = λ k from until c leaves.
            made_left b new (now old) free (now mid) headed is body spelled (state_at last k)
            (at_moment moment state_at Commits mid last (moves_self pool_area flex_area 1 (paths (rows_of b.rec)) (now mid)) moves k from until) (one.all k from until) (known.all k from until) c leaves;
      }

      pub ready_at_end : Ready pool_area flex_area b.rec.serial 1 (next 1 (pools.record_text b.rec) (λ k. pools.record_text b.rec)) (paths (rows_of b.rec)) (first_of b.rec) 1 (Some (begun 1 (1, body))) (now last)
          → ((d : Path) → IsOf (paths (rows_of b.rec)) d → BearsRecord pool_area 1 (pools.record_text b.rec) (now last d)) → AreReady b (now last)
      ready_at_end ready borne = made_ready b new (now old) free (now mid) headed is body spelled (now last) at_last ready borne
