-- the replies to lines, line by line
use Rattle.std.proofs.Common.{◌≡◌, ◌∙◌, ◌<◌, ◌≤◌, ℕ, zero, suc, ◌+◌, List, [], ◌∷◌, ◌++◌, length, map, drop, Bool, true, false, cond, Option, Some, arith, refl, ap, sym, add-one}
use Rattle.std.proofs.lemmas.List.{length-map}
use Rattle.std.specs.Prelude.{slice_get}
use Rattle.std.specs.List.{enumerate_from, filter, flat_map}
use Rattle.st_model.specs.declared.reply.Reply.{Reply}
use Rattle.st_lines.proofs.Known.{lines_for}
use Rattle.st_replies.specs.Shown.{reply_line, summary_line}
use Rattle.st_status.specs.Statuses.{Wrote}
use Rattle.st_status.specs.declared.status.Status.{Status}
use Rattle.st_check.specs.Checked.{IsCheck, checked, is_ok, numbered_line, still, verdict}

drop_at : (lines : List (List ℕ)) (i : ℕ) (line : List ℕ) → slice_get lines i ≡ Some line → drop i lines ≡ line ∷ drop (suc i) lines
drop_at [] i line h = absurd cc
drop_at (first ∷ lines) zero line h = let same : first ≡ line = cc in ap (λ l. l ∷ lines) same
drop_at (first ∷ lines) (suc i) line h = drop_at lines i line h

drop_next : (lines : List (List ℕ)) (i : ℕ) (line : List ℕ) → slice_get lines i ≡ Some line → drop i lines ≡ line ∷ drop (i + 1) lines
drop_next lines i line at = drop_at lines i line at ∙ ap (λ (n : ℕ). line ∷ drop n lines) (sym (add-one i))

abbrev pub one_if : Bool → ℕ
one_if b = cond b 1 0

pub at_most_one : (b : Bool) → one_if b ≤ 1
at_most_one true = omega arith
at_most_one false = omega arith

module _ (lanes : ℕ) (lines : List (List ℕ)) where
  -- what is printed from line i on, the first being line 0
  abbrev pub text_from : ℕ → List ℕ
  text_from i = flat_map numbered_line (enumerate_from (i + 1) (map (verdict lanes) (drop i lines)))

  -- how many of these lines are accepted
  abbrev pub oks_from : ℕ → ℕ
  oks_from i = length (filter is_ok (map (verdict lanes) (drop i lines)))

  module _ (i : ℕ) (line : List ℕ) (at : slice_get lines i ≡ Some line) where
    pub text_next : text_from i ≡ reply_line (i + 1) (verdict lanes line) ++ text_from (i + 1)
    text_next = ap (λ rest. flat_map numbered_line (enumerate_from (i + 1) (map (verdict lanes) rest))) (drop_next lines i line at)

    pub oks_next : oks_from i ≡ one_if (is_ok (verdict lanes line)) + oks_from (i + 1)
    oks_next = ap (λ rest. length (filter is_ok (map (verdict lanes) rest))) (drop_next lines i line at) ∙ one_more (is_ok (verdict lanes line)) (verdict lanes line) (filter is_ok (map (verdict lanes) (drop (i + 1) lines)))
      where
        one_more : (b : Bool) (r : Reply) (rs : List Reply) → length (cond b (r ∷ rs) rs) ≡ one_if b + length rs
        one_more true r rs = omega arith
        one_more false r rs = omega arith

-- what a check writes is what is printed from the first line on, and the summary
pub checked_is : (lanes : ℕ) (lines : List (List ℕ)) → checked lanes lines ≡ text_from lanes lines 0 ++ summary_line (still (length lines) (oks_from lanes lines 0))
unfolding checked
checked_is lanes lines = ap (λ n. text_from lanes lines 0 ++ summary_line (still n (oks_from lanes lines 0))) (length-map lines (verdict lanes))

-- a check that wrote nothing
pub nothing_checked : (lanes : ℕ) (status : Status) (left held : Option (List ℕ)) → ((output : List ℕ) → Wrote status held held output) → IsCheck lanes status left held held
nothing_checked lanes status left held wrote =
    let some = lines_for left in
    record { lines = some.0; read = some.1; wrote = wrote (checked lanes some.0) }
