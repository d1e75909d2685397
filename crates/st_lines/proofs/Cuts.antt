-- the lines of a text by its first line
use Rattle.std.proofs.Common.{◌≡◌, ℕ, ◌<◌, ◌≤◌, ◌+◌, List, [], ◌∷◌, ◌++◌, length, take, drop, map, All, Bool, refl, sym, ap, ◌∙◌, arith, Some, None, Result, Ok, Err, unwrap_or, not, ⊎_elim, length-append, length-take, length-drop, append_assoc}
use Rattle.std.proofs.lemmas.Bool.{cases_lt}
use Rattle.std.proofs.lemmas.List.{map-append, take_all, drop_all, drop-drop}
use Rattle.std.proofs.lemmas.List.Elements.{All-push}
use Rattle.std.proofs.lemmas.Grind.{common_steps}
use Rattle.std.proofs.lemmas.List.Sums.{prefix_len-le-length, fails_before_first}
use Rattle.std.proofs.lemmas.List.Splits.{slice_split_none, slice_split_first, length-slice_split}
use Rattle.std.specs.List.{position, position_or_len, before_first, after_first}
use Rattle.std.specs.Option.{option_or}
use Rattle.st_lines.specs.Limits.{broken_by_line, broken_by_lines}
use Rattle.st_lines.specs.declared.limit.Limit.{Limit}
use Rattle.st_lines.specs.declared.read.ReadStop.{ReadStop}
use Rattle.st_lines.specs.declared.read.ReadStop.TheVariants as stops
use Rattle.st_lines.specs.Lines.{is_feed, no_empty_last, lines_of}
use Rattle.st_lines.specs.Spans.{line_at, LiesIn}
use Rattle.st_lines.specs.declared.lines.Span.{Span}

pub no_empty_last-cons : (line : List ℕ) (pieces : List (List ℕ)) → 0 < length pieces → no_empty_last (line ∷ pieces) ≡ line ∷ no_empty_last pieces
no_empty_last-cons line [] h = absurd (omega arith)
no_empty_last-cons [] (piece ∷ pieces) h = refl
no_empty_last-cons (byte ∷ line) (piece ∷ pieces) h = refl

no_empty_last-one : (line : List ℕ) → 0 < length line → no_empty_last (line ∷ []) ≡ line ∷ []
no_empty_last-one [] h = absurd (omega arith)
no_empty_last-one (byte ∷ line) h = refl

unwrap_or-position : (p : ℕ → Bool) (xs : List ℕ) → unwrap_or (position p xs) (length xs) ≡ position_or_len p xs
unwrap_or-position p xs =
    let within = prefix_len-le-length (λ x. not (p x)) xs in
    grind (arith, common_steps)

-- a text with an LF
lines_of-found : (text : List ℕ) → position_or_len is_feed text < length text → lines_of text ≡ before_first is_feed text ∷ lines_of (after_first is_feed text)
lines_of-found text l = ap no_empty_last (slice_split_first is_feed text 0 l) ∙ no_empty_last-cons _ _ (omega (arith, length-slice_split is_feed (after_first is_feed text)))

-- a text without one
lines_of-one : (text : List ℕ) → 0 < length text → position_or_len is_feed text ≡ length text → lines_of text ≡ text ∷ []
lines_of-one text h e = ap no_empty_last (slice_split_none is_feed text (λ k d l. fails_before_first is_feed text k d (omega (arith, e)))) ∙ no_empty_last-one text h

-- the first line of a text, and the lines after it
pub lines_of-first : (text : List ℕ) (n : ℕ) → 0 < length text → n ≡ position_or_len is_feed text → lines_of text ≡ take n text ∷ lines_of (drop (n + 1) text)
lines_of-first text n h is = ⊎_elim
    (λ l. lines_of-found text l ∙ ap (λ k. take k text ∷ lines_of (drop (k + 1) text)) (sym is))
    (λ g.
    let all : position_or_len is_feed text ≡ length text = omega (arith, prefix_len-le-length (λ x. not (is_feed x)) text, g) in
    lines_of-one text h all ∙ ap (λ line. line ∷ []) (sym (take_all n text (omega (arith, is, all))))
    ∙ ap (λ rest. take n text ∷ lines_of rest) (sym (drop_all (n + 1) text (omega (arith, is, all)))))
    (cases_lt (position_or_len is_feed text) (length text))

-- the line that begins at `from`, where n is its length, and what follows it
first_at : (text : List ℕ) (from n : ℕ) → from < length text → n ≡ unwrap_or (position is_feed (drop from text)) (length (drop from text))
    → (lines_of (drop from text) ≡ take n (drop from text) ∷ lines_of (drop (from + n + 1) text)) × (from + n ≤ length text)
first_at text from n more e =
    let rest = drop from text in
    let is : n ≡ position_or_len is_feed rest = e ∙ unwrap_or-position is_feed rest in
    let within : from + n ≤ length text = omega (arith, is, prefix_len-le-length (λ x. not (is_feed x)) rest, length-drop from text, more) in
    let onward : drop (n + 1) rest ≡ drop (from + n + 1) text = drop-drop (n + 1) from text ∙ ap (λ k. drop k text) (omega arith) in (
      lines_of-first rest n (omega (arith, length-drop from text, more)) is ∙ ap (λ text'. take n rest ∷ lines_of text') onward,
      within,
    )

abbrev pub limit_in : Limit → ReadStop → Limit
limit_in d (stops.Limit limit) = limit
limit_in d stop = d

abbrev pub limit_or : {T : Type 0} → Limit → Result T ReadStop → Limit
limit_or d (Ok x) = d
limit_or d (Err stop) = limit_in d stop

-- how far the cutting of a text has come
pub record CutSoFar (text : List ℕ) (spans : List Span) (from : ℕ) : Type 0 where
  pub within : from ≤ length text + 1
  pub cut : map (line_at text) spans ++ lines_of (drop from text) ≡ lines_of text
  pub fit : All (LiesIn text) spans
  pub kept : broken_by_lines (length spans + 1) (lines_of (drop from text)) ≡ broken_by_lines 1 (lines_of text)

-- what the lines from here on break, by the next line
broken_at : (text : List ℕ) (number from n : ℕ) → from < length text → n ≡ unwrap_or (position is_feed (drop from text)) (length (drop from text))
    → broken_by_lines number (lines_of (drop from text)) ≡ option_or (broken_by_line number n) (broken_by_lines (number + 1) (lines_of (drop (from + n + 1) text)))
broken_at text number from n more e =
    let first = first_at text from n more e in
    let len : length (take n (drop from text)) ≡ n = omega (arith, length-take n (drop from text), length-drop from text, first.1) in
    ap (broken_by_lines number) first.0
    ∙ ap (λ k. option_or (broken_by_line number k) (broken_by_lines (number + 1) (lines_of (drop (from + n + 1) text)))) len

-- the next line breaks a limit
pub CutSoFar-broken : (text : List ℕ) (spans : List Span) (from n : ℕ) (limit : Limit) → CutSoFar text spans from → from < length text
    → n ≡ unwrap_or (position is_feed (drop from text)) (length (drop from text)) → broken_by_line (length spans + 1) n ≡ Some limit
    → broken_by_lines 1 (lines_of text) ≡ Some limit
CutSoFar-broken text spans from n limit so_far more e broken =
    sym so_far.kept ∙ broken_at text (length spans + 1) from n more e
    ∙ ap (λ o. option_or o (broken_by_lines (length spans + 1 + 1) (lines_of (drop (from + n + 1) text)))) broken

-- no line is left
pub CutSoFar-end : (text : List ℕ) (spans : List Span) (from : ℕ) → CutSoFar text spans from → length text ≤ from → broken_by_lines 1 (lines_of text) ≡ None
CutSoFar-end text spans from so_far end = sym so_far.kept ∙ ap (λ rest. broken_by_lines (length spans + 1) (lines_of rest)) (drop_all from text end)

-- one more line is cut off, where n is its length
pub CutSoFar-more : (text : List ℕ) (spans : List Span) (from n : ℕ) → CutSoFar text spans from → from < length text
    → n ≡ unwrap_or (position is_feed (drop from text)) (length (drop from text)) → broken_by_line (length spans + 1) n ≡ None
    → CutSoFar text (spans ++ record { from = from; to = from + n } ∷ []) (from + n + 1)
CutSoFar-more text spans from n so_far more e none =
    let first = first_at text from n more e in
    let line : line_at text (record { from = from; to = from + n }) ≡ take n (drop from text) = ap (λ k. take k (drop from text)) (omega arith) in
    let after = lines_of (drop (from + n + 1) text) in
    let whole : line_at text (record { from = from; to = from + n }) ∷ after ≡ lines_of (drop from text) = ap (λ l. l ∷ after) line ∙ sym first.0 in
    record {
      within = omega (arith, first.1);
      cut = ap (λ lines. lines ++ after) (map-append (line_at text) spans _) ∙ append_assoc (map (line_at text) spans) _ after ∙ ap (λ lines. map (line_at text) spans ++ lines) whole ∙ so_far.cut;
      fit = All-push (LiesIn text) spans _ so_far.fit (omega arith, first.1);
      kept =
          ap (λ k. broken_by_lines (k + 1) after) (length-append spans _)
          ∙ ap (λ o. option_or o (broken_by_lines (length spans + 1 + 1) after)) (sym none)
          ∙ sym (broken_at text (length spans + 1) from n more e)
          ∙ so_far.kept;
    }

pub limit_is : {T : Type 0} (r : Result T ReadStop) (a b : Limit) → r ≡ Err (stops.Limit a) → r ≡ Err (stops.Limit b) → a ≡ b
limit_is r a b is_a is_b = ap (limit_or a) (sym is_a ∙ is_b)
