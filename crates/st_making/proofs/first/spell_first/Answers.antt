use Rattle.std.proofs.Common.{◌≡◌, ℕ, ◌+◌, ◌<◌, ◌≤◌, ◌^◌, true, List, length, refl, sym, ◌∙◌, ap, subst, arith}
use Rattle.st_fields.specs.Slot.{padded}
use Rattle.st_recrows.specs.Rows.{Spells}
use Rattle.st_flexrec.specs.Conditions.{IsFlexRec, KeepsConditions, is_within}
use Rattle.st_flexrec.specs.Record.{record_text}
use Rattle.st_flexrec.specs.declared.record.FlexRec.{FlexRec}
use Rattle.st_books.proofs.Texts.{bare_kept, bare_short, record_short}
use Rattle.st_making.proofs.Valid.{new_valid}
use Rattle.st_making.specs.First.{first_flex}
use Rattle.st_making.proofs.first.spell_first.Goals as goal

small : (n : ℕ) → 64 + n ≤ 851968 → n < 2 ^ 40
small n le = omega (arith, le)

short : (n : ℕ) → 64 + n ≤ 32768 → 64 + n ≤ 851968
short n le = omega (arith, le)

pub encode-requires : goal.encode-requires
encode-requires c = new_valid c.args.books.now c.requires

pub encode-requires-2 : goal.encode-requires-2
encode-requires-2 c = subst (λ (r : FlexRec). KeepsConditions r) (sym c.flex_record.ensures) (bare_kept (first_flex c.args.books.now.rec.serial) (omega arith) (omega arith))

pub work_for-requires : goal.work_for-requires
work_for-requires c =
    subst (λ (t : List ℕ). length t < 2 ^ 40) (sym (c.items.ensures ∙ c.in_ok-rec_text.ensures.spelled)) (small _ (short _ (record_short c.args.books.now.rec c.in_ok-rec_text.ensures.fit)))

pub work_for-requires-2 : goal.work_for-requires-2
work_for-requires-2 c =
    let body = subst (λ (r : FlexRec). Spells (IsFlexRec 1) record_text c.in_ok-body.body r) c.flex_record.ensures (c.in_ok-body.ensures 1 (subst (λ (r : FlexRec). is_within 1 r ≡ true) (sym c.flex_record.ensures) refl)) in
    subst (λ (t : List ℕ). length t < 2 ^ 40) (sym (c.items-2.ensures ∙ body.spelled)) (small _ (bare_short (first_flex c.args.books.now.rec.serial)))

pub returns : goal.returns
returns c =
    let body = subst (λ (r : FlexRec). Spells (IsFlexRec 1) record_text c.in_ok-body.body r) c.flex_record.ensures (c.in_ok-body.ensures 1 (subst (λ (r : FlexRec). is_within 1 r ≡ true) (sym c.flex_record.ensures) refl)) in
    record {
      is = c.in_ok-rec_text.ensures.fit;
      text = c.in_ok-rec_text.ensures.spelled;
      body = body;
      text_work = c.in_ok-rec_work.ensures ∙ ap (λ (t : List ℕ). padded (64 + length t)) c.items.ensures;
      body_work = c.in_ok-body_work.ensures ∙ ap (λ (t : List ℕ). padded (64 + length t)) c.items-2.ensures;
    }
