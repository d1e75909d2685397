-- What is read is spelled so, and what is spelled so is read.
use Rattle.std.proofs.Common.{◌≡◌, ℕ, ◌+◌, ◌*◌, ◌≤◌, false, List, [], ◌++◌, length, take, drop, Result, Ok, Err, sym, ap, subst, ◌∙◌, append_assoc, arith}
use Rattle.std.proofs.lemmas.Bool.{true≢false}
use Rattle.std.proofs.lemmas.List.{take_at, drop_at, take-append-drop, length-append, length-take-le, length-drop}
use Rattle.st_units.specs.declared.rows.DevRow.{DevRow}
use Rattle.st_units.specs.declared.rows.Segment.{Segment}
use Rattle.st_recrows.specs.declared.fault.RecFault.{RecFault}
use Rattle.st_recrows.specs.declared.fault.RecFault.TheVariants.{NotARecord, OutOfMemory}
use Rattle.st_recrows.specs.Rows.{Reads, Spells, Gives, AllFit, rows_text}
use Rattle.st_recrows.specs.PoolRows.{DevFits, dev_text, dev_fields, SegmentFits, segment_text, segment_fields}
use Rattle.st_recrows.specs.PoolLaws.{dev_width, dev_reads_back, segment_width, segment_reads_back}
use Rattle.st_recrows.proofs.RowsLemmas.{length-rows_text, same_row, same_rows, same_front}
use Rattle.st_poolrec.specs.declared.head.PoolHead.{PoolHead}
use Rattle.st_poolrec.specs.declared.record.PoolRec.{PoolRec}
use Rattle.st_poolrec.specs.Head.{HeadFits, head_text, head_fields}
use Rattle.st_poolrec.specs.HeadLaws.{head_width, head_reads_back}
use Rattle.st_poolrec.specs.Record.{head_of, record_text, RecFits, is_record, IsPoolRec}
use Rattle.st_poolrec.specs.Reading.{Follows}

-- ---- what follows the head

devs_long : (head : PoolHead) (rest : List ℕ) (rec : PoolRec) → Follows head rest rec → length (rows_text dev_text rec.devs) ≡ head.devs * 80
devs_long head rest rec is =
    let long : length (rows_text dev_text rec.devs) ≡ 80 * length rec.devs = length-rows_text DevFits dev_text 80 dev_width rec.devs is.fits.devs in
    let count : length rec.devs ≡ head.devs = ap (λ (h : PoolHead). h.devs) is.is_head in
    omega (arith, long, count)

segments_long : (head : PoolHead) (rest : List ℕ) (rec : PoolRec) → Follows head rest rec → length (rows_text segment_text rec.segments) ≡ head.segments * 12
segments_long head rest rec is =
    let long : length (rows_text segment_text rec.segments) ≡ 12 * length rec.segments = length-rows_text SegmentFits segment_text 12 segment_width rec.segments is.fits.segments in
    let count : length rec.segments ≡ head.segments = ap (λ (h : PoolHead). h.segments) is.is_head in
    omega (arith, long, count)

pub wrong_length : (head : PoolHead) (rest : List ℕ) → (length rest ≡ head.devs * 80 + head.segments * 12 → ⊥) → (rec : PoolRec) → Follows head rest rec → ⊥
wrong_length head rest differ rec is =
    let d = devs_long head rest rec is in
    let s = segments_long head rest rec is in
    differ (ap length is.spelled ∙ length-append (rows_text dev_text rec.devs) (rows_text segment_text rec.segments) ∙ (λ i. d i + s i))

pub bad_devs : (head : PoolHead) (rest front : List ℕ) (n : ℕ) (fault : RecFault) → n ≡ head.devs * 80 → front ≡ take n rest
    → Reads (Spells (AllFit DevFits) (rows_text dev_text) front) (Err fault) → Reads (Follows head rest) (Err fault)
bad_devs head rest front n NotARecord is_n is_front none = λ rec is.
    none rec.devs (record {
      fit = is.fits.devs;
      spelled = is_front ∙ ap (λ (l : List ℕ). take n l) is.spelled ∙ take_at (rows_text dev_text rec.devs) (rows_text segment_text rec.segments) n (devs_long head rest rec is ∙ sym is_n);
    })
bad_devs head rest front n OutOfMemory is_n is_front none = tt

pub bad_segments : (head : PoolHead) (rest back : List ℕ) (n : ℕ) (fault : RecFault) → n ≡ head.devs * 80 → back ≡ drop n rest
    → Reads (Spells (AllFit SegmentFits) (rows_text segment_text) back) (Err fault) → Reads (Follows head rest) (Err fault)
bad_segments head rest back n NotARecord is_n is_back none = λ rec is.
    none rec.segments (record {
      fit = is.fits.segments;
      spelled = is_back ∙ ap (λ (l : List ℕ). drop n l) is.spelled ∙ drop_at (rows_text dev_text rec.devs) (rows_text segment_text rec.segments) n (devs_long head rest rec is ∙ sym is_n);
    })
bad_segments head rest back n OutOfMemory is_n is_back none = tt

pub with_rows : (head : PoolHead) (rest front back : List ℕ) (n : ℕ) (devs : List DevRow) (segments : List Segment) → HeadFits head → n ≡ head.devs * 80 → length rest ≡ n + head.segments * 12
    → front ≡ take n rest → back ≡ drop n rest → Spells (AllFit DevFits) (rows_text dev_text) front devs → Spells (AllFit SegmentFits) (rows_text segment_text) back segments
    → Follows head rest (record { serial = head.serial; gone = head.gone; overprovisioning = head.overprovisioning; version2 = head.version2; fs_limit = head.fs_limit; name = head.name; devs = devs; segments = segments })
with_rows head rest front back n devs segments fit is_n size is_front is_back of_devs of_segments =
    let front_len : length front ≡ n = ap length is_front ∙ length-take-le n rest (omega arith) in
    let back_len : length back ≡ head.segments * 12 = ap length is_back ∙ length-drop n rest ∙ omega arith in
    let devs_len : length front ≡ 80 * length devs = ap length of_devs.spelled ∙ length-rows_text DevFits dev_text 80 dev_width devs of_devs.fit in
    let segments_len : length back ≡ 12 * length segments = ap length of_segments.spelled ∙ length-rows_text SegmentFits segment_text 12 segment_width segments of_segments.fit in
    let dev_count : length devs ≡ head.devs = omega (arith, front_len, devs_len, is_n) in
    let segment_count : length segments ≡ head.segments = omega (arith, back_len, segments_len) in
    let made : PoolRec = record { serial = head.serial; gone = head.gone; overprovisioning = head.overprovisioning; version2 = head.version2; fs_limit = head.fs_limit; name = head.name; devs = devs; segments = segments } in
    let same : head_of made ≡ head =
    λ i. record { serial = head.serial; gone = head.gone; overprovisioning = head.overprovisioning; version2 = head.version2; fs_limit = head.fs_limit; name = head.name; devs = dev_count i; segments = segment_count i } in
    let first : take n rest ≡ rows_text dev_text devs = sym is_front ∙ of_devs.spelled in
    let second : drop n rest ≡ rows_text segment_text segments = sym is_back ∙ of_segments.spelled in
    record {
      fits = record { head = subst HeadFits (sym same) fit; devs = of_devs.fit; segments = of_segments.fit };
      is_head = same;
      spelled = sym (take-append-drop n rest) ∙ (λ i. first i ++ second i);
    }

-- ---- the whole

pub bad_head : (bytes front : List ℕ) (fault : RecFault) → front ≡ take 88 bytes → Reads (Spells HeadFits head_text front) (Err fault) → Reads (Spells RecFits record_text bytes) (Err fault)
bad_head bytes front NotARecord is_front none = λ rec is.
    let rows : List ℕ = rows_text dev_text rec.devs ++ rows_text segment_text rec.segments in
    none (head_of rec) (record {
      fit = is.fit.head;
      spelled = is_front ∙ ap (λ (l : List ℕ). take 88 l) is.spelled ∙ take_at (head_text (head_of rec)) rows 88 (head_width (head_of rec) is.fit.head);
    })
bad_head bytes front OutOfMemory is_front none = tt

pub with_head : (bytes front rest : List ℕ) (head : PoolHead) (r : Result PoolRec RecFault) → 88 ≤ length bytes → front ≡ take 88 bytes → rest ≡ drop 88 bytes
    → Spells HeadFits head_text front head → Reads (Follows head rest) r → Reads (Spells RecFits record_text bytes) r
with_head bytes front rest head (Ok rec) long is_front is_rest is_head given =
    let first : take 88 bytes ≡ head_text (head_of rec) = sym is_front ∙ is_head.spelled ∙ ap head_text (sym given.is_head) in
    let second : drop 88 bytes ≡ rows_text dev_text rec.devs ++ rows_text segment_text rec.segments = sym is_rest ∙ given.spelled in
    record { fit = given.fits; spelled = sym (take-append-drop 88 bytes) ∙ (λ i. first i ++ second i) }
with_head bytes front rest head (Err NotARecord) long is_front is_rest is_head none = λ rec is.
    let rows : List ℕ = rows_text dev_text rec.devs ++ rows_text segment_text rec.segments in
    let wide : length (head_text (head_of rec)) ≡ 88 = head_width (head_of rec) is.fit.head in
    let first : front ≡ head_text (head_of rec) = is_front ∙ ap (λ (l : List ℕ). take 88 l) is.spelled ∙ take_at (head_text (head_of rec)) rows 88 wide in
    let second : rest ≡ rows = is_rest ∙ ap (λ (l : List ℕ). drop 88 l) is.spelled ∙ drop_at (head_text (head_of rec)) rows 88 wide in
    let same : head_of rec ≡ head = same_row HeadFits head_text head_fields head_reads_back (head_of rec) head is.fit.head is_head.fit (sym first ∙ is_head.spelled) in
    none rec (record { fits = is.fit; is_head = same; spelled = second })
with_head bytes front rest head (Err OutOfMemory) long is_front is_rest is_head none = tt

-- ---- one spelling

regrouped : (rec : PoolRec) (x : List ℕ) → record_text rec ++ x ≡ head_text (head_of rec) ++ (rows_text dev_text rec.devs ++ (rows_text segment_text rec.segments ++ x))
regrouped rec x =
    append_assoc (head_text (head_of rec)) (rows_text dev_text rec.devs ++ rows_text segment_text rec.segments) x
    ∙ ap (λ (l : List ℕ). head_text (head_of rec) ++ l) (append_assoc (rows_text dev_text rec.devs) (rows_text segment_text rec.segments) x)

pub same_record : (a b : PoolRec) (x y : List ℕ) → RecFits a → RecFits b → record_text a ++ x ≡ record_text b ++ y → (a ≡ b) × (x ≡ y)
same_record a b x y fa fb e =
    let after_a : List ℕ = rows_text segment_text a.segments ++ x in
    let after_b : List ℕ = rows_text segment_text b.segments ++ y in
    let heads = same_front (head_text (head_of a)) (head_text (head_of b)) (rows_text dev_text a.devs ++ after_a) (rows_text dev_text b.devs ++ after_b)
    (head_width (head_of a) fa.head ∙ sym (head_width (head_of b) fb.head)) (sym (regrouped a x) ∙ e ∙ regrouped b y) in
    let head : head_of a ≡ head_of b = same_row HeadFits head_text head_fields head_reads_back (head_of a) (head_of b) fa.head fb.head heads.0 in
    let devs = same_rows DevFits dev_text dev_fields 80 dev_width dev_reads_back a.devs b.devs after_a after_b fa.devs fb.devs (ap (λ (h : PoolHead). h.devs) head) heads.1 in
    let segments = same_rows SegmentFits segment_text segment_fields 12 segment_width segment_reads_back a.segments b.segments x y fa.segments fb.segments (ap (λ (h : PoolHead). h.segments) head) devs.1 in
    ((λ i. record { serial = (head i).serial; gone = (head i).gone; overprovisioning = (head i).overprovisioning; version2 = (head i).version2; fs_limit = (head i).fs_limit; name = (head i).name; devs = devs.0 i; segments = segments.0 i }), segments.1)

-- what was read keeps the conditions, or nothing is spelled so
pub invalid : (bytes : List ℕ) (rec : PoolRec) → Spells RecFits record_text bytes rec → is_record rec ≡ false → (other : PoolRec) → Spells IsPoolRec record_text bytes other → ⊥
invalid bytes rec is untrue other os =
    let same = same_record rec other [] [] is.fit os.fit.fits (ap (λ (l : List ℕ). l ++ []) (sym is.spelled ∙ os.spelled)) in
    true≢false (sym os.fit.valid ∙ ap is_record (sym same.0) ∙ untrue)

-- bytes spell one record, so that reading them gives it
pub read_again : (rec : PoolRec) (bytes : List ℕ) (read : Result PoolRec RecFault) → Spells IsPoolRec record_text bytes rec → Reads (Spells IsPoolRec record_text bytes) read → Gives rec read
read_again rec bytes (Ok found) is given = (same_record found rec [] [] given.fit.fits is.fit.fits (ap (λ (l : List ℕ). l ++ []) (sym given.spelled ∙ is.spelled))).0
read_again rec bytes (Err NotARecord) is none = none rec is
read_again rec bytes (Err OutOfMemory) is given = tt
