-- What is read is spelled so, and what is spelled so is read.
use Rattle.std.proofs.Common.{◌≡◌, ℕ, ◌+◌, ◌*◌, ◌≤◌, List, [], ◌++◌, length, take, drop, Result, Ok, Err, refl, sym, ap, subst, ◌∙◌, append_assoc, arith}
use Rattle.std.proofs.lemmas.List.{take_at, drop_at, take-append-drop, length-append, length-take-le, length-drop}
use Rattle.st_units.specs.declared.rows.FsRow.{FsRow}
use Rattle.st_recrows.specs.declared.fault.RecFault.{RecFault}
use Rattle.st_recrows.specs.declared.fault.RecFault.TheVariants.{NotARecord, OutOfMemory}
use Rattle.st_recrows.specs.Rows.{Reads, Spells, Gives, AllFit, rows_text}
use Rattle.st_recrows.specs.FsRows.{FsFits, fs_text, fs_fields}
use Rattle.st_recrows.specs.FsLaws.{fs_width, fs_reads_back}
use Rattle.st_recrows.proofs.RowsLemmas.{length-rows_text, same_row, same_rows, same_front}
use Rattle.st_flexrec.specs.declared.head.FlexHead.{FlexHead}
use Rattle.st_flexrec.specs.declared.record.FlexRec.{FlexRec}
use Rattle.st_flexrec.specs.declared.rows.MapRow.{MapRow}
use Rattle.st_flexrec.specs.declared.rows.CellRow.{CellRow}
use Rattle.st_flexrec.specs.Head.{HeadFits, head_text, head_fields}
use Rattle.st_flexrec.specs.HeadLaws.{head_width, head_reads_back}
use Rattle.st_flexrec.specs.Rows.{MapFits, map_text, map_fields, CellFits, cell_text, cell_fields}
use Rattle.st_flexrec.specs.Laws.{map_width, map_reads_back, cell_width, cell_reads_back}
use Rattle.st_flexrec.specs.Record.{head_of, record_text, fs_rows_text, map_rows_text, cell_rows_text, RecFits}
use Rattle.st_flexrec.specs.Reading.{Follows}
use Rattle.st_flexrec.specs.Conditions.{IsFlexRec}

-- ---- what follows the head

fs_long : (head : FlexHead) (rest : List ℕ) (rec : FlexRec) → Follows head rest rec → length (fs_rows_text rec) ≡ head.filesystems * 160
fs_long head rest rec is =
    let long : length (fs_rows_text rec) ≡ 160 * length rec.filesystems = length-rows_text FsFits fs_text 160 fs_width rec.filesystems is.fits.filesystems in
    let count : length rec.filesystems ≡ head.filesystems = ap (λ (h : FlexHead). h.filesystems) is.is_head in
    omega (arith, long, count)

map_long : (head : FlexHead) (rest : List ℕ) (rec : FlexRec) → Follows head rest rec → length (map_rows_text rec) ≡ head.mappings * 12
map_long head rest rec is =
    let long : length (map_rows_text rec) ≡ 12 * length rec.mappings = length-rows_text MapFits map_text 12 map_width rec.mappings is.fits.mappings in
    let count : length rec.mappings ≡ head.mappings = ap (λ (h : FlexHead). h.mappings) is.is_head in
    omega (arith, long, count)

cell_long : (head : FlexHead) (rest : List ℕ) (rec : FlexRec) → Follows head rest rec → length (cell_rows_text rec) ≡ head.cells * 12
cell_long head rest rec is =
    let long : length (cell_rows_text rec) ≡ 12 * length rec.cells = length-rows_text CellFits cell_text 12 cell_width rec.cells is.fits.cells in
    let count : length rec.cells ≡ head.cells = ap (λ (h : FlexHead). h.cells) is.is_head in
    omega (arith, long, count)

pub wrong_length : (head : FlexHead) (rest : List ℕ) → (length rest ≡ head.filesystems * 160 + head.mappings * 12 + head.cells * 12 → ⊥) → (rec : FlexRec) → Follows head rest rec → ⊥
wrong_length head rest differ rec is =
    let f = fs_long head rest rec is in
    let m = map_long head rest rec is in
    let c = cell_long head rest rec is in
    let all = ap length is.spelled in
    let first = length-append (fs_rows_text rec) (map_rows_text rec ++ cell_rows_text rec) in
    let second = length-append (map_rows_text rec) (cell_rows_text rec) in
    differ (omega (arith, f, m, c, all, first, second))

-- the three parts of the bytes
record Parts (rest : List ℕ) (n k : ℕ) (rec : FlexRec) : Type 0 where
  first : take n rest ≡ fs_rows_text rec
  second : take k (drop n rest) ≡ map_rows_text rec
  third : drop k (drop n rest) ≡ cell_rows_text rec

parts_of : (head : FlexHead) (rest : List ℕ) (n k : ℕ) (rec : FlexRec) → n ≡ head.filesystems * 160 → k ≡ head.mappings * 12 → Follows head rest rec → Parts rest n k rec
parts_of head rest n k rec is_n is_k is =
    let f : length (fs_rows_text rec) ≡ n = fs_long head rest rec is ∙ sym is_n in
    let m : length (map_rows_text rec) ≡ k = map_long head rest rec is ∙ sym is_k in
    let others : drop n rest ≡ map_rows_text rec ++ cell_rows_text rec = ap (λ (l : List ℕ). drop n l) is.spelled ∙ drop_at (fs_rows_text rec) (map_rows_text rec ++ cell_rows_text rec) n f in
    record {
      first = ap (λ (l : List ℕ). take n l) is.spelled ∙ take_at (fs_rows_text rec) (map_rows_text rec ++ cell_rows_text rec) n f;
      second = ap (λ (l : List ℕ). take k l) others ∙ take_at (map_rows_text rec) (cell_rows_text rec) k m;
      third = ap (λ (l : List ℕ). drop k l) others ∙ drop_at (map_rows_text rec) (cell_rows_text rec) k m;
    }

pub bad_filesystems : (head : FlexHead) (rest part : List ℕ) (n : ℕ) (fault : RecFault) → n ≡ head.filesystems * 160 → part ≡ take n rest
    → Reads (Spells (AllFit FsFits) (rows_text fs_text) part) (Err fault) → Reads (Follows head rest) (Err fault)
bad_filesystems head rest part n NotARecord is_n is_part none = λ rec is.
    none rec.filesystems (record { fit = is.fits.filesystems; spelled = is_part ∙ (parts_of head rest n (head.mappings * 12) rec is_n refl is).first })
bad_filesystems head rest part n OutOfMemory is_n is_part none = tt

pub bad_mappings : (head : FlexHead) (rest others part : List ℕ) (n k : ℕ) (fault : RecFault) → n ≡ head.filesystems * 160 → k ≡ head.mappings * 12 → others ≡ drop n rest → part ≡ take k others
    → Reads (Spells (AllFit MapFits) (rows_text map_text) part) (Err fault) → Reads (Follows head rest) (Err fault)
bad_mappings head rest others part n k NotARecord is_n is_k is_others is_part none = λ rec is.
    none rec.mappings (record { fit = is.fits.mappings; spelled = is_part ∙ ap (λ (l : List ℕ). take k l) is_others ∙ (parts_of head rest n k rec is_n is_k is).second })
bad_mappings head rest others part n k OutOfMemory is_n is_k is_others is_part none = tt

pub bad_cells : (head : FlexHead) (rest others part : List ℕ) (n k : ℕ) (fault : RecFault) → n ≡ head.filesystems * 160 → k ≡ head.mappings * 12 → others ≡ drop n rest → part ≡ drop k others
    → Reads (Spells (AllFit CellFits) (rows_text cell_text) part) (Err fault) → Reads (Follows head rest) (Err fault)
bad_cells head rest others part n k NotARecord is_n is_k is_others is_part none = λ rec is.
    none rec.cells (record { fit = is.fits.cells; spelled = is_part ∙ ap (λ (l : List ℕ). drop k l) is_others ∙ (parts_of head rest n k rec is_n is_k is).third })
bad_cells head rest others part n k OutOfMemory is_n is_k is_others is_part none = tt

pub with_rows : (head : FlexHead) (rest front others middle back : List ℕ) (n k : ℕ) (filesystems : List FsRow) (mappings : List MapRow) (cells : List CellRow) → HeadFits head
    → n ≡ head.filesystems * 160 → k ≡ head.mappings * 12 → length rest ≡ n + k + head.cells * 12 → front ≡ take n rest → others ≡ drop n rest → middle ≡ take k others → back ≡ drop k others
    → Spells (AllFit FsFits) (rows_text fs_text) front filesystems → Spells (AllFit MapFits) (rows_text map_text) middle mappings → Spells (AllFit CellFits) (rows_text cell_text) back cells
    → Follows head rest (record { version2 = head.version2; serial = head.serial; next_fs = head.next_fs; next_cell = head.next_cell; filesystems = filesystems; mappings = mappings; cells = cells })
with_rows head rest front others middle back n k filesystems mappings cells fit is_n is_k size is_front is_others is_middle is_back of_fs of_maps of_cells =
    let front_len : length front ≡ n = ap length is_front ∙ length-take-le n rest (omega arith) in
    let others_len : length others ≡ k + head.cells * 12 = ap length is_others ∙ length-drop n rest ∙ omega arith in
    let middle_len : length middle ≡ k = ap length is_middle ∙ length-take-le k others (omega arith) in
    let back_len : length back ≡ head.cells * 12 = ap length is_back ∙ length-drop k others ∙ omega arith in
    let fs_len : length front ≡ 160 * length filesystems = ap length of_fs.spelled ∙ length-rows_text FsFits fs_text 160 fs_width filesystems of_fs.fit in
    let map_len : length middle ≡ 12 * length mappings = ap length of_maps.spelled ∙ length-rows_text MapFits map_text 12 map_width mappings of_maps.fit in
    let cell_len : length back ≡ 12 * length cells = ap length of_cells.spelled ∙ length-rows_text CellFits cell_text 12 cell_width cells of_cells.fit in
    let fs_count : length filesystems ≡ head.filesystems = omega (arith, front_len, fs_len, is_n) in
    let map_count : length mappings ≡ head.mappings = omega (arith, middle_len, map_len, is_k) in
    let cell_count : length cells ≡ head.cells = omega (arith, back_len, cell_len) in
    let made : FlexRec = record { version2 = head.version2; serial = head.serial; next_fs = head.next_fs; next_cell = head.next_cell; filesystems = filesystems; mappings = mappings; cells = cells } in
    let same : head_of made ≡ head =
    λ i. record { serial = head.serial; next_fs = head.next_fs; next_cell = head.next_cell; version2 = head.version2; filesystems = fs_count i; mappings = map_count i; cells = cell_count i } in
    let first : take n rest ≡ rows_text fs_text filesystems = sym is_front ∙ of_fs.spelled in
    let second : take k others ≡ rows_text map_text mappings = sym is_middle ∙ of_maps.spelled in
    let third : drop k others ≡ rows_text cell_text cells = sym is_back ∙ of_cells.spelled in
    let behind : drop n rest ≡ rows_text map_text mappings ++ rows_text cell_text cells = sym is_others ∙ sym (take-append-drop k others) ∙ (λ i. second i ++ third i) in
    record {
      fits = record { head = subst HeadFits (sym same) fit; filesystems = of_fs.fit; mappings = of_maps.fit; cells = of_cells.fit };
      is_head = same;
      spelled = sym (take-append-drop n rest) ∙ (λ i. first i ++ behind i);
    }

-- ---- the whole

pub bad_head : (bytes front : List ℕ) (fault : RecFault) → front ≡ take 36 bytes → Reads (Spells HeadFits head_text front) (Err fault) → Reads (Spells RecFits record_text bytes) (Err fault)
bad_head bytes front NotARecord is_front none = λ rec is.
    let rows : List ℕ = fs_rows_text rec ++ (map_rows_text rec ++ cell_rows_text rec) in
    none (head_of rec) (record {
      fit = is.fit.head;
      spelled = is_front ∙ ap (λ (l : List ℕ). take 36 l) is.spelled ∙ take_at (head_text (head_of rec)) rows 36 (head_width (head_of rec) is.fit.head);
    })
bad_head bytes front OutOfMemory is_front none = tt

pub with_head : (bytes front rest : List ℕ) (head : FlexHead) (r : Result FlexRec RecFault) → 36 ≤ length bytes → front ≡ take 36 bytes → rest ≡ drop 36 bytes
    → Spells HeadFits head_text front head → Reads (Follows head rest) r → Reads (Spells RecFits record_text bytes) r
with_head bytes front rest head (Ok rec) long is_front is_rest is_head given =
    let first : take 36 bytes ≡ head_text (head_of rec) = sym is_front ∙ is_head.spelled ∙ ap head_text (sym given.is_head) in
    let second : drop 36 bytes ≡ fs_rows_text rec ++ (map_rows_text rec ++ cell_rows_text rec) = sym is_rest ∙ given.spelled in
    record { fit = given.fits; spelled = sym (take-append-drop 36 bytes) ∙ (λ i. first i ++ second i) }
with_head bytes front rest head (Err NotARecord) long is_front is_rest is_head none = λ rec is.
    let rows : List ℕ = fs_rows_text rec ++ (map_rows_text rec ++ cell_rows_text rec) in
    let wide : length (head_text (head_of rec)) ≡ 36 = head_width (head_of rec) is.fit.head in
    let first : front ≡ head_text (head_of rec) = is_front ∙ ap (λ (l : List ℕ). take 36 l) is.spelled ∙ take_at (head_text (head_of rec)) rows 36 wide in
    let second : rest ≡ rows = is_rest ∙ ap (λ (l : List ℕ). drop 36 l) is.spelled ∙ drop_at (head_text (head_of rec)) rows 36 wide in
    let same : head_of rec ≡ head = same_row HeadFits head_text head_fields head_reads_back (head_of rec) head is.fit.head is_head.fit (sym first ∙ is_head.spelled) in
    none rec (record { fits = is.fit; is_head = same; spelled = second })
with_head bytes front rest head (Err OutOfMemory) long is_front is_rest is_head none = tt

-- ---- one spelling

regrouped : (rec : FlexRec) (x : List ℕ) → record_text rec ++ x ≡ head_text (head_of rec) ++ (fs_rows_text rec ++ (map_rows_text rec ++ (cell_rows_text rec ++ x)))
regrouped rec x =
    append_assoc (head_text (head_of rec)) (fs_rows_text rec ++ (map_rows_text rec ++ cell_rows_text rec)) x
    ∙ ap (λ (l : List ℕ). head_text (head_of rec) ++ l) (append_assoc (fs_rows_text rec) (map_rows_text rec ++ cell_rows_text rec) x
    ∙ ap (λ (l : List ℕ). fs_rows_text rec ++ l) (append_assoc (map_rows_text rec) (cell_rows_text rec) x))

pub same_record : (a b : FlexRec) (x y : List ℕ) → RecFits a → RecFits b → record_text a ++ x ≡ record_text b ++ y → (a ≡ b) × (x ≡ y)
same_record a b x y fa fb e =
    let cells_a : List ℕ = cell_rows_text a ++ x in
    let cells_b : List ℕ = cell_rows_text b ++ y in
    let maps_a : List ℕ = map_rows_text a ++ cells_a in
    let maps_b : List ℕ = map_rows_text b ++ cells_b in
    let heads = same_front (head_text (head_of a)) (head_text (head_of b)) (fs_rows_text a ++ maps_a) (fs_rows_text b ++ maps_b)
    (head_width (head_of a) fa.head ∙ sym (head_width (head_of b) fb.head)) (sym (regrouped a x) ∙ e ∙ regrouped b y) in
    let head : head_of a ≡ head_of b = same_row HeadFits head_text head_fields head_reads_back (head_of a) (head_of b) fa.head fb.head heads.0 in
    let filesystems = same_rows FsFits fs_text fs_fields 160 fs_width fs_reads_back a.filesystems b.filesystems maps_a maps_b fa.filesystems fb.filesystems (ap (λ (h : FlexHead). h.filesystems) head) heads.1 in
    let mappings = same_rows MapFits map_text map_fields 12 map_width map_reads_back a.mappings b.mappings cells_a cells_b fa.mappings fb.mappings (ap (λ (h : FlexHead). h.mappings) head) filesystems.1 in
    let cells = same_rows CellFits cell_text cell_fields 12 cell_width cell_reads_back a.cells b.cells x y fa.cells fb.cells (ap (λ (h : FlexHead). h.cells) head) mappings.1 in
    ((λ i. record { version2 = (head i).version2; serial = (head i).serial; next_fs = (head i).next_fs; next_cell = (head i).next_cell; filesystems = filesystems.0 i; mappings = mappings.0 i; cells = cells.0 i }), cells.1)

-- what was read is of the generation, or nothing is spelled so
pub invalid : (bytes : List ℕ) (generation : ℕ) (rec : FlexRec) → Spells RecFits record_text bytes rec → (IsFlexRec generation rec → ⊥) → (other : FlexRec) → Spells (IsFlexRec generation) record_text bytes other → ⊥
invalid bytes generation rec is none other os =
    let same = same_record rec other [] [] is.fit os.fit.fits (ap (λ (l : List ℕ). l ++ []) (sym is.spelled ∙ os.spelled)) in
    none (subst (IsFlexRec generation) (sym same.0) os.fit)

-- bytes spell one record, so that reading them gives it
pub read_again : (g : ℕ) (rec : FlexRec) (bytes : List ℕ) (read : Result FlexRec RecFault) → Spells (IsFlexRec g) record_text bytes rec → Reads (Spells (IsFlexRec g) record_text bytes) read → Gives rec read
read_again g rec bytes (Ok found) is given = (same_record found rec [] [] given.fit.fits is.fit.fits (ap (λ (l : List ℕ). l ++ []) (sym given.spelled ∙ is.spelled))).0
read_again g rec bytes (Err NotARecord) is none = none rec is
read_again g rec bytes (Err OutOfMemory) is given = tt
