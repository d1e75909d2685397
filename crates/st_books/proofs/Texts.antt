-- The spellings of the next commit.
use Rattle.std.proofs.Common.{◌≡◌, ℕ, ◌+◌, ◌*◌, ◌<◌, ◌≤◌, ◌^◌, Bool, true, ◌&&◌, cond, leb, nat_eq, List, [], ◌++◌, length, refl, ◌∙◌, ap, arith}
use Rattle.std.proofs.lemmas.Bool.{and_from, and_parts, leb-true}
use Rattle.std.proofs.lemmas.Bool.Decides.{nat_tests}
use Rattle.std.proofs.lemmas.List.{length-append}
use Rattle.std.proofs.lemmas.Map.Keys.{IsDistinct-from_apart}
use Rattle.st_limits.specs.declared.TheConstants.{MAX_POOL_DEVICES, MAX_FILESYSTEMS}
use Rattle.st_fields.specs.Fields.{number, spelling}
use Rattle.st_fields.proofs.Spellings.{number-spelling}
use Rattle.st_recrows.specs.Rows.{rows_text}
use Rattle.st_recrows.specs.PoolRows.{DevFits, dev_text, SegmentFits, segment_text}
use Rattle.st_recrows.specs.PoolLaws.{dev_width, segment_width}
use Rattle.st_recrows.proofs.RowsLemmas.{length-rows_text}
use Rattle.st_poolrec.specs.declared.record.PoolRec.{PoolRec}
use Rattle.st_poolrec.specs.Conditions.{most_filesystems, rows_fit}
use Rattle.st_poolrec.specs.Head as poolheads
use Rattle.st_poolrec.specs.HeadLaws.{head_width}
use Rattle.st_poolrec.specs.Record as pools
use Rattle.st_flexrec.specs.declared.record.FlexRec.{FlexRec}
use Rattle.st_flexrec.specs.Conditions.{IsFlexRec, KeepsConditions, is_within}
use Rattle.st_flexrec.specs.Record.{record_text}
use Rattle.st_flexlog.specs.declared.state.FlexState.{FlexState}
use Rattle.st_deltalog.specs.Log.{serial_in}
use Rattle.st_books.specs.Spelled.{IsBare, bare_record}

le_true : (n m : ℕ) → n ≤ m → leb n m ≡ true
le_true n m le = grind (arith, nat_tests)

-- a text begins with the serial that it spells first
pub serial_spelled : (n : ℕ) (rest : List ℕ) → n < 2 ^ 64 → serial_in (spelling 8 n ++ rest) ≡ n
unfolding serial_in
serial_spelled n rest fits =
    let size = length-append (spelling 8 n) rest in
    ap (λ (b : Bool). cond b (number 8 (spelling 8 n ++ rest)) 0) (le_true 8 (length (spelling 8 n ++ rest)) (omega (arith, size))) ∙ number-spelling 8 n rest (omega (arith, fits))

pub record_serial : (rec : PoolRec) → pools.IsPoolRec rec → serial_in (pools.record_text rec) ≡ rec.serial
record_serial rec is = serial_spelled rec.serial _ is.fits.head.serial

pub flex_serial : (rec : FlexRec) (g : ℕ) → IsFlexRec g rec → serial_in (record_text rec) ≡ rec.serial
flex_serial rec g is = serial_spelled rec.serial _ is.fits.head.serial

-- how long they are
few_rows : (rec : PoolRec) → pools.is_record rec ≡ true → (length rec.devs ≤ 16) × (length rec.segments ≤ 16)
few_rows rec valid =
    let one = (and_parts (leb rec.fs_limit (most_filesystems rec.version2)) (leb 1 (length rec.devs) && (leb (length rec.devs) MAX_POOL_DEVICES && (leb (length rec.segments) MAX_POOL_DEVICES && rows_fit rec.devs rec.segments))) valid).1 in
    let two = (and_parts (leb 1 (length rec.devs)) (leb (length rec.devs) MAX_POOL_DEVICES && (leb (length rec.segments) MAX_POOL_DEVICES && rows_fit rec.devs rec.segments)) one).1 in
    let three = and_parts (leb (length rec.devs) MAX_POOL_DEVICES) (leb (length rec.segments) MAX_POOL_DEVICES && rows_fit rec.devs rec.segments) two in
    (leb-true _ _ three.0, leb-true _ _ (and_parts (leb (length rec.segments) MAX_POOL_DEVICES) (rows_fit rec.devs rec.segments) three.1).0)

pub record_short : (rec : PoolRec) → pools.IsPoolRec rec → 64 + length (pools.record_text rec) ≤ 32768
record_short rec is =
    let head = head_width (pools.head_of rec) is.fits.head in
    let devs = length-rows_text DevFits dev_text 80 dev_width rec.devs is.fits.devs in
    let segments = length-rows_text SegmentFits segment_text 12 segment_width rec.segments is.fits.segments in
    let all = length-append (poolheads.head_text (pools.head_of rec)) (rows_text dev_text rec.devs ++ rows_text segment_text rec.segments) in
    let rest = length-append (rows_text dev_text rec.devs) (rows_text segment_text rec.segments) in
    let few = few_rows rec is.valid in
    omega (arith, head, devs, segments, all, rest, few.0, few.1)

pub bare_short : (st : FlexState) → 64 + length (record_text (bare_record st)) ≤ 851968
bare_short st = omega arith

-- a pool without filesystems has a record
pub bare_kept : (st : FlexState) → 1 ≤ st.next_fs → 1 ≤ st.next_cell → KeepsConditions (bare_record st)
bare_kept st fs cell = record {
  few_rows = refl;
  from_one = and_from _ _ (le_true 1 st.next_fs fs) (le_true 1 st.next_cell cell);
  filesystems = record { serials_rise = λ i j d lower h. absurd (omega arith); each_fits = refl; origins = λ i d lt. absurd (omega arith); names = refl };
  marks = refl;
  mappings = record { mappings_rise = λ i j d lower h. absurd (omega arith); each_fits = refl };
  cells = record { numbers_rise = λ i j d lower h. absurd (omega arith); each_fits = refl; places = IsDistinct-from_apart nat_eq [] (λ i j d lower h. absurd (omega arith)); named = λ k lt. absurd (omega arith) };
}

pub bare_within : (serial g : ℕ) (st : FlexState) → IsBare serial g st → is_within (g + 1) (bare_record st) ≡ true
bare_within serial g st bare = and_from _ _ (le_true st.next_cell (2 * (g + 1)) (omega (arith, bare.cell_until))) (le_true st.next_fs (MAX_FILESYSTEMS * (g + 1)) (omega (arith, bare.serial_until)))
