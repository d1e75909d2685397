-- The history that the devices of a pool tell, with a record for each generation.
use Rattle.std.proofs.Common.{◌≡◌, ℕ, suc, ◌<◌, ◌≤◌, Bool, true, false, cond, nat_eq, List, [], ◌∷◌, map, Some, None, refl, sym, ◌∙◌, ap, arith}
use Rattle.std.specs.List.{slice_get}
use Rattle.std.proofs.lemmas.Bool.Decides.{nat_tests}
use Rattle.st_fields.specs.Slot.{Found}
use Rattle.st_poolrec.specs.declared.record.PoolRec.{PoolRec}
use Rattle.st_poolrec.specs.Record as pools
use Rattle.st_rack.specs.Device.{Path, State, Image, held}
use Rattle.st_rack.specs.Calls.{Devices, Rises}
use Rattle.st_slots.specs.Reading.{read_slot}
use Rattle.st_slots.specs.declared.spot.Area.{Area}
use Rattle.st_deltalog.specs.Log.{serial_in}
use Rattle.st_deltalog.specs.Bearing.{IsSettled}
use Rattle.st_commit.specs.Standing.{keep}
use Rattle.st_commit.specs.Ready.{IsOf, HeldSlots, Ranked}
use Rattle.st_commit.specs.Reading.{pick, history}
use Rattle.st_commit.specs.Repair.{Newest}
use Rattle.st_commit.proofs.Restart.{all_of_held, somewhere}
use Rattle.st_image.specs.Looks.{pool_area, has_header}
use Rattle.st_image.specs.Bears.{Bears, SpellsPool, paths}
use Rattle.st_image.specs.Kept.{as_pair}
use Rattle.st_books.proofs.Texts.{record_serial}
use Rattle.st_starting.proofs.Restrict.{newest_body, newest_slots, ranked, records, slot_of_path}

-- a generation of which nothing is told has this text
abbrev pub filled : List ℕ → List ℕ → List ℕ
filled text [] = text
filled text (x ∷ xs) = x ∷ xs

filled_some : (text l : List ℕ) → (l ≡ [] → ⊥) → filled text l ≡ l
filled_some text [] ne = absurd (ne refl)
filled_some text (x ∷ xs) ne = refl

filled_by : (P : List ℕ → Type 0) (text l : List ℕ) → P text → ((l ≡ [] → ⊥) → P l) → P (filled text l)
filled_by P text [] of_text of = of_text
filled_by P text (x ∷ xs) of_text of = of (λ e. some_byte x xs e)
  where
    some_byte : (x : ℕ) (xs : List ℕ) → x ∷ xs ≡ [] → ⊥
    some_byte x xs e = cc

no_serial : serial_in [] ≡ 0
unfolding serial_in
no_serial = refl

not_nothing : (p : ℕ) (body : List ℕ) → 1 ≤ p → serial_in body ≡ p → body ≡ [] → ⊥
not_nothing p body from own none =
    let zero_is : p ≡ 0 = sym own ∙ ap serial_in none ∙ no_serial in
    absurd (omega (arith, from, zero_is))

picked : (P : List ℕ → Type 0) (n : ℕ) (o : Found) (rest : List ℕ) → ((x : ℕ × List ℕ) → o ≡ Some x → P x.1) → P rest → P (pick n o rest)
picked P n None rest all last = last
picked P n (Some x) rest all last = by (nat_eq x.0 n)
  where
    by : (b : Bool) → P (cond b x.1 rest)
    by true = all x refl
    by false = last

some_same : (a b : ℕ × List ℕ) → Some a ≡ Some b → a ≡ b
some_same a b e = cc

-- what was kept begins with the serial
kept_serial : (p : ℕ) (o : Found) (x : ℕ × List ℕ) → keep p o ≡ Some x → serial_in x.1 ≡ p
kept_serial p None x is = absurd (cc)
kept_serial p (Some y) x is = by (nat_eq (serial_in y.1) p) refl is
  where
    by : (t : Bool) → nat_eq (serial_in y.1) p ≡ t → cond t (Some y) None ≡ Some x → serial_in x.1 ≡ p
    by true e at = let same : serial_in y.1 ≡ p = grind (arith, nat_tests) in ap (λ (z : ℕ × List ℕ). serial_in z.1) (sym (some_same y x at)) ∙ same
    by false e at = absurd (cc)

-- what is told of a generation is nothing, or the body of a slot
told_by : (pool : Area) (p : ℕ) (c : Image) (P : List ℕ → Type 0) (devs : List Path) (n : ℕ) → P [] → ((d : Path) → IsOf devs d → (r : ℕ) → r < 2 → (x : ℕ × List ℕ) → keep p (read_slot pool r (c d)) ≡ Some x → P x.1) → P (history pool p devs c n)
told_by pool p c P [] n nothing each = nothing
told_by pool p c P (d ∷ ds) n nothing each =
    let here : IsOf (d ∷ ds) d = record { index = 0; is = refl } in
    picked P n (keep p (read_slot pool 0 (c d))) (pick n (keep p (read_slot pool 1 (c d))) (history pool p ds c n)) (each d here 0 (omega arith))
    (picked P n (keep p (read_slot pool 1 (c d))) (history pool p ds c n) (each d here 1 (omega arith))
    (told_by pool p c P ds n nothing (λ e of. each e (record { index = suc of.index; is = of.is }))))

module _ (p : ℕ) (s : State) (rack devs : Devices) (rises : Rises rack) (inside : (k : ℕ) (d : Path × ℕ) → slice_get devs k ≡ Some d → (j : ℕ) × (slice_get rack j ≡ Some d))
    (g : ℕ) (rec : PoolRec) (bears : Bears p rack g rec (held s)) (on : map as_pair rec.devs ≡ devs) (headed : (k : ℕ) (d : Path × ℕ) → slice_get devs k ≡ Some d → has_header p d.1 (held s d.0) ≡ true) (from : 1 ≤ p) where
  abbrev text : List ℕ
  text = pools.record_text rec

  abbrev pub told : ℕ → List ℕ
  told n = filled text (history pool_area p (paths devs) (held s) n)

  pub past : (n : ℕ) → (old : PoolRec) × SpellsPool (told n) old
  past n = filled_by (λ l. (old : PoolRec) × SpellsPool l old) text (history pool_area p (paths devs) (held s) n) (rec, record { is = bears.is; spelled = refl })
      (told_by pool_area p (held s) (λ l. (l ≡ [] → ⊥) → (old : PoolRec) × SpellsPool l old) (paths devs) n (λ ne. absurd (ne refl))
      (λ d of r lt x found ne. (records p (held s) rack devs rises inside g rec bears on headed).each x (slot_of_path p (held s) rack devs rises inside g rec bears on headed d of r lt x found)))

  pub top : told g ≡ text
  top = ap (filled text) (newest_body p (held s) rack devs rises inside g rec bears on headed) ∙ filled_some text text (not_nothing p text from (record_serial rec bears.is ∙ bears.serial))

  each_ranked : HeldSlots pool_area (paths devs) (Ranked p told g) s
  each_ranked d of r lt x found =
      let one = ranked p (held s) rack devs rises inside g rec bears on headed d of r lt x found in
      (one.0, ap (filled text) one.1 ∙ filled_some text x.1 (not_nothing p x.1 from (kept_serial p (read_slot pool_area r (s d).holds) x found)))

  -- the newest record stands on a device, and all slots are of the history
  pub newest_of : ((d : Path) → IsOf (paths devs) d → IsSettled (s d)) → (bearer : Path) × Newest pool_area p told (paths devs) bearer g text s
  newest_of settled =
      let there = somewhere pool_area p (held s) (paths devs) (g, text) (newest_slots p (held s) rack devs rises inside g rec bears on headed) in (
        there.device,
        record {
          slots = all_of_held pool_area p (paths devs) s settled (Ranked p told g) each_ranked;
          held = each_ranked;
          is = top;
          serial = record_serial rec bears.is ∙ bears.serial;
          of = there.of;
          bears = record { sure = λ i low high. (settled there.device there.of).sure i; reads = there.reads };
        },
      )
