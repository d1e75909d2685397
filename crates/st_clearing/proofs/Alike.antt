-- What devices stand for while they are cleared.
use Rattle.std.proofs.Common.{◌≡◌, ◌⊎◌, inl, inr, ℕ, zero, suc, ◌+◌, ◌<◌, ◌≤◌, Bool, true, false, cond, nat_lt, List, [], ◌∷◌, length, Option, Some, None, refl, sym, ◌∙◌, ap, subst, arith}
use Rattle.std.specs.List.{AllByRecursion, slice_get}
use Rattle.st_fields.specs.Slot.{Found}
use Rattle.st_header.specs.Header.{header_of, copy_of}
use Rattle.st_model.specs.declared.state.PoolState.{PoolState}
use Rattle.st_rack.specs.Story.{Content, Fair, Grows, latest}
use Rattle.st_rack.specs.Device.{Path, DevState, Image, Leaves, cells, held, pending}
use Rattle.st_rack.specs.Calls.{Devices}
use Rattle.st_rack.specs.Steps.{Rewriting, Rewritten}
use Rattle.st_rack.proofs.Cells.{cells_same}
use Rattle.st_rack.proofs.Chance.{fair_latest, found_in, latest_meant}
use Rattle.st_rack.proofs.Growth.{fair_before, grows_on, grows_self}
use Rattle.st_rack.proofs.Readers.{meant_here}
use Rattle.st_rack.proofs.Written.{rewriting, rewritten_sure}
use Rattle.st_slots.specs.Reading.{newer, read_slot}
use Rattle.st_slots.proofs.Running.{rewriting_grows}
use Rattle.st_commit.specs.Standing.{keep}
use Rattle.st_commit.proofs.Steps.{local}
use Rattle.st_deltalog.specs.Bearing.{IsSettled}
use Rattle.st_deltalog.proofs.Bearing.{all_held}
use Rattle.st_image.specs.Looks.{Copy, is_serial, look_of, pool_area, serial_found}
use Rattle.st_image.specs.Bears.{newest_on, newest_over}
use Rattle.st_image.specs.Kept.{NoneOrGone}
use Rattle.st_image.specs.Left.{first_sectors}
use Rattle.st_image.specs.Stands.{StandsFor, Nothing}
use Rattle.st_image.proofs.Committing.{path_at}
use Rattle.st_clearing.specs.Clearing.{Clearing, places, zeros}
use Rattle.st_clearing.specs.Laws.{ClearingStandsAlike}
use Rattle.st_clearing.proofs.Emptied.{copy_at, copy_given, header_in, header_with, long, no_header, none_newest}

abbrev look_at : ℕ → ℕ → Content → Found
look_at n at f = serial_found (copy_at n at f)

one_serial : (x y : Option ℕ) → serial_found x ≡ serial_found y → x ≡ y
one_serial None None e = refl
one_serial None (Some b) e = absurd (cc)
one_serial (Some a) None e = absurd (cc)
one_serial (Some a) (Some b) e = ap (λ (n : ℕ). Some n) (number (a, []) (b, []) e)
  where
    number : (u v : ℕ × List ℕ) → Some u ≡ Some v → u.0 ≡ v.0
    number u v e = cc

no_serial : (x : Option ℕ) → serial_found x ≡ None → x ≡ None
no_serial None e = refl
no_serial (Some a) e = absurd (cc)

settled_after : (at : ℕ) (a b : DevState) → Rewritten at zeros a b → IsSettled b
settled_after at a b step = record { meant = all_held at zeros a b step; sure = rewritten_sure at zeros a b step }

-- the copy that is written over is none, or what it was
torn : (n at : ℕ) (a s : DevState) (f : Content) → IsSettled a → Rewriting at zeros a s → Fair (look_at n at) s.story f → (copy_at n at f ≡ None) ⊎ (copy_at n at f ≡ copy_at n at a.holds)
torn n at a s f settled step fair = elim one [
  | inl none ↦ inl (no_serial (copy_at n at f) none)
  | inr was ↦ inr (one_serial (copy_at n at f) (copy_at n at a.holds) was)
]
  where
    one : (look_at n at f ≡ None) ⊎ (look_at n at f ≡ look_at n at a.holds)
    one =
        found_in (look_at n at) (λ o. (o ≡ None) ⊎ (o ≡ look_at n at a.holds)) s.story f (inl refl)
        (meant_here (look_at n at) at zeros (λ o. (o ≡ None) ⊎ (o ≡ look_at n at a.holds)) a s (λ g given. inl (ap serial_found (copy_given n at g given))) step
        (λ m meant. inr (ap (look_at n at) (settled.meant m meant)))) fair

-- a byte outside is left as it was
outside : (at i : ℕ) (a s : DevState) (f : Content) → (i < at) ⊎ (at + 512 ≤ i) → pending a i ≡ false → Rewriting at zeros a s → Leaves s f → f i ≡ a.holds i
outside at i a s f (inl below) sure step left = left i (step.changed.sure_below i below sure) ∙ step.changed.below i below
outside at i a s f (inr above) sure step left =
    let high : at + length zeros ≤ i = omega (arith, above, long) in
    left i (step.changed.sure_above i high sure) ∙ step.changed.above i high

still : (a s : DevState) (f : Content) → IsSettled a → s ≡ a → Leaves s f → (i : ℕ) → f i ≡ a.holds i
still a s f settled same left i = left i (subst (λ (x : DevState). pending x i ≡ false) (sym same) (settled.sure i)) ∙ ap (λ (x : DevState). x.holds i) same

-- below the slots nothing more is written
header_stays : (xs : List ℕ) (a s : DevState) (f : Content) → AllByRecursion (λ x. 8192 ≤ x) xs → IsSettled a → Clearing xs a s → Leaves s f → (i : ℕ) → i < 8192 → f i ≡ a.holds i
header_stays [] a s f far settled h left i low = still a s f settled h left i
header_stays (x ∷ xs) a s f far settled (inl h) left i low = still a s f settled h left i
header_stays (x ∷ xs) a s f far settled (inr (inl w)) left i low = (let from = far.0 in outside x i a s f (inl (omega (arith, low, from))) (settled.sure i) w left)
header_stays (x ∷ xs) a s f far settled (inr (inr t)) left i low =
    (let from = far.0 in header_stays xs t.0 s f far.1 (settled_after x a t.0 t.1) t.2 left i low ∙ t.1.changed.below i (omega (arith, low, from)))

module _ (q n : ℕ) (a : DevState) (f : Content) where
  abbrev Less : Type 0
  Less = (newest_on q n f ≡ None) ⊎ (newest_on q n f ≡ newest_on q n a.holds)

  same_slots : ((i : ℕ) → 8192 ≤ i → f i ≡ a.holds i) → header_of n (cells f 0 8192) ≡ header_of n (cells a.holds 0 8192) → newest_on q n f ≡ newest_on q n a.holds
  same_slots behind same = λ i. newer
      (cond (is_serial q (same i)) (keep q (slot 0 i)) None)
      (cond (is_serial q (same i)) (keep q (slot 1 i)) None)
    where
      slot : (r : ℕ) → read_slot pool_area r f ≡ read_slot pool_area r a.holds
      slot r = (local pool_area r).same f a.holds (λ i low high. behind i (omega (arith, low)))

  -- the first copy is there, and the second one or none; or neither is
  by_copies : ((i : ℕ) → 8192 ≤ i → f i ≡ a.holds i) → copy_at n 512 f ≡ copy_at n 512 a.holds → (copy_at n 4608 f ≡ None) ⊎ (copy_at n 4608 f ≡ copy_at n 4608 a.holds) → Less
  by_copies behind one (inr nine) = inr (same_slots behind (header_in n f ∙ ap (λ (o : Option ℕ). header_with n o (copy_at n 4608 f)) one ∙ ap (header_with n (copy_at n 512 a.holds)) nine ∙ sym (header_in n a.holds)))
  by_copies behind one (inl nine) = here (copy_at n 512 a.holds) refl
    where
      here : (o : Option ℕ) → copy_at n 512 a.holds ≡ o → Less
      here None is = inl (none_newest q n f (no_header n f (one ∙ is) nine))
      here (Some m) is = inr (same_slots behind (
          header_in n f ∙ ap (λ (o : Option ℕ). header_with n o (copy_at n 4608 f)) (one ∙ is)
          ∙ sym (ap (λ (o : Option ℕ). header_with n o (copy_at n 4608 a.holds)) is) ∙ sym (header_in n a.holds)))

  by_first : ((i : ℕ) → 8192 ≤ i → f i ≡ a.holds i) → (copy_at n 512 f ≡ None) ⊎ (copy_at n 512 f ≡ copy_at n 512 a.holds) → copy_at n 4608 f ≡ None → Less
  by_first behind (inl one) nine = inl (none_newest q n f (no_header n f one nine))
  by_first behind (inr one) nine = by_copies behind one (inl nine)

-- of each pool a device reads what it did, or nothing
less : (q n : ℕ) (a s : DevState) (f : Content) → IsSettled a → Clearing places a s → Leaves s f → Fair (look_at n 512) s.story f → Fair (look_at n 4608) s.story f → Less q n a f
less q n a s f settled (inl same) left one nine =
    by_copies q n a f (λ i from. still a s f settled same left i) (ap (copy_of n) (cells_same f a.holds 512 512 (λ i low high. still a s f settled same left i)))
    (inr (ap (copy_of n) (cells_same f a.holds 4608 512 (λ i low high. still a s f settled same left i))))
less q n a s f settled (inr (inl w)) left one nine =
    by_copies q n a f (λ i from. outside 4608 i a s f (inr (omega (arith, from))) (settled.sure i) w left)
    (ap (copy_of n) (cells_same f a.holds 512 512 (λ i low high. outside 4608 i a s f (inl (omega (arith, high))) (settled.sure i) w left)))
    (torn n 4608 a s f settled w nine)
less q n a s f settled (inr (inr t)) left one nine = second t.2
  where
    after : IsSettled t.0
    after = settled_after 4608 a t.0 t.1

    was : (i : ℕ) → (i < 4608) ⊎ (4608 + 512 ≤ i) → t.0.holds i ≡ a.holds i
    was i (inl below) = t.1.changed.below i below
    was i (inr above) = t.1.changed.above i (omega (arith, above, long))

    ninth : copy_at n 4608 t.0.holds ≡ None
    ninth = copy_given n 4608 t.0.holds t.1.given

    second : Clearing (512 ∷ 8192 ∷ 40960 ∷ []) t.0 s → Less q n a f
    second (inl same) =
        by_copies q n a f (λ i from. still t.0 s f after same left i ∙ was i (inr (omega (arith, from))))
        (ap (copy_of n) (cells_same f a.holds 512 512 (λ i low high. still t.0 s f after same left i ∙ was i (inl (omega (arith, high))))))
        (inl (ap (copy_of n) (cells_same f t.0.holds 4608 512 (λ i low high. still t.0 s f after same left i)) ∙ ninth))
    second (inr (inl w)) =
        by_first q n a f (λ i from. outside 512 i t.0 s f (inr (omega (arith, from))) (after.sure i) w left ∙ was i (inr (omega (arith, from))))
        (subst (λ (o : Option ℕ). (copy_at n 512 f ≡ None) ⊎ (copy_at n 512 f ≡ o)) (ap (copy_of n) (cells_same t.0.holds a.holds 512 512 (λ i low high. was i (inl (omega (arith, high)))))) (torn n 512 t.0 s f after w one))
        (ap (copy_of n) (cells_same f t.0.holds 4608 512 (λ i low high. outside 512 i t.0 s f (inr (omega (arith, low))) (after.sure i) w left)) ∙ ninth)
    second (inr (inr u)) =
        let behind = header_stays (8192 ∷ 40960 ∷ []) u.0 s f (omega arith, (omega arith, tt)) (settled_after 512 t.0 u.0 u.1) u.2 left in
        inl (none_newest q n f (no_header n f
        (ap (copy_of n) (cells_same f u.0.holds 512 512 (λ i low high. behind i (omega (arith, high)))) ∙ copy_given n 512 u.0.holds u.1.given)
        (ap (copy_of n) (cells_same f u.0.holds 4608 512 (λ i low high. behind i (omega (arith, high))) ∙ cells_same u.0.holds t.0.holds 4608 512 (λ i low high. u.1.changed.above i (omega (arith, low, long)))) ∙ ninth)))

clearing_grows : (xs : List ℕ) (a s : DevState) → Clearing xs a s → Grows a.story s.story
clearing_grows [] a s e = subst (λ (x : DevState). Grows a.story x.story) (sym e) (grows_self a.story)
clearing_grows (x ∷ xs) a s (inl e) = subst (λ (y : DevState). Grows a.story y.story) (sym e) (grows_self a.story)
clearing_grows (x ∷ xs) a s (inr (inl w)) = rewriting_grows x zeros a s w
clearing_grows (x ∷ xs) a s (inr (inr t)) = grows_on a.story t.0.story s.story (rewriting_grows x zeros a t.0 (rewriting x zeros a t.0 t.1)) (clearing_grows xs t.0 s t.2)

none_both : (x y : Found) → newer x y ≡ None → (x ≡ None) × (y ≡ None)
none_both None y h = (refl, h)
none_both (Some a) None h = absurd cc
none_both (Some a) (Some b) h = absurd (here (nat_lt a.0 b.0) h)
  where
    here : (c : Bool) → cond c (Some b) (Some a) ≡ None → ⊥
    here true h = absurd cc
    here false h = absurd cc

each : {X : Type 0} (P : X → Type 0) (xs : List X) → ((k : ℕ) (x : X) → slice_get xs k ≡ Some x → P x) → AllByRecursion P xs
each P [] h = tt
each P (x ∷ xs) h = (h zero x refl, each P xs (λ k y at. h (suc k) y at))

none_over : (p : ℕ) (devs : Devices) (a c : Image) → AllByRecursion (λ (d : Path × ℕ). (newest_on p d.1 (c d.0) ≡ None) ⊎ (newest_on p d.1 (c d.0) ≡ newest_on p d.1 (a d.0))) devs
    → newest_over p devs a ≡ None → newest_over p devs c ≡ None
none_over p [] a c h none = refl
none_over p (d ∷ ds) a c h none =
    let both = none_both (newest_on p d.1 (a d.0)) (newest_over p ds a) none in
    ap (λ (o : Found). newer o (newest_over p ds c)) (here h.0 both.0) ∙ none_over p ds a c h.1 both.1
  where
    here : (newest_on p d.1 (c d.0) ≡ None) ⊎ (newest_on p d.1 (c d.0) ≡ newest_on p d.1 (a d.0)) → newest_on p d.1 (a d.0) ≡ None → newest_on p d.1 (c d.0) ≡ None
    here (inl gone) was = gone
    here (inr same) was = same ∙ was

no_found : (p : ℕ) (devs : Devices) (a c : Image) → newest_over p devs a ≡ None → newest_over p devs c ≡ None → (found : Option PoolState) → StandsFor p devs a found → StandsFor p devs c found
no_found p devs a c was none None h = Nothing none
no_found p devs a c was none (Some pool) (inl h) = absurd (let newest = h.3.bears.record_of.newest in cc)
no_found p devs a c was none (Some pool) (inr h) = absurd (let newest = h.3.bears.newest in cc)

pub stands-alike : ClearingStandsAlike
stands-alike p devs start s settled none clearing c left = record {
  left = λ k d at. record {
    left = λ i sure. refl;
    fair = λ r. record {
      now = fair_latest (look_of p (first_sectors devs) k r) (start d).story (start d).holds (ap (look_of p (first_sectors devs) k r) (sym ((settled k d at).meant (latest (start d).story) (latest_meant (start d).story))));
      past = fair_before (look_of p (first_sectors devs) k r) (start d).story (s d).story (clearing_grows places (start d) (s d) (clearing.here k d at)) ((left k d at).fair r).past;
    };
  };
  same = no_found p devs (held start) c none (none_over p devs (held start) c (each _ devs (λ k d at. one p k d at)) none);
  others = λ calm q k d ne at. here q d (one q k d at) (calm q k d ne at);
}
  where
    one : (q k : ℕ) (d : Path × ℕ) → slice_get devs k ≡ Some d → (newest_on q d.1 (c d.0) ≡ None) ⊎ (newest_on q d.1 (c d.0) ≡ newest_on q d.1 (start d.0).holds)
    one q k d at =
        let on = path_at devs k d at in
        let leaves = left k d.0 on in
        less q d.1 (start d.0) (s d.0) (c d.0) (settled k d.0 on) (clearing.here k d.0 on) leaves.left (leaves.fair (Copy d.1 1)).now (leaves.fair (Copy d.1 9)).now

    here : (q : ℕ) (d : Path × ℕ) → (newest_on q d.1 (c d.0) ≡ None) ⊎ (newest_on q d.1 (c d.0) ≡ newest_on q d.1 (start d.0).holds) → NoneOrGone (newest_on q d.1 (start d.0).holds) → NoneOrGone (newest_on q d.1 (c d.0))
    here q d (inl gone) was = subst NoneOrGone (sym gone) tt
    here q d (inr same) was = subst NoneOrGone (sym same) was
