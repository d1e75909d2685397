-- Which header a device has while one is written.
use Rattle.std.proofs.Common.{◌≡◌, ◌≢◌, ◌⊎◌, inl, inr, ℕ, ◌+◌, ◌<◌, ◌≤◌, Bool, true, false, cond, nat_eq, nat_lt, List, [], length, take, drop, Option, Some, None, refl, sym, ◌∙◌, ap, subst, arith}
use Rattle.std.proofs.lemmas.List.{take_at, drop_at}
use Rattle.std.proofs.lemmas.Bool.Decides.{nat_tests}
use Rattle.st_fields.specs.Slot.{Found}
use Rattle.st_header.specs.Header.{header_text, header_of, copy_of, first_of, sector_of, IsSerial, IsCopy}
use Rattle.st_header.proofs.Copies.{is_copy, length-header_text}
use Rattle.st_rack.specs.Story.{Content, Fair}
use Rattle.st_rack.specs.Device.{DevState, Leaves, cells, pending}
use Rattle.st_rack.specs.Steps.{Rewriting, Rewritten}
use Rattle.st_rack.specs.Readers.{Local, AllMeant}
use Rattle.st_rack.proofs.Cells.{cells_same, cells-add, length-cells}
use Rattle.st_rack.proofs.Chance.{found_in}
use Rattle.st_rack.proofs.Readers.{meant_here}
use Rattle.st_rack.proofs.Written.{rewritten_sure}
use Rattle.st_slots.specs.Reading.{read_slot, newer}
use Rattle.st_commit.specs.Standing.{keep}
use Rattle.st_commit.proofs.Steps.{local}
use Rattle.st_deltalog.specs.Bearing.{IsSettled}
use Rattle.st_deltalog.proofs.Bearing.{all_held}
use Rattle.st_image.specs.Looks.{pool_area, is_serial, serial_found}
use Rattle.st_image.specs.Bears.{newest_on}
use Rattle.st_image.specs.Kept.{NoneOrGone}
use Rattle.st_image.specs.Committed.{HasOwnHeader}
use Rattle.st_making.specs.Made.{BearsHeader}
use Rattle.st_making.specs.inner.Heading.{Heading, Headed, second_copy, first_copy}

-- bytes in the middle of others
part : (f : Content) (at m k n : ℕ) → take k (drop m (cells f at (m + (k + n)))) ≡ cells f (at + m) k
part f at m k n =
    let one = cells-add f at m (k + n) in
    let two = cells-add f (at + m) k n in
    ap (λ (l : List ℕ). take k (drop m l)) one
    ∙ ap (take k) (drop_at (cells f at m) (cells f (at + m) (k + n)) m (length-cells f at m))
    ∙ ap (take k) two
    ∙ take_at (cells f (at + m) k) (cells f (at + m + k) n) k (length-cells f (at + m) k)

-- the copy that begins at a byte
abbrev pub copy_at : ℕ → ℕ → Content → Option ℕ
copy_at n at f = copy_of n (cells f at 512)

abbrev pub look_at : ℕ → ℕ → Content → Found
look_at n at f = serial_found (copy_at n at f)

local_at : (n at : ℕ) → Local (look_at n at) at 512
local_at n at = record { same = λ f g same. ap (λ (l : List ℕ). serial_found (copy_of n l)) (cells_same f g at 512 same) }

one_serial : (x y : Option ℕ) → serial_found x ≡ serial_found y → x ≡ y
one_serial None None e = refl
one_serial None (Some b) e = absurd (cc)
one_serial (Some a) None e = absurd (cc)
one_serial (Some a) (Some b) e = ap (λ (n : ℕ). Some n) (number (a, []) (b, []) e)
  where
    number : (u v : ℕ × List ℕ) → Some u ≡ Some v → u.0 ≡ v.0
    number u v e = cc

no_serial : (x : Option ℕ) → serial_found x ≡ None → x ≡ None
no_serial None e = refl
no_serial (Some a) e = absurd (cc)

-- nothing, what was there before, or this serial
abbrev Among : ℕ → Found → Found → Type 0
Among p before o = (o ≡ None) ⊎ ((o ≡ before) ⊎ (o ≡ serial_found (Some p)))

first_sector : (f : Content) → sector_of 1 (cells f 0 8192) ≡ cells f 512 512
first_sector f = part f 0 512 512 7168

ninth_sector : (f : Content) → sector_of 9 (cells f 0 8192) ≡ cells f 4608 512
ninth_sector f = part f 0 4608 512 3072

module _ (p n : ℕ) (large : 8192 ≤ n) where
  pub header_in : (f : Content) → header_of n (cells f 0 8192) ≡ first_of (copy_at n 512 f) (copy_at n 4608 f)
  header_in f =
      ap (λ (b : Bool). cond b None (first_of (copy_of n (sector_of 1 (cells f 0 8192))) (copy_of n (sector_of 9 (cells f 0 8192))))) not_small
      ∙ (λ i. first_of (copy_of n (first_sector f i)) (copy_of n (ninth_sector f i)))
    where
      not_small : nat_lt n 8192 ≡ false
      not_small = grind (arith, nat_tests)

  -- no header, the one before, or the new one
  abbrev pub OneOf : Option ℕ → Option ℕ → Type 0
  OneOf before o = (o ≡ None) ⊎ ((o ≡ before) ⊎ (o ≡ Some p))

  module _ (serial : IsSerial p) where
    text_read : copy_of n (header_text p n) ≡ Some p
    text_read = is_copy n p (header_text p n) (record { number = serial; spelled = refl })

    copy_given : (at : ℕ) (f : Content) → cells f at (length (header_text p n)) ≡ header_text p n → copy_at n at f ≡ Some p
    copy_given at f given = ap (copy_of n) (ap (λ (k : ℕ). cells f at k) (sym (length-header_text p n)) ∙ given) ∙ text_read

    -- the copy that is written is none, what it was, or the new one
    torn : (at : ℕ) (a s : DevState) (f : Content) → IsSettled a → Rewriting at (header_text p n) a s → Fair (look_at n at) s.story f → OneOf (copy_at n at a.holds) (copy_at n at f)
    torn at a s f settled step fair = elim one [
      | inl none ↦ inl (no_serial (copy_at n at f) none)
      | inr (inl before) ↦ inr (inl (one_serial (copy_at n at f) (copy_at n at a.holds) before))
      | inr (inr new) ↦ inr (inr (one_serial (copy_at n at f) (Some p) new))
    ]
      where
        before : AllMeant (look_at n at) (Among p (look_at n at a.holds)) a
        before m meant = inr (inl (ap (look_at n at) (settled.meant m meant)))

        all : AllMeant (look_at n at) (Among p (look_at n at a.holds)) s
        all = meant_here (look_at n at) at (header_text p n) (Among p (look_at n at a.holds)) a s (λ g given. inr (inr (ap serial_found (copy_given at g given)))) step before

        one : Among p (look_at n at a.holds) (look_at n at f)
        one = found_in (look_at n at) (Among p (look_at n at a.holds)) s.story f (inl refl) all fair

    -- the copy elsewhere is what it was
    apart : (at other : ℕ) (a s : DevState) (f : Content) → IsSettled a → Rewriting at (header_text p n) a s → (other + 512 ≤ at) ⊎ (at + 512 ≤ other) → Leaves s f → copy_at n other f ≡ copy_at n other a.holds
    apart at other a s f settled step (inl below) left =
        ap (copy_of n) (cells_same f a.holds other 512 (λ i low high. left i (step.changed.sure_below i (omega (arith, high, below)) (settled.sure i)) ∙ step.changed.below i (omega (arith, high, below))))
    apart at other a s f settled step (inr above) left =
        ap (copy_of n) (cells_same f a.holds other 512 (λ i low high.
        (let from : at + length (header_text p n) ≤ i = omega (arith, low, above, length-header_text p n) in
        left i (step.changed.sure_above i from (settled.sure i)) ∙ step.changed.above i from)))

    -- after a write and a sync all is settled
    pub rewritten_settled : (at : ℕ) (a b : DevState) → Rewritten at (header_text p n) a b → IsSettled b
    rewritten_settled at a b step = record { meant = all_held at (header_text p n) a b step; sure = rewritten_sure at (header_text p n) a b step }

    joined : (before front back front_left back_left : Option ℕ) → before ≡ first_of front back → front_left ≡ front → OneOf back back_left → OneOf before (first_of front_left back_left)
    joined before (Some q) back front_left back_left is same each = inr (inl (ap (λ (o : Option ℕ). first_of o back_left) same ∙ sym is))
    joined before None back front_left back_left is same (inl none) = inl (ap (λ (o : Option ℕ). first_of o back_left) same ∙ none)
    joined before None back front_left back_left is same (inr (inl old)) = inr (inl (ap (λ (o : Option ℕ). first_of o back_left) same ∙ old ∙ sym is))
    joined before None back front_left back_left is same (inr (inr new)) = inr (inr (ap (λ (o : Option ℕ). first_of o back_left) same ∙ new))

    second : (before front back front_left back_left : Option ℕ) → before ≡ first_of front back → OneOf front front_left → back_left ≡ Some p → OneOf before (first_of front_left back_left)
    second before front back front_left back_left is (inl none) new = inr (inr (ap (λ (o : Option ℕ). first_of o back_left) none ∙ new))
    second before (Some q) back front_left back_left is (inr (inl old)) new = inr (inl (ap (λ (o : Option ℕ). first_of o back_left) old ∙ sym is))
    second before None back front_left back_left is (inr (inl old)) new = inr (inr (ap (λ (o : Option ℕ). first_of o back_left) old ∙ new))
    second before front back front_left back_left is (inr (inr this)) new = inr (inr (ap (λ (o : Option ℕ). first_of o back_left) this))

    module _ (a s : DevState) (settled : IsSettled a) (heading : Heading (header_text p n) a s) (f : Content) (left : Leaves s f) where
      -- the header that is left
      pub header_left : Fair (look_at n 512) s.story f → Fair (look_at n 4608) s.story f → OneOf (header_of n (cells a.holds 0 8192)) (header_of n (cells f 0 8192))
      header_left fair_one fair_nine = subst (OneOf (header_of n (cells a.holds 0 8192))) (sym (header_in f)) (by heading)
        where
          by : Heading (header_text p n) a s → OneOf (header_of n (cells a.holds 0 8192)) (first_of (copy_at n 512 f) (copy_at n 4608 f))
          by (inl same) = inr (inl (sym (header_in f) ∙ ap (header_of n) (cells_same f a.holds 0 8192 (λ i low high. still i))))
            where
              still : (i : ℕ) → f i ≡ a.holds i
              still i = left i (subst (λ (x : DevState). pending x i ≡ false) (sym same) (settled.sure i)) ∙ ap (λ (x : DevState). x.holds i) same
          by (inr (inl nine)) =
              joined (header_of n (cells a.holds 0 8192)) (copy_at n 512 a.holds) (copy_at n 4608 a.holds) (copy_at n 512 f) (copy_at n 4608 f) (header_in a.holds)
              (apart second_copy 512 a s f settled nine (inl (omega arith)) left) (torn second_copy a s f settled nine fair_nine)
          by (inr (inr both)) =
              let b = both.0 in
              let b_settled = rewritten_settled second_copy a b both.1 in
              let one : copy_at n 512 b.holds ≡ copy_at n 512 a.holds = ap (copy_of n) (cells_same b.holds a.holds 512 512 (λ i low high. both.1.changed.below i (omega (arith, high)))) in
              let nine : copy_at n 4608 f ≡ Some p = apart first_copy 4608 b s f b_settled both.2 (inr (omega arith)) left ∙ copy_given 4608 b.holds both.1.given in
              second (header_of n (cells a.holds 0 8192)) (copy_at n 512 a.holds) (copy_at n 4608 a.holds) (copy_at n 512 f) (copy_at n 4608 f) (header_in a.holds)
              (subst (λ (o : Option ℕ). OneOf o (copy_at n 512 f)) one (torn first_copy b s f b_settled both.2 fair_one)) nine

      -- all behind the header area is what it was
      pub behind : (i : ℕ) → 8192 ≤ i → f i ≡ a.holds i
      behind i from = by heading
        where
          above : (at : ℕ) (x y : DevState) → at + 512 ≤ 8192 → Rewriting at (header_text p n) x y → pending x i ≡ false → (pending y i ≡ false) × (y.holds i ≡ x.holds i)
          above at x y le step sure =
              let high : at + length (header_text p n) ≤ i = omega (arith, le, from, length-header_text p n) in
              (step.changed.sure_above i high sure, step.changed.above i high)

          by : Heading (header_text p n) a s → f i ≡ a.holds i
          by (inl same) = left i (subst (λ (x : DevState). pending x i ≡ false) (sym same) (settled.sure i)) ∙ ap (λ (x : DevState). x.holds i) same
          by (inr (inl nine)) = let step = above second_copy a s (omega arith) nine (settled.sure i) in left i step.0 ∙ step.1
          by (inr (inr both)) =
              let b = both.0 in
              let high : second_copy + length (header_text p n) ≤ i = omega (arith, from, length-header_text p n) in
              let step = above first_copy b s (omega arith) both.2 (rewritten_sure second_copy (header_text p n) a b both.1 i) in
              left i step.0 ∙ step.1 ∙ both.1.changed.above i high

      pub slot_left : (r : ℕ) → r < 2 → read_slot pool_area r f ≡ read_slot pool_area r a.holds
      slot_left r lt = (local pool_area r).same f a.holds (λ i low high. behind i (omega (arith, low)))

      -- another pool stands there no more than before
      pub alone_left : Fair (look_at n 512) s.story f → Fair (look_at n 4608) s.story f → (q : ℕ) → q ≢ p → NoneOrGone (newest_on q n a.holds) → NoneOrGone (newest_on q n f)
      alone_left fair_one fair_nine q ne was = by (header_left fair_one fair_nine)
        where
          slots : (o : Option ℕ) → header_of n (cells f 0 8192) ≡ o
              → newest_on q n f ≡ newer (cond (is_serial q o) (keep q (read_slot pool_area 0 a.holds)) None) (cond (is_serial q o) (keep q (read_slot pool_area 1 a.holds)) None)
          slots o is = λ i. newer (cond (is_serial q (is i)) (keep q (slot_left 0 (omega arith) i)) None) (cond (is_serial q (is i)) (keep q (slot_left 1 (omega arith) i)) None)

          other : is_serial q (Some p) ≡ false
          other = grind (arith, nat_tests)

          by : OneOf (header_of n (cells a.holds 0 8192)) (header_of n (cells f 0 8192)) → NoneOrGone (newest_on q n f)
          by (inl none) = subst NoneOrGone (sym (slots None none)) tt
          by (inr (inl same)) = subst NoneOrGone (sym (slots (header_of n (cells a.holds 0 8192)) same)) was
          by (inr (inr new)) = subst NoneOrGone (sym (slots (Some p) new ∙ (λ i. newer (cond (other i) (keep q (read_slot pool_area 0 a.holds)) None) (cond (other i) (keep q (read_slot pool_area 1 a.holds)) None)))) tt

    -- a device with both copies
    module _ (a s : DevState) (headed : Headed (header_text p n) a s) where
      pub headed_settled : IsSettled s
      headed_settled = rewritten_settled first_copy headed.0 s headed.2

      pub headed_behind : (i : ℕ) → 8192 ≤ i → s.holds i ≡ a.holds i
      headed_behind i from =
          headed.2.changed.above i (omega (arith, from, length-header_text p n)) ∙ headed.1.changed.above i (omega (arith, from, length-header_text p n))

      pub headed_slot : (r : ℕ) → r < 2 → read_slot pool_area r s.holds ≡ read_slot pool_area r a.holds
      headed_slot r lt = (local pool_area r).same s.holds a.holds (λ i low high. headed_behind i (omega (arith, low)))

      text_at : (at : ℕ) (f : Content) → cells f at (length (header_text p n)) ≡ header_text p n → IsCopy n (cells f at 512) p
      text_at at f given = record { number = serial; spelled = ap (λ (k : ℕ). cells f at k) (sym (length-header_text p n)) ∙ given }

      pub bears_header : BearsHeader p n s
      bears_header = record {
        first = text_at 512 s.holds headed.2.given;
        second = subst (λ (l : List ℕ). IsCopy n l p) (sym (cells_same s.holds headed.0.holds 4608 512 (λ i low high. headed.2.changed.above i (omega (arith, low, length-header_text p n))))) (text_at 4608 headed.0.holds headed.1.given);
        sure = λ i low high. headed_settled.sure i;
      }

      pub headed_own : HasOwnHeader p n s
      headed_own = record {
        sure = λ i low high. headed_settled.sure i;
        header = ap (is_serial p) (header_in s.holds ∙ ap (λ (o : Option ℕ). first_of o (copy_at n 4608 s.holds)) (copy_given 512 s.holds headed.2.given)) ∙ same p;
      }
        where
          same : (m : ℕ) → nat_eq m m ≡ true
          same m = grind (arith, nat_tests)
