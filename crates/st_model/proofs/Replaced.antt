-- validity is kept where a start puts one pool in the place of another, or a pool is known no more
use Rattle.std.proofs.Common.{◌≡◌, ℕ, ◌==◌, inl, inr, List, Bool, true, false, ◌||◌, cond, bytes_eq, refl, sym, subst, arith}
use Rattle.std.specs.List.{AllByRecursion, find}
use Rattle.std.proofs.lemmas.List.{length-map}
use Rattle.st_units.specs.declared.rows.DevRow.{DevRow}
use Rattle.st_model.specs.declared.state.EngineState.{EngineState}
use Rattle.st_model.specs.declared.state.PoolMode.{PoolMode}
use Rattle.st_model.specs.declared.state.PoolMode.TheVariants.{Up}
use Rattle.st_model.specs.declared.state.PoolState.{PoolState}
use Rattle.st_model.specs.Look.{Text, holds, uses, flight_of, gives_name, takes_path, row_of}
use Rattle.st_model.specs.Valid.{Apart, AreThere, IsRow, IsValid}
use Rattle.st_model.specs.Flight.{all_but}
use Rattle.st_model.specs.ValidPool.{IsValidIn, IsWhole, IsHalted}
use Rattle.st_model.proofs.Lists.{All-map, EachPair-map, All-weaker, All-filter, EachPair-filter}
use Rattle.st_model.specs.Checks.{settled, cooled}
use Rattle.st_model.specs.Found.{vanished, started_so}
use Rattle.st_model.specs.steps.StartPool.{with_serial}
use Rattle.st_model.proofs.Among.{IsPlaced, IsBeside, IsOther, All-with, same_number, up}
use Rattle.st_model.proofs.CreateKind.{no_longer}
use Rattle.st_model.proofs.EachKind.{IsGood, valid-good, good-valid}
use Rattle.st_model.proofs.ValidRename.{EachPair-with}
use Rattle.st_model.specs.Merged.{merged}
use Rattle.st_model.proofs.Merging.{merged-whole}
use Rattle.st_model.proofs.Whole.{cooled-halted}

-- what others see of the pool is no more than it was
pub record SharesLess (p q : PoolState) : Type 0 where
  pub serial : q.serial ≡ p.serial
  pub names : (n : Text) → holds n q ≡ true → holds n p ≡ true
  pub devices : (path : Text) → uses path q ≡ true → uses path p ≡ true

pub less_self : (p : PoolState) → SharesLess p p
less_self p = record { serial = refl; names = λ n h. h; devices = λ path h. h }

pub apart_less : (rows : List DevRow) (c : PoolState → PoolState) (p q : PoolState) → SharesLess p (c p) → SharesLess q (c q) → Apart rows p q → Apart rows (c p) (c q)
apart_less rows c p q a b h = record {
  names = λ n x y. h.names n (a.names n x) (b.names n y);
  serials = rw (a.serial, b.serial) h.serials;
  devices = λ path t x y. h.devices path t (a.devices path x) (b.devices path y);
}

abbrev pub one_replaced : ℕ → PoolState → PoolState → PoolState
one_replaced serial q x = cond (x.serial == serial) q x

is_q : (p q x : PoolState) → x ≡ p → one_replaced p.serial q x ≡ q
is_q p q x e = rw (e, same_number p.serial) refl

is_x : (rows : List DevRow) (p q x : PoolState) → IsOther rows p x → one_replaced p.serial q x ≡ x
is_x rows p q x o = rw o.serial refl

one_less : (rows : List DevRow) (p q : PoolState) → SharesLess p q → (x : PoolState) → IsBeside rows p x → SharesLess x (one_replaced p.serial q x)
one_less rows p q less x (inl e) = subst (λ (y : PoolState). SharesLess x y) (sym (is_q p q x e)) (subst (λ (y : PoolState). SharesLess y q) (sym e) less)
one_less rows p q less x (inr o) = subst (λ (y : PoolState). SharesLess x y) (sym (is_x rows p q x o)) (less_self x)

one_good : (next : ℕ) (rows : List DevRow) (p q : PoolState) → IsGood next rows q → (x : PoolState) → IsBeside rows p x → IsGood next rows x → IsGood next rows (one_replaced p.serial q x)
one_good next rows p q good x (inl e) h = subst (λ (y : PoolState). IsGood next rows y) (sym (is_q p q x e)) good
one_good next rows p q good x (inr o) h = subst (λ (y : PoolState). IsGood next rows y) (sym (is_x rows p q x o)) h

pub replaced-valid : (s : EngineState) (p q : PoolState) → IsValid s → IsPlaced s.devices s.pools p → IsGood s.next s.devices q → SharesLess p q → IsValid (with_serial p.serial q s)
replaced-valid s p q v placed good less =
    good-valid (with_serial p.serial q s)
    (record { from_one = v.from_one; bounded = v.bounded; rack = v.rack; count = rw (length-map s.pools (one_replaced p.serial q)) v.count })
    (EachPair-map (Apart s.devices) (one_replaced p.serial q) s.pools (EachPair-with _ _ _ s.pools (apart_less s.devices (one_replaced p.serial q)) (All-weaker _ _ s.pools (one_less s.devices p q less) placed.beside) v.apart))
    (All-map _ (one_replaced p.serial q) s.pools (All-with _ _ _ s.pools (one_good s.next s.devices p q good) placed.beside (valid-good s v)))

pub vanished-valid : (s : EngineState) (p : PoolState) → IsValid s → IsValid (vanished s p).1
vanished-valid s p v =
    let fewer = no_longer p.serial s.pools in
    let count = v.count in
    good-valid (record s { pools = all_but p.serial s.pools })
    (record { from_one = v.from_one; bounded = v.bounded; rack = v.rack; count = omega (arith, fewer, count) })
    (EachPair-filter _ _ s.pools v.apart)
    (All-filter _ _ s.pools (valid-good s v))

-- a pool that is up stays good with a cold cache
pub settled-good : (next : ℕ) (rows : List DevRow) (q : PoolState) → q.mode ≡ Up → IsGood next rows q → IsGood next rows (settled q)
settled-good next rows q up good =
    let whole : IsWhole q = subst (λ (m : PoolMode). IsValidIn q m) up good.valid.state in
    let there : AllByRecursion (IsRow rows) q.devices = subst (λ (m : PoolMode). AreThere rows q m) up good.there in
    record {
      valid = record { serial = good.valid.serial; from_one = good.valid.from_one; devices = good.valid.devices; state = (cooled-halted (merged q) Up (merged-whole q whole)).whole };
      there = there;
      on = tt;
      flight = tt;
    }

-- so it does where it is started as it is
pub cooled-good : (next : ℕ) (rows : List DevRow) (q : PoolState) → q.mode ≡ Up → IsGood next rows q → IsGood next rows (cooled Up q)
cooled-good next rows q up good =
    let whole : IsWhole q = subst (λ (m : PoolMode). IsValidIn q m) up good.valid.state in
    let there : AllByRecursion (IsRow rows) q.devices = subst (λ (m : PoolMode). AreThere rows q m) up good.there in
    record {
      valid = record { serial = good.valid.serial; from_one = good.valid.from_one; devices = good.valid.devices; state = (cooled-halted q Up whole).whole };
      there = there;
      on = tt;
      flight = tt;
    }

less_settled : (p q : PoolState) → q.mode ≡ Up → SharesLess p q → SharesLess p (settled q)
less_settled p q up less = record {
  serial = less.serial;
  names = λ n h. less.names n (subst (λ (m : PoolMode). (bytes_eq q.name n || gives_name n (flight_of m)) ≡ true) (sym up) h);
  devices = λ path h. less.devices path (subst (λ (m : PoolMode). (Rattle.std.specs.Prelude.is_some (row_of path q.devices) || takes_path path (flight_of m)) ≡ true) (sym up) h);
}

-- Whatever a start finds of a pool: it is enough that what was found is good by itself, and takes no more than the pool
-- and its call in flight had. The state before a CreatePool isn't valid where younger pools are known, and needn't be.
pub started_so-valid : (s : EngineState) (p q : PoolState) → IsValid s → IsPlaced s.devices s.pools p → q.mode ≡ Up → IsGood s.next s.devices q → SharesLess p q → IsValid (started_so s p q).1
started_so-valid s p q v placed up good less = replaced-valid s p (settled q) v placed (settled-good s.next s.devices q up good) (less_settled p q up less)

-- the pool started, as it was before the call
pub up-good : (next : ℕ) (rows : List DevRow) (p : PoolState) → IsHalted p → AllByRecursion (IsRow rows) p.devices → IsGood next rows p → IsGood next rows (up p)
up-good next rows p halted there good = record {
  valid = record { serial = good.valid.serial; from_one = good.valid.from_one; devices = good.valid.devices; state = same_whole p halted.whole };
  there = there;
  on = tt;
  flight = tt;
}
  where
    same_whole : (p : PoolState) → IsWhole p → IsWhole (up p)
    same_whole p h = (Rattle.st_model.proofs.Whole.moved-whole p Up h)

left : (b c : Bool) → (b || false) ≡ true → (b || c) ≡ true
left true c h = refl
left false c h = absurd cc

pub up-less : (p : PoolState) → SharesLess p (up p)
up-less p = record { serial = refl; names = λ n h. left (bytes_eq p.name n) _ h; devices = λ path h. left _ _ h }
