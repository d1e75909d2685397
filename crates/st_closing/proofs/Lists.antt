-- The racks of all pools, and no two of them have a device.
use Rattle.std.proofs.Common.{◌≡◌, ◌⊎◌, inl, inr, ℕ, Bool, true, false, ◌||◌, cond, not, List, [], ◌∷◌, ◌++◌, map, Option, Some, None, is_some, refl, sym, ◌∙◌, ap, subst}
use Rattle.std.specs.Prelude.{find, option_map, ◌==◌}
use Rattle.std.specs.List.{AllByRecursion, IsDistinct, list_any, slice_get}
use Rattle.std.specs.Str.{bytes_eq}
use Rattle.std.proofs.lemmas.Slice.Eq.{bytes_eq-Decides}
use Rattle.st_units.specs.declared.rows.DevRow.{DevRow}
use Rattle.st_model.specs.declared.state.EngineState.{EngineState}
use Rattle.st_model.specs.declared.state.PoolState.{PoolState}
use Rattle.st_model.specs.Look.{Text, holds, gives_name, flight_of, is_called, is_started, row_of}
use Rattle.st_model.specs.Parts.{own, pool_at, table_of}
use Rattle.st_model.specs.Shown.{halted_pools, started_pools}
use Rattle.st_model.specs.Valid.{Apart, IsValid}
use Rattle.st_model.specs.ValidPool.{EachPair}
use Rattle.st_rack.specs.Device.{Path, State}
use Rattle.st_rack.specs.Calls.{Devices, Has, sectors_of}
use Rattle.st_rack.specs.Parts.{AreApart}
use Rattle.st_pool.specs.Halts.{HaltedView, Halts}
use Rattle.st_pool.specs.View.{IsKeptOn, PoolView}
use Rattle.st_board.specs.Holds.{AreHalted, Fits, HasOthers, halted_at, stopped_at}
use Rattle.st_board.specs.Free.{AreTheFree}
use Rattle.st_board.proofs.Serials.{at, found_halted, only_one, same_number, self_number, stopped_in, unlike}
use Rattle.st_closing.specs.inner.Gathering.{IsWithinRows, PairsApart, rack_in, rack_of}
use Rattle.st_closing.proofs.Pieces.{IsPiece, free_apart, free_within, piece_has, two_apart}

-- ---- lists

pub all_zip : {A : Type 0} (P Q T : A → Type 0) → ((x : A) → P x → Q x → T x) → (xs : List A) → AllByRecursion P xs → AllByRecursion Q xs → AllByRecursion T xs
all_zip P Q T f [] p q = tt
all_zip P Q T f (x ∷ xs) p q = (f x p.0 q.0, all_zip P Q T f xs p.1 q.1)

pub all_as : {A : Type 0} (P Q : A → Type 0) → ((x : A) → P x → Q x) → (xs : List A) → AllByRecursion P xs → AllByRecursion Q xs
all_as P Q f [] p = tt
all_as P Q f (x ∷ xs) p = (f x p.0, all_as P Q f xs p.1)

pub all_map : {A B : Type 0} (f : A → B) (P : B → Type 0) (xs : List A) → AllByRecursion (λ x. P (f x)) xs → AllByRecursion P (map f xs)
all_map f P [] h = tt
all_map f P (x ∷ xs) h = (h.0, all_map f P xs h.1)

pub all_both : {A : Type 0} (P : A → Type 0) (xs ys : List A) → AllByRecursion P xs → AllByRecursion P ys → AllByRecursion P (xs ++ ys)
all_both P [] ys h g = g
all_both P (x ∷ xs) ys h g = (h.0, all_both P xs ys h.1 g)

all_get : {A : Type 0} (P : A → Type 0) (xs : List A) → ((i : ℕ) (x : A) → slice_get xs i ≡ Some x → P x) → AllByRecursion P xs
all_get P [] each = tt
all_get P (x ∷ xs) each = (each 0 x refl, all_get P xs (λ i y e. each (Rattle.std.proofs.Common.suc i) y e))

all_map_names : {A : Type 0} (f : A → ℕ) (P : ℕ → Type 0) (xs : List A) → AllByRecursion P (map f xs) → AllByRecursion (λ x. P (f x)) xs
all_map_names f P [] h = tt
all_map_names f P (x ∷ xs) h = (h.0, all_map_names f P xs h.1)

all_map_texts : {A : Type 0} (f : A → Text) (P : Text → Type 0) (xs : List A) → AllByRecursion P (map f xs) → AllByRecursion (λ x. P (f x)) xs
all_map_texts f P [] h = tt
all_map_texts f P (x ∷ xs) h = (h.0, all_map_texts f P xs h.1)

first_apart : (n : ℕ) (ns : List ℕ) → IsDistinct (λ (a b : ℕ). a == b) (n ∷ ns) → AllByRecursion (λ (m : ℕ). (n == m) ≡ false) ns × IsDistinct (λ (a b : ℕ). a == b) ns
unfolding IsDistinct
first_apart n ns h = h

text_apart : (n : Text) (ns : List Text) → IsDistinct bytes_eq (n ∷ ns) → AllByRecursion (λ (m : Text). bytes_eq n m ≡ false) ns × IsDistinct bytes_eq ns
unfolding IsDistinct
text_apart n ns h = h

-- each is found by its serial
own_found : {D : Type 0} (hs : List (HaltedView D)) → IsDistinct (λ (a b : ℕ). a == b) (map (λ (h : HaltedView D). h.serial) hs) → AllByRecursion (λ (h : HaltedView D). halted_at h.serial hs ≡ Some h) hs
own_found [] h = tt
own_found {D} (x ∷ xs) d =
    let two = first_apart x.serial (map (λ (h : HaltedView D). h.serial) xs) d in (
      ap (λ b. cond b (Some x) (halted_at x.serial xs)) (self_number x.serial),
      all_zip (λ (h : HaltedView D). (x.serial == h.serial) ≡ false) (λ (h : HaltedView D). halted_at h.serial xs ≡ Some h) (λ (h : HaltedView D). halted_at h.serial (x ∷ xs) ≡ Some h)
          (λ h off found. ap (λ b. cond b (Some x) (halted_at h.serial xs)) off ∙ found) xs (all_map_names (λ (h : HaltedView D). h.serial) (λ m. (x.serial == m) ≡ false) xs two.0) (own_found xs two.1),
    )

stopped_is : (o : Option PoolState) (p : PoolState) → stopped_in o ≡ Some p → o ≡ Some p
stopped_is None p e = absurd cc
stopped_is (Some q) p e = by (is_started q.mode) e
  where
    by : (b : Bool) → cond b None (Some q) ≡ Some p → Some q ≡ Some p
    by true k = absurd cc
    by false k = k

started_all : (ps : List PoolState) → AllByRecursion (λ (p : PoolState). is_started p.mode ≡ true) (started_pools ps)
started_all [] = tt
started_all (p ∷ ps) = by (is_started p.mode) refl (started_all ps)
  where
    by : (b : Bool) → is_started p.mode ≡ b → AllByRecursion (λ (q : PoolState). is_started q.mode ≡ true) (started_pools ps) → AllByRecursion (λ (q : PoolState). is_started q.mode ≡ true) (cond b (p ∷ started_pools ps) (started_pools ps))
    by true e rest = (e, rest)
    by false e rest = rest

found_is : (P : PoolState → Type 0) (n : Text) (ps : List PoolState) (p : PoolState) → AllByRecursion P ps → pool_at n ps ≡ Some p → P p
found_is P n [] p h e = absurd cc
found_is P n (x ∷ xs) p h e = by (is_called n x) e (found_is P n xs p h.1)
  where
    by : (b : Bool) → cond b (Some x) (pool_at n xs) ≡ Some p → (pool_at n xs ≡ Some p → P p) → P p
    by true k rest = let same : x ≡ p = cc in subst P same h.0
    by false k rest = rest k

module _ {D : Type 0} (devs : D → Devices) (moment : D → ℕ) (state_at : D → ℕ → State) (s : EngineState) (valid : IsValid s) where
  abbrev Piece : PoolState → D → Type 0
  Piece = IsPiece devs moment state_at s valid

  -- a pool that isn't started, and its rack
  pub record IsIdlePiece (h : HaltedView D) : Type 0 where
    pub pool : PoolState
    pub piece : Piece pool h.rack
    pub serial : h.serial ≡ pool.serial
    pub idle : is_started pool.mode ≡ false

  pub record IsStartedPiece (c : PoolView D) : Type 0 where
    pub piece : Piece c.pool c.rack
    pub up : is_started c.pool.mode ≡ true

  module _ (hs : List (HaltedView D)) (halted : AreHalted devs moment state_at (halted_pools s.pools) hs) (lacking : (q : ℕ) → HasOthers devs s.devices (stopped_at q (halted_pools s.pools)) (halted_at q hs)) where
    of_found : (h : HaltedView D) → halted_at h.serial hs ≡ Some h → IsIdlePiece h
    of_found h found = by (stopped_at h.serial (halted_pools s.pools)) refl
        (subst (λ (o : Option (HaltedView D)). Fits devs moment state_at (stopped_at h.serial (halted_pools s.pools)) o) found (halted.each h.serial))
        (subst (λ (o : Option (HaltedView D)). HasOthers devs s.devices (stopped_at h.serial (halted_pools s.pools)) o) found (lacking h.serial))
      where
        by : (o : Option PoolState) → stopped_at h.serial (halted_pools s.pools) ≡ o → Fits devs moment state_at o (Some h) → HasOthers devs s.devices o (Some h) → IsIdlePiece h
        by None e f g = absurd f
        by (Some p) e f g = record {
          pool = p;
          piece = record {
            here = subst (λ (n : ℕ). at n s.pools ≡ Some p) f.serial (stopped_is (at h.serial s.pools) p (sym (found_halted s.devices h.serial s.pools valid.apart) ∙ e));
            own = f.own;
            kept = f.kept;
            lacking = g;
          };
          serial = f.serial;
          idle = f.idle;
        }

    pub idle_pieces : AllByRecursion IsIdlePiece hs
    idle_pieces = all_as (λ (h : HaltedView D). halted_at h.serial hs ≡ Some h) IsIdlePiece of_found hs (own_found hs halted.once)

  not_lacking : (p : PoolState) → is_started p.mode ≡ true → (missing : Text) → p.mode ≡ Rattle.st_model.specs.declared.state.PoolMode.TheVariants.Incomplete missing → ⊥
  not_lacking p up missing is = let off : is_started p.mode ≡ false = ap is_started is in cc

  pub started_piece : (c : PoolView D) → IsKeptOn devs moment state_at c → own c.pool.name s ≡ Some c.pool → pool_at c.pool.name s.pools ≡ Some c.pool → IsStartedPiece c
  started_piece c kept is_own there =
      let up = found_is (λ (p : PoolState). is_started p.mode ≡ true) c.pool.name (started_pools s.pools) c.pool (started_all s.pools) is_own in
      record {
        piece = record {
          here = (only_one s.devices c.pool.name c.pool s.pools valid.apart there).1;
          own = kept.own;
          kept = kept.kept;
          lacking = λ missing is. absurd (not_lacking c.pool up missing is);
        };
        up = up;
      }

  -- ---- no two have a device

  idle_apart : (h : HaltedView D) (hs : List (HaltedView D)) → IsIdlePiece h → AllByRecursion IsIdlePiece hs → AllByRecursion (λ (x : HaltedView D). (h.serial == x.serial) ≡ false) hs → AllByRecursion (AreApart devs h.rack) (map rack_of hs)
  idle_apart h hs one all off = all_map rack_of (AreApart devs h.rack) hs (all_zip IsIdlePiece (λ (x : HaltedView D). (h.serial == x.serial) ≡ false) (λ (x : HaltedView D). AreApart devs h.rack x.rack)
      (λ x two differ. two_apart devs moment state_at s valid one.pool two.pool h.rack x.rack one.piece two.piece (λ same. unlike h.serial x.serial differ (one.serial ∙ (same ∙ sym two.serial)))) hs all off)

  some_same : (p q : PoolState) → Some p ≡ Some q → p ≡ q
  some_same p q e = cc

  idle_or_up : (p q : PoolState) → at p.serial s.pools ≡ Some p → at q.serial s.pools ≡ Some q → is_started p.mode ≡ false → is_started q.mode ≡ true → p.serial ≡ q.serial → ⊥
  idle_or_up p q hp hq off on same =
      let is : p ≡ q = some_same p q (sym hp ∙ (ap (λ n. at n s.pools) same ∙ hq)) in
      let k : is_started p.mode ≡ true = ap (λ (z : PoolState). is_started z.mode) is ∙ on in
      cc

  across : (h : HaltedView D) (cs : List (PoolView D)) → IsIdlePiece h → AllByRecursion IsStartedPiece cs → AllByRecursion (AreApart devs h.rack) (map rack_in cs)
  across h cs one all = all_map rack_in (AreApart devs h.rack) cs (all_as IsStartedPiece (λ (c : PoolView D). AreApart devs h.rack c.rack)
      (λ c two. two_apart devs moment state_at s valid one.pool c.pool h.rack c.rack one.piece two.piece (idle_or_up one.pool c.pool one.piece.here two.piece.here one.idle two.up)) cs all)

  names_differ : (c d : PoolView D) → IsStartedPiece c → IsStartedPiece d → bytes_eq c.pool.name d.pool.name ≡ false → c.pool.serial ≡ d.pool.serial → ⊥
  names_differ c d one two off same =
      let is : c.pool ≡ d.pool = some_same c.pool d.pool (sym one.piece.here ∙ (ap (λ n. at n s.pools) same ∙ two.piece.here)) in
      let k : bytes_eq c.pool.name d.pool.name ≡ true = (bytes_eq-Decides c.pool.name d.pool.name).1 (ap (λ (z : PoolState). z.name) is) in
      cc

  pub started_apart : (cs : List (PoolView D)) → AllByRecursion IsStartedPiece cs → IsDistinct bytes_eq (map (λ (c : PoolView D). c.pool.name) cs) → PairsApart devs (map rack_in cs)
  started_apart [] all d = tt
  started_apart (c ∷ cs) all d =
      let two = text_apart c.pool.name (map (λ (x : PoolView D). x.pool.name) cs) d in (
        all_map rack_in (AreApart devs c.rack) cs (all_zip IsStartedPiece (λ (x : PoolView D). bytes_eq c.pool.name x.pool.name ≡ false) (λ (x : PoolView D). AreApart devs c.rack x.rack)
            (λ x other differ. two_apart devs moment state_at s valid c.pool x.pool c.rack x.rack all.0.piece other.piece (names_differ c x all.0 other differ)) cs all.1 (all_map_texts (λ (x : PoolView D). x.pool.name) (λ m. bytes_eq c.pool.name m ≡ false) cs two.0)),
        started_apart cs all.1 two.1,
      )

  pub all_apart : (hs : List (HaltedView D)) (cs : List (PoolView D)) → AllByRecursion IsIdlePiece hs → IsDistinct (λ (a b : ℕ). a == b) (map (λ (h : HaltedView D). h.serial) hs) → AllByRecursion IsStartedPiece cs → IsDistinct bytes_eq (map (λ (c : PoolView D). c.pool.name) cs)
      → PairsApart devs (map rack_of hs ++ map rack_in cs)
  all_apart [] cs idle d up e = started_apart cs up e
  all_apart (h ∷ hs) cs idle d up e =
      let two = first_apart h.serial (map (λ (x : HaltedView D). x.serial) hs) d in
      (all_both (AreApart devs h.rack) (map rack_of hs) (map rack_in cs) (idle_apart h hs idle.0 idle.1 (all_map_names (λ (x : HaltedView D). x.serial) (λ m. (h.serial == m) ≡ false) hs two.0)) (across h cs idle.0 up), all_apart hs cs idle.1 two.1 up e)
