-- a pool among pools that are apart
use Rattle.std.proofs.Common.{◌≡◌, ℕ, ◌<◌, ◌==◌, ◌⊎◌, inl, inr, List, [], ◌∷◌, Bool, true, false, ◌||◌, cond, filter, map, Some, None, bytes_eq, refl, sym, ◌∙◌, subst, arith}
use Rattle.std.specs.List.{AllByRecursion, find}
use Rattle.std.proofs.lemmas.Grind.{common_steps}
use Rattle.std.proofs.lemmas.Slice.Eq.{bytes_eq-Decides}
use Rattle.st_units.specs.declared.rows.DevRow.{DevRow}
use Rattle.st_model.specs.declared.state.PoolMode.TheVariants.{Up}
use Rattle.st_model.specs.declared.state.PoolState.{PoolState}
use Rattle.st_model.specs.Look.{Text, holds, uses, is_called, is_started}
use Rattle.st_model.specs.Valid.{Apart, is_there}
use Rattle.st_model.specs.Flight.{started_as}
use Rattle.st_model.specs.ValidPool.{EachPair}
use Rattle.st_model.proofs.Lists.{All-weaker}

module _ {X : Type 0} where
  -- the list has the item
  abbrev pub IsIn : X → List X → Type 0
  IsIn x [] = ⊥
  IsIn x (y ∷ ys) = (y ≡ x) ⊎ IsIn x ys

  pub All-in : (xs : List X) → AllByRecursion (λ x. IsIn x xs) xs
  All-in [] = tt
  All-in (x ∷ xs) = (inl refl, All-weaker _ _ xs (λ y h. inr h) (All-in xs))

  pub All-with : (P Q R : X → Type 0) (xs : List X) → ((x : X) → P x → Q x → R x) → AllByRecursion P xs → AllByRecursion Q xs → AllByRecursion R xs
  All-with P Q R [] f h g = tt
  All-with P Q R (x ∷ xs) f h g = (f x h.0 g.0, All-with P Q R xs f h.1 g.1)

  -- each two items are one, or stand in the relation one way or the other
  pub all_beside : (R : X → X → Type 0) (xs : List X) → EachPair R xs → AllByRecursion (λ x. AllByRecursion (λ y. (y ≡ x) ⊎ (R x y ⊎ R y x)) xs) xs
  all_beside R [] h = tt
  all_beside R (x ∷ xs) h = (
    (inl refl, All-weaker _ _ xs (λ y r. inr (inl r)) h.0),
    All-with _ _ _ xs (λ y r rest. (inr (inr r), rest)) h.0 (all_beside R xs h.1),
  )

  skip : (q : X → Bool) (b : Bool) (x : X) (t : List X) → q x ≡ false → find q (cond b (x ∷ t) t) ≡ find q t
  skip q true x t h = rw h refl
  skip q false x t h = refl

not_true : (b : Bool) → (b ≡ true → ⊥) → b ≡ false
not_true true h = absurd (h refl)
not_true false h = refl

or_left : (a b : Bool) → a ≡ true → (a || b) ≡ true
or_left true b h = refl
or_left false b h = absurd cc

none_left : (a b : Bool) → (a || b) ≡ false → a ≡ false
none_left true b h = absurd cc
none_left false b h = refl

pub same_number : (n : ℕ) → (n == n) ≡ true
same_number n = grind (arith, common_steps)

lower : (a b : ℕ) → a < b → (a == b) ≡ false
lower a b h = grind (arith, common_steps)

higher : (a b : ℕ) → a < b → (b == a) ≡ false
higher a b h = grind (arith, common_steps)

pub self : (name : Text) → bytes_eq name name ≡ true
self name = (bytes_eq-Decides name name).1 refl

pub holds_own : (p : PoolState) → holds p.name p ≡ true
holds_own p = or_left (bytes_eq p.name p.name) _ (self p.name)

-- another pool than p, which shares nothing with it
pub record IsOther (rows : List DevRow) (p q : PoolState) : Type 0 where
  pub serial : (q.serial == p.serial) ≡ false
  pub names : (n : Text) → holds n p ≡ true → holds n q ≡ false
  pub devices : (path : Text) → is_there rows path ≡ true → uses path p ≡ true → uses path q ≡ false

abbrev pub IsBeside : List DevRow → PoolState → PoolState → Type 0
IsBeside rows p q = (q ≡ p) ⊎ IsOther rows p q

other_of : (rows : List DevRow) (p q : PoolState) → Apart rows p q ⊎ Apart rows q p → IsOther rows p q
other_of rows p q (inl a) = record {
  serial = higher p.serial q.serial a.serials;
  names = λ n h. not_true (holds n q) (λ g. a.names n h g);
  devices = λ path t h. not_true (uses path q) (λ g. a.devices path t h g);
}
other_of rows p q (inr a) = record {
  serial = lower q.serial p.serial a.serials;
  names = λ n h. not_true (holds n q) (λ g. a.names n g h);
  devices = λ path t h. not_true (uses path q) (λ g. a.devices path t g h);
}

beside_of : (rows : List DevRow) (p q : PoolState) → (q ≡ p) ⊎ (Apart rows p q ⊎ Apart rows q p) → IsBeside rows p q
beside_of rows p q (inl e) = inl e
beside_of rows p q (inr a) = inr (other_of rows p q a)

-- the pool is one of the pools, and apart from all others
pub record IsPlaced (rows : List DevRow) (pools : List PoolState) (p : PoolState) : Type 0 where
  pub among : IsIn p pools
  pub beside : AllByRecursion (IsBeside rows p) pools

pub all_placed : (rows : List DevRow) (pools : List PoolState) → EachPair (Apart rows) pools → AllByRecursion (IsPlaced rows pools) pools
all_placed rows pools h =
    All-with _ _ _ pools (λ p i b. record { among = i; beside = All-weaker _ _ pools (λ q. beside_of rows p q) b }) (All-in pools) (all_beside (Apart rows) pools h)

abbrev pub up : PoolState → PoolState
up p = record p { mode = Up }

pub own_started : (p q : PoolState) → q ≡ p → started_as p.serial q ≡ up p
own_started p q e = rw (e, same_number p.serial) refl

pub other_started : (rows : List DevRow) (p q : PoolState) → IsOther rows p q → started_as p.serial q ≡ q
other_started rows p q o = rw (o.serial) refl

other_called : (rows : List DevRow) (p q : PoolState) → IsOther rows p q → is_called p.name q ≡ false
other_called rows p q o = none_left (is_called p.name q) _ (o.names p.name (holds_own p))

-- the started pool of the name, in the state before the call in flight
pub own_before : (rows : List DevRow) (p : PoolState) (ps : List PoolState) → AllByRecursion (IsBeside rows p) ps → IsIn p ps
    → find (is_called p.name) (filter (λ (x : PoolState). is_started x.mode) (map (started_as p.serial) ps)) ≡ Some (up p)
own_before rows p [] h i = absurd i
own_before rows p (q ∷ ps) h i = here h.0 i (own_before rows p ps h.1)
  where
    here : IsBeside rows p q → (q ≡ p) ⊎ IsIn p ps
        → (IsIn p ps → find (is_called p.name) (filter (λ (x : PoolState). is_started x.mode) (map (started_as p.serial) ps)) ≡ Some (up p))
        → find (is_called p.name) (filter (λ (x : PoolState). is_started x.mode) (started_as p.serial q ∷ map (started_as p.serial) ps)) ≡ Some (up p)
    here (inl e) i rest = rw (own_started p q e, self p.name) refl
    here (inr o) (inl e) rest = rw (own_started p q e, self p.name) refl
    here (inr o) (inr i) rest =
        rw (other_started rows p q o)
        (skip (is_called p.name) (is_started q.mode) q (filter (λ (x : PoolState). is_started x.mode) (map (started_as p.serial) ps)) (other_called rows p q o) ∙ rest i)

-- the pool of the name, in the state before the call in flight
pub any_before : (rows : List DevRow) (p : PoolState) (ps : List PoolState) → AllByRecursion (IsBeside rows p) ps → IsIn p ps
    → find (is_called p.name) (map (started_as p.serial) ps) ≡ Some (up p)
any_before rows p [] h i = absurd i
any_before rows p (q ∷ ps) h i = here h.0 i (any_before rows p ps h.1)
  where
    here : IsBeside rows p q → (q ≡ p) ⊎ IsIn p ps → (IsIn p ps → find (is_called p.name) (map (started_as p.serial) ps) ≡ Some (up p)) → find (is_called p.name) (started_as p.serial q ∷ map (started_as p.serial) ps) ≡ Some (up p)
    here (inl e) i rest = rw (own_started p q e, self p.name) refl
    here (inr o) (inl e) rest = rw (own_started p q e, self p.name) refl
    here (inr o) (inr i) rest = rw (other_started rows p q o, other_called rows p q o) (rest i)

-- a name that only the call in flight holds is held by nobody before it
pub unheld_before : (rows : List DevRow) (p : PoolState) (n : Text) (ps : List PoolState) → AllByRecursion (IsBeside rows p) ps → holds n p ≡ true → holds n (up p) ≡ false
    → find (holds n) (map (started_as p.serial) ps) ≡ None
unheld_before rows p n [] h own now = refl
unheld_before rows p n (q ∷ ps) h own now = here h.0 (unheld_before rows p n ps h.1 own now)
  where
    here : IsBeside rows p q → find (holds n) (map (started_as p.serial) ps) ≡ None → find (holds n) (started_as p.serial q ∷ map (started_as p.serial) ps) ≡ None
    here (inl e) rest = rw (own_started p q e, now) rest
    here (inr o) rest = rw (other_started rows p q o, o.names n own) rest

-- the started pool of the name, in the state as it is
pub own_now : (rows : List DevRow) (p : PoolState) (ps : List PoolState) → AllByRecursion (IsBeside rows p) ps → IsIn p ps → is_started p.mode ≡ true
    → find (is_called p.name) (filter (λ (x : PoolState). is_started x.mode) ps) ≡ Some p
own_now rows p [] h i e = absurd i
own_now rows p (q ∷ ps) h i e = here h.0 i (λ j. own_now rows p ps h.1 j e)
  where
    found : q ≡ p → find (is_called p.name) (filter (λ (x : PoolState). is_started x.mode) (q ∷ ps)) ≡ Some p
    found e' = subst (λ (x : PoolState). find (is_called p.name) (filter (λ (y : PoolState). is_started y.mode) (x ∷ ps)) ≡ Some p) (sym e') (rw (e, self p.name) refl)

    here : IsBeside rows p q → (q ≡ p) ⊎ IsIn p ps → (IsIn p ps → find (is_called p.name) (filter (λ (x : PoolState). is_started x.mode) ps) ≡ Some p) → find (is_called p.name) (filter (λ (x : PoolState). is_started x.mode) (q ∷ ps)) ≡ Some p
    here (inl e') i rest = found e'
    here (inr o) (inl e') rest = found e'
    here (inr o) (inr i) rest =
        skip (is_called p.name) (is_started q.mode) q (filter (λ (x : PoolState). is_started x.mode) ps) (other_called rows p q o) ∙ rest i

-- the pool of the name, in the state as it is
pub any_now : (rows : List DevRow) (p : PoolState) (ps : List PoolState) → AllByRecursion (IsBeside rows p) ps → IsIn p ps → find (is_called p.name) ps ≡ Some p
any_now rows p [] h i = absurd i
any_now rows p (q ∷ ps) h i = here h.0 i (any_now rows p ps h.1)
  where
    found : q ≡ p → find (is_called p.name) (q ∷ ps) ≡ Some p
    found e = subst (λ (x : PoolState). find (is_called p.name) (x ∷ ps) ≡ Some p) (sym e) (rw (self p.name) refl)

    here : IsBeside rows p q → (q ≡ p) ⊎ IsIn p ps → (IsIn p ps → find (is_called p.name) ps ≡ Some p) → find (is_called p.name) (q ∷ ps) ≡ Some p
    here (inl e) i rest = found e
    here (inr o) (inl e) rest = found e
    here (inr o) (inr i) rest = rw (other_called rows p q o) (rest i)
