-- One pool more behind those of lower serials.
use Rattle.std.proofs.Common.{◌≡◌, ◌⊎◌, inl, inr, ℕ, zero, suc, ◌+◌, ◌<◌, ◌≤◌, Bool, true, false, ◌||◌, cond, eqb, List, [], ◌∷◌, ◌++◌, length, map, Option, Some, None, refl, sym, ◌∙◌, ap, subst, arith}
use Rattle.std.specs.List.{slice_get, list_any, AllByRecursion}
use Rattle.std.specs.Str.{bytes_eq}
use Rattle.std.proofs.lemmas.Slice.Eq.{bytes_eq-Decides}
use Rattle.std.proofs.lemmas.Bool.{eq-eqb, ne_eqb, cases_lt, cases_Bool}
use Rattle.std.proofs.lemmas.Bool.Decides.{nat_tests}
use Rattle.st_model.specs.declared.state.PoolState.{PoolState}
use Rattle.st_image.specs.Rack.{IsSerial, SerialsRise, NamesDiffer}
use Rattle.st_judge.specs.declared.rows.FoundRow.{FoundRow}
use Rattle.st_assemble.specs.Found.{row_of}
use Rattle.st_assemble.specs.inner.SoFar.{pool_of, has_name}

none_some : {X : Type 0} (x : X) → None ≡ Some x → ⊥
none_some x e = cc

some_same : {X : Type 0} (x y : X) → Some x ≡ Some y → x ≡ y
some_same x y e = cc

pub all_and : {X : Type 0} (P : X → Type 0) (xs : List X) (x : X) → AllByRecursion P xs → P x → AllByRecursion P (xs ++ x ∷ [])
all_and P [] x all one = (one, tt)
all_and P (y ∷ ys) x all one = (all.0, all_and P ys x all.1 one)

pub all_to : {X : Type 0} (P Q : X → Type 0) → ((x : X) → P x → Q x) → (xs : List X) → AllByRecursion P xs → AllByRecursion Q xs
all_to P Q goes [] all = tt
all_to P Q goes (x ∷ xs) all = (goes x all.0, all_to P Q goes xs all.1)

pub all_at : {X : Type 0} (P : X → Type 0) (xs : List X) (k : ℕ) (x : X) → AllByRecursion P xs → slice_get xs k ≡ Some x → P x
all_at P [] k x all at = absurd (none_some x at)
all_at P (y ∷ ys) zero x all at = subst P (some_same y x at) all.0
all_at P (y ∷ ys) (suc k) x all at = all_at P ys k x all.1 at

pub all_by : {X : Type 0} (P : X → Type 0) (xs : List X) → ((k : ℕ) (x : X) → slice_get xs k ≡ Some x → P x) → AllByRecursion P xs
all_by P [] each = tt
all_by P (x ∷ xs) each = (each 0 x refl, all_by P xs (λ k y at. each (suc k) y at))

pub map_and : {X Y : Type 0} (f : X → Y) (xs : List X) (x : X) → map f (xs ++ x ∷ []) ≡ map f xs ++ f x ∷ []
map_and f [] x = refl
map_and f (y ∷ ys) x = ap (λ l. f y ∷ l) (map_and f ys x)

pub length_and : {X : Type 0} (xs : List X) (x : X) → length (xs ++ x ∷ []) ≡ length xs + 1
length_and [] x = refl
length_and (y ∷ ys) x = let more = length_and ys x in omega (arith, more)

pub length_rows : {X Y : Type 0} (f : X → Y) (xs : List X) → length (map f xs) ≡ length xs
length_rows f [] = refl
length_rows f (x ∷ xs) = ap suc (length_rows f xs)

pub still_at : {X : Type 0} (xs : List X) (y : X) (k : ℕ) (x : X) → slice_get xs k ≡ Some x → slice_get (xs ++ y ∷ []) k ≡ Some x
still_at [] y k x at = absurd (none_some x at)
still_at (z ∷ zs) y zero x at = at
still_at (z ∷ zs) y (suc k) x at = still_at zs y k x at

pub last_at : {X : Type 0} (xs : List X) (y : X) → slice_get (xs ++ y ∷ []) (length xs) ≡ Some y
last_at [] y = refl
last_at (z ∷ zs) y = last_at zs y

here : (x : PoolState) (xs : List PoolState) (p : ℕ) → x.serial ≡ p → pool_of p (x ∷ xs) ≡ Some x
here x xs p is = ap (λ (b : Bool). cond b (Some x) (pool_of p xs)) (eq-eqb x.serial p is)

missed : (p : ℕ) (x : PoolState) (xs : List PoolState) → (x.serial ≡ p → ⊥) → pool_of p (x ∷ xs) ≡ pool_of p xs
missed p x xs ne = ap (λ (b : Bool). cond b (Some x) (pool_of p xs)) (ne_eqb x.serial p ne)

pub none_above : (last q : ℕ) (pools : List PoolState) → AllByRecursion (λ (x : PoolState). x.serial ≤ last) pools → last < q → pool_of q pools ≡ None
none_above last q [] below lt = refl
none_above last q (x ∷ xs) below lt = missed q x xs (λ e. absurd (omega (arith, below.0, lt, e))) ∙ none_above last q xs below.1 lt

pub others_same : (q : ℕ) (pools : List PoolState) (x : PoolState) → (x.serial ≡ q → ⊥) → pool_of q (pools ++ x ∷ []) ≡ pool_of q pools
others_same q [] x ne = missed q x [] ne
others_same q (y ∷ ys) x ne = ap (λ (o : Option PoolState). cond (eqb y.serial q) (Some y) o) (others_same q ys x ne)

pub last_found : (last p : ℕ) (pools : List PoolState) (x : PoolState) → AllByRecursion (λ (y : PoolState). y.serial ≤ last) pools → last < p → x.serial ≡ p → pool_of p (pools ++ x ∷ []) ≡ Some x
last_found last p [] x below lt is = here x [] p is
last_found last p (y ∷ ys) x below lt is = missed p y (ys ++ x ∷ []) (λ e. absurd (omega (arith, below.0, lt, e))) ∙ last_found last p ys x below.1 lt is

pub rise_and : (last : ℕ) (pools : List PoolState) (x : PoolState) → SerialsRise pools → AllByRecursion (λ (y : PoolState). y.serial ≤ last) pools → last < x.serial → IsSerial x.serial → SerialsRise (pools ++ x ∷ [])
rise_and last [] x rise below lt serial = (serial, tt, tt)
rise_and last (y ∷ ys) x rise below lt serial =
    (rise.0, all_and (λ (q : PoolState). y.serial < q.serial) ys x rise.1 (omega (arith, below.0, lt)), rise_and last ys x rise.2 below.1 lt serial)

pub names_and : (pools : List PoolState) (x : PoolState) → NamesDiffer pools → AllByRecursion (λ (y : PoolState). y.name ≡ x.name → ⊥) pools → NamesDiffer (pools ++ x ∷ [])
names_and [] x differ other = (tt, tt)
names_and (y ∷ ys) x differ other = (all_and (λ (q : PoolState). y.name ≡ q.name → ⊥) ys x differ.0 other.0, names_and ys x differ.1 other.1)

or_parts : (a b : Bool) → (a || b) ≡ false → (a ≡ false) × (b ≡ false)
or_parts true b e = absurd (cc)
or_parts false b e = (refl, e)

pub no_name : (row : FoundRow) (pools : List PoolState) → has_name row (map row_of pools) ≡ false → AllByRecursion (λ (y : PoolState). y.name ≡ row.name → ⊥) pools
no_name row [] none = tt
no_name row (y ∷ ys) none =
    let both = or_parts (bytes_eq y.name row.name) (has_name row (map row_of ys)) none in
    ((λ e. clash (bytes_eq y.name row.name) ((bytes_eq-Decides y.name row.name).1 e) both.0), no_name row ys both.1)
  where
    clash : (b : Bool) → b ≡ true → b ≡ false → ⊥
    clash b t f = cc

-- a pool among these has the name
pub a_name : (row : FoundRow) (pools : List PoolState) → has_name row (map row_of pools) ≡ true → (k : ℕ) × (other : PoolState) × (slice_get pools k ≡ Some other) × (other.name ≡ row.name)
a_name row [] some = absurd (cc)
a_name row (y ∷ ys) some = by (bytes_eq y.name row.name) refl some (a_name row ys)
  where
    by : (b : Bool) → bytes_eq y.name row.name ≡ b → (b || has_name row (map row_of ys)) ≡ true
        → (has_name row (map row_of ys) ≡ true → (k : ℕ) × (other : PoolState) × (slice_get ys k ≡ Some other) × (other.name ≡ row.name))
        → (k : ℕ) × (other : PoolState) × (slice_get (y ∷ ys) k ≡ Some other) × (other.name ≡ row.name)
    by true e is later = (0, y, refl, (bytes_eq-Decides y.name row.name).0 e)
    by false e is later = let rest = later is in (suc rest.0, rest.1, rest.2, rest.3)

-- a pool of the list is found by its own serial
pub own_found : (pools : List PoolState) (k : ℕ) (x : PoolState) → SerialsRise pools → slice_get pools k ≡ Some x → IsSerial x.serial × (pool_of x.serial pools ≡ Some x)
own_found [] k x rise at = absurd (none_some x at)
own_found (y ∷ ys) zero x rise at = let same : y ≡ x = some_same y x at in (subst (λ (z : PoolState). IsSerial z.serial) same rise.0, here y ys x.serial (ap (λ (z : PoolState). z.serial) same) ∙ ap (λ (z : PoolState). Some z) same)
own_found (y ∷ ys) (suc k) x rise at =
    let rest = own_found ys k x rise.2 at in
    let less = all_at (λ (q : PoolState). y.serial < q.serial) ys k x rise.1 at in
    (rest.0, missed x.serial y ys (λ e. absurd (omega (arith, less, e))) ∙ rest.1)
