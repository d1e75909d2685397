-- Items by their places, pools of a valid state, and rows of a path.
use Rattle.std.proofs.Common.{◌≡◌, ◌⊎◌, ℕ, zero, suc, ◌+◌, ◌<◌, ◌≤◌, Bool, true, false, ◌||◌, ◌&&◌, cond, not, List, [], ◌∷◌, ◌++◌, map, Option, Some, None, is_some, refl, sym, ◌∙◌, ap, subst, arith}
use Rattle.std.specs.Prelude.{◌-◌, ◌==◌}
use Rattle.std.specs.List.{AllByRecursion, list_any, slice_get}
use Rattle.std.specs.Str.{bytes_eq}
use Rattle.std.proofs.lemmas.Slice.Eq.{bytes_eq-Decides}
use Rattle.st_units.specs.declared.rows.DevRow.{DevRow}
use Rattle.st_model.specs.declared.state.PoolMode.{PoolMode}
use Rattle.st_model.specs.declared.state.PoolMode.TheVariants.{Up, Down, Stopped, Unsettled, Incomplete}
use Rattle.st_model.specs.declared.state.PoolState.{PoolState}
use Rattle.st_model.specs.Look.{Text, flight_of, gives_name, is_called, is_started, pool_using, row_of, uses}
use Rattle.st_model.specs.Parts.{is_used, known, pool_at}
use Rattle.st_model.specs.Shown.{started_pools}
use Rattle.st_model.specs.Valid.{Apart, AreThere, IsRow}
use Rattle.st_model.specs.ValidPool.{EachPair}
use Rattle.st_rack.specs.Device.{Path}
use Rattle.st_rack.specs.Calls.{Devices}
use Rattle.st_image.specs.Bears.{paths}
use Rattle.st_image.specs.Kept.{as_pair, in_use, own_devices}
use Rattle.st_order.proofs.Lists.{or_first, or_second}
use Rattle.st_pool.specs.Halts.{HaltedView}
use Rattle.st_pool.specs.View.{PoolView}
use Rattle.st_board.specs.Holds.{halted_at}
use Rattle.st_board.specs.View.{pools_of}
use Rattle.st_board.proofs.Present.{lacks}
use Rattle.st_board.proofs.Serials.{all_found, at, self_number, used}
use Rattle.st_closing.specs.inner.Gathering.{or_else}
use Rattle.st_closing.proofs.Pieces.{whole_is}
use Rattle.st_closing.proofs.Lists.{all_zip}

-- ---- lists by index

pub at_map : {A B : Type 0} (f : A → B) (xs : List A) (i : ℕ) (x : A) → slice_get xs i ≡ Some x → slice_get (map f xs) i ≡ Some (f x)
at_map f [] i x e = absurd cc
at_map f (y ∷ ys) zero x e = let same : y ≡ x = cc in ap (λ z. Some (f z)) same
at_map f (y ∷ ys) (suc i) x e = at_map f ys i x e

pub at_left : {A : Type 0} (xs ys : List A) (i : ℕ) (x : A) → slice_get xs i ≡ Some x → slice_get (xs ++ ys) i ≡ Some x
at_left [] ys i x e = absurd cc
at_left (z ∷ zs) ys zero x e = e
at_left (z ∷ zs) ys (suc i) x e = at_left zs ys i x e

pub at_right : {A : Type 0} (xs ys : List A) (i : ℕ) (x : A) → slice_get ys i ≡ Some x → (j : ℕ) × (slice_get (xs ++ ys) j ≡ Some x)
at_right [] ys i x e = (i, e)
at_right (z ∷ zs) ys i x e = let rest = at_right zs ys i x e in (suc rest.0, rest.1)

pub all_at : {A : Type 0} (P : A → Type 0) (xs : List A) (i : ℕ) (x : A) → AllByRecursion P xs → slice_get xs i ≡ Some x → P x
all_at P [] i x h e = absurd cc
all_at P (y ∷ ys) zero x h e = let same : y ≡ x = cc in subst P same h.0
all_at P (y ∷ ys) (suc i) x h e = all_at P ys i x h.1 e

pub all_by : {A : Type 0} (P : A → Type 0) (xs : List A) → ((i : ℕ) (x : A) → slice_get xs i ≡ Some x → P x) → AllByRecursion P xs
all_by P [] each = tt
all_by P (x ∷ xs) each = (each 0 x refl, all_by P xs (λ i y e. each (suc i) y e))

pub of_paths : (ds : Devices) (i : ℕ) (p : Path) → slice_get (paths ds) i ≡ Some p → (d : Path × ℕ) × (slice_get ds i ≡ Some d) × (d.0 ≡ p)
of_paths [] i p e = absurd cc
of_paths (d ∷ ds) zero p e = (d, refl, (let same : d.0 ≡ p = cc in same))
of_paths (d ∷ ds) (suc i) p e = of_paths ds i p e

pub halted_place : {D : Type 0} (q : ℕ) (hs : List (HaltedView D)) (h : HaltedView D) → halted_at q hs ≡ Some h → (i : ℕ) × (slice_get hs i ≡ Some h)
halted_place q [] h e = absurd cc
halted_place q (x ∷ xs) h e = by (x.serial == q) e (halted_place q xs h)
  where
    by : (b : Bool) → cond b (Some x) (halted_at q xs) ≡ Some h → (halted_at q xs ≡ Some h → (i : ℕ) × (slice_get xs i ≡ Some h)) → (i : ℕ) × (slice_get (x ∷ xs) i ≡ Some h)
    by true k rest = (0, k)
    by false k rest = let more = rest k in (suc more.0, more.1)

pub started_place : {D : Type 0} (n : Text) (cs : List (PoolView D)) (p : PoolState) → pool_at n (pools_of cs) ≡ Some p → (i : ℕ) × (c : PoolView D) × (slice_get cs i ≡ Some c) × (c.pool ≡ p)
started_place n [] p e = absurd cc
started_place n (x ∷ xs) p e = by (is_called n x.pool) e (started_place n xs p)
  where
    by : (b : Bool) → cond b (Some x.pool) (pool_at n (pools_of xs)) ≡ Some p → (pool_at n (pools_of xs) ≡ Some p → (i : ℕ) × (c : PoolView _) × (slice_get xs i ≡ Some c) × (c.pool ≡ p)) → (i : ℕ) × (c : PoolView _) × (slice_get (x ∷ xs) i ≡ Some c) × (c.pool ≡ p)
    by true k rest = (0, x, refl, (let same : x.pool ≡ p = cc in same))
    by false k rest = let more = rest k in (suc more.0, more.1, more.2, more.3)

-- ---- pools of a valid state

serial_below : (a b : ℕ) → a < b → (a == b) ≡ false
serial_below a b lt = by (a == b) refl
  where
    no_way : a < b → a ≡ b → ⊥
    no_way lt same = omega (arith, lt, same)

    by : (c : Bool) → (a == b) ≡ c → c ≡ false
    by true e = absurd (no_way lt (Rattle.st_board.proofs.Serials.same_number a b e))
    by false e = refl

pub own_at : (rows : List DevRow) (ps : List PoolState) → EachPair (Apart rows) ps → AllByRecursion (λ (p : PoolState). at p.serial ps ≡ Some p) ps
own_at rows [] h = tt
own_at rows (x ∷ xs) h = (
  ap (λ b. cond b (Some x) (at x.serial xs)) (self_number x.serial),
  all_zip (Apart rows x) (λ (p : PoolState). at p.serial xs ≡ Some p) (λ (p : PoolState). at p.serial (x ∷ xs) ≡ Some p) (λ p apart found. ap (λ b. cond b (Some x) (at p.serial xs)) (serial_below x.serial p.serial apart.serials) ∙ found) xs h.0 (own_at rows xs h.1),
)

pub start_found : (rows : List DevRow) (q : ℕ) (p : PoolState) (ps : List PoolState) → EachPair (Apart rows) ps → at q ps ≡ Some p → is_started p.mode ≡ true → pool_at p.name (started_pools ps) ≡ Some p
start_found rows q p [] h e up = absurd cc
start_found rows q p (x ∷ xs) h e up = by (x.serial == q) e (start_found rows q p xs h.1)
  where
    self : (n : Text) → bytes_eq n n ≡ true
    self n = (bytes_eq-Decides n n).1 refl

    first : (b : Bool) → is_started x.mode ≡ b → b ≡ true → pool_at x.name (cond b (x ∷ started_pools xs) (started_pools xs)) ≡ Some x
    first true k t = ap (λ c. cond c (Some x) (pool_at x.name (started_pools xs))) (self x.name)
    first false k t = absurd cc

    not_called : Apart rows x p → (b : Bool) → is_called p.name x ≡ b → b ≡ false
    not_called apart true k = absurd (apart.names p.name (ap (λ c. c || gives_name p.name (flight_of x.mode)) k) (ap (λ c. c || gives_name p.name (flight_of p.mode)) (self p.name)))
    not_called apart false k = refl

    skip : (b : Bool) → is_called p.name x ≡ false → pool_at p.name (started_pools xs) ≡ Some p → pool_at p.name (cond b (x ∷ started_pools xs) (started_pools xs)) ≡ Some p
    skip true off k = ap (λ c. cond c (Some x) (pool_at p.name (started_pools xs))) off ∙ k
    skip false off k = k

    by : (b : Bool) → cond b (Some x) (at q xs) ≡ Some p → (at q xs ≡ Some p → is_started p.mode ≡ true → pool_at p.name (started_pools xs) ≡ Some p) → pool_at p.name (cond (is_started x.mode) (x ∷ started_pools xs) (started_pools xs)) ≡ Some p
    by true k rest =
        let same : x ≡ p = cc in
        subst (λ (z : PoolState). pool_at z.name (cond (is_started x.mode) (x ∷ started_pools xs) (started_pools xs)) ≡ Some z) same (first (is_started x.mode) refl (ap (λ (z : PoolState). is_started z.mode) same ∙ up))
    by false k rest = skip (is_started x.mode) (not_called (all_found (Apart rows x) q p xs h.0 k) (is_called p.name x) refl) (rest k up)

pub used_of : (path : Text) (Q : PoolState → Type 0) (ps : List PoolState) → AllByRecursion Q ps → used path ps ≡ true → (p : PoolState) × Q p × (is_used path (known p) ≡ true) × ((j : ℕ) × (slice_get ps j ≡ Some p))
used_of path Q [] h e = absurd cc
used_of path Q (x ∷ xs) h e = by (is_used path (known x)) refl e (used_of path Q xs h.1)
  where
    by : (b : Bool) → is_used path (known x) ≡ b → (b || used path xs) ≡ true → (used path xs ≡ true → (p : PoolState) × Q p × (is_used path (known p) ≡ true) × ((j : ℕ) × (slice_get xs j ≡ Some p)))
        → (p : PoolState) × Q p × (is_used path (known p) ≡ true) × ((j : ℕ) × (slice_get (x ∷ xs) j ≡ Some p))
    by true k f rest = (x, h.0, k, (0, refl))
    by false k f rest = let more = rest f in (more.0, more.1, more.2, (suc more.3.0, more.3.1))

pub none_using : (path : Text) (q : ℕ) (p : PoolState) (ps : List PoolState) → pool_using path ps ≡ None → at q ps ≡ Some p → uses path p ≡ true → ⊥
none_using path q p [] none e on = absurd cc
none_using path q p (x ∷ xs) none e on = by (uses path x) refl none (x.serial == q) e (none_using path q p xs)
  where
    by : (b : Bool) → uses path x ≡ b → cond b (Some x) (pool_using path xs) ≡ None → (c : Bool) → cond c (Some x) (at q xs) ≡ Some p → (pool_using path xs ≡ None → at q xs ≡ Some p → uses path p ≡ true → ⊥) → ⊥
    by true u k c f rest = absurd cc
    by false u k true f rest = let same : x ≡ p = cc in let off : uses path p ≡ false = ap (uses path) (sym same) ∙ u in cc
    by false u k false f rest = rest k f on

pub rows_of_there : (rows : List DevRow) (p : PoolState) (m : PoolMode) → lacks m ≡ false → AreThere rows p m → AllByRecursion (IsRow rows) p.devices
rows_of_there rows p Up e h = h
rows_of_there rows p (Down call) e h = h.0
rows_of_there rows p Stopped e h = h
rows_of_there rows p (Unsettled call) e h = h.0
rows_of_there rows p (Incomplete missing) e h = absurd cc

-- the row of a path
pub row_place : (path : Text) (rows : List DevRow) → is_some (row_of path rows) ≡ true → (j : ℕ) × (row : DevRow) × (slice_get rows j ≡ Some row) × (row.path ≡ path)
row_place path [] e = absurd cc
row_place path (r ∷ rs) e = by (bytes_eq r.path path) refl e (row_place path rs)
  where
    by : (b : Bool) → bytes_eq r.path path ≡ b → is_some (cond b (Some r) (row_of path rs)) ≡ true → (is_some (row_of path rs) ≡ true → (j : ℕ) × (row : DevRow) × (slice_get rs j ≡ Some row) × (row.path ≡ path)) → (j : ℕ) × (row : DevRow) × (slice_get (r ∷ rs) j ≡ Some row) × (row.path ≡ path)
    by true k f rest = (0, r, refl, (bytes_eq-Decides r.path path).0 k)
    by false k f rest = let more = rest f in (suc more.0, more.1, more.2, more.3)

pub in_use_row : (pool : PoolState) (ds : Devices) → lacks pool.mode ≡ false → (j : ℕ) (row : DevRow) → slice_get pool.devices j ≡ Some row → slice_get (in_use pool ds) j ≡ Some (as_pair row)
in_use_row pool ds whole j row e = at_left (own_devices pool.mode pool.devices ds) _ j (as_pair row) (subst (λ (l : Devices). slice_get l j ≡ Some (as_pair row)) (sym (whole_is pool.mode pool.devices ds whole)) (at_map as_pair pool.devices j row e))

pub any_off : (f : PoolState → Bool) (ps : List PoolState) (j : ℕ) (p : PoolState) → list_any f ps ≡ false → slice_get ps j ≡ Some p → f p ≡ false
any_off f [] j p h e = absurd cc
any_off f (x ∷ xs) zero p h e = let same : x ≡ p = cc in ap f (sym same) ∙ or_first (f x) (list_any f xs) h
any_off f (x ∷ xs) (suc j) p h e = any_off f xs j p (or_second (f x) (list_any f xs) h) e

pub in_state : (row takes : Bool) → (row || takes) ≡ true → (takes && not row) ≡ false → row ≡ true
in_state true takes e k = refl
in_state false true e k = absurd cc
in_state false false e k = absurd cc

pub same_tests : (a b : Bool) → (a ≡ true → b ≡ true) → (b ≡ true → a ≡ true) → a ≡ b
same_tests true b to from = sym (to refl)
same_tests false true to from = from refl
same_tests false false to from = refl

pub some_of : (o : Option ℕ) → is_some o ≡ true → (n : ℕ) × (o ≡ Some n)
some_of None e = absurd cc
some_of (Some n) e = (n, refl)

pub none_of : (o : Option ℕ) → is_some o ≡ false → o ≡ None
none_of None e = refl
none_of (Some n) e = absurd cc

pub or_none : {A : Type 0} (a : Option A) → or_else a None ≡ a
or_none None = refl
or_none (Some a) = refl
