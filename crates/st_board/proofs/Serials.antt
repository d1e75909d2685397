-- Pools of a valid state by their serials, and the devices that they use.
use Rattle.std.proofs.Common.{◌≡◌, ℕ, ◌<◌, ◌≤◌, ◌+◌, arith, length, List, [], ◌∷◌, ◌++◌, Bool, true, false, cond, not, ◌||◌, map, Option, Some, None, is_some, refl, sym, ap, subst, ◌∙◌}
use Rattle.std.specs.Prelude.{find, option_map, ◌==◌}
use Rattle.std.specs.List.{AllByRecursion, list_any}
use Rattle.std.proofs.lemmas.Bool.Decides.{Decides-eqb}
use Rattle.st_units.specs.declared.rows.DevRow.{DevRow}
use Rattle.st_model.specs.declared.call.Call.{Call}
use Rattle.st_model.specs.declared.state.KnownPool.{KnownPool}
use Rattle.st_model.specs.declared.state.PoolState.{PoolState}
use Rattle.st_model.specs.Flight.{all_but}
use Rattle.st_model.specs.Look.{Text, has_path, row_of, is_called, is_started, uses, flight_of, takes_path}
use Rattle.st_model.specs.Parts.{known, is_used, pool_at, paths_taken}
use Rattle.st_model.specs.Shown.{halted_pools}
use Rattle.st_model.specs.Valid.{Apart}
use Rattle.st_model.specs.ValidPool.{EachPair}

abbrev pub at : ℕ → List PoolState → Option PoolState
at q ps = find (λ (p : PoolState). p.serial == q) ps

abbrev pub put : ℕ → PoolState → List PoolState → List PoolState
put serial q ps = map (λ (p : PoolState). cond (p.serial == serial) q p) ps

pub same_number : (n m : ℕ) → (n == m) ≡ true → n ≡ m
same_number n m e = (Decides-eqb n m).0 e

pub self_number : (n : ℕ) → (n == n) ≡ true
self_number n = (Decides-eqb n n).1 refl

pub apart_number : (n m : ℕ) → (n ≡ m → ⊥) → (n == m) ≡ false
apart_number n m never = here (n == m) refl
  where
    here : (b : Bool) → (n == m) ≡ b → b ≡ false
    here true e = absurd (never (same_number n m e))
    here false e = refl

pub unlike : (n m : ℕ) → (n == m) ≡ false → n ≡ m → ⊥
unlike n m e same = let t : (n == m) ≡ true = subst (λ k. (n == k) ≡ true) same (self_number n) in cc

later : (n m : ℕ) → n < m → m ≡ n → ⊥
later n m less same = omega (arith, less, same)

sooner : (n m : ℕ) → n < m → n ≡ m → ⊥
sooner n m less same = omega (arith, less, same)

none_later : (rows : List DevRow) (p : PoolState) (ps : List PoolState) → AllByRecursion (Apart rows p) ps → at p.serial ps ≡ None
none_later rows p [] h = refl
none_later rows p (q ∷ ps) h = rw (apart_number q.serial p.serial (later p.serial q.serial h.0.serials)) (none_later rows p ps h.1)

abbrev pub stopped_in : Option PoolState → Option PoolState
stopped_in None = None
stopped_in (Some p) = cond (is_started p.mode) None (Some p)

-- what is so of each pool
pub all_found : (P : PoolState → Type 0) (r : ℕ) (x : PoolState) (ps : List PoolState) → AllByRecursion P ps → at r ps ≡ Some x → P x
all_found P r x [] h e = absurd cc
all_found P r x (y ∷ ys) h e = by (y.serial == r) e (all_found P r x ys h.1)
  where
    by : (b : Bool) → cond b (Some y) (at r ys) ≡ Some x → (at r ys ≡ Some x → P x) → P x
    by true k rest = let same : y ≡ x = cc in subst P same h.0
    by false k rest = rest k

-- the pools that aren't started, by their serials
pub found_halted : (rows : List DevRow) (q : ℕ) (ps : List PoolState) → EachPair (Apart rows) ps → at q (halted_pools ps) ≡ stopped_in (at q ps)
found_halted rows q [] h = refl
found_halted rows q (p ∷ ps) h = here (is_started p.mode) refl (p.serial == q) refl (found_halted rows q ps h.1)
  where
    here : (b : Bool) → is_started p.mode ≡ b → (c : Bool) → (p.serial == q) ≡ c → at q (halted_pools ps) ≡ stopped_in (at q ps) → at q (cond (not b) (p ∷ halted_pools ps) (halted_pools ps)) ≡ stopped_in (cond c (Some p) (at q ps))
    here true e true k ih = ih ∙ (ap stopped_in (subst (λ n. at n ps ≡ None) (same_number p.serial q k) (none_later rows p ps h.0)) ∙ sym (ap (λ b. cond b None (Some p)) e))
    here true e false k ih = ih
    here false e true k ih = ap (λ c. cond c (Some p) (at q (halted_pools ps))) k ∙ sym (ap (λ b. cond b None (Some p)) e)
    here false e false k ih = ap (λ c. cond c (Some p) (at q (halted_pools ps))) k ∙ ih

still : (o : Option PoolState) (c : Bool) → o ≡ cond c o o
still o true = refl
still o false = refl

-- with another pool in place of the one of a serial
pub put_at : (serial r : ℕ) (q : PoolState) (ps : List PoolState) → q.serial ≡ serial → at r (put serial q ps) ≡ cond (r == serial) (option_map (λ x. q) (at serial ps)) (at r ps)
put_at serial r q [] own = still None (r == serial)
put_at serial r q (x ∷ ps) own = here (x.serial == serial) refl (r == serial) refl (put_at serial r q ps own)
  where
    here : (b : Bool) → (x.serial == serial) ≡ b → (c : Bool) → (r == serial) ≡ c → at r (put serial q ps) ≡ cond c (option_map (λ x. q) (at serial ps)) (at r ps)
        → at r (cond b q x ∷ put serial q ps) ≡ cond c (option_map (λ x. q) (cond b (Some x) (at serial ps))) (at r (x ∷ ps))
    here true e true k ih =
        let own_r : (q.serial == r) ≡ true = subst (λ n. (q.serial == n) ≡ true) (own ∙ sym (same_number r serial k)) (self_number q.serial) in
        ap (λ c. cond c (Some q) (at r (put serial q ps))) own_r
    here false e true k ih =
        let off : (x.serial == r) ≡ false = subst (λ n. (x.serial == n) ≡ false) (sym (same_number r serial k)) e in
        ap (λ c. cond c (Some x) (at r (put serial q ps))) off ∙ ih
    here true e false k ih =
        let apart : r ≡ serial → ⊥ = unlike r serial k in
        let off_q : (q.serial == r) ≡ false = apart_number q.serial r (λ same. apart (sym same ∙ own)) in
        let off_x : (x.serial == r) ≡ false = apart_number x.serial r (λ same. apart (sym same ∙ same_number x.serial serial e)) in
        ap (λ c. cond c (Some q) (at r (put serial q ps))) off_q ∙ (ih ∙ sym (ap (λ c. cond c (Some x) (at r ps)) off_x))
    here false e false k ih = ap (λ o. cond (x.serial == r) (Some x) o) ih

-- without the pool of a serial
pub but_at : (serial r : ℕ) (ps : List PoolState) → at r (all_but serial ps) ≡ cond (r == serial) None (at r ps)
but_at serial r [] = still None (r == serial)
but_at serial r (x ∷ ps) = here (x.serial == serial) refl (r == serial) refl (but_at serial r ps)
  where
    here : (b : Bool) → (x.serial == serial) ≡ b → (c : Bool) → (r == serial) ≡ c → at r (all_but serial ps) ≡ cond c None (at r ps)
        → at r (cond (not b) (x ∷ all_but serial ps) (all_but serial ps)) ≡ cond c None (at r (x ∷ ps))
    here true e true k ih = ih
    here true e false k ih =
        let off : (x.serial == r) ≡ false = apart_number x.serial r (λ same. unlike r serial k (sym same ∙ same_number x.serial serial e)) in
        ih ∙ sym (ap (λ c. cond c (Some x) (at r ps)) off)
    here false e true k ih =
        let off : (x.serial == r) ≡ false = subst (λ n. (x.serial == n) ≡ false) (sym (same_number r serial k)) e in
        ap (λ c. cond c (Some x) (at r (all_but serial ps))) off ∙ ih
    here false e false k ih = ap (λ o. cond (x.serial == r) (Some x) o) ih

-- with one more
pub last_at : (r : ℕ) (q : PoolState) (ps : List PoolState) → at q.serial ps ≡ None → at r (ps ++ q ∷ []) ≡ cond (r == q.serial) (Some q) (at r ps)
last_at r q [] fresh = here (q.serial == r) refl (r == q.serial) refl
  where
    here : (b : Bool) → (q.serial == r) ≡ b → (c : Bool) → (r == q.serial) ≡ c → cond b (Some q) None ≡ cond c (Some q) None
    here true e true k = refl
    here false e false k = refl
    here true e false k = absurd (unlike r q.serial k (sym (same_number q.serial r e)))
    here false e true k = absurd (unlike q.serial r e (sym (same_number r q.serial k)))
last_at r q (x ∷ ps) fresh = here (x.serial == q.serial) refl (x.serial == r) refl (r == q.serial) refl fresh (last_at r q ps)
  where
    here : (a : Bool) → (x.serial == q.serial) ≡ a → (b : Bool) → (x.serial == r) ≡ b → (c : Bool) → (r == q.serial) ≡ c → cond a (Some x) (at q.serial ps) ≡ None
        → (at q.serial ps ≡ None → at r (ps ++ q ∷ []) ≡ cond (r == q.serial) (Some q) (at r ps)) → cond b (Some x) (at r (ps ++ q ∷ [])) ≡ cond c (Some q) (cond b (Some x) (at r ps))
    here true d b e c k f ih = absurd cc
    here false d true e true k f ih = absurd (unlike x.serial q.serial d (same_number x.serial r e ∙ same_number r q.serial k))
    here false d true e false k f ih = refl
    here false d false e c k f ih = ih f ∙ ap (λ b. cond b (Some q) (at r ps)) k

-- ---- what is known

pub known_at : (r : ℕ) (ps : List PoolState) → list_any (λ (k : KnownPool). k.serial == r) (map known ps) ≡ is_some (at r ps)
known_at r [] = refl
known_at r (p ∷ ps) = here (p.serial == r) (known_at r ps)
  where
    here : (b : Bool) → list_any (λ (k : KnownPool). k.serial == r) (map known ps) ≡ is_some (at r ps) → (b || list_any (λ (k : KnownPool). k.serial == r) (map known ps)) ≡ is_some (cond b (Some p) (at r ps))
    here true ih = refl
    here false ih = ih

abbrev pub Only : PoolState → List PoolState → Type 0
Only p ps = AllByRecursion (λ (x : PoolState). (x.serial == p.serial) ≡ true → x ≡ p) ps

one_above : (rows : List DevRow) (x : PoolState) (name : Text) (y : PoolState) (ys : List PoolState) → AllByRecursion (Apart rows x) ys → pool_at name ys ≡ Some y → Apart rows x y
one_above rows x name y [] g f = absurd cc
one_above rows x name y (z ∷ zs) g f = by (is_called name z) f (one_above rows x name y zs g.1)
  where
    by : (b : Bool) → cond b (Some z) (pool_at name zs) ≡ Some y → (pool_at name zs ≡ Some y → Apart rows x y) → Apart rows x y
    by true f rest = let same : z ≡ y = cc in subst (Apart rows x) same g.0
    by false f rest = rest f

none_alike : (rows : List DevRow) (x : PoolState) (ys : List PoolState) → AllByRecursion (Apart rows x) ys → AllByRecursion (λ (y : PoolState). (y.serial == x.serial) ≡ true → y ≡ x) ys
none_alike rows x [] g = tt
none_alike rows x (y ∷ ys) g = (λ e. absurd (later x.serial y.serial g.0.serials (same_number y.serial x.serial e)), none_alike rows x ys g.1)

-- a pool that is found is the only one of its serial
pub only_one : (rows : List DevRow) (name : Text) (p : PoolState) (ps : List PoolState) → EachPair (Apart rows) ps → pool_at name ps ≡ Some p → Only p ps × (at p.serial ps ≡ Some p)
only_one rows name p [] h found = absurd cc
only_one rows name p (x ∷ ps) h found = here (is_called name x) refl found (only_one rows name p ps h.1)
  where
    here : (b : Bool) → is_called name x ≡ b → cond b (Some x) (pool_at name ps) ≡ Some p → (pool_at name ps ≡ Some p → Only p ps × (at p.serial ps ≡ Some p)) → Only p (x ∷ ps) × (at p.serial (x ∷ ps) ≡ Some p)
    here true e f ih =
        let same : x ≡ p = cc in
        subst (λ z. Only z (x ∷ ps) × (at z.serial (x ∷ ps) ≡ Some z)) same ((λ k. refl, none_alike rows x ps h.0), ap (λ b. cond b (Some x) (at x.serial ps)) (self_number x.serial))
    here false e f ih =
        let rest = ih f in
        let apart = one_above rows x name p ps h.0 f in
        let off : (x.serial == p.serial) ≡ false = apart_number x.serial p.serial (sooner x.serial p.serial apart.serials) in
        ((λ k. absurd (unlike x.serial p.serial off (same_number x.serial p.serial k)), rest.0), ap (λ b. cond b (Some x) (at p.serial ps)) off ∙ rest.1)

-- ---- devices in use

abbrev pub used : Text → List PoolState → Bool
used path ps = list_any (is_used path) (map known ps)

rows_used : (path : Text) (rows : List DevRow) (flight : Option Call) → has_path path (map (λ (row : DevRow). row.path) rows ++ paths_taken flight) ≡ (is_some (row_of path rows) || takes_path path flight)
rows_used path [] None = refl
rows_used path [] (Some call) = refl
rows_used path (r ∷ rs) flight = here (Rattle.std.specs.Str.bytes_eq r.path path) (row_of path rs) (rows_used path rs flight)
  where
    here : (b : Bool) (o : Option DevRow) → has_path path (map (λ (row : DevRow). row.path) rs ++ paths_taken flight) ≡ (is_some o || takes_path path flight)
        → (b || has_path path (map (λ (row : DevRow). row.path) rs ++ paths_taken flight)) ≡ (is_some (cond b (Some r) o) || takes_path path flight)
    here true o h = refl
    here false o h = h

pub uses_known : (path : Text) (p : PoolState) → is_used path (known p) ≡ uses path p
uses_known path p = rows_used path p.devices (flight_of p.mode)

pub put_used : (path : Text) (serial : ℕ) (q : PoolState) (ps : List PoolState) → AllByRecursion (λ (x : PoolState). (x.serial == serial) ≡ true → is_used path (known x) ≡ is_used path (known q)) ps → used path (put serial q ps) ≡ used path ps
put_used path serial q [] h = refl
put_used path serial q (x ∷ ps) h = here (x.serial == serial) refl (put_used path serial q ps h.1)
  where
    here : (b : Bool) → (x.serial == serial) ≡ b → used path (put serial q ps) ≡ used path ps → (is_used path (known (cond b q x)) || used path (put serial q ps)) ≡ (is_used path (known x) || used path ps)
    here true e ih = ap (λ u. u || used path (put serial q ps)) (sym (h.0 e)) ∙ ap (λ u. is_used path (known x) || u) ih
    here false e ih = ap (λ u. is_used path (known x) || u) ih

-- a device that the pool doesn't use
pub but_unused : (path : Text) (serial : ℕ) (ps : List PoolState) → AllByRecursion (λ (x : PoolState). (x.serial == serial) ≡ true → is_used path (known x) ≡ false) ps → used path (all_but serial ps) ≡ used path ps
but_unused path serial [] h = refl
but_unused path serial (x ∷ ps) h = here (x.serial == serial) refl (but_unused path serial ps h.1)
  where
    here : (b : Bool) → (x.serial == serial) ≡ b → used path (all_but serial ps) ≡ used path ps → used path (cond (not b) (x ∷ all_but serial ps) (all_but serial ps)) ≡ (is_used path (known x) || used path ps)
    here true e ih = ih ∙ sym (ap (λ u. u || used path ps) (h.0 e))
    here false e ih = ap (λ u. is_used path (known x) || u) ih

none_uses : (rows : List DevRow) (path : Text) (p : PoolState) (ps : List PoolState) → is_some (row_of path rows) ≡ true → is_used path (known p) ≡ true → AllByRecursion (Apart rows p) ps → used path ps ≡ false
none_uses rows path p [] there e h = refl
none_uses rows path p (q ∷ ps) there e h = here (is_used path (known q)) refl (none_uses rows path p ps there e h.1)
  where
    here : (b : Bool) → is_used path (known q) ≡ b → used path ps ≡ false → (b || used path ps) ≡ false
    here true k rest = absurd (h.0.devices path there (sym (uses_known path p) ∙ e) (sym (uses_known path q) ∙ k))
    here false k rest = rest

-- ---- how many aren't started

abbrev pub one : Bool → ℕ
one true = 1
one false = 0

put_none : (serial : ℕ) (q : PoolState) (ps : List PoolState) → at serial ps ≡ None → put serial q ps ≡ ps
put_none serial q [] h = refl
put_none serial q (x ∷ ps) h = here (x.serial == serial) refl h (put_none serial q ps)
  where
    here : (b : Bool) → (x.serial == serial) ≡ b → cond b (Some x) (at serial ps) ≡ None → (at serial ps ≡ None → put serial q ps ≡ ps) → cond b q x ∷ put serial q ps ≡ x ∷ ps
    here true e k ih = absurd cc
    here false e k ih = ap (λ ys. x ∷ ys) (ih k)

pub count_put : (rows : List DevRow) (serial : ℕ) (p q : PoolState) (ps : List PoolState) → EachPair (Apart rows) ps → at serial ps ≡ Some p
    → length (halted_pools (put serial q ps)) + one (not (is_started p.mode)) ≡ length (halted_pools ps) + one (not (is_started q.mode))
count_put rows serial p q [] h found = absurd cc
count_put rows serial p q (x ∷ ps) h found = here (x.serial == serial) refl found (count_put rows serial p q ps h.1)
  where
    swapped : (a b : Bool) (xs : List PoolState) → length (cond b (q ∷ xs) xs) + one a ≡ length (cond a (x ∷ xs) xs) + one b
    swapped true true xs = refl
    swapped true false xs = omega arith
    swapped false true xs = omega arith
    swapped false false xs = refl

    longer : (a : Bool) (xs ys : List PoolState) (m n : ℕ) → length xs + m ≡ length ys + n → length (cond a (x ∷ xs) xs) + m ≡ length (cond a (x ∷ ys) ys) + n
    longer true xs ys m n e = omega (arith, e)
    longer false xs ys m n e = e

    here : (b : Bool) → (x.serial == serial) ≡ b → cond b (Some x) (at serial ps) ≡ Some p
        → (at serial ps ≡ Some p → length (halted_pools (put serial q ps)) + one (not (is_started p.mode)) ≡ length (halted_pools ps) + one (not (is_started q.mode)))
        → length (halted_pools (cond b q x ∷ put serial q ps)) + one (not (is_started p.mode)) ≡ length (halted_pools (x ∷ ps)) + one (not (is_started q.mode))
    here true e k ih =
        let same : x ≡ p = cc in
        let rest : put serial q ps ≡ ps = put_none serial q ps (subst (λ n. at n ps ≡ None) (same_number x.serial serial e) (none_later rows x ps h.0)) in
        ap (λ ys. length (halted_pools (q ∷ ys)) + one (not (is_started p.mode))) rest
        ∙ (ap (λ z. length (halted_pools (q ∷ ps)) + one (not (is_started z.mode))) (sym same) ∙ swapped (not (is_started x.mode)) (not (is_started q.mode)) (halted_pools ps))
    here false e k ih = longer (not (is_started x.mode)) (halted_pools (put serial q ps)) (halted_pools ps) (one (not (is_started p.mode))) (one (not (is_started q.mode))) (ih k)

but_none : (serial : ℕ) (ps : List PoolState) → at serial ps ≡ None → all_but serial ps ≡ ps
but_none serial [] h = refl
but_none serial (x ∷ ps) h = here (x.serial == serial) refl h (but_none serial ps)
  where
    here : (b : Bool) → (x.serial == serial) ≡ b → cond b (Some x) (at serial ps) ≡ None → (at serial ps ≡ None → all_but serial ps ≡ ps) → cond (not b) (x ∷ all_but serial ps) (all_but serial ps) ≡ x ∷ ps
    here true e k ih = absurd cc
    here false e k ih = ap (λ ys. x ∷ ys) (ih k)

pub count_but : (rows : List DevRow) (serial : ℕ) (p : PoolState) (ps : List PoolState) → EachPair (Apart rows) ps → at serial ps ≡ Some p → length (halted_pools (all_but serial ps)) + one (not (is_started p.mode)) ≡ length (halted_pools ps)
count_but rows serial p [] h found = absurd cc
count_but rows serial p (x ∷ ps) h found = here (x.serial == serial) refl found (count_but rows serial p ps h.1)
  where
    less : (a : Bool) (xs : List PoolState) → length xs + one a ≡ length (cond a (x ∷ xs) xs)
    less true xs = omega arith
    less false xs = omega arith

    longer : (a : Bool) (xs ys : List PoolState) (m : ℕ) → length xs + m ≡ length ys → length (cond a (x ∷ xs) xs) + m ≡ length (cond a (x ∷ ys) ys)
    longer true xs ys m e = omega (arith, e)
    longer false xs ys m e = e

    here : (b : Bool) → (x.serial == serial) ≡ b → cond b (Some x) (at serial ps) ≡ Some p
        → (at serial ps ≡ Some p → length (halted_pools (all_but serial ps)) + one (not (is_started p.mode)) ≡ length (halted_pools ps))
        → length (halted_pools (cond (not b) (x ∷ all_but serial ps) (all_but serial ps))) + one (not (is_started p.mode)) ≡ length (halted_pools (x ∷ ps))
    here true e k ih =
        let same : x ≡ p = cc in
        let rest : all_but serial ps ≡ ps = but_none serial ps (subst (λ n. at n ps ≡ None) (same_number x.serial serial e) (none_later rows x ps h.0)) in
        ap (λ ys. length (halted_pools ys) + one (not (is_started p.mode))) rest
        ∙ (ap (λ z. length (halted_pools ps) + one (not (is_started z.mode))) (sym same) ∙ less (not (is_started x.mode)) (halted_pools ps))
    here false e k ih = longer (not (is_started x.mode)) (halted_pools (all_but serial ps)) (halted_pools ps) (one (not (is_started p.mode))) (ih k)

-- a started pool leaves room for one that isn't
halted_few : (ps : List PoolState) → length (halted_pools ps) ≤ length ps
halted_few [] = omega arith
halted_few (x ∷ ps) = here (not (is_started x.mode)) (halted_few ps)
  where
    here : (a : Bool) → length (halted_pools ps) ≤ length ps → length (cond a (x ∷ halted_pools ps) (halted_pools ps)) ≤ length (x ∷ ps)
    here true le = omega (arith, le)
    here false le = omega (arith, le)

pub halted_fewer : (serial : ℕ) (p : PoolState) (ps : List PoolState) → at serial ps ≡ Some p → is_started p.mode ≡ true → length (halted_pools ps) + 1 ≤ length ps
halted_fewer serial p [] found up = absurd cc
halted_fewer serial p (x ∷ ps) found up = here (x.serial == serial) found (halted_fewer serial p ps)
  where
    more : (a : Bool) → length (halted_pools ps) + 1 ≤ length ps → length (cond a (x ∷ halted_pools ps) (halted_pools ps)) + 1 ≤ length (x ∷ ps)
    more true le = omega (arith, le)
    more false le = omega (arith, le)

    here : (b : Bool) → cond b (Some x) (at serial ps) ≡ Some p → (at serial ps ≡ Some p → is_started p.mode ≡ true → length (halted_pools ps) + 1 ≤ length ps) → length (halted_pools (x ∷ ps)) + 1 ≤ length (x ∷ ps)
    here true k ih =
        let same : x ≡ p = cc in
        let few = halted_few ps in
        let shut : length (halted_pools (x ∷ ps)) ≡ length (halted_pools ps) = ap (λ z. length (cond (not (is_started z.mode)) (x ∷ halted_pools ps) (halted_pools ps))) same ∙ ap (λ b. length (cond (not b) (x ∷ halted_pools ps) (halted_pools ps))) up in
        omega (arith, few, shut)
    here false k ih = more (not (is_started x.mode)) (ih k up)

-- no other pool uses the devices of one that leaves
pub but_used : (rows : List DevRow) (path : Text) (name : Text) (p : PoolState) (ps : List PoolState) → is_some (row_of path rows) ≡ true → is_used path (known p) ≡ true
    → EachPair (Apart rows) ps → pool_at name ps ≡ Some p → used path (all_but p.serial ps) ≡ false
but_used rows path name p [] there uses h found = absurd cc
but_used rows path name p (x ∷ ps) there uses h found = here (is_called name x) found (but_used rows path name p ps there uses h.1)
  where
    here : (b : Bool) → cond b (Some x) (pool_at name ps) ≡ Some p → (pool_at name ps ≡ Some p → used path (all_but p.serial ps) ≡ false) → used path (all_but p.serial (x ∷ ps)) ≡ false
    here true f ih =
        let same : x ≡ p = cc in
        subst (λ (z : PoolState). used path (all_but z.serial (x ∷ ps)) ≡ false) same
        (ap (λ b. used path (cond (not b) (x ∷ all_but x.serial ps) (all_but x.serial ps))) (self_number x.serial)
        ∙ (ap (used path) (but_none x.serial ps (none_later rows x ps h.0)) ∙ none_uses rows path x ps there (subst (λ z. is_used path (known z) ≡ true) (sym same) uses) h.0))
    here false f ih =
        let apart = one_above rows x name p ps h.0 f in
        let off : (x.serial == p.serial) ≡ false = apart_number x.serial p.serial (sooner x.serial p.serial apart.serials) in
        ap (λ b. used path (cond (not b) (x ∷ all_but p.serial ps) (all_but p.serial ps))) off
        ∙ (ap (λ u. u || used path (all_but p.serial ps)) (unused (is_used path (known x)) refl apart) ∙ ih f)
      where
        unused : (b : Bool) → is_used path (known x) ≡ b → Apart rows x p → is_used path (known x) ≡ false
        unused true e apart = absurd (apart.devices path there (sym (uses_known path x) ∙ e) (sym (uses_known path p) ∙ uses))
        unused false e apart = e

-- what a pool of them uses is in use
pub used_own : (path name : Text) (p : PoolState) (ps : List PoolState) → pool_at name ps ≡ Some p → is_used path (known p) ≡ true → used path ps ≡ true
used_own path name p [] found e = absurd cc
used_own path name p (x ∷ ps) found e = by (is_called name x) found (used_own path name p ps)
  where
    or_second : (a b : Bool) → b ≡ true → (a || b) ≡ true
    or_second true b k = refl
    or_second false b k = k

    by : (b : Bool) → cond b (Some x) (pool_at name ps) ≡ Some p → (pool_at name ps ≡ Some p → is_used path (known p) ≡ true → used path ps ≡ true) → (is_used path (known x) || used path ps) ≡ true
    by true f rest = let same : x ≡ p = cc in ap (λ b. b || used path ps) (ap (λ z. is_used path (known z)) same ∙ e)
    by false f rest = or_second (is_used path (known x)) (used path ps) (rest f e)
