-- pools of a valid state, as the table keeps them, through changes
use Rattle.std.proofs.Common.{◌≡◌, ℕ, ◌<◌, arith, List, [], ◌∷◌, Bool, true, false, cond, not, bytes_eq, map, Some, None, refl, sym, ap, subst, ◌∙◌}
use Rattle.std.specs.Prelude.{filter, ◌==◌}
use Rattle.std.specs.List.{AllByRecursion, list_any}
use Rattle.std.proofs.lemmas.Bool.Decides.{Decides-eqb}
use Rattle.st_units.specs.declared.rows.DevRow.{DevRow}
use Rattle.st_model.specs.declared.state.EngineState.{EngineState}
use Rattle.st_model.specs.declared.state.PoolMode.{PoolMode}
use Rattle.st_model.specs.declared.state.PoolMode.TheVariants.{Up, Down, Stopped, Unsettled, Incomplete}
use Rattle.st_model.specs.declared.state.PoolState.{PoolState}
use Rattle.st_model.specs.Look.{Text, is_called, is_started, holds}
use Rattle.st_model.specs.Parts.{known, pool_at, table_of}
use Rattle.st_model.specs.Shown.{halted_pools}
use Rattle.st_model.specs.Valid.{IsValid, Apart}
use Rattle.st_model.specs.ValidPool.{EachPair}
use Rattle.st_order.specs.Sorted.{entered, ordered}
use Rattle.st_order.proofs.Order.{eq_same, eq_self, eq_turned, find_none}
use Rattle.st_order.proofs.Ordered.{EachApart, filter_ordered}
use Rattle.st_order.proofs.Lists.{any-map, filter-map, entered-map, or_first, or_second, any_less, found_passes}
use Rattle.st_table.specs.Stands.{known_name, tabled, info_of, info_in}
use Rattle.st_table.specs.Steps.{StandsFor, kept}
use Rattle.st_table.specs.Table.{TablePool, TableView, name_of, is_named, without}

-- ---- pools of a valid state

-- no pool of these has the name
abbrev pub is_new : Text → List PoolState → Type 0
is_new name ps = list_any (is_called name) ps ≡ false

unequal : (n m : Text) → (bytes_eq n m ≡ true → ⊥) → bytes_eq n m ≡ false
unequal n m never = here (bytes_eq n m) refl
  where
    here : (b : Bool) → bytes_eq n m ≡ b → b ≡ false
    here true e = absurd (never e)
    here false e = refl

holds_own : (p : PoolState) (name : Text) → bytes_eq p.name name ≡ true → holds name p ≡ true
holds_own p name e = rw e refl

pub new_behind : (rows : List DevRow) (p : PoolState) (ps : List PoolState) → AllByRecursion (Apart rows p) ps → is_new p.name ps
new_behind rows p [] h = refl
new_behind rows p (q ∷ ps) h =
    let other : is_called p.name q ≡ false = unequal q.name p.name (λ e. h.0.names p.name (holds_own p p.name (eq_self p.name)) (holds_own q p.name e)) in
    rw other (new_behind rows p ps h.1)

-- ---- as the table keeps them

abbrev pub all_kept : List PoolState → List TablePool
all_kept ps = map kept ps

pub called_kept : (name : Text) (ps : List PoolState) → list_any (λ (x : TablePool). bytes_eq (name_of x) name) (all_kept ps) ≡ list_any (is_called name) ps
called_kept name ps = any-map kept (λ (x : TablePool). bytes_eq (name_of x) name) ps

pub apart_kept : (rows : List DevRow) (ps : List PoolState) → EachPair (Apart rows) ps → EachApart name_of (all_kept ps)
apart_kept rows [] h = tt
apart_kept rows (p ∷ ps) h = (called_kept p.name ps ∙ new_behind rows p ps h.0, apart_kept rows ps h.1)

-- what the stopped pools tell of a known one
info_more : (p : PoolState) (ps : List PoolState) (name : Text) → is_called name p ≡ false → info_of (pool_at name (halted_pools (p ∷ ps))) ≡ info_of (pool_at name (halted_pools ps))
info_more p ps name other = here (is_started p.mode)
  where
    here : (b : Bool) → info_of (pool_at name (cond (not b) (p ∷ halted_pools ps) (halted_pools ps))) ≡ info_of (pool_at name (halted_pools ps))
    here true = refl
    here false = rw other refl

mode_told : (p : PoolState) (m : PoolMode) → is_started m ≡ true → None ≡ info_in p m
mode_told p Up h = refl
mode_told p (Down call) h = refl
mode_told p Stopped h = absurd cc
mode_told p (Unsettled call) h = absurd cc
mode_told p (Incomplete path) h = absurd cc

info_first : (p : PoolState) (ps : List PoolState) → is_new p.name ps → info_of (pool_at p.name (halted_pools (p ∷ ps))) ≡ info_in p p.mode
info_first p ps new = here (is_started p.mode) refl
  where
    here : (b : Bool) → is_started p.mode ≡ b → info_of (pool_at p.name (cond (not b) (p ∷ halted_pools ps) (halted_pools ps))) ≡ info_in p p.mode
    here true e =
        let none : pool_at p.name (halted_pools ps) ≡ None = find_none (λ (q : PoolState). q.name) (is_called p.name) (halted_pools ps) (any_less (is_called p.name) (λ (q : PoolState). not (is_started q.mode)) ps new) in
        ap info_of none ∙ mode_told p p.mode e
    here false e = let own : is_called p.name p ≡ true = eq_self p.name in rw own refl

-- each of the known pools is kept as the model has it
all_tabled : (p : PoolState) (ps qs : List PoolState) → is_new p.name qs → map (λ (q : PoolState). tabled (halted_pools ps) (known q)) qs ≡ all_kept qs → map (λ (q : PoolState). tabled (halted_pools (p ∷ ps)) (known q)) qs ≡ all_kept qs
all_tabled p ps [] new h = refl
all_tabled p ps (q ∷ qs) new h =
    let other : is_called q.name p ≡ false = eq_turned p.name q.name ∙ or_first (is_called p.name q) (list_any (is_called p.name) qs) new in
    let first : tabled (halted_pools (p ∷ ps)) (known q) ≡ kept q = ap (λ i. record { known = known q; halted = i }) (info_more p ps q.name other) ∙ ap head_of h in
    ap (λ x. x ∷ map (λ (z : PoolState). tabled (halted_pools (p ∷ ps)) (known z)) qs) first ∙ ap (λ xs. kept q ∷ xs) (all_tabled p ps qs (or_second (is_called p.name q) (list_any (is_called p.name) qs) new) (ap tail_of h))
  where
    head_of : List TablePool → TablePool
    head_of [] = kept q
    head_of (x ∷ xs) = x

    tail_of : List TablePool → List TablePool
    tail_of [] = []
    tail_of (x ∷ xs) = xs

pub tabled_kept : (rows : List DevRow) (ps : List PoolState) → EachPair (Apart rows) ps → map (λ (q : PoolState). tabled (halted_pools ps) (known q)) ps ≡ all_kept ps
tabled_kept rows [] h = refl
tabled_kept rows (p ∷ ps) h =
    let new = new_behind rows p ps h.0 in
    ap (λ i. (record { known = known p; halted = i }) ∷ map (λ (q : PoolState). tabled (halted_pools (p ∷ ps)) (known q)) ps) (info_first p ps new)
    ∙ ap (λ xs. kept p ∷ xs) (all_tabled p ps ps new (tabled_kept rows ps h.1))

-- an order by name, before or after what is kept is told
ordered-map : (st : List PoolState) (ps : List PoolState) → map (tabled st) (ordered known_name (map known ps)) ≡ ordered name_of (map (λ (q : PoolState). tabled st (known q)) ps)
ordered-map st [] = refl
ordered-map st (p ∷ ps) = entered-map (tabled st) name_of (known p) (ordered known_name (map known ps)) ∙ ap (entered name_of (tabled st (known p))) (ordered-map st ps)

-- ---- a table that stands for a state, in one list

pub model_pools : (s : EngineState) → EachPair (Apart s.devices) s.pools → map (tabled (table_of s).stopped) (ordered known_name (table_of s).names) ≡ ordered name_of (all_kept s.pools)
model_pools s h = ordered-map (halted_pools s.pools) s.pools ∙ ap (ordered name_of) (tabled_kept s.devices s.pools h)

pub pools_of : (view : TableView) (s : EngineState) → IsValid s → StandsFor view s → view.pools ≡ ordered name_of (all_kept s.pools)
pools_of view s valid h = h.pools ∙ model_pools s valid.apart

pub stands_so : (view : TableView) (s : EngineState) → EachPair (Apart s.devices) s.pools → view.pools ≡ ordered name_of (all_kept s.pools) → view.devices ≡ s.devices → view.next ≡ s.next → StandsFor view s
stands_so view s h pools devices next = record { pools = pools ∙ sym (model_pools s h); devices = devices; next = next }

-- the pools of other names
pub others_kept : (name : Text) (ps : List PoolState) → without name (all_kept ps) ≡ all_kept (filter (λ (q : PoolState). not (is_called name q)) ps)
others_kept name ps = filter-map kept (λ (x : TablePool). not (is_named name x)) ps

pub others_of : (view : TableView) (s : EngineState) (name : Text) → IsValid s → StandsFor view s → without name view.pools ≡ ordered name_of (all_kept (filter (λ (q : PoolState). not (is_called name q)) s.pools))
others_of view s name valid h =
    ap (without name) (pools_of view s valid h) ∙ (filter_ordered name_of (λ (x : TablePool). not (is_named name x)) (all_kept s.pools) (apart_kept s.devices s.pools valid.apart) ∙ ap (ordered name_of) (others_kept name s.pools))

-- ---- the pool of a name, by its serial

pub serials_apart : (p q : PoolState) → p.serial < q.serial → (q.serial == p.serial) ≡ false
serials_apart p q less = here (q.serial == p.serial) refl
  where
    here : (b : Bool) → (q.serial == p.serial) ≡ b → b ≡ false
    here true e = absurd (let same : q.serial ≡ p.serial = (Decides-eqb q.serial p.serial).0 e in omega (arith, less, same))
    here false e = refl

serials_apart_back : (p q : PoolState) → p.serial < q.serial → (p.serial == q.serial) ≡ false
serials_apart_back p q less = here (p.serial == q.serial) refl
  where
    here : (b : Bool) → (p.serial == q.serial) ≡ b → b ≡ false
    here true e = absurd (let same : p.serial ≡ q.serial = (Decides-eqb p.serial q.serial).0 e in omega (arith, less, same))
    here false e = refl

-- of these pools just the one of the name has the serial
abbrev pub SoNamed : Text → ℕ → PoolState → Type 0
SoNamed name serial q = is_called name q ≡ (q.serial == serial)

none_named : (rows : List DevRow) (p : PoolState) (name : Text) (ps : List PoolState) → is_called name p ≡ true → AllByRecursion (Apart rows p) ps → AllByRecursion (SoNamed name p.serial) ps
none_named rows p name [] e h = tt
none_named rows p name (q ∷ ps) e h =
    let same : p.name ≡ name = eq_same p.name name e in
    let other : is_called p.name q ≡ false = unequal q.name p.name (λ k. h.0.names p.name (holds_own p p.name (eq_self p.name)) (holds_own q p.name k)) in
    (subst (λ n. is_called n q ≡ false) same other ∙ sym (serials_apart p q h.0.serials), none_named rows p name ps e h.1)

pub each_named : (rows : List DevRow) (name : Text) (p : PoolState) (ps : List PoolState) → EachPair (Apart rows) ps → pool_at name ps ≡ Some p → AllByRecursion (SoNamed name p.serial) ps
each_named rows name p [] h found = tt
each_named rows name p (q ∷ ps) h found = here (is_called name q) refl found (each_named rows name p ps h.1)
  where
    here : (b : Bool) → is_called name q ≡ b → cond b (Some q) (pool_at name ps) ≡ Some p → (pool_at name ps ≡ Some p → AllByRecursion (SoNamed name p.serial) ps) → SoNamed name p.serial q × AllByRecursion (SoNamed name p.serial) ps
    here true e k rest =
        let same : q ≡ p = cc in
        subst (λ (z : PoolState). SoNamed name z.serial q × AllByRecursion (SoNamed name z.serial) ps) same (e ∙ sym ((Decides-eqb q.serial q.serial).1 refl), none_named rows q name ps e h.0)
    here false e k rest =
        let after : Apart rows q p = (found_passes (is_called name) (Apart rows q) ps p h.0 k).1 in
        (e ∙ sym (serials_apart_back q p after.serials), rest k)

-- ---- two ways to say which pool

pub same_filter : (p q : PoolState → Bool) (ps : List PoolState) → AllByRecursion (λ (x : PoolState). p x ≡ q x) ps → filter p ps ≡ filter q ps
same_filter p q [] h = refl
same_filter p q (x ∷ ps) h = ap (λ b. cond b (x ∷ filter p ps) (filter p ps)) h.0 ∙ ap (λ ys. cond (q x) (x ∷ ys) ys) (same_filter p q ps h.1)

pub same_map : (f g : PoolState → PoolState) (ps : List PoolState) → AllByRecursion (λ (x : PoolState). f x ≡ g x) ps → map f ps ≡ map g ps
same_map f g [] h = refl
same_map f g (x ∷ ps) h = ap (λ y. y ∷ map f ps) h.0 ∙ ap (λ ys. g x ∷ ys) (same_map f g ps h.1)
