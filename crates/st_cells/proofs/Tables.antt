-- what a table stands for, through a change of one pool
use Rattle.std.proofs.Common.{◌≡◌, ℕ, ◌+◌, List, [], ◌∷◌, ◌++◌, append-nil, Bool, true, false, cond, not, bytes_eq, map, Option, Some, None, refl, sym, ap, ◌∙◌}
use Rattle.std.specs.Prelude.{filter, filter_map, ◌==◌}
use Rattle.std.specs.List.{AllByRecursion}
use Rattle.std.proofs.lemmas.List.{map-append}
use Rattle.std.proofs.lemmas.List.Elements.{filter-append}
use Rattle.st_units.specs.declared.rows.DevRow.{DevRow}
use Rattle.st_model.specs.declared.state.KnownPool.{KnownPool}
use Rattle.st_model.specs.declared.state.PoolState.{PoolState}
use Rattle.st_model.specs.Flight.{all_but}
use Rattle.st_model.specs.Look.{Text, holds, is_called, is_started}
use Rattle.st_model.specs.Parts.{known, pool_at, table_of}
use Rattle.st_model.specs.Shown.{halted_pools}
use Rattle.st_model.specs.Valid.{Apart}
use Rattle.st_model.specs.ValidPool.{EachPair}
use Rattle.st_cells.specs.Cells.{others}
use Rattle.st_cells.specs.Tables.{TableDrop, TablePut, TableWith, halted_here, known_put, stopped_put}
use Rattle.st_cells.proofs.Lookups.{eq_self, instead}

pub table_added : TableWith
table_added s q up =
    let names = map-append known s.pools (q ∷ []) in
    let stopped : halted_pools (s.pools ++ q ∷ []) ≡ halted_pools s.pools =
    filter-append (λ (p : PoolState). not (is_started p.mode)) s.pools (q ∷ []) ∙ ap (λ (b : Bool). halted_pools s.pools ++ cond (not b) (q ∷ []) []) up ∙ append-nil (halted_pools s.pools) in
    ap (λ (ks : List KnownPool). record { names = ks; stopped = halted_pools (s.pools ++ q ∷ []); devices = s.devices; next = s.next + 1 }) names
    ∙ ap (λ (ps : List PoolState). record { names = map known s.pools ++ known q ∷ []; stopped = ps; devices = s.devices; next = s.next + 1 }) stopped

-- ---- in the place of another

names_put : (name : Text) (q : PoolState) (ps : List PoolState) → map known (map (instead name q) ps) ≡ map (known_put name q) (map known ps)
names_put name q [] = refl
names_put name q (x ∷ xs) = ap (λ (t : List KnownPool). known (instead name q x) ∷ t) (names_put name q xs) ∙ ap (λ (k : KnownPool). k ∷ map (known_put name q) (map known xs)) (here (is_called name x))
  where
    here : (b : Bool) → known (cond b q x) ≡ cond b (known q) (known x)
    here true = refl
    here false = refl

-- a started pool is none of those that aren't
up_put : (name : Text) (q : PoolState) (ps : List PoolState) → is_started q.mode ≡ true → halted_pools (map (instead name q) ps) ≡ others name (halted_pools ps)
up_put name q [] up = refl
up_put name q (x ∷ xs) up = here (is_called name x) refl (is_started x.mode) refl (up_put name q xs up)
  where
    here : (b : Bool) → is_called name x ≡ b → (t : Bool) → is_started x.mode ≡ t → halted_pools (map (instead name q) xs) ≡ others name (halted_pools xs)
        → cond (not (is_started (cond b q x).mode)) (cond b q x ∷ halted_pools (map (instead name q) xs)) (halted_pools (map (instead name q) xs)) ≡ others name (cond (not t) (x ∷ halted_pools xs) (halted_pools xs))
    here true e true k rest = ap (λ (t : Bool). cond (not t) (q ∷ halted_pools (map (instead name q) xs)) (halted_pools (map (instead name q) xs))) up ∙ rest
    here true e false k rest =
        ap (λ (t : Bool). cond (not t) (q ∷ halted_pools (map (instead name q) xs)) (halted_pools (map (instead name q) xs))) up ∙ rest
        ∙ ap (λ (t : Bool). cond (not t) (x ∷ others name (halted_pools xs)) (others name (halted_pools xs))) (sym e)
    here false e true k rest = ap (λ (t : Bool). cond (not t) (x ∷ halted_pools (map (instead name q) xs)) (halted_pools (map (instead name q) xs))) k ∙ rest
    here false e false k rest =
        ap (λ (t : Bool). cond (not t) (x ∷ halted_pools (map (instead name q) xs)) (halted_pools (map (instead name q) xs))) k
        ∙ ap (λ (t : List PoolState). x ∷ t) rest
        ∙ ap (λ (t : Bool). cond (not t) (x ∷ others name (halted_pools xs)) (others name (halted_pools xs))) (sym e)

-- the pool, where it isn't started
abbrev leave : Option PoolState → Option PoolState
leave None = None
leave (Some p) = cond (not (is_started p.mode)) (Some p) None

holds_called : (n : Text) (x : PoolState) → is_called n x ≡ true → holds n x ≡ true
holds_called n x e = rw e refl

none_behind : (rows : List DevRow) (n : Text) (x : PoolState) (f : PoolState → Bool) (xs : List PoolState) → is_called n x ≡ true → AllByRecursion (Apart rows x) xs → pool_at n (filter f xs) ≡ None
none_behind rows n x f [] e h = refl
none_behind rows n x f (y ∷ ys) e h = here (is_called n y) refl (f y) (none_behind rows n x f ys e h.1)
  where
    here : (b : Bool) → is_called n y ≡ b → (t : Bool) → pool_at n (filter f ys) ≡ None → pool_at n (cond t (y ∷ filter f ys) (filter f ys)) ≡ None
    here true k t rest = absurd (h.0.names n (holds_called n x e) (holds_called n y k))
    here false k true rest = ap (λ (b : Bool). cond b (Some y) (pool_at n (filter f ys))) k ∙ rest
    here false k false rest = rest

-- of the pools that aren't started, the one at a known pool's place
own_halted : (rows : List DevRow) (x : PoolState) (xs : List PoolState) → AllByRecursion (Apart rows x) xs → pool_at x.name (halted_pools (x ∷ xs)) ≡ cond (not (is_started x.mode)) (Some x) None
own_halted rows x xs h = here (not (is_started x.mode))
  where
    here : (t : Bool) → pool_at x.name (cond t (x ∷ halted_pools xs) (halted_pools xs)) ≡ cond t (Some x) None
    here true = ap (λ (b : Bool). cond b (Some x) (pool_at x.name (halted_pools xs))) (eq_self x.name)
    here false = none_behind rows x.name x (λ (p : PoolState). not (is_started p.mode)) xs (eq_self x.name) h

-- pools in front don't matter to those behind, whose names differ
skip_first : (rows : List DevRow) (name : Text) (q x : PoolState) (stopped : List PoolState) (xs : List PoolState) → AllByRecursion (Apart rows x) xs
    → filter_map (halted_here name q (cond (not (is_started x.mode)) (x ∷ stopped) stopped)) (map known xs) ≡ filter_map (halted_here name q stopped) (map known xs)
skip_first rows name q x stopped [] h = refl
skip_first rows name q x stopped (y ∷ ys) h = ap (λ (o : Option PoolState). put o (filter_map (halted_here name q (cond (not (is_started x.mode)) (x ∷ stopped) stopped)) (map known ys))) same ∙ ap (put (halted_here name q stopped (known y))) (skip_first rows name q x stopped ys h.1)
  where
    put : Option PoolState → List PoolState → List PoolState
    put None t = t
    put (Some p) t = p ∷ t

    other : is_called y.name x ≡ false
    other = decide (is_called y.name x) refl
      where
        decide : (b : Bool) → is_called y.name x ≡ b → b ≡ false
        decide true k = absurd (h.0.names y.name (holds_called y.name x k) (holds_called y.name y (eq_self y.name)))
        decide false k = refl

    past : (t : Bool) → pool_at y.name (cond t (x ∷ stopped) stopped) ≡ pool_at y.name stopped
    past true = ap (λ (b : Bool). cond b (Some x) (pool_at y.name stopped)) other
    past false = refl

    same : halted_here name q (cond (not (is_started x.mode)) (x ∷ stopped) stopped) (known y) ≡ halted_here name q stopped (known y)
    same = ap (λ (o : Option PoolState). cond (bytes_eq y.name name) (Some q) o) (past (not (is_started x.mode)))

down_put : (rows : List DevRow) (name : Text) (q : PoolState) (ps : List PoolState) → EachPair (Apart rows) ps → is_started q.mode ≡ false
    → halted_pools (map (instead name q) ps) ≡ filter_map (halted_here name q (halted_pools ps)) (map known ps)
down_put rows name q [] h down = refl
down_put rows name q (x ∷ xs) h down =
    first (is_called name x) (is_started x.mode) refl
    ∙ ap (put (cond (is_called name x) (Some q) (cond (not (is_started x.mode)) (Some x) None))) (down_put rows name q xs h.1 down)
    ∙ ap (put (cond (is_called name x) (Some q) (cond (not (is_started x.mode)) (Some x) None))) (sym (skip_first rows name q x (halted_pools xs) xs h.0))
    ∙ ap (λ (o : Option PoolState). put (cond (is_called name x) (Some q) o) (filter_map (halted_here name q (halted_pools (x ∷ xs))) (map known xs))) (sym (own_halted rows x xs h.0))
  where
    put : Option PoolState → List PoolState → List PoolState
    put None t = t
    put (Some p) t = p ∷ t

    first : (b t : Bool) → is_started x.mode ≡ t → cond (not (is_started (cond b q x).mode)) (cond b q x ∷ halted_pools (map (instead name q) xs)) (halted_pools (map (instead name q) xs))
        ≡ put (cond b (Some q) (cond (not t) (Some x) None)) (halted_pools (map (instead name q) xs))
    first true t e = ap (λ (u : Bool). cond (not u) (q ∷ halted_pools (map (instead name q) xs)) (halted_pools (map (instead name q) xs))) down
    first false true e = ap (λ (u : Bool). cond (not u) (x ∷ halted_pools (map (instead name q) xs)) (halted_pools (map (instead name q) xs))) e
    first false false e = ap (λ (u : Bool). cond (not u) (x ∷ halted_pools (map (instead name q) xs)) (halted_pools (map (instead name q) xs))) e

pub table_replaced : TablePut
table_replaced s name q valid =
    ap (λ (ks : List KnownPool). record { names = ks; stopped = halted_pools (map (instead name q) s.pools); devices = s.devices; next = s.next }) (names_put name q s.pools)
    ∙ ap (λ (ps : List PoolState). record { names = map (known_put name q) (map known s.pools); stopped = ps; devices = s.devices; next = s.next }) (by_mode (is_started q.mode) refl)
  where
    by_mode : (b : Bool) → is_started q.mode ≡ b → halted_pools (map (instead name q) s.pools) ≡ stopped_put b name q (table_of s)
    by_mode true e = up_put name q s.pools e
    by_mode false e = down_put s.devices name q s.pools valid.apart e

-- ---- known no more

names_left : (serial : ℕ) (ps : List PoolState) → map known (all_but serial ps) ≡ filter (λ (k : KnownPool). not (k.serial == serial)) (map known ps)
names_left serial [] = refl
names_left serial (x ∷ xs) = here (not (x.serial == serial)) (names_left serial xs)
  where
    here : (b : Bool) → map known (all_but serial xs) ≡ filter (λ (k : KnownPool). not (k.serial == serial)) (map known xs)
        → map known (cond b (x ∷ all_but serial xs) (all_but serial xs)) ≡ cond b (known x ∷ filter (λ (k : KnownPool). not (k.serial == serial)) (map known xs)) (filter (λ (k : KnownPool). not (k.serial == serial)) (map known xs))
    here true rest = ap (λ (t : List KnownPool). known x ∷ t) rest
    here false rest = rest

filters_turned : (f g : PoolState → Bool) (ps : List PoolState) → filter f (filter g ps) ≡ filter g (filter f ps)
filters_turned f g [] = refl
filters_turned f g (x ∷ xs) = here (f x) refl (g x) refl (filters_turned f g xs)
  where
    here : (a : Bool) → f x ≡ a → (b : Bool) → g x ≡ b → filter f (filter g xs) ≡ filter g (filter f xs) → filter f (cond b (x ∷ filter g xs) (filter g xs)) ≡ filter g (cond a (x ∷ filter f xs) (filter f xs))
    here true e true k rest = ap (λ (t : Bool). cond t (x ∷ filter f (filter g xs)) (filter f (filter g xs))) e ∙ ap (λ (t : List PoolState). x ∷ t) rest ∙ ap (λ (t : Bool). cond t (x ∷ filter g (filter f xs)) (filter g (filter f xs))) (sym k)
    here true e false k rest = rest ∙ ap (λ (t : Bool). cond t (x ∷ filter g (filter f xs)) (filter g (filter f xs))) (sym k)
    here false e true k rest = ap (λ (t : Bool). cond t (x ∷ filter f (filter g xs)) (filter f (filter g xs))) e ∙ rest
    here false e false k rest = rest

pub table_dropped : TableDrop
table_dropped s serial =
    ap (λ (ks : List KnownPool). record { names = ks; stopped = halted_pools (all_but serial s.pools); devices = s.devices; next = s.next }) (names_left serial s.pools)
    ∙ ap (λ (ps : List PoolState). record { names = filter (λ (k : KnownPool). not (k.serial == serial)) (map known s.pools); stopped = ps; devices = s.devices; next = s.next })
    (filters_turned (λ (p : PoolState). not (is_started p.mode)) (λ (p : PoolState). not (p.serial == serial)) s.pools)
