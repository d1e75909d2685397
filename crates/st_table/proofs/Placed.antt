-- a pool that was found is put in, one that the table keeps as before, and a look-up by serial
use Rattle.std.proofs.Common.{◌≡◌, ℕ, ◌<◌, ◌+◌, List, [], ◌∷◌, ◌++◌, Bool, true, false, cond, map, Option, Some, None, refl, sym, ap, subst, ◌∙◌}
use Rattle.std.specs.Prelude.{find, option_map, nat_lt, ◌==◌}
use Rattle.std.specs.List.{AllByRecursion, list_any}
use Rattle.std.proofs.lemmas.Bool.Decides.{Decides-ltb}
use Rattle.st_units.specs.declared.rows.DevRow.{DevRow}
use Rattle.st_model.specs.declared.state.PoolMode.{PoolMode}
use Rattle.st_model.specs.declared.state.PoolMode.TheVariants.{Up, Down, Stopped, Unsettled, Incomplete}
use Rattle.st_model.specs.declared.state.PoolState.{PoolState}
use Rattle.st_model.specs.Look.{Text, is_called}
use Rattle.st_model.specs.Valid.{Apart}
use Rattle.st_model.specs.ValidPool.{EachPair}
use Rattle.st_order.specs.Sorted.{entered, ordered, is_below}
use Rattle.st_order.proofs.Order.{eq_self}
use Rattle.st_order.proofs.Ordered.{Alone, any_ordered, find_ordered, ordered_last}
use Rattle.st_order.proofs.Lists.{find-map, or_first, or_second}
use Rattle.st_table.specs.declared.halted.HaltedInfo.{HaltedInfo}
use Rattle.st_table.specs.Stands.{info_in}
use Rattle.st_table.specs.Steps.{kept, with_other, SerialsTold, SameAlike, PlacedAlike}
use Rattle.st_table.specs.Table.{TablePool, name_of, is_named, without, with_pool, new_pool, halted_as}
use Rattle.st_table.proofs.Following.{all_kept, called_kept, serials_apart, model_pools, pools_of, stands_so}
use Rattle.st_table.proofs.Followed.{each_is, kept_last, new_last, some_is}
use Rattle.st_table.proofs.Marks.{same_number}

-- ---- a pool by its serial

abbrev has_number : ℕ → TablePool → Bool
has_number serial x = x.known.serial == serial

serial_once : (rows : List DevRow) (serial : ℕ) (p : PoolState) (ps : List PoolState) → (p.serial == serial) ≡ true → AllByRecursion (Apart rows p) ps → list_any (has_number serial) (all_kept ps) ≡ false
serial_once rows serial p [] e h = refl
serial_once rows serial p (q ∷ ps) e h =
    let other : (q.serial == serial) ≡ false = subst (λ n. (q.serial == n) ≡ false) (same_number p.serial serial e) (serials_apart p q h.0.serials) in
    rw other (serial_once rows serial p ps e h.1)

alone_numbered : (rows : List DevRow) (serial : ℕ) (ps : List PoolState) → EachPair (Apart rows) ps → Alone name_of (has_number serial) (all_kept ps)
alone_numbered rows serial [] h = tt
alone_numbered rows serial (p ∷ ps) h = (λ e. serial_once rows serial p ps e h.0, alone_numbered rows serial ps h.1)

name_of_kept : (o : Option PoolState) → option_map name_of (option_map kept o) ≡ option_map (λ (p : PoolState). p.name) o
name_of_kept None = refl
name_of_kept (Some p) = refl

pub serials_told : SerialsTold
serials_told view s serial valid h =
    ap (option_map name_of) (ap (find (has_number serial)) (pools_of view s valid h) ∙ (find_ordered name_of (has_number serial) (all_kept s.pools) (alone_numbered s.devices serial s.pools valid.apart) ∙ find-map kept (has_number serial) s.pools))
    ∙ name_of_kept (find (λ (p : PoolState). p.serial == serial) s.pools)

-- ---- a pool of which the table keeps the same

same_kept : (name : Text) (p q : PoolState) (ps : List PoolState) → AllByRecursion (λ (x : PoolState). is_called name x ≡ true → x ≡ p) ps → kept q ≡ kept p → all_kept ps ≡ all_kept (map (λ (x : PoolState). cond (is_called name x) q x) ps)
same_kept name p q [] h e = refl
same_kept name p q (x ∷ ps) h e = λ i. here (is_called name x) refl i ∷ same_kept name p q ps h.1 e i
  where
    here : (b : Bool) → is_called name x ≡ b → kept x ≡ kept (cond b q x)
    here true t = ap kept (h.0 t) ∙ sym e
    here false t = refl

pub same_alike : SameAlike
same_alike view s name p q valid after found same h =
    stands_so view (with_other name q s) after.apart
    (pools_of view s valid h ∙ ap (ordered name_of) (same_kept name p q s.pools (each_is s.devices name p s.pools valid.apart found) same))
    h.devices h.next

-- ---- a pool that was found

all_front : (P : PoolState → Type 0) (ps : List PoolState) (q : PoolState) → AllByRecursion P (ps ++ q ∷ []) → AllByRecursion P ps
all_front P [] q h = tt
all_front P (p ∷ ps) q h = (h.0, all_front P ps q h.1)

pairs_front : (rows : List DevRow) (ps : List PoolState) (q : PoolState) → EachPair (Apart rows) (ps ++ q ∷ []) → EachPair (Apart rows) ps
pairs_front rows [] q h = tt
pairs_front rows (p ∷ ps) q h = (all_front (Apart rows p) ps q h.0, pairs_front rows ps q h.1)

without_none : (name : Text) (zs : List TablePool) → list_any (is_named name) zs ≡ false → without name zs ≡ zs
without_none name [] h = refl
without_none name (z ∷ zs) h =
    let other : is_named name z ≡ false = or_first (is_named name z) (list_any (is_named name) zs) h in
    rw other (ap (λ ys. z ∷ ys) (without_none name zs (or_second (is_named name z) (list_any (is_named name) zs) h)))

-- one that was just put in is taken out
without_entered : (x : TablePool) (zs : List TablePool) → list_any (is_named x.known.name) zs ≡ false → without x.known.name (with_pool x zs) ≡ zs
without_entered x [] h = let own : is_named x.known.name x ≡ true = eq_self x.known.name in rw own refl
without_entered x (z ∷ zs) h = here (is_below (name_of z) (name_of x)) (without_entered x zs (or_second (is_named x.known.name z) (list_any (is_named x.known.name) zs) h))
  where
    here : (b : Bool) → without x.known.name (with_pool x zs) ≡ zs → without x.known.name (cond b (z ∷ with_pool x zs) (x ∷ z ∷ zs)) ≡ z ∷ zs
    here true rest =
        let other : is_named x.known.name z ≡ false = or_first (is_named x.known.name z) (list_any (is_named x.known.name) zs) h in
        rw other (ap (λ ys. z ∷ ys) rest)
    here false rest =
        let own : is_named x.known.name x ≡ true = eq_self x.known.name in
        rw own (without_none x.known.name (z ∷ zs) h)

-- what is kept of it is a new pool that halts so
found_kept : (q : PoolState) (devs : List Text) (info : HaltedInfo) (m : PoolMode) → q.mode ≡ m → info_in q m ≡ Some info → halted_as info (new_pool q.name q.serial devs) ≡ kept q
found_kept q devs info Up e h = absurd cc
found_kept q devs info (Down call) e h = absurd cc
found_kept q devs info Stopped e h = subst (λ i. halted_as i (new_pool q.name q.serial devs) ≡ kept q) (some_is _ info h) (rw e refl)
found_kept q devs info (Unsettled call) e h = subst (λ i. halted_as i (new_pool q.name q.serial devs) ≡ kept q) (some_is _ info h) (rw e refl)
found_kept q devs info (Incomplete path) e h = subst (λ i. halted_as i (new_pool q.name q.serial devs) ≡ kept q) (some_is _ info h) (rw e refl)

given_before : (n next : ℕ) → n < next → cond (nat_lt n next) next (n + 1) ≡ next
given_before n next less = ap (λ b. cond b next (n + 1)) ((Decides-ltb n next).1 less)

pub placed_alike : PlacedAlike
placed_alike view s q info devs apart less told h =
    let x = new_pool q.name q.serial devs in
    let none : list_any (is_named q.name) (all_kept s.pools) ≡ false = called_kept q.name s.pools ∙ new_last s.devices s.pools q apart in
    let before : view.pools ≡ ordered name_of (all_kept s.pools) = h.pools ∙ model_pools s (pairs_front s.devices s.pools q apart) in
    let absent : list_any (is_named q.name) view.pools ≡ false = ap (list_any (is_named q.name)) before ∙ (any_ordered name_of (is_named q.name) (all_kept s.pools) ∙ none) in
    stands_so _ (record s { pools = s.pools ++ q ∷ [] }) apart
    ((λ i. entered name_of (found_kept q devs info q.mode refl told i) (without_entered x view.pools absent i))
    ∙ (ap (entered name_of (kept q)) before ∙ (sym (ordered_last name_of (kept q) (all_kept s.pools) none) ∙ ap (ordered name_of) (sym (kept_last s.pools q)))))
    h.devices
    (ap (λ m. cond (nat_lt q.serial m) m (q.serial + 1)) h.next ∙ given_before q.serial s.next less)
