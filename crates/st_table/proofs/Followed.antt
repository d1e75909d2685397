-- the laws of the table's changes, and of what it tells of each pool
use Rattle.std.proofs.Common.{◌≡◌, ℕ, ◌<◌, ◌+◌, arith, suc, List, [], ◌∷◌, ◌++◌, append-nil, length, Bool, true, false, cond, not, ◌||◌, ◌&&◌, bytes_eq, map, insert, take, Option, Some, None, is_some, refl, sym, ap, subst, ◌∙◌}
use Rattle.std.specs.Prelude.{find, filter, filter_map, option_map, nat_lt, ◌==◌}
use Rattle.std.specs.List.{AllByRecursion, list_any, prefix_len}
use Rattle.std.proofs.lemmas.Bool.Decides.{Decides-ltb}
use Rattle.st_units.specs.declared.rows.DevRow.{DevRow}
use Rattle.st_units.specs.declared.rows.Tier.{Tier}
use Rattle.st_model.specs.declared.call.Call.{Call}
use Rattle.st_model.specs.declared.info.ShownMode.{ShownMode}
use Rattle.st_model.specs.declared.info.ShownMode.TheVariants as shows
use Rattle.st_model.specs.declared.info.StoppedRow.{StoppedRow}
use Rattle.st_model.specs.declared.info.TableInfo.{TableInfo}
use Rattle.st_model.specs.declared.state.EngineState.{EngineState}
use Rattle.st_model.specs.declared.state.KnownPool.{KnownPool}
use Rattle.st_model.specs.declared.state.PoolMode.{PoolMode}
use Rattle.st_model.specs.declared.state.PoolMode.TheVariants.{Up, Down, Stopped, Unsettled, Incomplete}
use Rattle.st_model.specs.declared.state.PoolState.{PoolState}
use Rattle.st_model.specs.Checks.{halted, rows_on}
use Rattle.st_model.specs.Flight.{all_but}
use Rattle.st_model.specs.Lifted as lifted
use Rattle.st_model.specs.Look.{Text, has_path, row_of, is_called, is_started, is_up, uses, flight_of, takes_path, devices_taken}
use Rattle.st_model.specs.Parts.{known, is_used, pool_at, paths_taken, table_of}
use Rattle.st_model.specs.Shown as shown
use Rattle.st_model.specs.Shown.{halted_pools, stopped_with, place_among_stopped, comes_before}
use Rattle.st_model.specs.Valid.{IsValid, Apart}
use Rattle.st_model.specs.ValidPool.{EachPair}
use Rattle.st_model.specs.steps.CreatePool as creating
use Rattle.st_order.specs.Sorted.{entered, ordered}
use Rattle.st_order.proofs.Order.{eq_same, eq_turned}
use Rattle.st_order.proofs.Ordered.{EachApart, Alone, filter_ordered, ordered_last, ordered_instead, find_ordered}
use Rattle.st_order.proofs.Lists.{find-map, any-map, any_less, any_found, entered-map, or_first, or_second}
use Rattle.st_table.specs.declared.halted.HaltedInfo.{HaltedInfo}
use Rattle.st_table.specs.Stands.{info_in}
use Rattle.st_table.specs.Steps.{StandsFor, kept, with_other, PoolsTold, UsersTold, InfosTold, AddedAlike, DroppedAlike, PutAlike, KeptAlike, StepsPut}
use Rattle.st_table.specs.Table.{TablePool, TableView, name_of, is_named, stopped_row, shown_mode, halted_as}
use Rattle.st_table.proofs.Standing.{all_alike}
use Rattle.st_table.proofs.Following.{is_new, all_kept, called_kept, new_behind, apart_kept, pools_of, others_of, others_kept, stands_so, each_named, SoNamed, same_filter, same_map}

-- ---- each pool

alone_named : (rows : List DevRow) (name : Text) (ps : List PoolState) → EachPair (Apart rows) ps → Alone name_of (is_named name) (all_kept ps)
alone_named rows name [] h = tt
alone_named rows name (p ∷ ps) h = (
  λ e. called_kept name ps ∙ subst (λ n. is_new n ps) (eq_same p.name name e) (new_behind rows p ps h.0),
  alone_named rows name ps h.1,
)

pub pools_told : PoolsTold
pools_told view s name valid h =
    ap (find (is_named name)) (pools_of view s valid h) ∙ (find_ordered name_of (is_named name) (all_kept s.pools) (alone_named s.devices name s.pools valid.apart) ∙ find-map kept (is_named name) s.pools)

rows_used : (path : Text) (rows : List DevRow) (flight : Option Call) → has_path path (map (λ (row : DevRow). row.path) rows ++ paths_taken flight) ≡ (is_some (row_of path rows) || takes_path path flight)
rows_used path [] None = refl
rows_used path [] (Some call) = refl
rows_used path (r ∷ rs) flight = here (bytes_eq r.path path) (row_of path rs) (rows_used path rs flight)
  where
    here : (b : Bool) (o : Option DevRow) → has_path path (map (λ (row : DevRow). row.path) rs ++ paths_taken flight) ≡ (is_some o || takes_path path flight)
        → (b || has_path path (map (λ (row : DevRow). row.path) rs ++ paths_taken flight)) ≡ (is_some (cond b (Some r) o) || takes_path path flight)
    here true o h = refl
    here false o h = h

uses_known : (path : Text) (p : PoolState) → is_used path (known p) ≡ uses path p
uses_known path p = rows_used path p.devices (flight_of p.mode)

abbrev used_by : Text → TablePool → Bool
used_by path pool = is_used path pool.known

used_once : (rows : List DevRow) (path : Text) (p : PoolState) (ps : List PoolState) → is_some (row_of path rows) ≡ true → is_used path (known p) ≡ true → AllByRecursion (Apart rows p) ps → list_any (used_by path) (all_kept ps) ≡ false
used_once rows path p [] there e h = refl
used_once rows path p (q ∷ ps) there e h = here (is_used path (known q)) refl (used_once rows path p ps there e h.1)
  where
    here : (b : Bool) → is_used path (known q) ≡ b → list_any (used_by path) (all_kept ps) ≡ false → (b || list_any (used_by path) (all_kept ps)) ≡ false
    here true k rest = absurd (h.0.devices path there (sym (uses_known path p) ∙ e) (sym (uses_known path q) ∙ k))
    here false k rest = rest

alone_used : (rows : List DevRow) (path : Text) (ps : List PoolState) → is_some (row_of path rows) ≡ true → EachPair (Apart rows) ps → Alone name_of (used_by path) (all_kept ps)
alone_used rows path [] there h = tt
alone_used rows path (p ∷ ps) there h = (λ e. used_once rows path p ps there e h.0, alone_used rows path ps there h.1)

name_twice : (o : Option PoolState) → option_map (λ (k : KnownPool). k.name) (option_map (λ (x : TablePool). x.known) (option_map kept o)) ≡ option_map (λ (k : KnownPool). k.name) (option_map known o)
name_twice None = refl
name_twice (Some p) = refl

pub users_told : UsersTold
users_told view s path valid h there =
    let found : find (used_by path) view.pools ≡ option_map kept (find (λ (p : PoolState). is_used path (known p)) s.pools) =
    ap (find (used_by path)) (pools_of view s valid h) ∙ (find_ordered name_of (used_by path) (all_kept s.pools) (alone_used s.devices path s.pools there valid.apart) ∙ find-map kept (used_by path) s.pools) in
    ap (option_map (λ (k : KnownPool). k.name)) (find-map (λ (x : TablePool). x.known) (is_used path) view.pools ∙ ap (option_map (λ (x : TablePool). x.known)) found)
    ∙ (name_twice (find (λ (p : PoolState). is_used path (known p)) s.pools) ∙ ap (option_map (λ (k : KnownPool). k.name)) (sym (find-map known (is_used path) s.pools)))

-- ---- what is shown

abbrev row_name : StoppedRow → Text
row_name row = row.name

abbrev mode_in : Option HaltedInfo → ShownMode
mode_in None = shows.Stopped
mode_in (Some info) = shown_mode info.mode

abbrev row_in : TablePool → StoppedRow
row_in x = record { name = x.known.name; serial = x.known.serial; mode = mode_in x.halted }

abbrev is_halted : TablePool → Bool
is_halted x = is_some x.halted

rows_shown : (xs : List TablePool) → filter_map stopped_row xs ≡ map row_in (filter is_halted xs)
rows_shown [] = refl
rows_shown (x ∷ xs) = here x.halted refl (rows_shown xs)
  where
    here : (o : Option HaltedInfo) → x.halted ≡ o → filter_map stopped_row xs ≡ map row_in (filter is_halted xs) → filter_map stopped_row (x ∷ xs) ≡ map row_in (cond (is_some o) (x ∷ filter is_halted xs) (filter is_halted xs))
    here None e rest = rw e rest
    here (Some info) e rest = rw e (ap (λ rs. (record { name = x.known.name; serial = x.known.serial; mode = shown_mode info.mode }) ∷ rs) rest)

rows-ordered : (xs : List TablePool) → map row_in (ordered name_of xs) ≡ ordered row_name (map row_in xs)
rows-ordered [] = refl
rows-ordered (x ∷ xs) = entered-map row_in row_name x (ordered name_of xs) ∙ ap (entered row_name (row_in x)) (rows-ordered xs)

row_kept : (p : PoolState) (m : PoolMode) → p.mode ≡ m → (rest : List StoppedRow) (a : List TablePool) (b : List PoolState) → map row_in a ≡ map shown.stopped_row b
    → map row_in (cond (is_some (info_in p m)) (kept p ∷ a) a) ≡ map shown.stopped_row (cond (not (is_started m)) (p ∷ b) b)
unfolding shown.stopped_row
row_kept p Up e rest a b h = h
row_kept p (Down call) e rest a b h = h
row_kept p Stopped e rest a b h = rw e (ap (λ rs. (record { name = p.name; serial = p.serial; mode = shows.Stopped }) ∷ rs) h)
row_kept p (Unsettled call) e rest a b h = rw e (ap (λ rs. (record { name = p.name; serial = p.serial; mode = shows.Unsettled }) ∷ rs) h)
row_kept p (Incomplete path) e rest a b h = rw e (ap (λ rs. (record { name = p.name; serial = p.serial; mode = shows.Incomplete }) ∷ rs) h)

rows_kept : (ps : List PoolState) → map row_in (filter is_halted (all_kept ps)) ≡ map shown.stopped_row (halted_pools ps)
rows_kept [] = refl
rows_kept (p ∷ ps) = row_kept p p.mode refl [] (filter is_halted (all_kept ps)) (halted_pools ps) (rows_kept ps)

next : (n : ℕ) → 1 + n ≡ suc n
next n = omega arith

inserted : (row : StoppedRow) (rows : List StoppedRow) → insert rows (place_among_stopped rows row.name) row ≡ entered row_name row rows
inserted row [] = refl
inserted row (r ∷ rows) =
    let cases : (b : Bool) → insert (r ∷ rows) (length (take (cond b (1 + prefix_len (λ (x : StoppedRow). comes_before x.name row.name) rows) 0) (r ∷ rows))) row ≡ cond b (r ∷ entered row_name row rows) (row ∷ r ∷ rows) = elim [ true ↦ ap (λ k. insert (r ∷ rows) (length (take k (r ∷ rows))) row) (next (prefix_len (λ (x : StoppedRow). comes_before x.name row.name) rows)) ∙ ap (λ rs. r ∷ rs) (inserted row rows) | false ↦ refl ] in
    cases (comes_before r.name row.name)

apart_before : (rs zs : List StoppedRow) (y : StoppedRow) → EachApart row_name (rs ++ y ∷ zs) → list_any (λ (x : StoppedRow). bytes_eq (row_name x) (row_name y)) rs ≡ false
apart_before [] zs y h = refl
apart_before (r ∷ rs) zs y h =
    let other : bytes_eq (row_name r) (row_name y) ≡ false = turned r y (in_middle rs (λ (x : StoppedRow). bytes_eq (row_name x) (row_name r)) h.0) in
    rw other (apart_before rs zs y h.1)
  where
    turned : (a b : StoppedRow) → bytes_eq (row_name b) (row_name a) ≡ false → bytes_eq (row_name a) (row_name b) ≡ false
    turned a b e = eq_turned (row_name a) (row_name b) ∙ e

    in_middle : (xs : List StoppedRow) (q : StoppedRow → Bool) → list_any q (xs ++ y ∷ zs) ≡ false → q y ≡ false
    in_middle [] q e = or_first (q y) (list_any q zs) e
    in_middle (x ∷ xs) q e = in_middle xs q (or_second (q x) (list_any q (xs ++ y ∷ zs)) e)

append_one : (rs zs : List StoppedRow) (y : StoppedRow) → (rs ++ y ∷ []) ++ zs ≡ rs ++ y ∷ zs
append_one [] zs y = refl
append_one (r ∷ rs) zs y = ap (λ xs. r ∷ xs) (append_one rs zs y)

name_shown : (q : PoolState) → (shown.stopped_row q).name ≡ q.name
unfolding shown.stopped_row
name_shown q = refl

all_inserted : (rs : List StoppedRow) (ps : List PoolState) → EachApart row_name (rs ++ map shown.stopped_row ps) → stopped_with (ordered row_name rs) ps ≡ ordered row_name (rs ++ map shown.stopped_row ps)
all_inserted rs [] h = ap (ordered row_name) (sym (append-nil rs))
all_inserted rs (p ∷ ps) h =
    let row = shown.stopped_row p in
    let one : insert (ordered row_name rs) (place_among_stopped (ordered row_name rs) p.name) row ≡ ordered row_name (rs ++ row ∷ []) =
    ap (λ n. insert (ordered row_name rs) (place_among_stopped (ordered row_name rs) n) row) (sym (name_shown p)) ∙ (inserted row (ordered row_name rs) ∙ sym (ordered_last row_name row rs (apart_before rs (map shown.stopped_row ps) row h))) in
    ap (λ xs. stopped_with xs ps) one
    ∙ (all_inserted (rs ++ row ∷ []) ps (subst (EachApart row_name) (sym (append_one rs (map shown.stopped_row ps) row)) h)
    ∙ ap (ordered row_name) (append_one rs (map shown.stopped_row ps) row))

rows_apart : (xs : List TablePool) → EachApart name_of xs → EachApart row_name (map row_in xs)
rows_apart [] h = tt
rows_apart (x ∷ xs) h = (any-map row_in (λ (r : StoppedRow). bytes_eq (row_name r) x.known.name) xs ∙ h.0, rows_apart xs h.1)

apart_filtered : (p : TablePool → Bool) (xs : List TablePool) → EachApart name_of xs → EachApart name_of (filter p xs)
apart_filtered p [] h = tt
apart_filtered p (x ∷ xs) h =
    let cases : (b : Bool) → EachApart name_of (cond b (x ∷ filter p xs) (filter p xs)) =
    elim [ true ↦ (any_less (λ (y : TablePool). bytes_eq (name_of y) (name_of x)) p xs h.0, apart_filtered p xs h.1) | false ↦ apart_filtered p xs h.1 ] in
    cases (p x)

pub stopped_told : (view : TableView) (s : EngineState) → IsValid s → StandsFor view s → filter_map stopped_row view.pools ≡ stopped_with [] (halted_pools s.pools)
stopped_told view s valid h =
    let apart = apart_kept s.devices s.pools valid.apart in
    let rows = rows_kept s.pools in
    let rows_differ = subst (EachApart row_name) rows (rows_apart (filter is_halted (all_kept s.pools)) (apart_filtered is_halted (all_kept s.pools) apart)) in
    ap (filter_map stopped_row) (pools_of view s valid h)
    ∙ (rows_shown (ordered name_of (all_kept s.pools))
    ∙ (ap (map row_in) (filter_ordered name_of is_halted (all_kept s.pools) apart)
    ∙ (rows-ordered (filter is_halted (all_kept s.pools))
    ∙ (ap (ordered row_name) rows ∙ sym (all_inserted [] (halted_pools s.pools) rows_differ)))))

abbrev info_with : ℕ → List Text → List StoppedRow → TableInfo
info_with next free stopped = record { next = next; free = free; stopped = stopped }

same_info : {n m : ℕ} {f g : List Text} {a b : List StoppedRow} → n ≡ m → f ≡ g → a ≡ b → info_with n f a ≡ info_with m g b
same_info {n} {m} {f} {g} {a} {b} next free stopped = ap (λ k. info_with k f a) next ∙ (ap (λ k. info_with m k a) free ∙ ap (info_with m g) stopped)

pub infos_told : InfosTold
infos_told view s valid h =
    let free = (all_alike view (table_of s) h).free in
    let stopped = stopped_told view s valid h in
    same_info h.next free stopped

-- ---- changes

pub new_last : (rows : List DevRow) (ps : List PoolState) (q : PoolState) → EachPair (Apart rows) (ps ++ q ∷ []) → is_new q.name ps
new_last rows [] q h = refl
new_last rows (p ∷ ps) q h =
    let other : is_called q.name p ≡ false = eq_turned p.name q.name ∙ behind (new_behind rows p (ps ++ q ∷ []) h.0) in
    rw other (new_last rows ps q h.1)
  where
    last_of : (xs : List PoolState) → list_any (is_called p.name) (xs ++ q ∷ []) ≡ false → is_called p.name q ≡ false
    last_of [] e = or_first (is_called p.name q) false e
    last_of (x ∷ xs) e = last_of xs (or_second (is_called p.name x) (list_any (is_called p.name) (xs ++ q ∷ [])) e)

    behind : list_any (is_called p.name) (ps ++ q ∷ []) ≡ false → is_called p.name q ≡ false
    behind e = last_of ps e

pub kept_last : (ps : List PoolState) (q : PoolState) → all_kept (ps ++ q ∷ []) ≡ all_kept ps ++ kept q ∷ []
kept_last [] q = refl
kept_last (p ∷ ps) q = ap (λ xs. kept p ∷ xs) (kept_last ps q)

above : (n : ℕ) → cond (nat_lt n n) n (n + 1) ≡ n + 1
above n = here (nat_lt n n) refl
  where
    here : (b : Bool) → nat_lt n n ≡ b → cond b n (n + 1) ≡ n + 1
    here true e = absurd (let less : n < n = (Decides-ltb n n).0 e in omega (arith, less))
    here false e = refl

pub added_alike : AddedAlike
added_alike view s q valid after serial h =
    stands_so _ (creating.with_pool s q) after.apart
    (ap (entered name_of (kept q)) (pools_of view s valid h) ∙ (sym (ordered_last name_of (kept q) (all_kept s.pools) (called_kept q.name s.pools ∙ new_last s.devices s.pools q after.apart)) ∙ ap (ordered name_of) (sym (kept_last s.pools q))))
    h.devices
    (ap (λ m. cond (nat_lt m view.next) view.next (m + 1)) serial ∙ (ap (λ m. cond (nat_lt s.next m) m (s.next + 1)) h.next ∙ above s.next))

all_left : (P : PoolState → Type 0) (p : PoolState → Bool) (ps : List PoolState) → AllByRecursion P ps → AllByRecursion P (filter p ps)
all_left P p [] h = tt
all_left P p (x ∷ ps) h =
    let cases : (b : Bool) → AllByRecursion P (cond b (x ∷ filter p ps) (filter p ps)) = elim [ true ↦ (h.0, all_left P p ps h.1) | false ↦ all_left P p ps h.1 ] in
    cases (p x)

pairs_left : (rows : List DevRow) (p : PoolState → Bool) (ps : List PoolState) → EachPair (Apart rows) ps → EachPair (Apart rows) (filter p ps)
pairs_left rows p [] h = tt
pairs_left rows p (x ∷ ps) h =
    let cases : (b : Bool) → EachPair (Apart rows) (cond b (x ∷ filter p ps) (filter p ps)) = elim [ true ↦ (all_left (Apart rows x) p ps h.0, pairs_left rows p ps h.1) | false ↦ pairs_left rows p ps h.1 ] in
    cases (p x)

nots : (name : Text) (serial : ℕ) (ps : List PoolState) → AllByRecursion (SoNamed name serial) ps → AllByRecursion (λ (x : PoolState). not (is_called name x) ≡ not (x.serial == serial)) ps
nots name serial [] h = tt
nots name serial (x ∷ ps) h = (ap not h.0, nots name serial ps h.1)

pub dropped_alike : DroppedAlike
dropped_alike view s name p valid found h =
    let so = each_named s.devices name p s.pools valid.apart found in
    stands_so _ (record s { pools = all_but p.serial s.pools }) (pairs_left s.devices (λ (x : PoolState). not (x.serial == p.serial)) s.pools valid.apart)
    (others_of view s name valid h ∙ ap (λ ps. ordered name_of (all_kept ps)) (same_filter (λ (x : PoolState). not (is_called name x)) (λ (x : PoolState). not (x.serial == p.serial)) s.pools (nots name p.serial s.pools so)))
    h.devices h.next

instead_kept : (name : Text) (q : PoolState) (ps : List PoolState) → map (λ (x : TablePool). cond (bytes_eq (name_of x) name) (kept q) x) (all_kept ps) ≡ all_kept (map (λ (p : PoolState). cond (is_called name p) q p) ps)
instead_kept name q [] = refl
instead_kept name q (p ∷ ps) =
    let cases : (b : Bool) → cond b (kept q) (kept p) ≡ kept (cond b q p) = elim [ true ↦ refl | false ↦ refl ] in
    ap (λ x. x ∷ map (λ (y : TablePool). cond (bytes_eq (name_of y) name) (kept q) y) (all_kept ps)) (cases (is_called name p)) ∙ ap (λ xs. kept (cond (is_called name p) q p) ∷ xs) (instead_kept name q ps)

there_at : (name : Text) (p : PoolState) (ps : List PoolState) → pool_at name ps ≡ Some p → list_any (is_called name) ps ≡ true
there_at name p ps found = sym (any_found (is_called name) ps) ∙ ap is_some found

pub put_alike : PutAlike
put_alike view s name p q valid after found h =
    let put = instead_kept name q s.pools in
    let apart = subst (EachApart name_of) (sym put) (apart_kept s.devices (with_other name q s).pools after.apart) in
    stands_so _ (with_other name q s) after.apart
    (ap (entered name_of (kept q)) (others_of view s name valid h ∙ ap (ordered name_of) (sym (others_kept name s.pools)))
    ∙ (sym (ordered_instead name_of name (kept q) (all_kept s.pools) (apart_kept s.devices s.pools valid.apart) apart (called_kept name s.pools ∙ there_at name p s.pools found)) ∙ ap (ordered name_of) put))
    h.devices h.next

-- ---- what is put in

abbrev paths_of : List DevRow → List Text
paths_of rows = map (λ (row : DevRow). row.path) rows

paths_on : (tier : Tier) (rack : List DevRow) (new : List Text) → paths_of (rows_on tier rack new) ≡ new
paths_on tier rack [] = refl
paths_on tier rack (n ∷ ns) = ap (λ ps. n ∷ ps) (paths_on tier rack ns)

paths_both : (rows more : List DevRow) → paths_of (rows ++ more) ≡ paths_of rows ++ paths_of more
paths_both [] more = refl
paths_both (r ∷ rs) more = ap (λ ps. r.path ∷ ps) (paths_both rs more)

paths_grown : (tier : Tier) (rack : List DevRow) (new : List Text) (rows : List DevRow) → paths_of (rows ++ rows_on tier rack new) ++ [] ≡ (paths_of rows ++ []) ++ new
paths_grown tier rack new rows =
    append-nil (paths_of (rows ++ rows_on tier rack new)) ∙ (paths_both rows (rows_on tier rack new)
    ∙ (λ i. sym (append-nil (paths_of rows)) i ++ paths_on tier rack new i))

pub some_is : (a b : HaltedInfo) → Some a ≡ Some b → a ≡ b
some_is a b h = cc

pub kept_alike : KeptAlike
kept_alike = record {
  added = λ serial name rows. ap (λ d. record { known = record { name = name; serial = serial; new = None; devices = d }; halted = None }) (append-nil (paths_of rows));
  broken = λ serial name paths. refl;
  renamed = λ p new e. rw e refl;
  held = λ p new e. rw e refl;
  grown = λ a rack new p e. rw e (ap (λ d. record { known = record { name = p.name; serial = p.serial; new = None; devices = d }; halted = None }) (paths_grown a.tier rack new p.devices));
  taking = λ call p e given. rw e (λ i. record { known = record { name = p.name; serial = p.serial; new = given i; devices = sym (append-nil (paths_of p.devices)) i ++ devices_taken call }; halted = None });
  unseen = λ call p e none given. rw e (λ i. record { known = record { name = p.name; serial = p.serial; new = given i; devices = paths_of p.devices ++ none i }; halted = None });
  halted = λ p q info serial name e. halted_so p q info q.mode refl serial name e;
  woken = λ p q serial e. rw (e, serial) (ap (λ d. record { known = record { name = q.name; serial = p.serial; new = None; devices = d }; halted = None }) (append-nil (paths_of q.devices)));
}
  where
    halted_so : (p q : PoolState) (info : HaltedInfo) (m : PoolMode) → q.mode ≡ m → q.serial ≡ p.serial → q.name ≡ p.name → info_in q m ≡ Some info → kept q ≡ halted_as info (kept p)
    halted_so p q info Up e serial name h = absurd cc
    halted_so p q info (Down call) e serial name h = absurd cc
    halted_so p q info Stopped e serial name h = subst (λ i. kept q ≡ halted_as i (kept p)) (some_is _ info h) (rw (e, serial, name) refl)
    halted_so p q info (Unsettled call) e serial name h = subst (λ i. kept q ≡ halted_as i (kept p)) (some_is _ info h) (rw (e, serial, name) refl)
    halted_so p q info (Incomplete path) e serial name h = subst (λ i. kept q ≡ halted_as i (kept p)) (some_is _ info h) (rw (e, serial, name) refl)

-- ---- which pool a step changes

pub each_is : (rows : List DevRow) (name : Text) (p : PoolState) (ps : List PoolState) → EachPair (Apart rows) ps → pool_at name ps ≡ Some p → AllByRecursion (λ (q : PoolState). is_called name q ≡ true → q ≡ p) ps
each_is rows name p [] h found = tt
each_is rows name p (q ∷ ps) h found = here (is_called name q) refl found (each_is rows name p ps h.1)
  where
    none : (n : Text) (z : PoolState) (xs : List PoolState) → list_any (is_called n) xs ≡ false → AllByRecursion (λ (x : PoolState). is_called n x ≡ true → x ≡ z) xs
    none n z [] e = tt
    none n z (x ∷ xs) e = (λ k. absurd (let off : is_called n x ≡ false = or_first (is_called n x) (list_any (is_called n) xs) e in cc), none n z xs (or_second (is_called n x) (list_any (is_called n) xs) e))

    here : (b : Bool) → is_called name q ≡ b → cond b (Some q) (pool_at name ps) ≡ Some p → (pool_at name ps ≡ Some p → AllByRecursion (λ (x : PoolState). is_called name x ≡ true → x ≡ p) ps) → (is_called name q ≡ true → q ≡ p) × AllByRecursion (λ (x : PoolState). is_called name x ≡ true → x ≡ p) ps
    here true e k rest =
        let same : q ≡ p = cc in
        (λ _. same, none name p ps (subst (λ n. is_new n ps) (eq_same q.name name e) (new_behind rows q ps h.0)))
    here false e k rest = (λ t. absurd (let off : false ≡ true = sym e ∙ t in cc), rest k)

changed_so : (name : Text) (p : PoolState) (change : PoolState → PoolState) (ps : List PoolState) → p.mode ≡ Up → AllByRecursion (λ (q : PoolState). is_called name q ≡ true → q ≡ p) ps
    → AllByRecursion (λ (q : PoolState). lifted.one_changed name change q ≡ cond (is_called name q) (change p) q) ps
changed_so name p change [] up h = tt
changed_so name p change (q ∷ ps) up h = (here (is_called name q) refl, changed_so name p change ps up h.1)
  where
    here : (b : Bool) → is_called name q ≡ b → cond (is_up q.mode && b) (change q) q ≡ cond b (change p) q
    here true e = let same : q ≡ p = h.0 e in rw (same, up) refl
    here false e = let cases : (u : Bool) → cond (u && false) (change q) q ≡ q = elim [ true ↦ refl | false ↦ refl ] in cases (is_up q.mode)

stopped_so : (name : Text) (p : PoolState) (ps : List PoolState) → AllByRecursion (λ (q : PoolState). is_called name q ≡ true → q ≡ p) ps
    → AllByRecursion (λ (q : PoolState). cond (is_called name q) (halted q) q ≡ cond (is_called name q) (halted p) q) ps
stopped_so name p [] h = tt
stopped_so name p (q ∷ ps) h = (here (is_called name q) refl, stopped_so name p ps h.1)
  where
    here : (b : Bool) → is_called name q ≡ b → cond b (halted q) q ≡ cond b (halted p) q
    here true e = ap halted (h.0 e)
    here false e = refl

by_serial_so : (name : Text) (serial : ℕ) (r : PoolState) (ps : List PoolState) → AllByRecursion (SoNamed name serial) ps → AllByRecursion (λ (x : PoolState). cond (x.serial == serial) r x ≡ cond (is_called name x) r x) ps
by_serial_so name serial r [] h = tt
by_serial_so name serial r (x ∷ ps) h = (ap (λ b. cond b r x) (sym h.0), by_serial_so name serial r ps h.1)

pub steps_put : StepsPut
steps_put = record {
  by_name = λ s name p change valid found up. ap (λ ps. record s { pools = ps }) (same_map (lifted.one_changed name change) (λ (q : PoolState). cond (is_called name q) (change p) q) s.pools (changed_so name p change s.pools up (each_is s.devices name p s.pools valid.apart found)));
  stopped = λ s name p valid found. ap (λ ps. record s { pools = ps }) (same_map (λ (q : PoolState). cond (is_called name q) (halted q) q) (λ (q : PoolState). cond (is_called name q) (halted p) q) s.pools (stopped_so name p s.pools (each_is s.devices name p s.pools valid.apart found)));
  by_serial = λ s name p q valid found. ap (λ ps. record s { pools = ps }) (same_map (λ (x : PoolState). cond (x.serial == p.serial) q x) (λ (x : PoolState). cond (is_called name x) q x) s.pools (by_serial_so name p.serial q s.pools (each_named s.devices name p s.pools valid.apart found)));
}
