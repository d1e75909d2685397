-- The devices that a pool of a valid state uses, among those of the engine.
use Rattle.std.proofs.Common.{◌≡◌, inl, inr, ◌⊎◌, ℕ, List, [], ◌∷◌, Bool, true, false, cond, ◌||◌, map, Option, Some, None, is_some, refl, sym, ap, subst, ◌∙◌}
use Rattle.std.specs.Prelude.{is_none, option_map, find}
use Rattle.std.specs.List.{AllByRecursion, list_any}
use Rattle.std.specs.Str.{bytes_eq}
use Rattle.std.proofs.lemmas.Slice.Eq.{bytes_eq-Decides}
use Rattle.st_units.specs.declared.rows.DevRow.{DevRow}
use Rattle.st_model.specs.declared.call.Call.{Call}
use Rattle.st_model.specs.declared.state.PoolMode.{PoolMode}
use Rattle.st_model.specs.declared.state.PoolMode.TheVariants.{Up, Down, Stopped, Unsettled, Incomplete}
use Rattle.st_model.specs.declared.state.PoolState.{PoolState}
use Rattle.st_model.specs.Look.{Text, devices_taken, first_absent, flight_of, has_path, row_of, takes_path, uses}
use Rattle.st_model.specs.Valid.{AreTaken, AreThere, IsRow, is_there}

-- the pool lacks a device
abbrev pub lacks : PoolMode → Bool
lacks Up = false
lacks (Down call) = false
lacks Stopped = false
lacks (Unsettled call) = false
lacks (Incomplete path) = true

pub or_true : (a b : Bool) → (a || b) ≡ true → (a ≡ true) ⊎ (b ≡ true)
or_true true b e = inl refl
or_true false b e = inr e

sized_there : (o : Option DevRow) (n : ℕ) → option_map (λ (row : DevRow). row.sectors) o ≡ Some n → is_some o ≡ true
sized_there None n e = absurd cc
sized_there (Some row) n e = refl

rows_there : (rows own : List DevRow) (path : Text) → AllByRecursion (IsRow rows) own → is_some (row_of path own) ≡ true → is_there rows path ≡ true
rows_there rows [] path all e = absurd cc
rows_there rows (r ∷ rs) path all e = by (bytes_eq r.path path) refl e (rows_there rows rs path all.1)
  where
    by : (b : Bool) → bytes_eq r.path path ≡ b → is_some (cond b (Some r) (row_of path rs)) ≡ true → (is_some (row_of path rs) ≡ true → is_there rows path ≡ true) → is_there rows path ≡ true
    by true h k ih = subst (λ (q : Text). is_there rows q ≡ true) ((bytes_eq-Decides r.path path).0 h) (sized_there (row_of r.path rows) r.sectors all.0)
    by false h k ih = ih k

named_there : (rows : List DevRow) (list : List Text) (path : Text) → AllByRecursion (λ (q : Text). is_there rows q ≡ true) list → has_path path list ≡ true → is_there rows path ≡ true
named_there rows [] path all e = absurd cc
named_there rows (q ∷ qs) path all e = by (bytes_eq q path) refl e (named_there rows qs path all.1)
  where
    by : (b : Bool) → bytes_eq q path ≡ b → (b || has_path path qs) ≡ true → (has_path path qs ≡ true → is_there rows path ≡ true) → is_there rows path ≡ true
    by true h k ih = subst (λ (x : Text). is_there rows x ≡ true) ((bytes_eq-Decides q path).0 h) all.0
    by false h k ih = ih k

-- the engine has each device that the pool uses, but for a pool that lacks one
pub uses_there : (rows : List DevRow) (p : PoolState) (path : Text) (m : PoolMode) → p.mode ≡ m → lacks m ≡ false → AreThere rows p m → uses path p ≡ true → is_there rows path ≡ true
uses_there rows p path m mode whole there used = by m whole there (or_true (is_some (row_of path p.devices)) (takes_path path (flight_of p.mode)) used) mode
  where
    by : (m : PoolMode) → lacks m ≡ false → AreThere rows p m → (is_some (row_of path p.devices) ≡ true) ⊎ (takes_path path (flight_of p.mode) ≡ true) → p.mode ≡ m → is_there rows path ≡ true
    by Up k h (inl e) mode = rows_there rows p.devices path h e
    by Up k h (inr e) mode = let none : takes_path path (flight_of p.mode) ≡ false = ap (λ (x : PoolMode). takes_path path (flight_of x)) mode in absurd cc
    by (Down call) k h (inl e) mode = rows_there rows p.devices path h.0 e
    by (Down call) k h (inr e) mode = named_there rows (devices_taken call) path h.1 (sym (ap (λ (x : PoolMode). takes_path path (flight_of x)) mode) ∙ e)
    by Stopped k h (inl e) mode = rows_there rows p.devices path h e
    by Stopped k h (inr e) mode = let none : takes_path path (flight_of p.mode) ≡ false = ap (λ (x : PoolMode). takes_path path (flight_of x)) mode in absurd cc
    by (Unsettled call) k h (inl e) mode = rows_there rows p.devices path h.0 e
    by (Unsettled call) k h (inr e) mode = named_there rows (devices_taken call) path h.1 (sym (ap (λ (x : PoolMode). takes_path path (flight_of x)) mode) ∙ e)
    by (Incomplete missing) k h used mode = absurd cc

-- a row's path is one of the paths
pub path_of_rows : (rows : List DevRow) (path : Text) → has_path path (map (λ (row : DevRow). row.path) rows) ≡ is_some (row_of path rows)
path_of_rows [] path = refl
path_of_rows (r ∷ rs) path = by (bytes_eq r.path path) (path_of_rows rs path)
  where
    by : (b : Bool) → has_path path (map (λ (row : DevRow). row.path) rs) ≡ is_some (row_of path rs) → (b || has_path path (map (λ (row : DevRow). row.path) rs)) ≡ is_some (cond b (Some r) (row_of path rs))
    by true h = refl
    by false h = h

none_off : (o : Option DevRow) → is_none o ≡ true → is_some o ≡ false
none_off None e = refl
none_off (Some row) e = absurd cc

or_second : (a b : Bool) → b ≡ true → (a || b) ≡ true
or_second true b e = refl
or_second false b e = e

-- the first that the engine doesn't have is one of them
absent_is : (list : List Text) (rows : List DevRow) (path : Text) → first_absent list rows ≡ Some path → (has_path path list ≡ true) × (is_there rows path ≡ false)
absent_is [] rows path e = absurd cc
absent_is (q ∷ qs) rows path e = by (is_none (row_of q rows)) refl e (absent_is qs rows path)
  where
    by : (b : Bool) → is_none (row_of q rows) ≡ b → cond b (Some q) (first_absent qs rows) ≡ Some path → (first_absent qs rows ≡ Some path → (has_path path qs ≡ true) × (is_there rows path ≡ false)) → (has_path path (q ∷ qs) ≡ true) × (is_there rows path ≡ false)
    by true h k ih =
        let same : q ≡ path = cc in
        (ap (λ (b : Bool). b || has_path path qs) ((bytes_eq-Decides q path).1 same), subst (λ (x : Text). is_there rows x ≡ false) same (none_off (row_of q rows) h))
    by false h k ih = let rest = ih k in (or_second (bytes_eq q path) (has_path path qs) rest.0, rest.1)

-- a pool that lacks a device uses one that the engine doesn't have
pub lacks_one : (rows : List DevRow) (p : PoolState) (missing : Text) → AreThere rows p (Incomplete missing) → (uses missing p ≡ true) × (is_there rows missing ≡ false)
lacks_one rows p missing there =
    let one = absent_is (map (λ (row : DevRow). row.path) p.devices) rows missing there in
    (ap (λ (b : Bool). b || takes_path missing (flight_of p.mode)) (sym (path_of_rows p.devices missing) ∙ one.0), one.1)
