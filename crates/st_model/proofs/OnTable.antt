-- the table tells what CreatePool and a report ask of the pools
use Rattle.std.proofs.Common.{◌≡◌, ℕ, ◌^◌, List, [], ◌∷◌, ◌++◌, length, Bool, true, false, ◌||◌, ◌&&◌, ◌==◌, cond, nat_lt, nat_le, bytes_eq, map, filter, Option, Some, None, is_some, is_none, option_map, refl, ap, ◌∙◌}
use Rattle.std.proofs.lemmas.List.{length-map}
use Rattle.std.specs.List.{AllByRecursion, find}
use Rattle.st_units.specs.declared.rows.DevRow.{DevRow}
use Rattle.st_units.specs.declared.cause.Cause.TheVariants.{EmptyDevices, NoSuchDevice, DeviceInUse, DeviceTooSmall, TooManyDevices, TooManyPools}
use Rattle.st_model.specs.declared.call.Call.{Call}
use Rattle.st_model.specs.declared.info.TableInfo.{TableInfo}
use Rattle.st_model.specs.declared.reply.Reply.{Reply}
use Rattle.st_model.specs.declared.state.EngineState.{EngineState}
use Rattle.st_model.specs.declared.state.KnownPool.{KnownPool}
use Rattle.st_model.specs.declared.state.PoolMode.{PoolMode}
use Rattle.st_model.specs.declared.state.PoolMode.TheVariants.{Up, Down, Stopped, Unsettled, Incomplete}
use Rattle.st_model.specs.declared.state.PoolState.{PoolState}
use Rattle.st_model.specs.Answer.{first_answer, refused_by, refused_where}
use Rattle.st_model.specs.Look.{Text, has_path, row_of, first_absent, distinct, flight_of, takes_path, uses, pool_using, first_used, is_called, is_name_of, gives_name, holds, holder, is_up, is_started}
use Rattle.st_model.specs.OnTable.{is_held, held_answer, user_of, first_taken, taken_by, table_answer}
use Rattle.st_model.specs.Parts.{known, new_name, paths_taken, table_of, started, pool_at, is_used, free_of, shown_table}
use Rattle.st_model.specs.Valid.{Apart}
use Rattle.st_model.specs.ValidPool.{EachPair}
use Rattle.st_model.specs.steps.CreatePool.{answer_held, create_answer, data_paths, is_made, same_set}
use Rattle.st_model.specs.Checks.{first_small, in_use}
use Rattle.st_model.specs.Shown.{free_paths}
use Rattle.st_model.specs.Shown.{halted_pools, started_pools, stopped_with, table_info}

module _ {X Y : Type 0} where
  along : (f : X → Y) (b : Bool) (x : X) (o : Option X) (o' : Option Y) → o' ≡ option_map f o → cond b (Some (f x)) o' ≡ option_map f (cond b (Some x) o)
  along f true x o o' h = refl
  along f false x o o' h = h

  -- a look-up in a list that was made item by item
  pub find-map : (f : X → Y) (p : X → Bool) (q : Y → Bool) → ((x : X) → q (f x) ≡ p x) → (xs : List X) → find q (map f xs) ≡ option_map f (find p xs)
  find-map f p q e [] = refl
  find-map f p q e (x ∷ xs) = ap (λ b. cond b (Some (f x)) (find q (map f xs))) (e x) ∙ along f (p x) x _ _ (find-map f p q e xs)

  is_some-map : (f : X → Y) (o : Option X) → is_some (option_map f o) ≡ is_some o
  is_some-map f None = refl
  is_some-map f (Some x) = refl

  is_none-map : (f : X → Y) (o : Option X) → is_none (option_map f o) ≡ is_none o
  is_none-map f None = refl
  is_none-map f (Some x) = refl

module _ {X : Type 0} where
  find-alike : (p q : X → Bool) → ((x : X) → q x ≡ p x) → (xs : List X) → find q xs ≡ find p xs
  find-alike p q e [] = refl
  find-alike p q e (x ∷ xs) = ap (λ b. cond b (Some x) (find q xs)) (e x) ∙ ap (λ o. cond (p x) (Some x) o) (find-alike p q e xs)

  filter-alike : (p q : X → Bool) → ((x : X) → q x ≡ p x) → (xs : List X) → filter q xs ≡ filter p xs
  filter-alike p q e [] = refl
  filter-alike p q e (x ∷ xs) = ap (λ b. cond b (x ∷ filter q xs) (filter q xs)) (e x) ∙ ap (λ ys. cond (p x) (x ∷ ys) ys) (filter-alike p q e xs)

new_held : (name : Text) (flight : Option Call) → is_name_of name (new_name flight) ≡ gives_name name flight
new_held name None = refl
new_held name (Some call) = refl

known-holds : (name : Text) (p : PoolState) → is_held name (known p) ≡ holds name p
known-holds name p = ap (λ b. bytes_eq p.name name || b) (new_held name (flight_of p.mode))

rows_used : (path : Text) (rows : List DevRow) (flight : Option Call) → has_path path (map (λ (row : DevRow). row.path) rows ++ paths_taken flight) ≡ (is_some (row_of path rows) || takes_path path flight)
rows_used path [] None = refl
rows_used path [] (Some call) = refl
rows_used path (r ∷ rs) flight = here (bytes_eq r.path path) r _ _ (rows_used path rs flight)
  where
    here : (b : Bool) (r : DevRow) (o : Option DevRow) (c : Bool) → c ≡ (is_some o || takes_path path flight) → (b || c) ≡ (is_some (cond b (Some r) o) || takes_path path flight)
    here true r o c h = refl
    here false r o c h = h

known-uses : (path : Text) (p : PoolState) → is_used path (known p) ≡ uses path p
known-uses path p = rows_used path p.devices (flight_of p.mode)

known-user : (path : Text) (pools : List PoolState) → user_of path (map known pools) ≡ option_map known (pool_using path pools)
known-user path pools = find-map known (uses path) (is_used path) (known-uses path) pools

known-taken : (paths : List Text) (pools : List PoolState) → first_taken paths (map known pools) ≡ first_used paths pools
known-taken paths pools = find-alike _ _ (λ path. ap is_some (known-user path pools) ∙ is_some-map known (pool_using path pools)) paths

known-in_use : (pools : List PoolState) (o : Option Text) → taken_by (map known pools) o ≡ in_use pools o
known-in_use pools None = refl
known-in_use pools (Some path) = ap (λ u. option_map (λ (pool : KnownPool). DeviceInUse path pool.name) u) (known-user path pools) ∙ named (pool_using path pools)
  where
    named : (o : Option PoolState) → option_map (λ (pool : KnownPool). DeviceInUse path pool.name) (option_map known o) ≡ option_map (λ (pool : PoolState). DeviceInUse path pool.name) o
    named None = refl
    named (Some p) = refl

not_held : (a b : Bool) → (a || b) ≡ false → a ≡ false
not_held true b h = absurd cc
not_held false b h = refl

-- where no pool holds the name, no started one is called so
pub none_called : (name : Text) (pools : List PoolState) → AllByRecursion (λ q. holds name q ≡ false) pools → pool_at name (started_pools pools) ≡ None
none_called name [] h = refl
none_called name (p ∷ ps) h = here (is_started p.mode) (not_held (is_called name p) _ h.0) (none_called name ps h.1)
  where
    here : (b : Bool) → is_called name p ≡ false → pool_at name (started_pools ps) ≡ None → pool_at name (cond b (p ∷ started_pools ps) (started_pools ps)) ≡ None
    here true e rest = ap (λ c. cond c (Some p) (pool_at name (started_pools ps))) e ∙ rest
    here false e rest = rest

pub apart_holds : (rows : List DevRow) (name : Text) (p : PoolState) (ps : List PoolState) → holds name p ≡ true → AllByRecursion (Apart rows p) ps → AllByRecursion (λ q. holds name q ≡ false) ps
apart_holds rows name p [] h apart = tt
apart_holds rows name p (q ∷ qs) h apart = (so (holds name q) (apart.0.names name h), apart_holds rows name p qs h apart.1)
  where
    so : (b : Bool) → (b ≡ true → ⊥) → b ≡ false
    so true f = absurd (f refl)
    so false f = refl

up_started : (mode : PoolMode) → is_started mode ≡ false → is_up mode ≡ false
up_started Up h = absurd cc
up_started (Down call) h = refl
up_started Stopped h = refl
up_started (Unsettled call) h = refl
up_started (Incomplete path) h = refl

and_false : (a : Bool) → (a && false) ≡ false
and_false true = refl
and_false false = refl

-- the pool that holds the name, and no later one does
first_holds : (name : Text) (paths : List Text) (p : PoolState) (rest : List PoolState) → pool_at name rest ≡ None
    → held_answer name paths (pool_at name (cond (is_started p.mode) (p ∷ rest) rest)) (Some (known p)) ≡ answer_held name paths (Some p)
first_holds name paths p rest none = here (is_started p.mode) refl
  where
    other : is_made name paths p ≡ false → held_answer name paths None (Some (known p)) ≡ answer_held name paths (Some p)
    other e = rw e refl

    called : (c : Bool) → is_called name p ≡ c → held_answer name paths (cond c (Some p) (pool_at name rest)) (Some (known p)) ≡ answer_held name paths (Some p)
    called true e = refl
    called false e = ap (λ o. held_answer name paths o (Some (known p))) none ∙ other (ap (λ c. is_up p.mode && c && same_set (data_paths p.devices) paths) e ∙ ap (λ c. c && same_set (data_paths p.devices) paths) (and_false (is_up p.mode)))

    here : (b : Bool) → is_started p.mode ≡ b → held_answer name paths (pool_at name (cond b (p ∷ rest) rest)) (Some (known p)) ≡ answer_held name paths (Some p)
    here true e = called (is_called name p) refl
    here false e = ap (λ o. held_answer name paths o (Some (known p))) none ∙ other (ap (λ c. c && is_called name p && same_set (data_paths p.devices) paths) (up_started p.mode e))

passed : (name : Text) (p : PoolState) (rest : List PoolState) → is_called name p ≡ false → pool_at name (cond (is_started p.mode) (p ∷ rest) rest) ≡ pool_at name rest
passed name p rest e = here (is_started p.mode)
  where
    here : (b : Bool) → pool_at name (cond b (p ∷ rest) rest) ≡ pool_at name rest
    here true = ap (λ c. cond c (Some p) (pool_at name rest)) e
    here false = refl

known-held : (rows : List DevRow) (name : Text) (paths : List Text) (pools : List PoolState) → EachPair (Apart rows) pools
    → held_answer name paths (pool_at name (started_pools pools)) (option_map known (holder name pools)) ≡ answer_held name paths (holder name pools)
known-held rows name paths [] apart = refl
known-held rows name paths (p ∷ ps) apart = here (holds name p) refl (known-held rows name paths ps apart.1)
  where
    here : (b : Bool) → holds name p ≡ b → held_answer name paths (pool_at name (started_pools ps)) (option_map known (holder name ps)) ≡ answer_held name paths (holder name ps)
        → held_answer name paths (pool_at name (started_pools (p ∷ ps))) (option_map known (cond b (Some p) (holder name ps))) ≡ answer_held name paths (cond b (Some p) (holder name ps))
    here true e rest = first_holds name paths p (started_pools ps) (none_called name ps (apart_holds rows name p ps e apart.0))
    here false e rest = ap (λ o. held_answer name paths o (option_map known (holder name ps))) (passed name p (started_pools ps) (not_held (is_called name p) _ e)) ∙ rest

-- the table and the started pool of the name answer as the state does
pub table_answer-is : (s : EngineState) (name : Text) (paths : List Text) → EachPair (Apart s.devices) s.pools → table_answer (table_of s) (pool_at name (started s)) name paths ≡ create_answer s name paths
unfolding table_answer create_answer
table_answer-is s name paths apart =
    ap (λ o. answers (held_answer name paths (pool_at name (started s)) o) (refused_by (taken_by names (first_taken paths names))) (length names)) (find-map known (holds name) (is_held name) (known-holds name) s.pools)
    ∙ (ap (λ o. answers o (refused_by (taken_by names (first_taken paths names))) (length names)) (known-held s.devices name paths s.pools apart)
    ∙ (ap (λ o. answers (answer_held name paths (holder name s.pools)) (refused_by (taken_by names o)) (length names)) (known-taken paths s.pools)
    ∙ (ap (λ c. answers (answer_held name paths (holder name s.pools)) (refused_by c) (length names)) (known-in_use s.pools (first_used paths s.pools))
    ∙ ap (λ n. answers (answer_held name paths (holder name s.pools)) (refused_by (in_use s.pools (first_used paths s.pools))) n) (length-map s.pools known))))
  where
    names : List KnownPool
    names = map known s.pools

    answers : Option Reply → Option Reply → ℕ → Option Reply
    answers held used count = first_answer (
        refused_where (length paths == 0) EmptyDevices
        ∷ refused_by (option_map NoSuchDevice (first_absent paths s.devices))
        ∷ held
        ∷ used
        ∷ refused_by (option_map DeviceTooSmall (first_small paths s.devices))
        ∷ refused_where (nat_lt 16 (length (distinct paths))) TooManyDevices
        ∷ refused_where (nat_le 16 count || nat_lt (2 ^ 48) s.next) TooManyPools
        ∷ [])

known-free : (pools : List PoolState) (rows : List DevRow) → free_of (map known pools) rows ≡ free_paths pools rows
known-free pools rows = ap (map (λ (row : DevRow). row.path)) (filter-alike _ _ (λ (row : DevRow). ap is_none (known-user row.path pools) ∙ is_none-map known (pool_using row.path pools)) rows)

-- a report shows of the table what it shows of the state
pub shown_table-is : (s : EngineState) → shown_table (table_of s) ≡ table_info s
shown_table-is s = ap shown (known-free s.pools s.devices)
  where
    shown : List Text → TableInfo
    shown free = record { next = s.next; free = free; stopped = stopped_with [] (halted_pools s.pools) }
