-- what the table tells of a CreatePool is what the model answers
use Rattle.std.proofs.Common.{◌≡◌, List, [], ◌∷◌, Bool, true, false, cond, ◌&&◌, ◌||◌, bytes_eq, length, nat_le, nat_lt, find, Option, Some, None, is_some, is_none, option_map, refl, ap, ◌∙◌}
use Rattle.std.specs.List.{AllByRecursion}
use Rattle.st_limits.specs.declared.TheConstants.{MAX_POOLS, MAX_POOL_DEVICES, MAX_POOL_SERIAL}
use Rattle.st_units.specs.declared.cause.Cause.TheVariants.{DeviceInUse, NoSuchDevice, TooManyDevices, TooManyPools}
use Rattle.st_units.specs.declared.rows.DevRow.{DevRow}
use Rattle.st_model.specs.declared.reply.Reply.{Reply}
use Rattle.st_model.specs.declared.state.EngineState.{EngineState}
use Rattle.st_model.specs.declared.state.KnownPool.{KnownPool}
use Rattle.st_model.specs.declared.state.PoolMode.{PoolMode}
use Rattle.st_model.specs.declared.state.PoolMode.TheVariants.{Up, Down, Stopped, Unsettled, Incomplete}
use Rattle.st_model.specs.declared.state.PoolState.{PoolState}
use Rattle.st_model.specs.Answer.{first_answer, refused_by, refused_where}
use Rattle.st_model.specs.Checks.{absent_device, no_devices, small_device}
use Rattle.st_model.specs.Look.{Text, distinct, first_absent, is_up, row_of}
use Rattle.st_model.specs.OnTable.{first_taken, held_answer, is_held, table_answer, taken_by, user_of}
use Rattle.st_model.specs.Parts.{own, pool_at, started, table_of}
use Rattle.st_model.specs.Shown.{pool_info, shown_mode}
use Rattle.st_model.specs.Valid.{IsValid}
use Rattle.st_model.specs.steps.CreatePool.{data_paths, is_made, same_set}
use Rattle.st_model.proofs.Lists.{All-weaker, none_found}
use Rattle.st_model.proofs.OnTable.{table_answer-is}
use Rattle.st_table.specs.Stands.{Alike}
use Rattle.st_table.specs.Steps.{StandsFor, UsersTold}
use Rattle.st_table.specs.Table.{TableView, is_taken, user_name}
use Rattle.st_creating.specs.Told.{ToldAlike, first_user, held_told, is_shown_made, is_shown_up, taken_told, told_answer, user_here}

mode_alike : (m : PoolMode) → is_shown_up (shown_mode m) ≡ is_up m
mode_alike Up = refl
mode_alike (Down call) = refl
mode_alike Stopped = refl
mode_alike (Unsettled call) = refl
mode_alike (Incomplete path) = refl

made_alike : (name : Text) (paths : List Text) (p : PoolState) → is_shown_made name paths (pool_info p) ≡ is_made name paths p
unfolding pool_info
made_alike name paths p = ap (λ (b : Bool). b && bytes_eq p.name name && same_set (data_paths p.devices) paths) (mode_alike p.mode)

held_alike : (name : Text) (paths : List Text) (p : Option PoolState) (o : Option KnownPool) → held_told name paths (option_map pool_info p) (is_some o) ≡ held_answer name paths p o
held_alike name paths p None = refl
held_alike name paths None (Some k) = refl
held_alike name paths (Some p) (Some k) = rw (made_alike name paths p) refl

there_is : (o : Option DevRow) → is_none o ≡ false → is_some o ≡ true
there_is None h = absurd cc
there_is (Some row) h = refl

absent_none : (o : Option Text) → refused_by (option_map NoSuchDevice o) ≡ None → o ≡ None
absent_none None h = refl
absent_none (Some path) h = absurd cc

-- the fourth answer matters only where the second is none
fourth : (a b h x y : Option Reply) (rest : List (Option Reply)) → (b ≡ None → x ≡ y) → first_answer (a ∷ b ∷ h ∷ x ∷ rest) ≡ first_answer (a ∷ b ∷ h ∷ y ∷ rest)
fourth (Some a) b h x y rest f = refl
fourth None (Some b) h x y rest f = refl
fourth None None (Some h) x y rest f = refl
fourth None None None x y rest f = ap (λ (o : Option Reply). first_answer (o ∷ rest)) (f refl)

named_some : (o : Option KnownPool) → is_some (option_map (λ (pool : KnownPool). pool.name) o) ≡ is_some o
named_some None = refl
named_some (Some k) = refl

named_twice : (path : Text) (o : Option KnownPool) → option_map (DeviceInUse path) (option_map (λ (pool : KnownPool). pool.name) o) ≡ option_map (λ (pool : KnownPool). DeviceInUse path pool.name) o
named_twice path None = refl
named_twice path (Some k) = refl

module _ (alike : Alike) (users : UsersTold) (view : TableView) (s : EngineState) (valid : IsValid s) (stands : StandsFor view s) where
  user_alike : (path : Text) → is_some (row_of path s.devices) ≡ true → user_here view path ≡ option_map (λ (pool : KnownPool). pool.name) (user_of path (table_of s).names)
  user_alike path there =
      ap (λ (rows : List DevRow). cond (is_some (row_of path rows)) (user_name path view.pools) None) stands.devices
      ∙ ap (λ (b : Bool). cond b (user_name path view.pools) None) there
      ∙ users view s path valid stands there

  first_alike : (paths : List Text) → AllByRecursion (λ path. is_some (row_of path s.devices) ≡ true) paths → first_user view paths ≡ first_taken paths (table_of s).names
  first_alike [] h = refl
  first_alike (path ∷ paths) h =
      ap (λ (o : Option Text). cond (is_some o) (Some path) (first_user view paths)) (user_alike path h.0)
      ∙ ap (λ (b : Bool). cond b (Some path) (first_user view paths)) (named_some (user_of path (table_of s).names))
      ∙ ap (λ (o : Option Text). cond (is_some (user_of path (table_of s).names)) (Some path) o) (first_alike paths h.1)

  -- the one that is found is there
  found_there : (paths : List Text) → AllByRecursion (λ path. is_some (row_of path s.devices) ≡ true) paths → taken_told view (first_taken paths (table_of s).names) ≡ taken_by (table_of s).names (first_taken paths (table_of s).names)
  found_there [] h = refl
  found_there (path ∷ paths) h = here (is_some (user_of path (table_of s).names)) (found_there paths h.1)
    where
      here : (b : Bool) → taken_told view (first_taken paths (table_of s).names) ≡ taken_by (table_of s).names (first_taken paths (table_of s).names)
          → taken_told view (cond b (Some path) (first_taken paths (table_of s).names)) ≡ taken_by (table_of s).names (cond b (Some path) (first_taken paths (table_of s).names))
      here true rest = ap (option_map (DeviceInUse path)) (user_alike path h.0) ∙ named_twice path (user_of path (table_of s).names)
      here false rest = rest

  taken_alike : (paths : List Text) → absent_device paths s.devices ≡ None → refused_by (taken_told view (first_user view paths)) ≡ refused_by (taken_by (table_of s).names (first_taken paths (table_of s).names))
  taken_alike paths h =
      let there = All-weaker _ _ paths (λ path. there_is (row_of path s.devices)) (none_found _ paths (absent_none (first_absent paths s.devices) h)) in
      ap (λ (o : Option Text). refused_by (taken_told view o)) (first_alike paths there) ∙ ap refused_by (found_there paths there)

  answer_alike : (name : Text) (paths : List Text) → told_answer view (option_map pool_info (own name s)) name paths ≡ table_answer (table_of s) (pool_at name (started s)) name paths
  unfolding told_answer table_answer
  answer_alike name paths =
      let same = alike view (table_of s) stands in
      ap (λ (rows : List DevRow). first_answer (no_devices paths ∷ absent_device paths rows ∷ held_told name paths (option_map pool_info (own name s)) (is_taken name view.pools) ∷ refused_by (taken_told view (first_user view paths)) ∷ small_device paths rows
      ∷ refused_where (nat_lt MAX_POOL_DEVICES (length (distinct paths))) TooManyDevices ∷ refused_where (nat_le MAX_POOLS (length view.pools) || nat_lt MAX_POOL_SERIAL view.next) TooManyPools ∷ [])) stands.devices
      ∙ ap (λ (b : Bool). first_answer (no_devices paths ∷ absent_device paths s.devices ∷ held_told name paths (option_map pool_info (own name s)) b ∷ refused_by (taken_told view (first_user view paths)) ∷ small_device paths s.devices
      ∷ refused_where (nat_lt MAX_POOL_DEVICES (length (distinct paths))) TooManyDevices ∷ refused_where (nat_le MAX_POOLS (length view.pools) || nat_lt MAX_POOL_SERIAL view.next) TooManyPools ∷ [])) (same.held name)
      ∙ ap (λ (h : Option Reply). first_answer (no_devices paths ∷ absent_device paths s.devices ∷ h ∷ refused_by (taken_told view (first_user view paths)) ∷ small_device paths s.devices
      ∷ refused_where (nat_lt MAX_POOL_DEVICES (length (distinct paths))) TooManyDevices ∷ refused_where (nat_le MAX_POOLS (length view.pools) || nat_lt MAX_POOL_SERIAL view.next) TooManyPools ∷ [])) (held_alike name paths (own name s) (find (is_held name) (table_of s).names))
      ∙ ap (λ b. first_answer (no_devices paths ∷ absent_device paths s.devices ∷ held_answer name paths (own name s) (find (is_held name) (table_of s).names) ∷ refused_by (taken_told view (first_user view paths)) ∷ small_device paths s.devices
      ∷ refused_where (nat_lt MAX_POOL_DEVICES (length (distinct paths))) TooManyDevices ∷ refused_where (nat_le MAX_POOLS b || nat_lt MAX_POOL_SERIAL view.next) TooManyPools ∷ [])) same.count
      ∙ ap (λ b. first_answer (no_devices paths ∷ absent_device paths s.devices ∷ held_answer name paths (own name s) (find (is_held name) (table_of s).names) ∷ refused_by (taken_told view (first_user view paths)) ∷ small_device paths s.devices
      ∷ refused_where (nat_lt MAX_POOL_DEVICES (length (distinct paths))) TooManyDevices ∷ refused_where (nat_le MAX_POOLS (length (table_of s).names) || nat_lt MAX_POOL_SERIAL b) TooManyPools ∷ [])) stands.next
      ∙ fourth (no_devices paths) (absent_device paths s.devices) (held_answer name paths (own name s) (find (is_held name) (table_of s).names)) _ _ _ (taken_alike paths)

pub told_alike : Alike → UsersTold → ToldAlike
told_alike alike users view s name paths valid stands = answer_alike alike users view s valid stands name paths ∙ table_answer-is s name paths valid.apart
