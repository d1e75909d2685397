-- what is known where no answer stands against a CreatePool
use Rattle.std.proofs.Common.{◌≡◌, ℕ, ◌<◌, ◌≤◌, ◌^◌, ◌==◌, List, [], ◌∷◌, length, Bool, true, false, ◌||◌, cond, Option, Some, None, is_some, is_none, option_map, nat_lt, nat_le, refl, arith}
use Rattle.std.specs.List.{AllByRecursion}
use Rattle.std.proofs.lemmas.Grind.{common_steps}
use Rattle.st_units.specs.declared.rows.DevRow.{DevRow}
use Rattle.st_units.specs.declared.cause.Cause.{Cause}
use Rattle.st_units.specs.declared.cause.Cause.TheVariants.{EmptyDevices, NoSuchDevice, DeviceTooSmall, DeviceInUse, TooManyPools, TooManyDevices}
use Rattle.st_model.specs.declared.reply.Reply.{Reply}
use Rattle.st_model.specs.declared.state.PoolState.{PoolState}
use Rattle.st_model.specs.declared.state.EngineState.{EngineState}
use Rattle.st_model.specs.Look.{Text, has_path, row_of, first_absent, distinct, uses, pool_using, first_used, holds}
use Rattle.st_model.specs.Answer.{first_answer, refused_by, refused_where}
use Rattle.st_model.specs.steps.CreatePool.{create_answers, create_answer, answer_held, is_made}
use Rattle.st_model.specs.Checks.{in_use, first_small, sectors_of}
use Rattle.st_model.specs.Valid.{is_there}
use Rattle.st_model.proofs.Lists.{none_found, found_passes, All-weaker}

none_answers : (answers : List (Option Reply)) → first_answer answers ≡ None → AllByRecursion (λ o. o ≡ None) answers
none_answers [] h = tt
none_answers (None ∷ answers) h = (refl, none_answers answers h)
none_answers (Some r ∷ answers) h = absurd cc

none_held : (name : Text) (paths : List Text) (o : Option PoolState) → answer_held name paths o ≡ None → o ≡ None
none_held name paths None h = refl
none_held name paths (Some pool) h = one_of (is_made name paths pool) _ _ h
  where
    one_of : (b : Bool) (r t : Reply) → cond b (Some r) (Some t) ≡ None → Some pool ≡ None
    one_of true r t h = absurd cc
    one_of false r t h = absurd cc

-- no pool uses the path
abbrev pub FreeOf : List PoolState → Text → Type 0
FreeOf pools path = AllByRecursion (λ p. uses path p ≡ false) pools

pub no_user : (pools : List PoolState) (path : Text) → is_some (pool_using path pools) ≡ false → FreeOf pools path
no_user pools path h = none_found (uses path) pools (none_of (pool_using path pools) h)
  where
    none_of : (o : Option PoolState) → is_some o ≡ false → o ≡ None
    none_of None h = refl
    none_of (Some p) h = absurd cc

pub none_used : (pools : List PoolState) (o : Option Text) → ((path : Text) → o ≡ Some path → is_some (pool_using path pools) ≡ true) → refused_by (in_use pools o) ≡ None → o ≡ None
none_used pools None f h = refl
none_used pools (Some path) f h = user (pool_using path pools) (f path refl) h
  where
    user : (u : Option PoolState) → is_some u ≡ true → refused_by (option_map (λ (pool : PoolState). DeviceInUse path pool.name) u) ≡ None → Some path ≡ None
    user None g h = absurd cc
    user (Some p) g h = absurd cc

so_not : (b : Bool) (c : Cause) → refused_where b c ≡ None → b ≡ false
so_not true c h = absurd cc
so_not false c h = refl

pub none_refused : (f : Text → Cause) (o : Option Text) → refused_by (option_map f o) ≡ None → o ≡ None
none_refused f None h = refl
none_refused f (Some path) h = absurd cc

here : (o : Option DevRow) → is_none o ≡ false → is_some o ≡ true
here None h = absurd cc
here (Some row) h = refl

pub no_less : (n : ℕ) → nat_lt n 8192 ≡ false → 8192 ≤ n
no_less n h = grind (arith, common_steps)

pub record IsFresh (s : EngineState) (name : Text) (paths : List Text) : Type 0 where
  pub names : AllByRecursion (λ p. holds name p ≡ false) s.pools
  pub paths_free : AllByRecursion (FreeOf s.pools) paths
  pub some : (length paths == 0) ≡ false
  pub there : AllByRecursion (λ path. is_there s.devices path ≡ true) paths
  pub large : AllByRecursion (λ path. 8192 ≤ sectors_of path s.devices) paths
  pub count : length s.pools < 16
  pub few : length (distinct paths) ≤ 16
  pub room : s.next ≤ 2 ^ 48

pub create_fresh : (s : EngineState) (name : Text) (paths : List Text) → create_answer s name paths ≡ None → IsFresh s name paths
unfolding create_answer
create_fresh s name paths h =
    let all = none_answers (create_answers s name paths) h in
    let unused : first_used paths s.pools ≡ None = none_used s.pools (first_used paths s.pools) (λ path e. found_passes _ paths path e) all.1.1.1.0 in
    let many = so_not (nat_lt 16 (length (distinct paths))) TooManyDevices all.1.1.1.1.1.0 in
    let full = so_not (nat_le 16 (length s.pools) || nat_lt (2 ^ 48) s.next) TooManyPools all.1.1.1.1.1.1.0 in
    let absent = none_refused NoSuchDevice (first_absent paths s.devices) all.1.0 in
    let small = none_refused DeviceTooSmall (first_small paths s.devices) all.1.1.1.1.0 in
    record {
      some = so_not (length paths == 0) EmptyDevices all.0;
      there = All-weaker _ _ paths (λ path. here (row_of path s.devices)) (none_found _ paths absent);
      large = All-weaker _ _ paths (λ path. no_less (sectors_of path s.devices)) (none_found _ paths small);
      count = grind (arith, common_steps);
      names = none_found (holds name) s.pools (none_held name paths _ all.1.1.0);
      paths_free = All-weaker _ _ paths (no_user s.pools) (none_found _ paths unused);
      few = grind (arith, common_steps);
      room = grind (arith, common_steps);
    }

-- a pool that goes by this name alone, with the next serial, on these devices
pub record IsNewOn (next : ℕ) (name : Text) (devices : List Text) (q : PoolState) : Type 0 where
  pub named : (other : Text) → holds other q ≡ true → other ≡ name
  pub serial : q.serial ≡ next
  pub on : (path : Text) → uses path q ≡ true → has_path path devices ≡ true
