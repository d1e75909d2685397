-- What the model answers of a CreatePool on an engine that knows no pool.
use Rattle.std.proofs.Common.{◌≡◌, ◌≢◌, ℕ, zero, suc, ◌<◌, ◌≤◌, ◌^◌, ◌==◌, Bool, true, false, not, ◌||◌, cond, bytes_eq, nat_le, nat_lt, is_none, is_some, option_map, unwrap_or, List, [], ◌∷◌, length, map, filter, Option, Some, None, refl, sym, ◌∙◌, ap, subst, arith}
use Rattle.std.specs.List.{AllByRecursion, find}
use Rattle.std.proofs.lemmas.Bool.Decides.{nat_tests}
use Rattle.st_limits.specs.Sums.{IsDeviceSize}
use Rattle.st_limits.specs.declared.TheConstants.{MAX_POOLS, MAX_POOL_DEVICES, MAX_POOL_SERIAL, MIN_DEVICE_SECTORS}
use Rattle.st_units.specs.declared.cause.Cause.TheVariants.{DeviceFault, EmptyDevices, TooManyDevices, TooManyPools, NoSuchDevice, DeviceTooSmall, OutOfMemory}
use Rattle.st_units.specs.declared.rows.DevRow.{DevRow}
use Rattle.st_units.specs.declared.rows.Tier.TheVariants.{DataTier}
use Rattle.st_model.specs.declared.call.Call.{Call}
use Rattle.st_model.specs.declared.call.Call.TheVariants.{CreatePool}
use Rattle.st_model.specs.declared.entry.Env.TheVariants.{FaultWrite, Plain}
use Rattle.st_model.specs.declared.reply.Given.TheVariants.{Created}
use Rattle.st_model.specs.declared.reply.Reply.{Reply}
use Rattle.st_model.specs.declared.state.EngineState.{EngineState}
use Rattle.st_model.specs.declared.state.PoolState.{PoolState}
use Rattle.st_model.specs.Answer.{accepted, refused, refused_by, refused_where, first_answer, unless_answered}
use Rattle.st_model.specs.Checks as checks
use Rattle.st_model.specs.Local.{Outcome, where_so}
use Rattle.st_model.specs.Look.{Text, distinct, first_absent, first_used, pool_using, row_of, without}
use Rattle.st_model.specs.Step.{is_changed, outcome}
use Rattle.st_model.specs.steps.CreatePool.{broken_pool, create_answer, create_answers, create_plain, data_rows, new_pool, with_pool}
use Rattle.st_model.proofs.Flights.{find_none, filter_all}
use Rattle.st_rack.specs.Device.{Path, State}
use Rattle.st_rack.specs.Calls.{Devices, Has, sectors_of, size_in}
use Rattle.st_commit.specs.Ready.{AreDistinct, IsOf}
use Rattle.st_image.specs.Survivors as survivors
use Rattle.st_pool.specs.Makes.{MayTake, engine_before}
use Rattle.st_pool.specs.View.{engine_of}
use Rattle.st_pool.specs.inner.Makings.{new_rows}
use Rattle.st_pool.proofs.NewRows.{all_of, head_apart, not_equal, tail_distinct}

-- the row of a device as the model sees it
row_found : (devs : Devices) (d : Path) → option_map (λ (row : DevRow). row.sectors) (row_of d (map survivors.row_of devs)) ≡ sectors_of devs d
row_found [] d = refl
row_found (e ∷ es) d = by (bytes_eq e.0 d) (row_found es d)
  where
    by : (b : Bool) → option_map (λ (row : DevRow). row.sectors) (row_of d (map survivors.row_of es)) ≡ sectors_of es d
        → option_map (λ (row : DevRow). row.sectors) (cond b (Some (survivors.row_of e)) (row_of d (map survivors.row_of es))) ≡ cond b (Some e.1) (sectors_of es d)
    by true rest = refl
    by false rest = rest

none_mapped : (o : Option DevRow) → is_none o ≡ is_none (option_map (λ (row : DevRow). row.sectors) o)
none_mapped None = refl
none_mapped (Some row) = refl

pub same_rows : (devs : Devices) (list : List Path) → data_rows (map survivors.row_of devs) list ≡ new_rows devs list
same_rows devs [] = refl
same_rows devs (d ∷ ds) = (λ i. record { path = d; tier = DataTier; sectors = unwrap_or (row_found devs d i) 0 } ∷ same_rows devs ds i)

-- each path once
pub distinct_self : (list : List Path) → AreDistinct list → distinct list ≡ list
distinct_self [] own = refl
distinct_self (d ∷ ds) own =
    ap (λ (qs : List Path). d ∷ without d qs) (distinct_self ds (tail_distinct d ds own))
    ∙ ap (λ (qs : List Path). d ∷ qs) (filter_all (λ q. not (bytes_eq d q)) ds (all_of (λ q. not (bytes_eq d q) ≡ true) ds (λ e of. ap not (not_equal d e (λ same. head_apart d ds own e of (sym same))))))

some_not_empty : (n : ℕ) → 1 ≤ n → (n == 0) ≡ false
some_not_empty n le = grind (arith, nat_tests)

not_more : (n m : ℕ) → n ≤ m → nat_lt m n ≡ false
not_more n m le = grind (arith, nat_tests)

no_pools : nat_le MAX_POOLS 0 ≡ false
no_pools = grind (arith, nat_tests)

-- the answer where the pool is made
abbrev pub created : ℕ → List Path → Reply
created serial list = accepted (Created true (Some (serial, list)))

-- Devices of a rack that a pool may be made of: a few, each once, of a fit size.
pub record MayMake (list : List Path) (devs : Devices) : Type 0 where
  pub some : 1 ≤ length list
  pub few : length list ≤ MAX_POOL_DEVICES
  pub own : AreDistinct list
  pub each : (d : Path) → IsOf list d → (n : ℕ) × Has devs d n × IsDeviceSize n

pub may_make : (serial : ℕ) (list : List Path) (devs : Devices) (s : State) → MayTake serial list devs s → MayMake list devs
may_make serial list devs s may = record { some = may.some; few = may.few; own = may.own; each = λ d of. (let one = may.each d of in (one.0, one.1, one.2)) }

module _ (serial : ℕ) (name : Text) (list : List Path) (devs : Devices) (may : MayMake list devs) (until : serial ≤ 2 ^ 48) where
  abbrev before : EngineState
  before = engine_before serial devs

  abbrev call : Call
  call = CreatePool name list

  none_absent : first_absent list before.devices ≡ None
  none_absent = find_none (λ path. is_none (row_of path before.devices)) list (all_of (λ path. is_none (row_of path before.devices) ≡ false) list (λ d of. none_mapped (row_of d before.devices) ∙ ap (λ (o : Option ℕ). is_none o) (row_found devs d ∙ (may.each d of).1)))

  none_used : first_used list [] ≡ None
  none_used = find_none (λ path. is_some (pool_using path [])) list (all_of (λ path. is_some (pool_using path []) ≡ false) list (λ d of. refl))

  none_small : checks.first_small list before.devices ≡ None
  none_small = find_none (λ path. nat_lt (checks.sectors_of path before.devices) MIN_DEVICE_SECTORS) list
      (all_of (λ path. nat_lt (checks.sectors_of path before.devices) MIN_DEVICE_SECTORS ≡ false) list (λ d of. (
      let one = may.each d of in ap (λ (o : Option ℕ). nat_lt (unwrap_or o 0) MIN_DEVICE_SECTORS) (row_found devs d ∙ one.1) ∙ not_more MIN_DEVICE_SECTORS one.0 one.2.0)))

  -- nothing is refused
  pub no_answer : create_answer before name list ≡ None
  unfolding create_answer
  no_answer = (λ i. first_answer (refused_where (some_not_empty (length list) may.some i) EmptyDevices
      ∷ refused_by (option_map NoSuchDevice (none_absent i))
      ∷ None
      ∷ refused_by (checks.in_use [] (none_used i))
      ∷ refused_by (option_map DeviceTooSmall (none_small i))
      ∷ refused_where (few i) TooManyDevices
      ∷ refused_where (room i) TooManyPools
      ∷ []))
    where
      few : nat_lt MAX_POOL_DEVICES (length (distinct list)) ≡ false
      few = ap (λ (qs : List Path). nat_lt MAX_POOL_DEVICES (length qs)) (distinct_self list may.own) ∙ not_more (length list) MAX_POOL_DEVICES may.few

      room : (nat_le MAX_POOLS 0 || nat_lt MAX_POOL_SERIAL serial) ≡ false
      room = (λ i. no_pools i || not_more serial MAX_POOL_SERIAL until i)

  abbrev pub pool : PoolState
  pool = new_pool serial name (new_rows devs list)

  made : create_plain before name list ≡ (created serial list, engine_of pool devs)
  unfolding create_plain
  made =
      ap (λ (o : Option Reply). unless_answered o before (accepted (Created true (Some (serial, distinct list))), with_pool before (new_pool serial name (data_rows before.devices (distinct list))))) no_answer
      ∙ (λ i. (accepted (Created true (Some (serial, distinct_self list may.own i))), with_pool before (new_pool serial name (data_rows before.devices (distinct_self list may.own i)))))
      ∙ ap (λ (rows : List DevRow). (created serial list, with_pool before (new_pool serial name rows))) (same_rows devs list)

  pub made_plain : outcome before call Plain ≡ Some (created serial list, engine_of pool devs)
  made_plain = ap (λ (o : Reply × EngineState). Some o) made

  -- where a device fails
  pub made_broken : outcome before call FaultWrite ≡ Some (refused DeviceFault, engine_of (broken_pool serial name list) devs)
  made_broken =
      ap (λ (o : Outcome). where_so (is_changed o) (refused DeviceFault, with_pool before (broken_pool serial name (distinct list)))) made_plain
      ∙ ap (λ (qs : List Path). Some (refused DeviceFault, with_pool before (broken_pool serial name qs))) (distinct_self list may.own)
