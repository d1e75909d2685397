-- what the form of a line can give: a lane below the lanes, and a call that can be made
use Rattle.std.proofs.Common.{◌≡◌, ℕ, ◌<◌, ◌%◌, ◌==◌, List, length, Bool, true, false, nat_lt, cond, Option, Some, None, Result, Ok, Err, refl, subst, codes, arith}
use Rattle.std.proofs.lemmas.Grind.{common_steps}
use Rattle.std.specs.Prelude.{IfOk}
use Rattle.serde_json.specs.Data.{Data}
use Rattle.serde_json.specs.Find.{get, as_str}
use Rattle.hex.specs.Hex.{decode_of}
use Rattle.hex.specs.declared.error.FromHexError.{FromHexError}
use Rattle.st_units.specs.declared.cause.Member.TheVariants as members
use Rattle.st_limits.specs.declared.TheConstants.{SECTOR_BYTES}
use Rattle.st_model.specs.Sound.{IsSound, is_whole, are_few}
use Rattle.st_model.specs.declared.call.Call.{Call}
use Rattle.st_model.specs.declared.call.Payload.{Payload}
use Rattle.st_model.specs.declared.call.Payload.TheVariants.{Given}
use Rattle.st_calls.specs.declared.call_name.CallName.{CallName}
use Rattle.st_calls.specs.declared.call_name.CallName.TheVariants.{CreatePool, DestroyPool, StopPool, StartPool, RenamePool, CreateFilesystems, DestroyFilesystems, SnapshotFilesystem, RenameFilesystem, SetSizeLimit, SetFsLimit, SetOverprovisioning, SetMerge, FsWrite, FsRead, PoolReports, EngineStateReport}
use Rattle.st_calls.specs.declared.call_name.CallName.TheVariants as names
use Rattle.st_calls.specs.declared.fault.LineFault.{LineFault}
use Rattle.st_calls.specs.declared.fault.LineFault.TheVariants.{BadCall}
use Rattle.st_calls.specs.Gives.{◌>>=◌, Gives}
use Rattle.st_calls.specs.Members.{number_of, or_bad, name_at, names_at, paths_at, number_at, optional_number_at, flag_at}
use Rattle.st_calls.specs.Form.{lane_below, lane_from, lane_of, call_of, in_lane, object_form, form, IsCall, object_of, call_name}
use Rattle.st_calls.specs.PoolForms.{pool_at, own_name_at, id_type, id_of, create_pool, destroy_pool, stop_pool, start_pool, rename_pool, devices_call, pool_call, pools_at, pool_reports}
use Rattle.st_calls.specs.FsForms.{fs_specs_at, create_filesystems, destroy_filesystems, snapshot_filesystem, rename_filesystem, set_size_limit, set_fs_limit, set_overprovisioning, set_merge}
use Rattle.st_calls.specs.IoForms.{as_byte, decoded, hex_payload, fill_payload, payload_by, payload_of, fs_write, fs_read}

-- what reading gives, if anything
pub record Every {A : Type 0} (P : A → Type 0) (r : Result A LineFault) : Type 0 where
  pub holds : IfOk r P

module _ {A B : Type 0} where
  -- what follows, whatever was read before
  always-ok : (P : B → Type 0) (r : Result A LineFault) (f : A → Result B LineFault) → ((a : A) → Every P (f a)) → IfOk (r >>= f) P
  always-ok P (Ok a) f h = (h a).holds
  always-ok P (Err e) f h = tt

  always : {P : B → Type 0} (r : Result A LineFault) (f : A → Result B LineFault) → ((a : A) → Every P (f a)) → Every P (r >>= f)
  always {P} r f h = record { holds = always-ok P r f h }

  -- what follows, by what was read before
  after-ok : (Q : A → Type 0) (P : B → Type 0) (r : Result A LineFault) (f : A → Result B LineFault) → IfOk r Q → ((a : A) → Q a → Every P (f a)) → IfOk (r >>= f) P
  after-ok Q P (Ok a) f q h = (h a q).holds
  after-ok Q P (Err e) f q h = tt

  after : {Q : A → Type 0} {P : B → Type 0} (r : Result A LineFault) (f : A → Result B LineFault) → Every Q r → ((a : A) → Q a → Every P (f a)) → Every P (r >>= f)
  after {Q} {P} r f q h = record { holds = after-ok Q P r f q.holds h }

given : {A : Type 0} {P : A → Type 0} {x : A} → P x → Every P (Ok x)
given p = record { holds = p }

none : {A : Type 0} {P : A → Type 0} {e : LineFault} → Every P (Err e)
none = record { holds = tt }

-- where a test stands, what passes it is right
tested-ok : {A : Type 0} (P : A → Type 0) (b t : Bool) (x : A) (e : LineFault) → t ≡ b → (t ≡ true → P x) → IfOk (cond b (Ok x) (Err e)) P
tested-ok P true t x e is h = h is
tested-ok P false t x e is h = tt

tested : {A : Type 0} {P : A → Type 0} (t : Bool) (x : A) (e : LineFault) → (t ≡ true → P x) → Every P (cond t (Ok x) (Err e))
tested {A} {P} t x e h = record { holds = tested-ok P t t x e refl h }

IsWhole : Payload → Type 0
IsWhole payload = is_whole payload ≡ true

AreFew : List (List ℕ) → Type 0
AreFew pools = are_few pools ≡ true

few-pools : (d : Data) → Every AreFew (pools_at d)
unfolding pools_at AreFew
few-pools d = always (names_at members.Pools (codes "pools") d) _ (λ pools. tested (are_few pools) pools (BadCall members.Pools) (λ few. few))

sound-reports : (d : Data) → Every IsSound (pool_reports d)
unfolding pool_reports AreFew
sound-reports d = after (pools_at d) _ (few-pools d) (λ pools few. given few)

whole-decoded : (r : Result (List ℕ) FromHexError) → Every IsWhole (decoded r)
unfolding IsWhole
whole-decoded (Ok bytes) = tested (length bytes % SECTOR_BYTES == 0) (Given bytes) (BadCall members.Hex) (λ whole. whole)
whole-decoded (Err e) = none

whole-hex : (d : Data) → Every IsWhole (hex_payload d)
unfolding hex_payload
whole-hex d = always (or_bad members.Hex (as_str d)) _ (λ text. whole-decoded (decode_of text))

whole-fill : (d : Data) → Every IsWhole (fill_payload d)
unfolding fill_payload IsWhole
whole-fill d = always (number_at members.Fill (codes "fill") d >>= as_byte) _ (λ byte. always (number_at members.Sectors (codes "sectors") d) _ (λ sectors. given refl))

whole-by : (hex : Option Data) (d : Data) → Every IsWhole (payload_by hex d)
whole-by (Some hex) d = whole-hex hex
whole-by None d = whole-fill d

whole-payload : (d : Data) → Every IsWhole (payload_of d)
unfolding payload_of
whole-payload d = whole-by (get (codes "hex") d) d

sound-write : (d : Data) → Every IsSound (fs_write d)
unfolding fs_write IsWhole
sound-write d =
    always (pool_at d) _ (λ pool. always (own_name_at d) _ (λ name. always (number_at members.Sector (codes "sector") d) _ (λ sector.
    after (payload_of d) _ (whole-payload d) (λ payload whole. given whole))))

sound-call : (name : CallName) (d : Data) → Every IsSound (call_of name d)
unfolding create_pool destroy_pool stop_pool start_pool rename_pool devices_call pool_call create_filesystems destroy_filesystems snapshot_filesystem rename_filesystem set_size_limit set_fs_limit set_overprovisioning set_merge fs_read
sound-call CreatePool d = always (own_name_at d) _ (λ name. always (paths_at (codes "devices") d) _ (λ devices. given refl))
sound-call DestroyPool d = always (own_name_at d) _ (λ name. given refl)
sound-call StopPool d = always (own_name_at d) _ (λ name. given refl)
sound-call StartPool d = always (id_type d) _ (λ is_uuid. always (id_of is_uuid d) _ (λ id. given refl))
sound-call RenamePool d = always (own_name_at d) _ (λ name. always (name_at members.New (codes "new") d) _ (λ new. given refl))
sound-call names.AddDataDevs d = always (pool_at d) _ (λ pool. always (paths_at (codes "devices") d) _ (λ devices. given refl))
sound-call names.InitCache d = always (pool_at d) _ (λ pool. always (paths_at (codes "devices") d) _ (λ devices. given refl))
sound-call names.AddCacheDevs d = always (pool_at d) _ (λ pool. always (paths_at (codes "devices") d) _ (λ devices. given refl))
sound-call CreateFilesystems d = always (pool_at d) _ (λ pool. always (fs_specs_at d) _ (λ filesystems. given refl))
sound-call DestroyFilesystems d = always (pool_at d) _ (λ pool. always (names_at members.Names (codes "names") d) _ (λ all. given refl))
sound-call SnapshotFilesystem d = always (pool_at d) _ (λ pool. always (name_at members.Origin (codes "origin") d) _ (λ origin. always (own_name_at d) _ (λ name. given refl)))
sound-call RenameFilesystem d = always (pool_at d) _ (λ pool. always (own_name_at d) _ (λ name. always (name_at members.New (codes "new") d) _ (λ new. given refl)))
sound-call SetSizeLimit d = always (pool_at d) _ (λ pool. always (own_name_at d) _ (λ name. always (optional_number_at members.Limit (codes "limit") d) _ (λ limit. given refl)))
sound-call SetFsLimit d = always (pool_at d) _ (λ pool. always (number_at members.Limit (codes "limit") d) _ (λ limit. given refl))
sound-call SetOverprovisioning d = always (pool_at d) _ (λ pool. always (flag_at members.Value (codes "value") d) _ (λ value. given refl))
sound-call SetMerge d = always (pool_at d) _ (λ pool. always (own_name_at d) _ (λ name. always (flag_at members.Value (codes "value") d) _ (λ value. given refl)))
sound-call FsWrite d = sound-write d
sound-call FsRead d = always (pool_at d) _ (λ pool. always (own_name_at d) _ (λ name. always (number_at members.Sector (codes "sector") d) _ (λ sector. always (number_at members.Sectors (codes "sectors") d) _ (λ sectors. given refl))))
sound-call names.Check d = always (pool_at d) _ (λ pool. given refl)
sound-call names.PoolReport d = always (pool_at d) _ (λ pool. given refl)
sound-call PoolReports d = sound-reports d
sound-call EngineStateReport d = given refl

lane-below : (lanes : ℕ) (o : Option ℕ) → Every (λ lane. 0 < lanes → lane < lanes) (lane_below lanes o)
lane-below lanes None = none
lane-below lanes (Some lane) = tested (nat_lt lane lanes) lane (BadCall members.Lane) (λ below some. grind (arith, common_steps))

lane-from : (lanes : ℕ) (o : Option Data) → Every (λ lane. 0 < lanes → lane < lanes) (lane_from lanes o)
lane-from lanes None = given (λ some. some)
lane-from lanes (Some d) = lane-below lanes (number_of d)

lane-of : (lanes : ℕ) (d : Data) → Every (λ lane. 0 < lanes → lane < lanes) (lane_of lanes d)
unfolding lane_of
lane-of lanes d = lane-from lanes (get (codes "lane") d)

call-in_lane : (lanes lane : ℕ) (r : Result Call LineFault) → (0 < lanes → lane < lanes) → Every IsSound r → Every (IsCall lanes) (in_lane lane r)
call-in_lane lanes lane (Ok call) below sound = given (record { below = below; sound = sound.holds })
call-in_lane lanes lane (Err e) below sound = none

call-object : (lanes : ℕ) (d : Data) → Every (IsCall lanes) (object_form lanes d)
unfolding object_form
call-object lanes d =
    after (lane_of lanes d) _ (lane-of lanes d) (λ lane below. always (call_name d) _ (λ name. call-in_lane lanes lane (call_of name d) below (sound-call name d)))

pub call-form : (lanes : ℕ) (line : List ℕ) → Every (IsCall lanes) (form lanes line)
unfolding form
call-form lanes line = always (object_of line) _ (λ d. call-object lanes d)

-- the same of what a line was read as
pub form-IsCall : (lanes : ℕ) (read : ℕ × Call) (line : List ℕ) → form lanes line ≡ Ok read → IsCall lanes read
form-IsCall lanes read line is = subst (λ (r : Result (ℕ × Call) LineFault). IfOk r (IsCall lanes)) is (call-form lanes line).holds

-- and of what the reader gave
pub read-IsCall : (lanes : ℕ) (line : List ℕ) (result : Result (ℕ × Call) LineFault) → Gives (λ (read : ℕ × Call). read) result (form lanes line) → IfOk result (IsCall lanes)
read-IsCall lanes line (Ok read) is = form-IsCall lanes read line is
read-IsCall lanes line (Err e) is = tt
