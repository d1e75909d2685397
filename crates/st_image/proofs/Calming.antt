-- A calm pool is kept, and what a pool that stops or fails is kept as.
use Rattle.std.proofs.Common.{◌≡◌, ◌≢◌, inl, inr, ℕ, suc, ◌<◌, List, [], ◌∷◌, ◌++◌, length, map, Option, Some, None, refl, sym, ◌∙◌, ap, subst}
use Rattle.std.specs.List.{slice_get, AllByRecursion}
use Rattle.st_poolrec.specs.declared.record.PoolRec.{PoolRec}
use Rattle.st_flexlog.specs.declared.state.FlexState.{FlexState}
use Rattle.st_flexrec.specs.declared.rows.CellRow.{CellRow}
use Rattle.st_seg.specs.Blocks.{blocks_of}
use Rattle.st_model.specs.declared.call.Call.{Call}
use Rattle.st_model.specs.declared.state.PoolMode.{PoolMode}
use Rattle.st_model.specs.declared.state.PoolMode.TheVariants.{Up, Down, Stopped, Unsettled, Incomplete}
use Rattle.st_model.specs.declared.state.PoolState.{PoolState}
use Rattle.st_model.specs.declared.state.CacheState.{CacheState}
use Rattle.st_rack.specs.Device.{Path, State, Image, held}
use Rattle.st_rack.specs.Calls.{Devices}
use Rattle.st_image.specs.Left.{first_sectors, LeftOf}
use Rattle.st_image.specs.Looks.{look_of}
use Rattle.st_image.specs.Bears.{newest_on, paths}
use Rattle.st_image.specs.Stands.{Range, range_of, bytes_in, cell_rows, state_of, StandsFor}
use Rattle.st_image.specs.Kept.{Kept, IsKeptAs, LeftInUse, NoneOrGone, in_use, as_pair}
use Rattle.st_image.specs.Calm.{Calm, Safe}
use Rattle.st_model.specs.Checks.{cooled, halted_from, halted}
use Rattle.st_model.specs.Merged.{merged}
use Rattle.st_image.specs.Survivors.{recorded, IsBefore, after, Survives}
use Rattle.st_model.specs.declared.call.Call.TheVariants.{CreatePool}
use Rattle.st_image.proofs.Merged.{merged_twice}
use Rattle.st_image.proofs.Frame.{moved_self}
use Rattle.st_image.proofs.Content.{agrees_left, same_bytes, cells_alike}

by_rows : (P : CellRow → Type 0) (rows : List CellRow) → ((k : ℕ) (row : CellRow) → slice_get rows k ≡ Some row → P row) → AllByRecursion P rows
by_rows P [] each = tt
by_rows P (row ∷ rows) each = (each 0 row refl, by_rows P rows (λ k r is. each (suc k) r is))

end_nil : (xs : Devices) → xs ++ [] ≡ xs
end_nil [] = refl
end_nil (x ∷ xs) = ap (λ (l : Devices). x ∷ l) (end_nil xs)

-- a cold cache stays as it is in a merge
merged_cooled : (mode : PoolMode) (pool : PoolState) → merged (cooled mode pool) ≡ cooled mode (merged pool)
merged_cooled mode pool = by pool.cache
  where
    by : (o : Option CacheState) → merged (cooled mode (record pool { cache = o })) ≡ cooled mode (merged (record pool { cache = o }))
    by None = refl
    by (Some cache) = refl

-- what a calm pool stands for
pub calm_stands : (p : ℕ) (rows : Devices) (g : ℕ) (rec : PoolRec) (st : FlexState) (s : State) (c : Image) → Calm p rows g rec st s → LeftOf p rows s c → StandsFor p rows c (Some (merged (state_of g rec st (held s))))
calm_stands p rows g rec st s c calm leaves =
    let shown = calm.shows c leaves in
    inl (g, rec, st, record { bears = shown.bears; alive = calm.alive; places = by_rows (λ row. row.place < length (blocks_of rec.segments)) (cell_rows st.mappings) (λ k row is. (calm.places k row is).0) }, ap merged (sym same))
  where
    each : (q : Range) → Safe (paths rows) q s → bytes_in c q ≡ bytes_in (held s) q
    each q safe = same_bytes q c (held s) (agrees_left (paths rows) (look_of p (first_sectors rows)) [] [] q s s c safe.on (moved_self [] s) safe.sure (λ i low high off. refl) leaves)

    same : state_of g rec st c ≡ state_of g rec st (held s)
    same = ap (λ (cs : List (ℕ × List ℕ)). record (state_of g rec st (held s)) { cells = cs }) (cells_alike rec c (held s) (cell_rows st.mappings) (λ k row is. each (range_of rec row.place) (calm.places k row is).1))

-- a pool that is up is kept
pub calm_kept : (pool : PoolState) (devs : Devices) (rec : PoolRec) (st : FlexState) (s : State) → pool.mode ≡ Up → pool.devices ≡ rec.devs → cooled Stopped pool ≡ state_of pool.commits rec st (held s)
    → Calm pool.serial (map as_pair rec.devs) pool.commits rec st s → Kept pool devs s
calm_kept pool devs rec st s up own is calm = record {
  all = λ c leaves. (
      let here = subst (λ (ds : Devices). LeftOf pool.serial ds s c) up_rows_are (subst (λ (m : PoolMode). LeftInUse (record pool { mode = m }) devs s c) up leaves) in
      let shown = calm.shows c here in
      record {
        found = Some (recorded pool);
        stands = subst (λ (ds : Devices). StandsFor pool.serial ds c (Some (recorded pool))) (sym rows_are)
            (subst (λ (q : PoolState). StandsFor pool.serial (map as_pair rec.devs) c (Some q)) (sym recorded_is) (calm_stands pool.serial (map as_pair rec.devs) pool.commits rec st s c calm here));
        kept = subst (λ (m : PoolMode). IsKeptAs pool devs m (Some (recorded pool))) (sym up) refl;
        borne = λ e. (rec, λ k d at. shown.borne k d (subst (λ (ds : Devices). slice_get ds k ≡ Some d) rows_are at));
        others = λ q k d ne at. shown.others q k d ne (subst (λ (ds : Devices). slice_get ds k ≡ Some d) rows_are at);
      });
}
  where
    up_rows_are : in_use (record pool { mode = Up }) devs ≡ map as_pair rec.devs
    up_rows_are = (λ i. in_use (record pool { mode = Up; devices = own i }) devs) ∙ end_nil (map as_pair rec.devs)

    rows_are : in_use pool devs ≡ map as_pair rec.devs
    rows_are = (λ i. in_use (record pool { mode = up i }) devs) ∙ up_rows_are

    recorded_is : recorded pool ≡ merged (state_of pool.commits rec st (held s))
    recorded_is = sym (merged_cooled Stopped pool) ∙ ap merged is

-- what a merge leaves is merged, and stays so
recorded_twice : (pool : PoolState) → recorded (cooled Stopped (merged pool)) ≡ recorded pool
recorded_twice pool = ap (λ (q : PoolState). cooled Stopped q) (merged_cooled Stopped (merged pool)) ∙ twice (merged (merged pool)).cache ∙ ap (λ (q : PoolState). cooled Stopped q) (merged_twice pool)
  where
    twice : (o : Option CacheState) → cooled Stopped (cooled Stopped (record (merged (merged pool)) { cache = o })) ≡ cooled Stopped (record (merged (merged pool)) { cache = o })
    twice None = refl
    twice (Some cache) = refl

before_same : (call : Call) (pool : PoolState) (found : Option PoolState) → IsBefore pool call found → IsBefore (record pool { mode = Unsettled call }) call found
before_same (CreatePool name devices) pool found is = is
before_same _ pool found is = is

after_same : (call : Call) (pool : PoolState) (devs : Devices) → after pool call devs ≡ after (record pool { mode = Unsettled call }) call devs
after_same (CreatePool name devices) pool devs = refl
after_same _ pool devs = refl

survives_same : (call : Call) (pool : PoolState) (devs : Devices) (found : Option PoolState) → Survives pool call devs found → Survives (record pool { mode = Unsettled call }) call devs found
survives_same call pool devs found one = elim one [
  | inl before ↦ inl (before_same call pool found before)
  | inr done ↦ inr (done ∙ after_same call pool devs)
]

-- a pool that stops, or whose power is cut
stopped_from : (pool : PoolState) (devs : Devices) (s : State) (mode : PoolMode) → pool.mode ≡ mode → Kept pool devs s → Kept (halted_from pool mode) devs s
stopped_from pool devs s Up up kept = record {
  all = λ c leaves. (
      let one = kept.all c (subst (λ (m : PoolMode). LeftInUse (record pool { mode = m }) devs s c) (sym up) leaves) in
      let held_as : one.found ≡ Some (recorded pool) = subst (λ (m : PoolMode). IsKeptAs pool devs m one.found) up one.kept in
      record {
        found = one.found;
        stands = subst (λ (m : PoolMode). StandsFor pool.serial (in_use (record pool { mode = m }) devs) c one.found) up one.stands;
        kept = held_as ∙ ap (λ (q : PoolState). Some q) (sym (recorded_twice pool));
        borne = λ e. absurd (cc);
        others = subst (λ (m : PoolMode). (q k : ℕ) (d : Path × ℕ) → q ≢ pool.serial → slice_get (in_use (record pool { mode = m }) devs) k ≡ Some d → NoneOrGone (newest_on q d.1 (c d.0))) up one.others;
      });
}
stopped_from pool devs s (Down call) down kept = record {
  all = λ c leaves. (
      let one = kept.all c (subst (λ (m : PoolMode). LeftInUse (record pool { mode = m }) devs s c) (sym down) leaves) in
      let held_as : Survives pool call devs one.found = subst (λ (m : PoolMode). IsKeptAs pool devs m one.found) down one.kept in
      record {
        found = one.found;
        stands = subst (λ (m : PoolMode). StandsFor pool.serial (in_use (record pool { mode = m }) devs) c one.found) down one.stands;
        kept = survives_same call pool devs one.found held_as;
        borne = λ e. absurd (cc);
        others = subst (λ (m : PoolMode). (q k : ℕ) (d : Path × ℕ) → q ≢ pool.serial → slice_get (in_use (record pool { mode = m }) devs) k ≡ Some d → NoneOrGone (newest_on q d.1 (c d.0))) down one.others;
      });
}
stopped_from pool devs s Stopped e kept = kept
stopped_from pool devs s (Unsettled call) e kept = kept
stopped_from pool devs s (Incomplete path) e kept = kept

pub kept_halted : (pool : PoolState) (devs : Devices) (s : State) → Kept pool devs s → Kept (halted pool) devs s
kept_halted pool devs s kept = stopped_from pool devs s pool.mode refl kept
