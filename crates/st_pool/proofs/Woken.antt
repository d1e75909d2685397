-- What the model makes of a pool that is started, by the books that were found.
use Rattle.std.proofs.Common.{◌≡◌, ℕ, ◌+◌, ◌<◌, ◌==◌, Bool, true, false, bytes_eq, List, [], ◌∷◌, map, length, option_map, Option, Some, None, refl, sym, ◌∙◌, ap, subst, arith}
use Rattle.std.proofs.lemmas.Bool.Decides.{nat_tests}
use Rattle.st_limits.specs.declared.TheConstants.{MAX_COMMITS}
use Rattle.st_units.specs.declared.cause.Cause.TheVariants.{DeviceFault, PoolVanished}
use Rattle.st_units.specs.declared.rows.DevRow.{DevRow}
use Rattle.st_units.specs.declared.rows.FsRow.{FsRow}
use Rattle.st_poolrec.specs.declared.record.PoolRec.{PoolRec}
use Rattle.st_flexlog.specs.declared.state.FlexState.{FlexState}
use Rattle.st_flexlog.specs.declared.state.Mapping.{Mapping}
use Rattle.st_seg.specs.Blocks.{blocks_of}
use Rattle.st_model.specs.declared.call.Call.{Call}
use Rattle.st_model.specs.declared.call.Call.TheVariants.{CreatePool, DestroyPool, RenamePool}
use Rattle.st_model.specs.declared.entry.Env.TheVariants.{Plain, FaultWrite, After, Before}
use Rattle.st_model.specs.declared.state.FsState.{FsState}
use Rattle.st_model.specs.declared.state.PoolMode.TheVariants.{Up, Stopped, Unsettled}
use Rattle.st_model.specs.declared.state.PoolState.{PoolState}
use Rattle.st_model.specs.Answer.{refused}
use Rattle.st_model.specs.Checks.{cold, cooled, settled}
use Rattle.st_model.specs.Local.{Outcome}
use Rattle.st_model.specs.Look.{Text, distinct}
use Rattle.st_model.specs.Merged.{merged}
use Rattle.st_model.specs.Step.{can_start}
use Rattle.st_model.specs.Sums.{cache_rows}
use Rattle.st_model.specs.steps.CreatePool.{create_answer, data_rows, new_pool}
use Rattle.st_model.specs.steps.RenamePool.{renamed}
use Rattle.st_model.specs.steps.StartPool.{started_reply}
use Rattle.st_rack.specs.Device.{Path, Image}
use Rattle.st_rack.specs.Calls.{Devices}
use Rattle.st_image.specs.Stands.{cell_rows, cells_of, cold_cache, filesystems_of, map_of, state_of}
use Rattle.st_image.specs.Survivors.{row_of}
use Rattle.st_books.specs.declared.books.Books.{Books}
use Rattle.st_books.specs.Ready.{stood}
use Rattle.st_making.proofs.Made.{first_blocks, no_cache}
use Rattle.st_told.specs.Told.{AreFirst, AreLike}
use Rattle.st_onestart.specs.Alone.{StartsAlone, none_in, only}
use Rattle.st_pool.specs.Starts.{alone_start}
use Rattle.st_pool.specs.View.{engine_of, pool_with}

-- a pool without filesystems, with an empty cache, is what it was once it is up
pub up_as : (q : PoolState) (rows : List DevRow) → q.filesystems ≡ [] → q.cells ≡ [] → q.cache ≡ cold_cache rows → settled q ≡ record q { mode = Up }
up_as q rows fs cells cache = subst (λ (x : PoolState). settled x ≡ record x { mode = Up }) (λ i. record q { filesystems = sym fs i; cells = sym cells i; cache = sym cache i }) (by rows)
  where
    by : (rs : List DevRow) → settled (record q { filesystems = []; cells = []; cache = cold_cache rs }) ≡ record q { filesystems = []; cells = []; cache = cold_cache rs; mode = Up }
    by [] = refl
    by (r ∷ rs) = refl

-- Books without filesystems.
pub record AreBare (b : Books) : Type 0 where
  pub filesystems : b.flex.filesystems ≡ []
  pub mappings : b.flex.mappings ≡ []

pub no_filesystems : (b : Books) → AreBare b → filesystems_of b.flex ≡ []
no_filesystems b bare = ap (λ (rows : List FsRow). map (λ (row : FsRow). record { row = row; map = map_of b.flex.mappings row.serial }) rows) bare.filesystems

pub no_cells : (b : Books) (m : Image) → AreBare b → cells_of b.rec (cell_rows b.flex.mappings) m ≡ []
no_cells b m bare = ap (λ (ms : List Mapping). cells_of b.rec (cell_rows ms) m) bare.mappings

module _ (b : Books) (bare : AreBare b) (m : Image) where
  pub settled_books : settled (state_of b.generation b.rec b.flex m) ≡ pool_with b None m
  settled_books = up_as (state_of b.generation b.rec b.flex m) (cache_rows b.rec.devs) (no_filesystems b bare) (no_cells b m bare) refl

  pub settled_flying : (call : Call) → settled (record (pool_with b (Some call) m) { mode = Unsettled call }) ≡ pool_with b None m
  settled_flying call = up_as (record (pool_with b (Some call) m) { mode = Unsettled call }) (cache_rows b.rec.devs) (no_filesystems b bare) (no_cells b m bare) refl

-- books that say what others say
pub like_with : (name : List ℕ) (g : ℕ) (k b : Books) (m n : Image) → AreBare k → AreBare b → AreLike name g k b → pool_with b None m ≡ record (pool_with k None n) { name = name; commits = g }
like_with name g k b m n bare_k bare_b like = (λ i. record {
  serial = like.rec.serial i;
  name = like.rec.named i;
  mode = Up;
  devices = like.rec.devs i;
  filesystems = (no_filesystems b bare_b ∙ sym (no_filesystems k bare_k)) i;
  cells = (no_cells b m bare_b ∙ sym (no_cells k n bare_k)) i;
  next_cell = like.flex.next_cell i;
  next_filesystem = like.flex.next_fs i;
  allocated = length (blocks_of (like.rec.segments i));
  filesystem_limit = like.rec.fs_limit i;
  overprovisioning = like.rec.overprovisioning i;
  commits = like.generation i;
  cache = cold_cache (cache_rows (like.rec.devs i));
})

-- the books of a new pool
pub first_with : (name : List ℕ) (b : Books) (m : Image) → AreBare b → AreFirst name b → pool_with b None m ≡ new_pool b.rec.serial name b.rec.devs
first_with name b m bare first = (λ i. record {
  serial = b.rec.serial;
  name = first.named i;
  mode = Up;
  devices = b.rec.devs;
  filesystems = no_filesystems b bare i;
  cells = no_cells b m bare i;
  next_cell = first.next_cell i;
  next_filesystem = first.next_fs i;
  allocated = (ap (λ ss. length (blocks_of ss)) first.segments ∙ first_blocks) i;
  filesystem_limit = first.fs_limit i;
  overprovisioning = first.overprovisioning i;
  commits = first.generation i;
  cache = cold_cache (no_cache b.rec.devs first.rows i);
})

module _ (law : StartsAlone) (devs : Devices) where
  abbrev rows : List DevRow
  rows = map row_of devs

  -- without a call in flight
  pub plain_start : (b : Books) → AreBare b → (m : Image) → alone_start (stood b m) devs Plain ≡ Some (started_reply (stood b m), engine_of (pool_with b None m) devs)
  plain_start b bare m =
      law.stopped (stood b m) rows (b.rec.serial + 1) refl
      ∙ ap (λ (q : PoolState). Some (started_reply (stood b m), only q rows (b.rec.serial + 1))) (settled_books b bare m)

  module _ (k b : Books) (bare_k : AreBare k) (bare_b : AreBare b) (m n : Image) where
    abbrev flown : Call → PoolState
    flown call = record (pool_with k (Some call) m) { mode = Unsettled call }

    -- what was found is the pool as it was
    same_engine : AreLike k.rec.name k.generation k b → only (pool_with k None m) rows (k.rec.serial + 1) ≡ engine_of (pool_with b None n) devs
    same_engine like = ap (λ (q : PoolState). engine_of q devs) (sym (like_with k.rec.name k.generation k b n m bare_k bare_b like))

    pub rename_before : (name new : Text) → AreLike k.rec.name k.generation k b → alone_start (flown (RenamePool name new)) devs (Before []) ≡ Some (started_reply (flown (RenamePool name new)), engine_of (pool_with b None n) devs)
    rename_before name new like =
        law.rename_before (flown (RenamePool name new)) rows (k.rec.serial + 1) name new refl
        ∙ ap (λ (q : PoolState). Some (started_reply (flown (RenamePool name new)), only q rows (k.rec.serial + 1))) (settled_flying k bare_k m (RenamePool name new))
        ∙ ap (λ e. Some (started_reply (flown (RenamePool name new)), e)) (same_engine like)

    pub end_before : (name : Text) → AreLike k.rec.name k.generation k b → alone_start (flown (DestroyPool name)) devs (Before []) ≡ Some (started_reply (flown (DestroyPool name)), engine_of (pool_with b None n) devs)
    end_before name like =
        law.end_before (flown (DestroyPool name)) rows (k.rec.serial + 1) name refl
        ∙ ap (λ (q : PoolState). Some (started_reply (flown (DestroyPool name)), only q rows (k.rec.serial + 1))) (settled_flying k bare_k m (DestroyPool name))
        ∙ ap (λ e. Some (started_reply (flown (DestroyPool name)), e)) (same_engine like)

    not_last : k.generation < MAX_COMMITS → (k.generation == MAX_COMMITS) ≡ false
    not_last lt = grind (arith, nat_tests)

    pub rename_after : (new : Text) → bytes_eq k.rec.name new ≡ false → k.generation < MAX_COMMITS → AreLike new (k.generation + 1) k b
        → alone_start (flown (RenamePool k.rec.name new)) devs After ≡ Some (started_reply (flown (RenamePool k.rec.name new)), engine_of (pool_with b None n) devs)
    rename_after new other lt like =
        law.rename_after (flown (RenamePool k.rec.name new)) rows (k.rec.serial + 1) new refl other (not_last lt)
        ∙ ap (λ (q : PoolState). Some (started_reply (flown (RenamePool k.rec.name new)), only q rows (k.rec.serial + 1)))
        (up_as (renamed new (pool_with k None m)) (cache_rows k.rec.devs) (no_filesystems k bare_k) (no_cells k m bare_k) refl)
        ∙ ap (λ (q : PoolState). Some (started_reply (flown (RenamePool k.rec.name new)), engine_of q devs)) (sym (like_with new (k.generation + 1) k b n m bare_k bare_b like))

  -- the end was found done
  pub end_after : (k : Books) → AreBare k → (m : Image) → k.generation < MAX_COMMITS
      → alone_start (record (pool_with k (Some (DestroyPool k.rec.name)) m) { mode = Unsettled (DestroyPool k.rec.name) }) devs After
      ≡ Some (refused PoolVanished, record (engine_of (record (pool_with k (Some (DestroyPool k.rec.name)) m) { mode = Unsettled (DestroyPool k.rec.name) }) devs) { pools = [] })
  end_after k bare m lt =
      law.end_after (record (pool_with k (Some (DestroyPool k.rec.name)) m) { mode = Unsettled (DestroyPool k.rec.name) }) rows (k.rec.serial + 1) refl (no_filesystems k bare) less
    where
      less : (k.generation == MAX_COMMITS) ≡ false
      less = grind (arith, nat_tests)

  -- the making was found done, or nothing of it
  pub make_before : (pool : PoolState) (name : Text) (list : List Path) → pool.mode ≡ Unsettled (CreatePool name list) → alone_start pool devs (Before []) ≡ Some (refused PoolVanished, record (engine_of pool devs) { pools = [] })
  make_before pool name list is = law.make_before pool rows (pool.serial + 1) name list is

  pub make_after : (pool : PoolState) (name : Text) (list : List Path) (b : Books) (n : Image) → pool.mode ≡ Unsettled (CreatePool name list) → pool.serial ≡ b.rec.serial → AreBare b → AreFirst name b
      → create_answer (none_in rows pool.serial) name list ≡ None → data_rows rows (distinct list) ≡ b.rec.devs
      → alone_start pool devs After ≡ Some (started_reply pool, engine_of (pool_with b None n) devs)
  make_after pool name list b n is serial bare first free made =
      law.make_after pool rows (pool.serial + 1) name list is free
      ∙ ap (λ (q : PoolState). Some (started_reply pool, only q rows (pool.serial + 1))) (up_as (new_pool pool.serial name (data_rows rows (distinct list))) [] refl refl refl)
      ∙ (λ i. Some (started_reply pool, only (new_pool (serial i) name (made i)) rows (serial i + 1)))
      ∙ ap (λ (q : PoolState). Some (started_reply pool, engine_of q devs)) (sym (first_with name b n bare first))

  -- a device failed
  pub fails : (pool : PoolState) → can_start pool.mode ≡ true → alone_start pool devs FaultWrite ≡ Some (refused DeviceFault, engine_of pool devs)
  fails pool can = law.fails pool rows (pool.serial + 1) can
