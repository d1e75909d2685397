-- the calls that add devices keep validity
use Rattle.std.proofs.Common.{◌≡◌, ◌≢◌, ℕ, ◌+◌, ◌-◌, ◌^◌, ◌≤◌, ◌==◌, ◌&&◌, ◌||◌, ◌⊎◌, inl, inr, List, [], ◌∷◌, ◌++◌, length, Bool, true, false, cond, filter, map, Option, Some, None, is_some, bytes_eq, nat_lt, refl, sym, ◌∙◌, subst, length-append, arith}
use Rattle.std.specs.List.{AllByRecursion, sum_by}
use Rattle.std.proofs.lemmas.Grind.{common_steps}
use Rattle.std.proofs.lemmas.List.{length-map}
use Rattle.std.proofs.lemmas.Slice.Eq.{bytes_eq-Decides}
use Rattle.st_limits.specs.Sums.{usable_blocks}
use Rattle.st_units.specs.declared.cause.Cause.TheVariants.{DeviceTooSmall, NoSuchDevice, TooManyDevices}
use Rattle.st_units.specs.declared.rows.DevRow.{DevRow}
use Rattle.st_model.specs.declared.reply.Given.TheVariants.{Added}
use Rattle.st_model.specs.declared.reply.Reply.{Reply}
use Rattle.st_model.specs.declared.state.CacheState.{CacheState}
use Rattle.st_model.specs.declared.state.EngineState.{EngineState}
use Rattle.st_model.specs.declared.state.PoolMode.{PoolMode}
use Rattle.st_model.specs.declared.state.PoolMode.TheVariants.{Up}
use Rattle.st_model.specs.declared.state.PoolState.{PoolState}
use Rattle.st_model.specs.Answer.{accepted, first_answer, unless_answered}
use Rattle.st_model.specs.Checks.{cold, first_small, rows_on, sectors_of, worn}
use Rattle.st_model.specs.Flight.{new_to}
use Rattle.st_model.specs.Lifted.{changed, one_changed, runs_as}
use Rattle.st_model.specs.Look.{Text, distinct, first_absent, first_used, flight_of, has_path, holds, is_called, is_up, row_of, takes_path, uses}
use Rattle.st_model.specs.Parts.{pool_at}
use Rattle.st_model.specs.Sums.{data_tier, sectors_in}
use Rattle.st_model.specs.Valid.{Apart, AreRackRows, AreThere, IsRow, IsValid, is_there}
use Rattle.st_model.specs.ValidPool.{AreDevices, EachPair, IsCacheOf, IsValidFs, IsValidIn, IsWhole, StartsWithData}
use Rattle.st_model.specs.declared.state.FsState.{FsState}
use Rattle.st_model.specs.steps.AddDevices.{Adding, add_answers, add_devices, add_found, with_devices}
use Rattle.st_model.proofs.AddKind.{All-new}
use Rattle.st_model.proofs.Answers0.{IsNoChange, none_answers, not_there, not_worn, so_not}
use Rattle.st_model.proofs.EachKind.{IsGood}
use Rattle.st_model.proofs.Flights.{found-holds}
use Rattle.st_model.proofs.Fresh.{FreeOf, no_less, no_user, none_refused, none_used}
use Rattle.st_model.proofs.Kept.{changed-good, up_mode}
use Rattle.st_model.proofs.Lists.{All-map, All-weaker, EachPair-filter, EachPair-map, at_path, distinct-differ, found_passes, none_found}
use Rattle.st_model.proofs.NewPool.{row_there, small_row}
use Rattle.st_model.proofs.Totals.{total, total-is}
use Rattle.st_model.proofs.ValidCreateFs.{All-append, EachPair-append, turned}
use Rattle.st_model.proofs.ValidMaking.{has_row}
use Rattle.st_model.proofs.ValidRename.{EachPair-with}

both : (a b : Bool) → (a && b) ≡ true → (a ≡ true) × (b ≡ true)
both true true h = (refl, refl)
both true false h = absurd cc
both false b h = absurd cc

either : (a b : Bool) → (a || b) ≡ true → (a ≡ true) ⊎ (b ≡ true)
either true b h = inl refl
either false b h = inr h

or_left : (a b : Bool) → a ≡ true → (a || b) ≡ true
or_left true b h = refl
or_left false b h = absurd cc

or_right : (a b : Bool) → b ≡ true → (a || b) ≡ true
or_right true b h = refl
or_right false b h = h

pub none_left : (a b : Bool) → (a || b) ≡ false → a ≡ false
none_left true b h = absurd cc
none_left false b h = refl

clash : (b : Bool) → b ≡ false → b ≡ true → ⊥
clash b f t = absurd cc

unequal : (a b : Text) → bytes_eq a b ≡ false → a ≢ b
unequal a b h e = clash (bytes_eq a b) h ((bytes_eq-Decides a b).1 e)

not_more : (n : ℕ) → nat_lt 16 n ≡ false → n ≤ 16
not_more n h = grind (arith, common_steps)

-- what is known where nothing stands against the call
pub record IsAddable (a : Adding) (s : EngineState) (p : PoolState) (new : List Text) : Type 0 where
  pub some : (length new == 0) ≡ false
  pub there : AllByRecursion (λ path. is_there s.devices path ≡ true) new
  pub refusal : a.refusal p.cache ≡ None
  pub free : AllByRecursion (FreeOf s.pools) new
  pub large : AllByRecursion (λ path. 8192 ≤ sectors_of path s.devices) new
  pub few : length p.devices + length new ≤ 16
  pub fresh : worn p ≡ None
  pub distinct : EachPair (λ (x y : Text). x ≢ y) new

not_empty : (b : Bool) → cond b (Some (accepted (Added false []))) None ≡ None → b ≡ false
not_empty true h = absurd cc
not_empty false h = refl

not_absent : (o : Option DevRow) → Rattle.std.specs.Prelude.is_none o ≡ false → is_some o ≡ true
not_absent None h = absurd cc
not_absent (Some row) h = refl

pub addable : (a : Adding) (s : EngineState) (devices : List Text) (p : PoolState) → first_answer (add_answers a s devices (new_to (a.there p.devices) devices) p) ≡ None → IsAddable a s p (new_to (a.there p.devices) devices)
addable a s devices p h =
    let new = new_to (a.there p.devices) devices in
    let all = none_answers (add_answers a s devices new p) h in
    let rest = all.1.1.1 in
    let absent : first_absent devices s.devices ≡ None = none_refused NoSuchDevice (first_absent devices s.devices) all.1.1.0 in
    let unused : first_used new s.pools ≡ None = none_used s.pools (first_used new s.pools) (λ path e. found_passes _ new path e) rest.1.1.0 in
    let small : first_small new s.devices ≡ None = none_refused DeviceTooSmall (first_small new s.devices) rest.1.1.1.0 in
    record {
      some = not_empty (length new == 0) rest.0;
      there = All-new _ (a.there p.devices) devices (All-weaker _ _ devices (λ path. not_absent (row_of path s.devices)) (none_found _ devices absent));
      refusal = rest.1.0;
      free = All-weaker _ _ new (no_user s.pools) (none_found _ new unused);
      large = All-weaker _ _ new (λ path. no_less (sectors_of path s.devices)) (none_found _ new small);
      few = not_more (length p.devices + length new) (so_not _ TooManyDevices rest.1.1.1.1.0);
      fresh = rest.1.1.1.1.1.0;
      distinct = EachPair-filter _ _ (distinct devices) (distinct-differ devices);
    }

-- no pool that is known uses one of the new devices
abbrev pub IsWithout : List Text → PoolState → Type 0
IsWithout new p = AllByRecursion (λ path. uses path p ≡ false) new

pub all_without : (ps : List PoolState) (new : List Text) → AllByRecursion (FreeOf ps) new → AllByRecursion (IsWithout new) ps
all_without ps new h = turned (λ (p : PoolState) (path : Text). uses path p ≡ false) ps new h

-- a change by which a pool may gain these devices, and nothing else that others see
pub record Takes (new : List Text) (p q : PoolState) : Type 0 where
  pub serial : q.serial ≡ p.serial
  pub names : (n : Text) → holds n q ≡ holds n p
  pub devices : (path : Text) → uses path q ≡ true → (uses path p ≡ true) ⊎ (has_path path new ≡ true)

record IsPart (name : Text) (new : List Text) (p q : PoolState) : Type 0 where
  serial : q.serial ≡ p.serial
  names : (n : Text) → holds n q ≡ holds n p
  devices : (path : Text) → uses path q ≡ true → (uses path p ≡ true) ⊎ ((has_path path new ≡ true) × (holds name p ≡ true))

part_of : (name : Text) (new : List Text) (g : PoolState → PoolState) → ((p : PoolState) → p.mode ≡ Up → Takes new p (g p)) → (p : PoolState) → IsPart name new p (one_changed name g p)
part_of name new g h p = here (runs_as name p) refl
  where
    more : holds name p ≡ true → (path : Text) → (uses path p ≡ true) ⊎ (has_path path new ≡ true) → (uses path p ≡ true) ⊎ ((has_path path new ≡ true) × (holds name p ≡ true))
    more own path (inl u) = inl u
    more own path (inr e) = inr (e, own)

    here : (b : Bool) → runs_as name p ≡ b → IsPart name new p (cond b (g p) p)
    here true e =
        let runs = both (is_up p.mode) (is_called name p) e in
        let takes = h p (up_mode p.mode runs.0) in
        record { serial = takes.serial; names = takes.names; devices = λ path u. more (or_left (is_called name p) _ runs.1) path (takes.devices path u) }
    here false e = record { serial = refl; names = λ n. refl; devices = λ path u. inl u }

apart_taken : (rows : List DevRow) (name : Text) (new : List Text) (g : PoolState → PoolState) → ((p : PoolState) → p.mode ≡ Up → Takes new p (g p)) → (p q : PoolState) → IsWithout new p → IsWithout new q
    → Apart rows p q → Apart rows (one_changed name g p) (one_changed name g q)
apart_taken rows name new g h p q fp fq a =
    let pp = part_of name new g h p in
    let qq = part_of name new g h q in
    record {
      names = λ n x y. a.names n (sym (pp.names n) ∙ x) (sym (qq.names n) ∙ y);
      serials = rw (pp.serial, qq.serial) a.serials;
      devices = λ path t x y. here path t (pp.devices path x) (qq.devices path y);
    }
  where
    here : (path : Text) → is_there rows path ≡ true → (uses path p ≡ true) ⊎ ((has_path path new ≡ true) × (holds name p ≡ true)) → (uses path q ≡ true) ⊎ ((has_path path new ≡ true) × (holds name q ≡ true)) → ⊥
    here path t (inl x) (inl y) = a.devices path t x y
    here path t (inl x) (inr y) = clash (uses path p) (at_path (λ z. uses z p ≡ false) path new fp y.0) x
    here path t (inr x) (inl y) = clash (uses path q) (at_path (λ z. uses z q ≡ false) path new fq x.0) y
    here path t (inr x) (inr y) = a.names name x.1 y.1

-- a pool may gain devices that no pool uses
pub takes-apart : (s : EngineState) (name : Text) (new : List Text) (g : PoolState → PoolState) → AllByRecursion (FreeOf s.pools) new → ((p : PoolState) → p.mode ≡ Up → Takes new p (g p)) → EachPair (Apart s.devices) s.pools
    → EachPair (Apart s.devices) (map (one_changed name g) s.pools)
takes-apart s name new g free h apart =
    EachPair-map (Apart s.devices) (one_changed name g) s.pools (EachPair-with (IsWithout new) _ _ s.pools (apart_taken s.devices name new g h) (all_without s.pools new free) apart)

pub row_either : (path : Text) (xs ys : List DevRow) → is_some (row_of path (xs ++ ys)) ≡ true → (is_some (row_of path xs) ≡ true) ⊎ (is_some (row_of path ys) ≡ true)
row_either path [] ys h = inr h
row_either path (x ∷ xs) ys h = here (bytes_eq x.path path) h (row_either path xs ys)
  where
    here : (b : Bool) → is_some (cond b (Some x) (row_of path (xs ++ ys))) ≡ true → (is_some (row_of path (xs ++ ys)) ≡ true → (is_some (row_of path xs) ≡ true) ⊎ (is_some (row_of path ys) ≡ true))
        → (is_some (cond b (Some x) (row_of path xs)) ≡ true) ⊎ (is_some (row_of path ys) ≡ true)
    here true h f = inl refl
    here false h f = f h

pub added_takes : (a : Adding) (rack : List DevRow) (new : List Text) (p : PoolState) → p.mode ≡ Up → Takes new p (with_devices a rack new p)
added_takes a rack new p up = record {
  serial = refl;
  names = λ n. refl;
  devices = λ path h. here path (either (is_some (row_of path (p.devices ++ rows_on a.tier rack new))) (takes_path path (flight_of p.mode)) h);
}
  where
    of_row : (path : Text) → (is_some (row_of path p.devices) ≡ true) ⊎ (is_some (row_of path (rows_on a.tier rack new)) ≡ true) → (uses path p ≡ true) ⊎ (has_path path new ≡ true)
    of_row path (inl e) = inl (or_left (is_some (row_of path p.devices)) _ e)
    of_row path (inr e) = inr (has_row path a.tier rack new e)

    here : (path : Text) → (is_some (row_of path (p.devices ++ rows_on a.tier rack new)) ≡ true) ⊎ (takes_path path (flight_of p.mode) ≡ true) → (uses path p ≡ true) ⊎ (has_path path new ≡ true)
    here path (inl e) = of_row path (row_either path p.devices (rows_on a.tier rack new) e)
    here path (inr e) = inl (or_right (is_some (row_of path p.devices)) _ e)

-- what each of the three calls owes of its cache
pub record IsAdding (a : Adding) : Type 0 where
  pub kept : (rack : List DevRow) (new : List Text) (p : PoolState) → IsWhole p → a.refusal p.cache ≡ None → (length new == 0) ≡ false → IsCacheOf (with_devices a rack new p) (a.cache (p.devices ++ rows_on a.tier rack new) p.cache)
  pub no_change : (o : Option CacheState) → IsNoChange (a.refusal o)
  pub cold : (o : Option CacheState) → a.refusal o ≡ None → a.refusal (cold o) ≡ None

-- with more devices a tier has no fewer blocks
more_total : (f : DevRow → Bool) (xs ys : List DevRow) → total usable_blocks (sectors_in (filter f xs)) ≤ total usable_blocks (sectors_in (filter f (xs ++ ys)))
more_total f [] ys = omega arith
more_total f (x ∷ xs) ys = here (f x) (more_total f xs ys)
  where
    here : (b : Bool) → total usable_blocks (sectors_in (filter f xs)) ≤ total usable_blocks (sectors_in (filter f (xs ++ ys)))
        → total usable_blocks (sectors_in (cond b (x ∷ filter f xs) (filter f xs))) ≤ total usable_blocks (sectors_in (cond b (x ∷ filter f (xs ++ ys)) (filter f (xs ++ ys))))
    here true h = omega (arith, h)
    here false h = h

pub more_blocks : (f : DevRow → Bool) (xs ys : List DevRow) → sum_by usable_blocks (sectors_in (filter f xs)) ≤ sum_by usable_blocks (sectors_in (filter f (xs ++ ys)))
more_blocks f xs ys =
    let before = total-is usable_blocks (sectors_in (filter f xs)) in
    let after = total-is usable_blocks (sectors_in (filter f (xs ++ ys))) in
    let more = more_total f xs ys in
    omega (arith, before, after, more)

starts : (xs ys : List DevRow) → StartsWithData xs → StartsWithData (xs ++ ys)
starts [] ys h = absurd h
starts (x ∷ xs) ys h = h

not_used : (p : PoolState) (path : Text) → uses path p ≡ false → AllByRecursion (λ (row : DevRow). row.path ≢ path) p.devices
not_used p path h =
    let none : row_of path p.devices ≡ None = not_there (row_of path p.devices) (none_left (is_some (row_of path p.devices)) _ h) in
    All-weaker _ _ p.devices (λ row e. unequal row.path path e) (none_found _ p.devices none)

all_small : (rack : List DevRow) (new : List Text) → AllByRecursion (λ (row : DevRow). row.sectors ≤ 2 ^ 32) rack → AllByRecursion (λ path. sectors_of path rack ≤ 2 ^ 32) new
all_small rack [] h = tt
all_small rack (path ∷ new) h = (small_row path rack h, all_small rack new h)

added-devices : (a : Adding) (s : EngineState) (new : List Text) (p : PoolState) → AreRackRows s.devices → IsWithout new p → IsAddable a s p new → AreDevices p.devices → AreDevices (p.devices ++ rows_on a.tier s.devices new)
added-devices a s new p rack free ok h =
    let rows = rows_on a.tier s.devices new in
    let longer : length (p.devices ++ rows) ≡ length p.devices + length rows = length-append p.devices rows in
    let same : length rows ≡ length new = length-map new _ in
    let few = ok.few in
    record {
      first = starts p.devices rows h.first;
      small = record {
        few = rw longer (omega (arith, same, few));
        small = All-append _ p.devices rows h.small.small (All-map (λ (row : DevRow). row.sectors ≤ 2 ^ 32) _ new (all_small s.devices new rack.small));
      };
      large = All-append _ p.devices rows h.large (All-map (λ (row : DevRow). 8192 ≤ row.sectors) _ new ok.large);
      distinct = EachPair-append (λ (x y : DevRow). x.path ≢ y.path) p.devices rows h.distinct (EachPair-map (λ (x y : DevRow). x.path ≢ y.path) _ new ok.distinct)
          (turned (λ (x y : DevRow). x.path ≢ y.path) p.devices rows (All-map (λ (y : DevRow). AllByRecursion (λ (x : DevRow). x.path ≢ y.path) p.devices) _ new (All-weaker _ _ new (not_used p) free)));
    }

fs_alike : (p q : PoolState) → q.filesystems ≡ p.filesystems → q.next_filesystem ≡ p.next_filesystem → q.next_cell ≡ p.next_cell → q.cells ≡ p.cells → (fs : FsState) → IsValidFs p fs → IsValidFs q fs
fs_alike p q e n c k fs h = record {
  from_one = h.from_one;
  below_next = rw n h.below_next;
  size = h.size;
  limit = h.limit;
  origin = rw e h.origin;
  mark = rw e h.mark;
  map = h.map;
  mapped = All-weaker _ _ fs.map (λ entry m. record { within = m.within; from_one = m.from_one; below_next = rw c m.below_next; kept = rw k m.kept }) h.mapped;
}

pub added-whole : (a : Adding) → IsAdding a → (s : EngineState) (new : List Text) (p : PoolState) → AreRackRows s.devices → IsWithout new p → IsAddable a s p new → IsWhole p → IsWhole (with_devices a s.devices new p)
added-whole a adding s new p rack free ok h =
    let q = with_devices a s.devices new p in
    let rows = rows_on a.tier s.devices new in
    let more = more_blocks (λ (row : DevRow). Rattle.st_model.specs.Sums.is_data row.tier) p.devices rows in
    let fits : p.allocated ≤ sum_by usable_blocks (sectors_in (data_tier p.devices)) - 26 = h.allocated in
    let less = not_worn p ok.fresh h.commits in
    let cells = h.cell_bounded in
    let serials = h.filesystem_bounded in
    record {
      devices = added-devices a s new p rack free ok h.devices;
      ordered = h.ordered;
      filesystems = All-weaker _ _ p.filesystems (fs_alike p q refl refl refl refl) h.filesystems;
      count = h.count;
      mappings = h.mappings;
      cell_map = h.cell_map;
      cells = All-weaker _ _ p.cells (λ entry c. record { mapped = c.mapped; full = c.full }) h.cells;
      used = h.used;
      allocated = omega (arith, more, fits);
      cell_from_one = h.cell_from_one;
      cell_bounded = omega (arith, cells);
      filesystem_from_one = h.filesystem_from_one;
      filesystem_bounded = omega (arith, serials);
      commits = omega (arith, less);
      limit = h.limit;
      cache = adding.kept s.devices new p h ok.refusal ok.some;
    }

pub added-good : (a : Adding) → IsAdding a → (s : EngineState) (new : List Text) (p : PoolState) → p.mode ≡ Up → AreRackRows s.devices → IsWithout new p → IsAddable a s p new → IsGood s.next s.devices p → IsGood s.next s.devices (with_devices a s.devices new p)
added-good a adding s new p up rack free ok good =
    let old : IsWhole p = subst (λ (m : PoolMode). IsValidIn p m) up good.valid.state in
    let whole = added-whole a adding s new p rack free ok old in
    let there : AllByRecursion (IsRow s.devices) p.devices = subst (λ (m : PoolMode). AreThere s.devices p m) up good.there in
    let all : AllByRecursion (IsRow s.devices) (p.devices ++ rows_on a.tier s.devices new) =
    All-append _ p.devices (rows_on a.tier s.devices new) there (All-map (IsRow s.devices) _ new (All-weaker _ _ new (λ path. row_there path (row_of path s.devices)) ok.there)) in
    record {
      valid = record {
        serial = good.valid.serial;
        from_one = good.valid.from_one;
        devices = whole.devices.small;
        state = subst (λ (m : PoolMode). IsValidIn (with_devices a s.devices new p) m) (sym up) whole;
      };
      there = subst (λ (m : PoolMode). AreThere s.devices (with_devices a s.devices new p) m) (sym up) all;
      on = rw up tt;
      flight = rw up tt;
    }

pub add-valid : (a : Adding) → IsAdding a → (s : EngineState) (name : Text) (devices : List Text) → IsValid s → IsValid (add_devices a name devices s).1
unfolding add_devices
add-valid a adding s name devices v = here (pool_at name s.pools) refl
  where
    done : (p : PoolState) → pool_at name s.pools ≡ Some p → first_answer (add_answers a s devices (new_to (a.there p.devices) devices) p) ≡ None → IsValid (changed name (with_devices a s.devices (new_to (a.there p.devices) devices)) s)
    done p at none =
        let new = new_to (a.there p.devices) devices in
        let ok = addable a s devices p none in
        changed-good s name (with_devices a s.devices new) v (takes-apart s name new (with_devices a s.devices new) ok.free (added_takes a s.devices new) v.apart)
        (λ q o good.
        let same : q ≡ p = (let e : Some q ≡ Some p = sym o.found ∙ at in cc) in
        added-good a adding s new q o.is_up v.rack (found-holds (IsWithout new) (is_called name) s.pools q (all_without s.pools new ok.free) o.found)
        (subst (λ (x : PoolState). IsAddable a s x new) (sym same) ok) good)

    answered : (p : PoolState) (x : Option Reply) (r : Reply) → (x ≡ None → IsValid (changed name (with_devices a s.devices (new_to (a.there p.devices) devices)) s))
        → IsValid (unless_answered x s (r, changed name (with_devices a s.devices (new_to (a.there p.devices) devices)) s)).1
    answered p None r h = h refl
    answered p (Some q) r h = v

    here : (o : Option PoolState) → pool_at name s.pools ≡ o → IsValid (add_found a s name devices o).1
    here None at = v
    here (Some p) at = answered p (first_answer (add_answers a s devices (new_to (a.there p.devices) devices) p)) _ (done p at)
