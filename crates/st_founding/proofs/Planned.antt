-- What is known of free devices on which a pool may be founded.
use Rattle.std.proofs.Common.{◌≡◌, inr, ℕ, ◌≤◌, arith, Bool, true, false, cond, length, List, nat_lt, Some, None, refl, sym, ap, subst, ◌∙◌}
use Rattle.std.specs.Prelude.{option_map}
use Rattle.std.specs.List.{AllByRecursion, IsDistinct}
use Rattle.std.specs.Str.{bytes_eq}
use Rattle.st_units.specs.declared.rows.DevRow.{DevRow}
use Rattle.st_model.specs.declared.state.EngineState.{EngineState}
use Rattle.st_model.specs.declared.state.TableState.{TableState}
use Rattle.st_model.specs.Checks as checks
use Rattle.st_model.specs.Look.{Text, distinct, has_path, row_of}
use Rattle.st_model.specs.Parts.{table_of}
use Rattle.st_model.specs.Valid.{is_there}
use Rattle.st_model.proofs.Fresh.{FreeOf, IsFresh, create_fresh}
use Rattle.st_model.proofs.Lists.{All-distinct, at_path, distinct-differ}
use Rattle.st_model.proofs.NewPool.{row_there, small_row}
use Rattle.st_slots.specs.Reading.{read_slot}
use Rattle.st_rack.specs.Device.{Path, State}
use Rattle.st_rack.specs.Calls.{Devices, Has, names, sectors_of}
use Rattle.st_rack.specs.Parts.{Splits}
use Rattle.st_commit.specs.Ready.{IsOf}
use Rattle.st_commit.specs.Standing.{keep}
use Rattle.st_image.specs.Looks.{pool_area, slot_on}
use Rattle.st_pool.specs.Halts.{HaltedView}
use Rattle.st_pool.specs.Makes.{MayTake}
use Rattle.st_pool.specs.View.{now}
use Rattle.st_board.specs.Holds.{KeepsTable}
use Rattle.st_founding.specs.Founding.{MayFound}
use Rattle.st_founding.proofs.Once.{distinct_paths, named_at, once_some, places_apart, unused}

abbrev pub size_of : DevRow → ℕ
size_of row = row.sectors

not_less : (n : ℕ) → 8192 ≤ n → nat_lt n 8192 ≡ false
not_less n le = grind arith

module _ (s : EngineState) (t : TableState) (name : Text) (paths once : List Text) (may : MayFound s t name paths once) where
  pub fresh : IsFresh s name paths
  fresh = create_fresh s name paths may.unanswered

  each : (P : Text → Type 0) → AllByRecursion P paths → (path : Text) → has_path path once ≡ true → P path
  each P all path on = at_path P path (distinct paths) (All-distinct P paths all) (subst (λ (ps : List Text). has_path path ps ≡ true) may.each_once on)

  pub is_distinct : IsDistinct bytes_eq once
  is_distinct = subst (IsDistinct bytes_eq) (sym may.each_once) (distinct_paths (distinct paths) (distinct-differ paths))

  pub size : Text → ℕ
  size path = checks.sectors_of path s.devices

  pub large : (path : Text) → has_path path once ≡ true → 8192 ≤ checks.sectors_of path s.devices
  large path on = each (λ p. 8192 ≤ checks.sectors_of p s.devices) fresh.large path on

  pub row_is : (path : Text) → has_path path once ≡ true → option_map size_of (row_of path s.devices) ≡ Some (checks.sectors_of path s.devices)
  row_is path on = row_there path (row_of path s.devices) (each (λ p. is_there s.devices p ≡ true) fresh.there path on)

  module _ {D : Type 0} (devs : D → Devices) (moment : D → ℕ) (state_at : D → ℕ → State) (free : D) (halted : List (HaltedView D)) (h : KeepsTable devs moment state_at t free halted) where
    was : KeepsTable devs moment state_at (table_of s) free halted
    was = subst (λ x. KeepsTable devs moment state_at x free halted) (sym may.table) h

    pub free_has : (path : Text) → has_path path once ≡ true → Has (devs free) path (checks.sectors_of path s.devices)
    free_has path on =
        was.the_free path ∙ (ap (λ b. cond b None (option_map size_of (row_of path s.devices))) (unused path s.pools (each (FreeOf s.pools) fresh.paths_free path on)) ∙ row_is path on)

    pub there : (path : Path) → names once path ≡ true → (n : ℕ) × Has (devs free) path n
    there path on = (checks.sectors_of path s.devices, free_has path on)

    module _ (rest part : D) (splits : Splits devs moment state_at once free rest part) where
      pub part_has : (path : Text) → has_path path once ≡ true → Has (devs part) path (checks.sectors_of path s.devices)
      part_has path on = splits.go path ∙ (ap (λ b. cond b (sectors_of (devs free) path) None) on ∙ free_has path on)

      now_part : (path : Text) → has_path path once ≡ true → now moment state_at part path ≡ now moment state_at free path
      now_part path on = ap (λ k. state_at part k path) splits.clock_gone ∙ splits.states_gone (moment free) path on (omega arith)

      unread : (n place : ℕ) (f : _) → 8192 ≤ n → slot_on n place f ≡ read_slot pool_area place f
      unread n place f le = ap (λ b. cond b None (read_slot pool_area place f)) (not_less n le)

      named : (path : Text) (b : Bool) → names once path ≡ b → (n : ℕ) → Has (devs part) path n → names once path ≡ true
      named path true e n has = e
      named path false e n has = absurd (let off = splits.go path ∙ ap (λ b. cond b (sectors_of (devs free) path) None) e in cc)

      pub may_take : (serial : ℕ) → serial ≡ s.next → MayTake serial once (devs part) (now moment state_at part)
      may_take serial own = record {
        some = subst (λ (ps : List Text). 1 ≤ length ps) (sym may.each_once) (once_some paths fresh.some);
        few = subst (λ (ps : List Text). length ps ≤ 16) (sym may.each_once) fresh.few;
        own = subst Rattle.st_commit.specs.Ready.AreDistinct (sym may.each_once) (places_apart (distinct paths) (distinct-differ paths));
        each = λ d of. one d (named_at once of.index d of.is);
        all = λ d n has. named d (names once d) refl n has;
      }
        where
          one : (d : Path) → has_path d once ≡ true → (n : ℕ) × Has (devs part) d n × Rattle.st_limits.specs.Sums.IsDeviceSize n × Rattle.st_making.specs.Made.IsFree serial n (now moment state_at part d)
          one d on =
              let f = was.settled d (checks.sectors_of d s.devices) (free_has d on) in
              let least = large d on in
              let room = fresh.room in (
                checks.sectors_of d s.devices,
                part_has d on,
                (least, small_row d s.devices may.valid.rack.small),
                subst (Rattle.st_making.specs.Made.IsFree serial (checks.sectors_of d s.devices)) (sym (now_part d on)) (record {
                  settled = f.settled;
                  no_slot = λ r lt. ap (keep serial) (sym (unread (checks.sectors_of d s.devices) r (now moment state_at free d).holds least)) ∙ f.silent r lt serial (inr (omega (arith, own), omega (arith, own, room)));
                  alone = f.alone;
                }),
              )
