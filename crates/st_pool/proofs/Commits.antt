-- What a commit of a pool asks, where nothing is refused; and what the books are after a fault.
use Rattle.std.proofs.Common.{◌≡◌, ℕ, ◌<◌, ◌^◌, Bool, List, [], map, Option, Some, None, refl, sym, ◌∙◌, ap, subst}
use Rattle.std.specs.Prelude.{IfSome}
use Rattle.st_units.specs.declared.rows.FsRow.{FsRow}
use Rattle.st_deltalog.specs.declared.area.Tail.{Tail}
use Rattle.st_model.specs.declared.call.Call.{Call}
use Rattle.st_model.specs.declared.call.Call.TheVariants.{CreatePool, DestroyPool, RenamePool}
use Rattle.st_model.specs.declared.info.PoolInfo.{PoolInfo}
use Rattle.st_model.specs.Shown.{fs_info, pool_info}
use Rattle.st_rack.specs.Device.{Path, State, Image, held}
use Rattle.st_rack.specs.Calls.{Devices}
use Rattle.st_image.specs.Bears.{paths}
use Rattle.st_image.specs.Stands.{filesystems_of}
use Rattle.st_books.specs.declared.books.Books.{Books}
use Rattle.st_books.specs.Ready.{AreThere, rows_of}
use Rattle.st_pool.specs.Flights.{IsPoolCall}
use Rattle.st_pool.specs.View.{now, pool_with, view_of}
use Rattle.st_pool.specs.Known.{IsPool, IsUp}
use Rattle.st_pool.specs.inner.Plans.{refusal}
use Rattle.st_pool.proofs.Answering.{no_flight, not_worn}
use Rattle.st_pool.proofs.Committing.{rows_path, rows_there}

-- where the next delta goes is no matter
flies_moved : (b : Books) (tail : Tail) (has : Bool) (list : List Path) (call : Call) → IsPoolCall b list call → IsPoolCall (record b { tail = tail; has_committed = has }) list call
flies_moved b tail has list (CreatePool name devices) is = is
flies_moved b tail has list (RenamePool name new) is = is
flies_moved b tail has list (DestroyPool name) is = is
flies_moved b tail has list _ is = is

info_bare : (b : Books) (flight : Option Call) (m : Image) → b.flex.filesystems ≡ [] → (pool_info (pool_with b flight m)).filesystems ≡ []
unfolding pool_info
info_bare b flight m e = ap (λ (rows : List FsRow). map fs_info (filesystems_of (record b.flex { filesystems = rows }))) e

module _ {D : Type 0} (devs : D → Devices) (moment : D → ℕ) (state_at : D → ℕ → State) (faults : D → ℕ) (b : Books) (list : List Path) (shown : PoolInfo) (spare : Option PoolInfo) (rack seen : D) (count : ℕ) where
  abbrev Known : Option Call → Type 0
  Known flight = IsPool devs moment state_at faults b flight list shown spare rack seen count

  pub shown_bare : (flight : Option Call) → Known flight → shown.filesystems ≡ []
  shown_bare flight inv = ap (λ (i : PoolInfo). i.filesystems) inv.is_on.info ∙ info_bare b flight (held (now moment state_at seen)) inv.filesystems

  -- its info to give was handed over
  pub pool_spent : (flight : Option Call) → Known flight → (left : Option PoolInfo) → left ≡ None → IsPool devs moment state_at faults b flight list shown left rack seen count
  pool_spent flight inv left none = record {
    serial = inv.serial;
    filesystems = inv.filesystems;
    mappings = inv.mappings;
    flies = inv.flies;
    is_on = record { on = inv.is_on.on; once = inv.is_on.once; own = inv.is_on.own; info = inv.is_on.info; spare_info = subst (λ (o : Option PoolInfo). IfSome o (λ i. i ≡ pool_info (pool_with b flight (held (now moment state_at seen))))) (sym none) tt };
    stands = inv.stands;
    count_is = inv.count_is;
  }

  pub up_so : (flight : Option Call) → Known flight → refusal b flight ≡ None → IsUp b (now moment state_at rack) (now moment state_at seen)
  up_so None inv free = inv.stands
  up_so (Some call) inv free = let e = no_flight b (Some call) free in absurd (cc)

  pub on_rows : (flight : Option Call) → Known flight → refusal b flight ≡ None → paths (rows_of b.rec) ≡ list
  on_rows None inv free = rows_path devs moment state_at faults b list shown spare rack seen count inv
  on_rows (Some call) inv free = let e = no_flight b (Some call) free in absurd (cc)

  pub there_rows : (flight : Option Call) → Known flight → refusal b flight ≡ None → AreThere (devs rack) (rows_of b.rec)
  there_rows None inv free = rows_there devs moment state_at faults b list shown spare rack seen count inv rack refl
  there_rows (Some call) inv free = let e = no_flight b (Some call) free in absurd (cc)

  pub up_last : (flight : Option Call) → Known flight → refusal b flight ≡ None → b.generation < 2 ^ 48
  up_last None inv free = not_worn b inv.stands.ready.last free
  up_last (Some call) inv free = let e = no_flight b (Some call) free in absurd (cc)

  -- after a fault
  module _ (to : Books) (rec_is : to.rec ≡ b.rec) (flex_is : to.flex ≡ b.flex) (generation_is : to.generation ≡ b.generation) (call : Call) where
    abbrev moved : Books
    moved = record b { tail = to.tail; has_committed = to.has_committed }

    moved_is : moved ≡ to
    moved_is = λ i. record { rec = sym rec_is i; flex = sym flex_is i; generation = sym generation_is i; tail = to.tail; has_committed = to.has_committed }

    pub pool_moved : Known (Some call) → IsPool devs moment state_at faults to (Some call) list shown spare rack seen count
    pool_moved inv = subst (λ (x : Books). IsPool devs moment state_at faults x (Some call) list shown spare rack seen count) moved_is same
      where
        same : IsPool devs moment state_at faults moved (Some call) list shown spare rack seen count
        same = record { serial = inv.serial; filesystems = inv.filesystems; mappings = inv.mappings; flies = flies_moved b to.tail to.has_committed list call inv.flies; is_on = inv.is_on; stands = inv.stands; count_is = inv.count_is }

    pub view_moved : (has : Bool) → view_of moment state_at b (Some call) has rack seen count ≡ view_of moment state_at to (Some call) has rack seen count
    view_moved has = ap (λ (x : Books). view_of moment state_at x (Some call) has rack seen count) moved_is
