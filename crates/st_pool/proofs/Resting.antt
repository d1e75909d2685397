-- What the devices of a started pool hold stands for it.
use Rattle.std.proofs.Common.{◌≡◌, inl, inr, ℕ, ◌<◌, ◌≤◌, List, [], Option, Some, None, refl, sym, ◌∙◌, ap, subst, append-nil}
use Rattle.std.specs.List.{slice_get}
use Rattle.st_poolrec.specs.declared.record.PoolRec.{PoolRec}
use Rattle.st_flexlog.specs.declared.state.FlexState.{FlexState}
use Rattle.st_fields.specs.Slot.{Found}
use Rattle.st_model.specs.declared.state.PoolState.{PoolState}
use Rattle.st_model.specs.Checks.{halted}
use Rattle.st_model.specs.Merged.{merged}
use Rattle.st_rack.specs.Story.{Content, Began}
use Rattle.st_rack.specs.Device.{Path, DevState, State, held}
use Rattle.st_rack.specs.Calls.{Devices}
use Rattle.st_slots.specs.Reading.{read_slot}
use Rattle.st_deltalog.specs.Bearing.{Loses, Rests, other}
use Rattle.st_deltalog.specs.Log.{Log, checkpoint_in}
use Rattle.st_commit.specs.Ready.{BearsRecord, Based, Ranked, Ready}
use Rattle.st_image.specs.Committed.{Committed, HasOwnHeader}
use Rattle.st_image.specs.Kept.{as_pair, in_use}
use Rattle.st_image.specs.Left.{LeftOf, first_sectors}
use Rattle.st_image.specs.Looks.{flex_area, look_of, pool_area}
use Rattle.st_image.specs.Bears.{first_of, paths}
use Rattle.st_image.specs.Stands.{StandsFor, state_of}
use Rattle.st_image.proofs.Calming.{calm_stands}
use Rattle.st_image.proofs.Committing.{committed_shows}
use Rattle.st_books.specs.declared.books.Books.{Books}
use Rattle.st_books.specs.Ready.{rows_of, stood}
use Rattle.st_pool.specs.Known.{IsUp}
use Rattle.st_pool.specs.View.{pool_with}
use Rattle.st_pool.proofs.Standing.{recorded_is}

-- a device that began with what is held
abbrev pub fresh : DevState → DevState
fresh s = record { holds = s.holds; story = Began s.holds }

abbrev pub all_fresh : State → State
all_fresh s d = fresh (s d)

rests_fresh : (p up g : ℕ) (log : Log) (s : DevState) → Rests flex_area p up g log s → Rests flex_area p up g log (fresh s)
rests_fresh p up g log s rests = record {
  bears = record {
    holds = rests.bears.holds;
    sure = λ i low high. refl;
    upto = rests.bears.upto;
    beside = λ m meant. subst (λ (f : Content). Loses p up log.slot log.start (checkpoint_in flex_area (other log.slot) f)) (sym meant) rests.held;
  };
  held = rests.held;
}

bears_fresh : (g : ℕ) (text : List ℕ) (s : DevState) → BearsRecord pool_area g text s → BearsRecord pool_area g text (fresh s)
bears_fresh g text s bears = record { sure = λ i low high. refl; reads = bears.reads }

based_fresh : (p up g : ℕ) (text : List ℕ) (log : Option Log) (s : DevState) → Based pool_area flex_area p up g text log s → Based pool_area flex_area p up g text log (fresh s)
based_fresh p up g text None s based = based
based_fresh p up g text (Some log) s based = (bears_fresh g text s based.0, rests_fresh p up g log s based.1, based.2)

ready_fresh : (p up : ℕ) (h : ℕ → List ℕ) (list : List Path) (first : Path) (g : ℕ) (log : Option Log) (s : State) → Ready pool_area flex_area p up h list first g log s → Ready pool_area flex_area p up h list first g log (all_fresh s)
ready_fresh p up h list first g log s ready = record {
  slots = λ d of r lt m meant. subst (λ (f : Content). Ranked p h g (read_slot pool_area r f)) (sym meant) (ready.held d of r lt);
  held = ready.held;
  base = based_fresh p up g (h g) log (s first) ready.base;
}

committed_fresh : (p : ℕ) (rows : Devices) (g : ℕ) (rec : PoolRec) (st : FlexState) (s : State) → Committed p rows g rec st s → Committed p rows g rec st (all_fresh s)
committed_fresh p rows g rec st s done = record {
  up = done.up;
  h = done.h;
  log = done.log;
  is = done.is;
  serial = done.serial;
  rows = done.rows;
  top = done.top;
  ready = ready_fresh p done.up done.h (paths rows) (first_of rec) g (Some done.log) s done.ready;
  borne = λ k d at. bears_fresh g _ (s d.0) (done.borne k d at);
  headers = λ k d at. record { sure = λ i low high. refl; header = (done.headers k d at).header };
  past = done.past;
  says = done.says;
  version = done.version;
}

-- what is held was fairly left by itself
held_left : (p : ℕ) (rows : Devices) (s : State) → LeftOf p rows (all_fresh s) (held s)
held_left p rows s k d at = record {
  left = λ i sure. refl;
  fair = λ l. record { now = record { found = inr (held s d, refl, refl) }; past = tt };
}

module _ (b : Books) (devs : Devices) (s seen : State) (up : IsUp b s seen) where
  stands_rows : StandsFor b.rec.serial (rows_of b.rec) (held s) (Some (stood b (held seen)))
  stands_rows =
      subst (λ (q : PoolState). StandsFor b.rec.serial (rows_of b.rec) (held s) (Some (merged q))) up.same
      (calm_stands b.rec.serial (rows_of b.rec) b.generation b.rec b.flex (all_fresh s) (held s)
      (record {
        shows = λ c leaves. committed_shows b.rec.serial (rows_of b.rec) b.generation b.rec b.flex (all_fresh s) c (committed_fresh b.rec.serial (rows_of b.rec) b.generation b.rec b.flex s up.ready.records) leaves;
        alive = up.alive;
        places = λ k row at. (
            let place = up.ready.places k row at in
            (place.0, record { on = place.1.on; behind = place.1.behind; sure = λ i low high. refl }));
      })
      (held_left b.rec.serial (rows_of b.rec) s))

  -- so it stands for the pool when it is stopped
  pub up_held : StandsFor b.rec.serial (in_use (halted (pool_with b None (held seen))) devs) (held s) (Some (halted (pool_with b None (held seen))))
  up_held =
      subst (λ (ds : Devices). StandsFor b.rec.serial ds (held s) (Some (halted (pool_with b None (held seen))))) (sym (append-nil (rows_of b.rec)))
      (subst (λ (q : PoolState). StandsFor b.rec.serial (rows_of b.rec) (held s) (Some q)) (sym (recorded_is b (held seen) None)) stands_rows)
