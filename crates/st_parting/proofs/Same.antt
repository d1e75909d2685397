-- The same candidates and the same rows stand for the same, on other devices and in another image.
use Rattle.std.proofs.Common.{◌≡◌, ℕ, ◌*◌, ◌<◌, List, length, Option, Some, sym, ◌∙◌, ap, subst}
use Rattle.std.specs.List.{slice_get, AllByRecursion}
use Rattle.st_limits.specs.declared.TheConstants.{SECTOR_BYTES, BLOCK_BYTES}
use Rattle.st_units.specs.declared.rows.DevRow.{DevRow}
use Rattle.st_poolrec.specs.declared.record.PoolRec.{PoolRec}
use Rattle.st_poolrec.specs.Record as pools
use Rattle.st_flexlog.specs.declared.state.FlexState.{FlexState}
use Rattle.st_flexrec.specs.declared.rows.CellRow.{CellRow}
use Rattle.st_flexat.specs.FlexAt.{FlexAt}
use Rattle.st_seg.specs.Blocks.{blocks_of}
use Rattle.st_rack.specs.Story.{Content}
use Rattle.st_rack.specs.Device.{Image, cells}
use Rattle.st_rack.specs.Calls.{Devices}
use Rattle.st_image.specs.Looks.{flex_area}
use Rattle.st_image.specs.Bears.{Bears, Candidate, HasRow, OnRowsAlone, path_in, first_of}
use Rattle.st_image.specs.Stands.{Whole, bytes_in, range_in, range_of, cell_rows, state_of}
use Rattle.st_image.proofs.Content.{cells_alike}
use Rattle.st_parting.proofs.Newest.{same_newest}
use Rattle.st_parting.proofs.Blocks.{place_on_row, slice_at}
use Rattle.st_parting.proofs.Rows.{fit_of, all_at}

-- the candidates of the one are those of the other
pub record SameCandidates (p : ℕ) (a b : Devices) (c m : Image) : Type 0 where
  pub to : (x : ℕ × List ℕ) → Candidate p a c x → Candidate p b m x
  pub from : (x : ℕ × List ℕ) → Candidate p b m x → Candidate p a c x

-- each device of these rows holds the same
abbrev pub SameOnRows : List DevRow → Image → Image → Type 0
SameOnRows rows c m = (j : ℕ) (row : DevRow) → slice_get rows j ≡ Some row → m row.path ≡ c row.path

module _ (p : ℕ) (a b : Devices) (c m : Image) (same : SameCandidates p a b c m) (g : ℕ) (rec : PoolRec) where
  pub bears_same : OnRowsAlone p b rec.devs m → Bears p a g rec c → Bears p b g rec m
  bears_same alone bears = record {
    newest = sym (same_newest p a b c m same.to same.from bears.sound.one) ∙ bears.newest;
    is = bears.is;
    serial = bears.serial;
    sound = record {
      one = λ x y first second e. bears.sound.one x y (same.from x first) (same.from y second) e;
      each = λ x first. bears.sound.each x (same.from x first);
    };
    alone = alone;
  }

  module _ (st : FlexState) (rows_same : SameOnRows rec.devs c m) where
    first_same : pools.IsPoolRec rec → m (first_of rec) ≡ c (first_of rec)
    first_same is =
        let one = slice_at rec.devs 0 (fit_of rec is).some in
        subst (λ (o : Option DevRow). m (path_in o) ≡ c (path_in o)) (sym one.1) (rows_same 0 one.0 one.1)

    pub whole_same : OnRowsAlone p b rec.devs m → AllByRecursion (HasRow p b m) rec.devs → Whole p a c g rec st → Whole p b m g rec st
    whole_same alone rows whole = record {
      bears = record {
        record_of = bears_same alone whole.bears.record_of;
        rows = rows;
        flexed = subst (λ (f : Content). FlexAt flex_area p g f st) (sym (first_same whole.bears.record_of.is)) whole.bears.flexed;
        version = whole.bears.version;
      };
      alive = whole.alive;
      places = whole.places;
    }

    pub state_same : Whole p a c g rec st → state_of g rec st m ≡ state_of g rec st c
    state_same whole = ap (λ (l : List (ℕ × List ℕ)). record (state_of g rec st c) { cells = l }) (cells_alike rec m c (cell_rows st.mappings) each)
      where
        each : (k : ℕ) (row : CellRow) → slice_get (cell_rows st.mappings) k ≡ Some row → bytes_in m (range_of rec row.place) ≡ bytes_in c (range_of rec row.place)
        each k row at =
            let lt = all_at (λ (r : CellRow). r.place < length (blocks_of rec.segments)) (cell_rows st.mappings) k row whole.places at in
            let on = place_on_row rec.segments rec.devs row.place (fit_of rec whole.bears.record_of.is).in_order lt in
            subst (λ (o : Option (ℕ × ℕ)). bytes_in m (range_in rec.devs o) ≡ bytes_in c (range_in rec.devs o)) (sym on.1) (in_place on.0 on.2.0 on.2.1)
          where
            in_place : (place : ℕ × ℕ) (own : DevRow) → slice_get rec.devs place.0 ≡ Some own → bytes_in m (range_in rec.devs (Some place)) ≡ bytes_in c (range_in rec.devs (Some place))
            in_place place own at =
                subst (λ (o : Option DevRow). cells (m (path_in o)) (SECTOR_BYTES * place.1) BLOCK_BYTES ≡ cells (c (path_in o)) (SECTOR_BYTES * place.1) BLOCK_BYTES) (sym at)
                (ap (λ (f : Content). cells f (SECTOR_BYTES * place.1) BLOCK_BYTES) (rows_same place.0 own at))
