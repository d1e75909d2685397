-- Why each verdict is right.
use Rattle.std.proofs.Common.{◌≡◌, ◌⊎◌, inl, inr, ℕ, Bool, true, false, cond, List, [], ◌∷◌, map, Option, Some, None, refl, sym, ◌∙◌, ap, subst}
use Rattle.std.specs.List.{AllByRecursion}
use Rattle.st_units.specs.declared.rows.DevRow.{DevRow}
use Rattle.st_poolrec.specs.declared.record.PoolRec.{PoolRec}
use Rattle.st_poolrec.specs.Record as pools
use Rattle.st_recrows.specs.Rows.{Spells}
use Rattle.st_deltalog.specs.Log.{serial_in}
use Rattle.st_model.specs.declared.state.PoolState.{PoolState}
use Rattle.st_rack.specs.Device.{Path, Image}
use Rattle.st_rack.specs.Calls.{Devices, Rises}
use Rattle.st_image.specs.Bears.{Bears, HasRow, SpellsPool, newest_over}
use Rattle.st_image.specs.Stands.{Lacking, StandsFor, Nothing, Gone, is_on, missing}
use Rattle.st_image.proofs.Unique.{same_pool_text}
use Rattle.st_looks.specs.declared.look.DevLook.{DevLook}
use Rattle.st_looks.specs.Looked.{looked}
use Rattle.st_judge.specs.Candidates.{newest_among, are_one}
use Rattle.st_judge.specs.Spelled.{AreSpelled}
use Rattle.st_judge.specs.Placing.{on_rows_alone, rows_fit, missing_of, lacking}
use Rattle.st_judge.specs.declared.rows.GoneRow.{GoneRow}
use Rattle.st_judge.specs.declared.judging.Verdict.TheVariants as verdicts
use Rattle.st_judge.specs.Verdicts.{IsSaid, row_of, IsGone, IsLackingRow, IsHere}
use Rattle.st_judge.specs.inner.Sound.{IsSound}
use Rattle.st_judge.proofs.Newest.{newest_looked, newest_serial, record_serial}
use Rattle.st_judge.proofs.Sound.{sound_of_looks, one_of_sound, spelled_of_sound}
use Rattle.st_judge.proofs.Placed.{alone_of_looks, looks_alone, rows_of_looks, looks_fit, missing_looks, lacking_same, path_of_row}

not_both : (b : Bool) → b ≡ true → b ≡ false → ⊥
not_both b t f = cc

same_pair : (a b : ℕ × List ℕ) → Some a ≡ Some b → a ≡ b
same_pair a b e = cc

none_some : (x : ℕ × List ℕ) → None ≡ Some x → ⊥
none_some x e = cc

-- what any state says of a newest record
record KnownAs (p : ℕ) (devs : Devices) (c : Image) (g : ℕ) (rec : PoolRec) : Type 0 where
  bears : Bears p devs g rec c
  rows : rec.gone ≡ false → AllByRecursion (λ (row : DevRow). is_on row.path devs ≡ true → HasRow p devs c row) rec.devs

all_there : (P Q : DevRow → Type 0) → ((row : DevRow) → P row → Q row) → (rows : List DevRow) → AllByRecursion P rows → AllByRecursion Q rows
all_there P Q goes [] all = tt
all_there P Q goes (row ∷ rows) all = (goes row all.0, all_there P Q goes rows all.1)

known : (p : ℕ) (devs : Devices) (c : Image) (found : Option PoolState) → StandsFor p devs c found → (newest_over p devs c ≡ None) ⊎ ((g : ℕ) × (rec : PoolRec) × KnownAs p devs c g rec)
known p devs c None (Nothing none) = inl none
known p devs c None (Gone g rec bears gone) = inr (g, rec, record { bears = bears; rows = λ alive. absurd (not_both rec.gone gone alive) })
known p devs c (Some pool) (inl one) = inr (one.0, one.1, record { bears = one.3.bears.record_of; rows = λ alive. all_there (HasRow p devs c) (λ row. is_on row.path devs ≡ true → HasRow p devs c row) (λ row has there. has) one.1.devs one.3.bears.rows })
known p devs c (Some pool) (inr one) = inr (one.0, one.1, record { bears = one.3.bears; rows = λ alive. one.3.rows })

module _ (p : ℕ) (looks : List DevLook) where
  pub nothing_said : newest_among p looks ≡ None → IsSaid p looks verdicts.Nothing
  nothing_said none devs c rises are = sym (newest_looked p c devs) ∙ ap (newest_among p) (sym are) ∙ none

  module _ (x : ℕ × List ℕ) (newest : newest_among p looks ≡ Some x) where
    newest_here : (devs : Devices) (c : Image) → looks ≡ map (looked c) devs → newest_over p devs c ≡ Some x
    newest_here devs c are = sym (newest_looked p c devs) ∙ ap (newest_among p) (sym are) ∙ newest

    -- where no newest record can be, the verdict is right
    breaks : ((devs : Devices) (c : Image) → Rises devs → looks ≡ map (looked c) devs → (g : ℕ) (rec : PoolRec) → KnownAs p devs c g rec → ⊥) → IsSaid p looks verdicts.Breaks
    breaks none devs c rises are found stands = elim (known p devs c found stands) [
      | inl nothing ↦ none_some x (sym nothing ∙ newest_here devs c are)
      | inr one ↦ none devs c rises are one.0 one.1 one.2
    ]

    pub two_bodies : are_one p looks ≡ false → IsSaid p looks verdicts.Breaks
    two_bodies not_one = breaks (λ devs c rises are g rec one. not_both (are_one p looks) (ap (are_one p) are ∙ one_of_sound p devs c one.bears.sound) not_one)

    pub no_records : (AreSpelled p looks → ⊥) → IsSaid p looks verdicts.Breaks
    no_records none = breaks (λ devs c rises are g rec one. none (subst (AreSpelled p) (sym are) (spelled_of_sound p devs c one.bears.sound)))

    pub no_record : ((rec : PoolRec) → SpellsPool x.1 rec → ⊥) → IsSaid p looks verdicts.Breaks
    no_record none = breaks (λ devs c rises are g rec one. none rec (record { is = one.bears.is; spelled = ap (λ (z : ℕ × List ℕ). z.1) (same_pair x (g, pools.record_text rec) (sym (newest_here devs c are) ∙ one.bears.newest)) }))

    -- the record that any state says is this one
    same_record : (devs : Devices) (c : Image) → looks ≡ map (looked c) devs → (rec : PoolRec) → SpellsPool x.1 rec → (g : ℕ) (other : PoolRec) → Bears p devs g other c → other ≡ rec
    same_record devs c are rec spelled g other bears = same_pool_text other rec bears.is spelled.is (sym (ap (λ (z : ℕ × List ℕ). z.1) (same_pair x (g, pools.record_text other) (sym (newest_here devs c are) ∙ bears.newest))) ∙ spelled.spelled)

module _ (p : ℕ) (looks : List DevLook) (x : ℕ × List ℕ) (rec : PoolRec) (sound : IsSound p looks x rec) where
  pub own_serial : rec.serial ≡ p
  own_serial = sym (record_serial rec sound.spelled.is) ∙ ap serial_in (sym sound.spelled.spelled) ∙ newest_serial p looks x sound.newest

  pub elsewhere : on_rows_alone p rec.devs looks ≡ false → IsSaid p looks verdicts.Breaks
  elsewhere other = breaks p looks x sound.newest (λ devs c rises are g old one. (
      let same = same_record p looks x sound.newest devs c are rec sound.spelled g old one.bears in
      not_both (on_rows_alone p rec.devs looks) (ap (on_rows_alone p rec.devs) are ∙ subst (λ (r : PoolRec). on_rows_alone p r.devs (map (looked c) devs) ≡ true) same (looks_alone p devs c old.devs one.bears.alone)) other))

  pub wrong_device : rec.gone ≡ false → rows_fit p looks rec.devs ≡ false → IsSaid p looks verdicts.Breaks
  wrong_device alive other = breaks p looks x sound.newest (λ devs c rises are g old one. (
      let same = same_record p looks x sound.newest devs c are rec sound.spelled g old one.bears in
      let rows = subst (λ (r : PoolRec). AllByRecursion (λ (row : DevRow). is_on row.path devs ≡ true → HasRow p devs c row) r.devs) same (one.rows (ap (λ (r : PoolRec). r.gone) same ∙ alive)) in
      not_both (rows_fit p looks rec.devs) (ap (λ (l : List DevLook). rows_fit p l rec.devs) are ∙ looks_fit p devs c rises rec.devs rows) other))

  module _ (alone : on_rows_alone p rec.devs looks ≡ true) where
    bears : (devs : Devices) (c : Image) → looks ≡ map (looked c) devs → Bears p devs x.0 rec c
    bears devs c are = record {
      newest = newest_here p looks x sound.newest devs c are ∙ ap (λ (body : List ℕ). Some (x.0, body)) sound.spelled.spelled;
      is = sound.spelled.is;
      serial = own_serial;
      sound = sound_of_looks p devs c (ap (are_one p) (sym are) ∙ sound.one) (subst (AreSpelled p) are sound.each);
      alone = alone_of_looks p devs c rec.devs (ap (on_rows_alone p rec.devs) (sym are) ∙ alone);
    }

    pub gone_said : rec.gone ≡ true → (row : GoneRow) → row ≡ record { serial = p; generation = x.0; rec = x.1; devs = lacking p rec.devs x looks } → IsSaid p looks (verdicts.Gone row)
    gone_said gone row is devs c rises are = subst (IsGone p devs c) (sym is) (record {
      rec = rec;
      bears = bears devs c are;
      gone = gone;
      told = λ i. record { serial = p; generation = x.0; rec = sound.spelled.spelled i; devs = (to_record ∙ ap (lacking p rec.devs (x.0, pools.record_text rec)) are ∙ lacking_same p devs c devs x.0 rec) i };
    })
      where
        to_record : lacking p rec.devs x looks ≡ lacking p rec.devs (x.0, pools.record_text rec) looks
        to_record = ap (λ (body : List ℕ). lacking p rec.devs (x.0, body) looks) sound.spelled.spelled

    module _ (alive : rec.gone ≡ false) (fit : rows_fit p looks rec.devs ≡ true) where
      rows : (devs : Devices) (c : Image) → looks ≡ map (looked c) devs → AllByRecursion (λ (row : DevRow). is_on row.path devs ≡ true → HasRow p devs c row) rec.devs
      rows devs c are = rows_of_looks p devs c rec.devs (ap (λ (l : List DevLook). rows_fit p l rec.devs) (sym are) ∙ fit)

      missing_here : (devs : Devices) (c : Image) → looks ≡ map (looked c) devs → (found : Option DevRow) → missing_of looks rec.devs ≡ found → missing rec.devs devs ≡ path_of_row c found
      missing_here devs c are found is = missing_looks c devs rec.devs ∙ ap (λ (l : List DevLook). path_of_row c (missing_of l rec.devs)) (sym are) ∙ ap (path_of_row c) is

      pub lacking_said : (row : DevRow) → missing_of looks rec.devs ≡ Some row → IsSaid p looks (verdicts.Lacking (row_of rec (Some row.path)))
      lacking_said row is devs c rises are = record {
        g = x.0;
        rec = rec;
        path = row.path;
        lacking = record { bears = bears devs c are; alive = alive; lacks = missing_here devs c are (Some row) is; rows = rows devs c are };
        told = refl;
      }

      pub here_said : missing_of looks rec.devs ≡ None → IsSaid p looks (verdicts.Here x.0 rec)
      here_said none devs c rises are = record {
        bears = bears devs c are;
        alive = alive;
        rows = all_present rec.devs devs (missing_here devs c are None none) (rows devs c are);
      }
        where
          all_present : (rs : List DevRow) (ds : Devices) → missing rs ds ≡ None → AllByRecursion (λ (row : DevRow). is_on row.path ds ≡ true → HasRow p devs c row) rs → AllByRecursion (HasRow p devs c) rs
          all_present [] ds e all = tt
          all_present (r ∷ rs) ds e all = by (is_on r.path ds) refl e (λ rest. all_present rs ds rest all.1)
            where
              no_path : (path : Path) → Some path ≡ None → ⊥
              no_path path e = cc

              by : (b : Bool) → is_on r.path ds ≡ b → cond b (missing rs ds) (Some r.path) ≡ None → (missing rs ds ≡ None → AllByRecursion (HasRow p devs c) rs) → HasRow p devs c r × AllByRecursion (HasRow p devs c) rs
              by true on rest later = (all.0 on, later rest)
              by false on rest later = absurd (no_path r.path rest)
