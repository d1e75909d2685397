-- A rack on which a state was found parts.
use Rattle.std.proofs.Common.{◌≡◌, ◌≢◌, inl, inr, ℕ, Bool, true, false, cond, List, Option, Some, None, refl, sym, ◌∙◌, ap, subst}
use Rattle.std.specs.Prelude.{is_some}
use Rattle.std.specs.List.{slice_get}
use Rattle.std.proofs.lemmas.Bool.{cases_Bool}
use Rattle.st_units.specs.declared.rows.DevRow.{DevRow}
use Rattle.st_model.specs.declared.state.EngineState.{EngineState}
use Rattle.st_model.specs.declared.state.PoolState.{PoolState}
use Rattle.st_model.specs.Look.{is_started, row_of, uses}
use Rattle.st_rack.specs.Story.{Content}
use Rattle.st_rack.specs.Device.{Path, DevState, State, Image, held, pending}
use Rattle.st_rack.specs.Calls.{Devices, Has, names, sectors_of}
use Rattle.st_deltalog.specs.Bearing.{IsSettled}
use Rattle.st_image.specs.Looks.{has_header}
use Rattle.st_image.specs.Bears.{newest_on, path_of, paths}
use Rattle.st_image.specs.Kept.{LeftInUse, NoneOrGone, as_pair, in_use}
use Rattle.st_image.specs.Stands.{StandsFor}
use Rattle.st_parting.specs.Found.{IsFoundOn}
use Rattle.st_parting.specs.Own.{IsPart, KeepsOwn, LieApart, used_by}
use Rattle.st_parting.proofs.Newest.{some_same, none_some}
use Rattle.st_parting.proofs.Headers.{none_on, other_header}
use Rattle.st_parting.proofs.Rows.{at_named, at_mapped, mapped_at, named_at, not_both}
use Rattle.st_parting.proofs.Using.{row_has}
use Rattle.st_parting.proofs.Known.{SameSizes, Uses}
use Rattle.st_parting.proofs.Part.{known_uses}
use Rattle.st_parting.proofs.Finding.{own_found, row_found, row_is_found, serials_differ, uses_rows}

not_true : (b : Bool) → (b ≡ true → ⊥) → b ≡ false
not_true true never = absurd (never refl)
not_true false never = refl

same_tests : (a b : Bool) → (a ≡ true → b ≡ true) → (b ≡ true → a ≡ true) → a ≡ b
same_tests true b to from = sym (to refl)
same_tests false b to from = sym (not_true b (λ e. not_both false (from e) refl))

-- what is settled is left as it is
pub left_settled : (s : DevState) (f : Content) → IsSettled s → ((i : ℕ) → pending s i ≡ false → f i ≡ s.holds i) → f ≡ s.holds
left_settled s f settled left = λ i n. left n (settled.sure n) i

module _ (devs : Devices) (s : State) (e : EngineState) (found : IsFoundOn devs s e) where
  pub pool_uses : (k : ℕ) (pool : PoolState) → slice_get e.pools k ≡ Some pool → Uses pool.serial pool devs (held s) found.rises
  pool_uses k pool at =
      let own = own_found e.pools k pool found.stands.serials at in
      known_uses pool.serial devs (held s) found.rises pool (subst (λ (o : Option PoolState). StandsFor pool.serial devs (held s) o) own.1 (found.stands.each pool.serial own.0))

  module _ (k : ℕ) (pool : PoolState) (at : slice_get e.pools k ≡ Some pool) where
    pub know : Uses pool.serial pool devs (held s) found.rises
    know = pool_uses k pool at

    -- a device that the pool uses is of a row of its record
    used_row : (p : Path) → names (used_by pool devs) p ≡ true → (j : ℕ) × (row : DevRow) × (slice_get know.rec.devs j ≡ Some row) × (row.path ≡ p) × Has devs p row.sectors × (has_header pool.serial row.sectors (held s p) ≡ true)
    used_row p named =
        let place = named_at (used_by pool devs) p named in
        let dev = mapped_at path_of (in_use pool devs) place.0 p place.1 in
        let row = know.are.each place.0 dev.0 dev.1 in
        let path : row.1.path ≡ p = ap (λ (d : Path × ℕ). d.0) row.3 ∙ dev.2 in
        let has = row_has pool.serial devs (held s) found.rises know.g know.rec know.bears row.1 row.4 in
        (row.0, row.1, row.2, path, subst (λ (q : Path). Has devs q row.1.sectors) path has, subst (λ (q : Path). has_header pool.serial row.1.sectors (held s q) ≡ true) path row.4.header)

    pub used_header : (p : Path) (n : ℕ) → Has devs p n → names (used_by pool devs) p ≡ true → has_header pool.serial n (held s p) ≡ true
    used_header p n has named =
        let row = used_row p named in
        subst (λ (m : ℕ). has_header pool.serial m (held s p) ≡ true) (some_same row.1.sectors n (sym row.4 ∙ has)) row.5

    -- the device of a row is in use where the rack has it
    pub row_used : (j : ℕ) (row : DevRow) (n : ℕ) → slice_get know.rec.devs j ≡ Some row → Has devs row.path n → names (used_by pool devs) row.path ≡ true
    row_used j row n at has =
        let one = know.are.all j row at n has in
        at_named (used_by pool devs) one.0 row.path (at_mapped path_of (in_use pool devs) one.0 (as_pair row) one.1)

    pub one_alone : (p : Path) (n q : ℕ) → Has devs p n → names (used_by pool devs) p ≡ true → q ≢ pool.serial → newest_on q n (held s p) ≡ None
    one_alone p n q has named ne = none_on q n (held s p) (other_header pool.serial q n (held s p) (used_header p n has named) ne)

    pub used_so : (p : Path) (n : ℕ) → Has devs p n → uses p pool ≡ names (used_by pool devs) p
    used_so p n has = uses_rows p pool know.flight ∙ ap (λ (l : List DevRow). is_some (row_of p l)) know.rows ∙ same_tests (is_some (row_of p know.rec.devs)) (names (used_by pool devs) p) to from
      where
        to : is_some (row_of p know.rec.devs) ≡ true → names (used_by pool devs) p ≡ true
        to there =
            let row = row_found know.rec.devs p there in
            subst (λ (q : Path). names (used_by pool devs) q ≡ true) row.3 (row_used row.0 row.1 n row.2 (subst (λ (q : Path). Has devs q n) (sym row.3) has))

        from : names (used_by pool devs) p ≡ true → is_some (row_of p know.rec.devs) ≡ true
        from named = let row = used_row p named in row_is_found know.rec.devs p row.0 row.1 row.2 row.3

    -- its devices on a rack of their own
    module _ (own : Devices) (t : State) (part : IsPart (used_by pool devs) devs s own t) where
      sizes : SameSizes know.rec.devs devs own
      sizes j row at = elim (cases_Bool (names (used_by pool devs) row.path)) [
        | inl there ↦ part.devices row.path ∙ ap (λ (b : Bool). cond b (sectors_of devs row.path) None) there
        | inr miss ↦ part.devices row.path ∙ ap (λ (b : Bool). cond b (sectors_of devs row.path) None) miss ∙ sym (gone (sectors_of devs row.path) refl miss)
      ]
        where
          gone : (o : Option ℕ) → sectors_of devs row.path ≡ o → names (used_by pool devs) row.path ≡ false → sectors_of devs row.path ≡ None
          gone None is miss = is
          gone (Some n) is miss = absurd (not_both (names (used_by pool devs) row.path) (row_used j row n at is) miss)

      same : in_use pool own ≡ in_use pool devs
      same = know.same own sizes

      used_here : (j : ℕ) (d : Path × ℕ) → slice_get (in_use pool devs) j ≡ Some d → names (used_by pool devs) d.0 ≡ true
      used_here j d at = at_named (used_by pool devs) j d.0 (at_mapped path_of (in_use pool devs) j d at)

      has_here : (j : ℕ) (d : Path × ℕ) → slice_get (in_use pool devs) j ≡ Some d → Has devs d.0 d.1
      has_here j d at =
          let row = know.are.each j d at in
          subst (λ (x : Path × ℕ). Has devs x.0 x.1) row.3 (row_has pool.serial devs (held s) found.rises know.g know.rec know.bears row.1 row.4)

      there : (j : ℕ) (d : Path × ℕ) → slice_get (in_use pool own) j ≡ Some d → Has own d.0 d.1
      there j d at =
          let is = subst (λ (l : Devices). slice_get l j ≡ Some d) same at in
          part.devices d.0 ∙ ap (λ (b : Bool). cond b (sectors_of devs d.0) None) (used_here j d is) ∙ has_here j d is

      alone : (p : Path) (n : ℕ) → Has own p n → names (used_by pool own) p ≡ true
      alone p n has = ap (λ (l : Devices). names (paths l) p) same ∙ elim (cases_Bool (names (used_by pool devs) p)) [
        | inl named ↦ named
        | inr miss ↦ absurd (none_some n (sym (ap (λ (b : Bool). cond b (sectors_of devs p) None) miss) ∙ sym (part.devices p) ∙ has))
      ]

      pub stands_own : (m : Image) → ((j : ℕ) (d : Path × ℕ) → slice_get (in_use pool devs) j ≡ Some d → m d.0 ≡ held s d.0) → StandsFor pool.serial (in_use pool own) m (Some pool)
      stands_own m agrees = subst (λ (l : Devices). StandsFor pool.serial l m (Some pool)) (sym same) (know.stands m agrees)

      left_as : (c : Image) → LeftInUse pool own t c → (j : ℕ) (d : Path × ℕ) → slice_get (in_use pool devs) j ≡ Some d → c d.0 ≡ held s d.0
      left_as c leaves j d at =
          let named = used_here j d at in
          let is : t d.0 ≡ s d.0 = part.states d.0 named in
          let settled : IsSettled (t d.0) = subst IsSettled (sym is) (found.settled d.0 d.1 (has_here j d at)) in
          let left = leaves j d.0 (subst (λ (l : Devices). slice_get (paths l) j ≡ Some d.0) (sym same) (at_mapped path_of (in_use pool devs) j d at)) in
          left_settled (t d.0) (c d.0) settled left.left ∙ ap (λ (x : DevState). x.holds) is

      pub keeps_own : KeepsOwn pool devs own t
      keeps_own = record {
        idle = know.idle;
        flight = know.flight;
        same = same;
        there = there;
        alone = alone;
        stands = stands_own (held t) (λ j d at. ap (λ (x : DevState). x.holds) (part.states d.0 (used_here j d at)));
        kept = record {
          all = λ c leaves. record {
            found = Some pool;
            stands = stands_own c (left_as c leaves);
            kept = know.kept own;
            borne = λ up. absurd (not_both (is_started pool.mode) (ap is_started up) know.idle);
            others = λ q j d ne at. (
                let is = subst (λ (l : Devices). slice_get l j ≡ Some d) same at in
                subst NoneOrGone (sym (ap (newest_on q d.1) (left_as c leaves j d is) ∙ one_alone d.0 d.1 q (has_here j d is) (used_here j d is) ne)) tt);
          };
        };
      }

  pub lie_apart : LieApart devs e
  lie_apart = record {
    distinct = λ k pool at. (pool_uses k pool at).distinct;
    there = λ k pool at p named. (let row = used_row k pool at p named in (row.1.sectors, row.4));
    used = λ k pool at p n has. used_so k pool at p n has;
    apart = λ j k a b at_a at_b ne p named. not_true (names (used_by b devs) p) (λ both. (
        let row = used_row j a at_a p named in
        not_both (has_header b.serial row.1.sectors (held s p)) (used_header k b at_b p row.1.sectors row.4 both)
        (other_header a.serial b.serial row.1.sectors (held s p) row.5 (serials_differ e.pools j k a b found.stands.serials at_a at_b ne))));
  }
