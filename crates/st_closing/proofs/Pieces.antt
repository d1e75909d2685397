-- Each pool of the state is on a rack of its own.
use Rattle.std.proofs.Common.{◌≡◌, ◌⊎◌, inl, inr, ℕ, ◌<◌, Bool, true, false, ◌||◌, cond, List, [], ◌∷◌, ◌++◌, map, Option, Some, None, is_some, refl, sym, ◌∙◌, ap, subst, arith}
use Rattle.std.specs.Prelude.{find, option_map, ◌==◌}
use Rattle.std.specs.List.{AllByRecursion, IsDistinct, list_any, slice_get}
use Rattle.std.specs.Str.{bytes_eq}
use Rattle.std.proofs.lemmas.Bool.Decides.{Decides-eqb}
use Rattle.std.proofs.lemmas.Slice.Eq.{bytes_eq-Decides}
use Rattle.st_units.specs.declared.rows.DevRow.{DevRow}
use Rattle.st_model.specs.declared.state.EngineState.{EngineState}
use Rattle.st_model.specs.declared.state.PoolMode.{PoolMode}
use Rattle.st_model.specs.declared.state.PoolMode.TheVariants.{Up, Down, Stopped, Unsettled, Incomplete}
use Rattle.st_model.specs.declared.state.PoolState.{PoolState}
use Rattle.st_model.specs.declared.state.TableState.{TableState}
use Rattle.st_model.specs.Look.{Text, flight_of, has_path, is_started, row_of, takes_path, uses}
use Rattle.st_model.specs.Parts.{is_used, known, table_of}
use Rattle.st_model.specs.Valid.{Apart, AreThere, IsValid, is_there}
use Rattle.st_model.specs.ValidPool.{EachPair}
use Rattle.st_rack.specs.Device.{Path, State}
use Rattle.st_rack.specs.Calls.{Devices, Has, names, sectors_of}
use Rattle.st_rack.specs.Parts.{AreApart}
use Rattle.st_image.specs.Bears.{paths}
use Rattle.st_image.specs.Kept.{Kept, as_pair, in_use, own_devices}
use Rattle.st_leaving.proofs.Freed.{IsAmong, among, uses_named}
use Rattle.st_pool.specs.View.{IsOwn, now}
use Rattle.st_board.specs.Free.{AreTheFree, free_sectors}
use Rattle.st_board.proofs.Present.{lacks, uses_there}
use Rattle.st_board.proofs.Serials.{all_found, at, same_number, unlike, used, uses_known}

abbrev pub size_of : DevRow → ℕ
size_of row = row.sectors

pub lacks_or : (m : PoolMode) → (lacks m ≡ false) ⊎ ((missing : Text) × (m ≡ Incomplete missing))
lacks_or Up = inl refl
lacks_or (Down call) = inl refl
lacks_or Stopped = inl refl
lacks_or (Unsettled call) = inl refl
lacks_or (Incomplete missing) = inr (missing, refl)

pub whole_is : (m : PoolMode) (rows : List DevRow) (ds : Devices) → lacks m ≡ false → own_devices m rows ds ≡ map as_pair rows
whole_is Up rows ds e = refl
whole_is (Down call) rows ds e = refl
whole_is Stopped rows ds e = refl
whole_is (Unsettled call) rows ds e = refl
whole_is (Incomplete missing) rows ds e = absurd cc

or_off : (b : Bool) → (b || false) ≡ true → b ≡ true
or_off true e = refl
or_off false e = absurd cc

row_some : (o : Option DevRow) (n : ℕ) → option_map size_of o ≡ Some n → is_some o ≡ true
row_some None n e = absurd cc
row_some (Some row) n e = refl

some_row : (o : Option DevRow) → is_some o ≡ true → (n : ℕ) × (option_map size_of o ≡ Some n)
some_row None e = absurd cc
some_row (Some row) e = (row.sectors, refl)

split : (b : Bool) (o : Option DevRow) (n : ℕ) → Some n ≡ cond b (option_map size_of o) None → (b ≡ true) × (is_some o ≡ true)
split true o n e = (refl, row_some o n (sym e))
split false o n e = absurd cc

later : (a b : ℕ) → a < b → a ≡ b → ⊥
later a b lt same = omega (arith, lt, same)

-- of two pools of different serials one stands before the other
pair_apart : (R : PoolState → PoolState → Type 0) (a b : ℕ) (p q : PoolState) (ps : List PoolState) → EachPair R ps → at a ps ≡ Some p → at b ps ≡ Some q → (a ≡ b → ⊥) → R p q ⊎ R q p
pair_apart R a b p q [] h ea eb ne = absurd cc
pair_apart R a b p q (x ∷ xs) h ea eb ne = by (x.serial == a) refl (x.serial == b) refl ea eb (pair_apart R a b p q xs h.1)
  where
    by : (c : Bool) → (x.serial == a) ≡ c → (d : Bool) → (x.serial == b) ≡ d → cond c (Some x) (at a xs) ≡ Some p → cond d (Some x) (at b xs) ≡ Some q → (at a xs ≡ Some p → at b xs ≡ Some q → (a ≡ b → ⊥) → R p q ⊎ R q p) → R p q ⊎ R q p
    by true c true d f g rest = absurd (ne (sym (same_number x.serial a c) ∙ same_number x.serial b d))
    by true c false d f g rest = let same : x ≡ p = cc in inl (subst (λ z. R z q) same (all_found (R x) b q xs h.0 g))
    by false c true d f g rest = let same : x ≡ q = cc in inr (subst (λ z. R z p) same (all_found (R x) a p xs h.0 f))
    by false c false d f g rest = rest f g ne

-- a pool of them that uses a device
used_at : (path : Text) (q : ℕ) (p : PoolState) (ps : List PoolState) → at q ps ≡ Some p → is_used path (known p) ≡ true → used path ps ≡ true
used_at path q p [] found e = absurd cc
used_at path q p (x ∷ xs) found e = by (x.serial == q) found (used_at path q p xs)
  where
    or_second : (a b : Bool) → b ≡ true → (a || b) ≡ true
    or_second true b k = refl
    or_second false b k = k

    by : (c : Bool) → cond c (Some x) (at q xs) ≡ Some p → (at q xs ≡ Some p → is_used path (known p) ≡ true → used path xs ≡ true) → (is_used path (known x) || used path xs) ≡ true
    by true f rest = let same : x ≡ p = cc in ap (λ b. b || used path xs) (ap (λ z. is_used path (known z)) same ∙ e)
    by false f rest = or_second (is_used path (known x)) (used path xs) (rest f e)

module _ {D : Type 0} (devs : D → Devices) (moment : D → ℕ) (state_at : D → ℕ → State) (s : EngineState) (valid : IsValid s) where
  -- The rack is that of this pool of the state.
  pub record IsPiece (p : PoolState) (x : D) : Type 0 where
    pub here : at p.serial s.pools ≡ Some p
    pub own : IsOwn p (devs x)
    pub kept : Kept p (devs x) (now moment state_at x)
    pub lacking : (missing : Text) → p.mode ≡ Incomplete missing → (d : Path) → sectors_of (devs x) d ≡ cond (is_some (row_of d p.devices)) (option_map size_of (row_of d s.devices)) None

  module _ (p : PoolState) (x : D) (piece : IsPiece p x) where
    there_of : AreThere s.devices p p.mode
    there_of = all_found (λ (z : PoolState). AreThere s.devices z z.mode) p.serial p s.pools valid.there piece.here

    rows_alone : (missing : Text) → p.mode ≡ Incomplete missing → (d : Path) → uses d p ≡ (is_some (row_of d p.devices) || false)
    rows_alone missing is d = ap (λ (m : PoolMode). is_some (row_of d p.devices) || takes_path d (flight_of m)) is

    pub piece_has : (d : Path) (n : ℕ) → Has (devs x) d n → (uses d p ≡ true) × (is_there s.devices d ≡ true)
    piece_has d n has = by (lacks_or p.mode)
      where
        on_left : (b : Bool) → b ≡ true → (b || false) ≡ true
        on_left b e = ap (λ c. c || false) e

        by : (lacks p.mode ≡ false) ⊎ ((missing : Text) × (p.mode ≡ Incomplete missing)) → (uses d p ≡ true) × (is_there s.devices d ≡ true)
        by (inl whole) =
            let used_it : uses d p ≡ true = sym (uses_named p (devs x) (whole_is p.mode p.devices (devs x) whole) d) ∙ piece.own.alone d n has in
            (used_it, uses_there s.devices p d p.mode refl whole there_of used_it)
        by (inr lacking) =
            let two = split (is_some (row_of d p.devices)) (row_of d s.devices) n (sym has ∙ piece.lacking lacking.0 lacking.1 d) in
            (rows_alone lacking.0 lacking.1 d ∙ on_left (is_some (row_of d p.devices)) two.0, two.1)

    pub has_piece : (d : Path) → uses d p ≡ true → is_there s.devices d ≡ true → (n : ℕ) × Has (devs x) d n
    has_piece d used_it there = by (lacks_or p.mode)
      where
        by : (lacks p.mode ≡ false) ⊎ ((missing : Text) × (p.mode ≡ Incomplete missing)) → (n : ℕ) × Has (devs x) d n
        by (inl whole) =
            let one = among d (in_use p (devs x)) (uses_named p (devs x) (whole_is p.mode p.devices (devs x) whole) d ∙ used_it) in
            (one.device.1, subst (λ (q : Path). Has (devs x) q one.device.1) one.same (piece.own.there one.place one.device one.at))
        by (inr lacking) =
            let row = some_row (row_of d s.devices) there in
            let own_row : is_some (row_of d p.devices) ≡ true = or_off (is_some (row_of d p.devices)) (sym (rows_alone lacking.0 lacking.1 d) ∙ used_it) in
            (row.0, piece.lacking lacking.0 lacking.1 d ∙ ap (λ b. cond b (option_map size_of (row_of d s.devices)) None) own_row ∙ row.1)

  pub two_apart : (p q : PoolState) (x y : D) → IsPiece p x → IsPiece q y → (p.serial ≡ q.serial → ⊥) → AreApart devs x y
  two_apart p q x y one two ne d n has = by (sectors_of (devs x) d) refl
    where
      other : (uses d q ≡ true) × (is_there s.devices d ≡ true)
      other = piece_has q y two d n has

      clash : Apart s.devices p q ⊎ Apart s.devices q p → uses d p ≡ true → ⊥
      clash (inl apart) e = apart.devices d other.1 e other.0
      clash (inr apart) e = apart.devices d other.1 other.0 e

      by : (o : Option ℕ) → sectors_of (devs x) d ≡ o → is_some (sectors_of (devs x) d) ≡ false
      by None e = ap is_some e
      by (Some m) e = absurd (clash (pair_apart (Apart s.devices) p.serial q.serial p q s.pools valid.apart one.here two.here ne) (piece_has p x one d m e).0)

  module _ (free : D) (the_free : AreTheFree (table_of s) (devs free)) where
    pub free_apart : (p : PoolState) (x : D) → IsPiece p x → AreApart devs free x
    free_apart p x piece d n has =
        ap is_some (the_free d ∙ ap (λ b. cond b None (option_map size_of (row_of d s.devices))) (used_at d p.serial p s.pools piece.here (uses_known d p ∙ (piece_has p x piece d n has).0)))

    pub free_within : (d : Path) (n : ℕ) → Has (devs free) d n → is_some (row_of d s.devices) ≡ true
    free_within d n has = by (used d s.pools) (sym (the_free d) ∙ has)
      where
        by : (b : Bool) → cond b None (option_map size_of (row_of d s.devices)) ≡ Some n → is_some (row_of d s.devices) ≡ true
        by true e = absurd cc
        by false e = row_some (row_of d s.devices) n e
