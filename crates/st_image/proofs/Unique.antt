-- Devices stand for one thing at most, and what a start finds is told by its generation.
use Rattle.std.proofs.Common.{◌≡◌, ◌≢◌, ◌⊎◌, inl, inr, ℕ, zero, suc, ◌+◌, Bool, true, false, ◌||◌, cond, List, [], ◌∷◌, ◌++◌, Option, Some, None, refl, sym, ◌∙◌, ap, subst, arith}
use Rattle.std.specs.List.{slice_get, AllByRecursion}
use Rattle.std.specs.Str.{bytes_eq}
use Rattle.std.proofs.lemmas.Slice.Eq.{bytes_eq-Decides}
use Rattle.st_units.specs.declared.rows.DevRow.{DevRow}
use Rattle.st_poolrec.specs.declared.record.PoolRec.{PoolRec}
use Rattle.st_poolrec.specs.Record as pools
use Rattle.st_poolrec.proofs.ReadingLemmas as pool_lemmas
use Rattle.st_flexlog.specs.declared.state.FlexState.{FlexState}
use Rattle.st_flexat.specs.FlexAt.{FlexAt}
use Rattle.st_flexat.proofs.Once.{said_once}
use Rattle.st_model.specs.declared.call.Call.{Call}
use Rattle.st_model.specs.declared.call.Call.TheVariants.{CreatePool}
use Rattle.st_model.specs.declared.state.PoolState.{PoolState}
use Rattle.st_model.specs.Merged.{merged}
use Rattle.st_rack.specs.Story.{Content}
use Rattle.st_rack.specs.Device.{Path, Image}
use Rattle.st_rack.specs.Calls.{Devices}
use Rattle.st_image.specs.Looks.{flex_area}
use Rattle.st_image.specs.Bears.{Bears, HasRow, first_of}
use Rattle.st_image.specs.Stands.{Whole, Lacking, IsFound, IsLacking, StandsFor, NoPool, Nothing, Gone, state_of, lacking_of, missing, is_on}
use Rattle.st_image.specs.Survivors.{IsBefore, Survives, after}

pair_of : (a b : ℕ × List ℕ) → Some a ≡ Some b → a ≡ b
pair_of a b e = cc

no_some : (a : ℕ × List ℕ) → None ≡ Some a → ⊥
no_some a e = cc

pub same_pool_text : (a b : PoolRec) → pools.IsPoolRec a → pools.IsPoolRec b → pools.record_text a ≡ pools.record_text b → a ≡ b
same_pool_text a b of_a of_b e = (pool_lemmas.same_record a b [] [] of_a.fits of_b.fits (ap (λ (l : List ℕ). l ++ []) e)).0

pub same_flex : (g h : ℕ) (a b : FlexState) (f : Content) (p : ℕ) → g ≡ h → FlexAt flex_area p g f a → FlexAt flex_area p h f b → a ≡ b
same_flex g h a b f p e one two = said_once flex_area p g f a b one (subst (λ (n : ℕ). FlexAt flex_area p n f b) (sym e) two)

module _ (p : ℕ) (devs : Devices) (c : Image) where
  -- the newest is one
  pub one_newest : (g h : ℕ) (a b : PoolRec) → Bears p devs g a c → Bears p devs h b c → (g ≡ h) × (a ≡ b)
  one_newest g h a b one two =
      let pair = pair_of (g, pools.record_text a) (h, pools.record_text b) (sym one.newest ∙ two.newest) in
      (ap (λ (x : ℕ × List ℕ). x.0) pair, same_pool_text a b one.is two.is (ap (λ (x : ℕ × List ℕ). x.1) pair))

  not_both : (g : ℕ) (rec : PoolRec) → NoPool p devs c → Bears p devs g rec c → rec.gone ≡ false → ⊥
  not_both g rec (Nothing none) bears alive = no_some (g, pools.record_text rec) (sym none ∙ bears.newest)
  not_both g rec (Gone h other bears_other gone) bears alive =
      let e = (one_newest g h rec other bears bears_other).1 in
      let x : other.gone ≡ false = ap (λ (r : PoolRec). r.gone) (sym e) ∙ alive in
      absurd (cc)

  on_it : (ds : Devices) (k : ℕ) (d : Path × ℕ) → slice_get ds k ≡ Some d → is_on d.0 ds ≡ true
  on_it [] k d is = absurd (cc)
  on_it (e ∷ ds) zero d is =
      let same : e ≡ d = cc in
      (λ i. bytes_eq (same i).0 d.0 || is_on d.0 ds) ∙ ap (λ (b : Bool). b || is_on d.0 ds) ((bytes_eq-Decides d.0 d.0).1 refl)
  on_it (e ∷ ds) (suc k) d is = ap (λ (b : Bool). bytes_eq e.0 d.0 || b) (on_it ds k d is) ∙ or_true (bytes_eq e.0 d.0)
    where
      or_true : (b : Bool) → (b || true) ≡ true
      or_true true = refl
      or_true false = refl

  -- where each row is there, none is missing
  pub none_missing : (rows : List DevRow) → AllByRecursion (HasRow p devs c) rows → missing rows devs ≡ None
  none_missing [] all = refl
  none_missing (row ∷ rows) all =
      let one = all.0 in
      let there : is_on row.path devs ≡ true = on_it devs one.index (row.path, row.sectors) one.of in
      ap (λ (b : Bool). cond b (missing rows devs) (Some row.path)) there ∙ none_missing rows all.1

  none_some : (o : Option Path) (path : Path) → o ≡ None → o ≡ Some path → ⊥
  none_some o path a b = absurd (cc)

  whole_or_lacking : (g h : ℕ) (a b : PoolRec) (flex : FlexState) (path : Path) → Whole p devs c g a flex → Lacking p devs c h b path → ⊥
  whole_or_lacking g h a b flex path one two =
      let same = (one_newest g h a b one.bears.record_of two.bears).1 in
      none_some (missing b.devs devs) path (subst (λ (r : PoolRec). missing r.devs devs ≡ None) same (none_missing a.devs one.bears.rows)) two.lacks

  path_same : (x y : Path) → Some x ≡ Some y → x ≡ y
  path_same x y e = cc

  found_once : (a b : PoolState) → IsFound p devs c a → IsFound p devs c b → a ≡ b
  found_once a b one two =
      let same = one_newest one.0 two.0 one.1 two.1 one.3.bears.record_of two.3.bears.record_of in
      let flexed : FlexAt flex_area p two.0 (c (first_of one.1)) two.2 = subst (λ (r : PoolRec). FlexAt flex_area p two.0 (c (first_of r)) two.2) (sym same.1) two.3.bears.flexed in
      let flex = same_flex one.0 two.0 one.2 two.2 (c (first_of one.1)) p same.0 one.3.bears.flexed flexed in
      one.4 ∙ (λ i. merged (state_of (same.0 i) (same.1 i) (flex i) c)) ∙ sym two.4

  lacking_once : (a b : PoolState) → IsLacking p devs c a → IsLacking p devs c b → a ≡ b
  lacking_once a b one two =
      let same = one_newest one.0 two.0 one.1 two.1 one.3.bears two.3.bears in
      let path = path_same one.2 two.2 (sym one.3.lacks ∙ ap (λ (r : PoolRec). missing r.devs devs) same.1 ∙ two.3.lacks) in
      one.4 ∙ (λ i. lacking_of (same.1 i) (path i)) ∙ sym two.4

  not_known : (a : PoolState) → NoPool p devs c → IsFound p devs c a ⊎ IsLacking p devs c a → ⊥
  not_known a none (inl one) = not_both one.0 one.1 none one.3.bears.record_of one.3.alive
  not_known a none (inr one) = not_both one.0 one.1 none one.3.bears one.3.alive

  pub stands_once : (a b : Option PoolState) → StandsFor p devs c a → StandsFor p devs c b → a ≡ b
  stands_once None None one two = refl
  stands_once None (Some b) one two = absurd (not_known b one two)
  stands_once (Some a) None one two = absurd (not_known a two one)
  stands_once (Some a) (Some b) (inl one) (inl two) = ap (λ (q : PoolState). Some q) (found_once a b one two)
  stands_once (Some a) (Some b) (inl one) (inr two) = absurd (whole_or_lacking one.0 two.0 one.1 two.1 one.2 two.2 one.3 two.3)
  stands_once (Some a) (Some b) (inr one) (inl two) = absurd (whole_or_lacking two.0 one.0 two.1 one.1 two.2 one.2 two.3 one.3)
  stands_once (Some a) (Some b) (inr one) (inr two) = ap (λ (q : PoolState). Some q) (lacking_once a b one two)

some_pool : (a b : PoolState) → Some a ≡ Some b → a ≡ b
some_pool a b e = cc

before_none : (q : PoolState) → Some q ≡ None → ⊥
before_none q e = cc

-- the pool before has its commits
before_commits : (pool : PoolState) (call : Call) (q : PoolState) → IsBefore pool call (Some q) → q.commits ≡ pool.commits
before_commits pool (CreatePool name devices) q is = absurd (before_none q is)
before_commits pool _ q is = ap (λ (x : PoolState). x.commits) (some_pool q _ is.2)

-- another generation tells that the call was done
pub found_after : (pool : PoolState) (call : Call) (devs : Devices) (q : PoolState) → Survives pool call devs (Some q) → q.commits ≢ pool.commits → Some q ≡ after pool call devs
found_after pool call devs q (inl before) differ = absurd (differ (before_commits pool call q before))
found_after pool call devs q (inr done) differ = done

-- the same generation tells that it wasn't, where the call would have made a commit
pub found_before : (pool : PoolState) (call : Call) (devs : Devices) (q : PoolState) → Survives pool call devs (Some q) → ((r : PoolState) → after pool call devs ≡ Some r → r.commits ≡ pool.commits + 1) → q.commits ≡ pool.commits
    → IsBefore pool call (Some q)
found_before pool call devs q (inl before) commits same = before
found_before pool call devs q (inr done) commits same =
    let one = commits q (sym done) in
    absurd (omega (arith, one, same))
