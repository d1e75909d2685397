-- what the pools beside one of a valid state hold and use
use Rattle.std.proofs.Common.{◌≡◌, ℕ, List, [], ◌∷◌, Bool, true, false, cond, not, ◌||◌, Some, refl, ap, ◌∙◌, arith}
use Rattle.std.specs.Prelude.{◌==◌}
use Rattle.std.specs.List.{AllByRecursion, list_any}
use Rattle.std.proofs.lemmas.Bool.Decides.{nat_tests}
use Rattle.st_units.specs.declared.rows.DevRow.{DevRow}
use Rattle.st_model.specs.declared.state.KnownPool.{KnownPool}
use Rattle.st_model.specs.declared.state.PoolState.{PoolState}
use Rattle.st_model.specs.declared.state.TableState.{TableState}
use Rattle.st_model.specs.Flight.{all_but}
use Rattle.st_model.specs.Look.{Text, is_called}
use Rattle.st_model.specs.Parts.{pool_at}
use Rattle.st_model.specs.Valid.{Apart}
use Rattle.st_model.specs.ValidPool.{EachPair}
use Rattle.st_order.specs.Sorted.{ordered}
use Rattle.st_order.proofs.Lists.{any-map, any_less, found_passes}
use Rattle.st_order.proofs.Ordered.{any_ordered}
use Rattle.st_table.specs.Stands.{Stands, known_name, tabled}
use Rattle.st_table.specs.Table.{TablePool, TableView}

eq_self : (n : ℕ) → (n == n) ≡ true
eq_self n = grind (arith, nat_tests)

-- what some pool of the table does
pub any_told : (view : TableView) (t : TableState) (k : KnownPool → Bool) → Stands view t → list_any (λ (x : TablePool). k x.known) view.pools ≡ list_any k t.names
any_told view t k stands =
    ap (list_any (λ (x : TablePool). k x.known)) stands.pools
    ∙ (any-map (tabled t.stopped) (λ (x : TablePool). k x.known) (ordered known_name t.names) ∙ any_ordered known_name k t.names)

module _ (rows : List DevRow) (f : PoolState → Bool) (once : (a b : PoolState) → Apart rows a b → f a ≡ true → f b ≡ true → ⊥) where
  so : (b : Bool) → (b ≡ true → ⊥) → b ≡ false
  so true g = absurd (g refl)
  so false g = refl

  none_behind : (p : PoolState) (ps : List PoolState) → f p ≡ true → AllByRecursion (Apart rows p) ps → list_any f ps ≡ false
  none_behind p [] e h = refl
  none_behind p (q ∷ qs) e h = ap (λ (b : Bool). b || list_any f qs) (so (f q) (once p q h.0 e)) ∙ none_behind p qs e h.1

  -- what a pool does, and no two that are apart both do, none of the others does
  pub no_other : (name : Text) (p : PoolState) (ps : List PoolState) → EachPair (Apart rows) ps → pool_at name ps ≡ Some p → f p ≡ true → list_any f (all_but p.serial ps) ≡ false
  no_other name p [] h found e = absurd cc
  no_other name p (q ∷ qs) h found e = here (is_called name q) refl found (no_other name p qs h.1)
    where
      first : (t : Bool) → f q ≡ false → list_any f (all_but p.serial qs) ≡ false → list_any f (cond (not t) (q ∷ all_but p.serial qs) (all_but p.serial qs)) ≡ false
      first true k rest = rest
      first false k rest = ap (λ (b : Bool). b || list_any f (all_but p.serial qs)) k ∙ rest

      own : q ≡ p → list_any f (all_but p.serial qs) ≡ false → list_any f (all_but p.serial (q ∷ qs)) ≡ false
      own same rest = ap (λ (t : Bool). list_any f (cond (not t) (q ∷ all_but p.serial qs) (all_but p.serial qs))) (ap (λ (x : PoolState). x.serial == p.serial) same ∙ eq_self p.serial) ∙ rest

      here : (b : Bool) → is_called name q ≡ b → cond b (Some q) (pool_at name qs) ≡ Some p → (pool_at name qs ≡ Some p → f p ≡ true → list_any f (all_but p.serial qs) ≡ false) → list_any f (all_but p.serial (q ∷ qs)) ≡ false
      here true k g more =
          let same : q ≡ p = cc in
          own same (any_less f (λ (x : PoolState). not (x.serial == p.serial)) qs (none_behind q qs (ap f same ∙ e) h.0))
      here false k g more =
          let apart : Apart rows q p = (found_passes (is_called name) (Apart rows q) qs p h.0 g).1 in
          first (q.serial == p.serial) (so (f q) (λ t. once q p apart t e)) (more g e)
