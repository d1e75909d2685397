-- the tables of a rename tell of the states after it
use Rattle.std.proofs.Common.{◌≡◌, List, [], ◌∷◌, Bool, true, false, cond, Some, Result, Ok, Err, IfOk, refl, sym, ap, subst, ◌∙◌}
use Rattle.std.specs.Prelude.{option_map}
use Rattle.st_model.specs.declared.call.Call.TheVariants.{RenamePool}
use Rattle.st_model.specs.declared.entry.Env.{Env}
use Rattle.st_model.specs.declared.state.EngineState.{EngineState}
use Rattle.st_model.specs.declared.state.PoolMode.TheVariants.{Up}
use Rattle.st_model.specs.declared.state.PoolState.{PoolState}
use Rattle.st_model.specs.declared.state.TableState.{TableState}
use Rattle.st_model.specs.Checks.{down}
use Rattle.st_model.specs.Look.{Text, is_called}
use Rattle.st_model.specs.Parts.{pool_at, table_of}
use Rattle.st_model.specs.Step.{step}
use Rattle.st_model.specs.Valid.{IsValid}
use Rattle.st_model.specs.steps.RenamePool.{renamed}
use Rattle.st_cells.proofs.Lookups.{eq_of}
use Rattle.st_table.specs.Stands.{Stands}
use Rattle.st_table.specs.Steps.{KeptAlike, PoolsTold, PutAlike, StandsFor, kept, with_other}
use Rattle.st_table.specs.Table as tables
use Rattle.st_table.specs.Table.{TablePool, TableView, changed, pool_named, with_instead}
use Rattle.st_renaming.specs.inner.Ready.{Tells}

-- a pool that is found has the name
pub found_name : (name : Text) (ps : List PoolState) (p : PoolState) → pool_at name ps ≡ Some p → p.name ≡ name
found_name name [] p h = absurd cc
found_name name (x ∷ xs) p h = here (is_called name x) refl h (found_name name xs p)
  where
    here : (b : Bool) → is_called name x ≡ b → cond b (Some x) (pool_at name xs) ≡ Some p → (pool_at name xs ≡ Some p → p.name ≡ name) → p.name ≡ name
    here true e k rest = let same : x ≡ p = cc in ap (λ (z : PoolState). z.name) (sym same) ∙ eq_of x.name name e
    here false e k rest = rest k

-- the table with a pool put in and shown, as it is made
pub put_shown : {E : Type 0} (put : Text → TablePool → TablePool) (old other after : TableView) (name given new : Text) (made : Result TableView E) → other ≡ record old { prepared = true; spare = false } → given ≡ new
    → ((pool : TablePool) → pool_named name other.pools ≡ Some pool → after ≡ changed other (with_instead name (put given pool) other.pools))
    → IfOk made (λ (t : TableView). t ≡ record after { spare = true })
    → IfOk made (λ (t : TableView). (pool : TablePool) → pool_named name old.pools ≡ Some pool → t ≡ record (changed old (with_instead name (put new pool) old.pools)) { spare = true })
put_shown put old other after name given new (Err e) is same step shown = tt
put_shown put old other after name given new (Ok t) is same step shown = λ pool here.
    shown
    ∙ (ap (λ (v : TableView). record v { spare = true }) (step pool (ap (λ (v : TableView). pool_named name v.pools) is ∙ here))
    ∙ (ap (λ (v : TableView). record (changed v (with_instead name (put given pool) v.pools)) { spare = true }) is
    ∙ ap (λ (n : Text). record (changed old (with_instead name (put n pool) old.pools)) { spare = true }) same))

-- a spare info changes nothing of what a table tells
spared : (t : TableView) (u : TableState) → Stands t u → Stands (record t { spare = true }) u
spared t u h = record { pools = h.pools; devices = h.devices; next = h.next }

module _ (view : TableView) (s : EngineState) (valid : IsValid s) (stands : StandsFor view s) (told : PoolsTold) (put : PutAlike) (name : Text) where
  kept_there : (p : PoolState) → pool_at name s.pools ≡ Some p → pool_named name view.pools ≡ Some (kept p)
  kept_there p here = told view s name valid stands ∙ ap (option_map kept) here

  abbrev with_put : (TablePool → TablePool) → TablePool → TableView
  with_put g pool = record (changed view (with_instead name (g pool) view.pools)) { spare = true }

  put_tells : (g : TablePool → TablePool) (p q : PoolState) → pool_at name s.pools ≡ Some p → IsValid (with_other name q s) → kept q ≡ g (kept p) → (table : TableView)
      → ((pool : TablePool) → pool_named name view.pools ≡ Some pool → table ≡ with_put g pool) → Stands table (table_of (with_other name q s))
  put_tells g p q here after alike table is =
      subst (λ (v : TableView). Stands v (table_of (with_other name q s))) (sym (is (kept p) (kept_there p here)))
      (spared (changed view (with_instead name (g (kept p)) view.pools)) (table_of (with_other name q s))
      (subst (λ (k : TablePool). Stands (changed view (with_instead name k view.pools)) (table_of (with_other name q s))) alike (put view s name p q valid after here stands)))

  has_spare : (g : TablePool → TablePool) (p : PoolState) → pool_at name s.pools ≡ Some p → (table : TableView) → ((pool : TablePool) → pool_named name view.pools ≡ Some pool → table ≡ with_put g pool) → table.spare ≡ true
  has_spare g p here table is = ap (λ (v : TableView). v.spare) (is (kept p) (kept_there p here))

  module _ (law : KeptAlike) (new : Text) (one : PoolState) (there : pool_at name s.pools ≡ Some one) (table : TableView) (state : TableState) (env : Env) (is : state ≡ table_of (step s (RenamePool name new) env).1) where
    pub tells_renamed : ((pool : TablePool) → pool_named name view.pools ≡ Some pool → table ≡ with_put (tables.renamed new) pool) → Tells s (RenamePool name new) env name (renamed new) table state
    tells_renamed told_so = record {
      spare = has_spare (tables.renamed new) one there table told_so;
      state_is = is;
      tells = λ p here up after. put_tells (tables.renamed new) p (renamed new p) here after (law.renamed p new up) table told_so;
    }

    -- the pool's own name, in the call
    held_alike : (p : PoolState) → pool_at name s.pools ≡ Some p → p.mode ≡ Up → kept (down (RenamePool name new) p) ≡ tables.holding new (kept p)
    held_alike p here up = ap (λ (n : Text). kept (down (RenamePool n new) p)) (sym (found_name name s.pools p here)) ∙ law.held p new up

    pub tells_down : ((pool : TablePool) → pool_named name view.pools ≡ Some pool → table ≡ with_put (tables.holding new) pool) → Tells s (RenamePool name new) env name (down (RenamePool name new)) table state
    tells_down told_so = record {
      spare = has_spare (tables.holding new) one there table told_so;
      state_is = is;
      tells = λ p here up after. put_tells (tables.holding new) p (down (RenamePool name new) p) here after (held_alike p here up) table told_so;
    }
