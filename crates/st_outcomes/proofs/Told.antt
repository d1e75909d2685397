-- what a table tells of the pool of a name
use Rattle.std.proofs.Common.{◌≡◌, Bool, true, false, cond, Option, Some, None, is_some, refl, sym, ap, subst, ◌∙◌}
use Rattle.std.specs.Prelude.{option_map}
use Rattle.st_model.specs.declared.state.EngineState.{EngineState}
use Rattle.st_model.specs.declared.state.PoolState.{PoolState}
use Rattle.st_model.specs.Look.{Text, is_started}
use Rattle.st_model.specs.Parts.{pool_at}
use Rattle.st_model.specs.Valid.{IsValid}
use Rattle.st_order.proofs.Lists.{any_found}
use Rattle.st_cells.proofs.Lookups.{keep, own_is}
use Rattle.st_table.specs.Steps.{PoolsTold, StandsFor, kept}
use Rattle.st_table.specs.Table.{TableView, is_named, knows}
use Rattle.st_outcomes.specs.Told.{StartedTold, TellsStarted, TellsUnstarted, UnstartedTold}

some_kept : (o : Option PoolState) → is_some (option_map kept o) ≡ is_some o
some_kept None = refl
some_kept (Some p) = refl

known_is : PoolsTold → (view : TableView) (s : EngineState) (name : Text) → IsValid s → StandsFor view s → knows name view.pools ≡ is_some (pool_at name s.pools)
known_is law view s name valid stands = sym (any_found (is_named name) view.pools) ∙ (ap is_some (law view s name valid stands) ∙ some_kept (pool_at name s.pools))

off : (t : Bool) (p : PoolState) → cond t (Some p) None ≡ None → t ≡ false
off true p e = absurd cc
off false p e = refl

on : (t : Bool) (q p : PoolState) → cond t (Some q) None ≡ Some p → (q ≡ p) × (t ≡ true)
on true q p e = (cc, refl)
on false q p e = absurd cc

pub unstarted : PoolsTold → TellsUnstarted
unstarted law view s name valid stands none = by (pool_at name s.pools) refl (ap keep refl ∙ (sym (own_is s.devices name s.pools valid.apart) ∙ none))
  where
    known : knows name view.pools ≡ is_some (pool_at name s.pools)
    known = known_is law view s name valid stands

    by : (o : Option PoolState) → pool_at name s.pools ≡ o → keep (pool_at name s.pools) ≡ None → UnstartedTold view s name
    by None e k = record { unknown = λ u. e; idle = λ u. absurd (let t : knows name view.pools ≡ false = known ∙ ap is_some e in cc) }
    by (Some p) e k = record {
      unknown = λ u. absurd (let t : knows name view.pools ≡ true = known ∙ ap is_some e in cc);
      idle = λ u. (p, e, off (is_started p.mode) p (sym (ap keep e) ∙ k));
    }

pub started : PoolsTold → TellsStarted
started law view s p valid stands own_is_it = by (pool_at p.name s.pools) refl (sym (own_is s.devices p.name s.pools valid.apart) ∙ own_is_it)
  where
    by : (o : Option PoolState) → pool_at p.name s.pools ≡ o → keep (pool_at p.name s.pools) ≡ Some p → StartedTold view s p
    by None e k = absurd (let t : keep None ≡ Some p = sym (ap keep e) ∙ k in cc)
    by (Some q) e k =
        let it = on (is_started q.mode) q p (sym (ap keep e) ∙ k) in
        let here : pool_at p.name s.pools ≡ Some p = subst (λ (x : PoolState). pool_at p.name s.pools ≡ Some x) it.0 e in
        record {
          here = here;
          started = subst (λ (x : PoolState). is_started x.mode ≡ true) it.0 it.1;
          known = known_is law view s p.name valid stands ∙ ap is_some here;
          keeps = law view s p.name valid stands ∙ ap (option_map kept) here;
        }
