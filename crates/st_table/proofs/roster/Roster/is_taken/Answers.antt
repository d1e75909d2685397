use Rattle.std.specs.Prelude.{option_map, option_copied, is_some}
use Rattle.std.specs.List.{list_any}
use denote.Bor.{Bor}
use Rattle.std.proofs.Common.{◌≡◌, ap, sym, ◌∙◌, subst, map, refl, List, Option, Some, None, ◌||◌, true, false}
use Rattle.st_model.specs.Look.{Text, is_name_of}
use Rattle.st_table.specs.declared.pool.Pool.{Pool}
use Rattle.st_table.specs.Table.{pool_named, is_taken}
use Rattle.st_table.specs.inner.Sound.{RosterView, table_pool, new_held}
use Rattle.st_table.proofs.Changes.{taken_told}
use Rattle.st_table.proofs.roster.Roster.is_taken.Goals as goal

told : (found : Option (Bor Pool)) → is_some (option_map table_pool (option_copied found)) ≡ is_some found
told None = refl
told (Some pool) = refl

-- what the pools' names say, of the view
said : (n : Text) (xs : List Pool) (v : RosterView) → map table_pool xs ≡ v.pools → is_taken n v.pools ≡ (is_some (pool_named n v.pools) || list_any (λ (item : Pool). is_name_of n (new_held item.holding)) xs)
said n xs v e = subst (λ ps. is_taken n ps ≡ (is_some (pool_named n ps) || list_any (λ (item : Pool). is_name_of n (new_held item.holding)) xs)) e (taken_told xs n)

pub returns-then-is_some : goal.returns-then-is_some
returns-then-is_some c =
    let named : is_some (pool_named c.args.name.now c.args.self.now.pools) ≡ true = ap is_some (sym c.pool.ensures) ∙ (told c.pool.result ∙ (sym c.is_some.ensures ∙ c.if-is_some.true)) in
    c.if-is_some.true ∙ sym (said c.args.name.now c.self.inside.pools.items c.args.self.now (ap (λ (v : RosterView). v.pools) c.self.view_is) ∙ ap (λ b. b || list_any (λ (item : Pool). is_name_of c.args.name.now (new_held item.holding)) c.self.inside.pools.items) named)

pub returns-else-is_some : goal.returns-else-is_some
returns-else-is_some c =
    let named : is_some (pool_named c.args.name.now c.args.self.now.pools) ≡ false = ap is_some (sym c.pool.ensures) ∙ (told c.pool.result ∙ (sym c.is_some.ensures ∙ c.if-is_some.false)) in
    c.has_new_name.ensures ∙ (ap (list_any (λ (item : Pool). is_name_of c.args.name.now (new_held item.holding))) c.deref.ensures.value
    ∙ sym (said c.args.name.now c.self.inside.pools.items c.args.self.now (ap (λ (v : RosterView). v.pools) c.self.view_is) ∙ ap (λ b. b || list_any (λ (item : Pool). is_name_of c.args.name.now (new_held item.holding)) c.self.inside.pools.items) named))
