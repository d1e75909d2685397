-- the order of the pools makes no difference to what is asked of them
use Rattle.std.proofs.Common.{◌≡◌, List, [], ◌∷◌, length, Bool, true, false, cond, not, ◌||◌, map, Some, is_none, refl, sym, ap, ◌∙◌, eqb}
use Rattle.std.specs.Prelude.{find}
use Rattle.std.specs.List.{list_any}
use Rattle.std.proofs.lemmas.List.{length-map}
use Rattle.st_units.specs.declared.rows.DevRow.{DevRow}
use Rattle.st_model.specs.declared.state.KnownPool.{KnownPool}
use Rattle.st_model.specs.declared.state.PoolState.{PoolState}
use Rattle.st_model.specs.declared.state.TableState.{TableState}
use Rattle.st_model.specs.OnTable.{is_held}
use Rattle.st_model.specs.Parts.{is_used, free_of}
use Rattle.st_order.specs.Sorted.{ordered}
use Rattle.st_order.proofs.Ordered.{any_ordered, length_ordered}
use Rattle.st_order.proofs.Lists.{any-map, any_found, filter_same}
use Rattle.st_table.specs.Table.{TablePool, TableView, names_of}
use Rattle.st_table.specs.Stands.{known_name, tabled, Stands, TellAlike, Alike}

names_tabled : (stopped : List PoolState) (pools : List KnownPool) → names_of (map (tabled stopped) pools) ≡ pools
names_tabled stopped [] = refl
names_tabled stopped (x ∷ xs) = ap (λ ys. x ∷ ys) (names_tabled stopped xs)

module _ (view : TableView) (t : TableState) (h : Stands view t) where
  names : names_of view.pools ≡ ordered known_name t.names
  names = ap names_of h.pools ∙ names_tabled t.stopped (ordered known_name t.names)

  any_alike : (p : KnownPool → Bool) → list_any (λ (pool : TablePool). p pool.known) view.pools ≡ list_any p t.names
  any_alike p = sym (any-map (λ (pool : TablePool). pool.known) p view.pools) ∙ (ap (list_any p) names ∙ any_ordered known_name p t.names)

  none_alike : (p : KnownPool → Bool) → is_none (find p (names_of view.pools)) ≡ is_none (find p t.names)
  none_alike p = none_found p (names_of view.pools) ∙ (ap (λ ks. not (list_any p ks)) names ∙ (ap not (any_ordered known_name p t.names) ∙ sym (none_found p t.names)))
    where
      none_found : (q : KnownPool → Bool) (xs : List KnownPool) → is_none (find q xs) ≡ not (list_any q xs)
      none_found q [] = refl
      none_found q (x ∷ xs) =
          let cases : (b : Bool) → is_none (cond b (Some x) (find q xs)) ≡ not (b || list_any q xs) = elim [ true ↦ refl | false ↦ none_found q xs ] in
          cases (q x)

  tell_alike : TellAlike view t
  tell_alike = record {
    held = λ name. any_alike (is_held name) ∙ sym (any_found (is_held name) t.names);
    serials = λ serial. any_alike (λ (pool : KnownPool). eqb pool.serial serial);
    free =
        ap (map (λ (row : DevRow). row.path)) (filter_same (λ (row : DevRow). is_none (find (is_used row.path) (names_of view.pools))) (λ (row : DevRow). is_none (find (is_used row.path) t.names)) (λ row. none_alike (is_used row.path)) view.devices)
        ∙ ap (free_of t.names) h.devices;
    count = ap length h.pools ∙ (length-map (ordered known_name t.names) (tabled t.stopped) ∙ length_ordered known_name t.names);
  }

pub all_alike : Alike
all_alike view t h = tell_alike view t h
