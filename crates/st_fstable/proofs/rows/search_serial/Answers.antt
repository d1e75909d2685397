use Rattle.std.proofs.Common.{rules, [], ◌∷◌}
use Rattle.std.specs.Ordering.{nat_cmp}
use Rattle.std.specs.Cmp.Lexicographic.{slice_cmp}
use Rattle.std.proofs.lemmas.Fn.{always_returns_same}
use Rattle.st_units.specs.declared.rows.FsRow.{FsRow}
use Rattle.st_order.proofs.Order.{Searched, searched}
use Rattle.st_fstable.proofs.Serials.{serial_text, serials_rise, one_cmp, found_row, other_rows, changed_row, no_row}
use Rattle.st_fstable.proofs.rows.search_serial.Goals as goal

says : (c : goal.After-binary_search_by) → Searched serial_text (c.args.serial ∷ []) c.args.rows.now c.binary_search_by.result
says c = searched serial_text (c.args.serial ∷ []) c.args.rows.now c.binary_search_by.result (serials_rise c.args.rows.now c.requires) c.binary_search_by.ensures.bound
    (c.binary_search_by.ensures.position (λ (y : FsRow). slice_cmp nat_cmp (serial_text y) (c.args.serial ∷ [])) (always_returns_same _ _ _ (λ a r q k. search (rules, one_cmp))))

pub returns-clause-found : goal.returns-clause-found
returns-clause-found c = found_row _ _ _ c.requires (says c)

pub returns-clause-others : goal.returns-clause-others
returns-clause-others c = other_rows _ _ _ c.requires (says c)

pub returns-clause-changed : goal.returns-clause-changed
returns-clause-changed c = changed_row _ _ _ c.requires (says c)

pub returns-clause-absent : goal.returns-clause-absent
returns-clause-absent c = no_row _ _ _ c.requires (says c)
