use Rattle.std.proofs.Common.{◌≡◌, sym, ap, ◌∙◌}
use Rattle.std.specs.List.{list_all}
use Rattle.std.proofs.lemmas.Option.{get_or_from_slice_get}
use Rattle.st_pool.specs.Halts.{HaltedView}
use Rattle.st_waking.specs.Readies.{fits_in}
use Rattle.st_waking.proofs.ready.make_ready.Goals as goal

pub returns : goal.returns
returns g c =
    let R = g.R.Rack in let at = c.in-Some.ensures.some in let rows = c.args.table.now.devices in
    let same : c.index-halted-place.result ≡ at.0 = c.index-halted-place.is ∙ get_or_from_slice_get c.args.halted.now c.in-Some.place at.0 c.index-halted-place.result at.1 in
    record {
      tables = c.in_ok-tables.ensures;
      pool = at.0;
      at = at.1;
      named = at.2;
      sizes =
          ap (λ (h : HaltedView _). list_all (fits_in rows) (R.devs h.rack)) (sym same)
          ∙ (ap (λ r. list_all (fits_in rows) (R.devs r)) (sym c.rack.ensures) ∙ (sym c.all_fit.ensures ∙ c.if-not-all_fit.false));
    }
