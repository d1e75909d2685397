use Rattle.std.proofs.Common.{◌≡◌, ◌&&◌, ℕ, suc, ◌+◌, Option, take, unwrap_or, sym, ap, ◌∙◌, arith}
use Rattle.std.specs.List.{list_all}
use Rattle.st_rack.specs.Calls.{size_in}
use Rattle.st_waking.specs.Readies.{fits_in, is_sized}
use Rattle.st_waking.proofs.Sizing.{all_but_one, all_one}
use Rattle.st_waking.proofs.sizes.all_fit.Goals as goal

pub returns-then-not-is_sized : goal.returns-then-not-is_sized
returns-then-not-is_sized g c =
    let devs = g.R.Rack.devs c.args.rack.now in let path = c.path_of-dev.result.now in let rows = c.args.table.now.devices in
    let size : c.unwrap_or-sectors.result ≡ size_in devs path = c.unwrap_or-sectors.ensures ∙ ap (λ (o : Option ℕ). unwrap_or o 0) c.sectors.ensures in
    let known = c.sectors-in-loop-index.ensures in
    let fits : c.is_sized.result ≡ fits_in rows (path, size_in devs path) = c.is_sized.ensures ∙ (λ j. is_sized (size j) (known j)) in
    sym (all_but_one (fits_in rows) devs c.loop-index.index (path, size_in devs path) c.path_of-dev.ensures.at (sym fits ∙ c.if-not-is_sized.true))

pub loop-index-preserved : goal.loop-index-preserved
loop-index-preserved g c =
    let devs = g.R.Rack.devs c.args.rack.now in let path = c.path_of-dev.result.now in let rows = c.args.table.now.devices in let i = c.loop-index.index in
    let size : c.unwrap_or-sectors.result ≡ size_in devs path = c.unwrap_or-sectors.ensures ∙ ap (λ (o : Option ℕ). unwrap_or o 0) c.sectors.ensures in
    let known = c.sectors-in-loop-index.ensures in
    let fits : c.is_sized.result ≡ fits_in rows (path, size_in devs path) = c.is_sized.ensures ∙ (λ j. is_sized (size j) (known j)) in
    let fit = c.loop-index.invariant.fit in let last = sym fits ∙ c.if-not-is_sized.false in
    let after : i + 1 ≡ suc i = omega arith in
    record { fit = ap (λ (k : ℕ). list_all (fits_in rows) (take k devs)) after ∙ (all_one (fits_in rows) devs i (path, size_in devs path) c.path_of-dev.ensures.at ∙ (λ j. fit j && last j)) }
