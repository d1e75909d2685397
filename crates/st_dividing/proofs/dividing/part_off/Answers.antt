use Rattle.std.proofs.Common.{◌≡◌, true, List, map, sym, ◌∙◌, ap, subst}
use Rattle.std.specs.List.{IsDistinct}
use Rattle.std.specs.Str.{bytes_eq}
use Rattle.st_rack.specs.Calls.{names}
use Rattle.st_rack.specs.Device.{Path}
use Rattle.st_dividing.specs.Divided.{path_of_row, present_of}
use Rattle.st_dividing.proofs.Present.{fewer_distinct, is_here, present_there}
use Rattle.st_dividing.proofs.dividing.part_off.Goals as goal

pub split_off-requires-clause-distinct : goal.split_off-requires-clause-distinct
split_off-requires-clause-distinct g c =
    let devs = g.R.Rack.devs c.args.rack.now in
    let row = c.args.row.now in
    let list : c.in_ok-list.list ≡ present_of devs row.devs = c.in_ok-list.ensures ∙ ap (present_of devs) c.items.ensures in
    subst (λ (l : List Path). IsDistinct bytes_eq l) (sym list) (fewer_distinct (is_here devs) (map path_of_row row.devs) c.requires)

pub split_off-requires-clause-there : goal.split_off-requires-clause-there
split_off-requires-clause-there g c p named =
    let devs = g.R.Rack.devs c.args.rack.now in
    let row = c.args.row.now in
    let list : c.in_ok-list.list ≡ present_of devs row.devs = c.in_ok-list.ensures ∙ ap (present_of devs) c.items.ensures in
    present_there devs row.devs p (subst (λ (l : List Path). names l p ≡ true) list named)
