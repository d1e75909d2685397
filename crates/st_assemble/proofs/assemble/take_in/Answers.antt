use Rattle.std.proofs.Common.{◌≡◌, ℕ, Result, Err, refl, sym, ap, subst}
use Rattle.std.specs.Prelude.{OnOk}
use Rattle.st_rack.specs.Device.{held}
use Rattle.st_image.specs.Rack.{IsForeign}
use Rattle.st_assemble.specs.declared.fault.FoundFault.{FoundFault}
use Rattle.st_assemble.specs.declared.fault.FoundFault.TheVariants.{Foreign}
use Rattle.st_assemble.proofs.UpTo.{on_both}
use Rattle.st_assemble.proofs.Foreign.{nothing_stands, fault_same}
use Rattle.st_assemble.proofs.Unnamed.{none_between}
use Rattle.st_assemble.proofs.assemble.take_in.Goals as goal

pub returns-in-Err-clause-foreign : goal.returns-in-Err-clause-foreign
returns-in-Err-clause-foreign g c n e last is next upto =
    let p = c.args.serial in
    let looks = c.args.looks.now in
    let devs = g.R.Rack.devs c.args.rack.now in
    let image = held (g.R.Rack.state_at c.args.rack.now (g.R.Rack.moment c.args.rack.now)) in
    let none = c.in-Err.ensures.foreign n (ap (λ (f : FoundFault). Err f) (fault_same c.in-Err.fault (Foreign n) _ refl e)) in
    subst (IsForeign devs image) (sym none.0) (nothing_stands devs image last p is next.0 (none_between devs image looks c.requires.looks last p next) c.args.found.now.pools upto none.1)

pub returns-in-Ok-clause-foreign : goal.returns-in-Ok-clause-foreign
returns-in-Ok-clause-foreign g c n e last is next upto =
    let p = c.args.serial in
    let looks = c.args.looks.now in
    let devs = g.R.Rack.devs c.args.rack.now in
    let image = held (g.R.Rack.state_at c.args.rack.now (g.R.Rack.moment c.args.rack.now)) in
    c.put_in.ensures.foreign n e devs image last p is next.0 (none_between devs image looks c.requires.looks last p next) c.in-Ok.ensures.told upto

pub returns-in-Ok-clause-taken : goal.returns-in-Ok-clause-taken
returns-in-Ok-clause-taken g c =
    let p = c.args.serial in
    let looks = c.args.looks.now in
    let devs = g.R.Rack.devs c.args.rack.now in
    let image = held (g.R.Rack.state_at c.args.rack.now (g.R.Rack.moment c.args.rack.now)) in
    on_both c.put_in.result c.put_in.ensures.pools c.put_in.ensures.gone (λ pools gone last is next upto ended. (
    let between = none_between devs image looks c.requires.looks last p next in
    (pools devs image last p is next.0 between c.in-Ok.ensures.told upto, gone devs image last p is next.0 between c.in-Ok.ensures.told ended)))
