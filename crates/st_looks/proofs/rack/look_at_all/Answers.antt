use Rattle.std.proofs.Common.{◌≡◌, ℕ, suc, ◌+◌, List, [], ◌∷◌, ◌++◌, Option, Some, unwrap_or, take, map, sym, ◌∙◌, ap, arith}
use Rattle.std.specs.List.{slice_get}
use Rattle.st_rack.specs.Device.{Path, Image, held}
use Rattle.st_rack.specs.Calls.{Devices, sectors_of, size_in}
use Rattle.st_looks.specs.declared.look.DevLook.{DevLook}
use Rattle.st_looks.specs.Looked.{looked}
use Rattle.st_looks.proofs.Looking.{one_look}
use Rattle.st_looks.proofs.rack.look_at_all.Goals as goal

pub loop-i-preserved : goal.loop-i-preserved
loop-i-preserved g c =
    let M = g.R.Rack.moment in
    let S = g.R.Rack.state_at in
    let i = c.loop-i.i in
    let inv = c.loop-i.invariant in
    let devs = g.R.Rack.devs c.args.rack.now in
    let here = g.R.Rack.devs c.loop-i.rack in
    let image = held (S c.args.rack.now (M c.args.rack.now)) in
    let path = c.path_of.result.now in
    let same : held (S c.loop-i.rack (M c.loop-i.rack)) ≡ image = (λ j. held (inv.states j (inv.clock j))) in
    let size : c.unwrap_or-sectors.result ≡ size_in here path = c.unwrap_or-sectors.ensures ∙ ap (λ (o : Option ℕ). unwrap_or o 0) (c.sectors.ensures ∙ ap (sectors_of here) c.in_ok-dev.ensures) in
    let look : c.in_ok-look.look ≡ looked image (path, size_in here path) = c.in_ok-look.ensures.found ∙ (λ j. looked (same j) (c.in_ok-dev.ensures j, size j)) in
    let at : slice_get devs i ≡ Some (path, size_in here path) = ap (λ (ds : Devices). slice_get ds i) (sym inv.devs) ∙ c.path_of.ensures.at in
    let after : suc i ≡ i + 1 = omega arith in
    record {
      devs = c.in_ok-look.ensures.devs ∙ inv.devs;
      clock = c.in_ok-look.ensures.clock ∙ inv.clock;
      states = c.in_ok-look.ensures.states ∙ inv.states;
      spare = c.in_ok-look.ensures.spare ∙ inv.spare;
      faults = omega (arith, inv.faults, c.in_ok-look.ensures.faults);
      looks = c.in-Ok.ensures.ok ∙ (λ j. inv.looks j ++ look j ∷ []) ∙ one_look (looked image) devs i (path, size_in here path) at ∙ ap (λ (k : ℕ). map (looked image) (take k devs)) after;
    }
