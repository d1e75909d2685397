use Rattle.std.proofs.Common.{◌≡◌, ℕ, suc, ◌+◌, [], ◌∷◌, ◌++◌, map, take, ◌∙◌, ap, arith}
use Rattle.st_rack.specs.Calls.{path_in, size_in}
use Rattle.st_looks.proofs.Looking.{one_look}
use Rattle.st_opening.proofs.opening.paths_of.Goals as goal

pub loop-i-preserved : goal.loop-i-preserved
loop-i-preserved g c =
    let devs = g.R.Rack.devs c.args.rack.now in
    let i = c.loop-i.i in
    let path = c.path_of.result.now in
    let after : suc i ≡ i + 1 = omega arith in
    record {
      list = c.in-Ok.ensures.ok ∙ (λ j. c.loop-i.invariant.list j ++ c.in_ok-path.ensures j ∷ []) ∙ one_look path_in devs i (path, size_in devs path) c.path_of.ensures.at ∙ ap (λ (k : ℕ). map path_in (take k devs)) after;
    }
