use Rattle.std.proofs.Common.{◌≡◌, ℕ, ◌+◌, ◌-◌, List, take, drop, Option, Some, IfOk, sym, ◌∙◌, ap, subst, arith}
use Rattle.st_fields.specs.Slot.{sector_of}
use Rattle.st_flexlog.specs.declared.state.FlexState.{FlexState}
use Rattle.st_flexat.proofs.Sectors.{found_applied}
use Rattle.st_flexat.proofs.replay.after_sector.Goals as goal

pub returns : goal.returns
returns c =
    let head = c.in-Some-sealed_head.head in
    let sector = c.args.sector.now in
    let body : List ℕ = take (64 + head.count - 64) (drop 64 sector) in
    let size : head.count ≡ 64 + head.count - 64 = omega arith in
    let found : sector_of c.args.magic.now sector ≡ Some (head.generation, body) = sym c.in-Some-sealed_head.ensures.found ∙ ap (λ (k : ℕ). Some (head.generation, take k (drop 64 sector))) size in
    let number : head.generation ≡ c.args.generation = omega (arith, c.if-head-generation.false) in
    let applied = found_applied c.args.generation head.generation body (sector_of c.args.magic.now sector) c.args.state c.in-Some.state found number c.in-Some.is in
    subst (λ (o : Option FlexState). IfOk c.follow.result (λ after. after ≡ o)) (sym applied) c.follow.ensures
