use Rattle.std.proofs.Common.{◌≡◌, ℕ, ◌+◌, List, Some, None, length, ◌++◌, take, sym, ◌∙◌, ap, subst, arith}
use Rattle.std.specs.Ordering.{nat_cmp}
use Rattle.std.specs.BTreeMap.{get}
use Rattle.st_sparse.proofs.Kept.{kept, blank}
use Rattle.st_sparse.proofs.sectors.read_one.Goals as goal

pub returns-in-Some-clause-front : goal.returns-in-Some-clause-front
returns-in-Some-clause-front c =
    let is : get nat_cmp c.args.kept.now c.args.sector ≡ Some c.in-Some.bytes.now = sym c.in-Some.ensures.value in
    let size : length c.in-Some.bytes.now ≡ 512 = omega arith in
    subst (λ (n : ℕ). take (c.args.at + n) c.put.new.bytes ≡ take c.args.at c.args.buf.now ++ c.in-Some.bytes.now) size c.put.ensures.front
    ∙ ap (λ (l : List ℕ). take c.args.at c.args.buf.now ++ l) (sym (kept c.args.kept.now c.args.sector c.in-Some.bytes.now is size))

pub returns-in-None-clause-front : goal.returns-in-None-clause-front
returns-in-None-clause-front c =
    let none : get nat_cmp c.args.kept.now c.args.sector ≡ None = sym c.in-None.ensures.value in
    c.put-in-None.ensures.front
    ∙ ap (λ (l : List ℕ). take c.args.at c.args.buf.now ++ l) (sym (blank c.args.kept.now c.args.sector none))
