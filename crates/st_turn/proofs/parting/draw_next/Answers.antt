use Rattle.std.proofs.Common.{ℕ, [], ◌≡◌, subst, arith}
use Rattle.st_turn.specs.Kinds.{SameBut}
use Rattle.st_turn.proofs.parting.draw_next.Goals as goal

pub returns-clause-full : goal.returns-clause-full
returns-clause-full g c =
    let last : c.loop-next.next ≡ 18446744073709551615 = omega (arith, c.loop-next.invariant.0, c.loop-next-test.false) in
    subst (λ (n : ℕ). SameBut c.args.seat.now.me c.loop-next.seat.me [] n) last c.loop-next.invariant.3
