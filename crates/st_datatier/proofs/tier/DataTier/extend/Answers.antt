use Rattle.std.proofs.Common.{◌≡◌, ◌++◌, length, take, sym, ap, ◌∙◌, arith}
use Rattle.std.proofs.lemmas.Result.{err_from_is_err_and}
use Rattle.st_seg.specs.declared.fault.SegFault.TheVariants.{NoRoom}
use Rattle.st_seg.specs.Stock.{Stock, added}
use Rattle.st_seg.proofs.Calls.{added-taking, next_apart}
use Rattle.st_datatier.proofs.Growing.{tier_free}
use Rattle.st_datatier.proofs.tier.DataTier.extend.Goals as goal

pub extend-requires-clause-apart : goal.extend-requires-clause-apart
extend-requires-clause-apart c =
    next_apart c.self.inside.free c.self.inside.table _ c.args.blocks c.self.invariant.2 c.in_ok-segments.ensures.blocks c.in_ok-segments.ensures.apart

pub invariant_of-self-2 : goal.invariant_of-self-2
invariant_of-self-2 c =
    let s = c.self.inside in
    let i = c.self.invariant in
    let taken = ap (λ (stock : Stock). stock.taken) c.hand_out.ensures
    ∙ (ap (λ bs. bs ++ take c.args.blocks s.free.free) i.2
    ∙ (ap (λ bs. s.table ++ bs) (sym c.in_ok-segments.ensures.blocks)
    ∙ sym c.in_ok-extend.ensures.ok)) in
    (i.0, i.1, taken, ap added c.hand_out.ensures ∙ (added-taking s.free c.args.blocks ∙ i.3))

pub returns-in_err-segments-clause-no_room : goal.returns-in_err-segments-clause-no_room
returns-in_err-segments-clause-no_room c =
    let s = c.self.inside in
    let free = tier_free s.sectors.items s.free s.table _ c.self.view_is c.self.invariant.2 c.self.invariant.3 in
    let p = err_from_is_err_and c.from_residual.result c.from_residual.ensures.1 in
    λ below.
    let fault : c.in_err-segments.field-0.0 ≡ NoRoom (length s.free.free) = cc (c.in_err-segments.ensures.no_room (omega (arith, free, below))) in
    rw (free, p.1, p.2, fault)

pub returns-in_err-segments-clause-no_room_only : goal.returns-in_err-segments-clause-no_room_only
returns-in_err-segments-clause-no_room_only c =
    let s = c.self.inside in
    let free = tier_free s.sectors.items s.free s.table _ c.self.view_is c.self.invariant.2 c.self.invariant.3 in
    let p = err_from_is_err_and c.from_residual.result c.from_residual.ensures.1 in
    rw (p.1, p.2) (λ given is. omega (arith, free, c.in_err-segments.ensures.no_room_only given is))

pub returns-in_err-extend-clause-no_room : goal.returns-in_err-extend-clause-no_room
returns-in_err-extend-clause-no_room c =
    let s = c.self.inside in
    let free = tier_free s.sectors.items s.free s.table _ c.self.view_is c.self.invariant.2 c.self.invariant.3 in
    λ below. absurd (omega (arith, free, below, c.in_ok-segments.ensures.enough))

pub returns-clause-enough : goal.returns-clause-enough
returns-clause-enough c =
    let s = c.self.inside in
    let free = tier_free s.sectors.items s.free s.table _ c.self.view_is c.self.invariant.2 c.self.invariant.3 in
    omega (arith, free, c.in_ok-segments.ensures.enough)

pub returns-clause-no_room : goal.returns-clause-no_room
returns-clause-no_room c =
    let s = c.self.inside in
    let free = tier_free s.sectors.items s.free s.table _ c.self.view_is c.self.invariant.2 c.self.invariant.3 in
    λ below. absurd (omega (arith, free, below, c.in_ok-segments.ensures.enough))
