use Rattle.std.proofs.Common.{◌≡◌, ℕ, ◌<◌, ◌≤◌, true, false, List, [], ◌∷◌, ◌++◌, length, Result, Err, refl, sym, ◌∙◌, ap, subst, arith}
use Rattle.st_limits.specs.declared.TheConstants.{MAX_POOLS}
use Rattle.st_image.specs.Rack.{IsForeign}
use Rattle.st_judge.specs.declared.rows.FoundRow.{FoundRow}
use Rattle.st_assemble.specs.declared.fault.FoundFault.{FoundFault}
use Rattle.st_assemble.specs.declared.fault.FoundFault.TheVariants.{Foreign}
use Rattle.st_assemble.specs.inner.SoFar.{has_name, PoolsUpTo}
use Rattle.st_assemble.proofs.UpTo.{pools_more}
use Rattle.st_assemble.proofs.Foreign.{name_taken, too_many, foreign_same}
use Rattle.st_assemble.proofs.taking.put_pool.Goals as goal

pub returns-then-len-ge-MAX_POOLS-clause-foreign : goal.returns-then-len-ge-MAX_POOLS-clause-foreign
returns-then-len-ge-MAX_POOLS-clause-foreign c n e devs image last p is lt between known upto =
    let rows = c.args.pools.now in
    let many : MAX_POOLS ≤ length rows = omega (arith, c.len.ensures, c.if-len-ge-MAX_POOLS.true) in
    let same : p ≡ n = sym known.serial ∙ ap (λ (r : FoundRow). r.serial) (sym known.is) ∙ sym c.number-serial.ensures.value ∙ foreign_same c.number-serial.result n _ refl e in
    subst (IsForeign devs image) same (too_many devs image last p is lt between rows upto c.args.row known many)

pub returns-then-has_name-clause-foreign : goal.returns-then-has_name-clause-foreign
returns-then-has_name-clause-foreign c n e devs image last p is lt between known upto =
    let rows = c.args.pools.now in
    let taken : has_name c.args.row rows ≡ true = ap (has_name c.args.row) (sym c.items.ensures) ∙ sym c.has_name.ensures ∙ c.if-has_name.true in
    let same : p ≡ n = sym known.serial ∙ ap (λ (r : FoundRow). r.serial) (sym known.is) ∙ sym c.number-serial.ensures.value ∙ foreign_same c.number-serial.result n _ refl e in
    subst (IsForeign devs image) same (name_taken devs image last p is lt between rows upto c.args.row known taken)

pub returns-clause-ok : goal.returns-clause-ok
returns-clause-ok c devs image last p is lt between known upto =
    let rows = c.args.pools.now in
    let new : has_name c.args.row rows ≡ false = ap (has_name c.args.row) (sym c.items.ensures) ∙ sym c.has_name.ensures ∙ c.if-has_name.false in
    let few : length rows < MAX_POOLS = omega (arith, c.len.ensures, c.if-len-ge-MAX_POOLS.false) in
    subst (λ (l : List FoundRow). PoolsUpTo devs image p l) (sym c.in_ok-push.ensures.ok) (pools_more devs image last p is lt between rows c.args.row known new few upto)
