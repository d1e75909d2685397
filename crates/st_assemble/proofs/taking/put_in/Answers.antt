use Rattle.std.proofs.Common.{◌≡◌, ℕ, List, Result, sym, ◌∙◌, subst}
use Rattle.std.specs.Prelude.{OnOk}
use Rattle.st_image.specs.Stands.{Nothing, Gone}
use Rattle.st_judge.specs.declared.rows.GoneRow.{GoneRow}
use Rattle.st_assemble.specs.declared.told.Told.{Told}
use Rattle.st_assemble.specs.inner.SoFar.{PoolsUpTo, GoneUpTo}
use Rattle.st_assemble.specs.inner.Told.{IsTold}
use Rattle.st_assemble.proofs.UpTo.{pools_same, gone_same, gone_more, known_not_gone, nothing_not_gone, on_any}
use Rattle.st_assemble.proofs.taking.put_in.Goals as goal

pub returns-in-Nothing-clause-pools : goal.returns-in-Nothing-clause-pools
returns-in-Nothing-clause-pools c devs image last p is lt between told upto =
    let none = subst (λ (t : Told). IsTold p devs image t) c.in-Nothing.is told in
    pools_same devs image last p is lt between c.args.found.now.pools (Nothing none) upto

pub returns-in-Nothing-clause-gone : goal.returns-in-Nothing-clause-gone
returns-in-Nothing-clause-gone c devs image last p is lt between told upto =
    let none = subst (λ (t : Told). IsTold p devs image t) c.in-Nothing.is told in
    gone_same devs image last p is lt between c.args.found.now.gone (nothing_not_gone devs image last p is lt between none) upto

pub returns-in-Known-clause-gone : goal.returns-in-Known-clause-gone
returns-in-Known-clause-gone c = on_any c.put_pool.result (λ devs image last p is lt between told upto. (
    let known = subst (λ (t : Told). IsTold p devs image t) c.in-Known.is told in
    gone_same devs image last p is lt between c.args.found.now.gone (known_not_gone devs image last p is lt between c.in-Known.row known) upto))

pub returns-in-Known-clause-foreign : goal.returns-in-Known-clause-foreign
returns-in-Known-clause-foreign c n e devs image last p is lt between told upto =
    c.put_pool.ensures.foreign n e devs image last p is lt between (subst (λ (t : Told). IsTold p devs image t) c.in-Known.is told) upto

pub returns-in_ok-push-in-Gone-clause-pools : goal.returns-in_ok-push-in-Gone-clause-pools
returns-in_ok-push-in-Gone-clause-pools c devs image last p is lt between told upto =
    let gone = (subst (λ (t : Told). IsTold p devs image t) c.in-Gone.is told).1 in
    pools_same devs image last p is lt between c.args.found.now.pools (Gone c.in-Gone.row.generation gone.rec gone.bears gone.gone) upto

pub returns-in_ok-push-in-Gone-clause-gone : goal.returns-in_ok-push-in-Gone-clause-gone
returns-in_ok-push-in-Gone-clause-gone c devs image last p is lt between told upto =
    let gone = subst (λ (t : Told). IsTold p devs image t) c.in-Gone.is told in
    subst (λ (l : List GoneRow). GoneUpTo devs image p l) (sym c.in_ok-push-in-Gone.ensures.ok) (gone_more devs image last p is lt between c.args.found.now.gone c.in-Gone.row gone.0 gone.1 upto)
