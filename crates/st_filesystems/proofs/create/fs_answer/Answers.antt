use Rattle.std.proofs.Common.{rules, ◌≡◌, ◌+◌, ◌==◌, [], Some, None, true, false, nat_lt, length, ap, ◌∙◌}
use Rattle.st_model.specs.declared.reply.Reply.{Reply}
use Rattle.st_units.specs.declared.cause.Cause.TheVariants.{LimitBelowSize}
use Rattle.st_model.specs.declared.reply.Given.TheVariants.{CreatedFilesystems}
use Rattle.st_model.specs.Answer.{accepted, refused}
use Rattle.st_model.specs.Checks.{over_provision, sizes}
use Rattle.st_filesystems.specs.inner.Creating.{spec_blocks}
use Rattle.st_filesystems.proofs.Answered.{below, below_answer, last_answer, many_answer, none_answer, over_answer, unsized}
use Rattle.st_filesystems.proofs.Sizes.{small_sizes, small_specs}
use Rattle.st_filesystems.proofs.create.fs_answer.Goals as goal

pub returns-in-Some-first_below-clause-answer : goal.returns-in-Some-first_below-clause-answer
returns-in-Some-first_below-clause-answer c =
    let new = c.args.new.now in
    let spec = c.in-Some-first_below.spec.now in
    let a : unsized new ≡ None = search rules in
    let b : below new ≡ Some spec = search rules in
    let said : Some c.refused-in-Some-first_below.result ≡ Some (refused (LimitBelowSize spec.name)) = search rules in
    said ∙ below_answer c.args.pool.now new a spec b

pub returns-then-pool-len-clause-answer : goal.returns-then-pool-len-clause-answer
returns-then-pool-len-clause-answer c =
    let new = c.args.new.now in
    let p = c.args.pool.now in
    let a : unsized new ≡ None = search rules in
    let b : below new ≡ None = search rules in
    let many : nat_lt p.filesystem_limit (length p.filesystems + length new) ≡ true = search rules in
    ap (λ (r : Reply). Some r) c.refused-then-pool-len.ensures ∙ many_answer p new a b many

pub sizes-requires-clause-small : goal.sizes-requires-clause-small
sizes-requires-clause-small c = rw c.items-3.ensures (small_sizes c.args.pool.now c.requires)

pub spec_blocks-requires-clause-small : goal.spec_blocks-requires-clause-small
spec_blocks-requires-clause-small c =
    let a : unsized c.args.new.now ≡ None = search rules in
    rw c.items-4.ensures (small_specs c.args.new.now a)

pub returns-in-Some-over_provision-clause-answer : goal.returns-in-Some-over_provision-clause-answer
returns-in-Some-over_provision-clause-answer c =
    let new = c.args.new.now in
    let p = c.args.pool.now in
    let a : unsized new ≡ None = search rules in
    let b : below new ≡ None = search rules in
    let few : nat_lt p.filesystem_limit (length p.filesystems + length new) ≡ false = search rules in
    let over : over_provision p (sizes p.filesystems + spec_blocks new) ≡ Some c.in-Some-over_provision.reply = search rules in
    over_answer p new a b few c.in-Some-over_provision.reply over

pub returns-then-len-eq0-clause-answer : goal.returns-then-len-eq0-clause-answer
returns-then-len-eq0-clause-answer c =
    let new = c.args.new.now in
    let p = c.args.pool.now in
    let a : unsized new ≡ None = search rules in
    let b : below new ≡ None = search rules in
    let few : nat_lt p.filesystem_limit (length p.filesystems + length new) ≡ false = search rules in
    let fits : over_provision p (sizes p.filesystems + spec_blocks new) ≡ None = search rules in
    let empty : (length new == 0) ≡ true = search rules in
    let said : Some c.accepted.result ≡ Some (accepted (CreatedFilesystems false [])) = search rules in
    said ∙ none_answer p new a b few fits empty

pub returns-clause-answer : goal.returns-clause-answer
returns-clause-answer c =
    let new = c.args.new.now in
    let p = c.args.pool.now in
    let a : unsized new ≡ None = search rules in
    let b : below new ≡ None = search rules in
    let few : nat_lt p.filesystem_limit (length p.filesystems + length new) ≡ false = search rules in
    let fits : over_provision p (sizes p.filesystems + spec_blocks new) ≡ None = search rules in
    let some : (length new == 0) ≡ false = search rules in
    c.worn.ensures ∙ last_answer p new a b few fits some
