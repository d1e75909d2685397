use Rattle.std.proofs.Common.{◌≡◌, ℕ, Bool, true, false, List, Option, sym, ◌∙◌, subst}
use Rattle.st_poolrec.specs.declared.record.PoolRec.{PoolRec}
use Rattle.st_image.specs.Bears.{SpellsPool}
use Rattle.st_judge.specs.Spelled.{IsReadAs}
use Rattle.st_judge.proofs.Said.{two_bodies, no_records, no_record}
use Rattle.st_judge.proofs.judging.judge_newest.Goals as goal

clash : (b : Bool) → b ≡ true → b ≡ false → ⊥
clash b t f = cc

pub returns-then-not-are_one : goal.returns-then-not-are_one
returns-then-not-are_one c = two_bodies c.args.serial c.args.looks.now c.args.newest.now c.requires (sym c.are_one.ensures ∙ c.if-not-are_one.true)

pub returns-then-not-spelled : goal.returns-then-not-spelled
returns-then-not-spelled c = no_records c.args.serial c.args.looks.now c.args.newest.now c.requires (λ are. clash c.in_ok-spelled.spelled (c.in_ok-spelled.ensures.1 are) c.if-not-spelled.true)

pub judge_record-requires : goal.judge_record-requires
judge_record-requires c =
    let read : IsReadAs c.args.newest.now.1 c.in_ok-read.read = subst (λ (body : List ℕ). IsReadAs body c.in_ok-read.read) c.items.ensures c.in_ok-read.ensures in
    record {
      newest = c.requires;
      one = sym c.are_one.ensures ∙ c.if-not-are_one.false;
      each = c.in_ok-spelled.ensures.0 c.if-not-spelled.false;
      spelled = subst (IsReadAs c.args.newest.now.1) c.in-Some.is read;
    }

pub returns-in-Some : goal.returns-in-Some
returns-in-Some c = c.judge_record.ensures

pub returns-in-None : goal.returns-in-None
returns-in-None c =
    let read : IsReadAs c.args.newest.now.1 c.in_ok-read.read = subst (λ (body : List ℕ). IsReadAs body c.in_ok-read.read) c.items.ensures c.in_ok-read.ensures in
    no_record c.args.serial c.args.looks.now c.args.newest.now c.requires (subst (IsReadAs c.args.newest.now.1) c.in-None.is read)
