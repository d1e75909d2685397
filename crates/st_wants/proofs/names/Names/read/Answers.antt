use Rattle.std.proofs.Common.{◌≡◌, ◌<◌, arith, ap, length, false}
use Rattle.std.proofs.lemmas.Grind.{common_steps}
use Rattle.st_wants.specs.Names.{with_name, names_of, are_one_to_eight}
use Rattle.st_wants.proofs.Rising.{step, nine_stay}
use Rattle.st_wants.proofs.names.Names.read.Goals as goal

pub returns-in_err-put_in-clause-bad : goal.returns-in_err-put_in-clause-bad
returns-in_err-put_in-clause-bad c =
    let all : length c.items-name-items.result.now ≡ length c.args.list.now = ap length c.items-name-items.ensures in
    let lemma : 8 < length (with_name c.name-item.result c.loop-name.names) → are_one_to_eight (names_of c.args.list.now) ≡ false
    = nine_stay c.loop-name.names c.args.list.now c.loop-name.name-index c.name-item.result (omega arith) (cc) c.loop-name.invariant.2 in
    grind (arith, common_steps, lemma)

pub loop-name-preserved : goal.loop-name-preserved
loop-name-preserved c =
    let all : length c.items-name-items.result.now ≡ length c.args.list.now = ap length c.items-name-items.ensures in
    step c.loop-name.names c.put_in.new.names c.args.list.now c.loop-name.name-index c.name-item.result (omega arith) (cc) c.loop-name.invariant c.in_ok-put_in.ensures.ok
