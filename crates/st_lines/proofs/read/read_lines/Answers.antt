use Rattle.std.proofs.Common.{◌<◌, ◌≤◌, refl, Some, None, length, arith}
use Rattle.std.proofs.lemmas.Result.{on_ok_weaker}
use Rattle.st_lines.proofs.Broken.{all_read, enough_read, stop_is}
use Rattle.st_lines.proofs.read.read_lines.Goals as goal

pub returns-then-len-le-MOST_BYTES-clause-kept : goal.returns-then-len-le-MOST_BYTES-clause-kept
returns-then-len-le-MOST_BYTES-clause-kept g c =
    let short : length c.in_ok-input.input.items ≤ 67108864 = omega (arith, c.len.ensures, c.if-len-le-MOST_BYTES.true, c.in_ok-input.input.ok.0) in
    on_ok_weaker c.cut.result (λ none. all_read _ _ c.in_ok-input.input.items None c.in_ok-input.ensures.all (c.in_ok-input.ensures.end short) short none) c.cut.ensures.kept

pub returns-then-len-le-MOST_BYTES-clause-limit : goal.returns-then-len-le-MOST_BYTES-clause-limit
returns-then-len-le-MOST_BYTES-clause-limit g c limit told =
    let short : length c.in_ok-input.input.items ≤ 67108864 = omega (arith, c.len.ensures, c.if-len-le-MOST_BYTES.true, c.in_ok-input.input.ok.0) in
    all_read _ _ c.in_ok-input.input.items (Some limit) c.in_ok-input.ensures.all (c.in_ok-input.ensures.end short) short (c.cut.ensures.limit limit told)

pub returns-clause-limit : goal.returns-clause-limit
returns-clause-limit g c limit told =
    let long : 67108864 < length c.in_ok-input.input.items = omega (arith, c.len.ensures, c.if-len-le-MOST_BYTES.false, c.in_ok-input.input.ok.0) in
    let is = c.stop_of_long.ensures.limit limit (stop_is _ _ _ refl told) in
    enough_read _ _ c.in_ok-input.input.items (Some limit) c.in_ok-input.ensures.all long (rw c.truncate.ensures.items at is)
