use Rattle.std.proofs.Common.{◌≡◌, true, false, length, sym, ◌∙◌, arith}
use Rattle.std.specs.Str.{bytes_eq}
use Rattle.std.proofs.lemmas.Bool.{true≢false}
use Rattle.std.proofs.lemmas.Slice.Eq.{bytes_eq-Decides}
use Rattle.st_rack.specs.Device.{Path}
use Rattle.st_slots.specs.Places.{Lies}
use Rattle.test_commit.proofs.Two.{each_of_two, two_differ}
use Rattle.test_commit.proofs.site.is_pool.Goals as goal

pub returns-clause-distinct : goal.returns-clause-distinct
returns-clause-distinct g c is_true =
    let first = c.bytes.result.now in
    let second = c.bytes-2.result.now in
    let two : length c.args.devs.now ≡ 2 = omega (arith, c.len.ensures, c.if-len-ne2.false) in
    let unequal : bytes_eq first second ≡ false = sym c.eq.ensures ∙ c.if-eq.false in
    two_differ c.args.devs.now c.at-first.result.now c.at-second.result.now two c.at-first.ensures c.at-second.ensures
    (λ same. (let equal : bytes_eq first second ≡ true = (bytes_eq-Decides first second).1 (c.bytes.ensures.value ∙ same ∙ sym c.bytes-2.ensures.value) in
    true≢false (sym equal ∙ unequal)))

pub returns-clause-lie : goal.returns-clause-lie
returns-clause-lie g c is_true =
    let two : length c.args.devs.now ≡ 2 = omega (arith, c.len.ensures, c.if-len-ne2.false) in
    each_of_two c.args.devs.now c.at-first.result.now c.at-second.result.now (λ (d : Path). Lies (g.R.Rack.devs c.args.rack.now) d c.args.pool.now) two c.at-first.ensures c.at-second.ensures
    (c.lies_on.ensures.0 c.if-not-lies_on.false) (c.lies_on-2.ensures.0 c.if-not-lies_on-2.false)
