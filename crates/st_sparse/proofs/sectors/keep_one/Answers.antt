use Rattle.std.proofs.Common.{rules, ◌≡◌, ◌≢◌, ◌/◌, ℕ, None, refl, replicate}
use Rattle.std.specs.Ordering.{nat_cmp}
use Rattle.std.specs.BTreeMap.{get}
use Rattle.st_sparse.specs.Sectors.{byte_at}
use Rattle.st_sparse.proofs.Kept.{new_zeros, none_of}
use Rattle.st_sparse.proofs.sectors.keep_one.Goals as goal

pub returns-in-Ok-clause-bytes : goal.returns-in-Ok-clause-bytes
returns-in-Ok-clause-bytes c =
    let old = c.args.kept.now in
    let new = c.insert.new.self in
    let others : (i : ℕ) → i / 512 ≢ c.args.sector → byte_at new i ≡ byte_at old i = search rules in
    let none : get nat_cmp old c.args.sector ≡ None = none_of (get nat_cmp old c.args.sector) (search rules) in
    new_zeros old new c.args.sector (replicate 512 0) none c.in-Ok.ensures.updates.1 refl others
