use Rattle.std.proofs.Common.{ℕ, sym, subst}
use Rattle.st_image.specs.Rack.{IsSerial}
use Rattle.st_pool.proofs.starting.raise.Goals as goal

pub infos-requires-clause-serial : goal.infos-requires-clause-serial
infos-requires-clause-serial g c =
    subst (λ (p : ℕ). IsSerial p) (sym c.requires.sought.found.start.here.bears.serial) c.requires.sought.serial

pub infos-requires-clause-valid : goal.infos-requires-clause-valid
infos-requires-clause-valid g c =
    c.requires.sought.found.start.here.bears.is.valid

pub infos-requires-clause-filesystems : goal.infos-requires-clause-filesystems
infos-requires-clause-filesystems g c =
    c.requires.sought.found.start.bare.filesystems

pub infos-requires-clause-mappings : goal.infos-requires-clause-mappings
infos-requires-clause-mappings g c =
    c.requires.sought.found.start.bare.mappings

pub bring_up-requires-clause-sought : goal.bring_up-requires-clause-sought
bring_up-requires-clause-sought g c =
    c.requires.sought

pub bring_up-requires-clause-told : goal.bring_up-requires-clause-told
bring_up-requires-clause-told g c =
    c.requires.told

pub bring_up-requires-clause-infos : goal.bring_up-requires-clause-infos
bring_up-requires-clause-infos g c =
    c.in-Ok.ensures

pub returns-in-Err : goal.returns-in-Err
returns-in-Err g c =
    c.untouched.ensures

pub returns-in-Ok : goal.returns-in-Ok
returns-in-Ok g c =
    c.bring_up.ensures
