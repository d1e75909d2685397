use Rattle.std.proofs.Common.{◌≡◌, ◌≤◌, refl, sym, ap, ◌∙◌, subst}
use Rattle.st_units.specs.Roomy.{Roomy}
use Rattle.st_wants.specs.declared.want.Want.{Want}
use Rattle.st_model.specs.declared.entry.Entry.{Entry}
use Rattle.st_alone.specs.Alone.{IsGranted}
use Rattle.st_alone.proofs.Taking.{if_ok_then}
use Rattle.st_alone.proofs.home.Home.take.Goals as goal

pub ready-requires : goal.ready-requires
ready-requires g c = c.requires

pub returns-in-Ok-clause-taken : goal.returns-in-Ok-clause-taken
returns-in-Ok-clause-taken g c =
    if_ok_then c.taken.result _ _ (λ t h. record {
      granted_is = subst (λ (w : Want). IsGranted c.args.self c.args.seat w t.out) c.in-Ok.ensures.want h.0;
      none = ap (λ (es : Roomy Entry). es.items) h.1 ∙ c.in-Ok.ensures.room.0;
      room = subst (λ (es : Roomy Entry). 1 ≤ es.room) (sym h.1) c.in-Ok.ensures.room.1;
    }) c.taken.ensures.taken

pub returns-in-Ok-clause-part : goal.returns-in-Ok-clause-part
returns-in-Ok-clause-part g c = rw c.in-Ok.ensures.want at c.taken.ensures.part

pub returns-in-Ok-clause-slack : goal.returns-in-Ok-clause-slack
returns-in-Ok-clause-slack g c = c.taken.ensures.slack

pub returns-in-Ok-clause-shown : goal.returns-in-Ok-clause-shown
returns-in-Ok-clause-shown g c = rw c.in-Ok.ensures.want at c.taken.ensures.shown

pub returns-in-Ok-clause-faults : goal.returns-in-Ok-clause-faults
returns-in-Ok-clause-faults g c = c.taken.ensures.faults

pub returns-in-Ok-clause-kept : goal.returns-in-Ok-clause-kept
returns-in-Ok-clause-kept g c = c.taken.ensures.kept

pub returns-in-Ok-clause-places : goal.returns-in-Ok-clause-places
returns-in-Ok-clause-places g c = c.taken.ensures.places

pub returns-in-Ok-clause-back : goal.returns-in-Ok-clause-back
returns-in-Ok-clause-back g c = c.taken.ensures.back

pub returns-in-Err-clause-back : goal.returns-in-Err-clause-back
returns-in-Err-clause-back g c = refl
