use Rattle.std.proofs.Common.{◌≡◌, ℕ, Bool, List, Option, Bor, sym, subst}
use Rattle.std.specs.Prelude.{◌↔◌, IsTrue, IfOk}
use Rattle.std.specs.Option.{option_copied}
use Rattle.st_judge.specs.Spelled.{HasRecord, IsSpelled}
use Rattle.st_judge.proofs.spelled.is_record.Goals as goal

pub returns-in-Some : goal.returns-in-Some
returns-in-Some c =
    let own = subst (λ (body : List ℕ). IfOk c.has_record.result (λ is. IsTrue is ↔ HasRecord body)) c.items.ensures c.has_record.ensures in
    subst (λ (o : Option (Bor (ℕ × List ℕ))). IfOk c.has_record.result (λ is. IsTrue is ↔ IsSpelled (option_copied o))) (sym c.in-Some.is) own
