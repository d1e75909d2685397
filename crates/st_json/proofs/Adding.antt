use Rattle.std.proofs.Common.{List, ◌++◌, ap, ◌∙◌, append_assoc}
use Rattle.json.specs.Token.{Token}
use Rattle.json.specs.Written.{Written}
use Rattle.st_json.specs.Adds.{Adds}

-- one after the other
pub adds_both : {a b c : Written} {ts us : List Token} → Adds a b ts → Adds b c us → Adds a c (ts ++ us)
adds_both {a} {b} {c} {ts} {us} e f = record { kept = f.kept ∙ e.kept; more = f.more ∙ ap (λ s. s ++ us) e.more ∙ append_assoc a.tokens ts us }
