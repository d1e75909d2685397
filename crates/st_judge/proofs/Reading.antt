-- What reading a record's bytes gives.
use Rattle.std.proofs.Common.{◌≡◌, ℕ, true, false, List, refl}
use Rattle.std.specs.Prelude.{◌↔◌, IsTrue}
use Rattle.st_poolrec.specs.declared.record.PoolRec.{PoolRec}
use Rattle.st_poolrec.specs.Record.{IsPoolRec, record_text}
use Rattle.st_recrows.specs.Rows.{Spells}
use Rattle.st_image.specs.Bears.{SpellsPool}
use Rattle.st_judge.specs.Spelled.{HasRecord}

pub is_read : (body : List ℕ) (rec : PoolRec) → Spells IsPoolRec record_text body rec → SpellsPool body rec
is_read body rec spells = record { is = spells.fit; spelled = spells.spelled }

pub is_none : (body : List ℕ) → ((value : PoolRec) → Spells IsPoolRec record_text body value → ⊥) → (rec : PoolRec) → SpellsPool body rec → ⊥
is_none body none rec spelled = none rec (record { fit = spelled.is; spelled = spelled.spelled })

untrue : false ≡ true → ⊥
untrue e = cc

pub has_one : (body : List ℕ) (rec : PoolRec) → SpellsPool body rec → IsTrue true ↔ HasRecord body
has_one body rec spelled = ((λ t. (rec, spelled)), (λ one. refl))

pub has_none : (body : List ℕ) → ((rec : PoolRec) → SpellsPool body rec → ⊥) → IsTrue false ↔ HasRecord body
has_none body none = ((λ t. absurd (untrue t)), (λ one. absurd (none one.0 one.1)))
