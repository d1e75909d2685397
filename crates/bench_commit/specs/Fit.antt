-- Texts that fit the slots of a pool.
use Rattle.std.specs.Prelude.{ℕ, ◌+◌, ◌*◌, ◌≤◌, ◌≡◌, length}
use Rattle.st_fields.specs.Slot.{padded}
use Rattle.st_slots.specs.declared.spot.Area.{Area}
use Rattle.st_deltalog.specs.declared.area.FlexArea.{FlexArea}
use Rattle.bench_commit.specs.declared.commits.Texts.{Texts}

pub record Fit (pool : Area) (flex : FlexArea) (texts : Texts) : Type 0 where
  pub body : 64 + length texts.body.items ≤ 512 * flex.area.slot
  pub body_room : length texts.body_work.items ≡ padded (64 + length texts.body.items)
  pub rec : 64 + length texts.rec.items ≤ 512 * pool.slot
  pub room : length texts.work.items ≡ padded (64 + length texts.rec.items)
