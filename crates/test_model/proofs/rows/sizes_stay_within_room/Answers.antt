use Rattle.test_model.proofs.Computed.{within-room}
use Rattle.test_model.proofs.rows.sizes_stay_within_room.Goals as goal

pub returns : goal.returns
returns c = within-room
