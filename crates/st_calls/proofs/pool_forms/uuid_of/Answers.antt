use Rattle.std.proofs.Common.{refl}
use Rattle.uuid.specs.Text.{parsed}
use Rattle.st_calls.proofs.Uuids.{not_parsed}
use Rattle.st_calls.proofs.pool_forms.uuid_of.Goals as goal

pub returns-in-Err : goal.returns-in-Err
returns-in-Err c = rw (not_parsed c.try_parse.result c.in-Err.field-0 (parsed c.args.text.now) c.in-Err.is c.try_parse.ensures.ok) refl
