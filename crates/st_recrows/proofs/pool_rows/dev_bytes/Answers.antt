use Rattle.std.proofs.Common.{◌∙◌}
use Rattle.st_recrows.proofs.Spelled.{dev_spelled}
use Rattle.st_recrows.proofs.pool_rows.dev_bytes.Goals as goal

pub returns-clause-text : goal.returns-clause-text
returns-clause-text c =
    dev_spelled c.args.dev.now c.put_u16.new.bytes c.put_text.new.bytes c.put.new.bytes c.put_u64.new.bytes c.bytes-path.result.now c.code_of.result c.bytes-path.ensures.value c.code_of.ensures
    (c.put_u64.ensures.len ∙ c.put.ensures.len ∙ c.put_text.ensures.len ∙ c.put_u16.ensures.len) c.put_u16.ensures.front c.put_text.ensures.front c.put.ensures.front c.put_u64.ensures.front
