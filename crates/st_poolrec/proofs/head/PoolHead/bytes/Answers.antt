use Rattle.std.proofs.Common.{◌∙◌}
use Rattle.st_poolrec.proofs.HeadSpelled.{head_spelled}
use Rattle.st_poolrec.proofs.head.PoolHead.bytes.Goals as goal

pub returns-clause-text : goal.returns-clause-text
returns-clause-text c =
    head_spelled c.args.self.now c.put_u64.new.bytes c.put_u32.new.bytes c.put_u32-2.new.bytes c.put_u16.new.bytes c.put_u16-2.new.bytes c.put_u16-3.new.bytes c.put_u16-4.new.bytes c.put_text.new.bytes
    c.bytes-name.result.now c.flags.result c.bytes-name.ensures.value c.flags.ensures
    (c.put_text.ensures.len ∙ c.put_u16-4.ensures.len ∙ c.put_u16-3.ensures.len ∙ c.put_u16-2.ensures.len ∙ c.put_u16.ensures.len ∙ c.put_u32-2.ensures.len ∙ c.put_u32.ensures.len ∙ c.put_u64.ensures.len)
    c.put_u64.ensures.front c.put_u32.ensures.front c.put_u32-2.ensures.front c.put_u16.ensures.front c.put_u16-2.ensures.front c.put_u16-3.ensures.front c.put_u16-4.ensures.front c.put_text.ensures.front
