use Rattle.std.proofs.Common.{arith, ◌∙◌, refl}
use Rattle.st_recrows.proofs.Spelled.{fs_spelled, positive_of}
use Rattle.st_recrows.proofs.fs_rows.fs_bytes.Goals as goal

pub returns-clause-text : goal.returns-clause-text
returns-clause-text c =
    fs_spelled c.args.row.now c.put_u64.new.bytes c.put_u64-2.new.bytes c.put_u64-3.new.bytes c.put_u64-4.new.bytes c.put_u16.new.bytes c.put_text.new.bytes c.put.new.bytes c.put-2.new.bytes c.bytes-name.result.now _
    c.or_zero.result c.or_zero-2.result c.code_of.result c.bytes-name.ensures.value refl c.code_of.ensures c.or_zero.ensures.value c.or_zero-2.ensures.value
    (c.put-2.ensures.len ∙ c.put.ensures.len ∙ c.put_text.ensures.len ∙ c.put_u16.ensures.len ∙ c.put_u64-4.ensures.len ∙ c.put_u64-3.ensures.len ∙ c.put_u64-2.ensures.len ∙ c.put_u64.ensures.len)
    c.put_u64.ensures.front c.put_u64-2.ensures.front c.put_u64-3.ensures.front c.put_u64-4.ensures.front c.put_u16.ensures.front c.put_text.ensures.front c.put.ensures.front c.put-2.ensures.front

pub returns-clause-fits : goal.returns-clause-fits
returns-clause-fits c = λ none. record {
  serial = omega arith;
  origin = positive_of c.args.row.now.origin none.origin c.or_zero.ensures.below;
  size = omega arith;
  limit = positive_of c.args.row.now.limit none.limit c.or_zero-2.ensures.below;
  name = c.bytes-name.ensures.is_name;
}
