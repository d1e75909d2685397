use Rattle.std.proofs.Common.{[], ◌∙◌, ◌≡◌, ◌++◌, take, ℕ, subst}
use Rattle.st_fields.specs.Fields.{spelling}
use Rattle.st_header.proofs.Copies.{spelled}
use Rattle.st_header.proofs.header.header_bytes.Goals as goal

pub returns : goal.returns
returns c =
    let front = subst (λ (s : ℕ). take 16 c.put_u64.new.bytes ≡ take 8 c.put.new.bytes ++ spelling 8 s) c.number.ensures.value c.put_u64.ensures.front in
    spelled [] c.put.new.bytes c.put_u64.new.bytes c.put_u64-2.new.bytes c.put-2.new.bytes c.put-3.new.bytes c.seal-sealed.result c.args.serial c.args.sectors c.seal-sealed.ensures.len
    (c.put-3.ensures.len ∙ c.put-2.ensures.len ∙ c.put_u64-2.ensures.len ∙ c.put_u64.ensures.len ∙ c.put.ensures.len)
    c.put.ensures.front front c.put_u64-2.ensures.front c.put-2.ensures.front c.seal-sealed.ensures.value c.put-3.ensures.front
