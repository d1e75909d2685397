use Rattle.std.proofs.Common.{length, refl}
use Rattle.st_recrows.specs.TextLaws.{filled_front, zeros_left}
use Rattle.st_recrows.proofs.texts.put_text.Goals as goal

pub returns-clause-front : goal.returns-clause-front
returns-clause-front c =
    filled_front c.args.at (length c.args.text.now) c.args.bytes.now c.put.new.bytes c.put-2.new.bytes c.args.text.now _ refl c.requires.short (zeros_left (length c.args.text.now)) c.put.ensures.front c.put-2.ensures.front
