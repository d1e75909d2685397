use Rattle.st_lines.specs.Lines.{is_feed}
use Rattle.st_lines.proofs.Feeds.{first-position}
use Rattle.st_lines.proofs.lines.first_feed.Goals as goal

pub returns : goal.returns
returns c = first-position is_feed c.args.text.now c.memchr.result c.memchr.ensures
