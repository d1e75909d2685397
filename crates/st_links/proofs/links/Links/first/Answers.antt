use Rattle.std.proofs.Common.{◌∙◌, ap}
use Rattle.st_links.specs.Ring.{as_place}
use Rattle.st_links.proofs.Neighbours.{first_read}
use Rattle.st_links.proofs.Calls.{seen_tied, read_at, within_sentinel}
use Rattle.st_links.proofs.links.Links.first.Goals as goal

pub returns : goal.returns
returns c =
    let tied = seen_tied c.self.invariant c.self.view_is in
    let read = read_at _ _ _ c.index.ensures (within_sentinel tied.linked c.args.list c.if-list-self.false).next_in in
    c.place_of.ensures ∙ ap (as_place c.self.inside.places) read ∙ first_read tied c.args.list c.if-list-self.false
