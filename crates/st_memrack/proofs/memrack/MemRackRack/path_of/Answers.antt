use Rattle.std.proofs.Common.{ℕ, List, length, map}
use Rattle.std.proofs.lemmas.List.{length-map}
use Rattle.std.proofs.lemmas.Option.{slice_get_read}
use Rattle.st_shelf.proofs.Look.{at_row, at_size}
use Rattle.st_sparse.specs.Sparse.{sparse_path, sparse_size}
use Rattle.st_sparse.specs.declared.sparse.Sparse.{Sparse}
use Rattle.st_memrack.proofs.memrack.MemRackRack.path_of.Goals as goal

abbrev row_of : Sparse → List ℕ × ℕ
row_of d = (sparse_path d, sparse_size d)

pub returns-clause-at : goal.returns-clause-at
returns-clause-at c =
    let rack = c.args.self.now in
    let devices = rack.devices.items in
    at_row sparse_path sparse_size devices c.args.index c.index.result.now rack.rises (slice_get_read devices (length (map row_of devices)) c.args.index c.index.result.now (length-map devices row_of) c.requires c.index.ensures)

pub returns-clause-has : goal.returns-clause-has
returns-clause-has c =
    let rack = c.args.self.now in
    let devices = rack.devices.items in
    at_size sparse_path sparse_size devices c.args.index c.index.result.now rack.rises (slice_get_read devices (length (map row_of devices)) c.args.index c.index.result.now (length-map devices row_of) c.requires c.index.ensures)
