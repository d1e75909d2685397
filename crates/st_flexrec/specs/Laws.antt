-- The rows of mappings and cells have their widths, and are read back from their spellings.
use Rattle.std.proofs.Common.{◌≡◌, ◌<◌, [], ◌++◌, length, refl, arith}
use Rattle.st_fields.specs.Fields.{spelling}
use Rattle.st_fields.proofs.Spellings.{number-spelling}
use Rattle.st_flexrec.specs.declared.rows.MapRow.{MapRow}
use Rattle.st_flexrec.specs.declared.rows.CellRow.{CellRow}
use Rattle.st_flexrec.specs.Rows.{map_text, MapFits, map_fields, cell_text, CellFits, cell_fields}

pub positive_12 : 0 < 12
positive_12 = omega arith

pub map_width : (m : MapRow) → MapFits m → length (map_text m) ≡ 12
map_width m fit = refl

pub map_reads_back : (m : MapRow) → MapFits m → map_fields (map_text m) ≡ m
map_reads_back m fit =
    let fs = number-spelling 2 m.fs (spelling 2 0 ++ (spelling 4 m.block ++ spelling 4 m.cell)) (omega (arith, fit.fs)) in
    let block = number-spelling 4 m.block (spelling 4 m.cell) (omega (arith, fit.block)) in
    let cell = number-spelling 4 m.cell [] (omega (arith, fit.cell)) in
    λ i. record { fs = fs i; block = block i; cell = cell i }

pub cell_width : (c : CellRow) → CellFits c → length (cell_text c) ≡ 12
cell_width c fit = refl

pub cell_reads_back : (c : CellRow) → CellFits c → cell_fields (cell_text c) ≡ c
cell_reads_back c fit =
    let cell = number-spelling 8 c.cell (spelling 4 c.place) (omega (arith, fit.cell)) in
    let place = number-spelling 4 c.place [] (omega (arith, fit.place)) in
    λ i. record { cell = cell i; place = place i }
