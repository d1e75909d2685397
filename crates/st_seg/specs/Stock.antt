-- what an allocator of segments stands for, and what each call makes of it
use Rattle.std.specs.Prelude.{ℕ, List, [], ◌++◌, take, drop}
use Rattle.st_seg.specs.Blocks.{Block}

-- the blocks that were handed out, and those that are free, each in the order of taking
pub record Stock : Type 0 where
  pub taken : List Block
  pub free : List Block

abbrev pub empty_stock : Stock
empty_stock = record { taken = []; free = [] }

-- added blocks come after all that are free
abbrev pub with_blocks : Stock → List Block → Stock
with_blocks stock more = record { taken = stock.taken; free = stock.free ++ more }

-- the first n of the free blocks are handed out
abbrev pub after_taking : Stock → ℕ → Stock
after_taking stock n = record { taken = stock.taken ++ take n stock.free; free = drop n stock.free }

-- all blocks that were ever added, in order
abbrev pub added : Stock → List Block
added stock = stock.taken ++ stock.free
