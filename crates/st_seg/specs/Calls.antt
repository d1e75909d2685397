-- any list of calls of an allocator, and what they leave
use Rattle.std.specs.Prelude.{ℕ, List, [], ◌∷◌, ◌++◌, length, nat_le, if◌then◌else◌}
use Rattle.st_seg.specs.Blocks.{Block}
use Rattle.st_seg.specs.Stock.{Stock, with_blocks, after_taking}

-- a call that is answered Ok, or refused for want of room
pub data Call : Type 0 where
  adding : List Block → Call
  taking : ℕ → Call

abbrev pub after_call : Stock → Call → Stock
after_call stock (adding more) = with_blocks stock more
after_call stock (taking n) = if nat_le n (length stock.free) then after_taking stock n else stock

abbrev pub after_calls : Stock → List Call → Stock
after_calls stock [] = stock
after_calls stock (call ∷ calls) = after_calls (after_call stock call) calls

-- the blocks that calls add, in order
abbrev pub added_by : List Call → List Block
added_by [] = []
added_by (adding more ∷ calls) = more ++ added_by calls
added_by (taking n ∷ calls) = added_by calls
