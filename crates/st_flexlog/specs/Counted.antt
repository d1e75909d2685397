-- Bytes that are as long as their count of rows tells.
use Rattle.std.specs.Prelude.{ℕ, ◌+◌, ◌*◌, Bool, ◌&&◌, nat_le, ◌==◌, List, length}
use Rattle.st_flexlog.specs.Delta.{count_in}

abbrev pub has_counted_length : List ℕ → Bool
has_counted_length bytes = nat_le 24 (length bytes) && (nat_le (count_in bytes) 2 && (length bytes == 24 + count_in bytes * 24))
