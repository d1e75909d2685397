-- the script that a number stands for
use Rattle.std.specs.Prelude.{ℕ, ◌+◌, ◌-◌, ◌*◌, ◌/◌, ◌%◌, ◌^◌, List, [], ◌∷◌, ◌++◌, nat_lt, codes, decimal, if◌then◌else◌}
use Rattle.std.specs.Fn.{iterate}
use Rattle.std.specs.List.{flat_map, range_with_len}
use Rattle.st_gen.specs.declared.line.TheConstants.{GEN_LINES}

-- ---- what is drawn: x goes on once for each line but the first two of each lane

abbrev pub drawn : ℕ → ℕ
drawn x = (x * 6364136223846793005 + 1442695040888963407) % 2 ^ 64

abbrev pub sector_of : ℕ → ℕ
sector_of x = x / 2 ^ 16 % 25000

abbrev pub sectors_of : ℕ → ℕ
sectors_of x = 1 + x / 2 ^ 8 % 8

abbrev pub byte_of : ℕ → ℕ
byte_of x = x / 2 ^ 40 % 256

-- the upper four bits say which call comes
abbrev pub kind_of : ℕ → ℕ
kind_of x = x / 2 ^ 60

-- ---- lines of lane k: the pool is gk on the device simk, with a filesystem a and at times its snapshot s

unfoldable pub pool_line : ℕ → List ℕ
pool_line k =
    codes "{\"call\":\"CreatePool\",\"devices\":[\"/dev/sim" ++ decimal k ++ codes "\"],\"lane\":" ++ decimal k ++ codes ",\"name\":\"g" ++ decimal k
    ++ codes "\"}"

unfoldable pub filesystem_line : ℕ → List ℕ
filesystem_line k =
    codes "{\"call\":\"CreateFilesystems\",\"filesystems\":[{\"name\":\"a\"}],\"lane\":" ++ decimal k ++ codes ",\"pool\":\"g" ++ decimal k ++ codes "\"}"

unfoldable pub snapshot_line : ℕ → List ℕ
snapshot_line k =
    codes "{\"call\":\"SnapshotFilesystem\",\"lane\":" ++ decimal k ++ codes ",\"name\":\"s\",\"origin\":\"a\",\"pool\":\"g" ++ decimal k ++ codes "\"}"

unfoldable pub destroy_line : ℕ → List ℕ
destroy_line k =
    codes "{\"call\":\"DestroyFilesystems\",\"lane\":" ++ decimal k ++ codes ",\"names\":[\"s\"],\"pool\":\"g" ++ decimal k ++ codes "\"}"

unfoldable pub write_line : ℕ → ℕ → List ℕ
write_line k x =
    codes "{\"call\":\"FsWrite\",\"fill\":" ++ decimal (byte_of x) ++ codes ",\"lane\":" ++ decimal k ++ codes ",\"name\":\"a\",\"pool\":\"g" ++ decimal k
    ++ codes "\",\"sector\":" ++ decimal (sector_of x) ++ codes ",\"sectors\":" ++ decimal (sectors_of x) ++ codes "}"

unfoldable pub read_line : ℕ → ℕ → List ℕ
read_line k x =
    codes "{\"call\":\"FsRead\",\"lane\":" ++ decimal k ++ codes ",\"name\":\"a\",\"pool\":\"g" ++ decimal k
    ++ codes "\",\"sector\":" ++ decimal (sector_of x) ++ codes ",\"sectors\":" ++ decimal (sectors_of x) ++ codes "}"

unfoldable pub report_line : ℕ → List ℕ
report_line k = codes "{\"call\":\"PoolReport\",\"lane\":" ++ decimal k ++ codes ",\"pool\":\"g" ++ decimal k ++ codes "\"}"

-- of sixteen lines one snapshots, one destroys, six write, seven read and one reports
unfoldable pub drawn_line : ℕ → ℕ → List ℕ
drawn_line k x =
    if nat_lt (kind_of x) 1 then snapshot_line k
    else if nat_lt (kind_of x) 2 then destroy_line k
    else if nat_lt (kind_of x) 8 then write_line k x
    else if nat_lt (kind_of x) 15 then read_line k x
    else report_line k

-- ---- the script

-- line i, without its LF, where x is the number from before it
unfoldable pub line_at : ℕ → ℕ → ℕ → List ℕ
line_at lanes i x =
    if nat_lt i lanes then pool_line (i % lanes)
    else if nat_lt i (2 * lanes) then filesystem_line (i % lanes)
    else drawn_line (i % lanes) (drawn x)

-- the number from after line i
unfoldable pub number_after : ℕ → ℕ → ℕ → ℕ
number_after lanes i x = if nat_lt i (2 * lanes) then x else drawn x

-- the number from before line i: it was drawn once for each line behind the first two of each lane
abbrev pub number_before : ℕ → ℕ → ℕ → ℕ
number_before lanes number i = iterate drawn (i - 2 * lanes) number

abbrev pub script_line : ℕ → ℕ → ℕ → List ℕ
script_line lanes number i = line_at lanes i (number_before lanes number i) ++ 10 ∷ []

-- all lines, each with its LF
unfoldable pub script : ℕ → ℕ → List ℕ
script lanes number = flat_map (script_line lanes number) (range_with_len 0 GEN_LINES)
