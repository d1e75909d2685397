-- the trace: a line for each event of the log
use Rattle.std.specs.Prelude.{ℕ, List, [], ◌∷◌, codes, map}
use Rattle.hex.specs.Hex.{encode_lower}
use Rattle.serde_json.specs.Data.{Data, string, array, object, no_items, item, no_members, member}
use Rattle.serde_json.specs.View.{items_of}
use Rattle.st_report.specs.Values.{count, texts}
use Rattle.st_replies.specs.Shown.{reply_data, json_line}
use Rattle.st_wants.specs.declared.want.Want.{Want}
use Rattle.st_wants.specs.declared.want.Want.TheVariants as wants
use Rattle.st_wants.specs.declared.want.Mode.{Mode}
use Rattle.st_wants.specs.declared.want.Mode.TheVariants.{Read, Write}
use Rattle.st_model.specs.declared.entry.Entry.{Entry}
use Rattle.st_model.specs.declared.entry.Env.{Env}
use Rattle.st_model.specs.declared.entry.Env.TheVariants.{Plain, NoMem, FaultRead, FaultWrite, After, Before}
use Rattle.st_history.specs.declared.log.Event.{Event}
use Rattle.st_history.specs.declared.log.Event.TheVariants.{Arrive, Grant, Release}
use Rattle.st_model.specs.declared.entry.Origin.{Origin}
use Rattle.st_model.specs.declared.entry.Origin.TheVariants.{Line, Prepare, Close}
use Rattle.st_model.specs.declared.entry.Origin.TheVariants as origins
use Rattle.st_trace.specs.Calls.{call_data}

abbrev pub mode_text : Mode → List ℕ
mode_text Read = codes "read"
mode_text Write = codes "write"

-- one name alone, several as a list
unfoldable pub names_data : List (List ℕ) → Data
names_data (name ∷ []) = string name
names_data names = texts names

unfoldable pub want_data : Want → Data
want_data (wants.Some names mode) = array (item (string (codes "some")) (item (names_data names) (item (string (mode_text mode)) no_items)))
want_data (wants.All mode) = array (item (string (codes "all")) (item (string (mode_text mode)) no_items))

-- what the call met; of a start that found the state before, with the bytes that it found in place
unfoldable pub env_data : Env → Data
env_data Plain = string (codes "none")
env_data NoMem = string (codes "nomem")
env_data FaultRead = string (codes "fault-read")
env_data FaultWrite = string (codes "fault-write")
env_data After = array (item (string (codes "found")) (item (string (codes "after")) no_items))
env_data (Before bytes) = array (item (string (codes "found")) (item (string (codes "before")) (item (string (encode_lower bytes)) no_items)))

-- who made the call: the line's number, or a word
unfoldable pub origin_data : Origin → Data
origin_data (Line n) = count n
origin_data origins.Event = string (codes "event")
origin_data Prepare = string (codes "prepare")
origin_data Close = string (codes "close")

unfoldable pub entry_data : Entry → Data
entry_data e = object (
    member (codes "call") (call_data e.call) (
    member (codes "env") (env_data e.env) (
    member (codes "from") (origin_data e.from) (
    member (codes "reply") (reply_data e.reply) no_members))))

unfoldable pub entries_data : List Entry → Data
entries_data entries = array (items_of (map entry_data entries))

unfoldable pub arrive_data : ℕ → ℕ → Want → Data
arrive_data seat ticket want = object (
    member (codes "event") (string (codes "arrive")) (
    member (codes "seat") (count seat) (
    member (codes "ticket") (count ticket) (
    member (codes "want") (want_data want) no_members))))

unfoldable pub grant_data : ℕ → ℕ → Data
grant_data seat ticket = object (
    member (codes "event") (string (codes "grant")) (
    member (codes "seat") (count seat) (
    member (codes "ticket") (count ticket) no_members)))

unfoldable pub release_data : ℕ → ℕ → List Entry → Data
release_data seat ticket entries = object (
    member (codes "entries") (entries_data entries) (
    member (codes "event") (string (codes "release")) (
    member (codes "seat") (count seat) (
    member (codes "ticket") (count ticket) no_members))))

unfoldable pub event_data : Event → Data
event_data (Arrive seat ticket want) = arrive_data seat ticket want
event_data (Grant seat ticket) = grant_data seat ticket
event_data (Release seat ticket entries) = release_data seat ticket entries.items

unfoldable pub trace_line : Event → List ℕ
trace_line event = json_line (event_data event)
