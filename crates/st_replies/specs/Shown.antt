-- the lines that answer a script: a line of each reply, and the summary
use Rattle.std.specs.Prelude.{ℕ, List, [], ◌∷◌, ◌++◌, codes, decimal}
use Rattle.serde_json.specs.Data.{Data, null, string, object, no_members, member}
use Rattle.serde_json.specs.Written.{compact_text}
use Rattle.st_model.specs.declared.reply.Reply.{Reply}
use Rattle.st_replies.specs.declared.line.Summary.{Summary}
use Rattle.st_report.specs.Values.{count}
use Rattle.st_replies.specs.Results.{result_data}
use Rattle.st_replies.specs.Texts.{text_of}

-- a reply as the trace shows it
unfoldable pub reply_data : Reply → Data
reply_data reply = object (
    member (codes "code") (count reply.code) (
    member (codes "result") (result_data reply.result) (
    member (codes "text") (string (text_of reply.cause)) no_members)))

-- what answers a line
unfoldable pub line_data : ℕ → ℕ → Data → List ℕ → Data
line_data code line given text = object (
    member (codes "code") (count code) (
    member (codes "line") (count line) (
    member (codes "result") given (
    member (codes "text") (string text) no_members))))

-- compact JSON and LF
abbrev pub json_line : Data → List ℕ
json_line d = compact_text d ++ 10 ∷ []

unfoldable pub reply_line : ℕ → Reply → List ℕ
reply_line line reply = json_line (line_data reply.code line (result_data reply.result) (text_of reply.cause))

-- the line that answers a call which isn't built: it goes when all calls are built
unfoldable pub not_built_line : ℕ → List ℕ → List ℕ
not_built_line line name = json_line (line_data 30 line null (codes "NotBuilt call=" ++ name))

unfoldable pub summary_line : Summary → List ℕ
summary_line sums =
    codes "summary lines " ++ decimal sums.lines ++ codes " ok " ++ decimal sums.ok ++ codes " refused " ++ decimal sums.refused
    ++ codes " written " ++ decimal sums.written ++ codes " read " ++ decimal sums.read ++ 10 ∷ []
