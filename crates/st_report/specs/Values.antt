-- the JSON values that reports and replies are made of
use Rattle.std.specs.Prelude.{ℕ, List, Option, Some, None, map}
use Rattle.serde_json.specs.Data.{Data, null, number, string, unsigned, array}
use Rattle.serde_json.specs.View.{items_of}

abbrev pub count : ℕ → Data
count n = number (unsigned n)

unfoldable pub count_or_null : Option ℕ → Data
count_or_null None = null
count_or_null (Some n) = count n

-- texts, as a list of strings
unfoldable pub texts : List (List ℕ) → Data
texts ts = array (items_of (map string ts))
