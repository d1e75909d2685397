-- what a value with borrowed texts stands for
use Rattle.std.specs.Prelude.{ℕ, pos, List, map, Bool, true, ◌&&◌, is_some, unwrap_or}
use Rattle.json.specs.Json as json
use Rattle.json.specs.Value.{value_view}
use Rattle.json.specs.declared.value.Value.{Value}
use Rattle.serde_json.specs.Data.{Num, negative, Data, null, boolean, number, string, array, object, Items, no_items, item, Members, no_members, put}
use Rattle.serde_json.specs.Read.{number_of}
use Rattle.serde_json.specs.View.{items_of}

-- a number that is too large for a float stands as one that no member takes
unfoldable pub num : List ℕ → Num
num s = unwrap_or (number_of s) (negative (pos 0))

-- the members go in one after another, so the last value of a key stays
abbrev mutual
  pub seen : json.Json → Data
  seen json.null = null
  seen (json.boolean b) = boolean b
  seen (json.number s) = number (num s)
  seen (json.string s) = string s
  seen (json.array js) = array (seen_items js)
  seen (json.object ms) = object (seen_members ms no_members)

  pub seen_items : json.Items → Items
  seen_items json.no_items = no_items
  seen_items (json.item j js) = item (seen j) (seen_items js)

  pub seen_members : json.Members → Members → Members
  seen_members json.no_members found = found
  seen_members (json.member k j ms) found = seen_members ms (put k (seen j) found)

-- no number is too large for a float
abbrev mutual
  pub fits : json.Json → Bool
  fits json.null = true
  fits (json.boolean b) = true
  fits (json.number s) = is_some (number_of s)
  fits (json.string s) = true
  fits (json.array js) = items_fit js
  fits (json.object ms) = members_fit ms

  pub items_fit : json.Items → Bool
  items_fit json.no_items = true
  items_fit (json.item j js) = fits j && items_fit js

  pub members_fit : json.Members → Bool
  members_fit json.no_members = true
  members_fit (json.member k j ms) = fits j && members_fit ms

unfoldable pub view : {A : Type 0} → Value A → Data
view v = seen (value_view v)

abbrev pub items_view : {A : Type 0} → List (Value A) → Items
items_view vs = items_of (map view vs)
