-- what a value with borrowed texts stands for is the data that serde_json reads, where its numbers fit
use Rattle.std.proofs.Common.{◌≡◌, ℕ, List, [], ◌∷◌, Bool, true, false, ◌&&◌, cond, Option, Some, None, is_some, option_map, option_and_then, bytes_eq, true≢false, Bor, refl, sym, ap, ◌∙◌, subst, Vec}
use Rattle.std.proofs.lemmas.Slice.Eq.{bytes_eq-Decides}
use Rattle.json.specs.Json as json
use Rattle.json.specs.Find as find
use Rattle.json.specs.Value.{value_view}
use Rattle.json.specs.Value as values
use Rattle.json.specs.declared.value.Value.{Value, Array}
use Rattle.json.proofs.Trees.{view-Array}
use Rattle.serde_json.specs.Data.{Data, number, array, object, Items, item, Members, no_members, put}
use Rattle.serde_json.specs.Find.{get, get_member, as_str, as_bool, as_number, as_null, as_array, as_object}
use Rattle.serde_json.specs.Read.{number_of, of_json, of_items, of_members}
use Rattle.serde_json.proofs.Views.{get_member-put, get_member-put_other}
use Rattle.st_calls.specs.inner.View.{num, seen, seen_items, seen_members, fits, items_fit, members_fit, view, items_view}

-- ---- what is read

number-seen : (s : List ℕ) (o : Option _) → number_of s ≡ o → option_map number (number_of s) ≡ cond (is_some (number_of s)) (Some (number (num s))) None
unfolding num
number-seen s None is = rw is refl
number-seen s (Some n) is = rw is refl

if-array : (b : Bool) (ds : Items) → option_map array (cond b (Some ds) None) ≡ cond b (Some (array ds)) None
if-array true ds = refl
if-array false ds = refl

if-object : (b : Bool) (ms : Members) → option_map object (cond b (Some ms) None) ≡ cond b (Some (object ms)) None
if-object true ms = refl
if-object false ms = refl

if-item : (b c : Bool) (d : Data) (ds : Items) → option_and_then (λ e. option_map (item e) (cond c (Some ds) None)) (cond b (Some d) None) ≡ cond (b && c) (Some (item d ds)) None
if-item true true d ds = refl
if-item true false d ds = refl
if-item false c d ds = refl

if-member : (b c : Bool) (d : Data) (f : Data → Option Members) (ms : Members) → f d ≡ cond c (Some ms) None → option_and_then f (cond b (Some d) None) ≡ cond (b && c) (Some ms) None
if-member true c d f ms is = is
if-member false c d f ms is = refl

mutual
  pub of_json-seen : (j : json.Json) → of_json j ≡ cond (fits j) (Some (seen j)) None
  of_json-seen json.null = refl
  of_json-seen (json.boolean b) = refl
  of_json-seen (json.number s) = number-seen s (number_of s) refl
  of_json-seen (json.string s) = refl
  of_json-seen (json.array js) = ap (option_map array) (of_items-seen js) ∙ if-array (items_fit js) (seen_items js)
  of_json-seen (json.object ms) = ap (option_map object) (of_members-seen ms no_members) ∙ if-object (members_fit ms) (seen_members ms no_members)

  of_items-seen : (js : json.Items) → of_items js ≡ cond (items_fit js) (Some (seen_items js)) None
  of_items-seen json.no_items = refl
  of_items-seen (json.item j js) =
      ap (option_and_then (λ d. option_map (item d) (of_items js))) (of_json-seen j)
      ∙ ap (λ o. option_and_then (λ d. option_map (item d) o) (cond (fits j) (Some (seen j)) None)) (of_items-seen js)
      ∙ if-item (fits j) (items_fit js) (seen j) (seen_items js)

  of_members-seen : (ms : json.Members) (found : Members) → of_members ms found ≡ cond (members_fit ms) (Some (seen_members ms found)) None
  of_members-seen json.no_members found = refl
  of_members-seen (json.member k j ms) found =
      ap (option_and_then (λ d. of_members ms (put k d found))) (of_json-seen j)
      ∙ if-member (fits j) (members_fit ms) (seen j) (λ d. of_members ms (put k d found)) (seen_members ms (put k (seen j) found)) (of_members-seen ms (put k (seen j) found))

-- ---- what is found

abbrev or_found : Option Data → Option Data → Option Data
or_found None earlier = earlier
or_found (Some d) earlier = Some d

member-put : (k l : List ℕ) (d : Data) (found : Members) (b : Bool) → bytes_eq l k ≡ b → get_member k (put l d found) ≡ cond b (Some d) (get_member k found)
member-put k l d found true is = subst (λ x. get_member k (put x d found) ≡ Some d) (sym ((bytes_eq-Decides l k).0 is)) (get_member-put k d found)
member-put k l d found false is = get_member-put_other k l d found (λ same. true≢false (sym ((bytes_eq-Decides l k).1 (sym same)) ∙ is))

later : (later : Option json.Json) (b : Bool) (j : json.Json) (e : Option Data)
    → or_found (option_map seen later) (cond b (Some (seen j)) e) ≡ or_found (option_map seen (find.later_or later (cond b (Some j) None))) e
later None true j e = refl
later None false j e = refl
later (Some l) b j e = refl

get_member-seen : (k : List ℕ) (ms : json.Members) (found : Members) → get_member k (seen_members ms found) ≡ or_found (option_map seen (find.get_member k ms)) (get_member k found)
get_member-seen k json.no_members found = refl
get_member-seen k (json.member l j ms) found =
    get_member-seen k ms (put l (seen j) found)
    ∙ ap (or_found (option_map seen (find.get_member k ms))) (member-put k l (seen j) found (bytes_eq l k) refl)
    ∙ later (find.get_member k ms) (bytes_eq l k) j (get_member k found)

found_or_none : (o : Option Data) → or_found o None ≡ o
found_or_none None = refl
found_or_none (Some d) = refl

get-seen : (k : List ℕ) (j : json.Json) → get k (seen j) ≡ option_map seen (find.get k j)
get-seen k json.null = refl
get-seen k (json.boolean b) = refl
get-seen k (json.number s) = refl
get-seen k (json.string s) = refl
get-seen k (json.array js) = refl
get-seen k (json.object ms) = get_member-seen k ms no_members ∙ found_or_none (option_map seen (find.get_member k ms))

as_str-seen : (j : json.Json) → as_str (seen j) ≡ find.as_str j
as_str-seen json.null = refl
as_str-seen (json.boolean b) = refl
as_str-seen (json.number s) = refl
as_str-seen (json.string s) = refl
as_str-seen (json.array js) = refl
as_str-seen (json.object ms) = refl

as_number-seen : (j : json.Json) → as_number (seen j) ≡ option_map num (find.as_number j)
as_number-seen json.null = refl
as_number-seen (json.boolean b) = refl
as_number-seen (json.number s) = refl
as_number-seen (json.string s) = refl
as_number-seen (json.array js) = refl
as_number-seen (json.object ms) = refl

as_bool-seen : (j : json.Json) → as_bool (seen j) ≡ find.as_bool j
as_bool-seen json.null = refl
as_bool-seen (json.boolean b) = refl
as_bool-seen (json.number s) = refl
as_bool-seen (json.string s) = refl
as_bool-seen (json.array js) = refl
as_bool-seen (json.object ms) = refl

is_null-seen : (j : json.Json) → is_some (as_null (seen j)) ≡ find.is_null j
is_null-seen json.null = refl
is_null-seen (json.boolean b) = refl
is_null-seen (json.number s) = refl
is_null-seen (json.string s) = refl
is_null-seen (json.array js) = refl
is_null-seen (json.object ms) = refl

as_array-seen : (j : json.Json) → as_array (seen j) ≡ option_map seen_items (find.as_array j)
as_array-seen json.null = refl
as_array-seen (json.boolean b) = refl
as_array-seen (json.number s) = refl
as_array-seen (json.string s) = refl
as_array-seen (json.array js) = refl
as_array-seen (json.object ms) = refl

is_object-seen : (j : json.Json) → is_some (as_object (seen j)) ≡ is_some (find.as_object j)
is_object-seen json.null = refl
is_object-seen (json.boolean b) = refl
is_object-seen (json.number s) = refl
is_object-seen (json.string s) = refl
is_object-seen (json.array js) = refl
is_object-seen (json.object ms) = refl

-- ---- the same of a value

module _ {A : Type 0} where
  seen_items-view : (vs : List (Value A)) → seen_items (values.items_view vs) ≡ items_view vs
  unfolding view
  seen_items-view [] = refl
  seen_items-view (v ∷ vs) = ap (item (seen (value_view v))) (seen_items-view vs)

  pub found-view : (v : Value A) (k : List ℕ) (r : Option (Bor (Value A))) → option_map (λ x. value_view x.now) r ≡ find.get k (value_view v) → option_map (λ x. view x.now) r ≡ get k (view v)
  unfolding view
  found-view v k None is = ap (option_map seen) is ∙ sym (get-seen k (value_view v))
  found-view v k (Some x) is = ap (option_map seen) is ∙ sym (get-seen k (value_view v))

  pub text-view : (v : Value A) → as_str (view v) ≡ find.as_str (value_view v)
  unfolding view
  text-view v = as_str-seen (value_view v)

  pub number-view : (v : Value A) → as_number (view v) ≡ option_map num (find.as_number (value_view v))
  unfolding view
  number-view v = as_number-seen (value_view v)

  pub flag-view : (v : Value A) → as_bool (view v) ≡ find.as_bool (value_view v)
  unfolding view
  flag-view v = as_bool-seen (value_view v)

  pub null-view : (v : Value A) → is_some (as_null (view v)) ≡ find.is_null (value_view v)
  unfolding view
  null-view v = is_null-seen (value_view v)

  pub object-view : (v : Value A) → is_some (as_object (view v)) ≡ is_some (find.as_object (value_view v))
  unfolding view
  object-view v = is_object-seen (value_view v)

  pub array-view : (v : Value A) → as_array (view v) ≡ option_map seen_items (find.as_array (value_view v))
  unfolding view
  array-view v = as_array-seen (value_view v)

  pub items-view : (vs : Vec (Value A) A) → as_array (view (Array vs)) ≡ Some (items_view vs.items)
  unfolding view
  items-view vs = as_array-seen (value_view (Array vs)) ∙ ap (λ j. option_map seen_items (find.as_array j)) (view-Array vs) ∙ ap Some (seen_items-view vs.items)
