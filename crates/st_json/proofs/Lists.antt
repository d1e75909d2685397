-- a list, item by item from its end, or of values that were written one after another
use Rattle.std.proofs.Common.{◌≡◌, List, [], ◌∷◌, ◌++◌, refl, ap, ◌∙◌, sym, append_assoc}
use Rattle.json.specs.Token.{Token, end_array}
use Rattle.json.specs.Tree.{items_tokens}
use Rattle.json.specs.Written.{Written}
use Rattle.serde_json.specs.Data.{Data, array, Items, no_items, item}
use Rattle.serde_json.specs.View.{items_of}
use Rattle.serde_json.specs.Written.{items_outline}
use Rattle.st_json.specs.Adds.{Adds, data_tokens, listed, AddsData, AddsItems, OpensList, ClosesList}
use Rattle.st_json.proofs.Adding.{adds_both}

-- the items that are left, and the end of their list
pub record AddsRest (old new : Written) (is : Items) : Type 0 where
  pub adds : Adds old new (items_tokens (items_outline is))

pub adds_end : {a b : Written} → ClosesList a b → AddsRest a b no_items
adds_end e = record { adds = e.adds }

pub adds_item : {a b c : Written} {d : Data} {is : Items} → AddsData a b d → AddsRest b c is → AddsRest a c (item d is)
adds_item e f = record { adds = adds_both e.adds f.adds }

pub adds_array : {a b c : Written} {is : Items} → OpensList a b → AddsRest b c is → AddsData a c (array is)
adds_array e f = record { adds = adds_both e.adds f.adds }

-- values one after another, and then the end
list_tokens : (ds : List Data) → items_tokens (items_outline (items_of ds)) ≡ listed ds ++ end_array ∷ []
list_tokens [] = refl
list_tokens (d ∷ ds) = ap (λ ts. data_tokens d ++ ts) (list_tokens ds) ∙ sym (append_assoc (data_tokens d) (listed ds) (end_array ∷ []))

adds_same : {a b : Written} {ts us : List Token} → ts ≡ us → Adds a b us → Adds a b ts
adds_same {a} same e = record { kept = e.kept; more = e.more ∙ ap (λ s. a.tokens ++ s) (sym same) }

pub adds_list : {a b c d : Written} {ds : List Data} → OpensList a b → AddsItems b c ds → ClosesList c d → AddsData a d (array (items_of ds))
adds_list {a} {b} {c} {d} {ds} e f g = adds_array e (record { adds = adds_same (list_tokens ds) (adds_both f.adds g.adds) })

-- two runs of values one behind the other
pub listed_append : (ds es : List Data) → listed (ds ++ es) ≡ listed ds ++ listed es
listed_append [] es = refl
listed_append (d ∷ ds) es = ap (λ ts. data_tokens d ++ ts) (listed_append ds es) ∙ sym (append_assoc (data_tokens d) (listed ds) (listed es))
