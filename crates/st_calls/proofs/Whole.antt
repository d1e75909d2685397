-- the value that a text is, by what its reader gave
use Rattle.std.proofs.Common.{◌≡◌, ℕ, List, [], ◌∷◌, true, false, cond, Option, Some, None, is_some, option_and_then, MatchOption, true≢false, sym, ap, ◌∙◌}
use Rattle.json.specs.Json.{Json, value, if_last}
use Rattle.json.specs.Lex.{tokens}
use Rattle.json.specs.Reads.{token_of}
use Rattle.json.specs.Token as spec
use Rattle.json.specs.Value.{value_view}
use Rattle.json.specs.declared.token.Token.{Token}
use Rattle.json.specs.declared.value.Value.{Value}
use Rattle.serde_json.specs.Data.{Data}
use Rattle.serde_json.specs.Read.{of_json, read}
use Rattle.st_calls.specs.inner.View.{fits, seen, view}
use Rattle.st_calls.proofs.Seen.{of_json-seen}

abbrev Next : List spec.Token → Option Token → List spec.Token → Type 0
Next old next new = MatchOption next ((old ≡ []) × (new ≡ [])) (λ t. old ≡ token_of t ∷ new)

abbrev of_read : Option (Json × List spec.Token) → Option Data
of_read r = option_and_then of_json (option_and_then (λ p. if_last p.0 p.1) r)

more : (j : Json) (old new : List spec.Token) (next : Option Token) → Next old next new → is_some next ≡ true → of_read (Some (j, old)) ≡ None
more j old new None is e = absurd (true≢false (sym e))
more j old new (Some t) is e = ap (λ r. of_read (Some (j, r))) is

over : (j : Json) (old new : List spec.Token) (next : Option Token) → Next old next new → is_some next ≡ false → of_read (Some (j, old)) ≡ of_json j
over j old new None is e = ap (λ r. of_read (Some (j, r))) is.0
over j old new (Some t) is e = absurd (true≢false e)

module _ {A : Type 0} (text : List ℕ) (start old new : List spec.Token) (v : Value A) (next : Option Token) (begins : start ≡ tokens text) (given : value 127 start ≡ Some (value_view v, old)) (then : Next old next new) where
  reads : read text ≡ of_read (Some (value_view v, old))
  reads = ap (λ ts. of_read (value 127 ts)) (sym begins) ∙ ap of_read given

  pub read-more : is_some next ≡ true → read text ≡ None
  read-more e = reads ∙ more (value_view v) old new next then e

  ended : is_some next ≡ false → read text ≡ cond (fits (value_view v)) (Some (seen (value_view v))) None
  ended e = reads ∙ over (value_view v) old new next then e ∙ of_json-seen (value_view v)

  pub read-unfit : is_some next ≡ false → fits (value_view v) ≡ false → read text ≡ None
  read-unfit e unfit = ended e ∙ ap (λ b. cond b (Some (seen (value_view v))) None) unfit

  pub read-value : is_some next ≡ false → fits (value_view v) ≡ true → read text ≡ Some (view v)
  unfolding view
  read-value e fit = ended e ∙ ap (λ b. cond b (Some (seen (value_view v))) None) fit
