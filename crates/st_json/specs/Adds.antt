-- what a text of JSON goes on with while it is written
use Rattle.std.specs.Prelude.{◌≡◌, ℕ, List, [], ◌∷◌, ◌++◌}
use Rattle.json.specs.Token.{Token, begin_object, end_object, begin_array, end_array, key}
use Rattle.json.specs.Tree.{json_tokens}
use Rattle.json.specs.Written.{Written}
use Rattle.serde_json.specs.Data.{Data}
use Rattle.serde_json.specs.Written.{outline}

-- the tokens of a value's text
abbrev pub data_tokens : Data → List Token
data_tokens d = json_tokens (outline d)

-- those of values one after another
abbrev pub listed : List Data → List Token
listed [] = []
listed (d ∷ ds) = data_tokens d ++ listed ds

-- the text goes on with these tokens, and what stood before it stays
pub record Adds (old new : Written) (ts : List Token) : Type 0 where
  pub kept : new.before ≡ old.before
  pub more : new.tokens ≡ old.tokens ++ ts

-- ---- with what: a record for each, so that a proof finds what was added

pub record AddsData (old new : Written) (d : Data) : Type 0 where
  pub adds : Adds old new (data_tokens d)

-- values one after another, without brackets
pub record AddsItems (old new : Written) (ds : List Data) : Type 0 where
  pub adds : Adds old new (listed ds)

pub record AddsKey (old new : Written) (k : List ℕ) : Type 0 where
  pub adds : Adds old new (key k ∷ [])

pub record AddsMember (old new : Written) (k : List ℕ) (d : Data) : Type 0 where
  pub adds : Adds old new (key k ∷ data_tokens d)

pub record OpensObject (old new : Written) : Type 0 where
  pub adds : Adds old new (begin_object ∷ [])

pub record ClosesObject (old new : Written) : Type 0 where
  pub adds : Adds old new (end_object ∷ [])

pub record OpensList (old new : Written) : Type 0 where
  pub adds : Adds old new (begin_array ∷ [])

pub record ClosesList (old new : Written) : Type 0 where
  pub adds : Adds old new (end_array ∷ [])
