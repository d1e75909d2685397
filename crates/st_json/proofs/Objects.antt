-- an object, member by member from its end
use Rattle.std.proofs.Common.{ℕ, List}
use Rattle.json.specs.Tree.{members_tokens}
use Rattle.json.specs.Written.{Written}
use Rattle.serde_json.specs.Data.{Data, object, Members, no_members, member}
use Rattle.serde_json.specs.Written.{members_outline}
use Rattle.st_json.specs.Adds.{Adds, AddsData, AddsKey, AddsMember, OpensObject, ClosesObject}
use Rattle.st_json.proofs.Adding.{adds_both}

-- the members that are left, and the end of their object
pub record AddsMembers (old new : Written) (ms : Members) : Type 0 where
  pub adds : Adds old new (members_tokens (members_outline ms))

pub adds_close : {a b : Written} → ClosesObject a b → AddsMembers a b no_members
adds_close e = record { adds = e.adds }

pub adds_key : {a b c : Written} {k : List ℕ} {d : Data} → AddsKey a b k → AddsData b c d → AddsMember a c k d
adds_key e f = record { adds = adds_both e.adds f.adds }

pub adds_member : {a b c : Written} {k : List ℕ} {d : Data} {ms : Members} → AddsMember a b k d → AddsMembers b c ms → AddsMembers a c (member k d ms)
adds_member e f = record { adds = adds_both e.adds f.adds }

pub adds_object : {a b c : Written} {ms : Members} → OpensObject a b → AddsMembers b c ms → AddsData a c (object ms)
adds_object e f = record { adds = adds_both e.adds f.adds }
