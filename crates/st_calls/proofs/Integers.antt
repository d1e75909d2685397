-- the integer of a number, by what was read of it
use Rattle.std.proofs.Common.{◌≡◌, ℕ, List, pos, Option, Some, None, option_map, refl, ap}
use Rattle.std.specs.Prelude.{unwrap_or}
use Rattle.serde_json.specs.Data.{Num, negative}
use Rattle.serde_json.specs.Find.{as_u64}
use Rattle.serde_json.specs.Read.{number_of}
use Rattle.st_calls.specs.inner.View.{num}

by_some : (o : Option Num) (n : Option ℕ) → Some n ≡ option_map as_u64 o → n ≡ as_u64 (unwrap_or o (negative (pos 0)))
by_some None n e = absurd (cc)
by_some (Some x) n e = ap (λ r. unwrap_or r n) e

by_none : (o : Option Num) → None ≡ option_map as_u64 o → None ≡ as_u64 (unwrap_or o (negative (pos 0)))
by_none None e = refl
by_none (Some x) e = absurd (cc)

pub num-some : (s : List ℕ) (n : Option ℕ) → Some n ≡ option_map as_u64 (number_of s) → n ≡ as_u64 (num s)
unfolding num
num-some s n e = by_some (number_of s) n e

pub num-none : (s : List ℕ) → None ≡ option_map as_u64 (number_of s) → None ≡ as_u64 (num s)
unfolding num
num-none s e = by_none (number_of s) e
