-- names of pools, each once, in byte order
use Rattle.std.specs.Prelude.{ℕ, ◌≡◌, Bool, true, ◌&&◌, nat_le, List, [], ◌∷◌, length, insert, if◌then◌else◌}
use Rattle.std.specs.Str.{bytes_eq}
use Rattle.std.specs.List.{list_any, list_all, take_while}
use Rattle.std.specs.Ordering.{nat_cmp, is_lt}
use Rattle.std.specs.Cmp.Lexicographic.{slice_cmp}

-- whether the first name is the lower one in byte order
abbrev pub is_before : List ℕ → List ℕ → Bool
is_before p q = is_lt (slice_cmp nat_cmp p q)

-- whether the name is one of these
abbrev pub is_named : List (List ℕ) → List ℕ → Bool
is_named names name = list_any (λ p. bytes_eq p name) names

-- each name is before all that follow it
abbrev pub are_rising : List (List ℕ) → Bool
are_rising [] = true
are_rising (p ∷ ps) = list_all (is_before p) ps && are_rising ps

abbrev pub are_one_to_eight : List (List ℕ) → Bool
are_one_to_eight names = nat_le 1 (length names) && nat_le (length names) 8

-- behind all lower names, or nowhere where it is among them
abbrev pub with_name : List ℕ → List (List ℕ) → List (List ℕ)
with_name name names = if is_named names name then names else insert names (length (take_while (λ p. is_before p name) names)) name

abbrev pub with_names : List (List ℕ) → List (List ℕ) → List (List ℕ)
with_names names [] = names
with_names names (p ∷ ps) = with_names (with_name p names) ps

-- the names of a list, each once, in byte order
abbrev pub names_of : List (List ℕ) → List (List ℕ)
names_of list = with_names [] list

-- what `names_of` gives: names that rise, and just those of the list
pub record AreNamesOf (list names : List (List ℕ)) : Type 0 where
  pub rising : are_rising names ≡ true
  pub same : (name : List ℕ) → is_named names name ≡ is_named list name
