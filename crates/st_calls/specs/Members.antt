-- the members of a call, each by its key: the last of that key counts
use Rattle.std.specs.Prelude.{ℕ, List, [], ◌∷◌, Bool, Option, Some, None, Result, Ok, Err, option_and_then, if◌then◌else◌}
use Rattle.serde_json.specs.Data.{Data, null, Items, no_items, item}
use Rattle.serde_json.specs.Find.{get, as_str, as_array, as_bool, as_number, as_u64}
use Rattle.st_units.specs.Text.{is_name, is_path}
use Rattle.st_units.specs.declared.cause.Member.{Member}
use Rattle.st_units.specs.declared.cause.Member.TheVariants as members
use Rattle.st_calls.specs.declared.fault.LineFault.{LineFault}
use Rattle.st_calls.specs.declared.fault.LineFault.TheVariants.{BadCall, BadName}
use Rattle.st_calls.specs.Gives.{◌>>=◌}

abbrev pub or_bad : {A : Type 0} → Member → Option A → Result A LineFault
or_bad member None = Err (BadCall member)
or_bad member (Some x) = Ok x

abbrev pub text_at : Member → List ℕ → Data → Result (List ℕ) LineFault
text_at member key d = or_bad member (option_and_then as_str (get key d))

-- a name outside the limits is told apart from what is no text
abbrev pub name_of : Member → List ℕ → Result (List ℕ) LineFault
name_of member text = if is_name text then Ok text else Err (BadName member)

unfoldable pub name_at : Member → List ℕ → Data → Result (List ℕ) LineFault
name_at member key d = text_at member key d >>= name_of member

-- a number is a JSON integer from 0 to 2^64 - 1 without sign, fraction or exponent
abbrev pub number_of : Data → Option ℕ
number_of d = option_and_then as_u64 (as_number d)

unfoldable pub number_at : Member → List ℕ → Data → Result ℕ LineFault
number_at member key d = or_bad member (option_and_then number_of (get key d))

abbrev pub number_or_null : Member → Data → Result (Option ℕ) LineFault
number_or_null member null = Ok None
number_or_null member d = or_bad member (number_of d) >>= λ n. Ok (Some n)

abbrev pub number_if_told : Member → Option Data → Result (Option ℕ) LineFault
number_if_told member None = Ok None
number_if_told member (Some d) = number_or_null member d

-- a number, or none where it is absent or null
unfoldable pub optional_number_at : Member → List ℕ → Data → Result (Option ℕ) LineFault
optional_number_at member key d = number_if_told member (get key d)

-- true or false
unfoldable pub flag_at : Member → List ℕ → Data → Result Bool LineFault
flag_at member key d = or_bad member (option_and_then as_bool (get key d))

-- each item read in turn: the first faulty one decides
abbrev pub each : {A : Type 0} → (Data → Result A LineFault) → Items → Result (List A) LineFault
each read no_items = Ok []
each read (item d ds) = read d >>= λ x. each read ds >>= λ xs. Ok (x ∷ xs)

abbrev pub items_at : Member → List ℕ → Data → Result Items LineFault
items_at member key d = or_bad member (option_and_then as_array (get key d))

-- a path outside the limits is no name, and faulty like what is no text
unfoldable pub path_of : Data → Result (List ℕ) LineFault
path_of d = or_bad members.Devices (as_str d) >>= λ text. if is_path text then Ok text else Err (BadCall members.Devices)

unfoldable pub paths_at : List ℕ → Data → Result (List (List ℕ)) LineFault
paths_at key d = items_at members.Devices key d >>= each path_of

unfoldable pub name_item : Member → Data → Result (List ℕ) LineFault
name_item member d = or_bad member (as_str d) >>= name_of member

unfoldable pub names_at : Member → List ℕ → Data → Result (List (List ℕ)) LineFault
names_at member key d = items_at member key d >>= each (name_item member)
