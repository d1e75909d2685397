-- The candidates of a pool among looks.
use Rattle.std.specs.Prelude.{ℕ, Bool, true, not, ◌&&◌, ◌||◌, nat_eq, bytes_eq, List, [], ◌∷◌, Some, None, if◌then◌else◌}
use Rattle.std.specs.List.{list_all}
use Rattle.st_fields.specs.Slot.{Found}
use Rattle.st_slots.specs.Reading.{newer}
use Rattle.st_commit.specs.Standing.{keep}
use Rattle.st_image.specs.Looks.{is_serial}
use Rattle.st_looks.specs.declared.look.DevLook.{DevLook}

-- what each slot of a device holds for the pool in its header
abbrev pub even_of : ℕ → DevLook → Found
even_of p look = if is_serial p look.header then keep p look.even else None

abbrev pub odd_of : ℕ → DevLook → Found
odd_of p look = if is_serial p look.header then keep p look.odd else None

abbrev pub newest_in : ℕ → DevLook → Found
newest_in p look = newer (even_of p look) (odd_of p look)

-- the newest of all, on a tie the first such
abbrev pub newest_among : ℕ → List DevLook → Found
newest_among p [] = None
newest_among p (look ∷ looks) = newer (newest_in p look) (newest_among p looks)

-- two candidates have other generations, or one body
abbrev pub agrees : Found → Found → Bool
agrees None b = true
agrees (Some x) None = true
agrees (Some x) (Some y) = not (nat_eq x.0 y.0) || bytes_eq x.1 y.1

abbrev pub looks_agree : ℕ → DevLook → DevLook → Bool
looks_agree p a b = agrees (even_of p a) (even_of p b) && (agrees (even_of p a) (odd_of p b) && (agrees (odd_of p a) (even_of p b) && agrees (odd_of p a) (odd_of p b)))

abbrev pub are_one : ℕ → List DevLook → Bool
are_one p looks = list_all (λ a. list_all (looks_agree p a) looks) looks
