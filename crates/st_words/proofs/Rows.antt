-- the value of an argument among the matches
use Rattle.std.proofs.Common.{◌≡◌, ℕ, List, [], ◌∷◌, Bool, true, false, map, option_map, refl}
use Rattle.std.specs.Prelude.{find, option_and_then, slice_get, bytes_eq}
use Rattle.std.specs.Borrow.{Bor}
use Rattle.clap.specs.Facts.{Entry}
use Rattle.clap.specs.Walk.{row_of, texts, first_of, rows_of}
use Rattle.clap.specs.Matches.{first_value}
use Rattle.clap.specs.declared.parser.matches.Found.{Found}

first_text : (vals : List (Bor (List ℕ))) → option_map (λ s. s.now) (slice_get vals 0) ≡ slice_get (texts vals) 0
first_text [] = refl
first_text (v ∷ vs) = refl

first_by : (e : Entry) (es : List Entry) (id : List ℕ) (b : Bool) → bytes_eq e.0.now id ≡ b
    → option_and_then (λ a. option_map (λ s. s.now) (slice_get a.vals.items 0)) (option_map (λ e. e.1) (find (λ e. bytes_eq e.0.now id) es))
    ≡ option_and_then (λ r. slice_get r.values 0) (find (λ r. bytes_eq r.id id) (map row_of es))
    → option_and_then (λ a. option_map (λ s. s.now) (slice_get a.vals.items 0)) (option_map (λ e. e.1) (find (λ e. bytes_eq e.0.now id) (e ∷ es)))
    ≡ option_and_then (λ r. slice_get r.values 0) (find (λ r. bytes_eq r.id id) (map row_of (e ∷ es)))
first_by e es id true is rest = rw is (first_text e.1.vals.items)
first_by e es id false is rest = rw is rest

first_in : (entries : List Entry) (id : List ℕ)
    → option_and_then (λ a. option_map (λ s. s.now) (slice_get a.vals.items 0)) (option_map (λ e. e.1) (find (λ e. bytes_eq e.0.now id) entries))
    ≡ option_and_then (λ r. slice_get r.values 0) (find (λ r. bytes_eq r.id id) (map row_of entries))
first_in [] id = refl
first_in (e ∷ es) id = first_by e es id (bytes_eq e.0.now id) refl (first_in es id)

pub first_value-of : (f : Found) (id : List ℕ) → first_value f id ≡ first_of id (rows_of f)
first_value-of f id = first_in f.entries.items id
