-- what compatible wants have to do with one pool, and with the table
use Rattle.std.specs.Prelude.{ℕ, ◌≡◌, refl, Bool, true, false, ◌||◌, not, List, [], ◌∷◌}
use Rattle.std.proofs.Common.{ap, ◌∙◌, subst}
use Rattle.std.specs.Str.{bytes_eq}
use Rattle.std.proofs.lemmas.Slice.Eq.{bytes_eq-Decides}
use Rattle.st_wants.specs.declared.want.Mode.TheVariants.{Read, Write}
use Rattle.st_wants.specs.declared.want.Want.{Want}
use Rattle.st_wants.specs.declared.want.Want.TheVariants.{Some, All}
use Rattle.st_wants.specs.Names.{is_named}
use Rattle.st_wants.specs.Wants.{share_a_name, compatible, writes, takes_table}

or_false : (a b : Bool) → (a || b) ≡ false → (a ≡ false) × (b ≡ false)
or_false true b h = absurd cc
or_false false b h = (refl, h)

-- lists that share no name: one of the first isn't one of the second
pub not_shared : (ps qs : List (List ℕ)) (n : List ℕ) → share_a_name ps qs ≡ false → is_named ps n ≡ true → is_named qs n ≡ false
not_shared [] qs n apart h = absurd cc
not_shared (p ∷ ps) qs n apart h =
    let parts = or_false (is_named qs p) (share_a_name ps qs) apart in
    here (bytes_eq p n) refl h (not_shared ps qs n parts.1)
  where
    here : (b : Bool) → bytes_eq p n ≡ b → (b || is_named ps n) ≡ true → (is_named ps n ≡ true → is_named qs n ≡ false) → is_named qs n ≡ false
    here true e k rest =
        let same : p ≡ n = (bytes_eq-Decides p n).0 e in
        subst (λ (m : List ℕ). is_named qs m ≡ false) same (or_false (is_named qs p) (share_a_name ps qs) apart).0
    here false e k rest = rest k

not_true : (b : Bool) → not b ≡ true → b ≡ false
not_true true h = absurd cc
not_true false h = refl

-- where two wants are compatible, what one writes the other doesn't
pub compatible_writes : (n : List ℕ) (v w : Want) → compatible v w ≡ true → writes w n ≡ true → writes v n ≡ false
compatible_writes n (Some ps Read) w ok h = refl
compatible_writes n (Some ps Write) (Some qs Read) ok h = absurd cc
compatible_writes n (Some ps Write) (Some qs Write) ok h = here (is_named ps n) refl
  where
    here : (b : Bool) → is_named ps n ≡ b → b ≡ false
    here true e = absurd (let no = not_shared ps qs n (not_true (share_a_name ps qs) ok) e in cc)
    here false e = refl
compatible_writes n (Some ps Write) (All m) ok h = absurd cc
compatible_writes n (All Read) w ok h = refl
compatible_writes n (All Write) (Some qs m) ok h = absurd cc
compatible_writes n (All Write) (All m) ok h = absurd cc

pub compatible_table : (v w : Want) → compatible v w ≡ true → takes_table w ≡ true → takes_table v ≡ false
compatible_table (Some ps m) w ok h = refl
compatible_table (All Read) w ok h = refl
compatible_table (All Write) (Some qs m) ok h = absurd cc
compatible_table (All Write) (All m) ok h = absurd cc

or_nothing : (b : Bool) → not (b || false) ≡ not b
or_nothing true = refl
or_nothing false = refl

-- a reader of one pool goes with each want that doesn't change the pool
pub reader_beside : (n : List ℕ) (w : Want) → writes w n ≡ false → compatible (Some (n ∷ []) Read) w ≡ true
reader_beside n (Some qs Read) h = refl
reader_beside n (Some qs Write) h = or_nothing (is_named qs n) ∙ ap not h
reader_beside n (All Read) h = refl
reader_beside n (All Write) h = absurd cc

-- and a reader of none with each that doesn't take the table
pub table_beside : (w : Want) → takes_table w ≡ false → compatible (Some [] Read) w ≡ true
table_beside (Some qs Read) h = refl
table_beside (Some qs Write) h = refl
table_beside (All Read) h = refl
table_beside (All Write) h = absurd cc
