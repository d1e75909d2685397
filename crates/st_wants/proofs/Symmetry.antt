-- the order of two wants doesn't count
use Rattle.std.specs.Prelude.{ℕ, ◌≡◌, refl, Bool, true, false, ◌||◌, List, [], ◌∷◌}
use Rattle.std.proofs.Common.{ap, ◌∙◌}
use Rattle.std.specs.Str.{bytes_eq}
use Rattle.std.specs.Cmp.Lexicographic.{nat_list_eq_equiv}
use Rattle.st_wants.specs.declared.want.Mode.{Mode}
use Rattle.st_wants.specs.declared.want.Mode.TheVariants.{Read, Write}
use Rattle.st_wants.specs.declared.want.Want.{Want}
use Rattle.st_wants.specs.declared.want.Want.TheVariants.{Some, All}
use Rattle.st_wants.specs.Names.{is_named}
use Rattle.st_wants.specs.Wants.{both_read, share_a_name, compatible}

both_read_comm : (m n : Mode) → both_read m n ≡ both_read n m
both_read_comm Read Read = refl
both_read_comm Read Write = refl
both_read_comm Write Read = refl
both_read_comm Write Write = refl

bytes_eq_comm : (p q : List ℕ) → bytes_eq p q ≡ bytes_eq q p
bytes_eq_comm p q = nat_list_eq_equiv.symm p q

or_swap : (a b c d : Bool) → ((a || b) || (c || d)) ≡ ((a || c) || (b || d))
or_swap true b c d = refl
or_swap false true true d = refl
or_swap false true false d = refl
or_swap false false c d = refl

shares_none : (ps : List (List ℕ)) → share_a_name ps [] ≡ false
shares_none [] = refl
shares_none (p ∷ ps) = shares_none ps

-- the first of the second names comes in once for each of the first
shares_cons : (q : List ℕ) (ps qs : List (List ℕ)) → share_a_name ps (q ∷ qs) ≡ (is_named ps q || share_a_name ps qs)
shares_cons q [] qs = refl
shares_cons q (p ∷ ps) qs =
    ap (λ b. (bytes_eq q p || is_named qs p) || b) (shares_cons q ps qs)
    ∙ (ap (λ b. (b || is_named qs p) || (is_named ps q || share_a_name ps qs)) (bytes_eq_comm q p)
    ∙ or_swap (bytes_eq p q) (is_named qs p) (is_named ps q) (share_a_name ps qs))

pub shares_comm : (ps qs : List (List ℕ)) → share_a_name ps qs ≡ share_a_name qs ps
shares_comm ps [] = shares_none ps
shares_comm ps (q ∷ qs) = shares_cons q ps qs ∙ ap (λ b. is_named ps q || b) (shares_comm ps qs)

pub compatible_comm : (a b : Want) → compatible a b ≡ compatible b a
compatible_comm (Some p m) (Some q n) = rw (both_read_comm m n, shares_comm p q) refl
compatible_comm (Some p m) (All n) = rw (both_read_comm m n) refl
compatible_comm (All m) (Some q n) = rw (both_read_comm m n) refl
compatible_comm (All m) (All n) = rw (both_read_comm m n) refl
