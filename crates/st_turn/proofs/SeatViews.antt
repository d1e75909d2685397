-- A seat's own fields, its view, and what contracts see of it.
use Rattle.std.proofs.Common.{ℕ, ◌≡◌, ◌+◌, ◌==◌, ◌⊎◌, inl, inr, Bool, true, false, List, [], ◌∷◌, ◌++◌, map, length, refl, sym, ap, ◌∙◌, subst, arith, length-append}
use Rattle.std.proofs.lemmas.Bool.Decides.{nat_tests}
use Rattle.std.proofs.lemmas.List.{append-nil}
use Rattle.std.specs.Prelude.{Option, Some, None}
use Rattle.atomic_table.specs.Seated.{TableId}
use Rattle.atomic_table.specs.Table.{Me}
use Rattle.st_turn.specs.declared.knowledge.Place.{Place}
use Rattle.st_turn.specs.declared.knowledge.Place.TheVariants.{Out, Waiting, InTurn, Last, Spent}
use Rattle.st_turn.specs.declared.knowledge.Claim.{Claim}
use Rattle.st_turn.specs.declared.knowledge.Knowledge.{Knowledge}
use Rattle.st_turn.specs.Lists.{IsAmong, AreAmong, told_by, number_of}
use Rattle.st_turn.specs.Parts.{held}
use Rattle.st_turn.specs.Views.{SeatView, Fits, GoesOn, numbers_of}
use Rattle.st_turn.specs.Ruling.{FitsIn}
use Rattle.st_turn.specs.Kinds.{or_opens, MayLeave, IsOwn}
use Rattle.st_turn.specs.Seated.{IsOpen, IsSeated, seat_view, other_claims, Holds, is_in_turn}

pub opened_some : {O : Type 0} (o : Option O) → IsOpen o → (q : O) × (o ≡ Some q)
opened_some (Some q) h = (q, refl)
opened_some None h = absurd h

module _ {B E O : Type 0} (by : E → ℕ) (events : B → List E) (opens : B → O) (fits : B → O → Type 0) where
  fits_still : (o : Option O) (b : B) → IsOpen o → Fits fits o b → FitsIn fits (or_opens opens o b) (Some b)
  fits_still (Some q) b is_open fit = fit q refl
  fits_still None b is_open fit = absurd is_open

  -- what a caller of put shows is what the rule asks
  pub may_leave : (id : TableId) (number claimed : ℕ) (v : Knowledge E O) (old : SeatView E O) (b : B) (more : List E) → IsSeated v number claimed → seat_view id number v ≡ old → GoesOn by events fits old b more → MayLeave by events opens fits v b
  may_leave id number claimed v old b more seated is goes =
      let g : GoesOn by events fits (seat_view id number v) b more = subst (λ (z : SeatView E O). GoesOn by events fits z b more) (sym is) goes in
      record { more = more; number = number; goes = g.goes; own = seated.own; are = g.own; fit = fits_still v.opening b seated.opened g.fitting }

long_map : {A B : Type 0} (f : A → B) (l : List A) → length (map f l) ≡ length l
long_map f [] = refl
long_map f (x ∷ xs) = let h : length (map f xs) ≡ length xs = long_map f xs in omega (arith, h)

-- how many numbers a seat answers for
pub count_is : {E O : Type 0} (v : Knowledge E O) (number claimed : ℕ) → IsSeated v number claimed → length (held v.holding) ≡ claimed
count_is v number claimed s =
    let names : List ℕ = map number_of v.holding.claims in
    let a : length (names ++ v.holding.drawn) ≡ length names + length v.holding.drawn = length-append names v.holding.drawn in
    let b : length names ≡ length v.holding.claims = long_map number_of v.holding.claims in
    let d : length v.holding.drawn ≡ 0 = ap (length {A = ℕ}) s.drawn in
    let e : claimed ≡ length v.holding.claims = s.count in
    omega (arith, a, b, d, e)

-- they are its own number and those that it took over
pub numbers_are : {E O : Type 0} (id : TableId) (number claimed : ℕ) (v : Knowledge E O) → IsSeated v number claimed → held v.holding ≡ numbers_of (seat_view id number v)
numbers_are {E} id number claimed v s =
    let go : (cs : List (Claim E)) → IsOwn number cs → map number_of cs ≡ number ∷ map number_of (other_claims cs) = elim [
      | [] ↦ (λ own. absurd own)
      | c ∷ cs ↦ (λ own k. own k ∷ map number_of cs)
    ] in
    ap (λ l. map number_of v.holding.claims ++ l) s.drawn ∙ (append-nil (map number_of v.holding.claims) ∙ go v.holding.claims s.own)

module _ {E : Type 0} (by : E → ℕ) where
  -- where no other number told an event, each event is of one of these
  pub are_among : (ns : List ℕ) (es : List E) → ((y : ℕ) → IsAmong y ns ⊎ (told_by by y es ≡ [])) → AreAmong by ns es
  are_among ns [] h = tt
  are_among ns (e ∷ es) h =
      let mine : (by e == by e) ≡ true = grind (arith, nat_tests) in
      let first : IsAmong (by e) ns = elim (h (by e)) [
        | inl m ↦ m
        | inr none ↦ (let q : e ∷ told_by by (by e) es ≡ [] = rw mine at none in absurd cc)
      ] in
      let rest : (y : ℕ) → IsAmong y ns ⊎ (told_by by y es ≡ []) = λ y. elim (h y) [
        | inl m ↦ inl m
        | inr none ↦ inr (
            let go : (t : Bool) → (by e == y) ≡ t → told_by by y es ≡ [] = elim [
              | true ↦ (λ is. let q : e ∷ told_by by y es ≡ [] = rw is at none in absurd cc)
              | false ↦ (λ is. rw is at none)
            ] in
            go (by e == y) refl)
      ] in
      (first, are_among ns es rest)

  pub seat_among : {O : Type 0} (id : TableId) (number claimed : ℕ) (v u : Knowledge E O) (old : SeatView E O) (es : List E) → IsSeated v number claimed → seat_view id number v ≡ old → held u.holding ≡ held v.holding
      → ((y : ℕ) → IsAmong y (held u.holding) ⊎ (told_by by y es ≡ [])) → AreAmong by (numbers_of old) es
  seat_among {O} id number claimed v u old es s is same h =
      let e : held u.holding ≡ numbers_of old = same ∙ (numbers_are id number claimed v s ∙ ap (numbers_of {E = E} {O = O}) is) in
      subst (λ (ns : List ℕ). AreAmong by ns es) e (are_among (held u.holding) es h)

-- a seat that isn't in its turn is out, and holds nothing
pub out_of : {B E O : Type 0} (id : TableId) (number : ℕ) (last : Bool) (m : Me (Option B) (Knowledge E O)) (old : SeatView E O) → Holds last m.0.place m.1 → seat_view id number m.0 ≡ old → old.is_in ≡ false → (m.0.place ≡ Out) × (m.1 ≡ [])
out_of {B} {E} {O} id number last m old holds is out =
    let is_out : is_in_turn m.0.place ≡ false = ap (λ (z : SeatView E O). z.is_in) is ∙ out in
    let go : (p : Place) (l : List (ℕ × Option B)) → Holds last p l → is_in_turn p ≡ false → (p ≡ Out) × (l ≡ []) = elim [
      | Out ↦ (λ l h e. (refl, h))
      | Waiting t ↦ (λ l h e. absurd h)
      | InTurn t ↦ (λ l h e. absurd cc)
      | Last ↦ (λ l h e. absurd cc)
      | Spent ↦ (λ l h e. absurd h)
    ] in
    go m.0.place m.1 holds is_out
