-- a cell that is mapped at two places is shared
use Rattle.std.proofs.Common.{◌≡◌, ℕ, ◌+◌, ◌≤◌, inl, inr, List, [], ◌∷◌, ◌++◌, map, Bool, true, false, cond, Some, nat_lt, refl, sym, ap, ◌∙◌, arith}
use Rattle.std.specs.Prelude.{nat_eq}
use Rattle.std.specs.List.{count_by}
use Rattle.std.specs.Map.{lookup}
use Rattle.std.proofs.lemmas.Bool.{eq-eqb, eqb-true}
use Rattle.std.proofs.lemmas.Grind.{common_steps}
use Rattle.std.proofs.lemmas.List.Sums.{sum_by-cons, sum_by-append}
use Rattle.st_limits.specs.Sums.{is_shared}
use Rattle.st_model.specs.declared.state.FsState.{FsState}
use Rattle.st_model.specs.Content.{mapped_cells}
use Rattle.st_model.proofs.Among.{IsIn}

abbrev cells : List (ℕ × ℕ) → List ℕ
cells entries = map (λ (e : ℕ × ℕ). e.1) entries

abbrev times : ℕ → List ℕ → ℕ
times c xs = count_by (nat_eq c) xs

times_step : (c x : ℕ) (xs : List ℕ) → times c (x ∷ xs) ≡ cond (nat_eq c x) 1 0 + times c xs
times_step c x xs = sum_by-cons (λ y. cond (nat_eq c y) 1 0) x xs

times_both : (c : ℕ) (xs ys : List ℕ) → times c (xs ++ ys) ≡ times c xs + times c ys
times_both c xs ys = sum_by-append (λ y. cond (nat_eq c y) 1 0) xs ys

once : (c block : ℕ) (entries : List (ℕ × ℕ)) → lookup (nat_eq block) entries ≡ Some c → 1 ≤ times c (cells entries)
once c block [] h = absurd cc
once c block (e ∷ es) h = here (nat_eq block e.0) h (once c block es) (times_step c e.1 (cells es))
  where
    here : (b : Bool) → cond b (Some e.1) (lookup (nat_eq block) es) ≡ Some c → (lookup (nat_eq block) es ≡ Some c → 1 ≤ times c (cells es)) → times c (cells (e ∷ es)) ≡ cond (nat_eq c e.1) 1 0 + times c (cells es) → 1 ≤ times c (cells (e ∷ es))
    here true h rest step = let same : e.1 ≡ c = cc in let one : cond {A = ℕ} (nat_eq c e.1) 1 0 ≡ 1 = rw (eq-eqb c e.1 (sym same)) refl in omega (arith, step, one)
    here false h rest step = let more = rest h in omega (arith, step, more)

twice : (c a b : ℕ) (entries : List (ℕ × ℕ)) → (a ≡ b → ⊥) → lookup (nat_eq a) entries ≡ Some c → lookup (nat_eq b) entries ≡ Some c → 2 ≤ times c (cells entries)
twice c a b [] ne h g = absurd cc
twice c a b (e ∷ es) ne h g = here (nat_eq a e.0) (nat_eq b e.0) refl refl h g (twice c a b es ne) (times_step c e.1 (cells es))
  where
    one_of : e.1 ≡ c → cond {A = ℕ} (nat_eq c e.1) 1 0 ≡ 1
    one_of same = rw (eq-eqb c e.1 (sym same)) refl

    here : (x y : Bool) → nat_eq a e.0 ≡ x → nat_eq b e.0 ≡ y → cond x (Some e.1) (lookup (nat_eq a) es) ≡ Some c → cond y (Some e.1) (lookup (nat_eq b) es) ≡ Some c
        → (lookup (nat_eq a) es ≡ Some c → lookup (nat_eq b) es ≡ Some c → 2 ≤ times c (cells es)) → times c (cells (e ∷ es)) ≡ cond (nat_eq c e.1) 1 0 + times c (cells es) → 2 ≤ times c (cells (e ∷ es))
    here true true i j h g rest step = absurd (ne (eqb-true a e.0 i ∙ sym (eqb-true b e.0 j)))
    here true false i j h g rest step = let same : e.1 ≡ c = cc in let one = one_of same in let more = once c b es g in omega (arith, step, one, more)
    here false true i j h g rest step = let same : e.1 ≡ c = cc in let one = one_of same in let more = once c a es h in omega (arith, step, one, more)
    here false false i j h g rest step = let more = rest h g in omega (arith, step, more)

all_step : (c : ℕ) (fs : FsState) (fss : List FsState) → times c (mapped_cells (fs ∷ fss)) ≡ times c (cells fs.map) + times c (mapped_cells fss)
all_step c fs fss = times_both c (cells fs.map) (mapped_cells fss)

within : (c : ℕ) (fs : FsState) (fss : List FsState) → IsIn fs fss → times c (cells fs.map) ≤ times c (mapped_cells fss)
within c fs [] i = absurd i
within c fs (x ∷ fss) (inl e) = let step = all_step c x fss in let same : times c (cells x.map) ≡ times c (cells fs.map) = ap (λ (y : FsState). times c (cells y.map)) e in omega (arith, step, same)
within c fs (x ∷ fss) (inr i) = let step = all_step c x fss in let rest = within c fs fss i in omega (arith, step, rest)

apart : (c : ℕ) (x y : FsState) (fss : List FsState) → IsIn x fss → IsIn y fss → (x.row.serial ≡ y.row.serial → ⊥) → times c (cells x.map) + times c (cells y.map) ≤ times c (mapped_cells fss)
apart c x y [] i j ne = absurd i
apart c x y (z ∷ fss) (inl e) (inl f) ne = absurd (ne (ap (λ (w : FsState). w.row.serial) (sym e ∙ f)))
apart c x y (z ∷ fss) (inl e) (inr j) ne =
    let step = all_step c z fss in
    let same : times c (cells z.map) ≡ times c (cells x.map) = ap (λ (w : FsState). times c (cells w.map)) e in
    let rest = within c y fss j in
    omega (arith, step, same, rest)
apart c x y (z ∷ fss) (inr i) (inl f) ne =
    let step = all_step c z fss in
    let same : times c (cells z.map) ≡ times c (cells y.map) = ap (λ (w : FsState). times c (cells w.map)) f in
    let rest = within c x fss i in
    omega (arith, step, same, rest)
apart c x y (z ∷ fss) (inr i) (inr j) ne = let step = all_step c z fss in let rest = apart c x y fss i j ne in omega (arith, step, rest)

is_more : (n : ℕ) → 2 ≤ n → nat_lt 1 n ≡ true
is_more n h = grind (arith, common_steps)

-- in two filesystems
pub shared-apart : (c a b : ℕ) (x y : FsState) (fss : List FsState) → IsIn x fss → IsIn y fss → (x.row.serial ≡ y.row.serial → ⊥) → lookup (nat_eq a) x.map ≡ Some c → lookup (nat_eq b) y.map ≡ Some c → is_shared (mapped_cells fss) c ≡ true
shared-apart c a b x y fss i j ne h g =
    let first = once c a x.map h in
    let second = once c b y.map g in
    let all = apart c x y fss i j ne in
    is_more (times c (mapped_cells fss)) (omega (arith, first, second, all))

-- under two blocks of one
pub shared-within : (c a b : ℕ) (x : FsState) (fss : List FsState) → IsIn x fss → (a ≡ b → ⊥) → lookup (nat_eq a) x.map ≡ Some c → lookup (nat_eq b) x.map ≡ Some c → is_shared (mapped_cells fss) c ≡ true
shared-within c a b x fss i ne h g =
    let two = twice c a b x.map ne h g in
    let all = within c x fss i in
    is_more (times c (mapped_cells fss)) (omega (arith, two, all))
