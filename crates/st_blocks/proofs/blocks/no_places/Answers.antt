use Rattle.std.proofs.Common.{◌≡◌, ℕ, zero, suc, ◌-◌, List, [], ◌++◌, take, Option, replicate, refl, ◌∙◌, ap, arith}
use Rattle.st_blocks.specs.Kept.{kept}
use Rattle.st_blocks.proofs.Table.{kept_none, no_where}
use Rattle.st_blocks.proofs.blocks.no_places.Goals as goal

abbrev no_items : List (Option ℕ)
no_items = []

take_none : (n : ℕ) → take n [] ≡ no_items
take_none zero = refl
take_none (suc n) = refl

all_none : (places start : List (Option ℕ)) (n len : ℕ) → start ≡ [] → len ≡ 0 → places ≡ take n start ++ replicate (n - len) no_where → kept places ≡ 0
all_none places start n len empty none is =
    let same : n - len ≡ n = omega (arith, none) in
    ap kept (is ∙ (λ i. take n (empty i) ++ replicate (same i) no_where) ∙ ap (λ (l : List (Option ℕ)). l ++ replicate n no_where) (take_none n)) ∙ kept_none n

pub returns-clause-kept : goal.returns-clause-kept
returns-clause-kept c = all_none c.resize.new.self.items c.in_ok-places.places.items c.args.blocks c.in_ok-places.places.len c.in_ok-places.ensures.items c.in_ok-places.ensures.len c.in_ok-resize.ensures.items
