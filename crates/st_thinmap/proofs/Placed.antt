-- the places of a plan lie in what is allocated
use Rattle.std.proofs.Common.{◌≡◌, ℕ, ◌+◌, ◌-◌, ◌<◌, ◌≤◌, Bool, List, length, map, sym, ◌∙◌, ap, arith}
use Rattle.std.specs.List.{All, count_by, filter}
use Rattle.std.proofs.lemmas.List.{length-map}
use Rattle.std.proofs.lemmas.List.Sums.{length-filter}
use Rattle.st_thinmap.specs.declared.plan.Fresh.{Fresh}

pub placed_below : (fresh : List Fresh) (blocks : List ℕ) (p : ℕ → Bool) (used allocated : ℕ) → map (λ (x : Fresh). x.block) fresh ≡ filter p blocks → count_by p blocks ≤ allocated - used
    → All (λ (x : Fresh). x.place < used + length fresh) fresh → All (λ (x : Fresh). x.place < allocated) fresh
placed_below fresh blocks p used allocated are space below k d lt =
    let n : length fresh ≡ count_by p blocks = sym (length-map fresh (λ (x : Fresh). x.block)) ∙ ap length are ∙ length-filter p blocks in
    omega (arith, below k d lt, n, lt, space)
