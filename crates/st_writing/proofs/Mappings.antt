-- the cells of all mappings, filesystem by filesystem
use Rattle.std.proofs.Common.{◌≡◌, ℕ, ◌+◌, ◌<◌, List, ◌∷◌, ◌++◌, length, map, drop, get_or, append_assoc, sym, ap, ◌∙◌}
use Rattle.std.proofs.lemmas.List.{drop_more}
use Rattle.st_model.specs.declared.state.FsState.{FsState}
use Rattle.st_model.specs.Content.{mapped_cells}

pub more_cells : (cells xs new : List ℕ) (fss : List FsState) (i : ℕ) (fs : FsState) → i < length fss → fs ≡ get_or fss i fs → xs ≡ map (λ (e : ℕ × ℕ). e.1) fs.map → new ≡ cells ++ xs
    → new ++ mapped_cells (drop (i + 1) fss) ≡ cells ++ mapped_cells (drop i fss)
more_cells cells xs new fss i fs lt is own grew =
    let parts : drop i fss ≡ fs ∷ drop (i + 1) fss = drop_more fss i fs lt ∙ ap (λ (x : FsState). x ∷ drop (i + 1) fss) (sym is) in
    ap (λ (l : List ℕ). l ++ mapped_cells (drop (i + 1) fss)) (grew ∙ ap (λ (l : List ℕ). cells ++ l) own)
    ∙ append_assoc cells (map (λ (e : ℕ × ℕ). e.1) fs.map) (mapped_cells (drop (i + 1) fss))
    ∙ ap (λ (l : List FsState). cells ++ mapped_cells l) (sym parts)
