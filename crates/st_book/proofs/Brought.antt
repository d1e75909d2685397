-- cells that come back, one after the other
use Rattle.std.proofs.Common.{◌≡◌, Bool, false, List, [], ◌∷◌, ◌++◌, map, Some, ap, ◌∙◌, append_assoc}
use Rattle.std.specs.Prelude.{slice_get, remove}
use Rattle.std.specs.List.{AllByRecursion}
use Rattle.std.specs.Str.{bytes_eq}
use Rattle.st_model.specs.declared.info.PoolInfo.{PoolInfo}
use Rattle.st_model.specs.declared.state.PoolState.{PoolState}
use Rattle.st_model.specs.Look.{Text}
use Rattle.st_model.specs.Shown.{pool_info}
use Rattle.st_model.specs.Pieces.{info_at}

-- the kept info of each cell that has no spare shows its state
abbrev pub HaveInfos : {A : Type 0} → (A → Bool) → (A → Text) → (A → PoolState) → List PoolInfo → List A → Type 0
HaveInfos spare named state infos cells = AllByRecursion (λ c. spare c ≡ false → info_at (named c) infos ≡ Some (pool_info (state c))) cells

-- the first of a list, and the rest
pub first_rest : {A : Type 0} (xs : List A) (x : A) → slice_get xs 0 ≡ Some x → xs ≡ x ∷ remove xs 0
first_rest [] x h = absurd cc
first_rest (y ∷ ys) x h = let same : y ≡ x = cc in ap (λ z. z ∷ ys) same

-- what leaves the front of one list comes to the end of the other
pub moved_on : {B : Type 0} (home part all new : List B) (b : B) → new ≡ home ++ b ∷ [] → home ++ b ∷ part ≡ all → new ++ part ≡ all
moved_on home part all new b e h = ap (λ z. z ++ part) e ∙ (append_assoc home (b ∷ []) part ∙ h)

-- the others' infos are as they were
pub have_still : {A : Type 0} (spare : A → Bool) (named : A → Text) (state : A → PoolState) (same : (a : A) → named a ≡ (state a).name) (x : A) (old new : List PoolInfo) (cells : List A)
    → ((n : Text) → bytes_eq (named x) n ≡ false → info_at n new ≡ info_at n old) → AllByRecursion (λ n. bytes_eq (state x).name n ≡ false) (map (λ (p : PoolState). p.name) (map state cells))
    → HaveInfos spare named state old cells → HaveInfos spare named state new cells
have_still spare named state same x old new [] others apart h = tt
have_still spare named state same x old new (y ∷ ys) others apart h =
    let ne : bytes_eq (named x) (named y) ≡ false = rw (same x, same y) apart.0 in
    ((λ none. others (named y) ne ∙ h.0 none), have_still spare named state same x old new ys others apart.1 h.1)
