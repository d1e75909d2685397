-- each path once: what a loop has kept, and what of the rest it will keep
use Rattle.std.proofs.Common.{◌≡◌, List, [], ◌∷◌, ◌++◌, Bool, true, false, ◌||◌, not, cond, filter, bytes_eq, refl, sym, ◌∙◌, ap, subst, append_assoc}
use Rattle.std.proofs.lemmas.Slice.Eq.{bytes_eq-Decides}
use Rattle.st_model.specs.Look.{Text, has_path, without, kept}

abbrev pub unseen : List Text → List Text → List Text
unseen list = filter (λ p. not (has_path p list))

pub unseen_by_none : (d : List Text) → unseen [] d ≡ d
unseen_by_none [] = refl
unseen_by_none (p ∷ d) = ap (λ ps. p ∷ ps) (unseen_by_none d)

or_false : (b : Bool) → (b || false) ≡ b
or_false true = refl
or_false false = refl

or_assoc : (a b c : Bool) → (a || (b || c)) ≡ ((a || b) || c)
or_assoc true b c = refl
or_assoc false b c = refl

any_end : (p : Text) (xs : List Text) (y : Text) → has_path p (xs ++ y ∷ []) ≡ (has_path p xs || bytes_eq y p)
any_end p [] y = or_false (bytes_eq y p)
any_end p (x ∷ xs) y = ap (λ b. bytes_eq x p || b) (any_end p xs y) ∙ or_assoc (bytes_eq x p) (has_path p xs) (bytes_eq y p)

-- a path that was kept is left out anyway
pub skips_seen : (p : Text) (list d : List Text) → has_path p list ≡ true → unseen list (without p d) ≡ unseen list d
skips_seen p list [] h = refl
skips_seen p list (q ∷ d) h = here (bytes_eq p q) refl (skips_seen p list d h)
  where
    here : (b : Bool) → bytes_eq p q ≡ b → unseen list (without p d) ≡ unseen list d
        → unseen list (cond (not b) (q ∷ without p d) (without p d)) ≡ cond (not (has_path q list)) (q ∷ unseen list d) (unseen list d)
    here true e rest =
        let seen : has_path q list ≡ true = subst (λ (t : Text). has_path t list ≡ true) ((bytes_eq-Decides p q).0 e) h in
        rw seen rest
    here false e rest = ap (λ t. cond (not (has_path q list)) (q ∷ t) t) rest

skips_both : (a : Bool) (x y z : List Text) → y ≡ z → cond (not (a || true)) x y ≡ z
skips_both true x y z h = h
skips_both false x y z h = h

keeps_alike : (a : Bool) (q : Text) (x y : List Text) → x ≡ y → cond (not (a || false)) (q ∷ x) x ≡ cond (not a) (q ∷ y) y
keeps_alike true q x y h = h
keeps_alike false q x y h = ap (λ t. q ∷ t) h

-- leaving one more path out
pub unseen_with : (p : Text) (list d : List Text) → unseen (list ++ p ∷ []) d ≡ unseen list (without p d)
unseen_with p list [] = refl
unseen_with p list (q ∷ d) =
    ap (λ b. cond (not b) (q ∷ unseen (list ++ p ∷ []) d) (unseen (list ++ p ∷ []) d)) (any_end q list p) ∙ here (bytes_eq p q) (unseen_with p list d)
  where
    here : (b : Bool) → unseen (list ++ p ∷ []) d ≡ unseen list (without p d)
        → cond (not (has_path q list || b)) (q ∷ unseen (list ++ p ∷ []) d) (unseen (list ++ p ∷ []) d) ≡ unseen list (cond (not b) (q ∷ without p d) (without p d))
    here true rest = skips_both (has_path q list) _ _ _ rest
    here false rest = keeps_alike (has_path q list) q _ _ rest

pub kept_step : (list d : List Text) (p : Text) → kept list p ++ unseen (kept list p) d ≡ list ++ unseen list (p ∷ without p d)
kept_step list d p = here (has_path p list) refl
  where
    here : (b : Bool) → has_path p list ≡ b → cond b list (list ++ p ∷ []) ++ unseen (cond b list (list ++ p ∷ [])) d ≡ list ++ cond (not b) (p ∷ unseen list (without p d)) (unseen list (without p d))
    here true h = ap (λ t. list ++ t) (sym (skips_seen p list d h))
    here false h = ap (λ t. (list ++ p ∷ []) ++ t) (unseen_with p list d) ∙ append_assoc list (p ∷ []) (unseen list (without p d))
