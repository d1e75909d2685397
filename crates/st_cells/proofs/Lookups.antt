-- pools by their names in lists of pools
use Rattle.std.proofs.Common.{◌≡◌, ℕ, ◌<◌, List, [], ◌∷◌, Bool, true, false, cond, not, bytes_eq, map, Option, Some, None, inl, inr, ◌⊎◌, refl, sym, ap, subst, ◌∙◌, arith}
use Rattle.std.specs.Prelude.{◌==◌}
use Rattle.std.specs.List.{AllByRecursion}
use Rattle.std.proofs.lemmas.Grind.{common_steps}
use Rattle.std.proofs.lemmas.Slice.Eq.{bytes_eq-Decides}
use Rattle.st_units.specs.declared.rows.DevRow.{DevRow}
use Rattle.st_model.specs.declared.state.PoolState.{PoolState}
use Rattle.st_model.specs.Flight.{all_but}
use Rattle.st_model.specs.Look.{Text, holds, is_called, is_started}
use Rattle.st_model.specs.Parts.{pool_at}
use Rattle.st_model.specs.Shown.{started_pools}
use Rattle.st_model.specs.Valid.{Apart}
use Rattle.st_model.specs.ValidPool.{EachPair}
use Rattle.st_model.proofs.OnTable.{apart_holds, none_called}
use Rattle.st_cells.specs.Cells.{others}

pub eq_of : (a b : Text) → bytes_eq a b ≡ true → a ≡ b
eq_of a b h = (bytes_eq-Decides a b).0 h

pub eq_self : (a : Text) → bytes_eq a a ≡ true
eq_self a = (bytes_eq-Decides a a).1 refl

pub unequal : (a b : Text) → (a ≡ b → ⊥) → bytes_eq a b ≡ false
unequal a b ne = here (bytes_eq a b) refl
  where
    here : (t : Bool) → bytes_eq a b ≡ t → t ≡ false
    here true e = absurd (ne (eq_of a b e))
    here false e = refl

pub differ : (a b : Text) → bytes_eq a b ≡ false → a ≡ b → ⊥
differ a b h e = absurd (let t : bytes_eq a b ≡ true = (bytes_eq-Decides a b).1 e in cc)

holds_called : (n : Text) (x : PoolState) → is_called n x ≡ true → holds n x ≡ true
holds_called n x e = rw e refl

-- the pool, where it is started
abbrev pub keep : Option PoolState → Option PoolState
keep None = None
keep (Some p) = cond (is_started p.mode) (Some p) None

-- the started pool of a name is the pool of that name, where it is started
pub own_is : (rows : List DevRow) (n : Text) (ps : List PoolState) → EachPair (Apart rows) ps → pool_at n (started_pools ps) ≡ keep (pool_at n ps)
own_is rows n [] h = refl
own_is rows n (x ∷ xs) h = here (is_called n x) refl (is_started x.mode) refl (own_is rows n xs h.1)
  where
    here : (c : Bool) → is_called n x ≡ c → (t : Bool) → is_started x.mode ≡ t → pool_at n (started_pools xs) ≡ keep (pool_at n xs)
        → pool_at n (cond t (x ∷ started_pools xs) (started_pools xs)) ≡ keep (cond c (Some x) (pool_at n xs))
    here true e true k rest = ap (λ (b : Bool). cond b (Some x) (pool_at n (started_pools xs))) e ∙ ap (λ (b : Bool). cond b (Some x) None) (sym k)
    here true e false k rest = none_called n xs (apart_holds rows n x xs (holds_called n x e) h.0) ∙ ap (λ (b : Bool). cond b (Some x) None) (sym k)
    here false e true k rest = ap (λ (b : Bool). cond b (Some x) (pool_at n (started_pools xs))) e ∙ rest
    here false e false k rest = rest

-- ---- one taken out

abbrev none_at : Option PoolState
none_at = None

no_one : (b : Bool) → none_at ≡ cond b none_at none_at
no_one true = refl
no_one false = refl

pub drop_at : (name n : Text) (xs : List PoolState) → pool_at n (others name xs) ≡ cond (bytes_eq name n) None (pool_at n xs)
drop_at name n [] = no_one (bytes_eq name n)
drop_at name n (x ∷ xs) = here (is_called name x) refl (is_called n x) refl (bytes_eq name n) refl (drop_at name n xs)
  where
    here : (a : Bool) → is_called name x ≡ a → (c : Bool) → is_called n x ≡ c → (b : Bool) → bytes_eq name n ≡ b → pool_at n (others name xs) ≡ cond (bytes_eq name n) None (pool_at n xs)
        → pool_at n (cond (not a) (x ∷ others name xs) (others name xs)) ≡ cond b None (cond c (Some x) (pool_at n xs))
    here true e c k true f rest = rest ∙ ap (λ (t : Bool). cond t None (pool_at n xs)) f
    here true e true k false f rest = absurd (differ name n f (sym (eq_of x.name name e) ∙ eq_of x.name n k))
    here true e false k false f rest = rest ∙ ap (λ (t : Bool). cond t None (pool_at n xs)) f
    here false e true k true f rest = absurd (differ x.name name e (eq_of x.name n k ∙ sym (eq_of name n f)))
    here false e true k false f rest = ap (λ (t : Bool). cond t (Some x) (pool_at n (others name xs))) k
    here false e false k true f rest = ap (λ (t : Bool). cond t (Some x) (pool_at n (others name xs))) k ∙ rest ∙ ap (λ (t : Bool). cond t None (pool_at n xs)) f
    here false e false k false f rest = ap (λ (t : Bool). cond t (Some x) (pool_at n (others name xs))) k ∙ rest ∙ ap (λ (t : Bool). cond t None (pool_at n xs)) f

pub none_out : (name : Text) (xs : List PoolState) → pool_at name xs ≡ None → others name xs ≡ xs
none_out name [] h = refl
none_out name (x ∷ xs) h = here (is_called name x) h (none_out name xs)
  where
    here : (b : Bool) → cond b (Some x) (pool_at name xs) ≡ None → (pool_at name xs ≡ None → others name xs ≡ xs) → cond (not b) (x ∷ others name xs) (others name xs) ≡ x ∷ xs
    here true k rest = absurd cc
    here false k rest = ap (λ (t : List PoolState). x ∷ t) (rest k)

-- ---- one in the place of another

abbrev pub instead : Text → PoolState → PoolState → PoolState
instead name q x = cond (is_called name x) q x

abbrev pub after_put : Text → PoolState → Text → Option PoolState → Option PoolState
after_put name q n o = cond (bytes_eq q.name n) (Some q) (cond (bytes_eq name n) None o)

none_behind : (rows : List DevRow) (n : Text) (x : PoolState) (xs : List PoolState) → is_called n x ≡ true → AllByRecursion (Apart rows x) xs → pool_at n xs ≡ None
none_behind rows n x [] e h = refl
none_behind rows n x (y ∷ ys) e h = here (is_called n y) refl (none_behind rows n x ys e h.1)
  where
    here : (b : Bool) → is_called n y ≡ b → pool_at n ys ≡ None → cond b (Some y) (pool_at n ys) ≡ None
    here true k rest = absurd (h.0.names n (holds_called n x e) (holds_called n y k))
    here false k rest = rest

none_changed : (name : Text) (q : PoolState) (xs : List PoolState) → pool_at name xs ≡ None → map (instead name q) xs ≡ xs
none_changed name q [] h = refl
none_changed name q (x ∷ xs) h = here (is_called name x) refl h (none_changed name q xs)
  where
    here : (b : Bool) → is_called name x ≡ b → cond b (Some x) (pool_at name xs) ≡ None → (pool_at name xs ≡ None → map (instead name q) xs ≡ xs) → map (instead name q) (x ∷ xs) ≡ x ∷ xs
    here true e k rest = absurd cc
    here false e k rest = ap (λ (t : Bool). cond t q x ∷ map (instead name q) xs) e ∙ ap (λ (t : List PoolState). x ∷ t) (rest k)

pub put_at : (rows : List DevRow) (name n : Text) (q p : PoolState) (xs : List PoolState) → EachPair (Apart rows) xs → pool_at name xs ≡ Some p → (q.name ≡ name) ⊎ (pool_at q.name xs ≡ None)
    → pool_at n (map (instead name q) xs) ≡ after_put name q n (pool_at n xs)
put_at rows name n q p [] h found free = absurd cc
put_at rows name n q p (x ∷ xs) h found free = here (is_called name x) refl (is_called n x) refl (bytes_eq q.name n) refl (bytes_eq name n) refl found (put_at rows name n q p xs h.1)
  where
    tail_free : (q.name ≡ name) ⊎ (pool_at q.name (x ∷ xs) ≡ None) → (q.name ≡ name) ⊎ (pool_at q.name xs ≡ None)
    tail_free (inl e) = inl e
    tail_free (inr none) = inr (skip (is_called q.name x) none)
      where
        skip : (b : Bool) → cond b (Some x) (pool_at q.name xs) ≡ None → pool_at q.name xs ≡ None
        skip true k = absurd cc
        skip false k = k

    not_new : (q.name ≡ name) ⊎ (pool_at q.name (x ∷ xs) ≡ None) → is_called name x ≡ false → is_called n x ≡ true → bytes_eq q.name n ≡ true → ⊥
    not_new (inl e) other called f = differ x.name name other (eq_of x.name n called ∙ sym (eq_of q.name n f) ∙ e)
    not_new (inr none) other called f = taken (is_called q.name x) (subst (λ (m : Text). is_called m x ≡ true) (sym (eq_of q.name n f)) called) none
      where
        taken : (b : Bool) → b ≡ true → cond b (Some x) (pool_at q.name xs) ≡ None → ⊥
        taken true e k = absurd cc
        taken false e k = absurd cc

    here : (a : Bool) → is_called name x ≡ a → (c : Bool) → is_called n x ≡ c → (b : Bool) → bytes_eq q.name n ≡ b → (d : Bool) → bytes_eq name n ≡ d → cond a (Some x) (pool_at name xs) ≡ Some p
        → (pool_at name xs ≡ Some p → (q.name ≡ name) ⊎ (pool_at q.name xs ≡ None) → pool_at n (map (instead name q) xs) ≡ after_put name q n (pool_at n xs))
        → pool_at n (cond a q x ∷ map (instead name q) xs) ≡ cond b (Some q) (cond d None (cond c (Some x) (pool_at n xs)))
    here true e c k true f d g there rest = ap (λ (t : Bool). cond t (Some q) (pool_at n (map (instead name q) xs))) f
    here true e c k false f true g there rest =
        ap (λ (t : Bool). cond t (Some q) (pool_at n (map (instead name q) xs))) f
        ∙ ap (pool_at n) (none_changed name q xs (none_behind rows name x xs e h.0))
        ∙ subst (λ (m : Text). pool_at m xs ≡ None) (eq_of name n g) (none_behind rows name x xs e h.0)
    here true e true k false f false g there rest = absurd (differ name n g (sym (eq_of x.name name e) ∙ eq_of x.name n k))
    here true e false k false f false g there rest =
        ap (λ (t : Bool). cond t (Some q) (pool_at n (map (instead name q) xs))) f
        ∙ ap (pool_at n) (none_changed name q xs (none_behind rows name x xs e h.0))
    here false e true k true f d g there rest = absurd (not_new free e k f)
    here false e true k false f true g there rest = absurd (differ x.name name e (eq_of x.name n k ∙ sym (eq_of name n g)))
    here false e true k false f false g there rest = ap (λ (t : Bool). cond t (Some x) (pool_at n (map (instead name q) xs))) k
    here false e false k b f d g there rest =
        ap (λ (t : Bool). cond t (Some x) (pool_at n (map (instead name q) xs))) k
        ∙ rest there (tail_free free)
        ∙ ap (λ (t : Bool). cond t (Some q) (cond (bytes_eq name n) None (pool_at n xs))) f
        ∙ ap (λ (t : Bool). cond b (Some q) (cond t None (pool_at n xs))) g

-- ---- by serial

serials_differ : (a b : ℕ) → a < b → (a == b) ≡ false
serials_differ a b less = grind (arith, common_steps)

serials_differ_back : (a b : ℕ) → a < b → (b == a) ≡ false
serials_differ_back a b less = grind (arith, common_steps)

serial_self : (a : ℕ) → (a == a) ≡ true
serial_self a = grind (arith, common_steps)

-- of these pools just the one of the name has the serial
abbrev SoNamed : Text → ℕ → PoolState → Type 0
SoNamed name serial x = (x.serial == serial) ≡ is_called name x

not_called : (n : Text) (x y : PoolState) (rows : List DevRow) → is_called n x ≡ true → Apart rows x y → is_called n y ≡ false
not_called n x y rows e apart = here (is_called n y) refl
  where
    here : (b : Bool) → is_called n y ≡ b → b ≡ false
    here true k = absurd (apart.names n (holds_called n x e) (holds_called n y k))
    here false k = refl

behind : (rows : List DevRow) (name : Text) (x : PoolState) (xs : List PoolState) → is_called name x ≡ true → AllByRecursion (Apart rows x) xs → AllByRecursion (SoNamed name x.serial) xs
behind rows name x [] e h = tt
behind rows name x (y ∷ ys) e h = (serials_differ_back x.serial y.serial h.0.serials ∙ sym (not_called name x y rows e h.0), behind rows name x ys e h.1)

at_found : (R : PoolState → Type 0) (name : Text) (p : PoolState) (xs : List PoolState) → AllByRecursion R xs → pool_at name xs ≡ Some p → R p
at_found R name p [] h found = absurd cc
at_found R name p (x ∷ xs) h found = here (is_called name x) found (at_found R name p xs h.1)
  where
    here : (b : Bool) → cond b (Some x) (pool_at name xs) ≡ Some p → (pool_at name xs ≡ Some p → R p) → R p
    here true k rest = let same : x ≡ p = cc in subst R same h.0
    here false k rest = rest k

each_so : (rows : List DevRow) (name : Text) (p : PoolState) (xs : List PoolState) → EachPair (Apart rows) xs → pool_at name xs ≡ Some p → AllByRecursion (SoNamed name p.serial) xs
each_so rows name p [] h found = tt
each_so rows name p (x ∷ xs) h found = here (is_called name x) refl found (each_so rows name p xs h.1)
  where
    here : (b : Bool) → is_called name x ≡ b → cond b (Some x) (pool_at name xs) ≡ Some p → (pool_at name xs ≡ Some p → AllByRecursion (SoNamed name p.serial) xs) → AllByRecursion (SoNamed name p.serial) (x ∷ xs)
    here true e k rest =
        let same : x ≡ p = cc in
        subst (λ (y : PoolState). AllByRecursion (SoNamed name y.serial) (x ∷ xs)) same (serial_self x.serial ∙ sym e, behind rows name x xs e h.0)
    here false e k rest = (serials_differ x.serial p.serial (at_found (Apart rows x) name p xs h.0 k).serials ∙ sym e, rest k)

pub same_but : (name : Text) (serial : ℕ) (xs : List PoolState) → AllByRecursion (SoNamed name serial) xs → all_but serial xs ≡ others name xs
same_but name serial [] h = refl
same_but name serial (x ∷ xs) h = ap (λ (b : Bool). cond (not b) (x ∷ all_but serial xs) (all_but serial xs)) h.0 ∙ ap (λ (t : List PoolState). cond (not (is_called name x)) (x ∷ t) t) (same_but name serial xs h.1)

pub but_others : (rows : List DevRow) (p : PoolState) (xs : List PoolState) → EachPair (Apart rows) xs → pool_at p.name xs ≡ Some p → all_but p.serial xs ≡ others p.name xs
but_others rows p xs h found = same_but p.name p.serial xs (each_so rows p.name p xs h found)
