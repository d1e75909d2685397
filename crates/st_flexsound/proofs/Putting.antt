-- mappings with one put in
use Rattle.std.proofs.Common.{◌≡◌, List, [], ◌∷◌, Bool, true, false, cond, refl, arith}
use Rattle.std.specs.List.{AllByRecursion}
use Rattle.std.proofs.lemmas.Grind.{common_steps}
use Rattle.st_model.specs.ValidPool.{EachPair}
use Rattle.st_flexlog.specs.declared.delta.DeltaRow.{DeltaRow}
use Rattle.st_flexlog.specs.declared.state.Mapping.{Mapping}
use Rattle.st_flexlog.specs.Applied.{is_of_block, mapping_by, put_mapping, put_rows, stands_before}
use Rattle.st_flexsound.proofs.Lists.{All-weaker}

abbrev Before : Mapping → Mapping → Type 0
Before m n = stands_before m n ≡ true

before_on : (a b c : Mapping) → Before a b → Before b c → Before a c
before_on a b c h g = grind (arith, common_steps)

same_before : (m other c : Mapping) → is_of_block m other ≡ true → Before other c → Before m c
same_before m other c h g = grind (arith, common_steps)

before_same : (a m other : Mapping) → is_of_block m other ≡ true → Before a other → Before a m
before_same a m other h g = grind (arith, common_steps)

else_before : (m other : Mapping) → stands_before other m ≡ false → is_of_block m other ≡ false → Before m other
else_before m other h g = grind (arith, common_steps)

pub All-put : (P : Mapping → Type 0) (m : Mapping) (ms : List Mapping) → P m → AllByRecursion P ms → AllByRecursion P (put_mapping m ms)
All-put P m [] p h = (p, tt)
All-put P m (x ∷ xs) p h = here (stands_before x m) (is_of_block m x) (All-put P m xs p h.1)
  where
    here : (a b : Bool) → AllByRecursion P (put_mapping m xs) → AllByRecursion P (cond a (x ∷ put_mapping m xs) (cond b (m ∷ xs) (m ∷ (x ∷ xs))))
    here true b rest = (h.0, rest)
    here false true rest = (p, h.1)
    here false false rest = (p, h)

pub sorted-put : (m : Mapping) (ms : List Mapping) → EachPair Before ms → EachPair Before (put_mapping m ms)
sorted-put m [] h = (tt, tt)
sorted-put m (x ∷ xs) h = here (stands_before x m) refl (is_of_block m x) refl (sorted-put m xs h.1)
  where
    here : (a : Bool) → stands_before x m ≡ a → (b : Bool) → is_of_block m x ≡ b → EachPair Before (put_mapping m xs) → EachPair Before (cond a (x ∷ put_mapping m xs) (cond b (m ∷ xs) (m ∷ (x ∷ xs))))
    here true e b f rest = (All-put (Before x) m xs e h.0, rest)
    here false e true f rest = (All-weaker (Before x) (Before m) xs (λ y g. same_before m x y f g) h.0, h.1)
    here false e false f rest = ((else_before m x e f, All-weaker (Before x) (Before m) xs (λ y g. before_on m x y (else_before m x e f) g) h.0), h)

pub All-rows : (P : Mapping → Type 0) (rs : List DeltaRow) (ms : List Mapping) → AllByRecursion (λ (r : DeltaRow). P (mapping_by r)) rs → AllByRecursion P ms → AllByRecursion P (put_rows rs ms)
All-rows P [] ms p h = h
All-rows P (r ∷ rs) ms p h = All-rows P rs (put_mapping (mapping_by r) ms) p.1 (All-put P (mapping_by r) ms p.0 h)

pub sorted-rows : (rs : List DeltaRow) (ms : List Mapping) → EachPair Before ms → EachPair Before (put_rows rs ms)
sorted-rows [] ms h = h
sorted-rows (r ∷ rs) ms h = sorted-rows rs (put_mapping (mapping_by r) ms) (sorted-put (mapping_by r) ms h)
