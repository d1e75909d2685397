-- What the kept infos show once a part is back.
use Rattle.std.proofs.Common.{◌≡◌, ◌+◌, Bool, true, false, not, cond, List, [], ◌∷◌, map, Option, refl, ap, sym, ◌∙◌, subst, arith}
use Rattle.std.specs.Prelude.{Some, None, option_map}
use Rattle.std.specs.List.{IsDistinct}
use Rattle.std.specs.Str.{bytes_eq}
use Rattle.std.proofs.lemmas.List.Filters.{sum_by-filter_both}
use Rattle.std.proofs.lemmas.Slice.Eq.{bytes_eq-Decides}
use Rattle.st_wants.specs.declared.want.Want.{Want}
use Rattle.st_model.specs.declared.info.PoolInfo.{PoolInfo}
use Rattle.st_model.specs.declared.state.EngineState.{EngineState}
use Rattle.st_model.specs.declared.state.KnownPool.{KnownPool}
use Rattle.st_model.specs.declared.state.PoolState.{PoolState}
use Rattle.st_model.specs.declared.state.TableState.{TableState}
use Rattle.st_model.specs.Look.{Text, is_started}
use Rattle.st_model.specs.Parts.{known, pool_at, started, table_of}
use Rattle.st_model.specs.Shown.{pool_info, halted_pools}
use Rattle.st_book.specs.Effects.{renewed, all_renewed}
use Rattle.st_wants.specs.Wants.{writes, takes_table}
use Rattle.st_model.specs.Pieces.{AreNamedApart, info_at, ArePools, ShowPools, every}
use Rattle.st_book.proofs.Named.{none_and_some, none_of, other_name, flipped, count_named, none_counted, counted_none, map_counted, map_found, map_names}
use Rattle.st_book.proofs.Pools.{name_of}
use Rattle.st_book.proofs.Returned.{Keeps}

abbrev pub info_name_of : PoolInfo → Text
info_name_of info = info.name

pub info_name : (p : PoolState) → (pool_info p).name ≡ p.name
unfolding pool_info
info_name p = refl

-- the table tells how many started pools have a name
started_counted : (n : Text) (s t : EngineState) → table_of t ≡ table_of s → count_named name_of n (started t) ≡ count_named name_of n (started s)
started_counted n s t same =
    let known_name : KnownPool → Text = λ (k : KnownPool). k.name in
    let count : (z : EngineState) → count_named name_of n (started z) + count_named name_of n (halted_pools z.pools) ≡ count_named name_of n z.pools = λ z.
    sum_by-filter_both (λ (p : PoolState). is_started p.mode) (λ (p : PoolState). not (is_started p.mode)) (λ p. refl) (λ (p : PoolState). cond (bytes_eq p.name n) 1 0) z.pools in
    let names : (z : EngineState) → count_named known_name n (map known z.pools) ≡ count_named name_of n z.pools = λ z. map_counted name_of known_name known (λ p. refl) n z.pools in
    let a = count s in
    let b = count t in
    let c = names s in
    let d = names t in
    let e : count_named known_name n (map known t.pools) ≡ count_named known_name n (map known s.pools) = ap (λ (x : TableState). count_named known_name n x.names) same in
    let f : count_named name_of n (halted_pools t.pools) ≡ count_named name_of n (halted_pools s.pools) = ap (λ (x : TableState). count_named name_of n x.stopped) same in
    omega arith

-- so where the table is the same, a name's pool is started in both states or in none
none_kept : (n : Text) (s t : EngineState) → table_of t ≡ table_of s → pool_at n (started t) ≡ None → pool_at n (started s) ≡ None
none_kept n s t same none =
    let a : count_named name_of n (started t) ≡ 0 = counted_none name_of n (started t) none in
    let b = started_counted n s t same in
    none_counted name_of n (started s) (sym b ∙ a)

was_started : (n : Text) (s t : EngineState) → table_of t ≡ table_of s → (q : PoolState) → pool_at n (started t) ≡ Some q → (p : PoolState) × (pool_at n (started s) ≡ Some p)
was_started n s t same q is = here (pool_at n (started s)) refl
  where
    here : (o : Option PoolState) → pool_at n (started s) ≡ o → (p : PoolState) × (pool_at n (started s) ≡ Some p)
    here (Some p) e = (p, e)
    here None e = absurd (none_and_some (pool_at n (started t)) q (none_kept n t s (sym same) e) is)

pub renewed_names : (info : PoolInfo) (infos : List PoolInfo) → map info_name_of (renewed info infos) ≡ map info_name_of infos
renewed_names info [] = refl
renewed_names info (x ∷ xs) =
    let cases : (b : Bool) → bytes_eq x.name info.name ≡ b → map info_name_of (cond b (info ∷ xs) (x ∷ renewed info xs)) ≡ x.name ∷ map info_name_of xs = elim [
      | true ↦ (λ e. let same : x.name ≡ info.name = (bytes_eq-Decides x.name info.name).0 e in ap (λ a. a ∷ map info_name_of xs) (sym same))
      | false ↦ (λ e. ap (λ (names : List Text). x.name ∷ names) (renewed_names info xs))
    ] in
    cases (bytes_eq x.name info.name) refl

pub renewed_other : (m : Text) (info : PoolInfo) (infos : List PoolInfo) → bytes_eq info.name m ≡ false → info_at m (renewed info infos) ≡ info_at m infos
renewed_other m info [] ne = refl
renewed_other m info (x ∷ xs) ne =
    let cases : (b : Bool) → bytes_eq x.name info.name ≡ b → info_at m (cond b (info ∷ xs) (x ∷ renewed info xs)) ≡ cond (bytes_eq x.name m) (Some x) (info_at m xs) = elim [
      | true ↦ (λ e. let xm : bytes_eq x.name m ≡ false = other_name x.name info.name m e ∙ ne in rw (ne, xm) refl)
      | false ↦ (λ e. ap (λ o. cond (bytes_eq x.name m) (Some x) o) (renewed_other m info xs ne))
    ] in
    cases (bytes_eq x.name info.name) refl

renewed_own : (m : Text) (info y : PoolInfo) (infos : List PoolInfo) → bytes_eq info.name m ≡ true → info_at m infos ≡ Some y → info_at m (renewed info infos) ≡ Some info
renewed_own m info y [] own h = absurd cc
renewed_own m info y (x ∷ xs) own h =
    let flip : bytes_eq x.name info.name ≡ bytes_eq x.name m = flipped x.name info.name ∙ (other_name info.name m x.name own ∙ flipped m x.name) in
    let cases : (b : Bool) → bytes_eq x.name m ≡ b → cond b (Some x) (info_at m xs) ≡ Some y → info_at m (cond b (info ∷ xs) (x ∷ renewed info xs)) ≡ Some info = elim [
      | true ↦ (λ e k. rw own refl)
      | false ↦ (λ e k. rw e (renewed_own m info y xs own k))
    ] in
    rw flip (cases (bytes_eq x.name m) refl h)

abbrev infos_of : List PoolState → List PoolInfo
infos_of = map pool_info

all_renewed_names : (is infos : List PoolInfo) → map info_name_of (all_renewed is infos) ≡ map info_name_of infos
all_renewed_names [] infos = refl
all_renewed_names (i ∷ is) infos = all_renewed_names is (renewed i infos) ∙ renewed_names i infos

-- the info of a name of which no pool came back is the old one
all_renewed_other : (n : Text) (ps : List PoolState) (infos : List PoolInfo) → pool_at n ps ≡ None → info_at n (all_renewed (infos_of ps) infos) ≡ info_at n infos
all_renewed_other n [] infos h = refl
all_renewed_other n (p ∷ ps) infos h = here (bytes_eq p.name n) refl h (all_renewed_other n ps (renewed (pool_info p) infos))
  where
    here : (b : Bool) → bytes_eq p.name n ≡ b → cond b (Some p) (pool_at n ps) ≡ None → (pool_at n ps ≡ None → info_at n (all_renewed (infos_of ps) (renewed (pool_info p) infos)) ≡ info_at n (renewed (pool_info p) infos)) → info_at n (all_renewed (infos_of (p ∷ ps)) infos) ≡ info_at n infos
    here true e k rest = absurd cc
    here false e k rest = rest k ∙ renewed_other n (pool_info p) infos (ap (λ a. bytes_eq a n) (info_name p) ∙ e)

-- that of a pool that came back shows it, where there was one
all_renewed_own : (n : Text) (ps : List PoolState) (infos : List PoolInfo) (q : PoolState) (y : PoolInfo) → AreNamedApart ps → pool_at n ps ≡ Some q → info_at n infos ≡ Some y → info_at n (all_renewed (infos_of ps) infos) ≡ Some (pool_info q)
unfolding IsDistinct
all_renewed_own n [] infos q y apart h k = absurd cc
all_renewed_own n (p ∷ ps) infos q y apart h k = here (bytes_eq p.name n) refl h (all_renewed_own n ps (renewed (pool_info p) infos) q y apart.1)
  where
    here : (b : Bool) → bytes_eq p.name n ≡ b → cond b (Some p) (pool_at n ps) ≡ Some q → (pool_at n ps ≡ Some q → info_at n (renewed (pool_info p) infos) ≡ Some y → info_at n (all_renewed (infos_of ps) (renewed (pool_info p) infos)) ≡ Some (pool_info q)) → info_at n (all_renewed (infos_of (p ∷ ps)) infos) ≡ Some (pool_info q)
    here true e m more =
        let same : p ≡ q = cc in
        let named : bytes_eq (pool_info p).name n ≡ true = ap (λ a. bytes_eq a n) (info_name p) ∙ e in
        let rest : info_at n (all_renewed (infos_of ps) (renewed (pool_info p) infos)) ≡ info_at n (renewed (pool_info p) infos) = all_renewed_other n ps (renewed (pool_info p) infos) (none_of name_of n p ps e apart.0) in
        rest ∙ (renewed_own n (pool_info p) y infos named k ∙ ap (λ (z : PoolState). Some (pool_info z)) same)
    here false e m more =
        let other : info_at n (renewed (pool_info p) infos) ≡ Some y = renewed_other n (pool_info p) infos (ap (λ a. bytes_eq a n) (info_name p) ∙ e) ∙ k in
        more m other

-- the infos after a part without the table came back
pub infos_back : (w : Want) (s t : EngineState) (part : List PoolState) (infos : List PoolInfo) → takes_table w ≡ false → Keeps w s t → ArePools (writes w) t part → ShowPools every s infos → ShowPools every t (all_renewed (infos_of part) infos)
infos_back w s t part infos no_table keeps are h = record {
  apart = subst (λ z. IsDistinct bytes_eq z) (sym (all_renewed_names (infos_of part) infos)) h.apart;
  shown = λ n. here n (writes w n) refl (pool_at n (started t)) refl;
}
  where
    here : (n : Text) (b : Bool) → writes w n ≡ b → (o : Option PoolState) → pool_at n (started t) ≡ o → info_at n (all_renewed (infos_of part) infos) ≡ option_map pool_info (pool_at n (started t))
    here n false e o k =
        let none : pool_at n part ≡ None = are.found n ∙ ap (λ c. cond c (pool_at n (started t)) None) e in
        all_renewed_other n part infos none ∙ (h.shown n ∙ ap (option_map pool_info) (sym (keeps.pools n e)))
    here n true e None k =
        let none : pool_at n part ≡ None = are.found n ∙ (ap (λ c. cond c (pool_at n (started t)) None) e ∙ k) in
        let was : pool_at n (started s) ≡ None = none_kept n s t (keeps.table no_table) k in
        all_renewed_other n part infos none ∙ (h.shown n ∙ (ap (option_map pool_info) was ∙ sym (ap (option_map pool_info) k)))
    here n true e (Some q) k =
        let there : pool_at n part ≡ Some q = are.found n ∙ (ap (λ c. cond c (pool_at n (started t)) None) e ∙ k) in
        let old = was_started n s t (keeps.table no_table) q k in
        all_renewed_own n part infos q (pool_info old.0) are.apart there (h.shown n ∙ ap (option_map pool_info) old.1) ∙ sym (ap (option_map pool_info) k)

-- infos made anew of all cells
pub infos_all : (w : Want) (s : EngineState) (part : List PoolState) → ((n : Text) → writes w n ≡ true) → ArePools (writes w) s part → ShowPools every s (infos_of part)
infos_all w s part all are = record {
  apart = subst (λ z. IsDistinct bytes_eq z) (sym (map_names name_of info_name_of pool_info info_name part)) are.apart;
  shown = λ n. map_found name_of info_name_of pool_info info_name n part ∙ ap (option_map pool_info) (are.found n ∙ ap (λ c. cond c (pool_at n (started s)) None) (all n));
}
