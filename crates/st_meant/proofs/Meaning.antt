-- The pool that a start means, as the table tells it.
use Rattle.std.proofs.Common.{◌≡◌, ◌⊎◌, inl, inr, ℕ, ◌≤◌, ◌+◌, ◌*◌, ◌/◌, ◌%◌, ◌^◌, ◌&&◌, ◌||◌, Bool, true, false, cond, nat_le, List, [], ◌∷◌, Option, Some, None, Result, Ok, Err, IfOk, is_some, refl, sym, ap, subst, ◌∙◌, arith}
use Rattle.std.specs.Prelude.{find, option_map, option_and_then, ◌==◌}
use Rattle.std.specs.List.{AllByRecursion}
use Rattle.std.proofs.lemmas.Bool.Decides.{Decides-eqb}
use Rattle.std.proofs.lemmas.Grind.{common_steps}
use Rattle.std.proofs.lemmas.Nat.{div-add-mod', div-mul-add, mod-mul-add}
use Rattle.std.proofs.lemmas.Slice.Eq.{bytes_eq-Decides}
use Rattle.st_units.specs.declared.memory.NoMemory.{NoMemory}
use Rattle.st_units.specs.declared.rows.DevRow.{DevRow}
use Rattle.st_limits.specs.declared.TheConstants.{MAX_POOL_SERIAL}
use Rattle.st_model.specs.declared.call.PoolId.{PoolId}
use Rattle.st_model.specs.declared.call.PoolId.TheVariants.{ByName, ByUuid}
use Rattle.st_model.specs.declared.state.EngineState.{EngineState}
use Rattle.st_model.specs.declared.state.PoolMode.{PoolMode}
use Rattle.st_model.specs.declared.state.PoolMode.TheVariants.{Up, Down, Stopped, Unsettled, Incomplete}
use Rattle.st_model.specs.declared.state.PoolState.{PoolState}
use Rattle.st_model.specs.Look.{Text, is_called, is_started}
use Rattle.st_model.specs.Step.{can_start}
use Rattle.st_model.specs.Parts.{pool_at}
use Rattle.st_model.specs.Valid.{IsValid}
use Rattle.st_model.specs.ValidPool.{IsValidPool}
use Rattle.st_model.specs.steps.StartPool.{is_meant, pool_meant}
use Rattle.st_model.proofs.Among.{IsBeside, IsIn, all_placed, holds_own, same_number, self}
use Rattle.st_model.proofs.Flights.{found-holds}
use Rattle.st_model.proofs.Lists.{All-weaker}
use Rattle.st_order.proofs.Lists.{any_found, find_same}
use Rattle.st_table.specs.Stands.{info_in}
use Rattle.st_table.specs.Steps.{PoolsTold, SerialsTold, StandsFor, kept}
use Rattle.st_table.specs.Table.{TablePool, TableView, halted_at, is_named, named}
use Rattle.st_meant.specs.declared.meant.Meant.{Meant}
use Rattle.st_meant.specs.Meant.{IsMeant, by_info, name_meant, serial_in}

-- ---- serials in UUIDs

abbrev pub its_uuid : ℕ → ℕ
its_uuid serial = serial * 2 ^ 64 + 2 ^ 56

same_number_of : (n m : ℕ) → (n == m) ≡ true → n ≡ m
same_number_of n m e = (Decides-eqb n m).0 e

uuids_apart : (n m : ℕ) → its_uuid n ≡ its_uuid m → n ≡ m
uuids_apart n m e = omega (arith, e)

-- a UUID that is a pool's is that of just this serial
uuid_is : (uuid q n : ℕ) → serial_in uuid ≡ Some q → (uuid == its_uuid n) ≡ (n == q)
uuid_is uuid q n e = by_kind (uuid % 2 ^ 64 == 2 ^ 56) refl (nat_le 1 (uuid / 2 ^ 64)) (nat_le (uuid / 2 ^ 64) MAX_POOL_SERIAL) e
  where
    here : uuid % 2 ^ 64 ≡ 2 ^ 56 → uuid / 2 ^ 64 ≡ q → (uuid == its_uuid n) ≡ (n == q)
    here kind is =
        let split = div-add-mod' uuid (2 ^ 64) in
        let whole : uuid ≡ its_uuid q = omega (arith, split, kind, is) in
        ap (λ (k : ℕ). k == its_uuid n) whole ∙ either (its_uuid q == its_uuid n) refl (n == q) refl
      where
        either : (a : Bool) → (its_uuid q == its_uuid n) ≡ a → (b : Bool) → (n == q) ≡ b → a ≡ b
        either true h true k = refl
        either false h false k = refl
        either true h false k = let same : n ≡ q = sym (uuids_apart q n (same_number_of (its_uuid q) (its_uuid n) h)) in let on : (n == q) ≡ true = (Decides-eqb n q).1 same in absurd cc
        either false h true k = let same : its_uuid q ≡ its_uuid n = ap its_uuid (sym (same_number_of n q k)) in let on : (its_uuid q == its_uuid n) ≡ true = (Decides-eqb (its_uuid q) (its_uuid n)).1 same in absurd cc

    by_kind : (b : Bool) → (uuid % 2 ^ 64 == 2 ^ 56) ≡ b → (c d : Bool) → cond (b && c && d) (Some (uuid / 2 ^ 64)) None ≡ Some q → (uuid == its_uuid n) ≡ (n == q)
    by_kind true k true true h = here (same_number_of (uuid % 2 ^ 64) (2 ^ 56) k) (let one : uuid / 2 ^ 64 ≡ q = cc in one)
    by_kind true k true false h = absurd cc
    by_kind true k false d h = absurd cc
    by_kind false k c d h = absurd cc

-- a pool's own UUID has its serial
own_serial : (n : ℕ) → 1 ≤ n → n ≤ MAX_POOL_SERIAL → serial_in (its_uuid n) ≡ Some n
own_serial n low high =
    let upper : its_uuid n / 2 ^ 64 ≡ n = div-mul-add n (2 ^ 64) (2 ^ 56) (omega arith) in
    let lower : its_uuid n % 2 ^ 64 ≡ 2 ^ 56 = mod-mul-add n (2 ^ 64) (2 ^ 56) (omega arith) in
    let kind : (its_uuid n % 2 ^ 64 == 2 ^ 56) ≡ true = (Decides-eqb (its_uuid n % 2 ^ 64) (2 ^ 56)).1 lower in
    let first : nat_le 1 n ≡ true = grind (arith, common_steps) in
    let last : nat_le n MAX_POOL_SERIAL ≡ true = grind (arith, common_steps) in
    ap (λ (b : Bool). cond (b && nat_le 1 (its_uuid n / 2 ^ 64) && nat_le (its_uuid n / 2 ^ 64) MAX_POOL_SERIAL) (Some (its_uuid n / 2 ^ 64)) None) kind
    ∙ (ap (λ (k : ℕ). cond (true && nat_le 1 k && nat_le k MAX_POOL_SERIAL) (Some k) None) upper
    ∙ (ap (λ (b : Bool). cond (true && b && nat_le n MAX_POOL_SERIAL) (Some n) None) first ∙ ap (λ (b : Bool). cond b (Some n) None) last))

-- of these pools none has a UUID that is no pool's
none_of : (uuid next : ℕ) (ps : List PoolState) → next ≤ MAX_POOL_SERIAL + 1 → serial_in uuid ≡ None → AllByRecursion (IsValidPool next) ps → find (is_meant (ByUuid uuid)) ps ≡ None
none_of uuid next [] bound none all = refl
none_of uuid next (p ∷ ps) bound none all = by (uuid == its_uuid p.serial) refl (none_of uuid next ps bound none all.1)
  where
    by : (b : Bool) → (uuid == its_uuid p.serial) ≡ b → find (is_meant (ByUuid uuid)) ps ≡ None → cond b (Some p) (find (is_meant (ByUuid uuid)) ps) ≡ None
    by true k rest =
        let below = all.0.serial in
        let own : serial_in uuid ≡ Some p.serial = ap serial_in (same_number_of uuid (its_uuid p.serial) k) ∙ own_serial p.serial all.0.from_one (omega (arith, below, bound)) in
        absurd cc
    by false k rest = rest

-- ---- the name of the pool that is meant

passes : (q : PoolState → Bool) (ps : List PoolState) (p : PoolState) → find q ps ≡ Some p → q p ≡ true
passes q [] p e = absurd cc
passes q (x ∷ ps) p e = by (q x) refl e (passes q ps p)
  where
    by : (b : Bool) → q x ≡ b → cond b (Some x) (find q ps) ≡ Some p → (find q ps ≡ Some p → q p ≡ true) → q p ≡ true
    by true h k rest = let same : x ≡ p = cc in subst (λ (y : PoolState). q y ≡ true) same h
    by false h k rest = rest k

abbrev pub name_in : PoolState → Text
name_in p = p.name

module _ (told : PoolsTold) (serials : SerialsTold) (view : TableView) (s : EngineState) (valid : IsValid s) (stands : StandsFor view s) where
  by_name : (name : Text) → name_meant (ByName name) view.pools ≡ option_map name_in (pool_meant (ByName name) s)
  by_name name =
      ap (λ (b : Bool). cond b (Some name) None) (sym (any_found (is_named name) view.pools) ∙ ap is_some (told view s name valid stands))
      ∙ found (pool_at name s.pools) (λ p e. (bytes_eq-Decides p.name name).0 (passes (is_called name) s.pools p e))
    where
      found : (o : Option PoolState) → ((p : PoolState) → o ≡ Some p → p.name ≡ name) → cond (is_some (option_map kept o)) (Some name) None ≡ option_map name_in o
      found None is = refl
      found (Some p) is = ap (λ (n : Text). Some n) (sym (is p refl))

  by_uuid : (uuid : ℕ) → name_meant (ByUuid uuid) view.pools ≡ option_map name_in (pool_meant (ByUuid uuid) s)
  by_uuid uuid = by (serial_in uuid) refl
    where
      by : (o : Option ℕ) → serial_in uuid ≡ o → option_and_then (λ serial. named serial view.pools) o ≡ option_map name_in (pool_meant (ByUuid uuid) s)
      by None e = ap (option_map name_in) (sym (none_of uuid s.next s.pools valid.bounded e valid.pools))
      by (Some q) e =
          serials view s q valid stands
          ∙ ap (option_map name_in) (find_same (λ (p : PoolState). p.serial == q) (is_meant (ByUuid uuid)) (λ p. sym (uuid_is uuid q p.serial e)) s.pools)

  pub named_alike : (id : PoolId) → name_meant id view.pools ≡ option_map name_in (pool_meant id s)
  named_alike (ByName name) = by_name name
  named_alike (ByUuid uuid) = by_uuid uuid

  none_named : (o : Option PoolState) → None ≡ option_map name_in o → o ≡ None
  none_named None e = refl
  none_named (Some p) e = absurd cc

  some_named : (o : Option PoolState) (name : Text) → Some name ≡ option_map name_in o → (p : PoolState) × (o ≡ Some p) × (p.name ≡ name)
  some_named None name e = absurd cc
  some_named (Some p) name e = (p, refl, (let same : name ≡ p.name = cc in sym same))

  -- no pool is meant
  pub unknown : (id : PoolId) → name_meant id view.pools ≡ None → pool_meant id s ≡ None
  unknown id e = none_named (pool_meant id s) (sym e ∙ named_alike id)

-- ---- it is the pool of its name

or_false : (a b : Bool) → (a || b) ≡ false → a ≡ false
or_false true b e = absurd cc
or_false false b e = refl

at_own : (rows : List DevRow) (p : PoolState) (ps : List PoolState) → AllByRecursion (IsBeside rows p) ps → IsIn p ps → pool_at p.name ps ≡ Some p
at_own rows p [] h i = absurd i
at_own rows p (q ∷ ps) h i = here h.0 i (at_own rows p ps h.1)
  where
    here : IsBeside rows p q → (q ≡ p) ⊎ IsIn p ps → (IsIn p ps → pool_at p.name ps ≡ Some p) → pool_at p.name (q ∷ ps) ≡ Some p
    here (inl e) i rest = ap (λ (b : Bool). cond b (Some q) (pool_at p.name ps)) (subst (λ (x : PoolState). is_called p.name x ≡ true) (sym e) (self p.name)) ∙ ap (λ (x : PoolState). Some x) e
    here (inr o) (inl e) rest = absurd (let on : (q.serial == p.serial) ≡ true = ap (λ (x : PoolState). x.serial == p.serial) e ∙ same_number p.serial in let off = o.serial in cc)
    here (inr o) (inr i) rest = ap (λ (b : Bool). cond b (Some q) (pool_at p.name ps)) (or_false (is_called p.name q) _ (o.names p.name (holds_own p))) ∙ rest i

-- a pool of a valid state is found by its name
pub found_here : (s : EngineState) (q : PoolState → Bool) (p : PoolState) → IsValid s → find q s.pools ≡ Some p → pool_at p.name s.pools ≡ Some p
found_here s q p valid e =
    found-holds (λ (x : PoolState). pool_at x.name s.pools ≡ Some x) q s.pools p
    (All-weaker _ _ s.pools (λ x placed. at_own s.devices x s.pools placed.beside placed.among) (all_placed s.devices s.pools valid.apart)) e

pub meant_here : (s : EngineState) (id : PoolId) (p : PoolState) → IsValid s → pool_meant id s ≡ Some p → pool_at p.name s.pools ≡ Some p
meant_here s id p valid e = found_here s (is_meant id) p valid e

-- ---- how it stands

module _ (told : PoolsTold) (serials : SerialsTold) (view : TableView) (s : EngineState) (id : PoolId) (valid : IsValid s) (stands : StandsFor view s) where
  info_at : (p : PoolState) → pool_at p.name s.pools ≡ Some p → halted_at p.name view.pools ≡ info_in p p.mode
  info_at p here = ap (option_and_then (λ (x : TablePool). x.halted)) (told view s p.name valid stands ∙ ap (option_map kept) here)

  -- a pool that is meant stands so, by what is kept of it
  pub stands_so : (name : Text) (m : Meant) → name_meant id view.pools ≡ Some name → m ≡ by_info name (halted_at name view.pools) → IsMeant s id m
  stands_so name m e is =
      let one = some_named told serials view s valid stands (pool_meant id s) name (sym e ∙ named_alike told serials view s valid stands id) in
      let p = one.0 in
      let here = meant_here s id p valid one.1 in
      subst (IsMeant s id) (sym (is ∙ ap (λ (n : Text). by_info n (halted_at n view.pools)) (sym one.2) ∙ ap (by_info p.name) (info_at p here))) (by p one.1 p.mode refl)
    where
      by : (p : PoolState) → pool_meant id s ≡ Some p → (mode : PoolMode) → p.mode ≡ mode → IsMeant s id (by_info p.name (info_in p mode))
      by p at Up mode = (p, at, refl, ap is_started mode)
      by p at (Down call) mode = (p, at, refl, ap is_started mode)
      by p at Stopped mode = (p, at, refl, ap can_start mode)
      by p at (Unsettled call) mode = (p, at, refl, ap can_start mode)
      by p at (Incomplete path) mode = (p, at, mode)

-- as the function has it
pub stands_if : PoolsTold → SerialsTold → (view : TableView) (id : PoolId) (r : Result Meant NoMemory) (name : Text) → name_meant id view.pools ≡ Some name → IfOk r (λ m. m ≡ by_info name (halted_at name view.pools))
    → IfOk r (λ m. (s : EngineState) → IsValid s → StandsFor view s → IsMeant s id m)
stands_if told serials view id (Ok m) name e h = λ s valid stands. stands_so told serials view s id valid stands name m e h
stands_if told serials view id (Err n) name e h = tt
