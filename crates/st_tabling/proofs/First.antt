-- The first pools of a state.
use Rattle.std.proofs.Common.{◌≡◌, ℕ, zero, suc, ◌<◌, ◌+◌, List, [], ◌∷◌, ◌++◌, take, length, map, Option, Some, refl, sym, ap, subst, ◌∙◌, arith}
use Rattle.std.specs.List.{AllByRecursion, slice_get}
use Rattle.st_model.specs.declared.state.EngineState.{EngineState}
use Rattle.st_model.specs.declared.state.PoolState.{PoolState}
use Rattle.st_model.specs.Parts.{table_of}
use Rattle.st_model.specs.Valid.{Apart, IsValid}
use Rattle.st_model.specs.ValidPool.{EachPair, IsValidPool}
use Rattle.st_judge.specs.declared.rows.FoundRow.{FoundRow}
use Rattle.st_assemble.specs.Found.{row_of}
use Rattle.st_parting.proofs.Newest.{none_some, some_same}
use Rattle.st_parting.proofs.Rows.{mapped_at}
use Rattle.st_units.specs.declared.rows.DevRow.{DevRow}
use Rattle.st_table.specs.Stands.{Stands}
use Rattle.st_table.specs.Table.{TableView}
use Rattle.st_tabling.specs.Telling.{IsIdle, MayPlace, TellsOf, with_last}

abbrev pub first : ℕ → EngineState → EngineState
first i e = record e { pools = take i e.pools }

all_take : (P : PoolState → Type 0) (n : ℕ) (ps : List PoolState) → AllByRecursion P ps → AllByRecursion P (take n ps)
all_take P zero ps h = tt
all_take P (suc n) [] h = tt
all_take P (suc n) (p ∷ ps) h = (h.0, all_take P n ps h.1)

pairs_take : (R : PoolState → PoolState → Type 0) (n : ℕ) (ps : List PoolState) → EachPair R ps → EachPair R (take n ps)
pairs_take R zero ps h = tt
pairs_take R (suc n) [] h = tt
pairs_take R (suc n) (p ∷ ps) h = (all_take (R p) n ps h.0, pairs_take R n ps h.1)

all_get : (P : PoolState → Type 0) (ps : List PoolState) (k : ℕ) (q : PoolState) → AllByRecursion P ps → slice_get ps k ≡ Some q → P q
all_get P [] k q h at = absurd (none_some q at)
all_get P (p ∷ ps) zero q h at = subst P (some_same p q at) h.0
all_get P (p ∷ ps) (suc k) q h at = all_get P ps k q h.1 at

pub take_more : (ps : List PoolState) (i : ℕ) (q : PoolState) → slice_get ps i ≡ Some q → take (suc i) ps ≡ take i ps ++ q ∷ []
take_more [] i q at = absurd (none_some q at)
take_more (p ∷ ps) zero q at = ap (λ (x : PoolState). x ∷ []) (some_same p q at)
take_more (p ∷ ps) (suc i) q at = ap (λ (l : List PoolState). p ∷ l) (take_more ps i q at)

take_all : (ps : List PoolState) (n : ℕ) → n ≡ length ps → take n ps ≡ ps
take_all [] zero e = refl
take_all [] (suc n) e = refl
take_all (p ∷ ps) zero e = absurd (omega (arith, e))
take_all (p ∷ ps) (suc n) e = ap (λ (l : List PoolState). p ∷ l) (take_all ps n (omega (arith, e)))

length_rows : (ps : List PoolState) → length (map row_of ps) ≡ length ps
length_rows [] = refl
length_rows (p ∷ ps) = let rest = length_rows ps in omega (arith, rest)

one_more : (i : ℕ) → suc i ≡ i + 1
one_more i = omega arith

module _ (e : EngineState) (rows : List DevRow) (pools : List FoundRow) (next : ℕ) (tells : TellsOf e rows pools next) where
  pub stands_none : (view : TableView) → view.pools ≡ [] → view.devices ≡ rows → view.next ≡ next → Stands view (table_of (first 0 e))
  stands_none view none devices is = record { pools = none; devices = devices ∙ tells.devices; next = is ∙ tells.next_is }

  pub pool_of_row : (i : ℕ) (row : FoundRow) → slice_get pools i ≡ Some row → (q : PoolState) × (slice_get e.pools i ≡ Some q) × (row_of q ≡ row)
  pool_of_row i row at = mapped_at row_of e.pools i row (ap (λ (l : List FoundRow). slice_get l i) (sym tells.known) ∙ at)

  pub may_place : (i : ℕ) (row : FoundRow) (view : TableView) (q : PoolState) → slice_get e.pools i ≡ Some q → row_of q ≡ row → Stands view (table_of (first i e)) → MayPlace (first i e) q row view
  may_place i row view q at is stands = record {
    all = subst (EachPair (Apart e.devices)) (take_more e.pools i q at) (pairs_take (Apart e.devices) (suc i) e.pools tells.valid.apart);
    serial = (all_get (IsValidPool e.next) e.pools i q tells.valid.pools at).serial;
    told = sym is;
    idle = all_get (λ (p : PoolState). IsIdle p.mode) e.pools i q tells.idle at;
    stands = stands;
  }

  pub stands_more : (i : ℕ) (view : TableView) (q : PoolState) → slice_get e.pools i ≡ Some q → Stands view (table_of (with_last (first i e) q)) → Stands view (table_of (first (i + 1) e))
  stands_more i view q at = subst (λ (l : List PoolState). Stands view (table_of (record e { pools = l }))) (sym (take_more e.pools i q at) ∙ ap (λ (k : ℕ). take k e.pools) (one_more i))

  pub stands_all : (n : ℕ) (view : TableView) → n ≡ length pools → Stands view (table_of (first n e)) → Stands view (table_of e)
  stands_all n view size = subst (λ (l : List PoolState). Stands view (table_of (record e { pools = l }))) (take_all e.pools n (size ∙ ap length tells.known ∙ length_rows e.pools))
