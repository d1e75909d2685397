-- the bytes of a block that has no cell
use Rattle.std.proofs.Common.{◌≡◌, ℕ, zero, suc, ◌-◌, nat_eq, List, [], ◌++◌, take, replicate, Some, None, Result, Ok, Err, IfOk, unwrap_or, refl, sym, ap, ◌∙◌, arith}
use Rattle.std.specs.Map.{lookup}
use Rattle.st_limits.specs.declared.TheConstants.{BLOCK_BYTES}
use Rattle.st_model.specs.declared.state.FsState.{FsState}
use Rattle.st_model.specs.declared.state.PoolState.{PoolState}
use Rattle.st_model.specs.Content.{block_bytes, bytes_at, cell_at}

abbrev no_bytes : List ℕ
no_bytes = []

take_none : (n : ℕ) → take n no_bytes ≡ no_bytes
take_none zero = refl
take_none (suc n) = refl

-- an empty list is made as long as this
pub all_alike : (bytes start : List ℕ) (n len x : ℕ) → start ≡ [] → len ≡ 0 → bytes ≡ take n start ++ replicate (n - len) x → bytes ≡ replicate n x
all_alike bytes start n len x empty none is =
    let same : n - len ≡ n = omega (arith, none) in
    is
    ∙ ap (λ (l : List ℕ). take n l ++ replicate (n - len) x) empty
    ∙ ap (λ (l : List ℕ). l ++ replicate (n - len) x) (take_none n)
    ∙ ap (λ (k : ℕ). replicate k x) same

module _ (p : PoolState) (fs : FsState) (block : ℕ) where
  pub unmapped : cell_at block fs.map ≡ None → replicate BLOCK_BYTES 0 ≡ block_bytes p fs block
  unmapped none = sym (ap (bytes_at p.cells) none)

  pub lost : (cell : ℕ) → cell_at block fs.map ≡ Some cell → lookup (nat_eq cell) p.cells ≡ None → replicate BLOCK_BYTES 0 ≡ block_bytes p fs block
  lost cell at none = sym (ap (bytes_at p.cells) at ∙ ap (λ o. unwrap_or o (replicate BLOCK_BYTES 0)) none)

-- what is told of a result, told anew
pub if_ok : {X E : Type 0} (r : Result X E) (P Q : X → Type 0) → IfOk r P → ((x : X) → P x → Q x) → IfOk r Q
if_ok (Ok x) P Q h f = f x h
if_ok (Err e) P Q h f = tt
