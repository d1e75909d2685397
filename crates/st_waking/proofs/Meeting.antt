-- What a start meets before any device call.
use denote.Bor.{Bor}
use Rattle.std.proofs.Common.{◌≡◌, ℕ, Bool, true, false, cond, not, is_some, is_none, List, Option, Some, None, refl, sym, ap, subst, ◌∙◌}
use Rattle.std.specs.Prelude.{get_or, option_map, slice_get, option_copied}
use Rattle.std.proofs.lemmas.Option.{get_or_from_slice_get, slice_get-map}
use Rattle.st_units.specs.declared.cause.Cause.TheVariants.{MissingDevice, NoSuchPool}
use Rattle.st_model.specs.declared.call.Call.{Call}
use Rattle.st_model.specs.declared.call.Call.TheVariants.{StartPool}
use Rattle.st_model.specs.declared.call.PoolId.{PoolId}
use Rattle.st_model.specs.declared.entry.Env.TheVariants.{Plain}
use Rattle.st_model.specs.declared.state.EngineState.{EngineState}
use Rattle.st_model.specs.declared.state.PoolMode.{PoolMode}
use Rattle.st_model.specs.declared.state.PoolMode.TheVariants.{Up, Down, Stopped, Unsettled, Incomplete}
use Rattle.st_model.specs.declared.state.PoolState.{PoolState}
use Rattle.st_model.specs.Answer.{refused}
use Rattle.st_model.specs.Look.{Text, is_started, is_up}
use Rattle.st_model.specs.Parts.{pool_at}
use Rattle.st_model.specs.Pieces.{ArePools, every}
use Rattle.st_model.specs.Step.{outcome}
use Rattle.st_model.specs.Valid.{IsValid}
use Rattle.st_model.specs.steps.StartPool.{pool_meant, start_found, start_in, start_pool}
use Rattle.st_cells.specs.Cells.{EachOwn}
use Rattle.st_cells.proofs.Lookups.{keep, own_is}
use Rattle.st_pool.specs.Answered.{answered}
use Rattle.st_pool.specs.View.{PoolView, mode_with}
use Rattle.st_board.specs.View.{pools_of}
use Rattle.st_meant.proofs.Meaning.{meant_here}
use Rattle.st_waking.specs.Met.{HasMet, started_answer}
use Rattle.st_waking.specs.declared.met.Met.TheVariants.{Answered}

-- a started pool is up where no call is in flight
pub up_so : (o : Option Call) → is_up (mode_with o) ≡ is_none o
up_so None = refl
up_so (Some call) = refl

module _ {D : Type 0} (s : EngineState) (cells : List (PoolView D)) (valid : IsValid s) (pools : ArePools every s (pools_of cells)) where
  -- the started pool of a name is the state's
  pub its_own : EachOwn → (i : ℕ) (c : PoolView D) (p : PoolState) → slice_get cells i ≡ Some c → pool_at c.pool.name s.pools ≡ Some p → c.pool ≡ p
  its_own each i c p at here =
      let own_one = (each s (pools_of cells) i c.pool valid pools (slice_get-map (λ (x : PoolView D). x.pool) cells i ∙ ap (λ (o : Option (PoolView D)). option_map (λ (x : PoolView D). x.pool) o) at)).1 in
      let both : Some c.pool ≡ Some p = sym own_one ∙ here in
      cc

  -- it is up where no call is in flight
  pub its_up : EachOwn → (i : ℕ) (c d : PoolView D) (flight : Option (Bor Call)) (b : Bool) (name : Text) → slice_get cells i ≡ Some c → c.pool.name ≡ name → d ≡ get_or cells i d → d.pool.mode ≡ mode_with (option_copied flight) → is_some flight ≡ not b
      → (p : PoolState) → pool_at name s.pools ≡ Some p → is_started p.mode ≡ true → b ≡ is_up p.mode
  its_up each i c d flight b name at named is mode told p here up = by flight mode told ∙ ap (λ (x : PoolState). is_up x.mode) same
    where
      same : d.pool ≡ p
      same = ap (λ (x : PoolView D). x.pool) (is ∙ get_or_from_slice_get cells i c d at) ∙ its_own each i c p at (subst (λ (n : Text). pool_at n s.pools ≡ Some p) (sym named) here)

      by : (o : Option (Bor Call)) → d.pool.mode ≡ mode_with (option_copied o) → is_some o ≡ not b → b ≡ is_up d.pool.mode
      by None m k = turned b k ∙ sym (ap is_up m)
        where
          turned : (b : Bool) → false ≡ not b → b ≡ true
          turned true k = refl
          turned false k = absurd cc
      by (Some call) m k = turned b k ∙ sym (ap is_up m)
        where
          turned : (b : Bool) → true ≡ not b → b ≡ false
          turned true k = absurd cc
          turned false k = refl

  -- a started pool is among them
  pub not_none : (name : Text) (p : PoolState) → pool_at name s.pools ≡ Some p → is_started p.mode ≡ true → pool_at name (pools_of cells) ≡ None → ⊥
  not_none name p here up none =
      let found : pool_at name (pools_of cells) ≡ Some p = pools.found name ∙ (own_is s.devices name s.pools valid.apart ∙ (ap keep here ∙ ap (λ (b : Bool). cond b (Some p) None) up)) in
      let t : None ≡ Some p = sym none ∙ found in
      cc

-- ---- as the model answers

module _ (s : EngineState) (id : PoolId) where
  unknown_is : pool_meant id s ≡ None → outcome s (StartPool id) Plain ≡ Some (refused NoSuchPool, s)
  unfolding start_pool
  unknown_is none = ap (start_found s) none

  module _ (p : PoolState) (meant : pool_meant id s ≡ Some p) where
    lacking_is : (path : Text) → p.mode ≡ Incomplete path → outcome s (StartPool id) Plain ≡ Some (refused (MissingDevice path), s)
    unfolding start_pool
    lacking_is path is = ap (start_found s) meant ∙ ap (start_in s p) is

    started_is : is_started p.mode ≡ true → outcome s (StartPool id) Plain ≡ Some (started_answer (is_up p.mode) p.name, s)
    unfolding start_pool
    started_is up = ap (start_found s) meant ∙ by p.mode up
      where
        by : (m : PoolMode) → is_started m ≡ true → start_in s p m ≡ Some (started_answer (is_up m) p.name, s)
        by Up k = refl
        by (Down call) k = refl
        by Stopped k = absurd cc
        by (Unsettled call) k = absurd cc
        by (Incomplete path) k = absurd cc

  pub met_unknown : (a : _) → pool_meant id s ≡ None → a ≡ answered Plain (refused NoSuchPool) → HasMet s id (Answered a)
  met_unknown a none is = (refused NoSuchPool, is, unknown_is none)

  pub met_lacking : (a : _) (path : Text) → (p : PoolState) × (pool_meant id s ≡ Some p) × (p.mode ≡ Incomplete path) → a ≡ answered Plain (refused (MissingDevice path)) → HasMet s id (Answered a)
  met_lacking a path one is = (refused (MissingDevice path), is, lacking_is one.0 one.1 path one.2)

  pub met_started : (a : _) (name : Text) → IsValid s → (p : PoolState) × (pool_meant id s ≡ Some p) × (p.name ≡ name) × (is_started p.mode ≡ true)
      → ((p : PoolState) → pool_at name s.pools ≡ Some p → is_started p.mode ≡ true → a ≡ answered Plain (started_answer (is_up p.mode) name)) → HasMet s id (Answered a)
  met_started a name valid one is =
      let p = one.0 in
      let here : pool_at name s.pools ≡ Some p = subst (λ (n : Text). pool_at n s.pools ≡ Some p) one.2 (meant_here s id p valid one.1) in
      (started_answer (is_up p.mode) name, is p here one.3, started_is p one.1 one.3 ∙ ap (λ (n : Text). Some (started_answer (is_up p.mode) n, s)) one.2)
