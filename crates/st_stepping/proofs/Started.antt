-- a start, as the program runs it
use Rattle.std.proofs.Common.{◌≡◌, ℕ, ◌<◌, ◌==◌, List, true, cond, map, Some, None, unwrap_or, slice_get, slice_set, refl, sym, ap, ◌∙◌, arith}
use Rattle.std.proofs.lemmas.Grind.{common_steps}
use Rattle.st_units.specs.declared.cause.Cause.TheVariants.{NoSuchPool, OutOfMemory}
use Rattle.st_units.specs.declared.rows.DevRow.{DevRow}
use Rattle.st_model.specs.declared.call.PoolId.{PoolId}
use Rattle.st_model.specs.declared.reply.Reply.{Reply}
use Rattle.st_model.specs.declared.state.EngineState.{EngineState}
use Rattle.st_model.specs.declared.state.PoolMode.{PoolMode}
use Rattle.st_model.specs.declared.state.PoolMode.TheVariants.{Up, Down, Stopped, Unsettled, Incomplete}
use Rattle.st_model.specs.declared.state.PoolState.{PoolState}
use Rattle.st_model.specs.Answer.{refused}
use Rattle.st_model.specs.Checks.{cooled}
use Rattle.st_model.specs.Local.{Outcome}
use Rattle.st_model.specs.Valid.{Apart, IsValid}
use Rattle.st_model.specs.steps.StartPool.{pool_meant, start_found, start_in, start_pool, started_reply}
use Rattle.st_stepping.specs.inner.Starting.{start_answer}
use Rattle.st_within.proofs.Singly.{put_at}

one_serial : (rows : List DevRow) (serial : ℕ) (a b : PoolState) → Apart rows a b → (a.serial == serial) ≡ true → (b.serial == serial) ≡ true → ⊥
one_serial rows serial a b h x y = differ a.serial b.serial serial h.serials x y
  where
    differ : (m n k : ℕ) → m < n → (m == k) ≡ true → (n == k) ≡ true → ⊥
    differ m n k h x y = grind (arith, common_steps)

itself : (n : ℕ) → (n == n) ≡ true
itself n = grind (arith, common_steps)

module _ (s : EngineState) (id : PoolId) where
  abbrev answered : Outcome → Reply × EngineState
  answered o = unwrap_or o (refused OutOfMemory, s)

  pub start_unknown : pool_meant id s ≡ None → (refused NoSuchPool, s) ≡ answered (start_pool id s)
  unfolding start_pool
  start_unknown at = sym (ap (λ o. answered (start_found s o)) at)

  told : (said reply : Reply) → Some said ≡ Some reply → ◌≡◌ {A = Reply × EngineState} (reply, s) (said, s)
  told said reply h = (let same : reply ≡ said = cc in ap (λ (r : Reply). (r, s)) same)

  module _ (p : PoolState) (at : pool_meant id s ≡ Some p) where
    pub start_answered : (reply : Reply) → start_answer p p.mode ≡ Some reply → (reply, s) ≡ answered (start_pool id s)
    unfolding start_pool
    start_answered reply h = here p.mode h ∙ sym (ap (λ o. answered (start_found s o)) at)
      where
        here : (m : PoolMode) → start_answer p m ≡ Some reply → (reply, s) ≡ answered (start_in s p m)
        here Up h = told _ reply h
        here (Down call) h = told _ reply h
        here Stopped h = absurd cc
        here (Unsettled call) h = told _ reply h
        here (Incomplete path) h = told _ reply h

    pub start_so : IsValid s → (i : ℕ) → slice_get s.pools i ≡ Some p → start_answer p p.mode ≡ None
        → (started_reply p, record s { pools = slice_set s.pools i (cooled Up p) }) ≡ answered (start_pool id s)
    unfolding start_pool
    start_so v i got h =
        ap (λ (l : List PoolState). (started_reply p, record s { pools = l }))
        (sym (put_at (Apart s.devices) (λ (q : PoolState). q.serial == p.serial) (one_serial s.devices p.serial) (λ q. cooled Up p) s.pools i p v.apart got (itself p.serial)))
        ∙ here p.mode h ∙ sym (ap (λ o. answered (start_found s o)) at)
      where
        here : (m : PoolMode) → start_answer p m ≡ None → (started_reply p, record s { pools = map (λ (q : PoolState). cond (q.serial == p.serial) (cooled Up p) q) s.pools }) ≡ answered (start_in s p m)
        here Up h = absurd cc
        here (Down call) h = absurd cc
        here Stopped h = refl
        here (Unsettled call) h = absurd cc
        here (Incomplete path) h = absurd cc
