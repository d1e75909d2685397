-- calls on one pool as a whole, as the program runs them
use Rattle.std.proofs.Common.{◌≡◌, ◌<◌, ◌≤◌, ◌^◌, ◌==◌, ◌||◌, ℕ, List, Bool, true, false, cond, map, Some, None, slice_get, slice_set, remove, refl, sym, ap, ◌∙◌, arith}
use Rattle.std.proofs.lemmas.Grind.{common_steps}
use Rattle.st_units.specs.declared.cause.Cause.TheVariants.{NoSuchPool}
use Rattle.st_units.specs.declared.rows.DevRow.{DevRow}
use Rattle.st_model.specs.declared.reply.Given.TheVariants.{Changed}
use Rattle.st_model.specs.declared.reply.Identity.TheVariants.{Pool}
use Rattle.st_model.specs.declared.reply.Reply.{Reply}
use Rattle.st_model.specs.declared.state.EngineState.{EngineState}
use Rattle.st_model.specs.declared.state.PoolMode.{PoolMode}
use Rattle.st_model.specs.declared.state.PoolMode.TheVariants.{Up, Down, Stopped, Unsettled, Incomplete}
use Rattle.st_model.specs.declared.state.PoolState.{PoolState}
use Rattle.st_model.specs.Answer.{accepted, first_answer, refused, unless_answered}
use Rattle.st_model.specs.Checks.{halted, not_up}
use Rattle.st_model.specs.Flight.{all_but}
use Rattle.st_model.specs.Look.{Text, is_called, is_started, is_up}
use Rattle.st_model.specs.Parts.{pool_at}
use Rattle.st_model.specs.Valid.{Apart, IsValid}
use Rattle.st_model.specs.steps.DestroyPool.{destroy_answers, destroy_found, destroy_pool}
use Rattle.st_model.specs.steps.RenamePool.{rename_answers, rename_found, rename_pool, renamed}
use Rattle.st_model.specs.steps.StopPool.{stop_found, stop_pool}
use Rattle.st_model.specs.Lifted.{changed}
use Rattle.st_model.proofs.Answers0.{none_answers}
use Rattle.st_model.proofs.Lists.{found_passes}
use Rattle.st_within.proofs.OnPool.{up_changed, whole_now}
use Rattle.st_within.proofs.Singly.{drop_at, put_at}

up_now : (p : PoolState) (m : PoolMode) → not_up p m ≡ None → is_up m ≡ true
up_now p Up h = refl
up_now p (Down call) h = absurd cc
up_now p Stopped h = absurd cc
up_now p (Unsettled call) h = absurd cc
up_now p (Incomplete path) h = absurd cc

or_left : (a b : Bool) → a ≡ true → (a || b) ≡ true
or_left true b h = refl
or_left false b h = absurd cc

-- no two pools have one serial, or one name
one_serial : (rows : List DevRow) (serial : ℕ) (a b : PoolState) → Apart rows a b → (a.serial == serial) ≡ true → (b.serial == serial) ≡ true → ⊥
one_serial rows serial a b h x y = differ a.serial b.serial serial h.serials x y
  where
    differ : (m n k : ℕ) → m < n → (m == k) ≡ true → (n == k) ≡ true → ⊥
    differ m n k h x y = grind (arith, common_steps)

one_name : (rows : List DevRow) (name : Text) (a b : PoolState) → Apart rows a b → is_called name a ≡ true → is_called name b ≡ true → ⊥
one_name rows name a b h x y = h.names name (or_left (is_called name a) _ x) (or_left (is_called name b) _ y)

itself : (n : ℕ) → (n == n) ≡ true
itself n = grind (arith, common_steps)

abbrev pub done : PoolState → Reply
done p = accepted (Changed true (Some (Pool p.serial)))

module _ (s : EngineState) (name : Text) where
  pub rename_unknown : (new : Text) → pool_at name s.pools ≡ None → (refused NoSuchPool, s) ≡ rename_pool name new s
  unfolding rename_pool
  rename_unknown new at = sym (ap (rename_found s name new) at)

  pub destroy_unknown : pool_at name s.pools ≡ None → (accepted (Changed false None), s) ≡ destroy_pool name s
  unfolding destroy_pool
  destroy_unknown at = sym (ap (destroy_found s) at)

  pub stop_unknown : pool_at name s.pools ≡ None → (refused NoSuchPool, s) ≡ stop_pool name s
  unfolding stop_pool
  stop_unknown at = sym (ap (stop_found s name) at)

  module _ (p : PoolState) (at : pool_at name s.pools ≡ Some p) where
    pub rename_answered : (new : Text) (reply : Reply) → first_answer (rename_answers s name new p) ≡ Some reply → (reply, s) ≡ rename_pool name new s
    unfolding rename_pool
    rename_answered new reply h =
        sym (ap (λ o. unless_answered o s (done p, changed name (renamed new) s)) h) ∙ sym (ap (rename_found s name new) at)

    pub destroy_answered : (reply : Reply) → first_answer (destroy_answers p) ≡ Some reply → (reply, s) ≡ destroy_pool name s
    unfolding destroy_pool
    destroy_answered reply h =
        sym (ap (λ o. unless_answered o s (done p, record s { pools = all_but p.serial s.pools })) h) ∙ sym (ap (destroy_found s) at)

    pub stop_idle : is_started p.mode ≡ false → (accepted (Changed false None), s) ≡ stop_pool name s
    unfolding stop_pool
    stop_idle h = (rw h refl) ∙ sym (ap (stop_found s name) at)

    module _ (v : IsValid s) (i : ℕ) (here : slice_get s.pools i ≡ Some p) where
      no_refusal : (new : Text) → first_answer (rename_answers s name new p) ≡ None → not_up p p.mode ≡ None
      no_refusal new h = (none_answers (rename_answers s name new p) h).1.1.0

      -- a pool that is renamed has made no more commits than a pool may
      pub rename_room : (new : Text) → first_answer (rename_answers s name new p) ≡ None → p.commits ≤ 2 ^ 48
      rename_room new h = (whole_now s name p v at (no_refusal new h)).commits

      pub rename_so : (new : Text) → first_answer (rename_answers s name new p) ≡ None
          → (done p, record s { pools = slice_set s.pools i (renamed new p) }) ≡ rename_pool name new s
      unfolding rename_pool
      rename_so new h =
          ap (λ (t : EngineState). (done p, t)) (up_changed s name p v at (renamed new) i here (up_now p p.mode (no_refusal new h)))
          ∙ sym (ap (λ o. unless_answered o s (done p, changed name (renamed new) s)) h) ∙ sym (ap (rename_found s name new) at)

      pub destroy_so : first_answer (destroy_answers p) ≡ None → (done p, record s { pools = remove s.pools i }) ≡ destroy_pool name s
      unfolding destroy_pool
      destroy_so h =
          ap (λ (l : List PoolState). (done p, record s { pools = l }))
          (sym (drop_at (Apart s.devices) (λ (q : PoolState). q.serial == p.serial) (one_serial s.devices p.serial) s.pools i p v.apart here (itself p.serial)))
          ∙ sym (ap (λ o. unless_answered o s (done p, record s { pools = all_but p.serial s.pools })) h) ∙ sym (ap (destroy_found s) at)

      pub stop_so : is_started p.mode ≡ true → (done p, record s { pools = slice_set s.pools i (halted p) }) ≡ stop_pool name s
      unfolding stop_pool
      stop_so h =
          ap (λ (l : List PoolState). (done p, record s { pools = l }))
          (sym (put_at (Apart s.devices) (is_called name) (one_name s.devices name) halted s.pools i p v.apart here (found_passes (is_called name) s.pools p at)))
          ∙ started ∙ sym (ap (stop_found s name) at)
        where
          started : (done p, record s { pools = map (λ q. cond (is_called name q) (halted q) q) s.pools }) ≡ stop_found s name (Some p)
          started = rw h refl
