-- SetFsLimit keeps validity, also where its write fails
use Rattle.std.proofs.Common.{◌≡◌, ℕ, ◌+◌, ◌≤◌, ◌==◌, ◌&&◌, Bool, true, false, cond, Some, None, nat_lt, refl, arith}
use Rattle.std.proofs.lemmas.Grind.{common_steps}
use Rattle.st_units.specs.declared.cause.Cause.TheVariants.{BadSize, LimitLower, Worn}
use Rattle.st_model.specs.declared.call.Call.TheVariants.{SetFsLimit}
use Rattle.st_model.specs.declared.reply.Given.TheVariants.{Done}
use Rattle.st_model.specs.declared.state.EngineState.{EngineState}
use Rattle.st_model.specs.declared.state.PoolState.{PoolState}
use Rattle.st_model.specs.Answer.{accepted, first_answer}
use Rattle.st_model.specs.Look.{Text}
use Rattle.st_model.specs.ValidPool.{IsWhole}
use Rattle.st_model.specs.Valid.{IsValid}
use Rattle.st_model.specs.Checks.{down}
use Rattle.st_model.specs.Lifted.{on_pool, changed}
use Rattle.st_model.specs.Step.{changes, is_changed}
use Rattle.st_model.specs.Plain.{plain}
use Rattle.st_model.specs.steps.SetFsLimit.{set_fs_limit, limit_answers}
use Rattle.st_model.proofs.Among.{up}
use Rattle.st_model.proofs.Answers0.{none_answers, so_not, not_worn, whole_unless, IsNoChange, changed-unanswered, no_change_where}
use Rattle.st_model.proofs.Kept.{doing-valid, failed-valid}
use Rattle.st_model.proofs.LocalCalls.{limit-within}
use Rattle.st_model.proofs.Whole.{same_parts, whole-commit}

small_limit : (n : ℕ) → nat_lt 256 n ≡ false → n ≤ 256
small_limit n h = grind (arith, common_steps)

pub limit-whole : (limit : ℕ) (p : PoolState) → IsWhole p → IsWhole (set_fs_limit limit p).1
unfolding set_fs_limit
limit-whole limit p h =
    let q : PoolState = record p { filesystem_limit = limit; commits = p.commits + 1 } in
    whole_unless (first_answer (limit_answers limit p)) p (accepted (Done true), q) h (λ none.
    let all = none_answers (limit_answers limit p) none in
    whole-commit p q (same_parts p q refl refl refl refl refl refl) refl (not_worn p all.1.1.1.0 h.commits) (small_limit limit (so_not (nat_lt 256 limit) (BadSize p.name) all.0)) refl h)

pub limit-valid : (s : EngineState) (pool : Text) (limit : ℕ) → IsValid s → IsValid (on_pool pool (set_fs_limit limit) s).1
limit-valid s pool limit v = doing-valid s pool (set_fs_limit limit) (limit-within limit) (limit-whole limit) v

same_no_change : (b : Bool) → IsNoChange (cond b (Some (accepted (Done false))) None)
same_no_change true = refl
same_no_change false = tt

-- where it changed something it is accepted of the pool alone, also once its cache is cold
limit-again : (limit : ℕ) (p q : PoolState) → first_answer (limit_answers limit q) ≡ first_answer (limit_answers limit p) → ((set_fs_limit limit p).0.code == 0) && changes (set_fs_limit limit p).0.result ≡ true → (set_fs_limit limit q).0.code ≡ 0
unfolding set_fs_limit
limit-again limit p q same h =
    let none : first_answer (limit_answers limit p) ≡ None = changed-unanswered (limit_answers limit p) p _ (no_change_where _ (BadSize p.name), (same_no_change _, (no_change_where _ LimitLower, (no_change_where _ Worn, tt)))) h in
    rw (same, none) refl

pub limit_failed-valid : (s : EngineState) (pool : Text) (limit : ℕ) → is_changed (plain s (SetFsLimit pool limit)) ≡ true → IsValid s → IsValid (changed pool (down (SetFsLimit pool limit)) s)
limit_failed-valid s pool limit h v =
    failed-valid s pool (SetFsLimit pool limit) (set_fs_limit limit) refl refl refl (λ p halted. halted) (λ n e. e) (λ rows p. refl)
    (λ p good. limit-again limit p (up (down (SetFsLimit pool limit) p)) refl good) h v
