-- Check keeps its pool whole
use Rattle.std.proofs.Common.{◌≡◌, ℕ, ◌+◌, ◌-◌, ◌≤◌, ◌==◌, ◌&&◌, List, length, Bool, true, false, cond, Some, None, nat_lt, min, refl, ◌∙◌, arith}
use Rattle.std.proofs.Math.Nat.{min-le_right}
use Rattle.st_units.specs.declared.cause.Cause.TheVariants.{Worn}
use Rattle.st_limits.specs.Growth.{extension}
use Rattle.st_model.specs.declared.reply.Given.TheVariants.{Checked}
use Rattle.st_model.specs.declared.state.FsState.{FsState}
use Rattle.st_model.specs.declared.state.PoolState.{PoolState}
use Rattle.st_model.specs.Answer.{accepted, first_answer}
use Rattle.st_model.specs.Step.{changes}
use Rattle.st_model.specs.ValidPool.{IsWhole}
use Rattle.st_model.proofs.Answers0.{IsNoChange, changed-unanswered, no_change_where, none_answers, not_worn, whole_unless}
use Rattle.st_model.proofs.Lists.{All-weaker}
use Rattle.st_model.proofs.Totals.{total-is}
use Rattle.st_model.proofs.Whole.{cache_alike}
use Rattle.st_model.specs.steps.Check.{blocks_added, check_answers, check_pool, new_sizes, resized}
use Rattle.st_model.proofs.Resized.{all_grown-fit, cells_stay, maps_stay, resized-length, resized-pairs, resized-valid}

extension-fits : (allocated used room : ℕ) → allocated ≤ room → allocated + extension allocated used room ≤ room
extension-fits allocated used room h = here (nat_lt (allocated - used) 16)
  where
    here : (b : Bool) → allocated + cond b (min 64 (room - allocated)) 0 ≤ room
    here true = let less = min-le_right 64 (room - allocated) in omega (arith, less, h)
    here false = omega (arith, h)

pub check-whole : (p : PoolState) → IsWhole p → IsWhole (check_pool p).1
unfolding check_pool
check-whole p h =
    let sizes = new_sizes p in
    let q : PoolState = record p { allocated = p.allocated + blocks_added p; filesystems = resized p.filesystems sizes; commits = p.commits + 1 } in
    whole_unless (first_answer (check_answers p)) p (_, q) h (λ none.
    let all = none_answers (check_answers p) none in
    let less = not_worn p all.1.0 h.commits in
    let was = total-is (λ (x : FsState). length x.map) p.filesystems in
    let is = total-is (λ (x : FsState). length x.map) (resized p.filesystems sizes) in
    let same = maps_stay p.filesystems sizes in
    let maps = h.mappings in
    let used = h.used in
    let cells = h.cell_bounded in
    let serials = h.filesystem_bounded in
    record {
      devices = h.devices;
      ordered = resized-pairs p.filesystems sizes h.ordered;
      filesystems = resized-valid p q sizes refl refl refl refl p.filesystems sizes (all_grown-fit p _ p.overprovisioning 0 p.filesystems h.filesystems) h.filesystems;
      count = rw (resized-length p.filesystems sizes) h.count;
      mappings = omega (arith, was, is, same, maps);
      cell_map = h.cell_map;
      cells = All-weaker _ _ p.cells (λ (e : ℕ × List ℕ) c. record { mapped = cells_stay e.0 p.filesystems sizes ∙ c.mapped; full = c.full }) h.cells;
      used = omega (arith, used);
      allocated = extension-fits p.allocated _ _ h.allocated;
      cell_from_one = h.cell_from_one;
      cell_bounded = omega (arith, cells);
      filesystem_from_one = h.filesystem_from_one;
      filesystem_bounded = omega (arith, serials);
      commits = omega (arith, less);
      limit = h.limit;
      cache = cache_alike p q refl refl p.cache h.cache;
    })

no_change_settled : (b : Bool) → IsNoChange (cond b (Some (accepted (Checked false 0 0))) None)
no_change_settled true = refl
no_change_settled false = tt

pub check-again : (p q : PoolState) → first_answer (check_answers q) ≡ first_answer (check_answers p) → (((check_pool p).0.code == 0) && changes (check_pool p).0.result) ≡ true → (check_pool q).0.code ≡ 0
unfolding check_pool
check-again p q same h =
    let none : first_answer (check_answers p) ≡ None = changed-unanswered (check_answers p) p _ (no_change_settled _, (no_change_where _ Worn, tt)) h in
    rw (same, none) refl
