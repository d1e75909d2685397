-- what a write answers and leaves, as the program runs it
use Rattle.std.proofs.Common.{◌≡◌, ℕ, List, Option, Some, None, slice_get, sym, ap, ◌∙◌}
use Rattle.st_units.specs.declared.cause.Cause.TheVariants.{NoSuchFilesystem}
use Rattle.st_model.specs.declared.call.Payload.{Payload}
use Rattle.st_model.specs.declared.reply.Given.TheVariants.{Written}
use Rattle.st_model.specs.declared.reply.Reply.{Reply}
use Rattle.st_model.specs.declared.state.FsState.{FsState}
use Rattle.st_model.specs.declared.state.PoolState.{PoolState}
use Rattle.st_model.specs.Answer.{accepted, first_answer, refused, unless_answered}
use Rattle.st_model.specs.Checks.{fs_at, in_fs}
use Rattle.st_model.specs.Content.{stretches}
use Rattle.st_model.specs.InPlace.{sectors_in}
use Rattle.st_model.specs.Look.{Text}
use Rattle.st_model.specs.steps.FsWrite.{bytes_in, cells_needed, fs_write, puts, write_answers, write_fs, written}
use Rattle.st_writing.specs.declared.plan.Plan.{Plan}
use Rattle.st_writing.specs.inner.Plans.{plan_of, planned_answers}
use Rattle.st_writing.proofs.Wanting.{same_answers}

module _ (name : Text) (sector : ℕ) (payload : Payload) (p : PoolState) where
  pub unknown : fs_at name p.filesystems ≡ None → (refused NoSuchFilesystem, p) ≡ fs_write name sector payload p
  unfolding fs_write
  unknown at = sym (ap (in_fs (write_fs sector payload) p) at)

  module _ (i : ℕ) (fs : FsState) (at : fs_at name p.filesystems ≡ slice_get p.filesystems i) (h : slice_get p.filesystems i ≡ Some fs) where
    abbrev n : ℕ
    n = sectors_in payload

    abbrev pub wrote : Reply × PoolState
    wrote = (accepted (Written n), written fs (puts p fs p.next_cell (bytes_in payload) (stretches sector n)) (cells_needed fs sector n p) p)

    tried : (o : Option Reply) → first_answer (planned_answers (plan_of p fs sector n) fs sector n p) ≡ o → first_answer (write_answers fs sector n p) ≡ o
    tried o is = ap first_answer (sym (same_answers p fs sector n)) ∙ is

    pub answered : (said : Reply) → first_answer (planned_answers (plan_of p fs sector n) fs sector n p) ≡ Some said → (said, p) ≡ fs_write name sector payload p
    unfolding fs_write
    answered said is = sym (ap (in_fs (write_fs sector payload) p) (at ∙ h) ∙ ap (λ o. unless_answered o p wrote) (tried (Some said) is))

    pub written_so : first_answer (planned_answers (plan_of p fs sector n) fs sector n p) ≡ None → wrote ≡ fs_write name sector payload p
    unfolding fs_write
    written_so none = sym (ap (in_fs (write_fs sector payload) p) (at ∙ h) ∙ ap (λ o. unless_answered o p wrote) (tried None none))

    -- so it is of a plan that was made, for the sectors that were counted
    pub answered_at : (count : ℕ) (plan : Plan) (said : Reply) → count ≡ n → plan ≡ plan_of p fs sector count → first_answer (planned_answers plan fs sector count p) ≡ Some said
        → (said, p) ≡ fs_write name sector payload p
    answered_at count plan said counted made is =
        answered said
        (ap (λ (k : ℕ). first_answer (planned_answers (plan_of p fs sector k) fs sector k p)) (sym counted) ∙ (ap (λ (x : Plan). first_answer (planned_answers x fs sector count p)) (sym made) ∙ is))

    pub written_at : (count : ℕ) (plan : Plan) (r : Reply) (q : PoolState) → count ≡ n → plan ≡ plan_of p fs sector count → first_answer (planned_answers plan fs sector count p) ≡ None
        → r ≡ accepted (Written count) → q ≡ written fs (puts p fs p.next_cell (bytes_in payload) plan.stretches) plan.needed p → (r, q) ≡ fs_write name sector payload p
    written_at count plan r q counted made is said after =
        let none = ap (λ (k : ℕ). first_answer (planned_answers (plan_of p fs sector k) fs sector k p)) (sym counted) ∙ (ap (λ (x : Plan). first_answer (planned_answers x fs sector count p)) (sym made) ∙ is) in
        ap (λ (x : Reply). (x, q)) (said ∙ ap (λ (k : ℕ). accepted (Written k)) counted)
        ∙ ap (λ (y : PoolState). (accepted (Written n), y)) (after ∙ ap (λ (x : Plan). written fs (puts p fs p.next_cell (bytes_in payload) x.stretches) x.needed p) (made ∙ ap (λ (k : ℕ). plan_of p fs sector k) counted))
        ∙ written_so none
