-- a rename whose write failed keeps validity
use Rattle.std.proofs.Common.{◌≡◌, ◌||◌, ◌⊎◌, inl, inr, List, [], ◌∷◌, Bool, true, false, cond, Option, Some, None, is_some, bytes_eq, refl, sym, ap, ◌∙◌, subst}
use Rattle.st_units.specs.declared.rows.DevRow.{DevRow}
use Rattle.st_units.specs.declared.cause.Cause.TheVariants.{NameInUse, Worn}
use Rattle.st_model.specs.declared.call.Call.TheVariants.{RenamePool}
use Rattle.st_model.specs.declared.reply.Given.TheVariants.{Changed}
use Rattle.st_model.specs.declared.reply.Reply.{Reply}
use Rattle.st_model.specs.declared.state.EngineState.{EngineState}
use Rattle.st_model.specs.declared.state.PoolMode.{PoolMode}
use Rattle.st_model.specs.declared.state.PoolMode.TheVariants.{Up, Down, Stopped, Unsettled, Incomplete}
use Rattle.st_model.specs.declared.state.PoolState.{PoolState}
use Rattle.st_model.specs.Answer.{accepted, first_answer, refused_where}
use Rattle.st_model.specs.Look.{Text, holds, holder, is_called}
use Rattle.st_model.specs.Parts.{pool_at}
use Rattle.st_model.specs.Checks.{not_up, worn, down}
use Rattle.st_model.specs.Lifted.{changed}
use Rattle.st_model.specs.Step.{is_changed}
use Rattle.st_model.specs.Plain.{plain}
use Rattle.st_model.specs.Valid.{IsValid}
use Rattle.st_model.specs.steps.RenamePool.{rename_pool, rename_found, rename_answers}
use Rattle.st_model.proofs.Among.{self, up}
use Rattle.st_model.proofs.Answers0.{none_answers, so_not, not_there, IsNoChange, changed-unanswered, no_change_where}
use Rattle.st_model.proofs.Kept.{changed-good, down_good, alone_of}
use Rattle.st_model.proofs.ValidRename.{Gains, gains-apart}
use Rattle.std.proofs.lemmas.Slice.Eq.{bytes_eq-Decides}

same_no_change : (b : Bool) → IsNoChange (cond b (Some (accepted (Changed false None))) None)
same_no_change true = refl
same_no_change false = tt

pub up_no_change : (p : PoolState) (m : PoolMode) → IsNoChange (not_up p m)
up_no_change p Up = tt
up_no_change p (Down call) = refl
up_no_change p Stopped = refl
up_no_change p (Unsettled call) = refl
up_no_change p (Incomplete path) = refl

not_same : (b : Bool) → cond b (Some (accepted (Changed false None))) None ≡ None → b ≡ false
not_same true h = absurd cc
not_same false h = refl

either : (a b : Bool) → (a || b) ≡ true → (a ≡ true) ⊎ (b ≡ true)
either true b h = inl refl
either false b h = inr h

or_left : (a b : Bool) → a ≡ true → (a || b) ≡ true
or_left true b h = refl
or_left false b h = absurd cc

down_gains : (name new : Text) (p : PoolState) → p.mode ≡ Up → Gains new p (down (RenamePool name new) p)
down_gains name new p up = record {
  serial = refl;
  names = λ n h. here n (either (is_called n p) (bytes_eq new n) h);
  devices = λ path. rw up refl;
}
  where
    here : (n : Text) → (is_called n p ≡ true) ⊎ (bytes_eq new n ≡ true) → (holds n p ≡ true) ⊎ (new ≡ n)
    here n (inl a) = inl (or_left (is_called n p) _ a)
    here n (inr b) = inr ((bytes_eq-Decides new n).0 b)

alone-renamed : (name new : Text) (rows : List DevRow) (p : PoolState) → p.name ≡ name → bytes_eq name new ≡ false → worn p ≡ None → (rename_pool name new (alone_of rows p)).0.code ≡ 0
unfolding rename_pool
alone-renamed name new rows p named ne fresh =
    let at : pool_at name (up p ∷ []) ≡ Some (up p) = rw (named, self name) refl in
    let free : holds new (up p) ≡ false = rw (named, ne) refl in
    ap (λ o. (rename_found (alone_of rows p) name new o).0.code) at
    ∙ ap (λ (b : Bool). (Rattle.st_model.specs.Answer.unless_answered (first_answer (cond b (Some (accepted (Changed false None))) None ∷ refused_where (is_some (holder new (up p ∷ []))) NameInUse ∷ None ∷ worn p ∷ [])) (alone_of rows p) (accepted (Changed true (Some (Rattle.st_model.specs.declared.reply.Identity.TheVariants.Pool p.serial))), changed name (Rattle.st_model.specs.steps.RenamePool.renamed new) (alone_of rows p))).0.code) ne
    ∙ ap (λ (b : Bool). (Rattle.st_model.specs.Answer.unless_answered (first_answer (None ∷ refused_where (is_some (cond b (Some (up p)) None)) NameInUse ∷ None ∷ worn p ∷ [])) (alone_of rows p) (accepted (Changed true (Some (Rattle.st_model.specs.declared.reply.Identity.TheVariants.Pool p.serial))), changed name (Rattle.st_model.specs.steps.RenamePool.renamed new) (alone_of rows p))).0.code) free
    ∙ ap (λ (o : Option Reply). (Rattle.st_model.specs.Answer.unless_answered (first_answer (o ∷ [])) (alone_of rows p) (accepted (Changed true (Some (Rattle.st_model.specs.declared.reply.Identity.TheVariants.Pool p.serial))), changed name (Rattle.st_model.specs.steps.RenamePool.renamed new) (alone_of rows p))).0.code) fresh

pub rename_failed-valid : (s : EngineState) (name new : Text) → is_changed (plain s (RenamePool name new)) ≡ true → IsValid s → IsValid (changed name (down (RenamePool name new)) s)
unfolding rename_pool
rename_failed-valid s name new h v = here (pool_at name s.pools) refl h
  where
    done : (p : PoolState) → pool_at name s.pools ≡ Some p → first_answer (rename_answers s name new p) ≡ None → IsValid (changed name (down (RenamePool name new)) s)
    done p at none =
        let all = none_answers (rename_answers s name new p) none in
        let free = not_there (holder new s.pools) (so_not (is_some (holder new s.pools)) NameInUse all.1.0) in
        changed-good s name (down (RenamePool name new)) v (gains-apart s name new (down (RenamePool name new)) free (down_gains name new) v.apart)
        (λ q o good.
        let same : q ≡ p = (let e : Some q ≡ Some p = sym o.found ∙ at in cc) in
        down_good s.next s.devices q (RenamePool name new) o.is_up good (sym o.named) refl (λ halted. halted)
        (alone-renamed name new s.devices (down (RenamePool name new) q) o.named (not_same (bytes_eq name new) all.0) (subst (λ (x : PoolState). worn x ≡ None) (sym same) all.1.1.1.0)))

    here : (o : Option PoolState) → pool_at name s.pools ≡ o → is_changed (Some (rename_found s name new o)) ≡ true → IsValid (changed name (down (RenamePool name new)) s)
    here None at h = absurd cc
    here (Some p) at h =
        done p at (changed-unanswered (rename_answers s name new p) s _ (same_no_change _, (no_change_where _ NameInUse, (up_no_change p p.mode, (no_change_where _ Worn, tt)))) h)
