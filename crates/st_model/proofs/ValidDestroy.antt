-- DestroyPool keeps validity: as a call, as a call whose write failed, and as a call in flight that a start found done
use Rattle.std.proofs.Common.{◌≡◌, ◌==◌, not, List, [], ◌∷◌, length, Bool, true, false, find, Option, Some, None, refl, sym, ap, ◌∙◌, subst}
use Rattle.std.specs.List.{AllByRecursion}
use Rattle.st_units.specs.declared.cause.Cause.TheVariants.{NotEmpty, Worn}
use Rattle.st_units.specs.declared.rows.DevRow.{DevRow}
use Rattle.st_model.specs.declared.call.Call.TheVariants.{DestroyPool}
use Rattle.st_model.specs.declared.reply.Given.TheVariants.{Changed}
use Rattle.st_model.specs.declared.reply.Identity.TheVariants.{Pool}
use Rattle.st_model.specs.declared.reply.Reply.{Reply}
use Rattle.st_model.specs.declared.state.EngineState.{EngineState}
use Rattle.st_model.specs.declared.state.PoolState.{PoolState}
use Rattle.st_model.specs.Answer.{accepted, first_answer, refused_where, unless_answered}
use Rattle.st_model.specs.Checks.{down, worn}
use Rattle.st_model.specs.Flight.{all_but}
use Rattle.st_model.specs.Found.{found_after_of, taken_over, with_own_serial}
use Rattle.st_model.specs.Lifted.{changed}
use Rattle.st_model.specs.Look.{Text}
use Rattle.st_model.specs.Parts.{pool_at}
use Rattle.st_model.specs.Plain.{plain}
use Rattle.st_model.specs.Step.{is_changed}
use Rattle.st_model.specs.Valid.{IsRow, IsValid}
use Rattle.st_model.specs.ValidPool.{IsHalted}
use Rattle.st_model.specs.steps.DestroyPool.{destroy_answers, destroy_found, destroy_pool}
use Rattle.st_model.proofs.Among.{IsPlaced, any_before, self, up}
use Rattle.st_model.proofs.Answers0.{changed-unanswered, no_change_where, none_answers}
use Rattle.st_model.proofs.EachKind.{IsGood}
use Rattle.st_model.proofs.Flights.{find_none}
use Rattle.st_model.proofs.FoundByLaw.{before_of, unchanged}
use Rattle.st_model.proofs.Kept.{alone_of, changed-valid, down_good, down_shares}
use Rattle.st_model.proofs.Lists.{All-weaker, filter-passes}
use Rattle.st_model.proofs.Replaced.{vanished-valid}
use Rattle.st_model.proofs.ValidRenameFailed.{up_no_change}
use Rattle.st_model.proofs.ValidStart.{IsValidAfter, own_after, start-valid, where-valid}

pub destroy-valid : (s : EngineState) (name : Text) → IsValid s → IsValid (destroy_pool name s).1
unfolding destroy_pool
destroy-valid s name v = here (pool_at name s.pools)
  where
    unless : (p : PoolState) (a : Option Reply) (r : Reply) → IsValid (unless_answered a s (r, record s { pools = all_but p.serial s.pools })).1
    unless p None r = vanished-valid s p v
    unless p (Some q) r = v

    here : (o : Option PoolState) → IsValid (destroy_found s o).1
    here None = v
    here (Some p) = unless p (first_answer (destroy_answers p)) _

alone-destroyed : (name : Text) (rows : List DevRow) (p : PoolState) → p.name ≡ name → refused_where (not (length p.filesystems == 0)) (NotEmpty (length p.filesystems)) ≡ None → worn p ≡ None → (destroy_pool name (alone_of rows p)).0.code ≡ 0
unfolding destroy_pool
alone-destroyed name rows p named empty fresh =
    let at : pool_at name (up p ∷ []) ≡ Some (up p) = rw (named, self name) refl in
    ap (λ o. (destroy_found (alone_of rows p) o).0.code) at ∙ answered (refused_where (not (length p.filesystems == 0)) (NotEmpty (length p.filesystems))) (worn p) empty fresh
  where
    answered : (a b : Option Reply) → a ≡ None → b ≡ None
        → (unless_answered (first_answer (None ∷ a ∷ b ∷ [])) (alone_of rows p) (accepted (Changed true (Some (Pool p.serial))), record (alone_of rows p) { pools = all_but p.serial (up p ∷ []) })).0.code ≡ 0
    answered a b e f = rw (e, f) refl

pub destroy_failed-valid : (s : EngineState) (name : Text) → is_changed (plain s (DestroyPool name)) ≡ true → IsValid s → IsValid (changed name (down (DestroyPool name)) s)
unfolding destroy_pool
destroy_failed-valid s name h v = here (pool_at name s.pools) refl h
  where
    done : (p : PoolState) → pool_at name s.pools ≡ Some p → first_answer (destroy_answers p) ≡ None → IsValid (changed name (down (DestroyPool name)) s)
    done p at none =
        let all = none_answers (destroy_answers p) none in
        changed-valid s name (down (DestroyPool name)) v (down_shares (DestroyPool name) refl refl)
        (λ q o good.
        let same : q ≡ p = (let e : Some q ≡ Some p = sym o.found ∙ at in cc) in
        down_good s.next s.devices q (DestroyPool name) o.is_up good (sym o.named) refl (λ halted. halted)
        (alone-destroyed name s.devices (down (DestroyPool name) q) o.named
        (subst (λ (x : PoolState). refused_where (not (length x.filesystems == 0)) (NotEmpty (length x.filesystems)) ≡ None) (sym same) all.1.0)
        (subst (λ (x : PoolState). worn x ≡ None) (sym same) all.1.1.0)))

    here : (o : Option PoolState) → pool_at name s.pools ≡ o → is_changed (Some (destroy_found s o)) ≡ true → IsValid (changed name (down (DestroyPool name)) s)
    here None at h = absurd cc
    here (Some p) at h = done p at (changed-unanswered (destroy_answers p) s _ (up_no_change p p.mode, (no_change_where _ (NotEmpty (length p.filesystems)), (no_change_where _ Worn, tt))) h)

not_self : (b : Bool) → not b ≡ true → b ≡ false
not_self true h = absurd cc
not_self false h = refl

-- no other pool has the serial
pub none_left : (p : PoolState) (ps : List PoolState) → find (λ (x : PoolState). x.serial == p.serial) (all_but p.serial ps) ≡ None
none_left p ps = find_none _ (all_but p.serial ps) (All-weaker _ _ (all_but p.serial ps) (λ x. not_self (x.serial == p.serial)) (filter-passes (λ (x : PoolState). not (x.serial == p.serial)) ps))

pub found_destroyed-valid : (s : EngineState) (p : PoolState) (name : Text) → IsValid s → IsPlaced s.devices s.pools p → IsHalted p → AllByRecursion (IsRow s.devices) p.devices → IsGood s.next s.devices p → name ≡ p.name
    → IsValidAfter (found_after_of s p (before_of s p) (Some (destroy_pool name (before_of s p))))
unfolding destroy_pool
found_destroyed-valid s p name v placed halted there good e =
    let at : pool_at name (before_of s p).pools ≡ Some (up p) = rw e (any_before s.devices p s.pools placed.beside placed.among) in
    subst (λ (o : Option PoolState). IsValidAfter (found_after_of s p (before_of s p) (Some (destroy_found (before_of s p) o)))) (sym at) (where-valid _ _ (here (first_answer (destroy_answers (up p))) _))
  where
    at_before : with_own_serial p.serial (before_of s p) ≡ Some (up p)
    at_before = ap (λ l. find (λ (x : PoolState). x.serial == p.serial) l) (sym (unchanged name (before_of s p).pools)) ∙ own_after name (λ x. x) s.devices p s.pools e refl placed.beside placed.among

    here : (a : Option Reply) (r : Reply) → IsValid (taken_over s p (with_own_serial p.serial (unless_answered a (before_of s p) (r, record (before_of s p) { pools = all_but p.serial (before_of s p).pools })).1)).1
    here None r = subst (λ (o : Option PoolState). IsValid (taken_over s p o).1) (sym (none_left p (before_of s p).pools)) (vanished-valid s p v)
    here (Some q) r = subst (λ (o : Option PoolState). IsValid (taken_over s p o).1) (sym at_before) (start-valid s p v placed halted there good)
