-- what is known where nothing was answered, and where something was changed
use Rattle.std.proofs.Common.{◌≡◌, ℕ, ◌<◌, ◌≤◌, ◌^◌, ◌==◌, ◌&&◌, List, [], ◌∷◌, Bool, true, false, Option, Some, None, is_some, refl, arith}
use Rattle.std.specs.List.{AllByRecursion}
use Rattle.std.proofs.lemmas.Grind.{common_steps}
use Rattle.st_units.specs.declared.cause.Cause.{Cause}
use Rattle.st_model.specs.declared.reply.Reply.{Reply}
use Rattle.st_model.specs.declared.state.PoolState.{PoolState}
use Rattle.st_model.specs.Answer.{first_answer, refused_by, refused_where, unless_answered}
use Rattle.st_model.specs.ValidPool.{IsWhole}
use Rattle.st_model.specs.Checks.{worn}
use Rattle.st_model.specs.Step.{changes}

pub none_answers : (answers : List (Option Reply)) → first_answer answers ≡ None → AllByRecursion (λ o. o ≡ None) answers
none_answers [] h = tt
none_answers (None ∷ answers) h = (refl, none_answers answers h)
none_answers (Some r ∷ answers) h = absurd cc

pub so_not : (b : Bool) (c : Cause) → refused_where b c ≡ None → b ≡ false
so_not true c h = absurd cc
so_not false c h = refl

pub not_there : {X : Type 0} (o : Option X) → is_some o ≡ false → o ≡ None
not_there None h = refl
not_there (Some x) h = absurd cc

not_last : (n : ℕ) → (n == 2 ^ 48) ≡ false → n ≤ 2 ^ 48 → n < 2 ^ 48
not_last n h g = grind (arith, common_steps)

pub not_worn : (p : PoolState) → worn p ≡ None → p.commits ≤ 2 ^ 48 → p.commits < 2 ^ 48
not_worn p h g = not_last p.commits (so_not (p.commits == 2 ^ 48) Rattle.st_units.specs.declared.cause.Cause.TheVariants.Worn h) g

-- the pool that is left is whole, where the pool that would be left is
pub whole_unless : (a : Option Reply) (p : PoolState) (next : Reply × PoolState) → IsWhole p → (a ≡ None → IsWhole next.1) → IsWhole (unless_answered a p next).1
whole_unless None p next h g = g refl
whole_unless (Some r) p next h g = h

-- the answer, if there is one, is no acceptance that changed something
abbrev pub IsNoChange : Option Reply → Type 0
IsNoChange None = Unit {0}
IsNoChange (Some r) = ((r.code == 0) && changes r.result) ≡ false

first_no_change : (answers : List (Option Reply)) → AllByRecursion IsNoChange answers → IsNoChange (first_answer answers)
first_no_change [] h = tt
first_no_change (None ∷ answers) h = first_no_change answers h.1
first_no_change (Some r ∷ answers) h = h.0

-- so where something was changed, nothing of the list was answered
pub changed-unanswered : {S : Type 0} (answers : List (Option Reply)) (s : S) (next : Reply × S) → AllByRecursion IsNoChange answers
    → (((unless_answered (first_answer answers) s next).0.code == 0) && changes (unless_answered (first_answer answers) s next).0.result) ≡ true → first_answer answers ≡ None
changed-unanswered answers s next h e = here (first_answer answers) (first_no_change answers h) e
  where
    here : (a : Option Reply) → IsNoChange a → (((unless_answered a s next).0.code == 0) && changes (unless_answered a s next).0.result) ≡ true → a ≡ None
    here None n e = refl
    here (Some r) n e = absurd cc

pub no_change_where : (b : Bool) (c : Cause) → IsNoChange (refused_where b c)
no_change_where true c = each_code c
  where
    each_code : (c : Cause) → IsNoChange (Some (Rattle.st_model.specs.Answer.refused c))
    each_code c = here (Rattle.st_model.specs.Answer.code_of c == 0)
      where
        here : (b : Bool) → (b && false) ≡ false
        here true = refl
        here false = refl
no_change_where false c = tt

pub no_change_by : (o : Option Cause) → IsNoChange (refused_by o)
no_change_by None = tt
no_change_by (Some cause) = no_change_where true cause
