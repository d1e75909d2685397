-- a call that only reads pools of several names is local to them
use Rattle.std.proofs.Common.{◌≡◌, List, [], ◌∷◌, Bool, true, false, ◌||◌, bytes_eq, refl, ap, ◌∙◌}
use Rattle.std.specs.List.{AllByRecursion}
use Rattle.std.proofs.lemmas.Slice.Eq.{bytes_eq-Decides}
use Rattle.st_model.specs.declared.state.EngineState.{EngineState}
use Rattle.st_model.specs.Look.{Text, distinct, has_path}
use Rattle.st_model.proofs.Lists.{All-distinct, All-weaker}
use Rattle.st_model.specs.Local.{AreAlike, IsLocal, Leaves, LeavesIfAny, where_so}
use Rattle.st_model.specs.Sound.{are_few}
use Rattle.st_model.specs.steps.PoolReports.{pool_reports, reports, seen}
use Rattle.st_wants.proofs.Rising.{are_names_of}
use Rattle.st_wants.specs.Names.{is_named, names_of}
use Rattle.st_model.specs.Parts.{AgreeOn}
use Rattle.st_model.proofs.Lifting.{same_known}

or_right : (a b : Bool) → b ≡ true → (a || b) ≡ true
or_right true b h = refl
or_right false b h = h

each_in : (names : List Text) → AllByRecursion (λ n. has_path n names ≡ true) names
each_in [] = tt
each_in (name ∷ names) = (rw ((bytes_eq-Decides name name).1 refl) refl, All-weaker _ _ names (λ n h. or_right (bytes_eq name n) _ h) (each_in names))

same_seen : (is_in : Text → Bool) (s t : EngineState) → AgreeOn is_in s t → (names : List Text) → AllByRecursion (λ n. is_in n ≡ true) names → seen names s ≡ seen names t
same_seen is_in s t a [] h = refl
same_seen is_in s t a (n ∷ names) h = rw (same_known n s t a.table, a.pools n h.0, same_seen is_in s t a names h.1) refl

each_named : (pools : List Text) → AllByRecursion (λ n. is_named (names_of pools) n ≡ true) (distinct pools)
each_named pools = All-distinct (λ n. is_named (names_of pools) n ≡ true) pools (All-weaker _ _ pools (λ n h. (are_names_of pools).same n ∙ h) (each_in pools))

stays : (s : EngineState) (is_in : Text → Bool) → Leaves is_in s s
stays s is_in = record { pools = λ n ne. refl; cells = λ n ne. refl; table = refl }

pub reports-local : (pools : List Text) → IsLocal (is_named (names_of pools)) (λ s. where_so (are_few pools) (pool_reports pools s))
unfolding pool_reports
reports-local pools = record {
  alike = λ s t a. some_alike (are_few pools) s t a;
  others = λ s. some_leaves (are_few pools) s;
}
  where
    some_alike : (b : Bool) (s t : EngineState) → AgreeOn (is_named (names_of pools)) s t → AreAlike (is_named (names_of pools)) (where_so b (reports (seen (distinct pools) s), s)) (where_so b (reports (seen (distinct pools) t), t))
    some_alike true s t a = (ap reports (same_seen (is_named (names_of pools)) s t a (distinct pools) (each_named pools)), a)
    some_alike false s t a = tt

    some_leaves : (b : Bool) (s : EngineState) → LeavesIfAny (is_named (names_of pools)) s (where_so b (reports (seen (distinct pools) s), s))
    some_leaves true s = stays s (is_named (names_of pools))
    some_leaves false s = tt
