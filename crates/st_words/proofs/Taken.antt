-- the command takes the words exactly where clap finds no fault in them
use Rattle.std.proofs.Common.{◌≡◌, ℕ, List, [], ◌∷◌, true, false, ◌∙◌, ◌==◌, suc, length, arith, Result, Ok, Err, refl, ap, sym, subst, ⊎_elim}
use Rattle.clap.specs.declared.parser.matches.ArgMatches.{ArgMatches}
use Rattle.clap.specs.Words.{App, HasMatchesOf, found_of, is_simple, matches_of, rows_of, FailsBy, HasKind, IsAmong, Kinds, fault_of, is_simple_and_free, kind_of}
use Rattle.clap.specs.declared.error.kind.ErrorKind.{ErrorKind}
use Rattle.clap.specs.declared.error.kind.ErrorKind.TheVariants.{OutOfMemory}
use Rattle.clap.specs.declared.error.Error.{Error}
use Rattle.clap.proofs.OnLiterals.{clap_on_literals}
use Rattle.st_words.specs.Command.{command, takes_words}

is_simple_command : is_simple_and_free command ≡ true
unfolding clap_on_literals
is_simple_command = refl

-- a command is simple where it is simple and free
simple_too : (a : App) → is_simple_and_free a ≡ true → is_simple a ≡ true
simple_too a h = grind arith

abbrev pub err_or : {T E : Type 0} → E → Result T E → E
err_or d (Ok x) = d
err_or d (Err e) = e

none_found : (kinds : Kinds) → kinds ≡ [] → (length kinds == 0) ≡ true
none_found kinds e = ap (λ (k : Kinds). length k == 0) e

eqb_suc_zero : (n : ℕ) → (suc n == 0) ≡ false
eqb_suc_zero n = grind arith

some_found : (kinds : Kinds) (kind : ErrorKind) → IsAmong kind kinds → (length kinds == 0) ≡ false
some_found [] kind h = absurd h
some_found (k ∷ ks) kind h = eqb_suc_zero (length ks)

by_kind : (kinds : Kinds) (e : Error) → HasKind kinds e → (kind_of e ≡ OutOfMemory → ⊥) → (length kinds == 0) ≡ false
by_kind kinds e h other = ⊎_elim (λ memory. absurd (other memory)) (λ among. some_found kinds (kind_of e) among) h

pub taken-ok : {T : Type 0} (a : App) (words : List (List ℕ)) (x : T) → a ≡ command
    → (is_simple_and_free a ≡ true → FailsBy (fault_of a words) (Ok x)) → takes_words words ≡ true
unfolding takes_words
taken-ok a words x is h =
    none_found (fault_of command words) (ap (λ (b : App). fault_of b words) (sym is) ∙ h (ap is_simple_and_free is ∙ is_simple_command))

pub taken-err : {T : Type 0} (a : App) (words : List (List ℕ)) (r : Result T Error) (e : Error) → a ≡ command
    → (is_simple_and_free a ≡ true → FailsBy (fault_of a words) r) → r ≡ Err e → (kind_of e ≡ OutOfMemory → ⊥) → takes_words words ≡ false
unfolding takes_words
taken-err {T} a words r e is h failed other =
    let kinds = fault_of command words in
    let found : FailsBy kinds r = subst (λ (b : App). FailsBy (fault_of b words) r) is (h (ap is_simple_and_free is ∙ is_simple_command)) in
    by_kind kinds e (subst (λ (q : Result T Error). FailsBy kinds q) failed found) other

pub matches-of : (a : App) (words : List (List ℕ)) (m : ArgMatches) → a ≡ command → HasMatchesOf a words m → rows_of (found_of m) ≡ matches_of command words
matches-of a words m is h = (h (simple_too a (ap is_simple_and_free is ∙ is_simple_command))).0 ∙ ap (λ (b : App). matches_of b words) is

pub err_is : {T E : Type 0} (r : Result T E) (a b : E) → r ≡ Err a → r ≡ Err b → a ≡ b
err_is r a b is_a is_b = ap (err_or a) (sym is_a ∙ is_b)
