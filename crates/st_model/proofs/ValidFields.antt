-- calls that set a field of a filesystem or of the pool keep validity, also where their write fails
use Rattle.std.proofs.Common.{◌≡◌, ◌≢◌, ℕ, ◌+◌, ◌<◌, ◌==◌, ◌&&◌, ◌⊎◌, inl, inr, List, [], ◌∷◌, Bool, true, false, cond, not, map, Option, Some, None, bytes_eq, refl, sym, ◌∙◌, subst, arith}
use Rattle.std.specs.List.{AllByRecursion}
use Rattle.std.proofs.lemmas.Grind.{common_steps}
use Rattle.std.proofs.lemmas.Slice.Eq.{bytes_eq-Decides}
use Rattle.st_units.specs.declared.cause.Cause.TheVariants.{BadSize, LimitBelowSize, NameInUse, OverProvision, Worn}
use Rattle.st_model.specs.declared.reply.Given.TheVariants.{Changed, Done}
use Rattle.st_model.specs.declared.reply.Reply.{Reply}
use Rattle.st_model.specs.declared.state.FsState.{FsState}
use Rattle.st_model.specs.declared.state.PoolState.{PoolState}
use Rattle.st_model.specs.Answer.{accepted, first_answer}
use Rattle.st_model.specs.Checks.{fs_at, in_fs, on_fs, is_below, is_no_size, is_size, rows_changed, with_row}
use Rattle.st_model.specs.Look.{Text}
use Rattle.st_model.specs.Step.{changes}
use Rattle.st_model.specs.ValidPool.{EachPair, IsLimit, IsValidFs, AreFsPair, IsWhole}
use Rattle.st_model.specs.steps.RenameFilesystem.{named, rename_fs, rename_fs_answers, rename_filesystem}
use Rattle.st_model.specs.steps.SetOverprovisioning.{overprovisioning_answers, set_overprovisioning}
use Rattle.st_model.specs.steps.SetSizeLimit.{limited, limit_fs, set_size_limit, size_limit_answers}
use Rattle.st_model.proofs.Among.{IsIn, All-with, all_beside, up}
use Rattle.st_model.proofs.Answers0.{IsNoChange, changed-unanswered, no_change_where, none_answers, not_there, not_worn, so_not, whole_unless}
use Rattle.st_model.proofs.Flights.{found-holds}
use Rattle.st_model.proofs.Lists.{All-weaker, EachPair-map, none_found}
use Rattle.st_model.proofs.Rowed.{KeepsLine, IsSized, lines_fit, whole-rowed}
use Rattle.st_model.proofs.ValidCreateFs.{size_is}
use Rattle.st_model.proofs.ValidRename.{EachPair-with}
use Rattle.st_model.proofs.Whole.{same_parts, whole-commit}

all_of : {X : Type 0} (P : X → Type 0) (xs : List X) → ((x : X) → P x) → AllByRecursion P xs
all_of P [] f = tt
all_of P (x ∷ xs) f = (f x, all_of P xs f)

equal_numbers : (a b : ℕ) → (a == b) ≡ true → a ≡ b
equal_numbers a b h = grind (arith, common_steps)

equal_texts : (a b : Text) → bytes_eq a b ≡ false → a ≢ b
equal_texts a b h e = clash (bytes_eq a b) h ((bytes_eq-Decides a b).1 e)
  where
    clash : (b : Bool) → b ≡ false → b ≡ true → ⊥
    clash b f t = absurd cc

-- what is done with a filesystem of the pool
pub in_whole : (f : FsState → PoolState → Reply × PoolState) (name : Text) (p : PoolState) → IsWhole p → ((fs : FsState) → IsIn fs p.filesystems → IsWhole (f fs p).1) → IsWhole (on_fs name f p).1
in_whole f name p h g = here (fs_at name p.filesystems) refl
  where
    here : (o : Option FsState) → fs_at name p.filesystems ≡ o → IsWhole (in_fs f p o).1
    here None e = h
    here (Some fs) e = g fs (found-holds (λ (x : FsState). IsIn x p.filesystems) _ p.filesystems fs (Rattle.st_model.proofs.Among.All-in p.filesystems) e)

-- where something was changed, the filesystem was found, and it would be again in a pool of the same filesystems
pub in_again : (f : FsState → PoolState → Reply × PoolState) (name : Text) (p q : PoolState) → q.filesystems ≡ p.filesystems → ((fs : FsState) → (((f fs p).0.code == 0) && changes (f fs p).0.result) ≡ true → (f fs q).0.code ≡ 0)
    → (((on_fs name f p).0.code == 0) && changes (on_fs name f p).0.result) ≡ true → (on_fs name f q).0.code ≡ 0
in_again f name p q e g h = subst (λ (l : List FsState). (in_fs f q (fs_at name l)).0.code ≡ 0) (sym e) (here (fs_at name p.filesystems) h)
  where
    here : (o : Option FsState) → (((in_fs f p o).0.code == 0) && changes (in_fs f p o).0.result) ≡ true → (in_fs f q o).0.code ≡ 0
    here None h = absurd cc
    here (Some fs) h = g fs h

-- whoever has the serial of a filesystem of the pool is this filesystem
pub same_serial : (fss : List FsState) (fs : FsState) → EachPair AreFsPair fss → IsIn fs fss → AllByRecursion (λ (x : FsState). (x.row.serial == fs.row.serial) ≡ true → x ≡ fs) fss
same_serial fss fs h i = All-weaker _ _ fss one (of_in fss (all_beside AreFsPair fss h) i)
  where
    of_in : (xs : List FsState) → AllByRecursion (λ (x : FsState). AllByRecursion (λ (y : FsState). (y ≡ x) ⊎ (AreFsPair x y ⊎ AreFsPair y x)) fss) xs → IsIn fs xs → AllByRecursion (λ (y : FsState). (y ≡ fs) ⊎ (AreFsPair fs y ⊎ AreFsPair y fs)) fss
    of_in [] a i = absurd i
    of_in (x ∷ xs) a (inl e) = subst (λ (z : FsState). AllByRecursion (λ (y : FsState). (y ≡ z) ⊎ (AreFsPair z y ⊎ AreFsPair y z)) fss) e a.0
    of_in (x ∷ xs) a (inr i) = of_in xs a.1 i

    no : (a b : ℕ) → a < b → a ≡ b → ⊥
    no a b h e = omega (arith, h, e)

    one : (x : FsState) → (x ≡ fs) ⊎ (AreFsPair fs x ⊎ AreFsPair x fs) → (x.row.serial == fs.row.serial) ≡ true → x ≡ fs
    one x (inl e) s = e
    one x (inr (inl a)) s = absurd (no fs.row.serial x.row.serial a.serials (sym (equal_numbers x.row.serial fs.row.serial s)))
    one x (inr (inr a)) s = absurd (no x.row.serial fs.row.serial a.serials (equal_numbers x.row.serial fs.row.serial s))

-- RenameFilesystem
named_line : (new : Text) (b : Bool) (fs : FsState) → KeepsLine fs (cond b (record fs { row = named new fs.row }) fs)
named_line new true fs = record { keeps = record { map = refl; serial = refl }; origin = refl; merge = refl }
named_line new false fs = record { keeps = record { map = refl; serial = refl }; origin = refl; merge = refl }

named_sized : (new : Text) (b : Bool) (p : PoolState) (fs : FsState) → IsValidFs p fs → IsSized fs (cond b (record fs { row = named new fs.row }) fs)
named_sized new true p fs h = record { size = h.size; limit = h.limit; grew = omega arith }
named_sized new false p fs h = record { size = h.size; limit = h.limit; grew = omega arith }

not_both : (s : ℕ) (x y : FsState) → AreFsPair x y → (x.row.serial == s) ≡ true → (y.row.serial == s) ≡ true → ⊥
not_both s x y h a b =
    let first = equal_numbers x.row.serial s a in
    let second = equal_numbers y.row.serial s b in
    let less = h.serials in
    absurd (no x.row.serial y.row.serial less (first ∙ sym second))
  where
    no : (m n : ℕ) → m < n → m ≡ n → ⊥
    no m n h e = omega (arith, h, e)

named_pair : (new : Text) (s : ℕ) (x y : FsState) → bytes_eq x.row.name new ≡ false → bytes_eq y.row.name new ≡ false → AreFsPair x y → AreFsPair (with_row (named new) s x) (with_row (named new) s y)
named_pair new s x y free free' h = here (x.row.serial == s) refl (y.row.serial == s) refl
  where
    here : (a : Bool) → (x.row.serial == s) ≡ a → (b : Bool) → (y.row.serial == s) ≡ b → AreFsPair (cond a (record x { row = named new x.row }) x) (cond b (record y { row = named new y.row }) y)
    here true e true f = absurd (not_both s x y h e f)
    here true e false f = record { serials = h.serials; names = λ k. equal_texts y.row.name new free' (sym k); marks = h.marks }
    here false e true f = record { serials = h.serials; names = equal_texts x.row.name new free; marks = h.marks }
    here false e false f = h

rename_fs-whole : (new : Text) (fs : FsState) (p : PoolState) → IsWhole p → IsWhole (rename_fs new fs p).1
rename_fs-whole new fs p h =
    let c = with_row (named new) fs.row.serial in
    whole_unless (first_answer (rename_fs_answers new fs p)) p (accepted (Changed true _), rows_changed (named new) fs.row.serial p) h (λ none.
    let all = none_answers (rename_fs_answers new fs p) none in
    let free = none_found _ p.filesystems (not_there (fs_at new p.filesystems) (so_not _ NameInUse all.1.0)) in
    whole-rowed p (rows_changed (named new) fs.row.serial p) c (λ x. (named_line new (x.row.serial == fs.row.serial) x).keeps) refl refl refl refl refl (omega arith) h.allocated refl refl refl
    (EachPair-map AreFsPair c p.filesystems (EachPair-with _ AreFsPair _ p.filesystems (λ x y a b r. named_pair new fs.row.serial x y a b r) free h.ordered))
    (lines_fit p c (λ x. named_line new (x.row.serial == fs.row.serial) x) h.filesystems (All-weaker _ _ p.filesystems (λ x v. named_sized new (x.row.serial == fs.row.serial) p x v) h.filesystems))
    (not_worn p all.1.1.0 h.commits) h)

pub rename_filesystem-whole : (name new : Text) (p : PoolState) → IsWhole p → IsWhole (rename_filesystem name new p).1
unfolding rename_filesystem
rename_filesystem-whole name new p h = in_whole (rename_fs new) name p h (λ fs i. rename_fs-whole new fs p h)

same_name : (b : Bool) → IsNoChange (cond b (Some (accepted (Changed false None))) None)
same_name true = refl
same_name false = tt

rename_fs-again : (new : Text) (fs : FsState) (p q : PoolState) → first_answer (rename_fs_answers new fs q) ≡ first_answer (rename_fs_answers new fs p) → (((rename_fs new fs p).0.code == 0) && changes (rename_fs new fs p).0.result) ≡ true → (rename_fs new fs q).0.code ≡ 0
rename_fs-again new fs p q same h =
    let none : first_answer (rename_fs_answers new fs p) ≡ None = changed-unanswered (rename_fs_answers new fs p) p _ (same_name _, (no_change_where _ NameInUse, (no_change_where _ Worn, tt))) h in
    rw (same, none) refl

pub rename_filesystem-again : (name new : Text) (p q : PoolState) → q.filesystems ≡ p.filesystems → q.commits ≡ p.commits → (((rename_filesystem name new p).0.code == 0) && changes (rename_filesystem name new p).0.result) ≡ true → (rename_filesystem name new q).0.code ≡ 0
unfolding rename_filesystem
rename_filesystem-again name new p q e n = in_again (rename_fs new) name p q e (λ fs. rename_fs-again new fs p q (rw (e, n) refl))

-- SetSizeLimit
limited_line : (limit : Option ℕ) (b : Bool) (fs : FsState) → KeepsLine fs (cond b (record fs { row = limited limit fs.row }) fs)
limited_line limit true fs = record { keeps = record { map = refl; serial = refl }; origin = refl; merge = refl }
limited_line limit false fs = record { keeps = record { map = refl; serial = refl }; origin = refl; merge = refl }

a_limit : (limit : Option ℕ) (size : ℕ) → is_no_size limit ≡ false → is_below limit size ≡ false → IsLimit size limit
a_limit None size h g = tt
a_limit (Some n) size h g = (size_is n (not_true (is_size n) h), grind (arith, common_steps))
  where
    not_true : (b : Bool) → not b ≡ false → b ≡ true
    not_true true h = refl
    not_true false h = absurd cc

limited_sized : (limit : Option ℕ) (p : PoolState) (fs x : FsState) → is_no_size limit ≡ false → is_below limit fs.row.size ≡ false → ((x.row.serial == fs.row.serial) ≡ true → x ≡ fs) → IsValidFs p x → IsSized x (with_row (limited limit) fs.row.serial x)
limited_sized limit p fs x some not_below same h = here (x.row.serial == fs.row.serial) refl
  where
    here : (b : Bool) → (x.row.serial == fs.row.serial) ≡ b → IsSized x (cond b (record x { row = limited limit x.row }) x)
    here true e = record { size = h.size; limit = a_limit limit x.row.size some (subst (λ (y : FsState). is_below limit y.row.size ≡ false) (sym (same e)) not_below); grew = omega arith }
    here false e = record { size = h.size; limit = h.limit; grew = omega arith }

-- where names and marks stay
pub line_pair : (c : FsState → FsState) → ((fs : FsState) → KeepsLine fs (c fs)) → ((fs : FsState) → (c fs).row.name ≡ fs.row.name) → (x y : FsState) → AreFsPair x y → AreFsPair (c x) (c y)
line_pair c k n x y h =
    let a = k x in
    let b = k y in
    record {
      serials = rw (a.keeps.serial, b.keeps.serial) h.serials;
      names = λ e. h.names (sym (n x) ∙ e ∙ n y);
      marks = λ m l e. h.marks (sym a.merge ∙ m) (sym b.merge ∙ l) (sym a.origin ∙ e ∙ b.origin);
    }

limited_name : (limit : Option ℕ) (b : Bool) (fs : FsState) → (cond b (record fs { row = limited limit fs.row }) fs).row.name ≡ fs.row.name
limited_name limit true fs = refl
limited_name limit false fs = refl

pub pairs_lined : (c : FsState → FsState) → ((fs : FsState) → KeepsLine fs (c fs)) → ((fs : FsState) → (c fs).row.name ≡ fs.row.name) → (fss : List FsState) → EachPair AreFsPair fss → EachPair AreFsPair (map c fss)
pairs_lined c k n fss h = EachPair-map AreFsPair c fss (EachPair-with (λ (x : FsState). Unit {0}) AreFsPair _ fss (λ x y a b. line_pair c k n x y) (all_of _ fss (λ x. tt)) h)

limit_fs-whole : (limit : Option ℕ) (fs : FsState) (p : PoolState) → IsIn fs p.filesystems → IsWhole p → IsWhole (limit_fs limit fs p).1
limit_fs-whole limit fs p i h =
    let c = with_row (limited limit) fs.row.serial in
    whole_unless (first_answer (size_limit_answers limit fs p)) p (accepted (Done true), rows_changed (limited limit) fs.row.serial p) h (λ none.
    let all = none_answers (size_limit_answers limit fs p) none in
    let line : (x : FsState) → KeepsLine x (c x) = λ x. limited_line limit (x.row.serial == fs.row.serial) x in
    whole-rowed p (rows_changed (limited limit) fs.row.serial p) c (λ x. (line x).keeps) refl refl refl refl refl (omega arith) h.allocated refl refl refl
    (pairs_lined c line (λ x. limited_name limit (x.row.serial == fs.row.serial) x) p.filesystems h.ordered)
    (lines_fit p c line h.filesystems
    (All-with _ _ _ p.filesystems (λ x s v. limited_sized limit p fs x (so_not _ (BadSize fs.row.name) all.0) (so_not _ (LimitBelowSize fs.row.name) all.1.1.0) s v) (same_serial p.filesystems fs h.ordered i) h.filesystems))
    (not_worn p all.1.1.1.0 h.commits) h)

pub size_limit-whole : (name : Text) (limit : Option ℕ) (p : PoolState) → IsWhole p → IsWhole (set_size_limit name limit p).1
unfolding set_size_limit
size_limit-whole name limit p h = in_whole (limit_fs limit) name p h (λ fs i. limit_fs-whole limit fs p i h)

same_done : (b : Bool) → IsNoChange (cond b (Some (accepted (Done false))) None)
same_done true = refl
same_done false = tt

limit_fs-again : (limit : Option ℕ) (fs : FsState) (p q : PoolState) → first_answer (size_limit_answers limit fs q) ≡ first_answer (size_limit_answers limit fs p) → (((limit_fs limit fs p).0.code == 0) && changes (limit_fs limit fs p).0.result) ≡ true → (limit_fs limit fs q).0.code ≡ 0
limit_fs-again limit fs p q same h =
    let none : first_answer (size_limit_answers limit fs p) ≡ None = changed-unanswered (size_limit_answers limit fs p) p _ (no_change_where _ (BadSize fs.row.name), (same_done _, (no_change_where _ (LimitBelowSize fs.row.name), (no_change_where _ Worn, tt)))) h in
    rw (same, none) refl

pub size_limit-again : (name : Text) (limit : Option ℕ) (p q : PoolState) → q.filesystems ≡ p.filesystems → q.commits ≡ p.commits → (((set_size_limit name limit p).0.code == 0) && changes (set_size_limit name limit p).0.result) ≡ true → (set_size_limit name limit q).0.code ≡ 0
unfolding set_size_limit
size_limit-again name limit p q e n = in_again (limit_fs limit) name p q e (λ fs. limit_fs-again limit fs p q (rw n refl))

-- SetOverprovisioning
pub overprovisioning-whole : (value : Bool) (p : PoolState) → IsWhole p → IsWhole (set_overprovisioning value p).1
unfolding set_overprovisioning
overprovisioning-whole value p h =
    let q : PoolState = record p { overprovisioning = value; commits = p.commits + 1 } in
    whole_unless (first_answer (overprovisioning_answers value p)) p (accepted (Done true), q) h (λ none.
    let all = none_answers (overprovisioning_answers value p) none in
    whole-commit p q (same_parts p q refl refl refl refl refl refl) refl (not_worn p all.1.1.0 h.commits) h.limit refl h)

pub overprovisioning-again : (value : Bool) (p q : PoolState) → first_answer (overprovisioning_answers value q) ≡ first_answer (overprovisioning_answers value p) → (((set_overprovisioning value p).0.code == 0) && changes (set_overprovisioning value p).0.result) ≡ true → (set_overprovisioning value q).0.code ≡ 0
unfolding set_overprovisioning
overprovisioning-again value p q same h =
    let none : first_answer (overprovisioning_answers value p) ≡ None = changed-unanswered (overprovisioning_answers value p) p _ (same_done _, (no_change_where _ (OverProvision _ _), (no_change_where _ Worn, tt))) h in
    rw (same, none) refl
