-- SetMerge keeps validity
use Rattle.std.proofs.Common.{◌≡◌, ℕ, ◌<◌, ◌==◌, ◌&&◌, ◌||◌, inl, inr, List, [], ◌∷◌, Bool, true, false, cond, map, Option, Some, None, is_none, option_map, refl, sym, ap, ◌∙◌, subst, arith, ◌^◌}
use Rattle.std.specs.List.{AllByRecursion, find, list_any}
use Rattle.std.proofs.lemmas.Grind.{common_steps}
use Rattle.st_units.specs.declared.cause.Cause.TheVariants.{MergeConflict, NoOrigin, Worn}
use Rattle.st_model.specs.declared.reply.Given.TheVariants.{Done}
use Rattle.st_model.specs.declared.state.FsState.{FsState}
use Rattle.st_model.specs.declared.state.PoolState.{PoolState}
use Rattle.st_model.specs.Answer.{accepted, first_answer, refused_by}
use Rattle.st_model.specs.Checks.{rows_changed, with_row}
use Rattle.st_model.specs.Look.{Text}
use Rattle.st_model.specs.Merged.{is_origin}
use Rattle.st_model.specs.Step.{changes}
use Rattle.st_model.specs.ValidPool.{EachPair, is_marked, IsMark, IsOrigin, IsValidFs, AreFsPair, IsWhole}
use Rattle.st_model.specs.steps.SetMerge.{conflicts, mark_fs, merge_answers, set_merge, share_origin, with_mark}
use Rattle.st_model.proofs.Among.{IsIn, All-with}
use Rattle.st_model.proofs.Answers0.{IsNoChange, changed-unanswered, no_change_where, none_answers, not_worn, so_not, whole_unless}
use Rattle.st_model.proofs.Lists.{All-map, All-weaker, EachPair-map, none_found}
use Rattle.st_model.proofs.Replacing.{IsFitting}
use Rattle.st_model.proofs.Rowed.{KeepsMap, serial_over, whole-rowed}
use Rattle.st_model.proofs.ValidFields.{in_again, in_whole, same_serial}
use Rattle.st_model.proofs.ValidRename.{EachPair-with}

equal_numbers : (a b : ℕ) → (a == b) ≡ true → a ≡ b
equal_numbers a b h = grind (arith, common_steps)

same_number : (n : ℕ) → (n == n) ≡ true
same_number n = grind (arith, common_steps)

abbrev marked : Bool → Bool → FsState → FsState
marked value b fs = cond b (record fs { row = with_mark value fs.row }) fs

mark_keeps : (value b : Bool) (fs : FsState) → KeepsMap fs (marked value b fs)
mark_keeps value true fs = record { map = refl; serial = refl }
mark_keeps value false fs = record { map = refl; serial = refl }

mark_origin : (value b : Bool) (fs : FsState) → (marked value b fs).row.origin ≡ fs.row.origin
mark_origin value true fs = refl
mark_origin value false fs = refl

mark_name : (value b : Bool) (fs : FsState) → (marked value b fs).row.name ≡ fs.row.name
mark_name value true fs = refl
mark_name value false fs = refl

-- what no conflict says of another filesystem that is marked
record NoConflict (fs x : FsState) : Type 0 where
  shared : x.row.merge ≡ true → share_origin fs.row.origin x.row.origin ≡ false
  above : x.row.merge ≡ true → is_origin x.row.serial fs.row.origin ≡ false
  below : x.row.merge ≡ true → is_origin fs.row.serial x.row.origin ≡ false

no_conflict : (fs x : FsState) → conflicts fs.row x ≡ false → NoConflict fs x
no_conflict fs x h = here x.row.merge (share_origin fs.row.origin x.row.origin) (is_origin x.row.serial fs.row.origin) (is_origin fs.row.serial x.row.origin) refl refl refl refl h
  where
    here : (m a b c : Bool) → x.row.merge ≡ m → share_origin fs.row.origin x.row.origin ≡ a → is_origin x.row.serial fs.row.origin ≡ b → is_origin fs.row.serial x.row.origin ≡ c → (m && (a || (b || c))) ≡ false → NoConflict fs x
    here false a b c e f g k h = record { shared = λ t. absurd (clash x.row.merge e t); above = λ t. absurd (clash x.row.merge e t); below = λ t. absurd (clash x.row.merge e t) }
      where
        clash : (b : Bool) → b ≡ false → b ≡ true → ⊥
        clash b f t = absurd cc
    here true false false false e f g k h = record { shared = λ t. f; above = λ t. g; below = λ t. k }
    here true true b c e f g k h = absurd cc
    here true false true c e f g k h = absurd cc
    here true false false true e f g k h = absurd cc

clash : (b : Bool) → b ≡ false → b ≡ true → ⊥
clash b f t = absurd cc

none_any : {X : Type 0} (p : X → Bool) (xs : List X) → AllByRecursion (λ x. p x ≡ false) xs → list_any p xs ≡ false
none_any p [] h = refl
none_any p (x ∷ xs) h = rw h.0 (none_any p xs h.1)

any_none : {X : Type 0} (p : X → Bool) (xs : List X) → list_any p xs ≡ false → AllByRecursion (λ x. p x ≡ false) xs
any_none p [] h = tt
any_none p (x ∷ xs) h = here (p x) refl h (any_none p xs)
  where
    here : (b : Bool) → p x ≡ b → (b || list_any p xs) ≡ false → (list_any p xs ≡ false → AllByRecursion (λ y. p y ≡ false) xs) → (p x ≡ false) × AllByRecursion (λ y. p y ≡ false) xs
    here true e h f = absurd cc
    here false e h f = (e, f h)

no_and : (a b : Bool) → b ≡ false → (a && b) ≡ false
no_and true b h = h
no_and false b h = refl

flipped : (a b : ℕ) → (a == b) ≡ (b == a)
flipped a b = grind (arith, common_steps)

not_below : (o s n : ℕ) → o < s → (n == s) ≡ true → (n == o) ≡ false
not_below o s n h e = grind (arith, common_steps)

as_other : (n s q : ℕ) → (n == s) ≡ true → (q == s) ≡ false → (n == q) ≡ false
as_other n s q h e = grind (arith, common_steps)

module _ (value : Bool) (s : ℕ) where
  abbrev change : FsState → FsState
  change = with_row (with_mark value) s

  change_keeps : (x : FsState) → KeepsMap x (change x)
  change_keeps x = mark_keeps value (x.row.serial == s) x

  -- no filesystem is marked and has this serial, after the change
  unmarked : (o : ℕ) (xs : List FsState) → AllByRecursion (λ (y : FsState). ((change y).row.merge && (y.row.serial == o)) ≡ false) xs → is_marked o (map change xs) ≡ false
  unmarked o [] h = refl
  unmarked o (x ∷ xs) h = rw (change_keeps x).serial (rw h.0 (unmarked o xs h.1))

-- who is marked afterwards was so before, but for the one that is marked now
after_unmark : (b : Bool) (y : FsState) (o : ℕ) → (y.row.merge && (y.row.serial == o)) ≡ false → ((marked false b y).row.merge && (y.row.serial == o)) ≡ false
after_unmark true y o h = refl
after_unmark false y o h = h

after_mark : (b : Bool) (y : FsState) (o : ℕ) → (b ≡ true → (y.row.serial == o) ≡ false) → (b ≡ false → (y.row.merge && (y.row.serial == o)) ≡ false) → ((marked true b y).row.merge && (y.row.serial == o)) ≡ false
after_mark true y o h g = h refl
after_mark false y o h g = g refl

of_above : (m : Bool) (n o : ℕ) → (m ≡ true → (o == n) ≡ false) → (m && (n == o)) ≡ false
of_above true n o h = flipped n o ∙ h refl
of_above false n o h = refl

-- that the mark may be put on this filesystem
record MayMark (p : PoolState) (fs : FsState) : Type 0 where
  origin : ℕ
  is : fs.row.origin ≡ Some origin
  free : AllByRecursion (NoConflict fs) p.filesystems

mark_after : (p : PoolState) (fs : FsState) → MayMark p fs → IsValidFs p fs → (x : FsState) → NoConflict fs x → ((x.row.serial == fs.row.serial) ≡ true → x ≡ fs) → IsValidFs p x
    → IsMark (map (change true fs.row.serial) p.filesystems) (change true fs.row.serial x).row.merge (change true fs.row.serial x).row.origin
mark_after p fs may v x free same h = here (x.row.serial == fs.row.serial) refl
  where
    none_above : (o : ℕ) → fs.row.origin ≡ Some o → AllByRecursion (λ (y : FsState). ((change true fs.row.serial y).row.merge && (y.row.serial == o)) ≡ false) p.filesystems
    none_above o e =
        let low : o < fs.row.serial = (subst (λ (z : Option ℕ). IsOrigin p.filesystems fs.row.serial z) e v.origin).0 in
        All-weaker _ _ p.filesystems (λ y n. after_mark (y.row.serial == fs.row.serial) y o (λ b. not_below o fs.row.serial y.row.serial low b)
        (λ b. of_above y.row.merge y.row.serial o (λ m. subst (λ (z : Option ℕ). is_origin y.row.serial z ≡ false) e (n.above m)))) may.free

    own : IsMark (map (change true fs.row.serial) p.filesystems) true fs.row.origin
    own = subst (λ (z : Option ℕ). IsMark (map (change true fs.row.serial) p.filesystems) true z) (sym may.is) (unmarked true fs.row.serial may.origin p.filesystems (none_above may.origin may.is))

    other : (m : Bool) (o : Option ℕ) → (m ≡ true → is_origin fs.row.serial o ≡ false) → IsMark p.filesystems m o → IsMark (map (change true fs.row.serial) p.filesystems) m o
    other false o n k = tt
    other true None n k = k
    other true (Some q) n k =
        unmarked true fs.row.serial q p.filesystems
        (All-weaker _ _ p.filesystems (λ y g. after_mark (y.row.serial == fs.row.serial) y q (λ b. as_other y.row.serial fs.row.serial q b (n refl)) (λ b. g)) (any_none _ p.filesystems k))

    here : (b : Bool) → (x.row.serial == fs.row.serial) ≡ b → IsMark (map (change true fs.row.serial) p.filesystems) (marked true b x).row.merge (marked true b x).row.origin
    here true e = subst (λ (z : FsState). IsMark (map (change true fs.row.serial) p.filesystems) true z.row.origin) (sym (same e)) own
    here false e = other x.row.merge x.row.origin free.below h.mark

unmark_after : (p : PoolState) (s : ℕ) (x : FsState) → IsValidFs p x → IsMark (map (change false s) p.filesystems) (change false s x).row.merge (change false s x).row.origin
unmark_after p s x h = here (x.row.serial == s)
  where
    other : (m : Bool) (o : Option ℕ) → IsMark p.filesystems m o → IsMark (map (change false s) p.filesystems) m o
    other false o k = tt
    other true None k = k
    other true (Some q) k = unmarked false s q p.filesystems (All-weaker _ _ p.filesystems (λ y g. after_unmark (y.row.serial == s) y q g) (any_none _ p.filesystems k))

    here : (b : Bool) → IsMark (map (change false s) p.filesystems) (marked false b x).row.merge (marked false b x).row.origin
    here true = tt
    here false = other x.row.merge x.row.origin h.mark

fits_marked : (value : Bool) (p : PoolState) (s : ℕ) (x : FsState) → IsMark (map (change value s) p.filesystems) (change value s x).row.merge (change value s x).row.origin → IsValidFs p x → IsFitting p (map (change value s) p.filesystems) (change value s x)
fits_marked value p s x m h = here (x.row.serial == s) m
  where
    origin : (o : Option ℕ) → IsOrigin p.filesystems x.row.serial o → IsOrigin (map (change value s) p.filesystems) x.row.serial o
    origin None h = tt
    origin (Some o) h = (h.0, serial_over (change value s) (change_keeps value s) o p.filesystems ∙ h.1)

    here : (b : Bool) → IsMark (map (change value s) p.filesystems) (marked value b x).row.merge (marked value b x).row.origin → IsFitting p (map (change value s) p.filesystems) (marked value b x)
    here true m = record { from_one = h.from_one; below_next = h.below_next; size = h.size; limit = h.limit; origin = origin x.row.origin h.origin; mark = m; map = h.map; mapped = h.mapped }
    here false m = record { from_one = h.from_one; below_next = h.below_next; size = h.size; limit = h.limit; origin = origin x.row.origin h.origin; mark = m; map = h.map; mapped = h.mapped }

-- marks of pairs
unmark_pair : (s : ℕ) (x y : FsState) → AreFsPair x y → AreFsPair (change false s x) (change false s y)
unmark_pair s x y h = here (x.row.serial == s) (y.row.serial == s)
  where
    here : (a b : Bool) → AreFsPair (marked false a x) (marked false b y)
    here true true = record { serials = h.serials; names = h.names; marks = λ m l. absurd cc }
    here true false = record { serials = h.serials; names = h.names; marks = λ m l. absurd cc }
    here false true = record { serials = h.serials; names = h.names; marks = λ m l. absurd cc }
    here false false = h

-- what is known of a filesystem beside the one that is marked
record IsBy (fs x : FsState) : Type 0 where
  free : NoConflict fs x
  same : (x.row.serial == fs.row.serial) ≡ true → x ≡ fs

share_self : (o : ℕ) (z : Option ℕ) → z ≡ Some o → share_origin z z ≡ true
share_self o z e = rw e (same_number o)

mark_pair : (fs : FsState) (o : ℕ) → fs.row.origin ≡ Some o → (x y : FsState) → IsBy fs x → IsBy fs y → AreFsPair x y → AreFsPair (change true fs.row.serial x) (change true fs.row.serial y)
mark_pair fs o e x y bx by h = here (x.row.serial == fs.row.serial) refl (y.row.serial == fs.row.serial) refl
  where
    no : (m n k : ℕ) → m < n → (m == k) ≡ true → (n == k) ≡ true → ⊥
    no m n k h e f = let first = equal_numbers m k e in let second = equal_numbers n k f in omega (arith, h, first, second)

    shares : (z : Option ℕ) → z ≡ fs.row.origin → share_origin fs.row.origin z ≡ true
    shares z k = rw k (share_self o fs.row.origin e)

    here : (a : Bool) → (x.row.serial == fs.row.serial) ≡ a → (b : Bool) → (y.row.serial == fs.row.serial) ≡ b → AreFsPair (marked true a x) (marked true b y)
    here true i true j = absurd (no x.row.serial y.row.serial fs.row.serial h.serials i j)
    here true i false j = record { serials = h.serials; names = h.names; marks = λ m l k. clash (share_origin fs.row.origin y.row.origin) (by.free.shared l) (shares y.row.origin (sym k ∙ ap (λ (z : FsState). z.row.origin) (bx.same i))) }
    here false i true j = record { serials = h.serials; names = h.names; marks = λ m l k. clash (share_origin fs.row.origin x.row.origin) (bx.free.shared m) (shares x.row.origin (k ∙ ap (λ (z : FsState). z.row.origin) (by.same j))) }
    here false i false j = h

marked-whole : (value : Bool) (s : ℕ) (p : PoolState) → EachPair AreFsPair (map (change value s) p.filesystems) → AllByRecursion (λ (x : FsState). IsMark (map (change value s) p.filesystems) (change value s x).row.merge (change value s x).row.origin) p.filesystems
    → p.commits < 2 ^ 48 → IsWhole p → IsWhole (rows_changed (with_mark value) s p)
marked-whole value s p pairs marks less h =
    whole-rowed p (rows_changed (with_mark value) s p) (change value s) (change_keeps value s) refl refl refl refl refl (omega arith) h.allocated refl refl refl pairs
    (All-map _ (change value s) p.filesystems (All-with _ _ _ p.filesystems (λ x m v. fits_marked value p s x m v) marks h.filesystems)) less h

origin_of : (o : Option ℕ) → is_none o ≡ false → Rattle.std.specs.Prelude.IsSomeAnd o (λ x. o ≡ Some x)
origin_of None h = absurd cc
origin_of (Some x) h = refl

no_first : (fs : FsState) (xs : List FsState) → refused_by (option_map (λ (other : FsState). MergeConflict other.row.name) (find (conflicts fs.row) xs)) ≡ None → AllByRecursion (NoConflict fs) xs
no_first fs xs h = All-weaker _ _ xs (λ x. no_conflict fs x) (none_found _ xs (here (find (conflicts fs.row) xs) h))
  where
    here : (o : Option FsState) → refused_by (option_map (λ (other : FsState). MergeConflict other.row.name) o) ≡ None → o ≡ None
    here None h = refl
    here (Some x) h = absurd cc

pub valid_in : (p : PoolState) (fs : FsState) (xs : List FsState) → IsIn fs xs → AllByRecursion (IsValidFs p) xs → IsValidFs p fs
valid_in p fs [] i h = absurd i
valid_in p fs (x ∷ xs) (inl e) h = subst (IsValidFs p) e h.0
valid_in p fs (x ∷ xs) (inr i) h = valid_in p fs xs i h.1

mark_fs-whole : (value : Bool) (fs : FsState) (p : PoolState) → IsIn fs p.filesystems → IsWhole p → IsWhole (mark_fs value fs p).1
mark_fs-whole false fs p i h =
    whole_unless (first_answer (merge_answers false fs p)) p (accepted (Done true), rows_changed (with_mark false) fs.row.serial p) h (λ none.
    let all = none_answers (merge_answers false fs p) none in
    marked-whole false fs.row.serial p
    (EachPair-map AreFsPair (change false fs.row.serial) p.filesystems (EachPair-with (IsValidFs p) AreFsPair _ p.filesystems (λ x y a b r. unmark_pair fs.row.serial x y r) h.filesystems h.ordered))
    (All-weaker _ _ p.filesystems (λ x v. unmark_after p fs.row.serial x v) h.filesystems) (not_worn p all.1.1.1.0 h.commits) h)
mark_fs-whole true fs p i h =
    whole_unless (first_answer (merge_answers true fs p)) p (accepted (Done true), rows_changed (with_mark true) fs.row.serial p) h (λ none.
    let all = none_answers (merge_answers true fs p) none in
    let free = no_first fs p.filesystems all.1.1.0 in
    let same = same_serial p.filesystems fs h.ordered i in
    with_origin fs.row.origin refl (so_not (is_none fs.row.origin) NoOrigin all.1.0) (λ o e.
    marked-whole true fs.row.serial p
    (EachPair-map AreFsPair (change true fs.row.serial) p.filesystems
    (EachPair-with (IsBy fs) AreFsPair _ p.filesystems (mark_pair fs o e) (All-with _ _ (IsBy fs) p.filesystems (λ x f s. record { free = f; same = s }) free same) h.ordered))
    (All-with _ _ _ p.filesystems (λ x b v. mark_after p fs (record { origin = o; is = e; free = free }) (valid_in p fs p.filesystems i h.filesystems) x b.free b.same v)
    (All-with _ _ (IsBy fs) p.filesystems (λ x f s. record { free = f; same = s }) free same) h.filesystems)
    (not_worn p all.1.1.1.0 h.commits) h))
  where
    with_origin : (z : Option ℕ) → fs.row.origin ≡ z → is_none z ≡ false → ((o : ℕ) → fs.row.origin ≡ Some o → IsWhole (rows_changed (with_mark true) fs.row.serial p)) → IsWhole (rows_changed (with_mark true) fs.row.serial p)
    with_origin None e n f = absurd cc
    with_origin (Some o) e n f = f o e

pub set_merge-whole : (name : Text) (value : Bool) (p : PoolState) → IsWhole p → IsWhole (set_merge name value p).1
unfolding set_merge
set_merge-whole name value p h = in_whole (mark_fs value) name p h (λ fs i. mark_fs-whole value fs p i h)

same_done : (b : Bool) → IsNoChange (cond b (Some (accepted (Done false))) None)
same_done true = refl
same_done false = tt

no_change_conflict : (value : Bool) (o : Option FsState) → IsNoChange (cond value (refused_by (option_map (λ (other : FsState). MergeConflict other.row.name) o)) None)
no_change_conflict false o = tt
no_change_conflict true None = tt
no_change_conflict true (Some x) = no_change_where true (MergeConflict x.row.name)

mark_fs-again : (value : Bool) (fs : FsState) (p q : PoolState) → first_answer (merge_answers value fs q) ≡ first_answer (merge_answers value fs p) → (((mark_fs value fs p).0.code == 0) && changes (mark_fs value fs p).0.result) ≡ true → (mark_fs value fs q).0.code ≡ 0
mark_fs-again value fs p q same h =
    let none : first_answer (merge_answers value fs p) ≡ None = changed-unanswered (merge_answers value fs p) p _ (same_done _, (no_change_where _ NoOrigin, (no_change_conflict value _, (no_change_where _ Worn, tt)))) h in
    rw (same, none) refl

pub set_merge-again : (name : Text) (value : Bool) (p q : PoolState) → q.filesystems ≡ p.filesystems → q.commits ≡ p.commits → (((set_merge name value p).0.code == 0) && changes (set_merge name value p).0.result) ≡ true → (set_merge name value q).0.code ≡ 0
unfolding set_merge
set_merge-again name value p q e n = in_again (mark_fs value) name p q e (λ fs. mark_fs-again value fs p q (rw (e, n) refl))
