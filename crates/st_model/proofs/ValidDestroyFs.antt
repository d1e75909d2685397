-- DestroyFilesystems keeps validity
use Rattle.std.proofs.Common.{◌≡◌, ℕ, ◌<◌, ◌≤◌, ◌==◌, ◌&&◌, ◌||◌, not, List, [], ◌∷◌, length, Bool, true, false, cond, filter, map, Option, Some, None, refl, sym, ap, ◌∙◌, arith}
use Rattle.std.specs.List.{AllByRecursion, list_any}
use Rattle.std.proofs.lemmas.Grind.{common_steps}
use Rattle.std.proofs.lemmas.List.{length-map}
use Rattle.st_units.specs.declared.cause.Cause.TheVariants.{Worn}
use Rattle.st_model.specs.declared.reply.Given.TheVariants.{DestroyedFilesystems}
use Rattle.st_model.specs.declared.state.FsState.{FsState}
use Rattle.st_model.specs.declared.state.PoolState.{PoolState}
use Rattle.st_model.specs.Answer.{accepted, first_answer}
use Rattle.st_model.specs.Look.{Text}
use Rattle.st_model.specs.Merged.{is_origin, with_filesystems}
use Rattle.st_model.specs.Step.{changes}
use Rattle.st_model.specs.ValidPool.{EachPair, has_serial, is_marked, IsOrigin, IsMark, IsValidFs, AreFsPair, IsWhole}
use Rattle.st_model.specs.steps.DestroyFilesystems.{destroy_filesystems, destroy_fs_answers, goes, handed_on, left_by, next_on_line, origin_goes, remaining, to_destroy, without_filesystems}
use Rattle.st_model.proofs.Answers0.{IsNoChange, changed-unanswered, no_change_where, none_answers, not_worn, whole_unless}
use Rattle.st_model.proofs.Lists.{All-weaker, All-map, All-filter, EachPair-map, EachPair-filter}
use Rattle.st_model.proofs.Replacing.{IsFitting, whole-replaced}
use Rattle.st_model.proofs.Totals.{total, total-is, total-most, total-map, total-split, fewer}
use Rattle.st_model.proofs.Whole.{same_parts, whole-commit}

no_and : (a : Bool) → (a && false) ≡ false
no_and true = refl
no_and false = refl

both : (a b : Bool) → (a && b) ≡ true → (a ≡ true) × (b ≡ true)
both true true h = (refl, refl)
both true false h = absurd cc
both false b h = absurd cc

equal_numbers : (a b : ℕ) → (a == b) ≡ true → a ≡ b
equal_numbers a b h = grind (arith, common_steps)

flipped : (a b : ℕ) → (a == b) ≡ (b == a)
flipped a b = grind (arith, common_steps)

lower : (a b c : ℕ) → a < b → b ≤ c → (a == c) ≡ false
lower a b c h g = grind (arith, common_steps)

any_none : {X : Type 0} (p : X → Bool) (xs : List X) → list_any p xs ≡ false → AllByRecursion (λ x. p x ≡ false) xs
any_none p [] h = tt
any_none p (x ∷ xs) h = here (p x) refl h (any_none p xs)
  where
    here : (b : Bool) → p x ≡ b → (b || list_any p xs) ≡ false → (list_any p xs ≡ false → AllByRecursion (λ y. p y ≡ false) xs) → (p x ≡ false) × AllByRecursion (λ y. p y ≡ false) xs
    here true e h f = absurd cc
    here false e h f = (e, f h)

all_of : {X : Type 0} (P : X → Type 0) (xs : List X) → ((x : X) → P x) → AllByRecursion P xs
all_of P [] f = tt
all_of P (x ∷ xs) f = (f x, all_of P xs f)

-- none of these is the origin and goes
abbrev NoneGoes : List Text → List FsState → Option ℕ → Type 0
NoneGoes names fss origin = AllByRecursion (λ (fs : FsState). (goes names fs && is_origin fs.row.serial origin) ≡ false) fss

-- the origin of a filesystem is none of those that are no older
not_younger : (p : PoolState) (names : List Text) (fs y : FsState) (o : Option ℕ) → fs.row.serial ≤ y.row.serial → IsOrigin p.filesystems fs.row.serial o → (goes names y && is_origin y.row.serial o) ≡ false
not_younger p names fs y None h i = no_and (goes names y)
not_younger p names fs y (Some x) h i = rw (lower x fs.row.serial y.row.serial i.0 h) (no_and (goes names y))

none_younger : (p : PoolState) (names : List Text) (fs : FsState) (ys : List FsState) (o : Option ℕ) → AllByRecursion (AreFsPair fs) ys → IsOrigin p.filesystems fs.row.serial o → NoneGoes names (fs ∷ ys) o
none_younger p names fs ys o h i = (not_younger p names fs fs o (omega arith) i, All-weaker _ _ ys (λ y a. not_younger p names fs y o (let below = a.serials in omega (arith, below)) i) h)

-- the origin that is handed on is older still
older : (p : PoolState) (fs : FsState) (s : ℕ) (r : Option ℕ) → is_origin fs.row.serial r ≡ true → IsOrigin p.filesystems s r → (o : Option ℕ) → IsOrigin p.filesystems fs.row.serial o → IsOrigin p.filesystems s o
older p fs s r e h None i = tt
older p fs s None e h (Some x) i = absurd cc
older p fs s (Some y) e h (Some x) i =
    let same : y ≡ fs.row.serial = equal_numbers y fs.row.serial e in
    let first : x < fs.row.serial = i.0 in
    let second : y < s = h.0 in
    (omega (arith, same, first, second), i.1)

-- what the line gives is an origin that this serial may have, and that doesn't go
on_line : (p : PoolState) (names : List Text) (s : ℕ) (o : Option ℕ) → IsOrigin p.filesystems s o → (ys : List FsState) → EachPair AreFsPair ys → AllByRecursion (IsValidFs p) ys
    → IsOrigin p.filesystems s (next_on_line names ys o) × NoneGoes names ys (next_on_line names ys o)
on_line p names s o h [] pairs valid = (h, tt)
on_line p names s o h (fs ∷ younger) pairs valid = here (next_on_line names younger o) (on_line p names s o h younger pairs.1 valid.1)
  where
    at : (r : Option ℕ) → IsOrigin p.filesystems s r → NoneGoes names younger r → (b : Bool) → (goes names fs && is_origin fs.row.serial r) ≡ b
        → IsOrigin p.filesystems s (cond b fs.row.origin r) × NoneGoes names (fs ∷ younger) (cond b fs.row.origin r)
    at r i n false e = (i, (e, n))
    at r i n true e = (older p fs s r (both (goes names fs) (is_origin fs.row.serial r) e).1 i fs.row.origin valid.0.origin, none_younger p names fs younger fs.row.origin pairs.0 valid.0.origin)

    here : (r : Option ℕ) → IsOrigin p.filesystems s r × NoneGoes names younger r → IsOrigin p.filesystems s (handed_on names fs r) × NoneGoes names (fs ∷ younger) (handed_on names fs r)
    here r h = at r h.0 h.1 (goes names fs && is_origin fs.row.serial r) refl

-- what stays of a row
record IsLeft (a b : FsState) : Type 0 where
  serial : b.row.serial ≡ a.row.serial
  name : b.row.name ≡ a.row.name
  map : b.map ≡ a.map

abbrev left_so : List Text → List FsState → Bool → FsState → FsState
left_so names fss b fs = cond b (record fs { row = record fs.row { origin = next_on_line names fss fs.row.origin; merge = false } }) fs

is_left : (names : List Text) (fss : List FsState) (b : Bool) (fs : FsState) → IsLeft fs (left_so names fss b fs)
is_left names fss true fs = record { serial = refl; name = refl; map = refl }
is_left names fss false fs = record { serial = refl; name = refl; map = refl }

left_is : (names : List Text) (fss : List FsState) (fs : FsState) → IsLeft fs (left_by names fss fs)
left_is names fss fs = is_left names fss (origin_goes names fss fs.row.origin) fs

abbrev stays : List Text → FsState → Bool
stays names fs = not (goes names fs)

-- who has the serial and doesn't go is there still
serial_stays : (names : List Text) (fss all : List FsState) (x : ℕ) → has_serial x fss ≡ true → NoneGoes names fss (Some x) → has_serial x (map (left_by names all) (filter (stays names) fss)) ≡ true
serial_stays names [] all x h n = absurd cc
serial_stays names (fs ∷ fss) all x h n = here (goes names fs) (fs.row.serial == x) refl h (ap (λ b. goes names fs && b) (flipped fs.row.serial x) ∙ n.0) (λ k. serial_stays names fss all x k n.1)
  where
    rest : List FsState
    rest = filter (stays names) fss

    here : (g b : Bool) → (fs.row.serial == x) ≡ b → (b || has_serial x fss) ≡ true → (g && (fs.row.serial == x)) ≡ false → (has_serial x fss ≡ true → has_serial x (map (left_by names all) rest) ≡ true)
        → has_serial x (map (left_by names all) (cond (not g) (fs ∷ rest) rest)) ≡ true
    here true true e h k t = absurd (let bad : true ≡ false = sym e ∙ k in cc)
    here true false e h k t = t h
    here false true e h k t = rw ((left_is names all fs).serial, e) refl
    here false false e h k t = rw ((left_is names all fs).serial, e) (t h)

origin_stays : (p : PoolState) (names : List Text) (s : ℕ) (o : Option ℕ) → IsOrigin p.filesystems s o → NoneGoes names p.filesystems o → IsOrigin (remaining names p.filesystems) s o
origin_stays p names s None h n = tt
origin_stays p names s (Some x) h n = (h.0, serial_stays names p.filesystems p.filesystems x h.1 n)

-- nobody is marked that wasn't
unmarked : (names : List Text) (fss all : List FsState) (x : ℕ) → AllByRecursion (λ (y : FsState). (y.row.merge && (y.row.serial == x)) ≡ false) fss → is_marked x (map (left_by names all) (filter (stays names) fss)) ≡ false
unmarked names [] all x h = refl
unmarked names (fs ∷ fss) all x h = here (goes names fs) (unmarked names fss all x h.1)
  where
    rest : List FsState
    rest = filter (stays names) fss

    one : (b : Bool) → ((left_so names all b fs).row.merge && ((left_so names all b fs).row.serial == x)) ≡ false
    one true = refl
    one false = h.0

    here : (g : Bool) → is_marked x (map (left_by names all) rest) ≡ false → is_marked x (map (left_by names all) (cond (not g) (fs ∷ rest) rest)) ≡ false
    here true t = t
    here false t = rw (one (origin_goes names all fs.row.origin)) t

mark_stays : (p : PoolState) (names : List Text) (m : Bool) (o : Option ℕ) → IsMark p.filesystems m o → IsMark (remaining names p.filesystems) m o
mark_stays p names false o h = tt
mark_stays p names true None h = h
mark_stays p names true (Some x) h = unmarked names p.filesystems p.filesystems x (any_none _ p.filesystems h)

left_fits : (p : PoolState) (names : List Text) → EachPair AreFsPair p.filesystems → AllByRecursion (IsValidFs p) p.filesystems → (fs : FsState) → IsValidFs p fs → IsFitting p (remaining names p.filesystems) (left_by names p.filesystems fs)
left_fits p names pairs valid fs h = here (origin_goes names p.filesystems fs.row.origin) refl
  where
    here : (b : Bool) → origin_goes names p.filesystems fs.row.origin ≡ b → IsFitting p (remaining names p.filesystems) (left_so names p.filesystems b fs)
    here true e =
        let line = on_line p names fs.row.serial fs.row.origin h.origin p.filesystems pairs valid in
        record {
          from_one = h.from_one;
          below_next = h.below_next;
          size = h.size;
          limit = h.limit;
          origin = origin_stays p names fs.row.serial (next_on_line names p.filesystems fs.row.origin) line.0 line.1;
          mark = tt;
          map = h.map;
          mapped = h.mapped;
        }
    here false e = record {
      from_one = h.from_one;
      below_next = h.below_next;
      size = h.size;
      limit = h.limit;
      origin = origin_stays p names fs.row.serial fs.row.origin h.origin (any_none _ p.filesystems e);
      mark = mark_stays p names fs.row.merge fs.row.origin h.mark;
      map = h.map;
      mapped = h.mapped;
    }

left_pair : (names : List Text) (fss : List FsState) (x y : FsState) → AreFsPair x y → AreFsPair (left_by names fss x) (left_by names fss y)
left_pair names fss x y h = here (origin_goes names fss x.row.origin) (origin_goes names fss y.row.origin)
  where
    here : (a b : Bool) → AreFsPair (left_so names fss a x) (left_so names fss b y)
    here true true = record { serials = h.serials; names = h.names; marks = λ m l. absurd cc }
    here true false = record { serials = h.serials; names = h.names; marks = λ m l. absurd cc }
    here false true = record { serials = h.serials; names = h.names; marks = λ m l. absurd cc }
    here false false = h

pairs_of : (names : List Text) (all xs : List FsState) → EachPair AreFsPair xs → EachPair AreFsPair (map (left_by names all) xs)
pairs_of names all xs h = EachPair-map AreFsPair (left_by names all) xs (weaker xs h)
  where
    weaker : (ys : List FsState) → EachPair AreFsPair ys → EachPair (λ (a b : FsState). AreFsPair (left_by names all a) (left_by names all b)) ys
    weaker [] h = tt
    weaker (y ∷ ys) h = (All-weaker _ _ ys (λ z. left_pair names all y z) h.0, weaker ys h.1)

same_size : (names : List Text) (all : List FsState) (fs : FsState) → length (left_by names all fs).map ≤ length fs.map
same_size names all fs = rw (left_is names all fs).map (omega arith)

fewer_mappings : (names : List Text) (fss : List FsState) → total (λ (fs : FsState). length fs.map) (remaining names fss) ≤ total (λ (fs : FsState). length fs.map) fss
fewer_mappings names fss =
    let size : FsState → ℕ = λ (fs : FsState). length fs.map in
    let kept = filter (stays names) fss in
    let mapped = total-map size (left_by names fss) kept in
    let less = total-most (λ (x : FsState). size (left_by names fss x)) size kept (all_of _ kept (same_size names fss)) in
    let split = total-split size (stays names) fss in
    omega (arith, mapped, less, split)

pub destroy_fs-whole : (names : List Text) (p : PoolState) → IsWhole p → IsWhole (destroy_filesystems names p).1
unfolding destroy_filesystems
destroy_fs-whole names p h =
    let fss = remaining names p.filesystems in
    whole_unless (first_answer (destroy_fs_answers (to_destroy names p) p)) p (_, without_filesystems names p) h (λ none.
    let all = none_answers (destroy_fs_answers (to_destroy names p) p) none in
    let count = h.count in
    let shorter = fewer (stays names) p.filesystems in
    let same : length fss ≡ length (filter (stays names) p.filesystems) = length-map (filter (stays names) p.filesystems) (left_by names p.filesystems) in
    let maps = h.mappings in
    let less = fewer_mappings names p.filesystems in
    let before = total-is (λ (fs : FsState). length fs.map) p.filesystems in
    let after = total-is (λ (fs : FsState). length fs.map) fss in
    let left : IsWhole (with_filesystems fss p) = whole-replaced p fss (pairs_of names p.filesystems (filter (stays names) p.filesystems) (EachPair-filter AreFsPair (stays names) p.filesystems h.ordered))
    (All-map _ (left_by names p.filesystems) (filter (stays names) p.filesystems)
    (All-weaker _ _ (filter (stays names) p.filesystems) (left_fits p names h.ordered h.filesystems) (All-filter _ (stays names) p.filesystems h.filesystems)))
    (omega (arith, count, shorter, same)) (omega (arith, maps, less, before, after)) h in
    whole-commit (with_filesystems fss p) (without_filesystems names p) (same_parts (with_filesystems fss p) (without_filesystems names p) refl refl refl refl refl refl) refl (not_worn p all.1.0 h.commits) h.limit refl left)

none_gone : (b : Bool) → IsNoChange (cond b (Some (accepted (DestroyedFilesystems false []))) None)
none_gone true = refl
none_gone false = tt

pub destroy_fs-again : (names : List Text) (p q : PoolState) → first_answer (destroy_fs_answers (to_destroy names q) q) ≡ first_answer (destroy_fs_answers (to_destroy names p) p)
    → (((destroy_filesystems names p).0.code == 0) && changes (destroy_filesystems names p).0.result) ≡ true → (destroy_filesystems names q).0.code ≡ 0
unfolding destroy_filesystems
destroy_fs-again names p q same h =
    let none : first_answer (destroy_fs_answers (to_destroy names p) p) ≡ None = changed-unanswered (destroy_fs_answers (to_destroy names p) p) p _ (none_gone _, (no_change_where _ Worn, tt)) h in
    rw (same, none) refl
