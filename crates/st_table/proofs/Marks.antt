-- devices that are marked with the pool that uses them, as pools come and go
use Rattle.std.proofs.Common.{◌≡◌, ℕ, List, [], ◌∷◌, Bool, true, false, cond, not, ◌||◌, eqb, bytes_eq, map, Option, Some, None, is_some, is_none, refl, sym, ap, subst, ◌∙◌}
use Rattle.std.specs.Prelude.{find, filter, nat_eq, option_map}
use Rattle.std.specs.List.{AllByRecursion, IsDistinct, list_any}
use Rattle.std.specs.List.Sorted.{IsStrictlySortedBy}
use Rattle.std.proofs.lemmas.Map.Keys.{IsDistinct-head, IsDistinct-tail}
use Rattle.std.proofs.lemmas.Bool.Decides.{Decides-eqb}
use Rattle.st_units.specs.declared.rows.DevRow.{DevRow}
use Rattle.st_model.specs.Look.{Text, has_path, row_of}
use Rattle.st_model.specs.Parts.{is_used, free_of}
use Rattle.st_table.specs.declared.device.Device.{Device}
use Rattle.st_order.specs.Sorted.{IsRising}
use Rattle.st_table.specs.Table.{TablePool, name_of, is_named, pool_named, knows, names_of, has_serial, IsFree, without, with_pool}
use Rattle.st_table.specs.inner.Sound.{row_in, path_in, is_user, is_known, IsMarked, IsSound, marked, user_among}
use Rattle.st_order.proofs.Lists.{weaker, or_first, or_second}
use Rattle.st_order.proofs.Order.{eq_same, eq_self, eq_turned, rising_first, rising_rest, others_differ, filter_none, all_filtered, all_entered, any_entered, rising_filtered, rising_entered, distinct_filtered, distinct_entered, or_false}

-- ---- marking

next_one : (p : Text) (rest : List Text) (u : Option ℕ) (d : Device) → marked rest u (marked (p ∷ []) u d) ≡ marked (p ∷ rest) u d
next_one p rest u d =
    let same : (b : Bool) → cond b (record d { user = u }) (record d { user = u }) ≡ record d { user = u } = elim [ true ↦ refl | false ↦ refl ] in
    let cases : (a : Bool) → marked rest u (cond (a || false) (record d { user = u }) d) ≡ cond (a || has_path (path_in d) rest) (record d { user = u }) d = elim [ true ↦ same (has_path (path_in d) rest) | false ↦ refl ] in
    cases (bytes_eq p (path_in d))

pub marked_next : (p : Text) (rest : List Text) (u : Option ℕ) (ds : List Device) → map (marked rest u) (map (marked (p ∷ []) u) ds) ≡ map (marked (p ∷ rest) u) ds
marked_next p rest u [] = refl
marked_next p rest u (d ∷ ds) = ap (λ e. e ∷ map (marked rest u) (map (marked (p ∷ []) u) ds)) (next_one p rest u d) ∙ ap (λ es. marked (p ∷ rest) u d ∷ es) (marked_next p rest u ds)

pub marked_none : (u : Option ℕ) (ds : List Device) → map (marked [] u) ds ≡ ds
marked_none u [] = refl
marked_none u (d ∷ ds) = ap (λ es. d ∷ es) (marked_none u ds)

row_kept : (ps : List Text) (u : Option ℕ) (d : Device) → row_in (marked ps u d) ≡ row_in d
row_kept ps u d =
    let cases : (b : Bool) → row_in (cond b (record d { user = u }) d) ≡ row_in d = elim [ true ↦ refl | false ↦ refl ] in
    cases (has_path (path_in d) ps)

pub rows_kept : (ps : List Text) (u : Option ℕ) (ds : List Device) → map row_in (map (marked ps u) ds) ≡ map row_in ds
rows_kept ps u [] = refl
rows_kept ps u (d ∷ ds) = ap (λ r. r ∷ map row_in (map (marked ps u) ds)) (row_kept ps u d) ∙ ap (λ rs. row_in d ∷ rs) (rows_kept ps u ds)

pub paths_kept : (ps : List Text) (u : Option ℕ) (ds : List Device) → map path_in (map (marked ps u) ds) ≡ map path_in ds
paths_kept ps u [] = refl
paths_kept ps u (d ∷ ds) = ap (λ (r : DevRow). r.path ∷ map path_in (map (marked ps u) ds)) (row_kept ps u d) ∙ ap (λ rs. path_in d ∷ rs) (paths_kept ps u ds)

pub marked_one : (p : Text) (u : Option ℕ) (ds : List Device) → map (marked (p ∷ []) u) ds ≡ map (λ (d : Device). cond (bytes_eq (path_in d) p) (record d { user = u }) d) ds
marked_one p u [] = refl
marked_one p u (d ∷ ds) =
    let first : marked (p ∷ []) u d ≡ cond (bytes_eq (path_in d) p) (record d { user = u }) d = ap (λ b. cond b (record d { user = u }) d) (or_false (bytes_eq p (path_in d)) ∙ eq_turned p (path_in d)) in
    ap (λ e. e ∷ map (marked (p ∷ []) u) ds) first ∙ ap (λ es. cond (bytes_eq (path_in d) p) (record d { user = u }) d ∷ es) (marked_one p u ds)

-- ---- paths and serials

has_eq : (x y : Text) (ps : List Text) → x ≡ y → has_path x ps ≡ has_path y ps
has_eq x y ps same = ap (λ z. has_path z ps) same

-- what holds of each path holds of one that is there
at_path : (P : Text → Type 0) (x : Text) (ps : List Text) → AllByRecursion P ps → has_path x ps ≡ true → P x
at_path P x [] all there = absurd cc
at_path P x (p ∷ ps) all there =
    let cases : (b : Bool) → bytes_eq p x ≡ b → (b || has_path x ps) ≡ true → P x = elim [ true ↦ (λ e h. subst P (eq_same p x e) all.0) | false ↦ (λ e h. at_path P x ps all.1 h) ] in
    cases (bytes_eq p x) refl there

or_true : (a b : Bool) → b ≡ true → (a || b) ≡ true
or_true true b h = refl
or_true false b h = h

each_in : (ps qs : List Text) → ((x : Text) → has_path x ps ≡ true → has_path x qs ≡ true) → AllByRecursion (λ x. has_path x qs ≡ true) ps
each_in [] qs within = tt
each_in (p ∷ ps) qs within =
    let first : has_path p (p ∷ ps) ≡ true = ap (λ b. b || has_path p ps) (eq_self p) in
    (within p first, each_in ps qs (λ x h. within x (or_true (bytes_eq p x) (has_path x ps) h)))

pub same_number : (m n : ℕ) → eqb m n ≡ true → m ≡ n
same_number m n = (Decides-eqb m n).0

pub number_self : (n : ℕ) → eqb n n ≡ true
number_self n = (Decides-eqb n n).1 refl

pub number_turned : (m n : ℕ) → eqb m n ≡ false → eqb n m ≡ false
number_turned m n h = here (eqb n m) refl
  where
    here : (b : Bool) → eqb n m ≡ b → b ≡ false
    here true e = absurd (let g : eqb m n ≡ true = (Decides-eqb m n).1 (sym (same_number n m e)) in cc)
    here false e = refl

-- ---- lists

all_both : {A B : Type 0} (g : A → B) (P T : A → Type 0) (Q : B → Type 0) → ((x : A) → P x → T x → Q (g x)) → (xs : List A) → AllByRecursion P xs → AllByRecursion T xs → AllByRecursion Q (map g xs)
all_both g P T Q f [] h k = tt
all_both g P T Q f (x ∷ xs) h k = (f x h.0 k.0, all_both g P T Q f xs h.1 k.1)

at_found : {A B : Type 0} (f : A → B) (P : B → Type 0) (q : A → Bool) (xs : List A) (x : A) → AllByRecursion P (map f xs) → find q xs ≡ Some x → P (f x)
at_found f P q [] x all h = absurd cc
at_found f P q (y ∷ ys) x all h =
    let cases : (b : Bool) → cond b (Some y) (find q ys) ≡ Some x → P (f x) = elim [ true ↦ (λ k. let same : y ≡ x = cc in subst (λ z. P (f z)) same all.0) | false ↦ (λ k. at_found f P q ys x all.1 k) ] in
    cases (q y) h

found_all : {A : Type 0} (P : A → Type 0) (q : A → Bool) (xs : List A) (x : A) → AllByRecursion P xs → find q xs ≡ Some x → P x
found_all P q [] x all h = absurd cc
found_all P q (y ∷ ys) x all h =
    let cases : (b : Bool) → cond b (Some y) (find q ys) ≡ Some x → P x = elim [ true ↦ (λ k. let same : y ≡ x = cc in subst P same all.0) | false ↦ (λ k. found_all P q ys x all.1 k) ] in
    cases (q y) h

abbrev serial_of : TablePool → ℕ
serial_of pool = pool.known.serial

abbrev uses_as : Text → Option ℕ → TablePool → Type 0
uses_as path user pool = is_used path pool.known ≡ is_user user pool.known.serial

all_off : (path : Text) (s : ℕ) (pools : List TablePool) → AllByRecursion (uses_as path (Some s)) pools → has_serial s pools ≡ false → AllByRecursion (uses_as path None) pools
all_off path s [] all none = tt
all_off path s (q ∷ pools) all none = (all.0 ∙ or_first (eqb q.known.serial s) (has_serial s pools) none, all_off path s pools all.1 (or_second (eqb q.known.serial s) (has_serial s pools) none))

none_uses : (path : Text) (pools : List TablePool) → AllByRecursion (uses_as path None) pools → list_any (λ (pool : TablePool). is_used path pool.known) pools ≡ false
none_uses path [] all = refl
none_uses path (q ∷ pools) all = let e : is_used path q.known ≡ false = all.0 in rw e (none_uses path pools all.1)

both_off : (path : Text) (s : ℕ) (pools : List TablePool) → list_any (λ (pool : TablePool). is_used path pool.known) pools ≡ false → has_serial s pools ≡ false → AllByRecursion (uses_as path (Some s)) pools
both_off path s [] free none = tt
both_off path s (q ∷ pools) free none = (
  or_first (is_used path q.known) _ free ∙ sym (or_first (eqb q.known.serial s) (has_serial s pools) none),
  both_off path s pools (or_second (is_used path q.known) _ free) (or_second (eqb q.known.serial s) (has_serial s pools) none),
)

user_told : (u : Option ℕ) (s : ℕ) → is_user u s ≡ true → u ≡ Some s
user_told None s h = absurd cc
user_told (Some v) s h = ap Some (sym (same_number s v h))

device_of : (P : Device → Type 0) (path : Text) (ds : List Device) → AllByRecursion P ds → is_some (row_of path (map row_in ds)) ≡ true → (d : Device) × (bytes_eq (path_in d) path ≡ true) × P d
device_of P path [] all h = absurd cc
device_of P path (d ∷ ds) all h =
    let cases : (b : Bool) → bytes_eq (path_in d) path ≡ b → is_some (cond b (Some (row_in d)) (row_of path (map row_in ds))) ≡ true → (d : Device) × (bytes_eq (path_in d) path ≡ true) × P d = elim [ true ↦ (λ e k. (d, e, all.0)) | false ↦ (λ e k. device_of P path ds all.1 k) ] in
    cases (bytes_eq (path_in d) path) refl h

is_there_more : (path : Text) (row : DevRow) (rows : List DevRow) → is_some (row_of path rows) ≡ true → is_some (row_of path (row ∷ rows)) ≡ true
is_there_more path row rows h =
    let cases : (b : Bool) → is_some (cond b (Some row) (row_of path rows)) ≡ true = elim [ true ↦ refl | false ↦ h ] in
    cases (bytes_eq row.path path)

each_there : (ds : List Device) → AllByRecursion (λ (d : Device). is_some (row_of (path_in d) (map row_in ds)) ≡ true) ds
each_there [] = tt
each_there (d ∷ ds) =
    let e : bytes_eq (path_in d) (path_in d) ≡ true = eq_self (path_in d) in
    (rw e refl, weaker (λ (x : Device). is_some (row_of (path_in x) (map row_in ds)) ≡ true) (λ (x : Device). is_some (row_of (path_in x) (map row_in (d ∷ ds))) ≡ true) (λ x h. is_there_more (path_in x) (row_in d) (map row_in ds) h) ds (each_there ds))

-- ---- a pool is taken out

serial_none : (s : ℕ) (pools : List TablePool) → AllByRecursion (λ n. nat_eq s n ≡ false) (map serial_of pools) → has_serial s pools ≡ false
serial_none s [] all = refl
serial_none s (q ∷ pools) all = let e : eqb q.known.serial s ≡ false = number_turned s q.known.serial all.0 in rw e (serial_none s pools all.1)

none_serial : (s : ℕ) (pools : List TablePool) → has_serial s pools ≡ false → AllByRecursion (λ n. nat_eq n s ≡ false) (map serial_of pools)
none_serial s [] h = tt
none_serial s (q ∷ pools) h = (or_first (eqb q.known.serial s) (has_serial s pools) h, none_serial s pools (or_second (eqb q.known.serial s) (has_serial s pools) h))

none_serial_turned : (s : ℕ) (pools : List TablePool) → has_serial s pools ≡ false → AllByRecursion (λ n. nat_eq s n ≡ false) (map serial_of pools)
none_serial_turned s [] h = tt
none_serial_turned s (q ∷ pools) h = (number_turned q.known.serial s (or_first (eqb q.known.serial s) (has_serial s pools) h), none_serial_turned s pools (or_second (eqb q.known.serial s) (has_serial s pools) h))

module _ (name : Text) where
  alone : (x : TablePool) (l : List TablePool) → IsRising (map name_of (x ∷ l)) → is_named name x ≡ true → without name l ≡ l
  alone x l rising e = filter_none name_of (is_named name) l (others_differ name_of (name_of x) l (rising_first name_of x l rising) name e)

  pub name_gone : (pools : List TablePool) → knows name (without name pools) ≡ false
  name_gone [] = refl
  name_gone (x ∷ l) =
      let cases : (b : Bool) → is_named name x ≡ b → knows name (cond (not b) (x ∷ without name l) (without name l)) ≡ false = elim [ true ↦ (λ e. name_gone l) | false ↦ (λ e. rw e (name_gone l)) ] in
      cases (is_named name x) refl

  pub serial_gone : (pools : List TablePool) (p : TablePool) → IsRising (map name_of pools) → IsDistinct nat_eq (map serial_of pools) → pool_named name pools ≡ Some p → has_serial p.known.serial (without name pools) ≡ false
  serial_gone [] p rising distinct h = absurd cc
  serial_gone (x ∷ l) p rising distinct h =
      let first = IsDistinct-head nat_eq (serial_of x) (map serial_of l) distinct in
      let cases : (b : Bool) → is_named name x ≡ b → cond b (Some x) (pool_named name l) ≡ Some p → has_serial p.known.serial (cond (not b) (x ∷ without name l) (without name l)) ≡ false = elim [
        | true ↦ (λ e k. let same : x ≡ p = cc in subst (λ q. has_serial (serial_of q) (without name l) ≡ false) same (ap (has_serial (serial_of x)) (alone x l rising e) ∙ serial_none (serial_of x) l first))
        | false ↦ (λ e k. let other : eqb (serial_of x) (serial_of p) ≡ false = at_found serial_of (λ n. nat_eq (serial_of x) n ≡ false) (is_named name) l p first k in rw other (serial_gone l p (rising_rest name_of x l rising) (IsDistinct-tail nat_eq (serial_of x) (map serial_of l) distinct) k))
      ] in
      cases (is_named name x) refl h

  serial_left : (u : ℕ) (pools : List TablePool) (p : TablePool) → IsRising (map name_of pools) → pool_named name pools ≡ Some p → eqb (serial_of p) u ≡ false → has_serial u pools ≡ true → has_serial u (without name pools) ≡ true
  serial_left u [] p rising h other there = absurd cc
  serial_left u (x ∷ l) p rising h other there =
      let cases : (b : Bool) → is_named name x ≡ b → cond b (Some x) (pool_named name l) ≡ Some p → has_serial u (cond (not b) (x ∷ without name l) (without name l)) ≡ true = elim [
        | true ↦ (λ e k. let same : p ≡ x = cc in let off : eqb (serial_of x) u ≡ false = subst (λ q. eqb (serial_of q) u ≡ false) same other in ap (has_serial u) (alone x l rising e) ∙ (ap (λ b. b || has_serial u l) (sym off) ∙ there))
        | false ↦ (λ e k. kept (eqb (serial_of x) u) (has_serial u l) (has_serial u (without name l)) (serial_left u l p (rising_rest name_of x l rising) k other) there)
      ] in
      cases (is_named name x) refl h
    where
      kept : (a b c : Bool) → (b ≡ true → c ≡ true) → (a || b) ≡ true → (a || c) ≡ true
      kept true b c f h = refl
      kept false b c f h = f h

  known_left : (u : Option ℕ) (pools : List TablePool) (p : TablePool) → IsRising (map name_of pools) → pool_named name pools ≡ Some p → is_user u (serial_of p) ≡ false → is_known u pools ≡ true → is_known u (without name pools) ≡ true
  known_left None pools p rising h other there = refl
  known_left (Some v) pools p rising h other there = serial_left v pools p rising h other there

  taken_out_one : (pools : List TablePool) (p : TablePool) (d : Device) → IsRising (map name_of pools) → IsDistinct nat_eq (map serial_of pools) → pool_named name pools ≡ Some p → IsMarked pools d → IsMarked (without name pools) (marked p.known.devices None d)
  taken_out_one pools p d rising distinct h m =
      let own : uses_as (path_in d) d.user p = found_all (uses_as (path_in d) d.user) (is_named name) pools p m.uses h in
      let left = all_filtered name_of (uses_as (path_in d) d.user) (λ (q : TablePool). not (is_named name q)) pools m.uses in
      let gone = serial_gone pools p rising distinct h in
      let cases : (b : Bool) → has_path (path_in d) p.known.devices ≡ b → IsMarked (without name pools) (cond b (record d { user = None }) d) = elim [
        | true ↦ (λ e. record { uses = all_off (path_in d) (serial_of p) (without name pools) (subst (λ u. AllByRecursion (uses_as (path_in d) u) (without name pools)) (user_told d.user (serial_of p) (sym own ∙ e)) left) gone; known = refl })
        | false ↦ (λ e. record { uses = left; known = known_left d.user pools p rising h (sym own ∙ e) m.known })
      ] in
      cases (has_path (path_in d) p.known.devices) refl

  pub taken_out : (ds : List Device) (pools : List TablePool) (p : TablePool) → IsSound ds pools → pool_named name pools ≡ Some p → IsSound (map (marked p.known.devices None) ds) (without name pools)
  taken_out ds pools p sound h = record {
    names = rising_filtered name_of (λ (q : TablePool). not (is_named name q)) pools sound.names;
    paths = subst IsRising (sym (paths_kept p.known.devices None ds)) sound.paths;
    serials = distinct_filtered name_of serial_of (λ (q : TablePool). not (is_named name q)) pools sound.serials;
    marks = all_both (marked p.known.devices None) (IsMarked pools) (IsMarked pools) (IsMarked (without name pools)) (λ d m n. taken_out_one pools p d sound.names sound.serials h m) ds sound.marks sound.marks;
  }

  free_one : (ds : List Device) (pools : List TablePool) (p : TablePool) → IsSound ds pools → pool_named name pools ≡ Some p → (path : Text) → has_path path p.known.devices ≡ true → IsFree (without name pools) (map row_in ds) path
  free_one ds pools p sound h path has there =
      let dev = device_of (IsMarked pools) path ds sound.marks there in
      let same : path_in dev.0 ≡ path = eq_same (path_in dev.0) path dev.1 in
      let own : uses_as (path_in dev.0) dev.0.user p = found_all (uses_as (path_in dev.0) dev.0.user) (is_named name) pools p dev.2.uses h in
      let user : dev.0.user ≡ Some (serial_of p) = user_told dev.0.user (serial_of p) (sym own ∙ (ap (λ t. has_path t p.known.devices) same ∙ has)) in
      let left = all_filtered name_of (uses_as (path_in dev.0) dev.0.user) (λ (q : TablePool). not (is_named name q)) pools dev.2.uses in
      let off = all_off (path_in dev.0) (serial_of p) (without name pools) (subst (λ u. AllByRecursion (uses_as (path_in dev.0) u) (without name pools)) user left) (serial_gone pools p sound.names sound.serials h) in
      subst (λ t. list_any (λ (pool : TablePool). is_used t pool.known) (without name pools) ≡ false) same (none_uses (path_in dev.0) (without name pools) off)

  pub free_left : (ds : List Device) (pools : List TablePool) (p : TablePool) → IsSound ds pools → pool_named name pools ≡ Some p → AllByRecursion (IsFree (without name pools) (map row_in ds)) p.known.devices
  free_left ds pools p sound h = weaker (λ path. has_path path p.known.devices ≡ true) (IsFree (without name pools) (map row_in ds)) (free_one ds pools p sound h) p.known.devices (each_in p.known.devices p.known.devices (λ x k. k))

-- ---- a pool is put in

not_user : (u : Option ℕ) (s : ℕ) (pools : List TablePool) → is_known u pools ≡ true → has_serial s pools ≡ false → is_user u s ≡ false
not_user None s pools known none = refl
not_user (Some v) s pools known none = here (eqb s v) refl
  where
    here : (b : Bool) → eqb s v ≡ b → b ≡ false
    here true e = absurd (let same : s ≡ v = same_number s v e in let there : has_serial s pools ≡ true = subst (λ n. has_serial n pools ≡ true) (sym same) known in cc)
    here false e = refl

known_more : (u : Option ℕ) (p : TablePool) (pools : List TablePool) → is_known u pools ≡ true → is_known u (with_pool p pools) ≡ true
known_more None p pools h = refl
known_more (Some v) p pools h = any_entered name_of (λ (q : TablePool). eqb q.known.serial v) p pools ∙ or_true (eqb p.known.serial v) (has_serial v pools) h

put_in_one : (rows : List DevRow) (pools : List TablePool) (p : TablePool) → has_serial p.known.serial pools ≡ false → AllByRecursion (IsFree pools rows) p.known.devices
    → (d : Device) → IsMarked pools d → is_some (row_of (path_in d) rows) ≡ true → IsMarked (with_pool p pools) (marked p.known.devices (Some p.known.serial) d)
put_in_one rows pools p new free d m there =
    let self : eqb p.known.serial p.known.serial ≡ true = number_self p.known.serial in
    let cases : (b : Bool) → has_path (path_in d) p.known.devices ≡ b → IsMarked (with_pool p pools) (cond b (record d { user = Some p.known.serial }) d) = elim [
      | true ↦ (λ e. record {
        uses = all_entered name_of (uses_as (path_in d) (Some p.known.serial)) p pools (e ∙ sym self) (both_off (path_in d) p.known.serial pools (at_path (IsFree pools rows) (path_in d) p.known.devices free e there) new);
        known = any_entered name_of (λ (q : TablePool). eqb q.known.serial p.known.serial) p pools ∙ ap (λ b. b || has_serial p.known.serial pools) self;
      })
      | false ↦ (λ e. record {
        uses = all_entered name_of (uses_as (path_in d) d.user) p pools (e ∙ sym (not_user d.user p.known.serial pools m.known new)) m.uses;
        known = known_more d.user p pools m.known;
      })
    ] in
    cases (has_path (path_in d) p.known.devices) refl

pub put_in : (ds : List Device) (pools : List TablePool) (p : TablePool) → IsSound ds pools → knows p.known.name pools ≡ false → has_serial p.known.serial pools ≡ false
    → AllByRecursion (IsFree pools (map row_in ds)) p.known.devices → IsSound (map (marked p.known.devices (Some p.known.serial)) ds) (with_pool p pools)
put_in ds pools p sound named new free = record {
  names = rising_entered name_of p pools sound.names named;
  paths = subst IsRising (sym (paths_kept p.known.devices (Some p.known.serial) ds)) sound.paths;
  serials = distinct_entered name_of serial_of p pools sound.serials (none_serial_turned p.known.serial pools new) (none_serial p.known.serial pools new);
  marks = all_both (marked p.known.devices (Some p.known.serial)) (IsMarked pools) (λ (d : Device). is_some (row_of (path_in d) (map row_in ds)) ≡ true) (IsMarked (with_pool p pools)) (put_in_one (map row_in ds) pools p new free) ds sound.marks (each_there ds);
}

-- ---- what the marks tell

pub user_is : (path : Text) (u : Option ℕ) (pools : List TablePool) → AllByRecursion (uses_as path u) pools → find (is_used path) (names_of pools) ≡ option_map (λ (pool : TablePool). pool.known) (user_among u pools)
user_is path None [] all = refl
user_is path None (q ∷ pools) all = let e : is_used path q.known ≡ false = all.0 in rw e (user_is path None pools all.1)
user_is path (Some s) [] all = refl
user_is path (Some s) (q ∷ pools) all =
    let e : is_used path q.known ≡ eqb q.known.serial s = all.0 in
    let cases : (b : Bool) → cond b (Some q.known) (find (is_used path) (names_of pools)) ≡ option_map (λ (pool : TablePool). pool.known) (cond b (Some q) (user_among (Some s) pools)) = elim [ true ↦ refl | false ↦ user_is path (Some s) pools all.1 ] in
    rw e (cases (eqb q.known.serial s))

known_found : (s : ℕ) (pools : List TablePool) → has_serial s pools ≡ true → is_some (user_among (Some s) pools) ≡ true
known_found s [] h = absurd cc
known_found s (q ∷ pools) h =
    let cases : (b : Bool) → (b || has_serial s pools) ≡ true → is_some (cond b (Some q) (user_among (Some s) pools)) ≡ true = elim [ true ↦ (λ k. refl) | false ↦ (λ k. known_found s pools k) ] in
    cases (eqb q.known.serial s) h

free_told : (u : Option ℕ) (pools : List TablePool) → is_known u pools ≡ true → is_none u ≡ is_none (option_map (λ (pool : TablePool). pool.known) (user_among u pools))
free_told None pools h = refl
free_told (Some s) pools h = here (user_among (Some s) pools) (known_found s pools h)
  where
    here : (o : Option TablePool) → is_some o ≡ true → false ≡ is_none (option_map (λ (pool : TablePool). pool.known) o)
    here None k = absurd cc
    here (Some q) k = refl

free_mark : (pools : List TablePool) (d : Device) → IsMarked pools d → is_none d.user ≡ is_none (find (is_used (path_in d)) (names_of pools))
free_mark pools d m = free_told d.user pools m.known ∙ ap is_none (sym (user_is (path_in d) d.user pools m.uses))

pub free_is : (pools : List TablePool) (ds : List Device) → AllByRecursion (IsMarked pools) ds → map path_in (filter (λ (d : Device). is_none d.user) ds) ≡ free_of (names_of pools) (map row_in ds)
free_is pools [] all = refl
free_is pools (d ∷ ds) all =
    let rest = free_is pools ds all.1 in
    let cases : (b : Bool) → map path_in (cond b (d ∷ filter (λ (x : Device). is_none x.user) ds) (filter (λ (x : Device). is_none x.user) ds)) ≡ map (λ (row : DevRow). row.path) (cond b (row_in d ∷ filter (λ (row : DevRow). is_none (find (is_used row.path) (names_of pools))) (map row_in ds)) (filter (λ (row : DevRow). is_none (find (is_used row.path) (names_of pools))) (map row_in ds))) = elim [ true ↦ ap (λ ps. path_in d ∷ ps) rest | false ↦ rest ] in
    rw (free_mark pools d all.0) (cases (is_none (find (is_used (path_in d)) (names_of pools))))

-- no pool uses a device that isn't marked
pub unmarked_sound : (ds : List Device) → IsRising (map path_in ds) → AllByRecursion (λ (d : Device). d.user ≡ None) ds → IsSound ds []
unfolding IsDistinct IsStrictlySortedBy
unmarked_sound ds rising all = record {
  names = tt;
  paths = rising;
  serials = tt;
  marks = weaker (λ (d : Device). d.user ≡ None) (IsMarked []) (λ d h. record { uses = tt; known = ap (λ u. is_known u []) h }) ds all;
}
