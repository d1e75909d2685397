-- a call in flight stays one that would have been accepted
use Rattle.std.proofs.Common.{◌≡◌, ℕ, suc, ◌+◌, ◌<◌, ◌≤◌, ◌^◌, ◌==◌, List, [], ◌∷◌, ◌++◌, length, Bool, true, false, ◌||◌, not, filter, cond, Option, Some, None, is_some, is_none, option_map, bytes_eq, nat_lt, nat_le, subst, sym, ◌∙◌, ap, refl, length-append, arith}
use Rattle.std.specs.List.{AllByRecursion, find}
use Rattle.std.proofs.lemmas.Grind.{common_steps}
use Rattle.st_units.specs.declared.cause.Cause.TheVariants.{EmptyDevices, NoSuchDevice, DeviceTooSmall, DeviceInUse, TooManyPools, TooManyDevices}
use Rattle.st_model.specs.declared.reply.Reply.{Reply}
use Rattle.st_model.specs.declared.state.PoolState.{PoolState}
use Rattle.st_model.specs.declared.state.EngineState.{EngineState}
use Rattle.st_model.specs.Look.{Text, row_of, first_absent, distinct, uses, pool_using, first_used, holds, holder}
use Rattle.st_model.specs.Answer.{first_answer, refused_by, refused_where, unless_answered}
use Rattle.st_model.specs.steps.CreatePool.{create_answers, create_answer, create_plain, answer_held}
use Rattle.st_model.specs.Checks.{in_use, first_small, sectors_of}
use Rattle.st_model.specs.Valid.{is_there}
use Rattle.st_model.proofs.Fresh.{FreeOf, IsFresh}
use Rattle.st_model.proofs.Lists.{All-weaker, All-distinct}

module _ {X : Type 0} where
  pub find_none : (p : X → Bool) (xs : List X) → AllByRecursion (λ x. p x ≡ false) xs → find p xs ≡ None
  find_none p [] h = refl
  find_none p (x ∷ xs) h = rw h.0 (find_none p xs h.1)

  pub find_same : (p q : X → Bool) (xs : List X) → AllByRecursion (λ x. p x ≡ q x) xs → find p xs ≡ find q xs
  find_same p q [] h = refl
  find_same p q (x ∷ xs) h = rw h.0 (ap (λ o. cond (q x) (Some x) o) (find_same p q xs h.1))

  pub find_but_last : (p : X → Bool) (xs : List X) (y : X) → p y ≡ false → find p (xs ++ y ∷ []) ≡ find p xs
  find_but_last p [] y h = rw h refl
  find_but_last p (x ∷ xs) y h = ap (λ o. cond (p x) (Some x) o) (find_but_last p xs y h)

  found_one : (b : Bool) (P : X → Type 0) (x y : X) (o : Option X) → P x → cond b (Some x) o ≡ Some y → (o ≡ Some y → P y) → P y
  found_one true P x y o g e f = let same : x ≡ y = cc in subst P same g
  found_one false P x y o g e f = f e

  pub found-holds : (P : X → Type 0) (p : X → Bool) (xs : List X) (y : X) → AllByRecursion P xs → find p xs ≡ Some y → P y
  found-holds P p [] y h e = absurd cc
  found-holds P p (x ∷ xs) y h e = found_one (p x) P x y (find p xs) h.0 e (found-holds P p xs y h.1)

  pub filter_all : (p : X → Bool) (xs : List X) → AllByRecursion (λ x. p x ≡ true) xs → filter p xs ≡ xs
  filter_all p [] h = refl
  filter_all p (x ∷ xs) h = rw h.0 (ap (λ t. x ∷ t) (filter_all p xs h.1))

  shorter : (b : Bool) (x : X) (t : List X) (n : ℕ) → length t ≤ n → length (cond b (x ∷ t) t) ≤ suc n
  shorter true x t n h = omega (arith, h)
  shorter false x t n h = omega (arith, h)

  pub filter_shorter : (p : X → Bool) (xs : List X) → length (filter p xs) ≤ length xs
  filter_shorter p [] = omega arith
  filter_shorter p (x ∷ xs) = shorter (p x) x (filter p xs) (length xs) (filter_shorter p xs)

pub none_first : (answers : List (Option Reply)) → AllByRecursion (λ o. o ≡ None) answers → first_answer answers ≡ None
none_first [] h = refl
none_first (None ∷ answers) h = none_first answers h.1
none_first (Some r ∷ answers) h = absurd cc

not_none : (o : Bool) → o ≡ true → not o ≡ false
not_none true h = refl
not_none false h = absurd cc

pub there_is : {X : Type 0} (o : Option X) → is_some o ≡ true → is_none o ≡ false
there_is None h = absurd cc
there_is (Some x) h = refl

pub no_less : (n : ℕ) → 8192 ≤ n → nat_lt n 8192 ≡ false
no_less n h = grind (arith, common_steps)

pub no_user : (pools : List PoolState) (path : Text) → FreeOf pools path → is_some (pool_using path pools) ≡ false
no_user pools path h = rw (find_none (uses path) pools h) refl

some_distinct : (paths : List Text) → (length paths == 0) ≡ false → (length (distinct paths) == 0) ≡ false
some_distinct [] h = absurd cc
some_distinct (path ∷ paths) h = grind (arith, common_steps)

pub distinct_shorter : (paths : List Text) → length (distinct paths) ≤ length paths
distinct_shorter [] = omega arith
distinct_shorter (path ∷ paths) =
    let fewer = filter_shorter (λ q. not (bytes_eq path q)) (distinct paths) in
    let rest = distinct_shorter paths in
    omega (arith, fewer, rest)

pub not_many : (n : ℕ) → n ≤ 16 → nat_lt 16 n ≡ false
not_many n h = grind (arith, common_steps)

not_full : (count next : ℕ) → count < 16 → next ≤ 2 ^ 48 → (nat_le 16 count || nat_lt (2 ^ 48) next) ≡ false
not_full count next h g = grind (arith, common_steps)

-- where nothing stands against the call, nothing stands against it with each device once
pub fresh-unanswered : (s : EngineState) (name : Text) (paths : List Text) → IsFresh s name paths → create_answer s name (distinct paths) ≡ None
unfolding create_answer
fresh-unanswered s name paths fresh =
    let devices = distinct paths in
    let absent : first_absent devices s.devices ≡ None = find_none _ devices (All-weaker _ _ devices (λ path. there_is (row_of path s.devices)) (All-distinct (λ path. is_there s.devices path ≡ true) paths fresh.there)) in
    let unheld : holder name s.pools ≡ None = find_none (holds name) s.pools fresh.names in
    let unused : first_used devices s.pools ≡ None = find_none _ devices (All-weaker _ _ devices (no_user s.pools) (All-distinct (FreeOf s.pools) paths fresh.paths_free)) in
    let large : first_small devices s.devices ≡ None = find_none _ devices (All-weaker _ _ devices (λ path. no_less (sectors_of path s.devices)) (All-distinct (λ path. 8192 ≤ sectors_of path s.devices) paths fresh.large)) in
    let fewer = distinct_shorter devices in
    none_first (create_answers s name devices) (
      ap (λ b. refused_where b EmptyDevices) (some_distinct paths fresh.some),
      (
        ap (λ o. refused_by (option_map NoSuchDevice o)) absent,
        (
          ap (answer_held name devices) unheld,
          (
            ap (λ o. refused_by (in_use s.pools o)) unused,
            (
              ap (λ o. refused_by (option_map DeviceTooSmall o)) large,
              (
                ap (λ b. refused_where b TooManyDevices) (not_many (length (distinct devices)) (omega (arith, fewer, fresh.few))),
                (ap (λ b. refused_where b TooManyPools) (not_full (length s.pools) s.next fresh.count fresh.room), tt),
              ),
            ),
          ),
        ),
      ),
    )

pub unanswered-accepted : (s : EngineState) (name : Text) (paths : List Text) → create_answer s name paths ≡ None → (create_plain s name paths).0.code ≡ 0
unfolding create_plain
unanswered-accepted s name paths h = rw h refl

-- a state with one more pool
abbrev pub one_more : EngineState → PoolState → EngineState
one_more t q = record t { pools = t.pools ++ q ∷ [] }

same_use : (t : EngineState) (q : PoolState) (paths : List Text) (o : Option Text) → ((path : Text) → o ≡ Some path → uses path q ≡ false) → in_use (t.pools ++ q ∷ []) o ≡ in_use t.pools o
same_use t q paths None h = refl
same_use t q paths (Some path) h = ap (λ u. option_map (λ (pool : PoolState). DeviceInUse path pool.name) u) (find_but_last (uses path) t.pools q (h path refl))

not_full_too : (count more next : ℕ) → more ≡ count + 1 → more < 16 → (nat_le 16 more || nat_lt (2 ^ 48) next) ≡ (nat_le 16 count || nat_lt (2 ^ 48) next)
not_full_too count more next e h =
    let first : nat_le 16 more ≡ false = grind (arith, common_steps) in
    let second : nat_le 16 count ≡ false = grind (arith, common_steps) in
    ap (λ b. b || nat_lt (2 ^ 48) next) (first ∙ sym second)

same_first : (e a m d h k u v f g : Option Reply) → h ≡ k → u ≡ v → f ≡ g
    → first_answer (e ∷ a ∷ h ∷ u ∷ m ∷ d ∷ f ∷ []) ≡ first_answer (e ∷ a ∷ k ∷ v ∷ m ∷ d ∷ g ∷ [])
same_first e a m d h k u v f g p q r =
    ap (λ x. first_answer (e ∷ a ∷ x ∷ u ∷ m ∷ d ∷ f ∷ [])) p
    ∙ ap (λ x. first_answer (e ∷ a ∷ k ∷ x ∷ m ∷ d ∷ f ∷ [])) q
    ∙ ap (λ x. first_answer (e ∷ a ∷ k ∷ v ∷ m ∷ d ∷ x ∷ [])) r

-- a pool of another name and on other devices, beside fewer than fifteen, doesn't change what the call is answered
pub same-answer : (t : EngineState) (q : PoolState) (name : Text) (paths : List Text) → holds name q ≡ false → AllByRecursion (λ path. uses path q ≡ false) paths → length t.pools < 15
    → create_answer (one_more t q) name paths ≡ create_answer t name paths
unfolding create_answer
same-answer t q name paths other free few =
    let pools = t.pools ++ q ∷ [] in
    let held : holder name pools ≡ holder name t.pools = find_but_last (holds name) t.pools q other in
    let first : first_used paths pools ≡ first_used paths t.pools = find_same _ _ paths (All-weaker _ _ paths (λ path h. ap is_some (find_but_last (uses path) t.pools q h)) free) in
    let used : in_use pools (first_used paths pools) ≡ in_use t.pools (first_used paths t.pools) =
    ap (in_use pools) first ∙ same_use t q paths (first_used paths t.pools) (λ path e. found-holds (λ x. uses x q ≡ false) _ paths path free e) in
    let more : length pools ≡ length t.pools + 1 = length-append t.pools (q ∷ []) in
    let full = not_full_too (length t.pools) (length pools) t.next more (omega (arith, more, few)) in
    same_first
    (refused_where (length paths == 0) EmptyDevices)
    (refused_by (option_map NoSuchDevice (first_absent paths t.devices)))
    (refused_by (option_map DeviceTooSmall (first_small paths t.devices)))
    (refused_where (nat_lt 16 (length (distinct paths))) TooManyDevices)
    _ _ _ _ _ _
    (ap (answer_held name paths) held)
    (ap refused_by used)
    (ap (λ b. refused_where b TooManyPools) full)

pub same-accepted : (s t : EngineState) (name : Text) (paths : List Text) → create_answer t name paths ≡ create_answer s name paths → (create_plain s name paths).0.code ≡ 0 → (create_plain t name paths).0.code ≡ 0
unfolding create_plain
same-accepted s t name paths e h = rw e (moved (create_answer s name paths) _ _ _ _ refl h)
  where
    moved : (a : Option Reply) (r q : Reply) (u v : EngineState) → q.code ≡ 0 → (unless_answered a s (r, u)).0.code ≡ 0 → (unless_answered a t (q, v)).0.code ≡ 0
    moved None r q u v zero h = zero
    moved (Some answer) r q u v zero h = h
