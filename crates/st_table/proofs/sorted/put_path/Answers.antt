use Rattle.std.proofs.Common.{◌≡◌, ◌∷◌, [], ◌||◌, Bool, true, false, List, Some, is_some, ap, sym, ◌∙◌, subst, refl, map, bytes_eq, insert, get_or}
use Rattle.std.specs.Prelude.{find}
use Rattle.std.specs.List.{list_any}
use Rattle.st_model.specs.Look.{Text, has_path}
use Rattle.st_order.specs.Sorted.{IsRising, entered}
use Rattle.st_order.proofs.Order.{eq_same, any_entered, rising_entered}
use Rattle.st_order.proofs.Lists.{any_found}
use Rattle.st_table.proofs.sorted.put_path.Goals as goal

same_text : Text → Text
same_text t = t

or_turned : (a b : Bool) → (a || b) ≡ (b || a)
or_turned true true = refl
or_turned true false = refl
or_turned false true = refl
or_turned false false = refl

or_there : (a b : Bool) → (b ≡ true → a ≡ true) → a ≡ (a || b)
or_there true b h = refl
or_there false true h = h refl
or_there false false h = refl

there : (list : List Text) (path : Text) (x : Text) → find (λ p. bytes_eq p path) list ≡ Some x → (p : Text) → has_path p list ≡ (has_path p list || bytes_eq path p)
there list path x h p =
    let has : has_path path list ≡ true = sym (any_found (λ q. bytes_eq q path) list) ∙ ap is_some h in
    or_there (has_path p list) (bytes_eq path p) (λ e. ap (λ t. has_path t list) (sym (eq_same path p e)) ∙ has)

map-same : (ts : List Text) → map (λ (t : Text). t) ts ≡ ts
map-same [] = refl
map-same (t ∷ ts) = ap (λ us. t ∷ us) (map-same ts)

rises : (list : List Text) (path : Text) → IsRising list → list_any (λ t. bytes_eq t path) list ≡ false → IsRising (entered (λ (t : Text). t) path list)
rises list path rising new =
    subst IsRising (map-same (entered (λ (t : Text). t) path list)) (rising_entered (λ (t : Text). t) path list (subst IsRising (sym (map-same list)) rising) new)

pub returns-in-Ok-clause-same : goal.returns-in-Ok-clause-same
returns-in-Ok-clause-same c = λ p. there c.args.list.now c.args.path.now (get_or c.args.list.now c.in-Ok.field-0 p) (rw (c.items.ensures, c.bytes.ensures.value) at (c.in-Ok.ensures.found p)) p

put : (c : goal.In_ok-insert-in-Err) → c.insert.new.self ≡ entered (λ (t : Text). t) c.args.path.now c.args.list.now
put c =
    let copy : c.in_ok-copy-in-Err.field-0 ≡ c.args.path.now = c.in_ok-copy-in-Err.ensures in
    let place = rw c.items.ensures at (c.in-Err.ensures.place c.args.path.now (sym c.bytes.ensures.value)) in
    c.in_ok-insert-in-Err.ensures.ok ∙ (ap (insert c.args.list.now c.in-Err.i) copy ∙ place)

pub returns-in_ok-insert-in-Err-clause-rising : goal.returns-in_ok-insert-in-Err-clause-rising
returns-in_ok-insert-in-Err-clause-rising c =
    rw (put c) (rises c.args.list.now c.args.path.now c.requires (rw (c.items.ensures, c.bytes.ensures.value) at c.in-Err.ensures.absent))

pub returns-in_ok-insert-in-Err-clause-same : goal.returns-in_ok-insert-in-Err-clause-same
returns-in_ok-insert-in-Err-clause-same c = λ p.
    ap (has_path p) (put c) ∙ (any_entered (λ (t : Text). t) (λ t. bytes_eq t p) c.args.path.now c.args.list.now ∙ or_turned (bytes_eq c.args.path.now p) (has_path p c.args.list.now))
