-- every list of calls hands blocks out in the order in which they were added
use Rattle.std.proofs.Common.{◌≡◌, ℕ, Bool, true, false, List, [], ◌∷◌, ◌++◌, length, take, drop, nat_le, if◌then◌else◌, refl, sym, subst, ap, ◌∙◌, arith}
use Rattle.std.proofs.lemmas.List.{append-nil, append_assoc, take-append-drop, get_or_append_left, length-append}
use Rattle.st_seg.specs.Blocks.{Block, NoneTwice}
use Rattle.st_seg.specs.Stock.{Stock, empty_stock, with_blocks, after_taking, added}
use Rattle.st_seg.specs.Calls.{Call, adding, taking, after_call, after_calls, added_by}

pub added-taking : (stock : Stock) (n : ℕ) → added (after_taking stock n) ≡ added stock
added-taking stock n = append_assoc stock.taken (take n stock.free) (drop n stock.free) ∙ ap (λ bs. stock.taken ++ bs) (take-append-drop n stock.free)

pub added-adding : (stock : Stock) (more : List Block) → added (with_blocks stock more) ≡ added stock ++ more
added-adding stock more = sym (append_assoc stock.taken stock.free more)

added-if : (stock : Stock) (n : ℕ) (room : Bool) → added (if room then after_taking stock n else stock) ≡ added stock
added-if stock n true = added-taking stock n
added-if stock n false = refl

added_from : (calls : List Call) (stock : Stock) → added (after_calls stock calls) ≡ added stock ++ added_by calls
added_from [] stock = sym (append-nil (added stock))
added_from (adding more ∷ calls) stock =
    added_from calls (with_blocks stock more)
    ∙ (ap (λ bs. bs ++ added_by calls) (added-adding stock more)
    ∙ append_assoc (added stock) more (added_by calls))
added_from (taking n ∷ calls) stock =
    added_from calls (after_call stock (taking n))
    ∙ ap (λ bs. bs ++ added_by calls) (added-if stock n (nat_le n (length stock.free)))

pub all_added : (calls : List Call) → added (after_calls empty_stock calls) ≡ added_by calls
all_added calls = added_from calls empty_stock

pub NoneTwice-front : (xs ys : List Block) → NoneTwice (xs ++ ys) → NoneTwice xs
NoneTwice-front xs ys h i j d below within e =
    h i j d below (omega (arith, length-append xs ys))
    (get_or_append_left xs ys d i (omega arith) ∙ (e ∙ sym (get_or_append_left xs ys d j within)))

pub taken_apart : (calls : List Call) → NoneTwice (added_by calls) → NoneTwice (after_calls empty_stock calls).taken
taken_apart calls h =
    let stock = after_calls empty_stock calls in
    NoneTwice-front stock.taken stock.free (subst NoneTwice (sym (all_added calls)) h)

-- the first n free blocks and those that were handed out before
pub next_apart : (stock : Stock) (table blocks : List Block) (n : ℕ) → stock.taken ≡ table → blocks ≡ take n stock.free → NoneTwice (added stock) → NoneTwice (table ++ blocks)
next_apart stock table blocks n taken_is blocks_is h =
    let whole : NoneTwice ((stock.taken ++ take n stock.free) ++ drop n stock.free) = subst NoneTwice (sym (added-taking stock n)) h in
    let front : NoneTwice (stock.taken ++ take n stock.free) = NoneTwice-front (stock.taken ++ take n stock.free) (drop n stock.free) whole in
    let there : NoneTwice (table ++ take n stock.free) = subst (λ (bs : List Block). NoneTwice (bs ++ take n stock.free)) taken_is front in
    subst (λ (bs : List Block). NoneTwice (table ++ bs)) (sym blocks_is) there
