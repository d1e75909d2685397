use Rattle.std.proofs.Common.{◌≡◌, ◌<◌, ℕ, List, length, true, get_or, Option, ◌∙◌, sym, ap, subst}
use Rattle.std.specs.Option.{MatchOption}
use Rattle.std.proofs.lemmas.Bool.{false≢true}
use Rattle.st_limits.specs.Cache.{has}
use Rattle.st_links.specs.Arena.{row, after}
use Rattle.st_links.proofs.Calls.{read_at}
use Rattle.st_cachemap.specs.Cached.{Cached, place_in}
use Rattle.st_cachemap.specs.Sound.{used, bucket_of}
use Rattle.st_cachemap.proofs.Chain.{left_of, chain_first, chain_behind, chain_rest, chain_shorter, next_in_row}
use Rattle.st_cachemap.proofs.Entries.{found_at, not_found}
use Rattle.st_cachemap.proofs.Keeps.{used_within}
use Rattle.st_cachemap.proofs.Calls.{IsCached-from}
use Rattle.st_cachemap.proofs.cache_map.CacheMap.peek.Goals as goal

pub chain-init : goal.chain-init
chain-init c =
    let bucket : List ℕ = row c.self.inside.buckets.lists c.bucket_of-bucket.result in
    let first = chain_first bucket c.first-at.result c.first-at.ensures in
    (first.0, λ (q : ℕ) (h : has q bucket ≡ true) (e : get_or c.self.inside.cells.items q 0 ≡ c.args.cell). first.1 q h)

pub returns-then-index-cell-clause-place : goal.returns-then-index-cell-clause-place
returns-then-index-cell-clause-place c =
    let cells : List ℕ = c.self.inside.cells.items in
    let bucket : List ℕ = row c.self.inside.buckets.lists c.bucket_of-bucket.result in
    let there : has c.in-Some.place bucket ≡ true = subst (λ (o : Option ℕ). MatchOption o (Unit {0}) (λ (k : ℕ). has k bucket ≡ true)) c.in-Some.is c.chain.invariant.0 in
    let in_list = c.self.invariant.cached c.bucket_of-bucket.result c.in-Some.place there in
    let read : c.index.result.now ≡ get_or cells c.in-Some.place 0 = read_at _ _ _ c.index.ensures (used_within c.self.invariant c.in-Some.place in_list) in
    sym (found_at cells (used c.self.inside.order) c.in-Some.place c.args.cell c.self.invariant.unique in_list (sym read ∙ c.if-index-cell.true))
    ∙ ap (λ (v : Cached). place_in v.entries c.args.cell) c.self.view_is

pub returns-then-index-cell-clause-valid : goal.returns-then-index-cell-clause-valid
returns-then-index-cell-clause-valid c = IsCached-from c.self.invariant c.self.view_is

pub chain-smaller : goal.chain-smaller
chain-smaller c =
    let cells : List ℕ = c.self.inside.cells.items in
    let bucket : List ℕ = row c.self.inside.buckets.lists c.bucket_of-bucket.result in
    let there : has c.in-Some.place bucket ≡ true = subst (λ (o : Option ℕ). MatchOption o (Unit {0}) (λ (k : ℕ). has k bucket ≡ true)) c.in-Some.is c.chain.invariant.0 in
    let dist = c.self.invariant.bucket_arena.once c.bucket_of-bucket.result in
    let below : c.bucket_of-bucket.result < length c.self.inside.buckets.lists =
    subst (λ (k : ℕ). c.bucket_of-bucket.result < k) (c.len.ensures ∙ c.self.inside.cells.ok.0 ∙ sym c.self.invariant.bucket_lists) c.bucket_of-bucket.ensures.below in
    let behind : c.next-at.result ≡ after c.in-Some.place bucket =
    c.next-at.ensures ∙ next_in_row c.self.inside.buckets.lists c.self.inside.buckets.places c.bucket_of-bucket.result c.in-Some.place c.self.invariant.bucket_arena below there in
    let short = chain_shorter c.in-Some.place bucket dist there in
    subst (λ (o : Option ℕ). length (left_of o bucket) < length (left_of c.chain.at bucket)) (sym behind)
    (subst (λ (o : Option ℕ). length (left_of (after c.in-Some.place bucket) bucket) < length (left_of o bucket)) (sym c.in-Some.is) short)

pub chain-preserved : goal.chain-preserved
chain-preserved c =
    let cells : List ℕ = c.self.inside.cells.items in
    let bucket : List ℕ = row c.self.inside.buckets.lists c.bucket_of-bucket.result in
    let there : has c.in-Some.place bucket ≡ true = subst (λ (o : Option ℕ). MatchOption o (Unit {0}) (λ (k : ℕ). has k bucket ≡ true)) c.in-Some.is c.chain.invariant.0 in
    let dist = c.self.invariant.bucket_arena.once c.bucket_of-bucket.result in
    let below : c.bucket_of-bucket.result < length c.self.inside.buckets.lists =
    subst (λ (k : ℕ). c.bucket_of-bucket.result < k) (c.len.ensures ∙ c.self.inside.cells.ok.0 ∙ sym c.self.invariant.bucket_lists) c.bucket_of-bucket.ensures.below in
    let behind : c.next-at.result ≡ after c.in-Some.place bucket =
    c.next-at.ensures ∙ next_in_row c.self.inside.buckets.lists c.self.inside.buckets.places c.bucket_of-bucket.result c.in-Some.place c.self.invariant.bucket_arena below there in
    let in_list = c.self.invariant.cached c.bucket_of-bucket.result c.in-Some.place there in
    let read : c.index.result.now ≡ get_or cells c.in-Some.place 0 = read_at _ _ _ c.index.ensures (used_within c.self.invariant c.in-Some.place in_list) in (
      chain_behind c.in-Some.place bucket c.next-at.result behind,
      λ (q : ℕ) (h : has q bucket ≡ true) (e : get_or cells q 0 ≡ c.args.cell).
          ap (λ (o : Option ℕ). has q (left_of o bucket)) behind
          ∙ chain_rest c.in-Some.place q bucket dist there
          (subst (λ (o : Option ℕ). has q (left_of o bucket) ≡ true) c.in-Some.is (c.chain.invariant.1 q h e))
          (λ (same : q ≡ c.in-Some.place). c.if-index-cell.false (read ∙ sym (ap (λ (k : ℕ). get_or cells k 0) same) ∙ e)),
    )

pub returns-clause-place : goal.returns-clause-place
returns-clause-place c =
    let cells : List ℕ = c.self.inside.cells.items in
    let bucket : List ℕ = row c.self.inside.buckets.lists c.bucket_of-bucket.result in
    let bucket_is : c.bucket_of-bucket.result ≡ bucket_of c.args.cell (length cells) =
    c.bucket_of-bucket.ensures.bucket ∙ ap (bucket_of c.args.cell) (c.len.ensures ∙ c.self.inside.cells.ok.0) in
    sym
    (not_found cells (used c.self.inside.order) c.args.cell
    (λ (q : ℕ) (t : has q (used c.self.inside.order) ≡ true) (e : get_or cells q 0 ≡ c.args.cell).
    let h : has q bucket ≡ true =
    subst (λ (k : ℕ). has q (row c.self.inside.buckets.lists k) ≡ true) (ap (λ (x : ℕ). bucket_of x (length cells)) e ∙ sym bucket_is) (c.self.invariant.filed q t) in
    false≢true (subst (λ (o : Option ℕ). has q (left_of o bucket) ≡ true) c.in_default.is (c.chain.invariant.1 q h e))))
    ∙ ap (λ (v : Cached). place_in v.entries c.args.cell) c.self.view_is

pub returns-clause-valid : goal.returns-clause-valid
returns-clause-valid c = IsCached-from c.self.invariant c.self.view_is
