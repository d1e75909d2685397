use Rattle.std.proofs.Common.{◌≡◌, ◌+◌, ◌<◌, ◌∙◌, ℕ, sym, subst, replicate, [], Option, Some}
use Rattle.std.specs.Option.{SomeIff}
use Rattle.st_links.proofs.Ties.{tied_made, IsArena-from}
use Rattle.st_links.proofs.Calls.{Done, done}
use Rattle.st_links.proofs.links.Links.make.Goals as goal

value_if : (o : Option ℕ) (P : Type 0) (v x : ℕ) → SomeIff o P v → o ≡ Some x → x ≡ v
value_if o P v x h e = let k : SomeIff (Some x) P v = subst (λ (z : Option ℕ). SomeIff z P v) e h in k.1

made : (c : goal.In_ok-home) → Done c.in_ok-next.next.items c.in_ok-prev.prev.items c.in_ok-home.home.items c.args.places c.args.lists (record { lists = replicate c.args.lists []; places = c.args.places })
made c =
    let sum : c.in_ok-nodes.nodes ≡ c.args.places + c.args.lists =
    value_if c.checked_add.result _ _ _ c.checked_add.ensures c.in_ok-nodes.ensures.ok_part in
    done
    (tied_made c.in_ok-next.next.items c.in_ok-prev.prev.items c.in_ok-home.home.items c.args.places c.args.lists
    (sym (c.in_ok-next.ensures.long ∙ sum))
    (sym (c.in_ok-prev.ensures.long ∙ sum))
    (sym c.in_ok-home.ensures.long)
    (λ (k : ℕ) (h : k < c.args.places + c.args.lists). c.in_ok-next.ensures.self_at k (subst (λ (m : ℕ). k < m) (sym sum) h))
    (λ (k : ℕ) (h : k < c.args.places + c.args.lists). c.in_ok-prev.ensures.self_at k (subst (λ (m : ℕ). k < m) (sym sum) h))
    c.in_ok-home.ensures.free
    c.in_ok-home.ensures.sentinels)

pub invariant_of-result : goal.invariant_of-result
invariant_of-result c = (made c).closed

pub returns : goal.returns
returns c = record { lists = (made c).seen; valid = IsArena-from (made c).closed }
