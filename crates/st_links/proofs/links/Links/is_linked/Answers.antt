use Rattle.std.proofs.Common.{◌∙◌, ◌<◌, ℕ, length, sym, subst, arith}
use Rattle.std.proofs.lemmas.Bool.{cases_lt, lt-ltb, le-ltb}
use Rattle.std.proofs.Common.{inl, inr}
use Rattle.st_links.proofs.Neighbours.{linked_read, free_read}
use Rattle.st_links.proofs.Calls.{seen_tied, read_at}
use Rattle.st_links.proofs.links.Links.is_linked.Goals as goal

pub returns-then-place-self : goal.returns-then-place-self
returns-then-place-self c =
    let tied = seen_tied c.self.invariant c.self.view_is in
    let within : c.args.place < length c.self.inside.home.items = omega (arith, tied.linked.long_home, c.if-place-self.true) in
    let home = read_at _ _ _ c.index.ensures within in
    elim (cases_lt c.index.result.now c.self.inside.lists) [
      | inl below ↦
          lt-ltb _ _ below ∙ sym (linked_read tied c.args.place c.if-place-self.true (subst (λ (k : ℕ). k < c.self.inside.lists) home below))
      | inr past ↦
          le-ltb _ _ past
          ∙ sym (free_read tied c.args.place (λ (a : c.args.place < c.self.inside.places) (b : _ < c.self.inside.lists). absurd (omega (arith, home, b, past))))
    ]

pub returns-else-place-self : goal.returns-else-place-self
returns-else-place-self c =
    let tied = seen_tied c.self.invariant c.self.view_is in
    le-ltb _ _ c.if-place-self.false ∙ sym (free_read tied c.args.place (λ a b. absurd (omega (arith, c.if-place-self.false))))
