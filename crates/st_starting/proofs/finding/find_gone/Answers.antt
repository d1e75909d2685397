use Rattle.std.proofs.Common.{◌≡◌, ℕ, true, List, sym, ◌∙◌, subst}
use Rattle.st_recrows.specs.Rows.{Spells}
use Rattle.st_poolrec.specs.Record as pools
use Rattle.st_starting.specs.declared.finding.Finding.{Finding}
use Rattle.st_starting.specs.inner.Finding.{IsFinding}
use Rattle.st_starting.proofs.Taken.{gone_elsewhere, gone_mixed, gone_found, text_short}
use Rattle.st_starting.proofs.finding.find_gone.Goals as goal

pub returns-then-not-are_rows : goal.returns-then-not-are_rows
returns-then-not-are_rows g c = λ image are is.
    let spells : Spells pools.IsPoolRec pools.record_text c.args.row.rec c.in-Ok.rec = subst (λ (l : List ℕ). Spells pools.IsPoolRec pools.record_text l c.in-Ok.rec) c.items.ensures c.in-Ok.ensures in
    subst (λ (f : Finding). IsFinding c.args.serial (g.R.Rack.devs c.args.rack.now) c.args.devs.now image f) (sym c.only-then-not-are_rows.ensures)
    (gone_elsewhere c.args.serial (g.R.Rack.devs c.args.rack.now) c.args.devs.now image c.args.row is c.in-Ok.rec spells (λ on. (let yes : c.are_rows.result ≡ true = c.are_rows.ensures.1 on in absurd (cc))))

pub returns-then-not-are_of : goal.returns-then-not-are_of
returns-then-not-are_of g c = λ image are is.
    let spells : Spells pools.IsPoolRec pools.record_text c.args.row.rec c.in-Ok.rec = subst (λ (l : List ℕ). Spells pools.IsPoolRec pools.record_text l c.in-Ok.rec) c.items.ensures c.in-Ok.ensures in
    subst (λ (f : Finding). IsFinding c.args.serial (g.R.Rack.devs c.args.rack.now) c.args.devs.now image f) (sym c.only-then-not-are_of.ensures)
    (gone_mixed c.args.serial (g.R.Rack.devs c.args.rack.now) c.args.devs.now image c.args.row is c.in-Ok.rec spells c.args.looks.now are (λ all. (let yes : c.are_of.result ≡ true = c.are_of.ensures ∙ all in absurd (cc))))

pub newest_of-requires : goal.newest_of-requires
newest_of-requires g c = text_short c.in-Ok.rec c.args.row.rec (subst (λ (l : List ℕ). Spells pools.IsPoolRec pools.record_text l c.in-Ok.rec) c.items.ensures c.in-Ok.ensures)

pub returns : goal.returns
returns g c = λ image are is.
    let spells : Spells pools.IsPoolRec pools.record_text c.args.row.rec c.in-Ok.rec = subst (λ (l : List ℕ). Spells pools.IsPoolRec pools.record_text l c.in-Ok.rec) c.items.ensures c.in-Ok.ensures in
    gone_found c.args.serial (g.R.Rack.devs c.args.rack.now) c.args.devs.now image c.args.row is c.in-Ok.rec spells c.args.looks.now are c.requires.rises c.requires.there
    (c.are_rows.ensures.0 c.if-not-are_rows.false) (sym c.are_of.ensures ∙ c.if-not-are_of.false) c.in_ok-newest.newest c.in_ok-newest.ensures.0 c.in_ok-newest.ensures.1 c.in_ok-newest.ensures.2
