use Rattle.std.proofs.Common.{◌≡◌, ◌∙◌, sym, ap, Option, List}
use Rattle.st_model.specs.declared.reply.Reply.{Reply}
use Rattle.st_model.specs.declared.state.PoolState.{PoolState}
use Rattle.st_model.specs.declared.state.TableState.{TableState}
use Rattle.st_model.specs.Look.{Text}
use Rattle.st_model.specs.OnTable.{table_answer}
use Rattle.st_model.specs.Parts.{pool_at}
use Rattle.st_plain.specs.Views.{CellView, pools_of}
use Rattle.st_plain.proofs.Made.{answered-is, made-is, few_cells, few_after, data_rows-AreSmall}
use Rattle.st_plain.proofs.create_pool.create.Goals as goal

-- the answer, as the part that the call began with gives it
given : (t u : TableState) (o : Option PoolState) (xs ys : List CellView) (name : Text) (paths : List Text) (asked answer : Option Reply)
    → asked ≡ table_answer t o name paths → t ≡ u → o ≡ pool_at name (pools_of xs) → xs ≡ ys → asked ≡ answer → table_answer u (pool_at name (pools_of ys)) name paths ≡ answer
given t u o xs ys name paths asked answer h et eo ex ea =
    ap (λ v. table_answer v (pool_at name (pools_of ys)) name paths) (sym et)
    ∙ (ap (λ zs. table_answer t (pool_at name (pools_of zs)) name paths) (sym ex)
    ∙ (ap (λ p. table_answer t p name paths) (sym eo) ∙ (sym h ∙ ea)))

pub make-requires-clause-small : goal.make-requires-clause-small
make-requires-clause-small c = data_rows-AreSmall _ _ c.requires.rack (c.in_ok-reply.ensures.few c.in-None.is)

pub returns-in-Some-clause-answered : goal.returns-in-Some-clause-answered
returns-in-Some-clause-answered c = λ s valid part.
    answered-is s c.args.name.now c.args.devices.now c.in-Some.reply c.args.cells.now.items c.args.table.now valid part
    (given _ _ _ _ _ _ _ _ _ c.in_ok-reply.ensures.answer c.state.ensures c.own_pool-own.ensures c.items.ensures c.in-Some.is)

pub returns-in-Some-clause-few : goal.returns-in-Some-clause-few
returns-in-Some-clause-few c = λ s valid part. few_cells s c.args.cells.now.items c.args.table.now.state valid part

pub returns-in_ok-made-in-None-clause-answered : goal.returns-in_ok-made-in-None-clause-answered
returns-in_ok-made-in-None-clause-answered c = λ s valid part.
    rw (c.in_ok-made-in-None.ensures.reply, c.in_ok-made-in-None.ensures.cells, c.in_ok-made-in-None.ensures.table)
    (made-is s c.args.name.now c.args.devices.now c.args.cells.now.items c.args.table.now.state valid part
    (given _ _ _ _ _ _ _ _ _ c.in_ok-reply.ensures.answer c.state.ensures c.own_pool-own.ensures c.items.ensures c.in-None.is))

pub returns-in_ok-made-in-None-clause-few : goal.returns-in_ok-made-in-None-clause-few
returns-in_ok-made-in-None-clause-few c = λ s valid part. few_after s c.args.name.now c.args.devices.now c.in_ok-made-in-None.made c.make.new.cells.items c.make.new.table valid (returns-in_ok-made-in-None-clause-answered c s valid part)
