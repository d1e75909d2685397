use Rattle.std.proofs.Common.{sym, ◌∙◌, arith}
use Rattle.st_thinmap.specs.Order.{key, key_of}
use Rattle.st_thinmap.proofs.Rising.{found-at, missed-at}
use Rattle.st_thinmap.proofs.rows.find_row.Goals as goal
use Rattle.st_thinmap.proofs.rows.find_row.Goals.{else-at-rows-via-then-at-rows+else-key_of, else-at-rows-via-else-at-rows}

pub returns-then-key_of : goal.returns-then-key_of
returns-then-key_of c =
    sym (found-at key (key_of c.args.fs c.args.block) c.row_rank-at.result c.args.rows.now _ c.requires c.row_rank-at.ensures.rank c.if-at-rows.true
    (sym c.key_of.ensures ∙ c.if-key_of.true ∙ c.key_of-then-at-rows.ensures))

pub returns-else-at-rows : goal.returns-else-at-rows
returns-else-at-rows c = elim c.else-at-rows.branch [
  | else-at-rows-via-then-at-rows+else-key_of w ↦
      missed-at key (key_of c.args.fs c.args.block) c.row_rank-at.result c.args.rows.now _ c.requires c.row_rank-at.ensures.rank
      (λ h e. w.if-key_of.false (w.key_of.ensures ∙ e ∙ sym w.key_of-then-at-rows.ensures))
  | else-at-rows-via-else-at-rows w ↦
      missed-at key (key_of c.args.fs c.args.block) c.row_rank-at.result c.args.rows.now (record { fs = 0; block = 0; cell = 0; place = 0 }) c.requires c.row_rank-at.ensures.rank
      (λ h e. absurd (omega (arith, w.if-at-rows.false)))
]
