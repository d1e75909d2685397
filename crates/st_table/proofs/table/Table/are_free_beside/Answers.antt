use Rattle.std.specs.List.{list_all}
use Rattle.std.proofs.Common.{◌≡◌, ap, sym, ◌∙◌}
use Rattle.st_table.specs.Table.{TableView, without}
use Rattle.st_table.specs.inner.Sound.{is_free}
use Rattle.st_table.proofs.Asked.{all_free, free_all}
use Rattle.st_table.proofs.table.Table.are_free_beside.Goals as goal

told : (c : goal.After-are_free_beside) → c.are_free_beside.result ≡ list_all (is_free (without c.args.own.now c.args.self.now.pools) c.args.self.now.devices) c.args.devs.now
told c =
    c.are_free_beside.ensures ∙ (ap (list_all (is_free (without c.args.own.now c.self.inside.roster.pools) c.self.inside.roster.devices)) c.items.ensures
    ∙ ap (λ (v : TableView). list_all (is_free (without c.args.own.now v.pools) v.devices) c.args.devs.now) c.self.view_is)

pub returns : goal.returns
returns c = (
  λ h. all_free (without c.args.own.now c.args.self.now.pools) c.args.self.now.devices c.args.devs.now (sym (told c) ∙ h),
  λ f. told c ∙ free_all (without c.args.own.now c.args.self.now.pools) c.args.self.now.devices c.args.devs.now f,
)
