use Rattle.st_json.proofs.Lists.{adds_list}
use Rattle.st_report.proofs.engine.put_row_list.Goals as goal

pub returns : goal.returns
returns c = adds_list c.in_ok-open_list.ensures c.in_ok-put_rows.ensures c.in_ok-close_list.ensures
