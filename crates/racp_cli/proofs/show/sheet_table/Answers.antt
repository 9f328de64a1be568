use Rattle.std.proofs.lemmas.Result.{IfOk-weaker}
use Rattle.racp_cli.proofs.show.sheet_table.Goals as goal

pub returns : goal.returns
returns c = IfOk-weaker c.csv_text.result _ _ (λ text written. record { sheet = c.in_ok-sheet.sheet; right = c.in_ok-sheet.ensures; written = written }) c.csv_text.ensures
