use Rattle.std.proofs.Common.{◌≡◌, ◌++◌, drop, map}
use Rattle.racp_json.specs.Lines.{number_at}
use Rattle.racp_json.proofs.early.second_numbers.Given as goal

abbrev pub invariant-loop-row : goal.invariant-loop-row
invariant-loop-row l =
    l.numbers.items ++ map (λ row. number_at 1 row.items) (drop l.row-index l.rows) ≡ map (λ row. number_at 1 row.items) l.rows
