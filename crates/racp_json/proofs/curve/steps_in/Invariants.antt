use Rattle.std.proofs.Common.{◌≡◌, ◌++◌, drop, map}
use Rattle.racp_json.specs.Curves.{row_of, step_in}
use Rattle.racp_json.proofs.curve.steps_in.Given as goal

abbrev pub invariant-loop-row : goal.invariant-loop-row
invariant-loop-row l =
    map row_of l.steps.items ++ map (λ row. step_in row.items) (drop l.row-index l.rows) ≡ map (λ row. step_in row.items) l.rows
