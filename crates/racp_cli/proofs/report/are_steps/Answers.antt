use Rattle.std.proofs.Common.{Vec, Global, ℕ, ◌==◌, List, length, rules}
use Rattle.std.proofs.lemmas.List.{length-map}
use Rattle.std.proofs.lemmas.List.Folds.{list_all-map}
use Rattle.racp_cli.proofs.report.are_steps.Goals as goal

pub returns : goal.returns
returns c = rw (← c.in_ok-rows.ensures) rw (list_all-map (λ (row : List ℕ). length row == c.args.wanted) (λ (row : Vec ℕ Global). row.items) c.in_ok-rows.rows.items) rw (length-map c.in_ok-rows.rows.items (λ (row : Vec ℕ Global). row.items)) (rw (c.are_so_long.ensures, c.as_slice.ensures.value, c.is_empty.ensures) (search rules))
