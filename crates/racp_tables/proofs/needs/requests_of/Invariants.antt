use Rattle.std.proofs.Common.{◌≡◌, ◌++◌, ℕ, Some, drop, map}
use Rattle.csv.specs.Records.{fields_of}
use Rattle.racp_tables.specs.Cells.{need_at}
use Rattle.racp_tables.proofs.needs.requests_of.Given as goal

abbrev pub invariant-loop-column : goal.invariant-loop-column
invariant-loop-column l =
    map (λ (units : ℕ). Some units) l.requests.items ++ map (need_at (fields_of l.record)) (drop l.column-index l.resources)
    ≡ map (need_at (fields_of l.record)) l.resources
